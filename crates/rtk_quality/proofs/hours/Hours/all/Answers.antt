use Rattle.std.proofs.Common.{◌++◌, List, ap, ◌∙◌}
use Rattle.rtk_quality.specs.declared.hours.HourCounts.{HourCounts}
use Rattle.rtk_quality.proofs.HourLemmas.{hours-are-all}
use Rattle.rtk_quality.proofs.hours.Hours.all.Goals as goal

pub returns : goal.returns
returns c = λ hs are.
    hours-are-all c.args.self.now hs c.new-hours.result.items c.extend_from_slice.new.self.items c.push_newest.new.hours.items are c.new-hours.ensures.items
    (c.in_ok-extend_from_slice.ensures.items ∙ ap (λ (xs : List HourCounts). c.new-hours.result.items ++ xs) c.as_slice.ensures.value) c.in_ok-push_newest.ensures
