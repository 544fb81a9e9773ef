use Rattle.std.proofs.Common.{◌+◌, drop, List, Option, Some, sym, ap, ◌∙◌}
use Rattle.std.proofs.lemmas.List.{at_drop_more}
use Rattle.rtk_quality.specs.Falls.{with_mean, greater_fall, means_of}
use Rattle.rtk_quality.specs.declared.falls.HourMean.{HourMean}
use Rattle.rtk_quality.specs.declared.falls.Fall.{Fall}
use Rattle.rtk_quality.specs.declared.hours.HourCounts.{HourCounts}
use Rattle.rtk_quality.proofs.FallLemmas.{largest_from, mean-more}
use Rattle.rtk_quality.proofs.falls.largest_fall.Goals as goal

pub loop-hour-preserved : goal.loop-hour-preserved
loop-hour-preserved c =
    let before : Option HourMean = c.loop-hour.before in
    let largest : Option Fall = c.loop-hour.largest in
    let rest : List HourMean = means_of c.args.band (drop (c.loop-hour.hour-index + 1) c.args.hours.now) in
    let mean : HourMean = c.in-Some.mean in
    c.loop-hour.invariant
    ∙ at_drop_more (λ (hs : List HourCounts). largest_from before largest (means_of c.args.band hs)) c.args.hours.now c.loop-hour.hour-index _ c.loop-hour-test.true
    ∙ ap (λ (m : Option HourMean). largest_from before largest (with_mean m rest)) (sym c.mean_in.ensures ∙ c.in-Some.is)
    ∙ mean-more before largest mean rest
    ∙ ap (λ (f : Option Fall). largest_from (Some mean) (greater_fall largest f) rest) (sym c.fall_to.ensures)
    ∙ ap (λ (f : Option Fall). largest_from (Some mean) f rest) (sym c.greater_fall-largest.ensures)
