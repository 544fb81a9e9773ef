use Rattle.std.proofs.Common.{◌≤◌, length, ap, ◌∙◌, arith, ◌++◌}
use Rattle.std.specs.Prelude.{flat_map}
use Rattle.std.proofs.lemmas.List.{take_all}
use Rattle.rtk_quality.specs.Entries.{hour_entry}
use Rattle.rtk_quality.proofs.ListLemmas.{line-more}
use Rattle.rtk_quality.proofs.station.put_each_hour.Goals as goal

pub loop-hour-preserved : goal.loop-hour-preserved
loop-hour-preserved c =
    line-more (hour_entry c.args.form c.args.codes.now) c.args.hours.now c.loop-hour.hour-index _ c.args.text.now.items c.loop-hour.text.items c.put_hour_entry.new.text.items
    c.loop-hour-test.true c.loop-hour.invariant c.in_ok-put_hour_entry.ensures

pub returns : goal.returns
returns c =
    let end : length c.args.hours.now ≤ c.loop-hour.hour-index = omega (arith, c.loop-hour-test.false) in
    c.loop-hour.invariant ∙ ap (λ xs. c.args.text.now.items ++ flat_map (hour_entry c.args.form c.args.codes.now) xs) (take_all c.loop-hour.hour-index c.args.hours.now end)
