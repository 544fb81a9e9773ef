use Rattle.std.proofs.Common.{◌≡◌, ◌≤◌, length, ap, ◌∙◌, arith, ◌++◌}
use Rattle.std.specs.Prelude.{flat_map}
use Rattle.std.proofs.lemmas.List.{take_all}
use Rattle.rtk_quality.proofs.ListLemmas.{line-more}
use Rattle.rtk_quality.proofs.station.put_each.Goals as goal

pub loop-thing-preserved : goal.loop-thing-preserved
loop-thing-preserved g c =
    let mid = c.loop-thing.text.items in
    let entry = g.T.Listed.entry c.args.form in
    let more : c.put_entry.new.text.items ≡ mid ++ entry c.thing-item.result = c.in_ok-put_entry.ensures in
    line-more entry c.args.things.now c.loop-thing.thing-index c.thing-item.result c.args.text.now.items mid c.put_entry.new.text.items
    c.loop-thing-test.true c.loop-thing.invariant (more ∙ ap (λ x. mid ++ entry x) c.thing-item.is)

pub returns : goal.returns
returns g c =
    let end : length c.args.things.now ≤ c.loop-thing.thing-index = omega (arith, c.loop-thing-test.false) in
    c.loop-thing.invariant ∙ ap (λ xs. c.args.text.now.items ++ flat_map (g.T.Listed.entry c.args.form) xs) (take_all c.loop-thing.thing-index c.args.things.now end)
