use Rattle.std.proofs.Common.{◌≡◌, ◌<◌, Bool, cond, get_or, ap, ◌∙◌, arith}
use Rattle.std.proofs.lemmas.Bool.{lt-ltb}
use Rattle.std.proofs.lemmas.List.FromFn.{fill_by_all}
use Rattle.rtk_chart.specs.Grid.{no_tracking}
use Rattle.rtk_chart.specs.Steps.Shown.{both_satellites}
use Rattle.rtk_chart.proofs.time_bin.add_satellites.Goals as goal

pub returns : goal.returns
returns c =
    let end : c.loop-place.place ≡ 32 = omega (arith, c.loop-place.auto.place-end, c.loop-place-test.false) in
    fill_by_all (both_satellites c.args.more.now c.args.satellites.now) c.loop-place.satellites 32 no_tracking c.loop-place.invariant.size (λ k lt.
    let below : k < c.loop-place.place = omega (arith, lt, end) in
    c.loop-place.invariant.added k lt
    ∙ ap (λ (b : Bool). cond b (both_satellites c.args.more.now c.args.satellites.now k) (get_or c.args.satellites.now k no_tracking)) (lt-ltb k c.loop-place.place below))
