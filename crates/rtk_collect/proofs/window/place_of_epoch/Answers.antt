use Rattle.std.proofs.Common.{◌+◌, ◌-◌, ◌/◌, ap, arith, sym, ◌∙◌}
use Rattle.rtk_collect.specs.EpochSet.{EpochSetView}
use Rattle.rtk_collect.proofs.JoinsLemmas.{leading-length, leading-past, leading-stop, gt-past, gt-stop}
use Rattle.rtk_collect.proofs.window.place_of_epoch.Goals as goal

pub loop-low-init : goal.loop-low-init
loop-low-init g c =
    let h = leading-length c.args.epoch c.args.sets.now.items in
    let q = c.len-high.ensures ∙ c.args.sets.now.ok.0 in
    record { low = omega arith; high = omega (arith, h, q); within = omega (arith, q) }

pub loop-low-preserved-then-gt : goal.loop-low-preserved-then-gt
loop-low-preserved-then-gt g c =
    let i = c.loop-low.invariant in
    let t = c.loop-low-test.true in
    let here = ap (λ (x : EpochSetView _). x.epoch) c.index-in-loop-low.ensures in
    let more = gt-past c.epoch-in-loop-low.result c.args.epoch (sym c.gt.ensures ∙ c.if-gt.true) in
    let e = c.epoch-in-loop-low.ensures in
    let p = leading-past c.args.epoch (c.loop-low.low + (c.loop-low.high - c.loop-low.low) / 2) c.index-in-loop-low.result.now c.args.sets.now.items c.requires (omega (arith, i.within, t)) (omega (arith, here, more, e)) in
    record { low = omega (arith, p); high = i.high; within = i.within }

pub loop-low-preserved : goal.loop-low-preserved
loop-low-preserved g c =
    let i = c.loop-low.invariant in
    let t = c.loop-low-test.true in
    let here = ap (λ (x : EpochSetView _). x.epoch) c.index-in-loop-low.ensures in
    let less = gt-stop c.epoch-in-loop-low.result c.args.epoch (sym c.gt.ensures ∙ c.if-gt.false) in
    let e = c.epoch-in-loop-low.ensures in
    let p = leading-stop c.args.epoch (c.loop-low.low + (c.loop-low.high - c.loop-low.low) / 2) c.index-in-loop-low.result.now c.args.sets.now.items (omega (arith, i.within, t)) (omega (arith, here, less, e)) in
    record { low = i.low; high = p; within = omega (arith, i.within, t) }
