use Rattle.std.proofs.Common.{◌≡◌, refl, ◌∙◌, arith}
use Rattle.rtk_chart.proofs.GridLemmas.{out-none, out-all}
use Rattle.rtk_chart.proofs.outages.note_outages.Goals as goal

pub loop-place-init : goal.loop-place-init
loop-place-init c = record {
  size = refl;
  noted = λ es stands last were. out-none c.args.scale.now c.args.epoch.now es c.args.outages.now.items c.requires.size were;
}

pub returns-clause-noted : goal.returns-clause-noted
returns-clause-noted c = λ es stands last were.
    let end : c.loop-place.place ≡ 32 = omega (arith, c.loop-place.auto.place-end, c.loop-place-test.false) in
    out-all c.args.scale.now c.args.epoch.now es c.loop-place.place c.loop-place.outages.items end (c.loop-place.invariant.size ∙ c.requires.size)
    (c.loop-place.invariant.noted es stands last were)
