use Rattle.std.proofs.Common.{rules, ◌<◌, arith}
use Rattle.rtk_bits.specs.Bits.{FitsSigned}
use Rattle.rtk_message.proofs.obs1012.GlonassSatellite.fits.Goals as goal

pub returns : goal.returns
returns c =
    let s = c.args.self in
    let a : FitsSigned 20 s.l1_phase_difference = c.fits.ensures.0 (search rules) in
    let b : FitsSigned 14 s.l2_range_difference = c.fits-2.ensures.0 (search rules) in
    let l1_cnr : s.l1_cnr < 256 = search rules in
    let l2_cnr : s.l2_cnr < 256 = search rules in (
      λ h. (omega arith, (tt, (omega arith, (omega arith, (a, (omega arith, (omega arith, (l1_cnr, (omega arith, (b, (c.fits-3.ensures.0 h, (omega arith, (l2_cnr, tt))))))))))))),
      λ p. c.fits-3.ensures.1 p.1.1.1.1.1.1.1.1.1.1.0,
    )
