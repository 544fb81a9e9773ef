use Rattle.std.proofs.Common.{◌≤◌, Bool, cond, Some, None, sym, ap, ◌∙◌, arith}
use Rattle.std.proofs.lemmas.Bool.{le-ltb}
use Rattle.rtk_obs.specs.declared.time.Civil.{Civil}
use Rattle.rtk_obs.specs.Reading.{reading_of}
use Rattle.rtk_obs.proofs.PublicLaws.{reading_is}
use Rattle.rtk_quality.specs.declared.moments.Moment.{Moment}
use Rattle.rtk_quality.specs.declared.moments.Together.{Together}
use Rattle.rtk_quality.proofs.moments.moment_if_several.Goals as goal

pub returns : goal.returns
returns c =
    let together : Together = c.args.together in
    let several : 2 ≤ together.slipping = omega (arith, c.if-together-lt2.false) in
    let moment : Moment = record { time = reading_of c.args.time; together = together } in
    ap (λ (t : Civil). Some (record { time = t; together = together })) (reading_is _ _ c.civil.ensures.reading)
    ∙ sym (ap (λ (b : Bool). cond b None (Some moment)) (le-ltb together.slipping 2 several))
