use Rattle.std.proofs.Common.{◌≡◌, ◌≤◌, List, length, ap, ◌∙◌, arith}
use Rattle.std.proofs.lemmas.List.{take_all}
use Rattle.rtk_obs.specs.declared.any_code.AnyCode.{AnyCode}
use Rattle.rtk_obs.specs.SatelliteIndex.{letter_of}
use Rattle.rtk_rinex.specs.MixedHeader.{codes_of}
use Rattle.rtk_tracking.specs.SystemCodes.{codes_of_system}
use Rattle.rtk_tracking.proofs.SystemCodeLemmas.{few-codes}
use Rattle.rtk_tracking.proofs.system_codes.codes_of_system.Goals as goal

pub returns-clause-few : goal.returns-clause-few
returns-clause-few c =
    let end : length c.args.listed.now ≤ c.loop-code.code-index = omega (arith, c.loop-code-test.false) in
    let all : c.loop-code.codes.items ≡ codes_of_system c.args.system c.args.listed.now =
    c.loop-code.invariant ∙ ap (λ (cs : List AnyCode). codes_of_system c.args.system cs) (take_all c.loop-code.code-index c.args.listed.now end) in
    let few : length (codes_of (letter_of c.args.system) c.args.listed.now) ≤ 16 =
    few-codes (letter_of c.args.system) 16 c.args.listed.now c.any_code_laws.ensures.places c.any_code_laws.ensures.bound c.requires.order in
    omega (arith, few, ap length all)
