use Rattle.std.proofs.Common.{◌≤◌, length, arith, ap}
use Rattle.rtk_rinex.specs.MixedHeader.{codes_of}
use Rattle.rtk_rinex.proofs.MixedListLemmas.{few_codes}
use Rattle.rtk_rinex.proofs.mixed_form.count_of.Goals as goal

pub returns-clause-few : goal.returns-clause-few
returns-clause-few c =
    let few : length (codes_of c.args.system c.codes.result.now) ≤ 16 =
    few_codes c.args.system 16 c.codes.result.now c.any_code_laws.ensures.places (λ d e. c.any_code_laws.ensures.bound d) c.codes.ensures.good.order in
    omega (arith, few, ap length c.codes_of.ensures.value, c.len.ensures.value)
