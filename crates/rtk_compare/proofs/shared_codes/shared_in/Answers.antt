use Rattle.std.proofs.Common.{◌≤◌, length, arith, ap, ◌∙◌}
use Rattle.std.specs.Prelude.{Bool, ◌&&◌, List}
use Rattle.rtk_obs.specs.declared.any_code.AnyCode.{AnyCode}
use Rattle.rtk_rinex.specs.MixedHeader.{codes_of}
use Rattle.rtk_compare.specs.Codes.{shared_of}
use Rattle.rtk_compare.proofs.CodeLemmas.{few_of}
use Rattle.rtk_compare.proofs.shared_codes.shared_in.Goals as goal

pub shared_of-requires : goal.shared_of-requires
shared_of-requires c =
    let few : length (codes_of c.args.letter c.codes.result.now) ≤ 16 =
    few_of c.args.letter 16 c.codes.result.now c.any_code_laws.ensures.places c.any_code_laws.ensures.bound c.codes.ensures.good in
    omega (arith, few, ap length c.codes_of-olds.ensures.value, ap length c.as_slice.ensures.value)

pub returns-clause-items : goal.returns-clause-items
returns-clause-items c =
    let shifts : Bool = c.args.old.now.doppler && c.args.new.now.doppler in
    c.shared_of.ensures.items ∙ ap (λ (b : Bool). shared_of b c.as_slice.result.now c.as_slice-2.result.now) c.both_show_shifts-shifts.ensures
    ∙ ap (λ (xs : List AnyCode). shared_of shifts xs c.as_slice-2.result.now) (c.as_slice.ensures.value ∙ c.codes_of-olds.ensures.value ∙ ap (codes_of c.args.letter) c.codes.ensures.value)
    ∙ ap (λ (xs : List AnyCode). shared_of shifts (codes_of c.args.letter c.args.old.now.listed) xs) (c.as_slice-2.ensures.value ∙ c.codes_of-news.ensures.value ∙ ap (codes_of c.args.letter) c.codes-2.ensures.value)
