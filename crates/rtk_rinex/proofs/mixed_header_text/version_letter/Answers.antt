use Rattle.std.proofs.Common.{◌≡◌, ◌∙◌, List, ap, sym, arith, take, get_or, ℕ}
use Rattle.std.proofs.lemmas.List.{take_all}
use Rattle.rtk_obs.specs.declared.any_code.AnyCode.TheVariants.{G1C}
use Rattle.rtk_rinex.specs.MixedHead.{letter}
use Rattle.rtk_rinex.proofs.MixedListLemmas.{letter_of_all}
use Rattle.rtk_rinex.proofs.mixed_header_text.version_letter.Goals as goal

pub returns : goal.returns
returns c =
    let first : get_or c.text.result 0 0 ≡ letter (get_or c.args.listed.now 0 G1C) = ap (λ (l : List ℕ). get_or l 0 0) c.text.ensures in
    let whole : take c.loop-code.code-index c.args.listed.now ≡ c.args.listed.now = take_all c.loop-code.code-index c.args.listed.now (omega arith) in
    let all = rw (whole, first) at c.loop-code.invariant in
    first ∙ sym (letter_of_all c.args.listed.now G1C (omega arith) all)
