use Rattle.std.proofs.Common.{◌≡◌, ℕ, suc, ◌+◌, ◌-◌, ◌/◌, ◌%◌, ◌<◌, ◌++◌, drop, set, refl, ap, sym, ◌∙◌, arith, append_assoc, length}
use Rattle.std.proofs.lemmas.List.{drop-set, length-set}
use Rattle.rtk_obs.specs.CivilText.{last_digits}
use Rattle.rtk_rinex.proofs.PairsLemmas.{last_digits-two}
use Rattle.rtk_rinex.proofs.columns.put_last_digits.Goals as goal

pub loop-at-preserved : goal.loop-at-preserved
loop-at-preserved c =
    let l = c.loop-at in
    let two = l.rest % 100 in
    let most : suc (suc (l.at - 2)) ≡ l.at = omega arith in
    let digits : last_digits (suc (suc (l.at - 2))) l.rest ≡ last_digits l.at l.rest = ap (λ (n : ℕ). last_digits n l.rest) most in
    let back : l.at - 2 + 1 + 1 ≡ l.at = omega arith in
    let second : l.at - 2 + 1 < length l.field = omega arith in
    let with_ones = set l.field (l.at - 2 + 1) (48 + two % 10) in
    let first : l.at - 2 < length with_ones = simp length-set (omega arith) in
    let same : length c.put_pair.new.field ≡ length l.field = rw c.put_pair.ensures (simp length-set refl) in
    let written : last_digits (l.at - 2) (l.rest / 100) ++ drop (l.at - 2) c.put_pair.new.field ≡ last_digits (length l.field) c.args.number =
    rw (c.put_pair.ensures, drop-set with_ones (l.at - 2) _ first, drop-set l.field (l.at - 2 + 1) _ second, back)
    (rw (← digits, last_digits-two (l.at - 2) l.rest, append_assoc) at l.invariant.written) in record {
      within = omega (arith, same);
      written = written ∙ ap (λ (n : ℕ). last_digits n c.args.number) (sym same);
    }
