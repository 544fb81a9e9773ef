use Rattle.std.proofs.Common.{◌≡◌, ◌∙◌, ◌+◌, ◌-◌, ◌*◌, ◌<◌, ◌^◌, ◌∷◌, ◌++◌, [], ℕ, List, length, length-drop, take, drop, get_or, ap, sym, arith}
use Rattle.std.proofs.lemmas.Fmt.{decimal_digit}
use Rattle.std.proofs.lemmas.Grind.{take_at_read}
use Rattle.std.proofs.lemmas.List.{get_or-drop}
use Rattle.rtk_rinex.proofs.DigitsLemmas.{pow-le, pow-more}
use Rattle.rtk_rinex.proofs.FieldLemmas.{not_empty, no_digit, no_leading_zero, rest_is, none_of, cons_of, decimal-more}
use Rattle.rtk_rinex.proofs.value_check.number_of_decimal.Goals as goal

pub returns-in_default-clause-value : goal.returns-in_default-clause-value
returns-in_default-clause-value c = λ n h e. let some = not_empty n c.args.text.now (omega (arith, h)) e in omega (arith, some, c.in_default.len_below)

pub returns-in_err-number-clause-value : goal.returns-in_err-number-clause-value
returns-in_err-number-clause-value c =
    rw c.from_residual.ensures (λ n h e.
    let some = not_empty n c.args.text.now (omega (arith, h)) e in
    no_digit n c.args.text.now 0 (omega (arith, h)) e (omega (arith, some)) c.in_err-number.ensures)

one_digit : (c : goal.Then-others-eq0) → c.args.text.now ≡ get_or c.args.text.now 0 0 ∷ []
one_digit c =
    let text = c.args.text.now in
    let none : drop 1 text ≡ [] = none_of (drop 1 text) (omega (arith, length-drop 1 text)) in
    sym (cons_of text (omega arith)) ∙ ap (λ (xs : List ℕ). get_or text 0 0 ∷ xs) none

pub returns-then-others-eq0-clause-value : goal.returns-then-others-eq0-clause-value
returns-then-others-eq0-clause-value c =
    one_digit c ∙ ap (λ (x : ℕ). x ∷ []) c.in_ok-number.ensures.1 ∙ sym (decimal_digit c.in_ok-number.number c.in_ok-number.ensures.0)

pub returns-then-number-eq0-clause-value : goal.returns-then-number-eq0-clause-value
returns-then-number-eq0-clause-value c = λ n h e.
    no_leading_zero n c.args.text.now (omega (arith, h)) e (omega (arith, length-drop 1 c.args.text.now)) (omega (arith, c.in_ok-number.ensures.1))

pub loop-byte-init : goal.loop-byte-init
loop-byte-init c = record {
  digits = ap (λ (x : ℕ). x ∷ []) c.in_ok-number.ensures.1 ∙ sym (decimal_digit c.in_ok-number.number c.in_ok-number.ensures.0);
  some = omega arith;
  small = omega (arith, c.in_ok-number.ensures.0);
}

pub returns-in_err-number-2-clause-value : goal.returns-in_err-number-2-clause-value
returns-in_err-number-2-clause-value c =
    rw c.from_residual-in_err-number-2.ensures (λ n h e.
    let text = c.args.text.now in
    let k = c.loop-byte.byte-index in
    let place : get_or (take (length text - 1) (drop 1 text)) k 0 ≡ get_or text (1 + k) 0 = ap (λ (xs : List ℕ). get_or xs k 0) (rest_is text) ∙ get_or-drop 1 text k 0 in
    no_digit n text (1 + k) (omega (arith, h)) e (omega (arith, length-drop 1 text)) (λ d small is. c.in_err-number-2.ensures d small (place ∙ is)))

pub loop-byte-preserved : goal.loop-byte-preserved
loop-byte-preserved c =
    let l = c.loop-byte in
    let text = c.args.text.now in
    let others : List ℕ = take (length text - 1) (drop 1 text) in
    let d = c.in_ok-number-2.field-0 in
    let next = (take_at_read others l.byte-index 0 c.loop-byte-test.true).1 in
    let small = pow-le (l.byte-index + 1) 10 (omega (arith, length-drop 1 text)) in
    let fits : l.number * 10 + d < 2 ^ 64 = omega (arith, small, l.invariant.small, c.in_ok-number-2.ensures.0) in record {
      digits = ap (λ (xs : List ℕ). get_or text 0 0 ∷ xs) (next ∙ ap (λ (x : ℕ). take l.byte-index others ++ x ∷ []) c.in_ok-number-2.ensures.1)
          ∙ decimal-more l.number d (get_or text 0 0 ∷ take l.byte-index others) l.invariant.some fits c.in_ok-number-2.ensures.0 l.invariant.digits;
      some = omega (arith, l.invariant.some);
      small = rw (pow-more (l.byte-index + 1)) (omega (arith, l.invariant.small, c.in_ok-number-2.ensures.0));
    }
