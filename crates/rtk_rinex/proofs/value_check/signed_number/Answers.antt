use Rattle.std.proofs.Common.{◌≢◌, ◌∙◌, get_or, arith}
use Rattle.rtk_rinex.proofs.FieldLemmas.{after-blanks, minus_digits, plain_digits, no_first, rest_is}
use Rattle.rtk_rinex.proofs.value_check.signed_number.Goals as goal
use Rattle.rtk_rinex.proofs.value_check.signed_number.Goals.{else-text-gt0-via-then-text-gt0+else-text-eq45, else-text-gt0-via-else-text-gt0}

pub returns-in_err-number_of_decimal-clause-value : goal.returns-in_err-number_of_decimal-clause-value
returns-in_err-number_of_decimal-clause-value c =
    rw c.from_residual.ensures (λ negative n h e.
    let blanks = c.after_blanks-text.ensures.blanks in
    let text = c.after_blanks-text.result.now in
    let is = after-blanks c.args.columns.now text blanks.0 negative n (omega (arith, h)) blanks.1 blanks.2 e in
    c.in_err-number_of_decimal.ensures.value n h (rest_is text ∙ minus_digits text negative n (omega (arith, h)) c.if-text-eq45.true is))

pub returns-in_err-number_of_decimal-2-clause-value : goal.returns-in_err-number_of_decimal-2-clause-value
returns-in_err-number_of_decimal-2-clause-value c =
    rw c.from_residual-in_err-number_of_decimal-2.ensures (λ negative n h e.
    let blanks = c.after_blanks-text.ensures.blanks in
    let text = c.after_blanks-text.result.now in
    let is = after-blanks c.args.columns.now text blanks.0 negative n (omega (arith, h)) blanks.1 blanks.2 e in
    let first : get_or text 0 0 ≢ 45 = elim c.else-text-gt0.branch [
      | else-text-gt0-via-then-text-gt0+else-text-eq45 w ↦ w.if-text-eq45.false
      | else-text-gt0-via-else-text-gt0 w ↦ no_first text (omega arith)
    ] in
    c.in_err-number_of_decimal-2.ensures.value n h (plain_digits text negative n (omega (arith, h)) first is))
