use Rattle.std.proofs.Common.{◌≡◌, ◌∙◌, ◌+◌, ℕ, take, ap, sym}
use Rattle.rtk_label.proofs.ChoiceLemmas.{clash}
use Rattle.rtk_label.proofs.unlabelled.Unlabelled.wrong_line.Goals as goal

pub returns-then-is_same : goal.returns-then-is_same
returns-then-is_same c = sym c.as_slice-lines.ensures.value ∙ c.is_same.ensures.0 c.if-is_same.true

pub returns-then-is_same-2 : goal.returns-then-is_same-2
returns-then-is_same-2 c =
    let same : take 81 c.as_slice-lines.result.now ≡ take 81 c.args.due.now =
    sym c.columns_at.ensures.value ∙ c.is_same-2.ensures.0 c.if-is_same-2.true ∙ c.columns_at-2.ensures.value in record {
      wrong = λ e. clash c.is_same.result c.if-is_same.false (c.is_same.ensures.1 (c.as_slice-lines.ensures.value ∙ e));
      first = λ unlike. absurd (unlike (rw c.as_slice-lines.ensures.value at same));
      second = λ alike. ap (λ (n : ℕ). 11 + n) c.number_lines.ensures.value;
    }

pub returns : goal.returns
returns c = record {
  wrong = λ e. clash c.is_same.result c.if-is_same.false (c.is_same.ensures.1 (c.as_slice-lines.ensures.value ∙ e));
  first = λ unlike. ap (λ (n : ℕ). 10 + n) c.number_lines-2.ensures.value;
  second = λ alike. absurd (clash c.is_same-2.result c.if-is_same-2.false
      (c.is_same-2.ensures.1 (c.columns_at.ensures.value ∙ ap (take 81) c.as_slice-lines.ensures.value ∙ alike ∙ sym c.columns_at-2.ensures.value)));
}
