use Rattle.std.proofs.Common.{◌≡◌, ◌-◌, ◌++◌, ℕ, append_assoc, ap, ◌∙◌, arith}
use Rattle.std.specs.Prelude.{flat_map}
use Rattle.rtk_compare.specs.declared.form.Form.TheVariants.{Lines}
use Rattle.rtk_compare.specs.Answer.{difference_text, more_line}
use Rattle.rtk_compare.proofs.answer.put_class_lines.Goals as goal

pub returns : goal.returns
returns c =
    let text = c.args.text.now.items in
    let first = flat_map (difference_text Lines) c.args.found.now.first.items in
    let left : c.saturating_sub.result ≡ c.args.found.now.count - 100 = omega (arith, c.saturating_sub.ensures) in
    rw (c.in_ok-put_more.ensures, c.in_ok-put_lines.ensures, c.as_slice.ensures.value)
    (append_assoc text first (more_line c.args.class c.saturating_sub.result) ∙ ap (λ (n : ℕ). text ++ (first ++ more_line c.args.class n)) left)
