use Rattle.std.proofs.Common.{◌≢◌, [], ◌++◌, ◌∙◌, List, ℕ, length, ap, sym, arith, append_assoc}
use Rattle.rtk_rinex.proofs.KeptLemmas.{line-kept}
use Rattle.rtk_rinex.proofs.owned_table.kept_text.Goals as goal

pub loop-rest-preserved : goal.loop-rest-preserved
loop-rest-preserved c =
    let l = c.loop-rest in
    let first = c.first_line in
    let kept = c.in_ok-keep_line.ensures.ok in
    let some : l.rest.now ≢ [] = λ e. omega (arith, ap length e) in
    record {
      parts = l.invariant.parts ∙ ap (λ (r : List ℕ). l.text.items ++ r) first.ensures.text
          ∙ sym (append_assoc l.text.items first.result.0.now first.result.1.now) ∙ ap (λ (t : List ℕ). t ++ first.result.1.now) (sym kept);
      lines = rw kept (line-kept l.number l.text.items l.rest.now first.result.0.now first.result.1.now some l.invariant.lines first.ensures.line);
      few = omega (arith, l.invariant.few, first.ensures.less);
    }
