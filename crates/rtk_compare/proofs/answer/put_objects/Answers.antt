use Rattle.std.proofs.Common.{◌≡◌, ◌+◌, ◌++◌, ◌||◌, ℕ, ltb, List, length, sym, ap, ◌∙◌, arith}
use Rattle.std.proofs.lemmas.Bool.{lt-ltb, or_right}
use Rattle.std.proofs.lemmas.List.{take_all}
use Rattle.rtk_compare.specs.declared.difference.Difference.{Difference}
use Rattle.rtk_compare.specs.Answer.{object_text, objects_text}
use Rattle.rtk_compare.proofs.TextLemmas.{objects-more}
use Rattle.rtk_compare.proofs.answer.put_objects.Goals as goal

pub loop-difference-preserved : goal.loop-difference-preserved
loop-difference-preserved c =
    let l = c.loop-difference in
    let k : ℕ = l.difference-index in
    record {
      are = sym (or_right c.args.are_others (ltb 0 (k + 1)) (lt-ltb 0 (k + 1) (omega arith)));
      text = objects-more c.args.are_others l.are c.args.differences.now k c.difference-item.result c.args.text.now.items l.text.items c.put_object.new.text.items c.loop-difference-test.true l.invariant.are l.invariant.text
          (c.in_ok-put_object.ensures ∙ ap (λ (d : Difference). l.text.items ++ object_text l.are d) c.difference-item.is);
    }

pub returns-clause-text : goal.returns-clause-text
returns-clause-text c =
    let l = c.loop-difference in
    l.invariant.text
    ∙ ap (λ (ds : List Difference). c.args.text.now.items ++ objects_text c.args.are_others ds) (take_all l.difference-index c.args.differences.now (omega (arith, c.loop-difference-test.false)))

pub returns-clause-others : goal.returns-clause-others
returns-clause-others c =
    let l = c.loop-difference in
    let end : l.difference-index ≡ length c.args.differences.now = omega arith in
    l.invariant.are ∙ ap (λ (n : ℕ). c.args.are_others || ltb 0 n) end
