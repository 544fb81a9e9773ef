use Rattle.std.proofs.Common.{◌≡◌, ◌++◌, take}
use Rattle.std.specs.Prelude.{flat_map}
use Rattle.rtk_compare.specs.declared.form.Form.TheVariants.{Lines}
use Rattle.rtk_compare.specs.Answer.{difference_text}
use Rattle.rtk_compare.proofs.answer.put_lines.Given as goal

abbrev pub invariant-loop-difference : goal.invariant-loop-difference
invariant-loop-difference l = l.text.items ≡ l.fn.text.items ++ flat_map (difference_text Lines) (take l.difference-index l.differences)
