use Rattle.std.proofs.Common.{◌≡◌, ◌++◌, ◌||◌, ltb, take}
use Rattle.rtk_compare.specs.Answer.{objects_text}
use Rattle.rtk_compare.proofs.answer.put_objects.Given as goal

abbrev pub invariant-loop-difference : goal.invariant-loop-difference
invariant-loop-difference l = record {
  are : l.are ≡ (l.are_others || ltb 0 l.difference-index);
  text : l.text.items ≡ l.fn.text.items ++ objects_text l.are_others (take l.difference-index l.differences);
}
