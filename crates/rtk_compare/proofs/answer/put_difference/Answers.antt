use Rattle.std.proofs.Common.{append_assoc}
use Rattle.rtk_compare.specs.Answer.{difference_text}
use Rattle.rtk_compare.proofs.answer.put_difference.Goals as goal

pub returns : goal.returns
unfolding difference_text
returns c = rw (c.in_ok-put_either.ensures, c.in_ok-put_place.ensures, c.in_ok-put_word.ensures, c.word.ensures, c.in_ok-put_class.ensures) (simp append_assoc)
