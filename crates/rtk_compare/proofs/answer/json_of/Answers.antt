use Rattle.std.proofs.Common.{refl}
use Rattle.rtk_compare.specs.Answer.{json_of}
use Rattle.rtk_compare.proofs.answer.json_of.Goals as goal

pub returns : goal.returns
unfolding json_of
returns c =
    rw (
      c.in_ok-extend_from_slice-2.ensures.items,
      c.in_ok-put_objects.ensures.text,
      c.in_ok-are_worse.ensures.text,
      c.in_ok-are_worse.ensures.others,
      c.in_ok-are_lost.ensures.text,
      c.in_ok-are_lost.ensures.others,
      c.in_ok-extend_from_slice.ensures.items,
      c.in_ok-put_counts.ensures,
      c.new-text.ensures.items,
      c.as_slice.ensures.value,
      c.as_slice-2.ensures.value,
      c.as_slice-3.ensures.value,
    )
    refl
