use Rattle.std.proofs.Common.{append_assoc}
use Rattle.rtk_survey.proofs.lines.put_look.Goals as goal

pub returns : goal.returns
returns c = rw (
  c.in_ok-push.ensures.items,
  c.in_ok-extend_from_slice-2.ensures.items,
  c.name.ensures,
  c.in_ok-extend_from_slice.ensures.items,
  c.in-Some.is,
) (simp append_assoc)
