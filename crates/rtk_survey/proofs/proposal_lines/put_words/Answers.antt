use Rattle.std.proofs.Common.{append_assoc}
use Rattle.rtk_survey.proofs.proposal_lines.put_words.Goals as goal

pub returns : goal.returns
returns c =
    rw (
      c.in_ok-push-2.ensures.items,
      c.in_ok-put_sh_quoted.ensures,
      c.in_ok-push.ensures.items,
      c.in_ok-extend_from_slice-5.ensures.items,
      c.in_ok-extend_from_slice-4.ensures.items,
      c.in_ok-extend_from_slice-3.ensures.items,
      c.in_ok-extend_from_slice-2.ensures.items,
      c.marker_of.ensures,
      c.in_ok-extend_from_slice.ensures.items,
    ) (simp append_assoc)
