use Rattle.std.proofs.Common.{append_assoc}
use Rattle.rtk_survey.specs.SummaryText.{other_msm_lines}
use Rattle.rtk_survey.proofs.proposal_lines.put_other_msms.Goals as goal

pub returns : goal.returns
unfolding other_msm_lines
returns c =
    rw (
      c.in_ok-put_other_msm-4.ensures,
      c.in_ok-put_other_msm-3.ensures,
      c.in_ok-put_other_msm-2.ensures,
      c.in_ok-put_other_msm.ensures,
    ) (simp append_assoc)
