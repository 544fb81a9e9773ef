use Rattle.rtk_frame.proofs.FinalLaw.{is_pending, pending_unique}
use Rattle.rtk_frame.proofs.laws.pending_of_a_text.Goals as goal

pub returns : goal.returns
returns c = record { is = is_pending; only = pending_unique }
