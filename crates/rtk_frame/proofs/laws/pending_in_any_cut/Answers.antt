use Rattle.rtk_frame.proofs.Pieces.{pending_cut}
use Rattle.rtk_frame.proofs.laws.pending_in_any_cut.Goals as goal

pub returns : goal.returns
returns c = pending_cut
