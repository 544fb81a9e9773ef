use Rattle.rtk_frame.proofs.StreamLemmas.{with_more-nil, with_more-with_more}
use Rattle.rtk_frame.proofs.laws.passed_bytes_join.Goals as goal

pub returns : goal.returns
returns c = record { none = with_more-nil; parts = with_more-with_more }
