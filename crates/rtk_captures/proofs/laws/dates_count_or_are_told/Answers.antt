use Rattle.rtk_captures.proofs.DateLawLemmas.{dates-told}
use Rattle.rtk_captures.proofs.laws.dates_count_or_are_told.Goals as goal

pub returns : goal.returns
returns c = dates-told
