use Rattle.rtk_cut.proofs.KeptSystemsLemmas.{rows-were, rows-stay}
use Rattle.rtk_cut.proofs.kept_laws.kept_rows_stay.Goals as goal

pub returns : goal.returns
returns c = λ ks es time row. (rows-were ks es time row, rows-stay ks es time row)
