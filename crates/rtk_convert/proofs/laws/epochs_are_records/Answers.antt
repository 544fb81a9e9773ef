use Rattle.rtk_convert.proofs.ReportLemmas.{epochs-are, epochs-of-table}
use Rattle.rtk_convert.proofs.laws.epochs_are_records.Goals as goal

pub returns : goal.returns
returns c = record { kept = epochs-are; table = epochs-of-table }
