use Rattle.rtk_rinex.proofs.TableLemmas.{record-is_shown}
use Rattle.rtk_rinex.proofs.laws.records_are_of_tables.Goals as goal

pub returns : goal.returns
returns c = record-is_shown
