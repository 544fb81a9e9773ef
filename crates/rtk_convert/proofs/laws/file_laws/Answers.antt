use Rattle.rtk_convert.proofs.KeptTableLemmas.{kept-file-is_table}
use Rattle.rtk_convert.proofs.TableLemmas.{file-is_table}
use Rattle.rtk_convert.proofs.laws.file_laws.Goals as goal

pub returns : goal.returns
returns c = record { table = file-is_table; kept = kept-file-is_table }
