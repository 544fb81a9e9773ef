use Rattle.rtk_compare.proofs.ReaderLemmas.{at-rows}
use Rattle.rtk_compare.proofs.row_reader.RowReader.advance.Goals as goal

pub returns-clause-next : goal.returns-clause-next
returns-clause-next c = λ all are. at-rows _ all (c.next_row-self.ensures.next all are)
