use Rattle.rtk_compare.proofs.row_reader.RowReader.of.Goals as goal

pub returns : goal.returns
returns c = λ all are. c.advance.ensures.next all are
