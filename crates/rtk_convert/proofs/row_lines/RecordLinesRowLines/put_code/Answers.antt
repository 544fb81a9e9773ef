use Rattle.std.proofs.Common.{false}
use Rattle.rtk_convert.proofs.RowLinesLemmas.{gps-kept, free-in}
use Rattle.rtk_convert.proofs.row_lines.RecordLinesRowLines.put_code.Goals as goal

pub put_code-requires : goal.put_code-requires
put_code-requires c = record {
  observed = c.requires.0;
  open_line = c.requires.1.open_line;
  free = free-in false c.requires.0 c.args.place c.requires.2;
}

pub returns-clause-open : goal.returns-clause-open
returns-clause-open c = λ row held free. record {
  plain = held.plain;
  open_line = c.put_code.ensures.open row held.open_line (free-in false row c.args.place free);
}

pub returns-clause-rows : goal.returns-clause-rows
returns-clause-rows c = gps-kept c.args.self.now c.put_code.new.self c.put_code.ensures.lines
