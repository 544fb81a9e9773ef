use Rattle.std.proofs.Common.{true, false}
use Rattle.rtk_convert.proofs.RowLinesLemmas.{mixed-kept, mixed-open-as, mixed-line-as, free-in}
use Rattle.rtk_convert.proofs.row_lines.MixedRecordLinesRowLines.put_code.Goals as goal

pub put_doppler_code-requires : goal.put_doppler_code-requires
put_doppler_code-requires c = record {
  observed = c.requires.0;
  open_line = mixed-open-as c.args.doppler true c.args.self.now c.requires.0 c.if-doppler.true c.requires.1;
  free = free-in true c.requires.0 c.args.place c.requires.2;
}

pub returns-then-doppler-clause-open : goal.returns-then-doppler-clause-open
returns-then-doppler-clause-open c = λ row held free.
    mixed-line-as c.args.doppler true c.args.self.now c.put_doppler_code.new.self _ c.if-doppler.true held.shows c.put_doppler_code.ensures.lines
    (c.put_doppler_code.ensures.open row (mixed-open-as c.args.doppler true c.args.self.now row c.if-doppler.true held) (free-in true row c.args.place free))

pub returns-then-doppler-clause-rows : goal.returns-then-doppler-clause-rows
returns-then-doppler-clause-rows c = mixed-kept c.args.self.now c.put_doppler_code.new.self c.put_doppler_code.ensures.lines

pub put_plain_code-requires : goal.put_plain_code-requires
put_plain_code-requires c = record {
  observed = c.requires.0;
  open_line = mixed-open-as c.args.doppler false c.args.self.now c.requires.0 c.if-doppler.false c.requires.1;
  free = free-in false c.requires.0 c.args.place c.requires.2;
}

pub returns-clause-open : goal.returns-clause-open
returns-clause-open c = λ row held free.
    mixed-line-as c.args.doppler false c.args.self.now c.put_plain_code.new.self _ c.if-doppler.false held.shows c.put_plain_code.ensures.lines
    (c.put_plain_code.ensures.open row (mixed-open-as c.args.doppler false c.args.self.now row c.if-doppler.false held) (free-in false row c.args.place free))

pub returns-clause-rows : goal.returns-clause-rows
returns-clause-rows c = mixed-kept c.args.self.now c.put_plain_code.new.self c.put_plain_code.ensures.lines
