use Rattle.std.proofs.Common.{◌≡◌, Option, ap, arith}
use Rattle.rtk_rinex.specs.MixedRecords.{MixedRowsView}
use Rattle.rtk_compare.specs.Steps.Readers.{some_count}
use Rattle.rtk_compare.proofs.ReaderLemmas.{at-epochs, fewer-record, less-text}
use Rattle.rtk_compare.proofs.record_reader.RecordReader.take.Goals as goal

pub returns-clause-next : goal.returns-clause-next
returns-clause-next c = λ epochs left.
    let same : c.replace.new.dest ≡ c.next-next.result = cc in
    at-epochs _ c.next-next.result _ epochs same left (c.next-next.ensures.next epochs left)

pub returns-clause-less : goal.returns-clause-less
returns-clause-less c =
    let fewer = fewer-record c.next-next.result c.args.self.now.records c.next-next.new.self (less-text c.next-next.result c.args.self.now.records c.next-next.new.self c.next-next.ensures.end c.next-next.ensures.less) in
    let same : c.replace.new.dest ≡ c.next-next.result = cc in
    let counts = ap (λ (o : Option MixedRowsView). some_count o) same in
    omega (arith, fewer, counts)
