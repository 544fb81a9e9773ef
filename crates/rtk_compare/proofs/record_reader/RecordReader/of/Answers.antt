use Rattle.std.proofs.Common.{refl}
use Rattle.rtk_compare.proofs.ReaderLemmas.{at-epochs}
use Rattle.rtk_compare.proofs.record_reader.RecordReader.of.Goals as goal

pub returns : goal.returns
returns c = λ epochs left. at-epochs _ _ _ epochs refl left (c.next-next.ensures.next epochs left)
