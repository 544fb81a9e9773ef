use Rattle.std.proofs.Common.{length}
use Rattle.rtk_cut.proofs.GpsFileLemmas.{next-answers}
use Rattle.rtk_cut.proofs.gps_file.GpsFileEpochFile.next.Goals as goal

pub returns-clause-next : goal.returns-clause-next
returns-clause-next c = λ epochs left.
    let f = c.args.self.now in
    next-answers (λ text. text.now) (length f.heading.head.listed) f.records c.next.new.self c.next.new.epoch c.next.result epochs c.next.ensures.code_count left.1 (c.next.ensures.next epochs left.0) c.next.ensures.record
