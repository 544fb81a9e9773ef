use Rattle.rtk_cut.proofs.MixedFileLemmas.{next-with}
use Rattle.rtk_cut.proofs.mixed_file.MixedFileEpochFile.next.Goals as goal

pub returns-clause-next : goal.returns-clause-next
returns-clause-next c = λ epochs left.
    let f = c.args.self.now in
    next-with f.heading.head.doppler f.records c.next.new.self c.next.result epochs c.next.ensures.form c.next.ensures.same_form left (c.next.ensures.next epochs left.0)
