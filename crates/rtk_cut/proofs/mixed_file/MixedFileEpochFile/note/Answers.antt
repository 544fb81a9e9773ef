use Rattle.rtk_cut.proofs.PendingLemmas.{noted}
use Rattle.rtk_cut.proofs.mixed_file.MixedFileEpochFile.note.Goals as goal

pub returns-clause-slips : goal.returns-clause-slips
returns-clause-slips c = λ e is step earlier off stands.
    noted c.args.self.now.marks c.note_record.new.marks step earlier e off stands c.note_record.ensures.size (c.note_record.ensures.marks e is.0)
