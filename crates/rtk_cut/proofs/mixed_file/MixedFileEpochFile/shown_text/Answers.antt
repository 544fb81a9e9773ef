use Rattle.rtk_cut.proofs.MixedFileLemmas.{ok-shown}
use Rattle.rtk_cut.proofs.mixed_file.MixedFileEpochFile.shown_text.Goals as goal

pub returns : goal.returns
returns c = ok-shown (λ v. v.items) c.text_with_marks.result c.args.read.now c.args.self.now.marks_before c.args.self.now.heading.head.doppler c.text_with_marks.ensures
