use Rattle.std.proofs.Common.{rules, ◌≡◌, List, Bool, length, sym, ◌∙◌}
use Rattle.rtk_cut.proofs.PendingLemmas.{shown, epoch-shown_own}
use Rattle.rtk_cut.proofs.MixedFileLemmas.{all-have_marks, mixed-epoch}
use Rattle.rtk_cut.proofs.mixed_file.MixedFileEpochFile.show.Goals as goal

pub returns-clause-slips : goal.returns-clause-slips
returns-clause-slips c = λ e is step earlier on stands.
    shown c.args.self.now.marks c.clear_marks.new.marks step earlier e (mixed-epoch is.0.1.0 e is.0.1.1).observed on stands c.clear_marks.ensures.size (c.clear_marks.ensures.marks e is.0)

pub returns-clause-shown : goal.returns-clause-shown
returns-clause-shown c = λ e is step earlier stands.
    let marks : List Bool = c.args.self.now.marks in
    let size : length marks ≡ 3552 = search rules in
    (e, is, sym (epoch-shown_own marks step earlier e is.0.1.1.rise (c.clear_marks.ensures.few e is.0) (all-have_marks is.0.1.0 marks e.rows size is.0.1.1.rows) stands))

pub returns-clause-same : goal.returns-clause-same
returns-clause-same c = λ unchanged e is step earlier stands.
    let marks : List Bool = c.args.self.now.marks in
    let size : length marks ≡ 3552 = search rules in
    sym (c.clear_marks.ensures.same unchanged e is.0)
    ∙ epoch-shown_own marks step earlier e is.0.1.1.rise (c.clear_marks.ensures.few e is.0) (all-have_marks is.0.1.0 marks e.rows size is.0.1.1.rows) stands
