use Rattle.std.proofs.Common.{ℕ, false, replicate, refl, sym, ap, ◌∙◌}
use Rattle.rtk_rinex.specs.Header.{PositionView, position_view}
use Rattle.rtk_rinex.specs.MixedForm.{FormView}
use Rattle.rtk_rinex.specs.MixedHead.{MixedHeadView}
use Rattle.rtk_cut.specs.Steps.FileTexts.{mixed_texts}
use Rattle.rtk_cut.proofs.MarkLemmas.{fresh}
use Rattle.rtk_cut.proofs.mixed_file.MixedFile.new.Goals as goal

pub returns-clause-file : goal.returns-clause-file
returns-clause-file c = λ t is text.
    let h = c.heading.result in
    let parts = c.heading.ensures.parts t is text in
    let read = c.records.ensures.records t is text in
    record {
      texts = ap (λ (x : MixedHeadView). mixed_texts x (position_view h.position) h.first) parts.0 ∙ ap (λ (x : PositionView). mixed_texts t.head x h.first) parts.1 ∙ ap (λ (n : ℕ). mixed_texts t.head t.site n) parts.2;
      left = (read.1, ap (λ (f : FormView). f.doppler) read.0 ∙ sym (ap (λ (x : MixedHeadView). x.doppler) parts.0));
    }

pub returns-clause-marks : goal.returns-clause-marks
returns-clause-marks c = fresh 3552 (replicate 3552 false) refl
