use Rattle.std.proofs.Common.{ℕ, false, length, replicate, refl, sym, ap, ◌∙◌}
use Rattle.rtk_rinex.specs.Header.{HeadView, PositionView, position_view}
use Rattle.rtk_cut.specs.Steps.FileTexts.{gps_texts}
use Rattle.rtk_cut.proofs.MarkLemmas.{fresh}
use Rattle.rtk_cut.proofs.gps_file.GpsFile.new.Goals as goal

pub returns-clause-file : goal.returns-clause-file
returns-clause-file c = λ t is text.
    let h = c.heading-heading.result in
    let parts = c.heading-heading.ensures.parts t is text in
    let records = c.records.ensures.records t is text in
    record {
      texts = ap (λ (x : HeadView). gps_texts x (position_view h.position) h.first) parts.0 ∙ ap (λ (x : PositionView). gps_texts t.head x h.first) parts.1 ∙ ap (λ (n : ℕ). gps_texts t.head t.site n) parts.2;
      width = records.0 ∙ sym (ap (λ (x : HeadView). length x.listed) parts.0);
      left = records.1;
    }

pub returns-clause-marks : goal.returns-clause-marks
returns-clause-marks c = fresh 528 (replicate 528 false) refl
