use Rattle.std.proofs.Common.{◌≡◌, ◌<◌, ap, sym, subst, ◌∙◌}
use Rattle.std.proofs.lemmas.Result.{on_err_weaker}
use Rattle.rtk_rinex.specs.RecordLines.{RecordLinesView, KeepsLines}
use Rattle.rtk_rinex.specs.MixedRecord.{MixedLinesView}
use Rattle.rtk_rinex.proofs.mixed_record_lines.MixedRecordLines.open_line.Goals as goal

pub open_line_of-requires-clause-room : goal.open_line_of-requires-clause-room
open_line_of-requires-clause-room c = subst (λ (v : MixedLinesView). v.lines.count < 221) (sym c.self.view_is) c.requires.room

pub returns-clause-lines : goal.returns-clause-lines
returns-clause-lines c = record {
  lines = subst (λ (v : MixedLinesView). KeepsLines v.lines c.open_line_of.new.self) c.self.view_is c.open_line_of.ensures.lines;
  doppler = ap (λ (v : MixedLinesView). v.doppler) c.self.view_is;
}

pub returns-clause-err : goal.returns-clause-err
returns-clause-err c =
    let with : RecordLinesView → MixedLinesView = λ l. record { lines = l; doppler = c.self.inside.doppler } in
    on_err_weaker c.open_line_of.result (λ (e : c.open_line_of.new.self ≡ c.self.inside.lines). ap with e ∙ c.self.view_is) c.open_line_of.ensures.err
