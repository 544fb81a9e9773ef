use Rattle.std.proofs.Common.{◌<◌, length, ap, sym, subst}
use Rattle.rtk_rinex.specs.MixedRecord.{MixedLinesView, HoldsMixedLines, HasOpenMixedLine}
use Rattle.rtk_rinex.proofs.MixedRecordLemmas.{mixed-row-added}
use Rattle.rtk_rinex.proofs.mixed_record_lines.MixedRecordLines.close_line.Goals as goal

pub close_named-requires-clause-name : goal.close_named-requires-clause-name
close_named-requires-clause-name c = ap length c.name_of.ensures

pub close_named-requires-clause-room : goal.close_named-requires-clause-room
close_named-requires-clause-room c = subst (λ (v : MixedLinesView). v.lines.count < 221) (sym c.self.view_is) c.requires

pub returns-clause-lines : goal.returns-clause-lines
returns-clause-lines c = λ rows os h o.
    let d = c.self.inside.doppler in
    mixed-row-added d c.self.inside.lines c.close_named.new.self rows c.args.satellite c.name_of.result os c.name_of.ensures
    (subst (λ (v : MixedLinesView). HoldsMixedLines v rows) (sym c.self.view_is) h)
    (c.close_named.ensures d os (subst (λ (v : MixedLinesView). HasOpenMixedLine v os) (sym c.self.view_is) o))

pub returns-clause-doppler : goal.returns-clause-doppler
returns-clause-doppler c = ap (λ (v : MixedLinesView). v.doppler) c.self.view_is
