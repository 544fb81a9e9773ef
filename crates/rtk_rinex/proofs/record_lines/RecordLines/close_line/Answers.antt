use Rattle.std.proofs.Common.{length, ap, false}
use Rattle.rtk_rinex.proofs.RecordLinesLemmas.{gps-row-added}
use Rattle.rtk_rinex.proofs.record_lines.RecordLines.close_line.Goals as goal

pub close_named-requires-clause-name : goal.close_named-requires-clause-name
close_named-requires-clause-name c = ap length c.gps_name.ensures

pub returns : goal.returns
returns c = λ rows os h o.
    gps-row-added c.args.self.now c.close_named.new.self rows c.args.satellite c.gps_name.result os c.gps_name.ensures h (c.close_named.ensures false os o)
