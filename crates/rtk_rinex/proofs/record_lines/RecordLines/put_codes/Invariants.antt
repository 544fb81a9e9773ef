use Rattle.std.proofs.Common.{◌-◌, ◌++◌, length, replicate, take, false}
use Rattle.rtk_rinex.specs.Record.{no_observation}
use Rattle.rtk_rinex.specs.RecordLines.{HasOpenLine, KeepsLines}
use Rattle.rtk_rinex.proofs.record_lines.RecordLines.put_codes.Given as goal

abbrev pub invariant-loop-place : goal.invariant-loop-place
invariant-loop-place l = record {
  line : HasOpenLine false l.self (take l.place l.observed ++ replicate (length l.observed - l.place) no_observation);
  lines : KeepsLines l.fn.self l.self;
}
