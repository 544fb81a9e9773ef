use Rattle.std.proofs.Common.{◌-◌, ◌++◌, length, replicate, take}
use Rattle.rtk_rinex.specs.Record.{no_observation}
use Rattle.rtk_rinex.specs.MixedRecord.{HasOpenMixedLine, KeepsMixedLines}
use Rattle.rtk_rinex.proofs.mixed_record_lines.MixedRecordLines.put_codes.Given as goal

abbrev pub invariant-loop-place : goal.invariant-loop-place
invariant-loop-place l = record {
  line : HasOpenMixedLine l.self (take l.place l.observed ++ replicate (length l.observed - l.place) no_observation);
  lines : KeepsMixedLines l.fn.self l.self;
}
