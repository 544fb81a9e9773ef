use Rattle.std.proofs.Common.{◌≡◌, ◌++◌, length, flat_map, None}
use Rattle.rtk_rinex.specs.Record.{satellite_line}
use Rattle.rtk_rinex.specs.CheckText.{AreRows}
use Rattle.rtk_rinex.proofs.records.read_rows.Given as goal

abbrev pub invariant-loop : goal.invariant-loop
invariant-loop l = record {
  time : l.epoch.time ≡ l.fn.epoch.time;
  rows : AreRows l.code_count None l.epoch.rows;
  count : length l.epoch.rows ≡ l.counter;
  text : l.text ≡ flat_map satellite_line l.epoch.rows ++ l.rest;
}
