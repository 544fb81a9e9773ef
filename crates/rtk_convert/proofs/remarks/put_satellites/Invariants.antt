use Rattle.std.proofs.Common.{◌≡◌, ◌≤◌, ◌<◌, ◌-◌, ◌^◌}
use Rattle.rtk_convert.specs.Slots.{is_of_other_channel, is_without_channel}
use Rattle.rtk_convert.proofs.SlotsLemmas.{HasSoFar}
use Rattle.rtk_convert.proofs.remarks.put_satellites.Given as goal

abbrev pub invariant-satellites : goal.invariant-satellites
invariant-satellites l = record {
  few : l.row ≤ 64;
  fits : l.rest < 2 ^ (64 - l.row);
  systems : l.remarks.systems ≡ l.fn.remarks.systems;
  other_channels : HasSoFar is_of_other_channel l.channels l.message l.fn.remarks.other_channels l.remarks.other_channels l.row l.rest;
  no_channels : HasSoFar is_without_channel l.channels l.message l.fn.remarks.no_channels l.remarks.no_channels l.row l.rest;
}

abbrev pub decreases-satellites : goal.decreases-satellites
decreases-satellites l = l.rest
