-- How far the records of a file extend: their interval, and the moment of the last one. These are what the header lines
-- INTERVAL and TIME OF LAST OBS tell.
-- Source: RINEX 3.05, Table A2
use Rattle.std.specs.Prelude.{List}
use Rattle.rtk_rinex.specs.Record.{EpochTableView}
use Rattle.rtk_tracking.specs.Epochs.{newest_first, newest_moment}
use Rattle.rtk_tracking.specs.Interval.{interval_of_epochs}
use Rattle.rtk_cut.specs.declared.extent.Extent.{Extent}

-- of epochs; with fewer than two there is no interval, and without one no last moment
abbrev pub extent_of : List EpochTableView → Extent
extent_of epochs = record { interval_ms = interval_of_epochs epochs; last = newest_moment (newest_first epochs) }
