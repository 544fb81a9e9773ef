-- The epochs of a conversion: the open ones, and what is known of the closed ones.
use Rattle.std.specs.Prelude.{map, option_map}
use Rattle.rtk_obs.specs.declared.signal_cells.SignalEntry.{SignalEntry}
use Rattle.rtk_collect.specs.declared.conflicts.AnySatelliteCode.{AnySatelliteCode}
use Rattle.rtk_collect.specs.declared.outcome.Outcome.{Outcome}
use Rattle.rtk_collect.specs.declared.outcome.Outcome.TheVariants.{Taken, Conflict, Repeat, Late}
use Rattle.rtk_collect.specs.Collector.{CollectorView}
use Rattle.rtk_collect.specs.EpochSet.{EpochSetView}
use Rattle.rtk_convert.specs.ClosedEpochs.{ClosedEpochsView}

pub record EpochsView : Type 0 where
  -- the open epochs and the station messages
  pub collector : CollectorView SignalEntry
  -- what is known of the closed epochs
  pub closed : ClosedEpochsView

-- ---- cells of one form as signals of any system

-- an epoch with its cells as signals
abbrev pub set_of : {E : Type 0} → (E → SignalEntry) → EpochSetView E → EpochSetView SignalEntry
set_of signal set = record { epoch = set.epoch; cells = map signal set.cells }

-- a window with its cells as signals
abbrev pub window_of : {E : Type 0} → (E → SignalEntry) → CollectorView E → CollectorView SignalEntry
window_of signal w = record { places = w.places; sets = map (set_of signal) w.sets; arp1005 = w.arp1005; arp1006 = w.arp1006 }

-- an answer with the cells of its closed epoch as signals
abbrev pub outcome_of : {E S : Type 0} → (E → SignalEntry) → Outcome E S → Outcome SignalEntry AnySatelliteCode
outcome_of signal Late = Late
outcome_of signal (Taken closing) = Taken (option_map (set_of signal) closing)
outcome_of signal Conflict = Conflict
outcome_of signal Repeat = Repeat
