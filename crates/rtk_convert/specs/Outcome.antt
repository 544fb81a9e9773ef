-- How a call ends, whatever it was to do.
use Rattle.std.specs.Prelude.{◌≡◌, ◌≤◌, ◌↔◌, ℕ, Bool, true, length, Result, Err}
use Rattle.rtk_convert.specs.declared.fault.ConvertFault.{ConvertFault}
use Rattle.rtk_convert.specs.declared.fault.ConvertFault.TheVariants.{Stopped}
use Rattle.rtk_convert.specs.declared.fault.Stream.TheVariants.{Out, Log}
use Rattle.rtk_convert.specs.Conversion.{ConversionView, HoldsArrivals}
use Rattle.rtk_convert.specs.Failure.{NamesFailedWrites}

-- the setup stays; at most as many epochs are open as it says; and the window still holds what is
-- kept of some arrivals
pub record KeepsWindow (old new : ConversionView) : Type 0 where
  pub same_setup : new.setup ≡ old.setup
  pub few : length new.collector.sets ≤ new.setup.window
  pub held : HoldsArrivals old.setup old.collector → HoldsArrivals new.setup new.collector

-- each of the two streams is named as failed exactly if one of its writes failed in this call
pub record NamesFailedStreams {T : Type 0} (result : Result T ConvertFault) (out_old out_new log_old log_new : ℕ) : Type 0 where
  pub file_failed : NamesFailedWrites Out result out_old out_new
  pub report_failed : NamesFailedWrites Log result log_old log_new

-- a call is refused exactly if a call before it broke off, and then nothing is written
pub record RefusesStopped {T O L : Type 0} (has_stopped : Bool) (result : Result T ConvertFault) (out_old out_new : O) (log_old log_new : L)
    : Type 0 where
  pub stopped : (result ≡ Err Stopped) ↔ (has_stopped ≡ true)
  pub still : has_stopped ≡ true → (out_new ≡ out_old) × (log_new ≡ log_old)
