-- The steps of the epochs of a conversion, whatever cells they have.
use Rattle.std.specs.Prelude.{◌≡◌, ◌≤◌, [], length, Result, OnOk, IsTrue}
use Rattle.rtk_convert.specs.declared.epochs.AnyEpochs.{AnyEpochs}
use Rattle.rtk_convert.specs.declared.epochs.AnyEpochs.TheVariants.{Gps, Any}
use Rattle.rtk_convert.specs.declared.fault.ConvertFault.{ConvertFault}
use Rattle.rtk_convert.specs.Conversion.{HoldsArrivals, IsAhead}
use Rattle.rtk_convert.specs.Epochs.{EpochsView}
use Rattle.rtk_setup.specs.Setup.{SetupView, is_of_gps}
use Rattle.rtk_convert.specs.Steps.AddedMessage.{RepresentsEpochs}

-- what clauses see of epochs, whatever cells they have
abbrev pub epochs_in : AnyEpochs → EpochsView
epochs_in (Gps e room) = e
epochs_in (Any e room) = e

-- epochs of cells of GPS are of a setup whose codes are of GPS
abbrev pub AreEpochsOf : SetupView → AnyEpochs → Type 0
AreEpochsOf s (Gps e room) = IsTrue (is_of_gps s)
AreEpochsOf s (Any e room) = Unit {0}

-- epochs of a setup to which no message came
pub record AreNewEpochs (s : SetupView) (e : EpochsView) : Type 0 where
  pub represents : RepresentsEpochs s e []
  pub places : e.collector.places ≡ s.window
  pub few : length e.collector.sets ≤ s.window
  pub ahead : IsAhead e.collector e.closed

-- after a message the window has as many places, and no more epochs than places; it holds what is kept of some
-- arrivals; and unless the call breaks off all last phases are of epochs below the window
pub record HandsOn {T : Type 0} (s : SetupView) (old : EpochsView) (result : Result T ConvertFault) (new : EpochsView) : Type 0 where
  pub places : new.collector.places ≡ old.collector.places
  pub few : length new.collector.sets ≤ new.collector.places
  pub held : HoldsArrivals s old.collector → HoldsArrivals s new.collector
  pub ahead : OnOk result (IsAhead new.collector new.closed)
