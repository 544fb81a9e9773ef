-- Why there is no setup of these parts: the first cause that holds.
use Rattle.rtk_obs.specs.Dating.{IsReference}
use Rattle.rtk_setup.specs.Setup.{SetupView, IsStation, IsWindow}
use Rattle.rtk_setup.specs.declared.setup_fault.SetupFault.{SetupFault}
use Rattle.rtk_setup.specs.declared.setup_fault.SetupFault.TheVariants.{Station, Near, Window}

-- formula
-- the station has more than 12 bits, or no time can be dated near the reference, or the window is
-- not 2 to 4,096 epochs
abbrev pub IsSetupFault : SetupView → SetupFault → Type 0
IsSetupFault s Station = ¬ (IsStation s.station)
IsSetupFault s Near = IsStation s.station × ¬ (IsReference s.near)
IsSetupFault s Window = IsStation s.station × IsReference s.near × ¬ (IsWindow s.window)
