-- The parts of the setup of a station, by its codes and by the messages of which values are taken.
use Rattle.std.specs.Prelude.{◌≡◌, ℕ, List, Option}
use Rattle.rtk_obs.specs.declared.any_code.AnyCode.{AnyCode}
use Rattle.rtk_setup.specs.Setup.{SetupView}
use Rattle.rtk_survey.specs.declared.survey.CaptureSurvey.{CaptureSurvey}
use Rattle.rtk_plan.specs.Plan.{marker_chosen}
use Rattle.rtk_systems.specs.SlotChannels.{IsGlonassFound}
use Rattle.rtk_systems.specs.SystemMsms.{kinds_listed}
use Rattle.rtk_systems.specs.declared.values.TakenMessages.{TakenMessages}
use Rattle.rtk_plan.specs.declared.wanted.Wanted.{Wanted}

pub record HasSetupParts (ss : List CaptureSurvey) (w : Wanted) (made station near : ℕ) (taken : TakenMessages) (listed : List AnyCode) (seconds : Option ℕ) (s : SetupView) : Type 0 where
  pub station_is : s.station ≡ station
  pub near_is : s.near ≡ near
  pub kinds_are : s.kinds ≡ kinds_listed taken.kinds listed
  pub listed_are : s.head.listed ≡ listed
  pub marker_is : s.head.marker ≡ marker_chosen w.marker station
  pub made_is : s.head.made ≡ made
  pub window_is : s.window ≡ w.window
  pub glonass_is : IsGlonassFound ss station taken listed w.channels seconds near s.head.glonass
  pub seconds_are : s.leap_seconds ≡ seconds
  pub takes_is : s.takes_1012 ≡ taken.obs1012
  pub doppler_is : s.head.doppler ≡ w.doppler
