-- The setup of a station, made of its parts.
use Rattle.std.proofs.Common.{◌≡◌, ◌∙◌, ℕ, Bool, true, false, List, Option, None, Some, sym, ap, subst}
use Rattle.std.specs.Prelude.{IfSome}
use Rattle.rtk_obs.specs.declared.any_code.AnyCode.{AnyCode}
use Rattle.rtk_setup.specs.Rates.{without_rates}
use Rattle.rtk_setup.specs.Setup.{SetupView}
use Rattle.rtk_setup.specs.declared.system_kinds.SystemKinds.{SystemKinds}
use Rattle.rtk_survey.specs.declared.survey.CaptureSurvey.{CaptureSurvey}
use Rattle.rtk_captures.specs.Dating.{captures_of, IsInReach, IsNearOf}
use Rattle.rtk_plan.specs.Plan.{IsChosenStation, kinds_found, AreCodesChosen, converts_1012, marker_chosen, near_chosen, codes_taken_from, AreLeapSecondsOf, IsNear1012, IsSetupFor}
use Rattle.rtk_systems.specs.SlotChannels.{IsGlonassFound}
use Rattle.rtk_plan.specs.Steps.SetupParts.{HasSetupParts}
use Rattle.rtk_systems.specs.SystemMsms.{kinds_listed}
use Rattle.rtk_captures.specs.declared.station_capture.StationCapture.{StationCapture}
use Rattle.rtk_systems.specs.declared.values.TakenMessages.{TakenMessages}
use Rattle.rtk_plan.specs.declared.wanted.Wanted.{Wanted}

abbrev pub taken_kinds : SystemKinds → Bool → TakenMessages
taken_kinds kinds takes = record { kinds = kinds; obs1012 = takes }

pub is-setup : (ss : List CaptureSurvey) (links : List (List ℕ)) (w : Wanted) (made station first : ℕ) (other seconds : Option ℕ) (kinds : SystemKinds) (listed : List AnyCode) (takes : Bool) (near : ℕ) (s : SetupView)
    → IsNearOf w.near (captures_of ss station) first → IsNear1012 ss w.near station seconds first other → IsChosenStation ss w.station station
    → kinds ≡ kinds_found w.msm ss links station → AreCodesChosen w ss station seconds first (codes_taken_from kinds other) listed
    → AreLeapSecondsOf ss w station first seconds → takes ≡ converts_1012 ss station listed other → near ≡ near_chosen takes first other
    → without_rates w.doppler kinds listed ≡ None
    → HasSetupParts ss w made station near (record { kinds = kinds; obs1012 = takes }) listed seconds s → IsSetupFor ss links w made s
is-setup ss links w made station first other seconds kinds listed takes near s near_of dated chosen same codes leap converts moment rates is =
    let found = kinds_found w.msm ss links station in
    record {
      first = first;
      first_is = subst (λ (n : ℕ). IsNearOf w.near (captures_of ss n) first) (sym is.station_is) near_of;
      other = other;
      other_is =
          subst (λ (n : ℕ). IsNear1012 ss w.near n s.leap_seconds first other) (sym is.station_is)
          (subst (λ (o : Option ℕ). IsNear1012 ss w.near station o first other) (sym is.seconds_are) dated);
      station = subst (λ (n : ℕ). IsChosenStation ss w.station n) (sym is.station_is) chosen;
      kinds =
          is.kinds_are ∙ ap (λ (ks : SystemKinds). kinds_listed ks listed) same
          ∙ ap (λ (n : ℕ). kinds_listed (kinds_found w.msm ss links n) listed) (sym is.station_is)
          ∙ ap (λ (cs : List AnyCode). kinds_listed (kinds_found w.msm ss links s.station) cs) (sym is.listed_are);
      listed =
          subst (λ (n : ℕ). AreCodesChosen w ss n s.leap_seconds first (codes_taken_from (kinds_found w.msm ss links n) other) s.head.listed) (sym is.station_is)
          (subst (λ (o : Option ℕ). AreCodesChosen w ss station o first (codes_taken_from found other) s.head.listed) (sym is.seconds_are)
          (subst (λ (cs : List AnyCode). AreCodesChosen w ss station seconds first (codes_taken_from found other) cs) (sym is.listed_are)
          (subst (λ (ks : SystemKinds). AreCodesChosen w ss station seconds first (codes_taken_from ks other) listed) same codes)));
      marker = is.marker_is ∙ ap (λ (n : ℕ). marker_chosen w.marker n) (sym is.station_is);
      made_at = is.made_is;
      window = is.window_is;
      glonass =
          subst (λ (n : ℕ). IsGlonassFound ss n (taken_kinds (kinds_found w.msm ss links n) s.takes_1012) s.head.listed w.channels s.leap_seconds s.near s.head.glonass) (sym is.station_is)
          (subst (λ (m : ℕ). IsGlonassFound ss station (taken_kinds found s.takes_1012) s.head.listed w.channels s.leap_seconds m s.head.glonass) (sym is.near_is)
          (subst (λ (o : Option ℕ). IsGlonassFound ss station (taken_kinds found s.takes_1012) s.head.listed w.channels o near s.head.glonass) (sym is.seconds_are)
          (subst (λ (cs : List AnyCode). IsGlonassFound ss station (taken_kinds found s.takes_1012) cs w.channels seconds near s.head.glonass) (sym is.listed_are)
          (subst (λ (b : Bool). IsGlonassFound ss station (taken_kinds found b) listed w.channels seconds near s.head.glonass) (sym is.takes_is)
          (subst (λ (ks : SystemKinds). IsGlonassFound ss station (taken_kinds ks takes) listed w.channels seconds near s.head.glonass) same is.glonass_is)))));
      leap_seconds =
          subst (λ (n : ℕ). AreLeapSecondsOf ss w n first s.leap_seconds) (sym is.station_is)
          (subst (λ (o : Option ℕ). AreLeapSecondsOf ss w station first o) (sym is.seconds_are) leap);
      with_1012 =
          is.takes_is ∙ converts ∙ ap (λ (n : ℕ). converts_1012 ss n listed other) (sym is.station_is)
          ∙ ap (λ (cs : List AnyCode). converts_1012 ss s.station cs other) (sym is.listed_are);
      near_by = is.near_is ∙ moment ∙ ap (λ (b : Bool). near_chosen b first other) (sym is.takes_is);
      doppler = is.doppler_is;
      rates =
          ap (λ (n : ℕ). without_rates w.doppler (kinds_found w.msm ss links n) s.head.listed) is.station_is
          ∙ ap (λ (cs : List AnyCode). without_rates w.doppler found cs) is.listed_are
          ∙ ap (λ (ks : SystemKinds). without_rates w.doppler ks listed) (sym same) ∙ rates;
    }

chosen-in-reach : (given : Option ℕ) (cs : List StationCapture) (takes : Bool) (first : ℕ) (other : Option ℕ) → IsInReach given cs first → IfSome other (IsInReach given cs)
    → IsInReach given cs (near_chosen takes first other)
chosen-in-reach given cs false first other is also = is
chosen-in-reach given cs true first None is also = is
chosen-in-reach given cs true first (Some near) is also = also

-- both moments are in reach
pub stays-in-reach : (given : Option ℕ) (cs : List StationCapture) (takes : Bool) (first : ℕ) (other : Option ℕ) (near : ℕ) → IsInReach given cs first → IfSome other (IsInReach given cs)
    → near ≡ near_chosen takes first other → IsInReach given cs near
stays-in-reach given cs takes first other near is also same =
    subst (λ (n : ℕ). IsInReach given cs n) (sym same) (chosen-in-reach given cs takes first other is also)
