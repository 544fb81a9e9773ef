-- Why captures have no plan.
use Rattle.std.proofs.Common.{◌≡◌, ℕ, Bool, List, inr, [], None, Result, Ok, Err, IsErrAnd, IfErr, Option, sym, subst}
use Rattle.std.proofs.lemmas.Result.{err_from_is_err_and}
use Rattle.rtk_obs.specs.declared.any_code.AnyCode.{AnyCode}
use Rattle.rtk_setup.specs.declared.system_kinds.SystemKinds.{SystemKinds}
use Rattle.rtk_survey.specs.declared.survey.CaptureSurvey.{CaptureSurvey}
use Rattle.rtk_captures.specs.CaptureCauses.{IfRefused}
use Rattle.rtk_plan.specs.Causes.{FindsNoCode, LacksRates, IsRatesCause, IsSetupCause, IsCaptureCause, IsCauseOf}
use Rattle.rtk_captures.specs.Dating.{captures_of}
use Rattle.rtk_captures.specs.declared.station_capture.StationCapture.{StationCapture}
use Rattle.rtk_plan.specs.Plan.{IsChosenStation, kinds_found, AreSystemsTaken, AreCodesChosen, AreLeapSecondsOf, IsNear1012, codes_taken_from}
use Rattle.rtk_systems.specs.Values.{codes_in_captures}
use Rattle.rtk_captures.specs.declared.refusal.PlanFault.{PlanFault}
use Rattle.rtk_captures.specs.declared.refusal.PlanFault.TheVariants.{Refused, OutOfMemory}
use Rattle.rtk_captures.specs.declared.refusal.Refusal.{Refusal}
use Rattle.rtk_captures.specs.declared.refusal.Refusal.TheVariants.{NoFrame, NoObservation, NoStation, SeveralStations, NoCode, NoRates}
use Rattle.rtk_rinex.specs.declared.system_flags.SystemFlags.{SystemFlags}
use Rattle.rtk_systems.specs.declared.values.TakenMessages.{TakenMessages}
use Rattle.rtk_plan.specs.declared.wanted.Wanted.{Wanted}

-- a cause that is another one too
refused-also : (IsCause IsOther : Refusal → Type 0) (fault : PlanFault) → ((refusal : Refusal) → IsCause refusal → IsOther refusal) → IfRefused IsCause fault → IfRefused IsOther fault
refused-also IsCause IsOther (Refused refusal list) also is = also refusal is
refused-also IsCause IsOther OutOfMemory also is = tt

pub refused-by : {T : Type 0} (IsCause IsOther : Refusal → Type 0) (r : Result T PlanFault) → ((refusal : Refusal) → IsCause refusal → IsOther refusal)
    → IfErr r (IfRefused IsCause) → IfErr r (IfRefused IsOther)
refused-by IsCause IsOther (Ok x) also is = tt
refused-by IsCause IsOther (Err fault) also is = refused-also IsCause IsOther fault also is

-- the exit of a `?` by a cause that is another one too
pub exit-also : {T : Type 0} (IsCause IsOther : Refusal → Type 0) (told : PlanFault) (r : Result T PlanFault) → IsErrAnd r (λ (fault : PlanFault). fault ≡ told)
    → ((refusal : Refusal) → IsCause refusal → IsOther refusal) → IfRefused IsCause told → IfErr r (IfRefused IsOther)
exit-also IsCause IsOther told r exits also refused =
    let p = err_from_is_err_and r exits in
    rw p.1 (subst (IfRefused IsOther) (sym p.2) (refused-also IsCause IsOther told also refused))

-- an answer that is a refusal with its cause
pub is-refused : {T : Type 0} (IsCause : Refusal → Type 0) (fault : PlanFault) (r : Result T PlanFault) → r ≡ Err fault → IfRefused IsCause fault → IfErr r (IfRefused IsCause)
is-refused {T} IsCause fault r is cause = subst (λ (x : Result T PlanFault). IfErr x (IfRefused IsCause)) (sym is) cause

-- no code of these systems is found
pub no-code-of : (ss : List CaptureSurvey) (w : Wanted) (station : ℕ) (seconds : Option ℕ) (near : ℕ) (taken : TakenMessages) (systems : SystemFlags) → AreSystemsTaken ss station w.systems seconds near systems
    → (refusal : Refusal) → (refusal ≡ NoCode) × (w.codes ≡ None) × (codes_in_captures ss station systems taken ≡ [])
    → (refusal ≡ NoCode) × (w.codes ≡ None) × FindsNoCode ss taken w station seconds near
no-code-of ss w station seconds near taken systems are refusal (is, none, empty) = (is, none, (systems, are, empty))

-- no code is found in the messages that are taken
pub no-code-found : (ss : List CaptureSurvey) (links : List (List ℕ)) (w : Wanted) (station : ℕ) (seconds : Option ℕ) (near : ℕ) (other : Option ℕ) (taken : TakenMessages)
    → taken ≡ codes_taken_from (kinds_found w.msm ss links station) other → AreLeapSecondsOf ss w station near seconds → IsNear1012 ss w.near station seconds near other
    → (refusal : Refusal) → (refusal ≡ NoCode) × (w.codes ≡ None) × FindsNoCode ss taken w station seconds near → IsSetupCause ss links w station near refusal
no-code-found ss links w station seconds near other taken same are dated refusal (is, none, found) =
    subst (λ (r : Refusal). IsSetupCause ss links w station near r) (sym is)
    (none, (seconds, are, (other, dated, subst (λ (m : TakenMessages). FindsNoCode ss m w station seconds near) same found)))

-- a listed system has no rates in the messages that are taken
pub no-rates-found : (ss : List CaptureSurvey) (links : List (List ℕ)) (w : Wanted) (station : ℕ) (seconds : Option ℕ) (near : ℕ) (other : Option ℕ) (kinds : SystemKinds) (listed : List AnyCode)
    → kinds ≡ kinds_found w.msm ss links station → AreLeapSecondsOf ss w station near seconds → IsNear1012 ss w.near station seconds near other
    → AreCodesChosen w ss station seconds near (codes_taken_from kinds other) listed
    → (refusal : Refusal) → IsRatesCause w.doppler kinds listed refusal → IsSetupCause ss links w station near refusal
no-rates-found ss links w station seconds near other kinds listed same are dated chosen (NoRates letter) lacks = (
  seconds,
  are,
  (
    other,
    dated,
    (
      listed,
      subst (λ (ks : SystemKinds). AreCodesChosen w ss station seconds near (codes_taken_from ks other) listed) same chosen,
      subst (λ (ks : SystemKinds). LacksRates w.doppler ks listed letter) same lacks,
    ),
  ),
)
no-rates-found ss links w station seconds near other kinds listed same are dated chosen refusal lacks = absurd lacks

chosen-by : (ss : List CaptureSurvey) (w : Wanted) (skip_empty as_given : Bool) (station : ℕ) → IsChosenStation ss w.station station
    → (refusal : Refusal) → IsCaptureCause ss w skip_empty as_given station (captures_of ss station) refusal → IsCauseOf ss w skip_empty as_given refusal
chosen-by ss w skip_empty as_given station chosen NoFrame cause = absurd cause.2
chosen-by ss w skip_empty as_given station chosen NoObservation cause = inr (station, chosen, cause)
chosen-by ss w skip_empty as_given station chosen (NoStation n) cause = absurd cause.2
chosen-by ss w skip_empty as_given station chosen SeveralStations cause = absurd cause.2
chosen-by ss w skip_empty as_given station chosen other cause = (station, chosen, cause)

-- what keeps captures of the station that is converted from having a plan
pub chosen-cause : (ss : List CaptureSurvey) (w : Wanted) (skip_empty as_given : Bool) (station : ℕ) (cs : List StationCapture) → IsChosenStation ss w.station station → cs ≡ captures_of ss station
    → (refusal : Refusal) → IsCaptureCause ss w skip_empty as_given station cs refusal → IsCauseOf ss w skip_empty as_given refusal
chosen-cause ss w skip_empty as_given station cs chosen are refusal cause =
    chosen-by ss w skip_empty as_given station chosen refusal (subst (λ (xs : List StationCapture). IsCaptureCause ss w skip_empty as_given station xs refusal) are cause)
