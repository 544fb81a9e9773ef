-- The phases of the station of a conversion, and its dates.
use Rattle.std.proofs.Common.{◌≡◌, ◌≢◌, ◌==◌, ◌&&◌, ℕ, Bool, true, false, cond, List, [], ◌∷◌, ◌++◌, Option, None, Some, refl, sym, ap, subst, ◌∙◌, inl, inr}
use Rattle.std.specs.Prelude.{◌||◌, filter, length, unwrap_or}
use Rattle.std.proofs.lemmas.Bool.{cases_Bool, cases_eq, eq-eqb, eqb-true}
use Rattle.rtk_survey.specs.declared.date_message.DateMessage.{DateMessage}
use Rattle.rtk_message.specs.declared.any_message.AnyMessage.{AnyMessage}
use Rattle.rtk_message.specs.declared.any_message.AnyMessage.TheVariants as any
use Rattle.rtk_message.specs.declared.message.Message.TheVariants.{Obs1004, Arp1005, Arp1006, Msm1074}
use Rattle.rtk_message.specs.AnyDecoded.{station_of, tow_of}
use Rattle.rtk_obs.specs.declared.cell.CellEntry.{CellEntry}
use Rattle.rtk_survey.specs.ReadFrames.{ReadFrame, messages_from}
use Rattle.rtk_survey.specs.Tracing.{is_numbered, entries_in, entries_of_message}
use Rattle.rtk_survey.specs.BesideGps.{gives_value_beside}
use Rattle.rtk_survey.specs.Targets.{IsAnswer, IsTargetOf, has_dating, system_beside, observes_gps, observes, station_at, station_after, HasTargetPhases, with_time_of, with_observation, with_date_if_any, dates_of, parting_of}
use Rattle.rtk_survey.specs.Counting.{shown_count}
use Rattle.rtk_survey.specs.Parting as parting
use Rattle.rtk_survey.specs.Parting.{parting_with_message}
use Rattle.rtk_survey.specs.declared.parting.Parting.{Parting}
use Rattle.rtk_survey.specs.Phases.{entries_numbered, CountsPhases, HasPhases}
use Rattle.rtk_survey.specs.declared.dating_systems.DatingSystems.{DatingSystems}
use Rattle.rtk_survey.specs.declared.target.Target.{Target}
use Rattle.rtk_survey.specs.declared.target.TargetDates.{TargetDates}
use Rattle.rtk_survey.specs.declared.target.TargetSurvey.{TargetSurvey}
use Rattle.rtk_survey.specs.declared.phases.PhaseCount.{PhaseCount}
use Rattle.rtk_survey.specs.declared.phases.Phases.{Phases}
use Rattle.rtk_survey.proofs.PhaseLemmas.{valueless}
use Rattle.rtk_survey.proofs.StationLemmas.{own-message, other-message}

-- ---- messages of a number

pub numbered : (number : ℕ) (m : AnyMessage) (ms : List AnyMessage) → is_numbered number m ≡ true → entries_numbered number (m ∷ ms) ≡ entries_of_message m ++ entries_numbered number ms
numbered number m ms holds = ap (λ (b : Bool). entries_in (cond b (m ∷ filter (is_numbered number) ms) (filter (is_numbered number) ms))) holds

pub not-numbered : (number : ℕ) (m : AnyMessage) (ms : List AnyMessage) → is_numbered number m ≡ false → entries_numbered number (m ∷ ms) ≡ entries_numbered number ms
not-numbered number m ms fails = ap (λ (b : Bool). entries_in (cond b (m ∷ filter (is_numbered number) ms) (filter (is_numbered number) ms))) fails

-- ---- a message without an observation of GPS

table-bare : (table : List PhaseCount) (number : ℕ) (m : AnyMessage) (ms : List AnyMessage) → observes_gps m ≡ false → CountsPhases table (entries_numbered number ms)
    → CountsPhases table (entries_numbered number (m ∷ ms))
table-bare table number m ms bare stands = elim (cases_Bool (is_numbered number m)) [
  | inl holds ↦ subst (λ (es : List CellEntry). CountsPhases table es) (sym (numbered number m ms holds)) (valueless table (entries_of_message m) (entries_numbered number ms) bare stands)
  | inr fails ↦ subst (λ (es : List CellEntry). CountsPhases table es) (sym (not-numbered number m ms fails)) stands
]

phases-bare : (p : Phases) (m : AnyMessage) (ms : List AnyMessage) → observes_gps m ≡ false → HasPhases p ms → HasPhases p (m ∷ ms)
phases-bare p m ms bare stand = record {
  of_1004 = table-bare p.of_1004.items 1004 m ms bare stand.of_1004;
  of_1074 = table-bare p.of_1074.items 1074 m ms bare stand.of_1074;
  of_1075 = table-bare p.of_1075.items 1075 m ms bare stand.of_1075;
  of_1076 = table-bare p.of_1076.items 1076 m ms bare stand.of_1076;
  of_1077 = table-bare p.of_1077.items 1077 m ms bare stand.of_1077;
}

-- a message without an observation that dates has none of GPS, if GPS dates
none-of : (gps on other : Bool) → on ≡ true → ((gps && on) || other) ≡ false → gps ≡ false
none-of true true other dates bare = cc
none-of true false other dates bare = cc
none-of false on other dates bare = refl

bare-gps : (s : DatingSystems) (m : AnyMessage) → s.gps ≡ true → observes s m ≡ false → observes_gps m ≡ false
bare-gps s m dates bare = none-of (observes_gps m) s.gps (gives_value_beside m && has_dating s (system_beside m)) dates bare

-- ---- the station that is known

-- a message with an observation has a time
timed : (s : DatingSystems) (m : AnyMessage) → observes s m ≡ true → tow_of m ≡ None → ⊥
timed s (any.Message (Obs1004 m)) holds none = cc
timed s (any.Message (Arp1005 m)) holds none = cc
timed s (any.Message (Arp1006 m)) holds none = cc
timed s (any.Message (Msm1074 m)) holds none = cc
timed s (any.Msm m) holds none = cc
timed s (any.Obs1012 m) holds none = cc

kept-if : (k : ℕ) (b : Bool) (n : ℕ) (t : Option ℕ) → cond b (station_at (Some k) n t) (Some k) ≡ Some k
kept-if k true n None = refl
kept-if k true n (Some t) = refl
kept-if k false n t = refl

kept : (s : DatingSystems) (k : ℕ) (m : AnyMessage) → station_after s (Some k) m ≡ Some k
kept s k m = kept-if k (observes s m) (station_of m) (tow_of m)

same-known : (a b : ℕ) → Some a ≡ Some b → a ≡ b
same-known a b same = cc

unknown-at : (n : ℕ) (t : Option ℕ) → station_at None n t ≡ None → t ≡ None
unknown-at n None is = refl
unknown-at n (Some t) is = cc

-- as long as no station is known, no message has an observation
bare-of : (s : DatingSystems) (m : AnyMessage) → station_after s None m ≡ None → observes s m ≡ false
bare-of s m is = elim (cases_Bool (observes s m)) [
  | inr fails ↦ fails
  | inl holds ↦ absurd (timed s m holds (unknown-at (station_of m) (tow_of m) (sym (ap (λ (b : Bool). cond b (station_at None (station_of m) (tow_of m)) None) holds) ∙ is)))
]

-- the phases before a message are those of the station that is known after it
pub of-before : (s : DatingSystems) (p : Phases) (before : Option ℕ) (m : AnyMessage) (ms : List AnyMessage) (station : ℕ) → Some station ≡ station_after s before m → HasTargetPhases p before ms
    → HasPhases p (messages_from station ms)
of-before s p None m ms station is stand = stand station
of-before s p (Some k) m ms station is stand = subst (λ (n : ℕ). HasPhases p (messages_from n ms)) (sym (same-known station k (is ∙ kept s k m))) stand

pub taken : (s : DatingSystems) (old new : Phases) (before : Option ℕ) (m : AnyMessage) (ms : List AnyMessage) (station : ℕ) → Some station ≡ station_after s before m → station ≡ station_of m
    → ((xs : List AnyMessage) → HasPhases old xs → HasPhases new (m ∷ xs)) → HasTargetPhases old before ms → HasPhases new (messages_from station (m ∷ ms))
taken s old new before m ms station is same took stand =
    subst (λ (xs : List AnyMessage). HasPhases new xs) (sym (own-message station m ms same)) (took (messages_from station ms) (of-before s old before m ms station is stand))

pub passed : (s : DatingSystems) (p : Phases) (before : Option ℕ) (m : AnyMessage) (ms : List AnyMessage) (station : ℕ) → Some station ≡ station_after s before m → station ≢ station_of m
    → HasTargetPhases p before ms → HasPhases p (messages_from station (m ∷ ms))
passed s p before m ms station is other stand =
    subst (λ (xs : List AnyMessage). HasPhases p xs) (sym (other-message station m ms other)) (of-before s p before m ms station is stand)

pub none-known : (s : DatingSystems) (p : Phases) (before : Option ℕ) (m : AnyMessage) (ms : List AnyMessage) → s.gps ≡ true → None ≡ station_after s before m → HasTargetPhases p before ms
    → (n : ℕ) → HasPhases p (messages_from n (m ∷ ms))
none-known s p (Some k) m ms dates is stand n = let fails : None ≡ Some k = is ∙ kept s k m in cc
none-known s p None m ms dates is stand n = elim (cases_eq n (station_of m)) [
  | inl same ↦
      subst (λ (xs : List AnyMessage). HasPhases p xs) (sym (own-message n m ms same)) (phases-bare p m (messages_from n ms) (bare-gps s m dates (bare-of s m (sym is))) (stand n))
  | inr other ↦ subst (λ (xs : List AnyMessage). HasPhases p xs) (sym (other-message n m ms other)) (stand n)
]

-- ---- the station of the dates

time-known : (known : Option ℕ) (n : ℕ) (b : Bool) → (unwrap_or known n == n) ≡ b → cond b (Some n) known ≡ Some (unwrap_or known n)
time-known None n true is = refl
time-known None n false is = let holds : (n == n) ≡ true = eq-eqb n n refl in cc
time-known (Some k) n true is = ap Some (sym (eqb-true k n is))
time-known (Some k) n false is = refl

of-cond : (b : Bool) (x d : TargetDates) → (cond b x d).station ≡ cond b x.station d.station
of-cond true x d = refl
of-cond false x d = refl

station-of-time : (now : ℕ) (d : TargetDates) (n : ℕ) (t : Option ℕ) → (with_time_of now d n t).station ≡ station_at d.station n t
station-of-time now d n None = refl
station-of-time now d n (Some tow) =
    of-cond (unwrap_or d.station n == n) _ d ∙ time-known d.station n (unwrap_or d.station n == n) refl

pub station-of-dates : (now : ℕ) (d : TargetDates) (m : AnyMessage) → (with_observation now d m).station ≡ station_after d.systems d.station m
station-of-dates now d m =
    of-cond (observes d.systems m) (with_time_of now d (station_of m) (tow_of m)) d
    ∙ ap (λ (s : Option ℕ). cond (observes d.systems m) s d.station) (station-of-time now d (station_of m) (tow_of m))

-- the systems that date stay
systems-of-cond : (b : Bool) (x d : TargetDates) → x.systems ≡ d.systems → (cond b x d).systems ≡ d.systems
systems-of-cond true x d same = same
systems-of-cond false x d same = refl

systems-of-time : (now : ℕ) (d : TargetDates) (n : ℕ) (t : Option ℕ) → (with_time_of now d n t).systems ≡ d.systems
systems-of-time now d n None = refl
systems-of-time now d n (Some tow) = systems-of-cond (unwrap_or d.station n == n) _ d refl

pub systems-of-dates : (now : ℕ) (d : TargetDates) (m : AnyMessage) → (with_observation now d m).systems ≡ d.systems
systems-of-dates now d m =
    systems-of-cond (observes d.systems m) (with_time_of now d (station_of m) (tow_of m)) d (systems-of-time now d (station_of m) (tow_of m))

pub systems-of-date : (now : ℕ) (d : TargetDates) (o : Option DateMessage) → (with_date_if_any now d o).systems ≡ d.systems
systems-of-date now d None = refl
systems-of-date now d (Some m) = refl

pub station-of-date : (now : ℕ) (d : TargetDates) (o : Option DateMessage) → (with_date_if_any now d o).station ≡ d.station
station-of-date now d None = refl
station-of-date now d (Some m) = refl

-- ---- no message came

pub no-phases : (p : Phases) (station : Option ℕ) → HasPhases p [] → HasTargetPhases p station []
no-phases p None stand = λ n. stand
no-phases p (Some n) stand = stand

-- ---- a frame more, if the station is asked for

pub answer-more : (q : Option Target) (fs more : List ReadFrame) (old new : TargetSurvey) → ((t : Target) → IsTargetOf t fs old → IsTargetOf t more new)
    → IsAnswer q fs (Some old) → IsAnswer q more (Some new)
answer-more None fs more old new step is = cc
answer-more (Some t) fs more old new step is = step t is

-- ---- where a second date begins

pub parted-message : (q : Target) (fs : List ReadFrame) (t : TargetSurvey) (m : AnyMessage) (frame : ℕ) (new : TargetDates) (p : Parting)
    → new ≡ with_observation t.present t.dates m → frame ≡ shown_count (length fs) → IsTargetOf q fs t
    → p ≡ parting_with_message t.dates.station m t.dates.capture.span new.capture.span frame t.parting
    → p ≡ parting_with_message (dates_of q fs).station m (dates_of q fs).capture.span (with_observation q.present (dates_of q fs) m).capture.span (shown_count (length fs)) (parting_of q fs)
parted-message q fs t m frame new p fresh count is parted =
    let d : TargetDates = dates_of q fs in
    parted
    ∙ ap (λ (x : TargetDates). parting_with_message t.dates.station m t.dates.capture.span x.capture.span frame t.parting) fresh
    ∙ ap (λ (n : ℕ). parting_with_message t.dates.station m t.dates.capture.span (with_observation n t.dates m).capture.span frame t.parting) is.present
    ∙ ap (λ (x : TargetDates). parting_with_message x.station m x.capture.span (with_observation q.present x m).capture.span frame t.parting) is.dates
    ∙ ap (λ (n : ℕ). parting_with_message d.station m d.capture.span (with_observation q.present d m).capture.span n t.parting) count
    ∙ ap (λ (x : Parting). parting_with_message d.station m d.capture.span (with_observation q.present d m).capture.span (shown_count (length fs)) x) is.parting

pub parted-date : (q : Target) (fs : List ReadFrame) (t : TargetSurvey) (m date : Option DateMessage) (frame : ℕ) (p : Parting)
    → m ≡ date → frame ≡ shown_count (length fs) → IsTargetOf q fs t → p ≡ parting.parting_with_date t.present t.dates.station t.dates.capture m frame t.parting
    → p ≡ parting.parting_with_date q.present (dates_of q fs).station (dates_of q fs).capture date (shown_count (length fs)) (parting_of q fs)
parted-date q fs t m date frame p same count is parted =
    let d : TargetDates = dates_of q fs in
    parted
    ∙ ap (λ (x : Option DateMessage). parting.parting_with_date t.present t.dates.station t.dates.capture x frame t.parting) same
    ∙ ap (λ (n : ℕ). parting.parting_with_date n t.dates.station t.dates.capture date frame t.parting) is.present
    ∙ ap (λ (x : TargetDates). parting.parting_with_date q.present x.station x.capture date frame t.parting) is.dates
    ∙ ap (λ (n : ℕ). parting.parting_with_date q.present d.station d.capture date n t.parting) count
    ∙ ap (λ (x : Parting). parting.parting_with_date q.present d.station d.capture date (shown_count (length fs)) x) is.parting
