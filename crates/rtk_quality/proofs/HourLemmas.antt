-- The hours of a file, a record more.
use Rattle.std.proofs.Common.{◌≡◌, ◌==◌, ℕ, Bool, cond, List, [], ◌∷◌, ◌++◌, reverse, Option, None, Some, inl, inr, refl, sym, ap, subst, ◌∙◌}
use Rattle.std.proofs.lemmas.Bool.{cases_Bool}
use Rattle.std.proofs.lemmas.Grind.{reverse_onto}
use Rattle.std.proofs.lemmas.List.{append-nil}
use Rattle.rtk_obs.specs.declared.any_code.AnyCode.{AnyCode}
use Rattle.rtk_rinex.specs.Record.{EpochTableView}
use Rattle.rtk_rinex.specs.declared.epoch_table.SatelliteRow.{SatelliteRow}
use Rattle.rtk_tracking.specs.Epochs.{newest_moment}
use Rattle.rtk_quality.specs.Hours.{hour_at}
use Rattle.rtk_quality.specs.Steps.Noted.{missing_since, missing_until, with_record, ended_hour, hour_onto, ended_by, newest_hour, older_hours, list_of_hour, no_locks, locks_onto, hours_with, noted_hours, AreHours}
use Rattle.rtk_quality.specs.declared.hours.Locks.{Locks}
use Rattle.rtk_quality.specs.declared.hours.HourCounts.{HourCounts}
use Rattle.rtk_quality.specs.declared.hours.Hours.{Hours}

-- one hour more, or none
reverse-more : (more older : List HourCounts) → (more ≡ []) → reverse (more ++ older) ≡ reverse older ++ more
reverse-more more older none = ap (λ (xs : List HourCounts). reverse (xs ++ older)) none ∙ sym (append-nil (reverse older)) ∙ ap (λ (xs : List HourCounts). reverse older ++ xs) (sym none)

ended-more : (hour missing : ℕ) (newest : Option HourCounts) (older : List HourCounts)
    → reverse (ended_by hour missing newest ++ older) ≡ reverse older ++ ended_by hour missing newest
ended-more hour missing None older = sym (append-nil (reverse older))
ended-more hour missing (Some newest) older = elim (cases_Bool (newest.hour == hour)) [
  | inl same ↦ reverse-more (ended_by hour missing (Some newest)) older (ap (λ (b : Bool). cond b [] (ended_hour missing newest ∷ [])) same)
  | inr other ↦
      let is : ended_by hour missing (Some newest) ≡ ended_hour missing newest ∷ [] = ap (λ (b : Bool). cond b [] (ended_hour missing newest ∷ [])) other in
      ap (λ (xs : List HourCounts). reverse (xs ++ older)) is ∙ reverse_onto older (ended_hour missing newest) [] ∙ ap (λ (xs : List HourCounts). reverse older ++ xs) (sym is)
]

pub hours-more : (interval : Option ℕ) (unit : ℕ) (last : Option ℕ) (listed : List AnyCode) (t : ℕ) (rows : List SatelliteRow) (locks : Locks) (hs : List HourCounts)
    (time hour missing after : ℕ) (old new : Hours) (from with : HourCounts)
    → time ≡ t → hour ≡ hour_at interval time → missing ≡ missing_since interval unit last time → after ≡ missing_until interval unit last time
    → from ≡ hour_onto hour old.newest → with ≡ with_record missing listed rows locks from → new.newest ≡ Some with → new.ended.items ≡ old.ended.items ++ ended_by hour after old.newest
    → AreHours old hs → AreHours new (hours_with interval unit last listed t rows locks hs)
hours-more interval unit last listed t rows locks hs time hour missing after old new from with at is_hour is_missing is_after is_from is_with is_new ended are =
    let at_hour : hour ≡ hour_at interval t = is_hour ∙ ap (λ (k : ℕ). hour_at interval k) at in
    let at_missing : missing ≡ missing_since interval unit last t = is_missing ∙ ap (λ (k : ℕ). missing_since interval unit last k) at in
    let at_after : after ≡ missing_until interval unit last t = is_after ∙ ap (λ (k : ℕ). missing_until interval unit last k) at in
    record {
      newest = is_new
          ∙ ap (λ (h : HourCounts). Some h) (is_with
          ∙ ap (λ (h : HourCounts). with_record missing listed rows locks h) is_from
          ∙ ap (λ (k : ℕ). with_record k listed rows locks (hour_onto hour old.newest)) at_missing
          ∙ ap (λ (k : ℕ). with_record (missing_since interval unit last t) listed rows locks (hour_onto k old.newest)) at_hour
          ∙ ap (λ (o : Option HourCounts). with_record (missing_since interval unit last t) listed rows locks (hour_onto (hour_at interval t) o)) are.newest);
      ended = ended
          ∙ ap (λ (xs : List HourCounts). xs ++ ended_by hour after old.newest) are.ended
          ∙ ap (λ (k : ℕ). reverse (older_hours hs) ++ ended_by k after old.newest) at_hour
          ∙ ap (λ (k : ℕ). reverse (older_hours hs) ++ ended_by (hour_at interval t) k old.newest) at_after
          ∙ ap (λ (o : Option HourCounts). reverse (older_hours hs) ++ ended_by (hour_at interval t) (missing_until interval unit last t) o) are.newest
          ∙ sym (ended-more (hour_at interval t) (missing_until interval unit last t) (newest_hour hs) (older_hours hs));
    }

-- all hours
all-hours : (hs : List HourCounts) → reverse hs ≡ reverse (older_hours hs) ++ list_of_hour (newest_hour hs)
all-hours [] = refl
all-hours (h ∷ hs) = reverse_onto hs h []

pub hours-are-all : (hours : Hours) (hs : List HourCounts) (none ended all : List HourCounts) → AreHours hours hs → none ≡ [] → ended ≡ none ++ hours.ended.items
    → all ≡ ended ++ list_of_hour hours.newest → all ≡ reverse hs
hours-are-all hours hs none ended all are is_none extended made =
    made ∙ ap (λ (xs : List HourCounts). xs ++ list_of_hour hours.newest) (extended ∙ ap (λ (xs : List HourCounts). xs ++ hours.ended.items) is_none ∙ are.ended)
    ∙ ap (λ (o : Option HourCounts). reverse (older_hours hs) ++ list_of_hour o) are.newest ∙ sym (all-hours hs)

-- the hours, a record more
pub hours-noted : (interval : Option ℕ) (unit : ℕ) (listed : List AnyCode) (e : EpochTableView) (es : List EpochTableView) (last : Option ℕ) (locks : Locks) (old new : Hours)
    → last ≡ newest_moment es → locks ≡ locks_onto interval es e.time no_locks e.rows → AreHours old (noted_hours interval unit listed es)
    → ((hs : List HourCounts) → AreHours old hs → AreHours new (hours_with interval unit last listed e.time e.rows locks hs))
    → AreHours new (noted_hours interval unit listed (e ∷ es))
hours-noted interval unit listed e es last locks old new is_last is_locks are took =
    let hs : List HourCounts = noted_hours interval unit listed es in
    subst (λ (o : Option ℕ). AreHours new (hours_with interval unit o listed e.time e.rows (locks_onto interval es e.time no_locks e.rows) hs)) is_last
    (subst (λ (x : Locks). AreHours new (hours_with interval unit last listed e.time e.rows x hs)) is_locks (took hs are))
