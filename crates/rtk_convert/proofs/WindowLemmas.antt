-- Windows with cells of one form as windows with signals of any system.
use Rattle.std.proofs.Common.{◌≡◌, ◌∙◌, ◌<◌, ◌≤◌, ℕ, List, [], ◌∷◌, map, Option, None, Some, refl, sym, ap, subst, arith}
use Rattle.std.specs.Prelude.{All, option_map}
use Rattle.std.proofs.lemmas.List.{get_or-map, length-map, map-append}
use Rattle.std.proofs.lemmas.List.Elements.{All-map}
use Rattle.rtk_obs.specs.declared.signal_cells.SignalEntry.{SignalEntry}
use Rattle.rtk_collect.specs.declared.conflicts.AnySatelliteCode.{AnySatelliteCode}
use Rattle.rtk_collect.specs.declared.outcome.Outcome.{Outcome}
use Rattle.rtk_collect.specs.declared.outcome.Outcome.TheVariants.{Taken, Conflict, Repeat, Late}
use Rattle.rtk_collect.specs.Collector.{CollectorView}
use Rattle.rtk_collect.specs.EpochSet.{EpochSetView}
use Rattle.rtk_collect.specs.Offered.{ClosesBelow, ClosesLeast, LeastNeverFalls, NotBelow}
use Rattle.rtk_convert.specs.Epochs.{set_of, window_of, outcome_of}

module _ {E : Type 0} (f : E → SignalEntry) where
  -- what holds of the epochs of all sets, and of all sets as signals
  pub to-signals : (P : ℕ → Type 0) (sets : List (EpochSetView E)) → All (λ x. P x.epoch) sets → All (λ x. P x.epoch) (map (set_of f) sets)
  to-signals P sets h = All-map (λ (x : EpochSetView SignalEntry). P x.epoch) (set_of f) sets h

  pub from-signals : (P : ℕ → Type 0) (sets : List (EpochSetView E)) → All (λ x. P x.epoch) (map (set_of f) sets) → All (λ x. P x.epoch) sets
  from-signals P sets h = λ k d lt.
      let is = get_or-map (set_of f) sets k d (set_of f d) lt in
      subst (λ (x : EpochSetView SignalEntry). P x.epoch) is (h k (set_of f d) (omega (arith, lt, length-map sets (set_of f))))

  pub below-map : {S : Type 0} (offer : Outcome E S) (sets : List (EpochSetView E)) → ClosesBelow offer sets → ClosesBelow (outcome_of f offer) (map (set_of f) sets)
  below-map (Taken (Some set)) sets h = to-signals (λ (e : ℕ). set.epoch < e) sets h
  below-map (Taken None) sets h = tt
  below-map Conflict sets h = tt
  below-map Repeat sets h = tt
  below-map Late sets h = tt

  not-below-map : (set : EpochSetView E) (sets : List (EpochSetView E)) → NotBelow set sets → NotBelow (set_of f set) (map (set_of f) sets)
  not-below-map set sets h = λ e all. h e (from-signals (λ (x : ℕ). e ≤ x) sets all)

  pub least-map : {S : Type 0} (n : ℕ) (sets : List (EpochSetView E)) (offer : Outcome E S) → ClosesLeast n sets offer → ClosesLeast n (map (set_of f) sets) (outcome_of f offer)
  least-map n sets (Taken (Some set)) h = (
    length-map sets (set_of f) ∙ h.0,
    (map (set_of f) h.1.0, ap (map (set_of f)) h.1.1 ∙ map-append (set_of f) h.1.0 (set ∷ [])),
    not-below-map set sets h.2,
  )
  least-map n sets (Taken None) h = tt
  least-map n sets Conflict h = tt
  least-map n sets Repeat h = tt
  least-map n sets Late h = tt

  pub never-map : (old new : CollectorView E) → LeastNeverFalls old new → LeastNeverFalls (window_of f old) (window_of f new)
  never-map old new h = λ full.
      let n = h (sym (length-map old.sets (set_of f)) ∙ full) in (
        length-map new.sets (set_of f) ∙ n.0,
        λ e all. to-signals (λ (x : ℕ). e ≤ x) new.sets (n.1 e (from-signals (λ (x : ℕ). e ≤ x) old.sets all)),
      )

-- ---- signals as signals

pub map-id : {A : Type 0} (f : A → A) → ((x : A) → f x ≡ x) → (xs : List A) → map f xs ≡ xs
map-id f same [] = refl
map-id f same (x ∷ xs) = ap (λ (y : _). y ∷ map f xs) (same x) ∙ ap (λ (ys : List _). x ∷ ys) (map-id f same xs)

abbrev same_signal : SignalEntry → SignalEntry
same_signal e = e

set-id : (set : EpochSetView SignalEntry) → set_of same_signal set ≡ set
set-id set = ap (λ (cs : List SignalEntry). record { epoch = set.epoch; cells = cs }) (map-id same_signal (λ e. refl) set.cells)

pub sets-id : (sets : List (EpochSetView SignalEntry)) → map (set_of (λ e. e)) sets ≡ sets
sets-id sets = map-id (set_of same_signal) set-id sets

pub window-id : (w : CollectorView SignalEntry) → window_of (λ e. e) w ≡ w
window-id w = ap (λ (xs : List (EpochSetView SignalEntry)). record { places = w.places; sets = xs; arp1005 = w.arp1005; arp1006 = w.arp1006 }) (sets-id w.sets)

option-id : (o : Option (EpochSetView SignalEntry)) → option_map (set_of same_signal) o ≡ o
option-id None = refl
option-id (Some set) = ap Some (set-id set)

pub outcome-id : (offer : Outcome SignalEntry AnySatelliteCode) → outcome_of (λ e. e) offer ≡ offer
outcome-id (Taken closing) = ap Taken (option-id closing)
outcome-id Conflict = refl
outcome-id Repeat = refl
outcome-id Late = refl
