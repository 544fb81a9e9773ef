-- A window stays ahead of the last phases: an epoch that closes is above them, and below all epochs
-- that stay.
use Rattle.std.proofs.Common.{◌≡◌, ℕ, suc, ◌<◌, ◌≤◌, List, [], length, get_or, Option, None, Some, refl, ap, sym, subst, arith}
use Rattle.std.specs.Prelude.{All}
use Rattle.std.proofs.lemmas.List.Elements.{All-weaker}
use Rattle.rtk_obs.specs.declared.track.Track.{Track}
use Rattle.rtk_obs.specs.Tracks.{IsLater}
use Rattle.rtk_convert.specs.LastPhases.{track_at}
use Rattle.rtk_obs.specs.declared.signal_cells.SignalEntry.{SignalEntry}
use Rattle.rtk_collect.specs.declared.outcome.Outcome.{Outcome}
use Rattle.rtk_collect.specs.declared.outcome.Outcome.TheVariants.{Taken, Conflict, Repeat, Late}
use Rattle.rtk_collect.specs.EpochSet.{EpochSetView}
use Rattle.rtk_collect.specs.Collector.{CollectorView}
use Rattle.rtk_collect.specs.Offered.{ClosesBelow, ClosesLeast, LeastNeverFalls, NotBelow}
use Rattle.rtk_convert.specs.Steps.Closing.{AllAbove}
use Rattle.rtk_convert.specs.Steps.ShownCells.{AllBelow}
use Rattle.rtk_convert.specs.Steps.AddedMessage.{closed_by}
use Rattle.rtk_convert.specs.Steps.WrittenAnswer.{ClosesAbove, KeepsBelow}
use Rattle.rtk_convert.specs.ClosedEpochs.{ClosedEpochsView}
use Rattle.rtk_convert.specs.Conversion.{IsUnder, IsAhead}
use Rattle.rtk_collect.specs.declared.conflicts.AnySatelliteCode.{AnySatelliteCode}

-- ---- no epoch closes

bound : (t : ℕ) (xs : List (EpochSetView SignalEntry)) → All (λ x. t < x.epoch) xs → All (λ x. suc t ≤ x.epoch) xs
bound t xs h = All-weaker (λ (x : EpochSetView SignalEntry). t < x.epoch) (λ (x : EpochSetView SignalEntry). suc t ≤ x.epoch) (λ x l. omega arith) xs h

under : (t : ℕ) (xs : List (EpochSetView SignalEntry)) → All (λ x. suc t ≤ x.epoch) xs → All (λ x. t < x.epoch) xs
under t xs h = All-weaker (λ (x : EpochSetView SignalEntry). suc t ≤ x.epoch) (λ (x : EpochSetView SignalEntry). t < x.epoch) (λ x l. omega arith) xs h

under-stays : (o : Option Track) (old new : CollectorView SignalEntry) → LeastNeverFalls old new → IsUnder o old → IsUnder o new
under-stays None old new never h = tt
under-stays (Some t) old new never h = let n = never h.0 in (n.0, under t.epoch new.sets (n.1 (suc t.epoch) (bound t.epoch old.sets h.1)))

pub ahead-stays : (old new : CollectorView SignalEntry) (c : ClosedEpochsView) → LeastNeverFalls old new → IsAhead old c → IsAhead new c
ahead-stays old new c never h sat code hs = under-stays (track_at c.tracks sat code) old new never (h sat code hs)

-- ---- an epoch closes

or_none : Option (EpochSetView SignalEntry) → EpochSetView SignalEntry
or_none None = record { epoch = 0; cells = [] }
or_none (Some e) = e

same-set : (set e : EpochSetView SignalEntry) → Some set ≡ Some e → set ≡ e
unfolding or_none
same-set set e h = ap or_none h

closes-least : (n : ℕ) (sets : List (EpochSetView SignalEntry)) (offer : Outcome SignalEntry AnySatelliteCode) (e : EpochSetView SignalEntry) → closed_by offer ≡ Some e → ClosesLeast n sets offer → (length sets ≡ n) × NotBelow e sets
closes-least n sets (Taken (Some set)) e some h = (h.0, subst (λ (x : EpochSetView SignalEntry). NotBelow x sets) (same-set set e some) h.2)
closes-least n sets (Taken None) e some h = cc
closes-least n sets Conflict e some h = cc
closes-least n sets Repeat e some h = cc
closes-least n sets Late e some h = cc

closes-below : (sets : List (EpochSetView SignalEntry)) (offer : Outcome SignalEntry AnySatelliteCode) (e : EpochSetView SignalEntry) → closed_by offer ≡ Some e → ClosesBelow offer sets → All (λ x. e.epoch < x.epoch) sets
closes-below sets (Taken (Some set)) e some h = subst (λ (x : EpochSetView SignalEntry). All (λ y. x.epoch < y.epoch) sets) (same-set set e some) h
closes-below sets (Taken None) e some h = cc
closes-below sets Conflict e some h = cc
closes-below sets Repeat e some h = cc
closes-below sets Late e some h = cc

under-closes : (o : Option Track) (w : CollectorView SignalEntry) (e : EpochSetView SignalEntry) → NotBelow e w.sets → IsUnder o w → IsLater o e.epoch
under-closes None w e least h = tt
under-closes (Some t) w e least h = let l = least (suc t.epoch) (bound t.epoch w.sets h.1) in omega (arith, l)

-- the epoch that closes is above all last phases
pub ahead-closes : (old : CollectorView SignalEntry) (c : ClosedEpochsView) (offer : Outcome SignalEntry AnySatelliteCode) (e : EpochSetView SignalEntry) → closed_by offer ≡ Some e → ClosesLeast old.places old.sets offer → IsAhead old c → AllBelow c.tracks e.epoch
ahead-closes old c offer e some least h sat code hs =
    under-closes (track_at c.tracks sat code) old e (closes-least old.places old.sets offer e some least).1 (h sat code hs)

under-after : (o : Option Track) (e : EpochSetView SignalEntry) (w : CollectorView SignalEntry) → length w.sets ≡ w.places → All (λ x. e.epoch < x.epoch) w.sets → IsLater o (suc e.epoch) → IsUnder o w
under-after None e w full below h = tt
under-after (Some t) e w full below h =
    (full, All-weaker (λ (x : EpochSetView SignalEntry). e.epoch < x.epoch) (λ (x : EpochSetView SignalEntry). t.epoch < x.epoch) (λ x l. omega (arith, l, h)) w.sets below)

-- and the window stays ahead of its phases too
pub ahead-after : (old new : CollectorView SignalEntry) (c : ClosedEpochsView) (offer : Outcome SignalEntry AnySatelliteCode) (e : EpochSetView SignalEntry) → closed_by offer ≡ Some e → ClosesLeast old.places old.sets offer → ClosesBelow offer new.sets
    → LeastNeverFalls old new → AllBelow c.tracks (suc e.epoch) → IsAhead new c
ahead-after old new c offer e some least below never h sat code hs =
    under-after (track_at c.tracks sat code) e new (never (closes-least old.places old.sets offer e some least).0).0 (closes-below new.sets offer e some below) (h sat code hs)

-- whatever closes
pub closes-above : (old : CollectorView SignalEntry) (c : ClosedEpochsView) (offer : Outcome SignalEntry AnySatelliteCode) → ClosesLeast old.places old.sets offer → IsAhead old c → ClosesAbove c (closed_by offer)
closes-above old c (Taken (Some set)) least h = ahead-closes old c (Taken (Some set)) set refl least h
closes-above old c (Taken None) least h = tt
closes-above old c Conflict least h = tt
closes-above old c Repeat least h = tt
closes-above old c Late least h = tt

pub ahead-next : (old new : CollectorView SignalEntry) (c c' : ClosedEpochsView) (offer : Outcome SignalEntry AnySatelliteCode) → ClosesLeast old.places old.sets offer → ClosesBelow offer new.sets
    → LeastNeverFalls old new → IsAhead old c → KeepsBelow c (closed_by offer) c' → IsAhead new c'
ahead-next old new c c' (Taken (Some set)) least below never h keeps = ahead-after old new c' (Taken (Some set)) set refl least below never (keeps (suc set.epoch) (omega arith))
ahead-next old new c c' (Taken None) least below never h keeps = subst (IsAhead new) (sym keeps) (ahead-stays old new c never h)
ahead-next old new c c' Conflict least below never h keeps = subst (IsAhead new) (sym keeps) (ahead-stays old new c never h)
ahead-next old new c c' Repeat least below never h keeps = subst (IsAhead new) (sym keeps) (ahead-stays old new c never h)
ahead-next old new c c' Late least below never h keeps = subst (IsAhead new) (sym keeps) (ahead-stays old new c never h)

-- ---- the end

under-all : (o : Option Track) (w : CollectorView SignalEntry) (k : ℕ) (d : EpochSetView SignalEntry) → k < length w.sets → IsUnder o w → IsLater o (get_or w.sets k d).epoch
under-all None w k d l h = tt
under-all (Some t) w k d l h = h.1 k d l

-- the epochs of the window are above all last phases
pub ahead-all : (w : CollectorView SignalEntry) (c : ClosedEpochsView) → IsAhead w c → AllAbove c w.sets
ahead-all w c h k d l sat code hs = under-all (track_at c.tracks sat code) w k d l (h sat code hs)

-- without last phases any window is ahead
under-none : (o : Option Track) (w : CollectorView SignalEntry) → IsLater o 0 → IsUnder o w
under-none None w h = tt
under-none (Some t) w h = absurd (omega (arith, h))

pub ahead-none : (w : CollectorView SignalEntry) (c : ClosedEpochsView) → AllBelow c.tracks 0 → IsAhead w c
ahead-none w c h sat code hs = under-none (track_at c.tracks sat code) w (h sat code hs)
