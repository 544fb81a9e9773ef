-- A window of all systems keeps of messages of GPS what a window of GPS keeps.
use Rattle.std.proofs.Common.{◌≡◌, ◌∙◌, ℕ, ◌+◌, ◌*◌, ℤ, List, [], ◌∷◌, map, None, Some, Option, inl, inr, refl, sym, ap}
use Rattle.std.specs.List.{AllByRecursion}
use Rattle.std.proofs.lemmas.Bool.{cases_order, cases_Bool}
use Rattle.std.proofs.lemmas.List.Elements.{recursion_from_All}
use Rattle.rtk_message.specs.declared.any_message.AnyMessage.{AnyMessage as Message}
use Rattle.rtk_message.specs.declared.any_message.AnyMessage.TheVariants as any
use Rattle.rtk_obs.specs.Code.{place_of}
use Rattle.rtk_obs.specs.MessageCells.{cells_of}
use Rattle.rtk_obs.specs.SignalCells.{signal_of, entries_of}
use Rattle.rtk_obs.specs.declared.cell.CellEntry.{CellEntry}
use Rattle.rtk_obs.specs.declared.signal_cells.SignalEntry.{SignalEntry}
use Rattle.rtk_obs.proofs.PublicLaws.{entries-of-gps}
use Rattle.rtk_collect.specs.Accepted.{no_cells, with_arrival, kept}
use Rattle.rtk_collect.specs.Arrival.{Arrival, At, message_of}
use Rattle.rtk_collect.specs.EpochSet.{EpochSetView, with_cell, with_cells, joined}
use Rattle.rtk_collect.specs.Gps.{gps}
use Rattle.rtk_collect.specs.Key.{key, key_at, rank_of}
use Rattle.rtk_collect.specs.Late.{late}
use Rattle.rtk_collect.specs.Signals.{signals, IsGpsMessage, epoch_of_signals, GpsIsKept}
use Rattle.rtk_collect.proofs.ArrivalsLemmas.{with_arrival-new, with_arrival-below, with_arrival-same}
use Rattle.rtk_collect.proofs.CellsLemmas.{with_cell-new, with_cell-past, with_cell-same}
use Rattle.rtk_collect.proofs.EqualityLemmas.{place-less, rank-less, parts-one}
use Rattle.rtk_collect.proofs.LateLemmas.{kept-late, kept-new}
use Rattle.rtk_collect.proofs.SignalLemmas.{key-of-gps, gps-keeps-its-order}

same-key : (c d : CellEntry) → key gps c ≡ key gps d → key signals (signal_of c) ≡ key signals (signal_of d)
unfolding key key_at
same-key c d h =
    let p = parts-one c.satellite d.satellite (place_of c.code) (place_of d.code) (rank_of c.cell.source) (rank_of d.cell.source) (place-less c.code) (place-less d.code) (rank-less c.cell.source) (rank-less d.cell.source) h in
    key-of-gps c
    ∙ ap (λ (s : ℕ). (s * 128 + place_of c.code) * 2 + rank_of c.cell.source) p.0 ∙ ap (λ (k : ℕ). (d.satellite * 128 + k) * 2 + rank_of c.cell.source) p.1 ∙ ap (λ (r : ℕ). (d.satellite * 128 + place_of d.code) * 2 + r) p.2
    ∙ sym (key-of-gps d)

cell-joins : (c : CellEntry) (xs : List CellEntry) → with_cell signals (signal_of c) (map signal_of xs) ≡ map signal_of (with_cell gps c xs)
cell-joins c [] = refl
cell-joins c (x ∷ xs) = elim (cases_order (key gps c) (key gps x)) [
  | inl same ↦ with_cell-same signals (signal_of c) (signal_of x) (map signal_of xs) (same-key c x same) ∙ sym (ap (map signal_of) (with_cell-same gps c x xs same))
  | inr other ↦ elim other [
    | inl new ↦ with_cell-new signals (signal_of c) (signal_of x) (map signal_of xs) ((gps-keeps-its-order c x).0 new) ∙ sym (ap (map signal_of) (with_cell-new gps c x xs new))
    | inr past ↦ with_cell-past signals (signal_of c) (signal_of x) (map signal_of xs) ((gps-keeps-its-order x c).0 past)
        ∙ ap (λ (ys : List SignalEntry). signal_of x ∷ ys) (cell-joins c xs) ∙ sym (ap (map signal_of) (with_cell-past gps c x xs past))
  ]
]

cells-join : (cs xs : List CellEntry) → with_cells signals (map signal_of cs) (map signal_of xs) ≡ map signal_of (with_cells gps cs xs)
cells-join [] xs = refl
cells-join (c ∷ cs) xs = ap (with_cells signals (map signal_of cs)) (cell-joins c xs) ∙ cells-join cs (with_cell gps c xs)

epoch-joins : (cs : List CellEntry) (x : EpochSetView CellEntry) → joined signals (map signal_of cs) (epoch_of_signals x) ≡ epoch_of_signals (joined gps cs x)
epoch-joins cs x = ap (λ (cells : List SignalEntry). record { epoch = x.epoch; cells = cells }) (cells-join cs x.cells)

arrival-joins : (e : ℕ) (cs : List CellEntry) (xs : List (EpochSetView CellEntry)) → with_arrival signals e (map signal_of cs) (map epoch_of_signals xs) ≡ map epoch_of_signals (with_arrival gps e cs xs)
arrival-joins e cs [] = ap (λ (x : EpochSetView SignalEntry). x ∷ []) (epoch-joins cs (no_cells e))
arrival-joins e cs (y ∷ ys) = elim (cases_order y.epoch e) [
  | inl same ↦ with_arrival-same signals e (map signal_of cs) (epoch_of_signals y) (map epoch_of_signals ys) (sym same)
      ∙ ap (λ (x : EpochSetView SignalEntry). x ∷ map epoch_of_signals ys) (epoch-joins cs y)
      ∙ sym (ap (map epoch_of_signals) (with_arrival-same gps e cs y ys (sym same)))
  | inr other ↦ elim other [
    | inl new ↦ with_arrival-new signals e (map signal_of cs) (epoch_of_signals y) (map epoch_of_signals ys) new
        ∙ ap (λ (x : EpochSetView SignalEntry). x ∷ epoch_of_signals y ∷ map epoch_of_signals ys) (epoch-joins cs (no_cells e))
        ∙ sym (ap (map epoch_of_signals) (with_arrival-new gps e cs y ys new))
    | inr below ↦ with_arrival-below signals e (map signal_of cs) (epoch_of_signals y) (map epoch_of_signals ys) below
        ∙ ap (λ (xs : List (EpochSetView SignalEntry)). epoch_of_signals y ∷ xs) (arrival-joins e cs ys)
        ∙ sym (ap (map epoch_of_signals) (with_arrival-below gps e cs y ys below))
  ]
]

entries-of : (channels : List (Option ℤ)) (m : Message) → IsGpsMessage m → entries_of channels m ≡ map signal_of (cells_of m)
entries-of channels (any.Message m) is = refl
entries-of channels (any.Msm m) is = entries-of-gps channels m is
entries-of channels (any.Obs1012 m) is = absurd is

kept-is : (channels : List (Option ℤ)) (n : ℕ) (arrivals : List Arrival) → AllByRecursion (λ (a : Arrival). IsGpsMessage (message_of a)) arrivals
    → kept signals (entries_of channels) n arrivals ≡ map epoch_of_signals (kept gps cells_of n arrivals)
kept-is channels n [] h = refl
kept-is channels n (At None m ∷ before) h = kept-is channels n before h.1
kept-is channels n (At (Some e) m ∷ before) h = elim (cases_Bool (late n (At (Some e) m) before)) [
  | inl over ↦ kept-late signals (entries_of channels) n e m before over ∙ kept-is channels n before h.1
      ∙ sym (ap (map epoch_of_signals) (kept-late gps cells_of n e m before over))
  | inr fresh ↦ kept-new signals (entries_of channels) n e m before fresh
      ∙ ap (λ (cells : List SignalEntry). with_arrival signals e cells (kept signals (entries_of channels) n before)) (entries-of channels m h.0)
      ∙ ap (with_arrival signals e (map signal_of (cells_of m))) (kept-is channels n before h.1)
      ∙ arrival-joins e (cells_of m) (kept gps cells_of n before)
      ∙ sym (ap (map epoch_of_signals) (kept-new gps cells_of n e m before fresh))
]

pub gps-is-kept : GpsIsKept
gps-is-kept channels n arrivals h = kept-is channels n arrivals (recursion_from_All (λ (a : Arrival). IsGpsMessage (message_of a)) arrivals h)
