-- Under each key the first cell that came in time is kept.
use Rattle.std.proofs.Common.{◌≡◌, ℕ, Bool, true, false, List, [], ◌∷◌, Option, None, Some, refl, ap, sym, ◌∙◌, arith, eqb, inl, inr}
use Rattle.std.specs.Prelude.{◌&&◌, not, option_and_then, if◌then◌else◌}
use Rattle.std.proofs.lemmas.Bool.{cases_order, cases_eq, eq-eqb, ne_eqb, cases_Bool}
use Rattle.rtk_message.specs.declared.any_message.AnyMessage.{AnyMessage as Message}
use Rattle.rtk_collect.specs.EpochSet.{EpochSetView, EpochsFall, cell_under}
use Rattle.rtk_collect.specs.Arrival.{Arrival, At}
use Rattle.rtk_collect.specs.Late.{late}
use Rattle.rtk_collect.specs.Accepted.{kept, with_arrival, cells_at}
use Rattle.rtk_collect.specs.Laws.{CellsRise, earlier, first_taken, FirstIsKept}
use Rattle.rtk_collect.proofs.UnderLemmas.{earlier-none, under-with_cells}
use Rattle.rtk_collect.proofs.ArrivalsLemmas.{with_arrival-new, with_arrival-below, with_arrival-same, below-none, and-true, kept-falls}
use Rattle.rtk_collect.proofs.StationLemmas.{and-none}
use Rattle.rtk_collect.proofs.LateLemmas.{kept-late, kept-new}
use Rattle.rtk_collect.proofs.SetsLemmas.{kept-rise}
use Rattle.rtk_collect.specs.Entries.{Entries}

-- the cells of a message join the kept epochs

held : {E S : Type 0} (es : Entries E S) → ℕ → ℕ → List (EpochSetView E) → Option E
held es k e xs = option_and_then (cell_under es k) (cells_at e xs)

under-with_arrival : {E S : Type 0} (es : Entries E S) (k e f : ℕ) (cs : List E) (xs : List (EpochSetView E)) → EpochsFall xs → CellsRise es xs
    → held es k e (with_arrival es f cs xs) ≡ earlier (held es k e xs) (if eqb f e then cell_under es k cs else None)
unfolding held
under-with_arrival es k e f cs [] falls rise = elim (cases_eq e f) [
  | inl here ↦ rw (eq-eqb e f here, eq-eqb f e (sym here)) (under-with_cells es k cs [] tt)
  | inr other ↦ rw (ne_eqb e f other, ne_eqb f e (λ q. other (sym q))) refl
]
under-with_arrival es k e f cs (x ∷ xs) falls rise = elim (cases_order x.epoch f) [
  | inl same ↦ rw (with_arrival-same es f cs x xs (sym same)) (elim (cases_eq e x.epoch) [
    | inl here ↦ rw (eq-eqb e x.epoch here, eq-eqb f e (sym (here ∙ same))) (under-with_cells es k cs x.cells rise.0)
    | inr other ↦ rw (ne_eqb e x.epoch other, ne_eqb f e (λ q. other (sym (same ∙ q)))) (sym (earlier-none (held es k e xs)))
  ])
  | inr more ↦ elim more [
    | inl new ↦ rw (with_arrival-new es f cs x xs new) (elim (cases_eq e f) [
      | inl here ↦
          let none : cells_at e (x ∷ xs) ≡ None = below-none e x xs falls (omega arith) in
          rw (eq-eqb e f here, eq-eqb f e (sym here)) (under-with_cells es k cs [] tt ∙ ap (λ o. earlier (option_and_then (cell_under es k) o) (cell_under es k cs)) (sym none))
      | inr other ↦ rw (ne_eqb e f other, ne_eqb f e (λ q. other (sym q))) (sym (earlier-none (held es k e (x ∷ xs))))
    ])
    | inr below ↦ rw (with_arrival-below es f cs x xs below) (elim (cases_eq e x.epoch) [
      | inl here ↦ rw (eq-eqb e x.epoch here, ne_eqb f e (λ q. omega arith)) (sym (earlier-none (cell_under es k x.cells)))
      | inr other ↦ rw (ne_eqb e x.epoch other) (under-with_arrival es k e f cs xs falls.1 rise.1)
    ])
  ]
]

-- an arrival that is late adds nothing
passes : {E S : Type 0} (es : Entries E S) (of : Message → List E) (n e k f : ℕ) (m : Message) (before : List Arrival) → late n (At (Some f) m) before ≡ true → first_taken es of n e k (At (Some f) m ∷ before) ≡ first_taken es of n e k before
passes es of n e k f m before h =
    ap (λ (b : Bool). earlier (first_taken es of n e k before) (if eqb f e && not b then cell_under es k (of m) else None)) h
    ∙ ap (λ (b : Bool). earlier (first_taken es of n e k before) (if b then cell_under es k (of m) else None)) (and-none (eqb f e))
    ∙ earlier-none (first_taken es of n e k before)

-- one that is not adds its cell, if it is of the epoch
joins : {E S : Type 0} (es : Entries E S) (of : Message → List E) (n e k f : ℕ) (m : Message) (before : List Arrival) → late n (At (Some f) m) before ≡ false
    → first_taken es of n e k (At (Some f) m ∷ before) ≡ earlier (first_taken es of n e k before) (if eqb f e then cell_under es k (of m) else None)
joins es of n e k f m before h =
    ap (λ (b : Bool). earlier (first_taken es of n e k before) (if eqb f e && not b then cell_under es k (of m) else None)) h
    ∙ ap (λ (b : Bool). earlier (first_taken es of n e k before) (if b then cell_under es k (of m) else None)) (and-true (eqb f e))

pub first-is-kept : {E S : Type 0} (es : Entries E S) (of : Message → List E) → FirstIsKept es of
unfolding held
first-is-kept es of n e k [] = refl
first-is-kept es of n e k (At None m ∷ before) = first-is-kept es of n e k before
first-is-kept es of n e k (At (Some f) m ∷ before) = elim (cases_Bool (late n (At (Some f) m) before)) [
  | inl out ↦ ap (held es k e) (kept-late es of n f m before out) ∙ first-is-kept es of n e k before ∙ sym (passes es of n e k f m before out)
  | inr in_time ↦
      ap (held es k e) (kept-new es of n f m before in_time) ∙ under-with_arrival es k e f (of m) (kept es of n before) (kept-falls es of n before) (kept-rise es of n before)
      ∙ ap (λ o. earlier o (if eqb f e then cell_under es k (of m) else None)) (first-is-kept es of n e k before) ∙ sym (joins es of n e k f m before in_time)
]
