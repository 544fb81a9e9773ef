-- One more cell of an epoch.
use Rattle.std.proofs.Common.{◌≡◌, ◌≢◌, ℕ, ◌<◌, ◌≤◌, [], ◌∷◌, ◌++◌, List, refl, sym, ap, subst, ◌∙◌, arith, Some, None, Option, true, false, Bool, cond, ◌+◌, ◌-◌, ◌*◌}
use Rattle.std.specs.Prelude.{is_some}
use Rattle.std.proofs.lemmas.Bool.{eq-eqb, ne_eqb}
use Rattle.rtk_obs.specs.declared.track.Track.{Track}
use Rattle.rtk_obs.specs.declared.any_code.AnyCode.{AnyCode}
use Rattle.rtk_obs.specs.declared.signal_cells.SignalEntry.{SignalEntry}
use Rattle.rtk_obs.specs.AnyCode.{IsSignal, number_of, place_of, signal_place}
use Rattle.rtk_obs.specs.Slip.{epoch_cell, has_phase, EpochCell}
use Rattle.rtk_obs.specs.Rollover.{last_after, digits_since, track_of, last_phase}
use Rattle.rtk_obs.specs.Tracks.{IsLater}
use Rattle.rtk_rinex.specs.declared.epoch_table.Observed.{Observed}
use Rattle.rtk_convert.specs.LastPhases.{track_at}
use Rattle.rtk_convert.specs.Rows.{rolling_frequency, is_signal, first_cell, observed_with, observed_after, and_below}
use Rattle.rtk_convert.specs.Steps.ShownCells.{track_after, AreTaken, MayStep, shown_by, is_at}
use Rattle.rtk_convert.proofs.PlacesLemmas.{by_eq, same_test, other_signal, same_signal}

-- a cell of another satellite or code changes nothing for them
pub cell-other : (xs : List SignalEntry) (e : SignalEntry) (s : ℕ) (c : AnyCode) → is_signal s c e ≡ false → first_cell (xs ++ e ∷ []) s c ≡ first_cell xs s c
cell-other [] e s c h = rw h refl
cell-other (x ∷ xs) e s c h = ap (λ (o : Option SignalEntry). cond (is_signal s c x) (Some x) o) (cell-other xs e s c h)

cell-step : (b : Bool) (x : SignalEntry) (o p : Option SignalEntry) (y : SignalEntry) → (o ≡ Some y → p ≡ Some y) → cond b (Some x) o ≡ Some y → cond b (Some x) p ≡ Some y
cell-step true x o p y f h = h
cell-step false x o p y f h = f h

-- the first cell stays the first
cell-kept : (xs : List SignalEntry) (e : SignalEntry) (s : ℕ) (c : AnyCode) (x : SignalEntry) → first_cell xs s c ≡ Some x → first_cell (xs ++ e ∷ []) s c ≡ Some x
cell-kept [] e s c x h = cc
cell-kept (y ∷ xs) e s c x h = cell-step (is_signal s c y) y (first_cell xs s c) (first_cell (xs ++ e ∷ []) s c) x (cell-kept xs e s c x) h

cell-none : (b : Bool) (x : SignalEntry) (o p : Option SignalEntry) (y : SignalEntry) → (o ≡ None → p ≡ Some y) → cond b (Some x) o ≡ None → cond b (Some x) p ≡ Some y
cell-none true x o p y f h = cc
cell-none false x o p y f h = f h

-- a first cell
cell-new : (xs : List SignalEntry) (e : SignalEntry) (s : ℕ) (c : AnyCode) → is_signal s c e ≡ true → first_cell xs s c ≡ None → first_cell (xs ++ e ∷ []) s c ≡ Some e
cell-new [] e s c t h = rw t refl
cell-new (y ∷ xs) e s c t h = cell-none (is_signal s c y) y (first_cell xs s c) (first_cell (xs ++ e ∷ []) s c) e (cell-new xs e s c t) h

some-kept : (o p : Option SignalEntry) → is_some o ≡ true → ((x : SignalEntry) → o ≡ Some x → p ≡ Some x) → p ≡ o
some-kept None p h f = cc
some-kept (Some x) p h f = f x refl

-- a cell whose satellite and code came before it changes nothing
pub cells-same : (xs : List SignalEntry) (e : SignalEntry) → IsSignal e.satellite e.code → is_some (first_cell xs e.satellite e.code) ≡ true
    → (s : ℕ) (c : AnyCode) → IsSignal s c → first_cell (xs ++ e ∷ []) s c ≡ first_cell xs s c
cells-same xs e he there s c hs =
    by_eq (signal_place e.satellite e.code) (signal_place s c)
    (λ q. let p = same_signal e.satellite s e.code c he hs q in
    let here : is_some (first_cell xs s c) ≡ true = subst (λ (x : ℕ). is_some (first_cell xs x c) ≡ true) p.0 (subst (λ (y : AnyCode). is_some (first_cell xs e.satellite y) ≡ true) p.1 there) in
    some-kept (first_cell xs s c) (first_cell (xs ++ e ∷ []) s c) here (cell-kept xs e s c))
    (λ ne. cell-other xs e s c (other_signal e.satellite s e.code c ne))

pub taken-same : (old : List (Option Track)) (epoch : ℕ) (xs ys : List SignalEntry) (new : List (Option Track)) → ((s : ℕ) (c : AnyCode) → IsSignal s c → first_cell ys s c ≡ first_cell xs s c)
    → AreTaken old epoch xs new → AreTaken old epoch ys new
taken-same old epoch xs ys new same g s c hs = g s c hs ∙ ap (track_after (track_at old s c) c epoch) (sym (same s c hs))

pub may-same : (new : List (Option Track)) (xs ys : List SignalEntry) (s epoch : ℕ) → ((c : AnyCode) → IsSignal s c → first_cell ys s c ≡ first_cell xs s c)
    → MayStep new xs s epoch → MayStep new ys s epoch
may-same new xs ys s epoch same may c hc none = may c hc (sym (same c hc) ∙ none)

-- a cell of a new satellite and code
pub taken-more : (old : List (Option Track)) (epoch : ℕ) (xs : List SignalEntry) (new after : List (Option Track)) (e : SignalEntry) → IsSignal e.satellite e.code
    → first_cell xs e.satellite e.code ≡ None
    → track_at after e.satellite e.code ≡ last_after (rolling_frequency e.code) (track_at new e.satellite e.code) (epoch_cell epoch e.cell)
    → ((s : ℕ) (c : AnyCode) → signal_place s c ≢ signal_place e.satellite e.code → track_at after s c ≡ track_at new s c)
    → AreTaken old epoch xs new → AreTaken old epoch (xs ++ e ∷ []) after
taken-more old epoch xs new after e he none same others g s c hs =
    let cell : first_cell (xs ++ e ∷ []) e.satellite e.code ≡ Some e = cell-new xs e e.satellite e.code (same_test e.satellite (number_of e.code) e.satellite (number_of e.code) refl refl) none in
    let last : track_at new e.satellite e.code ≡ track_at old e.satellite e.code = g e.satellite e.code he ∙ ap (track_after (track_at old e.satellite e.code) e.code epoch) none in
    let here : track_at after e.satellite e.code ≡ track_after (track_at old e.satellite e.code) e.code epoch (first_cell (xs ++ e ∷ []) e.satellite e.code) =
    same ∙ ap (λ (t : Option Track). track_after t e.code epoch (Some e)) last ∙ ap (track_after (track_at old e.satellite e.code) e.code epoch) (sym cell) in
    by_eq (signal_place e.satellite e.code) (signal_place s c)
    (λ q. let p = same_signal e.satellite s e.code c he hs q in
    subst (λ (x : ℕ). track_at after x c ≡ track_after (track_at old x c) c epoch (first_cell (xs ++ e ∷ []) x c)) p.0
    (subst (λ (y : AnyCode). track_at after e.satellite y ≡ track_after (track_at old e.satellite y) y epoch (first_cell (xs ++ e ∷ []) e.satellite y)) p.1 here))
    (λ ne. others s c (λ q. ne (sym q)) ∙ g s c hs ∙ ap (track_after (track_at old s c) c epoch) (sym (cell-other xs e s c (other_signal e.satellite s e.code c ne))))

-- what a new cell shows, and what the other codes of its system show
pub shown-more : (old : List (Option Track)) (epoch : ℕ) (xs : List SignalEntry) (new : List (Option Track)) (e : SignalEntry) → IsSignal e.satellite e.code
    → first_cell xs e.satellite e.code ≡ None → AreTaken old epoch xs new → (c : AnyCode) → IsSignal e.satellite c
    → shown_by old epoch (xs ++ e ∷ []) e.satellite c
    ≡ cond (is_at (place_of e.code) c) (Some (observed_with e (digits_since (rolling_frequency e.code) (track_at new e.satellite e.code) (epoch_cell epoch e.cell)))) (shown_by old epoch xs e.satellite c)
shown-more old epoch xs new e he none g c hc =
    let s : ℕ = e.satellite in
    let o : Option Track → Observed = λ (t : Option Track). observed_with e (digits_since (rolling_frequency e.code) t (epoch_cell epoch e.cell)) in
    let cell : first_cell (xs ++ e ∷ []) s e.code ≡ Some e = cell-new xs e s e.code (same_test s (number_of e.code) s (number_of e.code) refl refl) none in
    let last : track_at new s e.code ≡ track_at old s e.code = g s e.code he ∙ ap (track_after (track_at old s e.code) e.code epoch) none in
    let here : shown_by old epoch (xs ++ e ∷ []) s e.code ≡ cond (is_at (place_of e.code) e.code) (Some (o (track_at new s e.code))) (shown_by old epoch xs s e.code) =
    ap (observed_after (track_at old s e.code) e.code epoch) cell ∙ ap (λ (t : Option Track). Some (o t)) (sym last)
    ∙ ap (λ (b : Bool). cond b (Some (o (track_at new s e.code))) (shown_by old epoch xs s e.code)) (sym (eq-eqb (place_of e.code) (place_of e.code) refl)) in
    by_eq (signal_place s e.code) (signal_place s c)
    (λ q. let p = same_signal s s e.code c he hc q in
    subst (λ (y : AnyCode). shown_by old epoch (xs ++ e ∷ []) s y ≡ cond (is_at (place_of e.code) y) (Some (o (track_at new s e.code))) (shown_by old epoch xs s y)) p.1 here)
    (λ ne. ap (observed_after (track_at old s c) c epoch) (cell-other xs e s c (other_signal s s e.code c ne))
    ∙ ap (λ (b : Bool). cond b (Some (o (track_at new s e.code))) (shown_by old epoch xs s c)) (sym (ne_eqb (place_of c) (place_of e.code) (λ q. ne (ap (λ (k : ℕ). (s - 1) * 16 + k) (sym q))))))

none-rest : (b : Bool) (x : SignalEntry) (o : Option SignalEntry) → o ≢ None → cond b (Some x) o ≢ None
none-rest true x o f h = cc
none-rest false x o f h = f h

not-none : (xs : List SignalEntry) (e : SignalEntry) (s : ℕ) (c : AnyCode) → is_signal s c e ≡ true → first_cell (xs ++ e ∷ []) s c ≢ None
not-none [] e s c t h = let some : first_cell (e ∷ []) s c ≡ Some e = rw t refl in cc
not-none (y ∷ xs) e s c t h = none-rest (is_signal s c y) y (first_cell (xs ++ e ∷ []) s c) (not-none xs e s c t) h

-- a code without a cell may have one, also after a cell
pub may-more : (new after : List (Option Track)) (xs : List SignalEntry) (s epoch : ℕ) (e : SignalEntry)
    → ((s : ℕ) (c : AnyCode) → signal_place s c ≢ signal_place e.satellite e.code → track_at after s c ≡ track_at new s c)
    → IsSignal e.satellite e.code → MayStep new xs s epoch → MayStep after (xs ++ e ∷ []) s epoch
may-more new after xs s epoch e others he may c hc none =
    by_eq (signal_place e.satellite e.code) (signal_place s c)
    (λ q. let p = same_signal e.satellite s e.code c he hc q in
    absurd (not-none xs e s c (same_test e.satellite (number_of e.code) s (number_of c) p.0 (ap number_of p.1)) none))
    (λ ne. subst (λ (t : Option Track). IsLater t epoch) (sym (others s c (λ q. ne (sym q))))
    (may c hc (sym (cell-other xs e s c (other_signal e.satellite s e.code c ne)) ∙ none)))

-- ---- a whole epoch

pub track-below : (o : Option SignalEntry) (epoch : ℕ) (code : AnyCode) (below : List EpochCell)
    → track_after (last_phase (rolling_frequency code) below) code epoch o ≡ last_phase (rolling_frequency code) (and_below epoch o below)
track-below None epoch code below = refl
track-below (Some c) epoch code below = refl

later-more : (o : Option Track) (e f : ℕ) → e ≤ f → IsLater o e → IsLater o f
later-more None e f le h = h
later-more (Some t) e f le h = omega arith

later-if : (b : Bool) (t : Track) (last : Option Track) (e : ℕ) → t.epoch < e → IsLater last e → IsLater (cond b (Some t) last) e
later-if true t last e h k = h
later-if false t last e h k = k

-- after an epoch, its phases are below each later one
pub later-after : (last : Option Track) (code : AnyCode) (epoch later : ℕ) (o : Option SignalEntry) → epoch < later → IsLater last epoch → IsLater (track_after last code epoch o) later
later-after last code epoch later None h k = later-more last epoch later (omega arith) k
later-after last code epoch later (Some c) h k =
    later-if (has_phase (epoch_cell epoch c.cell)) (track_of (rolling_frequency code) last (epoch_cell epoch c.cell)) last later h (later-more last epoch later (omega arith) k)
