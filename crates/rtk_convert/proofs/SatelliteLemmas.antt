-- The cells of a satellite, one after another, and its row.
use Rattle.std.proofs.Common.{◌≡◌, ◌≢◌, ℕ, ◌+◌, ◌-◌, ◌^◌, bit_and, bit_or, length-append, ◌<◌, ◌≤◌, [], ◌∷◌, ◌++◌, List, map, length, get_or, slice_range, refl, sym, ap, subst, ◌∙◌, append_assoc, arith, Option, None, Some, true, cond, inl, inr, Bool}
use Rattle.std.specs.Prelude.{is_some, All}
use Rattle.std.proofs.lemmas.Bool.{cases_lt}
use Rattle.std.proofs.lemmas.List.{append-nil}
use Rattle.std.proofs.lemmas.Nat.{and_le_l, and_or_self, and_or_apart, pow_apart, pow_pos}
use Rattle.std.proofs.Math.Seq.{get_or-append_seam}
use Rattle.rtk_obs.specs.declared.any_code.AnyCode.{AnyCode}
use Rattle.rtk_obs.specs.declared.signal_cells.SignalEntry.{SignalEntry}
use Rattle.rtk_obs.specs.declared.track.Track.{Track}
use Rattle.rtk_obs.specs.AnyCode.{IsSignal, place_of}
use Rattle.rtk_obs.specs.Rollover.{digits_since}
use Rattle.rtk_obs.specs.SatelliteIndex.{IsSatelliteIndex}
use Rattle.rtk_obs.specs.SignalCells.{IsSignalInRange, EntriesAreOfOneKind}
use Rattle.rtk_obs.specs.Slip.{epoch_cell}
use Rattle.rtk_obs.specs.Tracks.{IsLater}
use Rattle.rtk_collect.specs.Key.{KeysRise}
use Rattle.rtk_collect.specs.Signals.{signals}
use Rattle.rtk_rinex.specs.declared.epoch_table.Observed.{Observed}
use Rattle.rtk_rinex.specs.declared.epoch_table.SatelliteRow.{SatelliteRow}
use Rattle.rtk_convert.specs.LastPhases.{track_at}
use Rattle.rtk_convert.specs.Rows.{rolling_frequency, codes_for, first_cell, observed_with, observed_after, or_nothing, row_if_any, rows_to}
use Rattle.rtk_convert.specs.Steps.ShownCells.{AreRowCodes, IsSetOfCodes, MayStep, IsPlaceOf, IsLeastAt, HasFreeOf, IsFreeOf, ShowsRow, ShowsSome, StepsOver, TakesCells, track_after, shown_by, is_at}
use Rattle.rtk_convert.proofs.CellOrderLemmas.{any_cell, some-signal, or_later, first-append, some-before, none-both, range-empty, range-more, range-new, range-satellite, range-other, first-range, first-absent, place-first, place-later, place-between, other-code}
use Rattle.rtk_convert.proofs.PlacesLemmas.{by_eq, same_code_of}
use Rattle.rtk_convert.proofs.ThroughLemmas.{cell-other, cells-same, taken-same, taken-more, may-same, may-more, shown-more}
use Rattle.rtk_convert.proofs.RowsLemmas.{observed-same, row-with, free-of, rows-skip, rows-step}

-- ---- the cells of a satellite, one by one

shown-same : (old : List (Option Track)) (epoch : ℕ) (xs ys : List SignalEntry) (s : ℕ) → ((c : AnyCode) → IsSignal s c → first_cell ys s c ≡ first_cell xs s c)
    → (c : AnyCode) → IsSignal s c → shown_by old epoch xs s c ≡ shown_by old epoch ys s c
shown-same old epoch xs ys s same c hc = ap (observed_after (track_at old s c) c epoch) (sym (same c hc))

-- the row by other cells with the same first ones
pub row-by : (old : List (Option Track)) (epoch : ℕ) (xs ys : List SignalEntry) (s : ℕ) (codes : List AnyCode) → AreRowCodes codes s → ((c : AnyCode) → IsSignal s c → first_cell ys s c ≡ first_cell xs s c)
    → map (λ code. or_nothing (shown_by old epoch xs s code)) codes ≡ map (λ code. or_nothing (shown_by old epoch ys s code)) codes
row-by old epoch xs ys s codes own same = observed-same (IsSignal s) (shown_by old epoch xs s) (shown_by old epoch ys s) codes own (shown-same old epoch xs ys s same)

-- the code of a cell in range is of the system of a satellite that the cell has
pub signal-at : {s : ℕ} (e : SignalEntry) → e.satellite ≡ s → IsSignal e.satellite e.code → IsSignal s e.code
signal-at {s} e at he = subst (λ (n : ℕ). IsSignal n e.code) at he

-- a code without a cell so far shows nothing
row-free : (old : List (Option Track)) (epoch : ℕ) (xs : List SignalEntry) (s : ℕ) (codes : List AnyCode) (e : SignalEntry) → AreRowCodes codes s → e.satellite ≡ s → IsSignal e.satellite e.code
    → first_cell xs e.satellite e.code ≡ None → IsFreeOf (place_of e.code) codes (map (λ code. or_nothing (shown_by old epoch xs s code)) codes)
row-free old epoch xs s codes e own at he none =
    free-of s (shown_by old epoch xs s) e.code codes own (signal-at e at he)
    (ap (observed_after (track_at old s e.code) e.code epoch) (subst (λ (n : ℕ). first_cell xs n e.code ≡ None) at none))

module _ {L : Type 0} (HasRows : L → Bool → List SatelliteRow → Type 0) (HasLine : L → List Observed → Type 0) where
  pub shows-repeat : {old : List (Option Track)} {epoch : ℕ} {xs : List SignalEntry} {s : ℕ} {codes : List AnyCode} {tracks : List (Option Track)} {lines : L} (e : SignalEntry)
      → AreRowCodes codes s → IsSignal e.satellite e.code → is_some (first_cell xs e.satellite e.code) ≡ true
      → ShowsRow HasLine old epoch xs s codes tracks lines → ShowsRow HasLine old epoch (xs ++ e ∷ []) s codes tracks lines
  shows-repeat {old} {epoch} {xs} {s} {codes} {tracks} {lines} e own he there g =
      let same = cells-same xs e he there in
      record {
        taken = taken-same old epoch xs (xs ++ e ∷ []) tracks same g.taken;
        row = subst (λ (row : List Observed). HasLine lines row) (row-by old epoch xs (xs ++ e ∷ []) s codes own (λ c hc. same s c hc)) g.row;
      }

  pub shows-more : {old : List (Option Track)} {epoch : ℕ} {xs : List SignalEntry} {s : ℕ} {codes : List AnyCode} {tracks : List (Option Track)} {lines : L}
      (after : List (Option Track)) (now : L) (e : SignalEntry)
      → AreRowCodes codes s → e.satellite ≡ s → IsSignal e.satellite e.code → first_cell xs e.satellite e.code ≡ None → StepsOver HasRows HasLine epoch e codes tracks after lines now
      → ShowsRow HasLine old epoch xs s codes tracks lines → ShowsRow HasLine old epoch (xs ++ e ∷ []) s codes after now
  shows-more {old} {epoch} {xs} {s} {codes} {tracks} {lines} after now e own at he none step g =
      let o : Observed = observed_with e (digits_since (rolling_frequency e.code) (track_at tracks e.satellite e.code) (epoch_cell epoch e.cell)) in
      let shown : (c : AnyCode) → IsSignal s c → shown_by old epoch (xs ++ e ∷ []) s c ≡ cond (is_at (place_of e.code) c) (Some o) (shown_by old epoch xs s c) =
      λ c hc. subst (λ (x : ℕ). shown_by old epoch (xs ++ e ∷ []) x c ≡ cond (is_at (place_of e.code) c) (Some o) (shown_by old epoch xs x c)) at
      (shown-more old epoch xs tracks e he none g.taken c (subst (λ (n : ℕ). IsSignal n c) (sym at) hc)) in
      record {
        taken = taken-more old epoch xs tracks after e he none step.track step.others g.taken;
        row = subst (λ (row : List Observed). HasLine now row) (row-with (IsSignal s) (shown_by old epoch xs s) (shown_by old epoch (xs ++ e ∷ []) s) (place_of e.code) o codes own shown)
            (step.row (map (λ code. or_nothing (shown_by old epoch xs s code)) codes) g.row (row-free old epoch xs s codes e own at he none));
      }

  -- ---- the cells of a satellite in a list, after earlier ones

  pub takes-begin : (epoch : ℕ) (earlier xs : List SignalEntry) (begin s : ℕ) (codes : List AnyCode) (first : List (Option Track)) (before : L) → begin ≤ length xs
      → MayStep first earlier s epoch → TakesCells HasRows HasLine epoch earlier xs begin begin s codes first before first before
  takes-begin epoch earlier xs begin s codes first before l later =
      let none : earlier ≡ earlier ++ slice_range xs begin begin = sym (ap (λ (ys : List SignalEntry). earlier ++ ys) (range-empty xs begin) ∙ append-nil earlier) in
      record {
        from = omega arith;
        within = l;
        same = λ k d a b. absurd (omega arith);
        later = subst (λ (ys : List SignalEntry). MayStep first ys s epoch) none later;
        kept = λ doppler rows h. h;
        shows = λ old g. subst (λ (ys : List SignalEntry). ShowsRow HasLine old epoch ys s codes first before) none g;
      }

same-more : (xs : List SignalEntry) (begin end s : ℕ) → ((k : ℕ) (d : SignalEntry) → begin ≤ k → k < end → (get_or xs k d).satellite ≡ s) → ((d : SignalEntry) → (get_or xs end d).satellite ≡ s)
    → (k : ℕ) (d : SignalEntry) → begin ≤ k → k < end + 1 → (get_or xs k d).satellite ≡ s
same-more xs begin end s h at k d a b =
    elim (cases_lt k end) [
      | inl l ↦ h k d a l
      | inr l ↦ let e : end ≡ k = omega arith in subst (λ (i : ℕ). (get_or xs i d).satellite ≡ s) e (at d)
    ]

-- ---- the set of the codes of the cells that are taken

pub codes-none : (s : ℕ) → IsSetOfCodes 0 [] s
codes-none s = record { some = λ c hc h. absurd (h (omega (arith, and_le_l 0 (2 ^ place_of c)))); none = λ c hc h. refl }

some-last : (xs : List SignalEntry) (e : SignalEntry) (s : ℕ) → e.satellite ≡ s → is_some (first_cell (xs ++ e ∷ []) s e.code) ≡ true
some-last xs e s at =
    let last : get_or (xs ++ e ∷ []) (length xs) any_cell ≡ e = get_or-append_seam xs e [] any_cell in
    some-signal (xs ++ e ∷ []) (length xs) s e.code any_cell (omega (arith, length-append xs (e ∷ []))) (ap (λ (x : SignalEntry). x.satellite) last ∙ at) (ap (λ (x : SignalEntry). x.code) last)

first-other : (xs : List SignalEntry) (e : SignalEntry) (s : ℕ) (c : AnyCode) → place_of e.code ≢ place_of c → first_cell (xs ++ e ∷ []) s c ≡ first_cell xs s c
first-other xs e s c ne = cell-other xs e s c (other-code s c e (λ q. ne (ap place_of q)))

pow-some : (k : ℕ) → 2 ^ k ≢ 0
pow-some k h = omega (arith, pow_pos k)

codes-more : (codes : ℕ) (xs : List SignalEntry) (e : SignalEntry) (s : ℕ) → IsSignal e.satellite e.code → e.satellite ≡ s → IsSetOfCodes codes xs s
    → IsSetOfCodes (bit_or codes (2 ^ place_of e.code)) (xs ++ e ∷ []) s
codes-more codes xs e s he at g = record {
  some = λ c hc h. by_eq (place_of e.code) (place_of c)
      (λ q. let same : e.code ≡ c = same_code_of s e.code c (signal-at e at he) hc q in
      subst (λ (x : AnyCode). is_some (first_cell (xs ++ e ∷ []) s x) ≡ true) same (some-last xs e s at))
      (λ ne. ap is_some (first-other xs e s c ne) ∙ g.some c hc (λ z. h (and_or_apart (2 ^ place_of c) codes (2 ^ place_of e.code) (pow_apart (place_of e.code) (place_of c) ne) ∙ z)));
  none = λ c hc h. by_eq (place_of e.code) (place_of c)
      (λ q. absurd (pow-some (place_of e.code) (sym (and_or_self (2 ^ place_of e.code) codes) ∙ ap (λ (k : ℕ). bit_and (bit_or codes (2 ^ place_of e.code)) (2 ^ k)) q ∙ h)))
      (λ ne. first-other xs e s c ne ∙ g.none c hc (sym (and_or_apart (2 ^ place_of c) codes (2 ^ place_of e.code) (pow_apart (place_of e.code) (place_of c) ne)) ∙ h));
}

pub codes-begin : (xs : List SignalEntry) (begin s : ℕ) → IsSetOfCodes 0 (slice_range xs begin begin) s
codes-begin xs begin s = subst (λ (ys : List SignalEntry). IsSetOfCodes 0 ys s) (sym (range-empty xs begin)) (codes-none s)

-- the code of the next cell joins the set
pub codes-next : (codes : ℕ) (xs : List SignalEntry) (begin end s : ℕ) (e : SignalEntry) → begin ≤ end → end < length xs → ((d : SignalEntry) → get_or xs end d ≡ e)
    → IsSignal e.satellite e.code → e.satellite ≡ s → IsSetOfCodes codes (slice_range xs begin end) s → IsSetOfCodes (bit_or codes (2 ^ place_of e.code)) (slice_range xs begin (end + 1)) s
codes-next codes xs begin end s e from l here he at h =
    subst (λ (ys : List SignalEntry). IsSetOfCodes (bit_or codes (2 ^ place_of e.code)) ys s)
    (sym (range-more xs begin end any_cell from l ∙ ap (λ (x : SignalEntry). slice_range xs begin end ++ x ∷ []) (here any_cell)))
    (codes-more codes (slice_range xs begin end) e s he at h)

module _ {L : Type 0} (HasRows : L → Bool → List SatelliteRow → Type 0) (HasLine : L → List Observed → Type 0) (epoch : ℕ) (earlier xs : List SignalEntry) (begin end s : ℕ) (codes : List AnyCode)
    (first : List (Option Track)) (before : L) (tracks : List (Option Track)) (lines : L) (e : SignalEntry)
    (g : TakesCells HasRows HasLine epoch earlier xs begin end s codes first before tracks lines) (own : AreRowCodes codes s) (ranges : All IsSignalInRange xs) (l : end < length xs)
    (here : (d : SignalEntry) → get_or xs end d ≡ e) (at : e.satellite ≡ s) where
  next-is : (earlier ++ slice_range xs begin end) ++ e ∷ [] ≡ earlier ++ slice_range xs begin (end + 1)
  next-is =
      append_assoc earlier (slice_range xs begin end) (e ∷ [])
      ∙ ap (λ (ys : List SignalEntry). earlier ++ ys)
      (ap (λ (x : SignalEntry). slice_range xs begin end ++ x ∷ []) (sym (here any_cell)) ∙ sym (range-more xs begin end any_cell g.from l))

  -- the next cell has a code of the system of its satellite
  pub next-signal : IsSignal e.satellite e.code
  next-signal = subst (λ (x : SignalEntry). IsSignal x.satellite x.code) (here any_cell) (let r : IsSignalInRange (get_or xs end any_cell) = ranges end any_cell l in r.signal)

  next-at : (d : SignalEntry) → (get_or xs end d).satellite ≡ s
  next-at d = ap (λ (x : SignalEntry). x.satellite) (here d) ∙ at

  pub takes-repeat : is_some (first_cell earlier s e.code) ≡ true → TakesCells HasRows HasLine epoch earlier xs begin (end + 1) s codes first before tracks lines
  takes-repeat there =
      let taken : List SignalEntry = earlier ++ slice_range xs begin end in
      let seen : is_some (first_cell taken e.satellite e.code) ≡ true =
      subst (λ (n : ℕ). is_some (first_cell taken n e.code) ≡ true) (sym at) (some-before earlier (slice_range xs begin end) s e.code there) in
      record {
        from = omega (arith, g.from);
        within = omega arith;
        same = same-more xs begin end s g.same next-at;
        later = subst (λ (ys : List SignalEntry). MayStep tracks ys s epoch) next-is (may-same tracks taken (taken ++ e ∷ []) s epoch (λ c hc. cells-same taken e next-signal seen s c hc) g.later);
        kept = g.kept;
        shows = λ old h. subst (λ (ys : List SignalEntry). ShowsRow HasLine old epoch ys s codes tracks lines) next-is (shows-repeat HasRows HasLine e own next-signal seen (g.shows old h));
      }

  -- no earlier cell and none of this run has the satellite and code of the next one
  pub takes-free : KeysRise signals xs → EntriesAreOfOneKind xs → first_cell earlier s e.code ≡ None → first_cell (earlier ++ slice_range xs begin end) e.satellite e.code ≡ None
  takes-free rises one free =
      let none : first_cell earlier e.satellite e.code ≡ None =
      subst (λ (n : ℕ). first_cell earlier n e.code ≡ None) (sym at) free in
      let new : first_cell (slice_range xs begin end) e.satellite e.code ≡ None =
      subst (λ (x : SignalEntry). first_cell (slice_range xs begin end) x.satellite x.code ≡ None) (here any_cell) (range-new xs begin end any_cell rises one l) in
      none-both earlier (slice_range xs begin end) e.satellite e.code none new

  -- so its code may take a step
  pub takes-later : first_cell (earlier ++ slice_range xs begin end) e.satellite e.code ≡ None → IsLater (track_at tracks e.satellite e.code) epoch
  takes-later none =
      subst (λ (n : ℕ). IsLater (track_at tracks n e.code) epoch) (sym at)
      (g.later e.code (signal-at e at next-signal) (subst (λ (n : ℕ). first_cell (earlier ++ slice_range xs begin end) n e.code ≡ None) at none))

  -- and a line is open in which it shows nothing
  pub takes-open : first_cell (earlier ++ slice_range xs begin end) e.satellite e.code ≡ None → ShowsSome HasLine epoch earlier s codes first before → HasFreeOf HasLine lines (place_of e.code) codes
  takes-open none some =
      let taken : List SignalEntry = earlier ++ slice_range xs begin end in
      record {
        row = map (λ code. or_nothing (shown_by some.first epoch taken s code)) codes;
        open_line = (g.shows some.first some.shows).row;
        free = row-free some.first epoch taken s codes e own at next-signal none;
      }

  pub takes-more : (after : List (Option Track)) (now : L) → first_cell (earlier ++ slice_range xs begin end) e.satellite e.code ≡ None
      → StepsOver HasRows HasLine epoch e codes tracks after lines now → TakesCells HasRows HasLine epoch earlier xs begin (end + 1) s codes first before after now
  takes-more after now none step =
      let taken : List SignalEntry = earlier ++ slice_range xs begin end in
      record {
        from = omega (arith, g.from);
        within = omega arith;
        same = same-more xs begin end s g.same next-at;
        later = subst (λ (ys : List SignalEntry). MayStep after ys s epoch) next-is (may-more tracks after taken s epoch e step.others next-signal g.later);
        kept = λ doppler rows h. step.kept doppler rows (g.kept doppler rows h);
        shows = λ old h. subst (λ (ys : List SignalEntry). ShowsRow HasLine old epoch ys s codes after now) next-is (shows-more HasRows HasLine after now e own at next-signal none step (g.shows old h));
      }

-- nothing is taken yet of a satellite
pub shows-nothing : {L : Type 0} (HasLine : L → List Observed → Type 0) (epoch s : ℕ) (codes : List AnyCode) (tracks : List (Option Track)) (lines : L) → HasLine lines (map (λ (code : AnyCode). or_nothing None) codes)
    → ShowsRow HasLine tracks epoch [] s codes tracks lines
shows-nothing HasLine epoch s codes tracks lines blank = record { taken = λ t c hs. refl; row = blank }

-- ---- the rows of an epoch, satellite by satellite

pub rows-more : (f : ℕ → AnyCode → Option Observed) (listed : List AnyCode) (s : ℕ) (rows more : List SatelliteRow) → 1 ≤ s → rows ≡ rows_to f listed (s - 1) → more ≡ row_if_any f (codes_for listed s) s
    → rows ++ more ≡ rows_to f listed s
rows-more f listed s rows more l e m =
    let same : s - 1 + 1 ≡ s = omega arith in
    subst (λ (k : ℕ). rows ++ more ≡ rows_to f listed k) same (rows-step f listed (s - 1) rows more e (m ∙ ap (λ (k : ℕ). row_if_any f (codes_for listed k) k) (sym same)))

-- the cells of the satellites before this one are taken: from both lists, up to its places
pub record FillsRows (before : List (Option Track)) (epoch : ℕ) (ms : List SignalEntry) (i : ℕ) (ls : List SignalEntry) (j n : ℕ) (tracks : List (Option Track)) : Type 0 where
  pub msm : IsPlaceOf n ms i
  pub legacy : IsPlaceOf n ls j
  pub done : (s : ℕ) (c : AnyCode) → IsSignal s c → s < n → track_at tracks s c ≡ track_after (track_at before s c) c epoch (first_cell (ms ++ ls) s c)
  pub todo : (s : ℕ) (c : AnyCode) → IsSignal s c → n ≤ s → track_at tracks s c ≡ track_at before s c

pub fills-begin : (tracks : List (Option Track)) (epoch : ℕ) (ms ls : List SignalEntry) → All IsSignalInRange ms → All IsSignalInRange ls → FillsRows tracks epoch ms 0 ls 0 1 tracks
fills-begin tracks epoch ms ls m l = record {
  msm = place-first ms m;
  legacy = place-first ls l;
  done = λ s c hs below. absurd (let low = hs.0.0 in omega arith);
  todo = λ s c hs above. refl;
}

-- the next satellite that has a cell
pub next-satellite : {s i j : ℕ} {ms ls : List SignalEntry} → All IsSignalInRange ms → All IsSignalInRange ls → IsLeastAt s ms i ls j → IsSatelliteIndex s
next-satellite {s} {i} {j} {ms} {ls} m l h =
    elim (h.one any_cell) [
      | inl a ↦ let r : IsSignalInRange (get_or ms i any_cell) = m i any_cell a.0 in subst IsSatelliteIndex a.1 r.signal.0
      | inr a ↦ let r : IsSignalInRange (get_or ls j any_cell) = l j any_cell a.0 in subst IsSatelliteIndex a.1 r.signal.0
    ]

-- has what the satellite of each cell has
pub next-has : (P : ℕ → Type 0) {s i j : ℕ} {ms ls : List SignalEntry} → All (λ e. P e.satellite) ms → All (λ e. P e.satellite) ls → IsLeastAt s ms i ls j → P s
next-has P {s} {i} {j} {ms} {ls} m l h =
    elim (h.one any_cell) [
      | inl a ↦ subst P a.1 (m i any_cell a.0)
      | inr a ↦ subst P a.1 (l j any_cell a.0)
    ]

-- comes at or after one whose place this is
pub next-from : {n s i j : ℕ} {ms ls : List SignalEntry} → IsPlaceOf n ms i → IsPlaceOf n ls j → IsLeastAt s ms i ls j → n ≤ s
next-from {n} {s} {i} {j} {ms} {ls} p q h =
    elim (h.one any_cell) [
      | inl a ↦ subst (λ (t : ℕ). n ≤ t) a.1 (p.others i any_cell (omega arith) a.0)
      | inr a ↦ subst (λ (t : ℕ). n ≤ t) a.1 (q.others j any_cell (omega arith) a.0)
    ]

module _ (before : List (Option Track)) (epoch : ℕ) (ms : List SignalEntry) (i : ℕ) (ls : List SignalEntry) (j n s : ℕ) (tracks : List (Option Track)) (g : FillsRows before epoch ms i ls j n tracks) (from : n ≤ s)
    (p : IsPlaceOf s ms i) (q : IsPlaceOf s ls j) where
  -- the satellites before it have no cell
  absent : (t : ℕ) (c : AnyCode) → n ≤ t → t < s → first_cell (ms ++ ls) t c ≡ None
  absent t c more less =
      none-both ms ls t c
      (first-absent ms i t c (place-between ms i n t s g.msm p more (omega arith)) (place-between ms i n (t + 1) s g.msm p (omega arith) (omega arith)))
      (first-absent ls j t c (place-between ls j n t s g.legacy q more (omega arith)) (place-between ls j n (t + 1) s g.legacy q (omega arith) (omega arith)))

  pub fills-to : FillsRows before epoch ms i ls j s tracks
  fills-to = record {
    msm = p;
    legacy = q;
    done = λ t c ht below. elim (cases_lt t n) [
      | inl a ↦ g.done t c ht a
      | inr a ↦ g.todo t c ht a ∙ ap (track_after (track_at before t c) c epoch) (sym (absent t c a below))
    ];
    todo = λ t c ht above. g.todo t c ht (omega arith);
  }

  pub rows-between : (listed : List AnyCode) → 1 ≤ n → s ≤ 222 → rows_to (shown_by before epoch (ms ++ ls)) listed (n - 1) ≡ rows_to (shown_by before epoch (ms ++ ls)) listed (s - 1)
  rows-between listed one few =
      sym (rows-skip (shown_by before epoch (ms ++ ls)) listed (n - 1) (s - 1) (omega arith) (omega arith)
      (λ t c hc a b. ap (observed_after (track_at before t c) c epoch) (absent t c (omega arith) (omega arith))))

-- up to the next satellite that has a cell
pub fills-next : (before : List (Option Track)) (epoch : ℕ) (ms : List SignalEntry) (i : ℕ) (ls : List SignalEntry) (j n s : ℕ) (tracks : List (Option Track)) → FillsRows before epoch ms i ls j n tracks
    → KeysRise signals ms → KeysRise signals ls → IsLeastAt s ms i ls j → FillsRows before epoch ms i ls j s tracks
fills-next before epoch ms i ls j n s tracks g m l h =
    let from = next-from g.msm g.legacy h in
    fills-to before epoch ms i ls j n s tracks g from (place-later ms i n s m g.msm from h.msm_least) (place-later ls j n s l g.legacy from h.legacy_least)

-- or up to the last satellite, without another cell
pub fills-end : (before : List (Option Track)) (epoch : ℕ) (ms : List SignalEntry) (i : ℕ) (ls : List SignalEntry) (j n : ℕ) (tracks : List (Option Track)) → FillsRows before epoch ms i ls j n tracks
    → KeysRise signals ms → KeysRise signals ls → n ≤ 222 → length ms ≤ i → length ls ≤ j → FillsRows before epoch ms i ls j 222 tracks
fills-end before epoch ms i ls j n tracks g m l last a b =
    fills-to before epoch ms i ls j n 222 tracks g last (place-later ms i n 222 m g.msm last (λ k d. absurd (omega arith))) (place-later ls j n 222 l g.legacy last (λ k d. absurd (omega arith)))

module _ (before : List (Option Track)) (epoch : ℕ) (ms : List SignalEntry) (i : ℕ) (ls : List SignalEntry) (j n : ℕ) (tracks : List (Option Track)) (g : FillsRows before epoch ms i ls j n tracks) where
  pub may-begin : ((c : AnyCode) → IsSignal n c → IsLater (track_at before n c) epoch) → MayStep tracks [] n epoch
  may-begin h c hc none = subst (λ (o : Option Track). IsLater o epoch) (sym (g.todo n c hc (omega arith))) (h c hc)

  -- its cells were taken
  module _ {L : Type 0} (HasLine : L → List Observed → Type 0) (end last : ℕ) (codes : List AnyCode) (own-codes : AreRowCodes codes n) (after : List (Option Track)) (lines : L) (from : i ≤ end) (p : IsPlaceOf (n + 1) ms end)
      (more : j ≤ last) (q : IsPlaceOf (n + 1) ls last) (shows : ShowsRow HasLine tracks epoch (slice_range ms i end ++ slice_range ls j last) n codes after lines) where
    own : (c : AnyCode) → first_cell (slice_range ms i end ++ slice_range ls j last) n c ≡ first_cell (ms ++ ls) n c
    own c =
        first-append (slice_range ms i end) (slice_range ls j last) n c
        ∙ ap (λ (o : Option SignalEntry). or_later o (first_cell (slice_range ls j last) n c)) (first-range ms i end n c g.msm p from)
        ∙ ap (or_later (first_cell ms n c)) (first-range ls j last n c g.legacy q more)
        ∙ sym (first-append ms ls n c)

    other : (t : ℕ) (c : AnyCode) → t ≢ n → first_cell (slice_range ms i end ++ slice_range ls j last) t c ≡ None
    other t c ne =
        none-both (slice_range ms i end) (slice_range ls j last) t c (range-other (slice_range ms i end) n t c (range-satellite ms i end n g.msm p) ne)
        (range-other (slice_range ls j last) n t c (range-satellite ls j last n g.legacy q) ne)

    stays : (s : ℕ) (c : AnyCode) → IsSignal s c → s ≢ n → track_at after s c ≡ track_at tracks s c
    stays s c hs ne = shows.taken s c hs ∙ ap (track_after (track_at tracks s c) c epoch) (other s c ne)

    pub fills-more : FillsRows before epoch ms end ls last (n + 1) after
    fills-more = record {
      msm = p;
      legacy = q;
      done = λ s c hs below. elim (cases_lt s n) [
        | inl a ↦ stays s c hs (λ e. omega arith) ∙ g.done s c hs a
        | inr a ↦
            let e : n ≡ s = omega arith in
            let hn : IsSignal n c = subst (λ (t : ℕ). IsSignal t c) (sym e) hs in
            subst (λ (t : ℕ). track_at after t c ≡ track_after (track_at before t c) c epoch (first_cell (ms ++ ls) t c)) e
            (shows.taken n c hn
            ∙ ap (λ (o : Option Track). track_after o c epoch (first_cell (slice_range ms i end ++ slice_range ls j last) n c)) (g.todo n c hn (omega arith))
            ∙ ap (track_after (track_at before n c) c epoch) (own c))
      ];
      todo = λ s c hs above. stays s c hs (λ e. omega arith) ∙ g.todo s c hs (omega arith);
    }

    shown-whole : (c : AnyCode) → IsSignal n c → shown_by tracks epoch (slice_range ms i end ++ slice_range ls j last) n c ≡ shown_by before epoch (ms ++ ls) n c
    shown-whole c hc =
        ap (λ (o : Option Track). observed_after o c epoch (first_cell (slice_range ms i end ++ slice_range ls j last) n c)) (g.todo n c hc (omega arith))
        ∙ ap (observed_after (track_at before n c) c epoch) (own c)

    pub fills-row : HasLine lines (map (λ code. or_nothing (shown_by before epoch (ms ++ ls) n code)) codes)
    fills-row =
        subst (λ (row : List Observed). HasLine lines row)
        (observed-same (IsSignal n) (shown_by tracks epoch (slice_range ms i end ++ slice_range ls j last) n) (shown_by before epoch (ms ++ ls) n) codes own-codes shown-whole) shows.row

-- the rows up to this satellite, as they are before the next one
pub rows-next : (f : ℕ → AnyCode → Option Observed) (listed : List AnyCode) (s : ℕ) (rows more : List SatelliteRow) → 1 ≤ s → rows ≡ rows_to f listed (s - 1) → more ≡ row_if_any f (codes_for listed s) s
    → rows ++ more ≡ rows_to f listed (s + 1 - 1)
rows-next f listed s rows more l e m = let same : s ≡ s + 1 - 1 = omega arith in rows-more f listed s rows more l e m ∙ ap (rows_to f listed) same

-- ---- the satellites so far

-- the satellites below one are written
pub record ShowsBelow {L : Type 0} (HasRows : L → List SatelliteRow → Type 0) (before : List (Option Track)) (epoch : ℕ) (ms : List SignalEntry) (i : ℕ) (ls : List SignalEntry) (j : ℕ) (listed : List AnyCode)
    (formed : ℕ) (codes : List AnyCode) (tracks : List (Option Track)) (lines : L) : Type 0 where
  pub from : ℕ
  pub one : 1 ≤ from
  pub last : from ≤ 222
  pub fills : FillsRows before epoch ms i ls j from tracks
  pub holds : HasRows lines (rows_to (shown_by before epoch (ms ++ ls)) listed (from - 1))
  -- the codes of the rows of the satellites from it on, up to the last one of a system
  pub few : length codes ≤ 16
  pub codes_are : (s : ℕ) → from ≤ s → s ≤ formed → codes_for listed s ≡ codes

-- the cells of the next satellite are no longer left
pub cells-fall : {s i j end last : ℕ} {ms ls : List SignalEntry} → IsLeastAt s ms i ls j → i ≤ end → IsPlaceOf (s + 1) ms end → j ≤ last → IsPlaceOf (s + 1) ls last
    → (length ms - end) + (length ls - last) < (length ms - i) + (length ls - j)
cells-fall {s} {i} {j} {end} {last} {ms} {ls} h from p more q =
    elim (h.one any_cell) [
      | inl a ↦
          elim (cases_lt i end) [
            | inl b ↦ omega (arith, a.0, b, from, more)
            | inr b ↦ absurd (omega (arith, p.others i any_cell b a.0, a.1))
          ]
      | inr a ↦
          elim (cases_lt j last) [
            | inl b ↦ omega (arith, a.0, b, from, more)
            | inr b ↦ absurd (omega (arith, q.others j any_cell b a.0, a.1))
          ]
    ]
