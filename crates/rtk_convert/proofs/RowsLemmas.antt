-- The rows of the satellites.
use Rattle.std.proofs.Common.{◌≡◌, ℕ, zero, suc, ◌+◌, ◌<◌, ◌≤◌, [], ◌∷◌, ◌++◌, List, map, replicate, length, get_or, refl, sym, ap, subst, ◌∙◌, arith, add-one, Option, None, Some, true, false, Bool, cond, inl, inr}
use Rattle.std.specs.Prelude.{is_some, All, AllPairs, if◌then◌else◌, IfSome, ◌||◌}
use Rattle.std.proofs.lemmas.Bool.{cases_lt, eqb-true}
use Rattle.std.proofs.lemmas.List.{append-nil, get_or-map, length-append, length-map}
use Rattle.std.proofs.lemmas.List.Quantifiers.{all_pairs_push}
use Rattle.std.proofs.lemmas.List.Elements.{All-nil, All-cons, All-append, All-head, All-tail}
use Rattle.std.specs.List.{list_any}
use Rattle.rtk_obs.specs.declared.any_code.AnyCode.{AnyCode}
use Rattle.rtk_obs.specs.declared.any_code.AnyCode.TheVariants.{G1C}
use Rattle.rtk_obs.specs.declared.signal_cells.SignalEntry.{SignalEntry}
use Rattle.rtk_obs.specs.declared.track.Track.{Track}
use Rattle.rtk_obs.specs.AnyCode.{IsSignal, place_of}
use Rattle.rtk_obs.specs.Cell.{IsStrength as IsGiven}
use Rattle.rtk_obs.specs.SatelliteIndex.{IsSatelliteIndex}
use Rattle.rtk_obs.specs.SignalCells.{IsSignalInRange}
use Rattle.rtk_rinex.specs.declared.epoch_table.Observed.{Observed}
use Rattle.rtk_rinex.specs.declared.epoch_table.SatelliteRow.{SatelliteRow}
use Rattle.rtk_rinex.specs.Record.{IsStrengthOrNone, has_line_in, has_observation_or_doppler}
use Rattle.rtk_convert.specs.Steps.RowLines.{HasRoom}
use Rattle.rtk_convert.specs.Steps.ShownCells.{IsFreeOf, is_at, with_place}
use Rattle.rtk_convert.specs.Rows.{is_signal, first_cell, observed_after, or_nothing, codes_for, row_with, row_if_any, rows_to}
use Rattle.rtk_convert.proofs.ListedLemmas.{both-false}
use Rattle.rtk_convert.proofs.PlacesLemmas.{same_code_of}
use Rattle.rtk_convert.proofs.SystemLemmas.{codes-are-signals}

pub rows_to-zero : (f : ℕ → AnyCode → Option Observed) (listed : List AnyCode) → rows_to f listed 0 ≡ []
unfolding rows_to
rows_to-zero f listed = refl

pub rows_to-more : (f : ℕ → AnyCode → Option Observed) (listed : List AnyCode) (n : ℕ) → rows_to f listed (n + 1) ≡ rows_to f listed n ++ row_if_any f (codes_for listed (n + 1)) (n + 1)
unfolding rows_to
rows_to-more f listed n = rw add-one refl

row-no : (f : ℕ → AnyCode → Option Observed) (codes : List AnyCode) (n : ℕ) → list_any (λ code. is_some (f n code)) codes ≡ false → row_if_any f codes n ≡ []
row-no f codes n h = rw h refl

pub observed-same : (P : AnyCode → Type 0) (f g : AnyCode → Option Observed) (codes : List AnyCode) → All P codes → ((c : AnyCode) → P c → f c ≡ g c) → map (λ c. or_nothing (f c)) codes ≡ map (λ c. or_nothing (g c)) codes
observed-same P f g [] all h = refl
observed-same P f g (c ∷ codes) all h = rw (h c (All-head P c codes all), observed-same P f g codes (All-tail P c codes all) h) refl

any-same : (P : AnyCode → Type 0) (f g : AnyCode → Option Observed) (codes : List AnyCode) → All P codes → ((c : AnyCode) → P c → f c ≡ g c) → list_any (λ c. is_some (f c)) codes ≡ list_any (λ c. is_some (g c)) codes
any-same P f g [] all h = refl
any-same P f g (c ∷ codes) all h = rw (h c (All-head P c codes all), any-same P f g codes (All-tail P c codes all) h) refl

-- the row of a satellite
abbrev pub row_of : ℕ → List Observed → SatelliteRow
row_of satellite observed = record { satellite = satellite; observed = record { items = observed } }

row-same : (f g : ℕ → AnyCode → Option Observed) (codes : List AnyCode) (s : ℕ) → All (IsSignal s) codes → ((c : AnyCode) → IsSignal s c → f s c ≡ g s c) → row_if_any f codes s ≡ row_if_any g codes s
row-same f g codes s all h =
    ap (λ (b : Bool). if b then row_with f codes s ∷ [] else []) (any-same (IsSignal s) (f s) (g s) codes all h)
    ∙ ap (λ (xs : List Observed). if (list_any (λ c. is_some (g s c)) codes) then row_of s xs ∷ [] else []) (observed-same (IsSignal s) (f s) (g s) codes all h)

pub rows_to-same : (f g : ℕ → AnyCode → Option Observed) (listed : List AnyCode) (n : ℕ) → n < 222 → ((s : ℕ) (c : AnyCode) → IsSignal s c → f s c ≡ g s c) → rows_to f listed n ≡ rows_to g listed n
unfolding rows_to
rows_to-same f g listed zero le h = refl
rows_to-same f g listed (suc n) le h =
    ap (λ (xs : List SatelliteRow). xs ++ row_if_any f (codes_for listed (suc n)) (suc n)) (rows_to-same f g listed n (omega arith) h)
    ∙ ap (λ (xs : List SatelliteRow). rows_to g listed n ++ xs)
    (row-same f g (codes_for listed (suc n)) (suc n) (codes-are-signals listed (suc n) (omega arith, omega arith)) (λ c. h (suc n) c))

-- ---- what all rows have

all-if : (P : SatelliteRow → Type 0) (b : Bool) (r : SatelliteRow) → P r → All P (if b then r ∷ [] else [])
all-if P true r h = All-cons P r [] h (All-nil P)
all-if P false r h = All-nil P

pub all-rows : (P : SatelliteRow → Type 0) (f : ℕ → AnyCode → Option Observed) (listed : List AnyCode) (n : ℕ) → n < 222
    → ((s : ℕ) → IsSatelliteIndex s → s ≤ n → P (row_with f (codes_for listed s) s)) → All P (rows_to f listed n)
unfolding rows_to
all-rows P f listed zero le h = All-nil P
all-rows P f listed (suc n) le h =
    All-append P (rows_to f listed n) (row_if_any f (codes_for listed (suc n)) (suc n)) (all-rows P f listed n (omega arith) (λ s hs m. h s hs (omega arith)))
    (all-if P (list_any (λ code. is_some (f (suc n) code)) (codes_for listed (suc n))) (row_with f (codes_for listed (suc n)) (suc n)) (h (suc n) (omega arith, omega arith) (omega arith)))

-- ---- strengths that are shown

entry-strength : (o : Option ℕ) → IfSome o IsGiven → IsStrengthOrNone o
entry-strength None h = tt
entry-strength (Some s) h = ((h.least, h.greatest), h.step)

abbrev pub HasStrength : Option SignalEntry → Type 0
HasStrength o = IfSome o (λ c. IsStrengthOrNone c.cell.strength_millidbhz)

strength-if : (b : Bool) (c : SignalEntry) (o : Option SignalEntry) → IsStrengthOrNone c.cell.strength_millidbhz → HasStrength o → HasStrength (cond b (Some c) o)
strength-if true c o h k = h
strength-if false c o h k = k

pub first-strength : (cells : List SignalEntry) (s : ℕ) (c : AnyCode) → All IsSignalInRange cells → HasStrength (first_cell cells s c)
first-strength [] s c h = tt
first-strength (e ∷ cells) s c h =
    let head : IsSignalInRange e = All-head IsSignalInRange e cells h in
    strength-if (is_signal s c e) e (first_cell cells s c) (entry-strength e.cell.strength_millidbhz head.strength)
    (first-strength cells s c (All-tail IsSignalInRange e cells h))

pub observed-strength : (last : Option Track) (code : AnyCode) (epoch : ℕ) (o : Option SignalEntry) → HasStrength o → IsStrengthOrNone (or_nothing (observed_after last code epoch o)).strength_millidbhz
observed-strength last code epoch None h = tt
observed-strength last code epoch (Some c) h = h

rise-if : (b : Bool) (rows : List SatelliteRow) (r : SatelliteRow) → AllPairs (λ a b. a.satellite < b.satellite) rows → All (λ (x : SatelliteRow). x.satellite < r.satellite) rows
    → AllPairs (λ a b. a.satellite < b.satellite) (rows ++ (if b then r ∷ [] else []))
rise-if true rows r h k = all_pairs_push (λ (a b : SatelliteRow). a.satellite < b.satellite) rows r h k
rise-if false rows r h k = subst (λ (xs : List SatelliteRow). AllPairs (λ a b. a.satellite < b.satellite) xs) (sym (append-nil rows)) h

-- the satellites rise
pub rows_to-rise : (f : ℕ → AnyCode → Option Observed) (listed : List AnyCode) (n : ℕ) → n < 222 → AllPairs (λ a b. a.satellite < b.satellite) (rows_to f listed n)
unfolding rows_to
rows_to-rise f listed zero le = λ i j d h k. absurd (omega arith)
rows_to-rise f listed (suc n) le =
    rise-if (list_any (λ code. is_some (f (suc n) code)) (codes_for listed (suc n))) (rows_to f listed n) (row_with f (codes_for listed (suc n)) (suc n)) (rows_to-rise f listed n (omega arith))
    (all-rows (λ (x : SatelliteRow). x.satellite < suc n) f listed n (omega arith) (λ s hs m. omega arith))

-- ---- a row, code by code

pub row-blank : (codes : List AnyCode) → map (λ (code : AnyCode). or_nothing None) codes ≡ replicate (length codes) (or_nothing None)
row-blank [] = refl
row-blank (c ∷ codes) = ap (λ (xs : List Observed). or_nothing None ∷ xs) (row-blank codes)

shows-if : (b : Bool) (o : Observed) (x : Option Observed) → cond b o (or_nothing x) ≡ or_nothing (cond b (Some o) x)
shows-if true o x = refl
shows-if false o x = refl

-- a row after one more code
pub row-with : (P : AnyCode → Type 0) (f g : AnyCode → Option Observed) (place : ℕ) (o : Observed) (codes : List AnyCode) → All P codes
    → ((c : AnyCode) → P c → g c ≡ cond (is_at place c) (Some o) (f c))
    → with_place place o codes (map (λ c. or_nothing (f c)) codes) ≡ map (λ c. or_nothing (g c)) codes
row-with P f g place o [] all h = refl
row-with P f g place o (c ∷ codes) all h =
    ap (λ (x : Observed). x ∷ with_place place o codes (map (λ c. or_nothing (f c)) codes)) (shows-if (is_at place c) o (f c) ∙ ap or_nothing (sym (h c (All-head P c codes all))))
    ∙ ap (λ (xs : List Observed). or_nothing (g c) ∷ xs) (row-with P f g place o codes (All-tail P c codes all) h)

any-none : (P : AnyCode → Type 0) (f : AnyCode → Option Observed) (codes : List AnyCode) → All P codes → ((c : AnyCode) → P c → f c ≡ None) → list_any (λ c. is_some (f c)) codes ≡ false
any-none P f [] all h = refl
any-none P f (c ∷ codes) all h =
    ap (λ (x : Option Observed). is_some x || list_any (λ c. is_some (f c)) codes) (h c (All-head P c codes all)) ∙ any-none P f codes (All-tail P c codes all) h

-- a code without a cell shows nothing
pub free-of : (s : ℕ) (f : AnyCode → Option Observed) (code : AnyCode) (codes : List AnyCode) → All (IsSignal s) codes → IsSignal s code → f code ≡ None
    → IsFreeOf (place_of code) codes (map (λ c. or_nothing (f c)) codes)
free-of s f code codes all hc none = record {
  width = length-map codes (λ c. or_nothing (f c));
  free = λ k d lt is.
      let e : get_or codes k G1C ≡ code = same_code_of s (get_or codes k G1C) code (all k G1C lt) hc (eqb-true (place_of (get_or codes k G1C)) (place_of code) is) in
      ap has_observation_or_doppler (get_or-map (λ c. or_nothing (f c)) codes k G1C d lt ∙ ap (λ (c : AnyCode). or_nothing (f c)) e ∙ ap or_nothing none);
}

-- ---- the line of a row

none-of-some : (o : Option Observed) → is_some o ≡ false → o ≡ None
none-of-some None h = refl
none-of-some (Some o) h = cc

no-line : (f : AnyCode → Option Observed) (codes : List AnyCode) → list_any (λ c. is_some (f c)) codes ≡ false → list_any has_observation_or_doppler (map (λ c. or_nothing (f c)) codes) ≡ false
no-line f [] h = refl
no-line f (c ∷ codes) h =
    let p = both-false (is_some (f c)) (list_any (λ c. is_some (f c)) codes) h in
    ap (λ (o : Option Observed). has_observation_or_doppler (or_nothing o) || list_any has_observation_or_doppler (map (λ c. or_nothing (f c)) codes)) (none-of-some (f c) p.0) ∙ no-line f codes p.1

-- text without a line for a row without an observation
abbrev pub LeavesOut : {L : Type 0} → (L → List SatelliteRow → Type 0) → L → Type 0
LeavesOut HasRows l = (rows : List SatelliteRow) (r : SatelliteRow) → has_line_in true r ≡ false → HasRows l (rows ++ r ∷ []) → HasRows l rows

held-if : {L : Type 0} (HasRows : L → List SatelliteRow → Type 0) (l : L) → LeavesOut HasRows l → (rows : List SatelliteRow) (r : SatelliteRow) (b : Bool) → (b ≡ false → has_line_in true r ≡ false)
    → HasRows l (rows ++ r ∷ []) → HasRows l (rows ++ (if b then r ∷ [] else []))
held-if HasRows l leaves rows r true none h = h
held-if HasRows l leaves rows r false none h = subst (λ (rs : List SatelliteRow). HasRows l rs) (sym (append-nil rows)) (leaves rows r (none refl) h)

-- a satellite without a cell of a code of its row has no line
pub row-held : {L : Type 0} (HasRows : L → List SatelliteRow → Type 0) (l : L) → LeavesOut HasRows l → (f : ℕ → AnyCode → Option Observed) (codes : List AnyCode) (n : ℕ) (rows : List SatelliteRow)
    → HasRows l (rows ++ row_with f codes n ∷ []) → HasRows l (rows ++ row_if_any f codes n)
row-held HasRows l leaves f codes n rows h = held-if HasRows l leaves rows (row_with f codes n) (list_any (λ c. is_some (f n c)) codes) (no-line (f n) codes) h

-- ---- the rows so far

-- satellites without a cell have no row
pub rows-skip : (f : ℕ → AnyCode → Option Observed) (listed : List AnyCode) (m n : ℕ) → m ≤ n → n < 222 → ((s : ℕ) (c : AnyCode) → IsSignal s c → m < s → s ≤ n → f s c ≡ None) → rows_to f listed n ≡ rows_to f listed m
unfolding rows_to
rows-skip f listed m zero l few h = let e : 0 ≡ m = omega arith in ap (rows_to f listed) e
rows-skip f listed m (suc n) l few h =
    elim (cases_lt n m) [
      | inl a ↦ let e : suc n ≡ m = omega arith in ap (rows_to f listed) e
      | inr a ↦
          ap (λ (xs : List SatelliteRow). rows_to f listed n ++ xs)
          (row-no f (codes_for listed (suc n)) (suc n)
          (any-none (IsSignal (suc n)) (f (suc n)) (codes_for listed (suc n)) (codes-are-signals listed (suc n) (omega arith, omega arith)) (λ c hc. h (suc n) c hc (omega arith) (omega arith))))
          ∙ append-nil (rows_to f listed n) ∙ rows-skip f listed m n a (omega arith) (λ s c hc b d. h s c hc b (omega arith))
    ]

-- no more rows than satellites
few-if : (b : Bool) (rows : List SatelliteRow) (r : SatelliteRow) (n : ℕ) → length rows ≤ n → length (rows ++ (if b then r ∷ [] else [])) ≤ suc n
few-if true rows r n h = omega (arith, length-append rows (r ∷ []))
few-if false rows r n h = omega (arith, ap length (append-nil rows))

rows-few : (f : ℕ → AnyCode → Option Observed) (listed : List AnyCode) (n : ℕ) → length (rows_to f listed n) ≤ n
unfolding rows_to
rows-few f listed zero = omega arith
rows-few f listed (suc n) =
    few-if (list_any (λ code. is_some (f (suc n) code)) (codes_for listed (suc n))) (rows_to f listed n) (row_with f (codes_for listed (suc n)) (suc n)) n (rows-few f listed n)

pub rows-step : (f : ℕ → AnyCode → Option Observed) (listed : List AnyCode) (n : ℕ) (rows more : List SatelliteRow) → rows ≡ rows_to f listed n → more ≡ row_if_any f (codes_for listed (n + 1)) (n + 1)
    → rows ++ more ≡ rows_to f listed (n + 1)
rows-step f listed n rows more e m = ap (λ (xs : List SatelliteRow). xs ++ more) e ∙ ap (λ (xs : List SatelliteRow). rows_to f listed n ++ xs) m ∙ sym (rows_to-more f listed n)

-- there is room for one row more
pub room-held : {L : Type 0} (HasRows : L → Bool → List SatelliteRow → Type 0) (doppler : Bool) (greatest : ℕ) (l : L) (f : ℕ → AnyCode → Option Observed) (listed : List AnyCode) (n : ℕ)
    → HasRows l doppler (rows_to f listed n) → n < greatest → HasRoom HasRows greatest l
room-held HasRows doppler greatest l f listed n h lt = (doppler, rows_to f listed n, h, omega (arith, rows-few f listed n))
