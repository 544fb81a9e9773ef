-- The digits with bit 0 of a file, counted by satellites and codes and by rows.
use Rattle.std.proofs.Common.{◌≡◌, ◌≢◌, ◌≤◌, ◌<◌, ◌+◌, ◌-◌, ◌==◌, ℕ, zero, suc, Bool, cond, count_by, List, [], ◌∷◌, length, inl, inr, refl, sym, ap, ◌∙◌, arith}
use Rattle.std.specs.Prelude.{All, AllPairs}
use Rattle.std.specs.List.{range_with_len, sum_by}
use Rattle.std.proofs.lemmas.Bool.{cases_eq, eq-eqb, ne_eqb}
use Rattle.std.proofs.lemmas.List.Elements.{All-head, All-tail}
use Rattle.std.proofs.lemmas.List.Sums.{sum_by-cons}
use Rattle.rtk_rinex.specs.Record.{EpochTableView}
use Rattle.rtk_rinex.specs.Table.{IsTableRow, IsTableEpoch}
use Rattle.rtk_rinex.specs.declared.epoch_table.Observed.{Observed}
use Rattle.rtk_rinex.specs.declared.epoch_table.SatelliteRow.{SatelliteRow}
use Rattle.rtk_tracking.specs.Epochs.{observed_in}
use Rattle.rtk_tracking.specs.Passes.{has_bit_0}
use Rattle.rtk_chart.specs.Epochs.{times_in}
use Rattle.rtk_chart.proofs.ListLemmas.{sum-both}

-- ---- sums over numbers

sum-none : (p : ℕ → ℕ) (ks : List ℕ) → ((k : ℕ) → p k ≡ 0) → sum_by p ks ≡ 0
sum-none p [] none = refl
sum-none p (k ∷ ks) none =
    let here = none k in
    let rest = sum-none p ks none in
    let all = sum_by-cons p k ks in
    omega (arith, here, rest, all)

sum-shift : (p : ℕ → ℕ) (a m : ℕ) → sum_by p (range_with_len (suc a) m) ≡ sum_by (λ k. p (suc k)) (range_with_len a m)
sum-shift p a zero = refl
sum-shift p a (suc m) =
    let on : suc a + 1 ≡ suc (a + 1) = omega arith in
    sum_by-cons p (suc a) (range_with_len (suc a + 1) m)
    ∙ ap (λ (n : ℕ). p (suc a) + sum_by p (range_with_len n m)) on
    ∙ ap (λ (n : ℕ). p (suc a) + n) (sum-shift p (a + 1) m)
    ∙ sym (sum_by-cons (λ (k : ℕ). p (suc k)) a (range_with_len (a + 1) m))

-- the number that is given at one place alone
abbrev only_at : ℕ → ℕ → ℕ → ℕ
only_at g p k = cond (k == p) g 0

past-place : (g p a n : ℕ) → p < a → sum_by (only_at g p) (range_with_len a n) ≡ 0
past-place g p a zero past = refl
past-place g p a (suc n) past =
    let other : a ≢ p = omega (arith, past) in
    let here : only_at g p a ≡ 0 = ap (λ (b : Bool). cond b g 0) (ne_eqb a p other) in
    let next : p < a + 1 = omega (arith, past) in
    let rest = past-place g p (a + 1) n next in
    let all = sum_by-cons (only_at g p) a (range_with_len (a + 1) n) in
    omega (arith, here, rest, all)

one-place : (g p a n : ℕ) → a ≤ p → p < a + n → sum_by (only_at g p) (range_with_len a n) ≡ g
one-place g p a zero from to = absurd (omega arith)
one-place g p a (suc n) from to =
    let all = sum_by-cons (only_at g p) a (range_with_len (a + 1) n) in
    elim (cases_eq a p) [
      | inl same ↦
          let here : only_at g p a ≡ g = ap (λ (b : Bool). cond b g 0) (eq-eqb a p same) in
          let next : p < a + 1 = omega (arith, same) in
          let rest = past-place g p (a + 1) n next in
          omega (arith, here, rest, all)
      | inr other ↦
          let here : only_at g p a ≡ 0 = ap (λ (b : Bool). cond b g 0) (ne_eqb a p other) in
          let next : a + 1 ≤ p = omega (arith, from, other) in
          let inside : p < (a + 1) + n = omega (arith, to) in
          let rest = one-place g p (a + 1) n next inside in
          omega (arith, here, rest, all)
    ]

-- ---- a satellite

-- the digits with bit 0 of a list
abbrev slips_of : List Observed → ℕ
slips_of os = count_by (λ o. o.slip) os

-- the same, code by code
abbrev bits_of : ℕ → List Observed → ℕ
bits_of m os = count_by (λ code. has_bit_0 code os) (range_with_len 0 m)

codes-counted : (os : List Observed) (m : ℕ) → length os ≤ m → bits_of m os ≡ slips_of os
codes-counted [] m few = sum-none (λ (code : ℕ). cond (has_bit_0 code []) 1 0) (range_with_len 0 m) (λ k. refl)
codes-counted (o ∷ os) zero few = absurd (omega arith)
codes-counted (o ∷ os) (suc m) few =
    let rest : length os ≤ m = omega (arith, few) in
    sum_by-cons (λ (code : ℕ). cond (has_bit_0 code (o ∷ os)) 1 0) 0 (range_with_len 1 m)
    ∙ ap (λ (n : ℕ). cond o.slip 1 0 + n) (sum-shift (λ (code : ℕ). cond (has_bit_0 code (o ∷ os)) 1 0) 0 m ∙ codes-counted os m rest)
    ∙ sym (sum_by-cons (λ (x : Observed). cond x.slip 1 0) o os)

-- ---- rows

abbrev Rises : SatelliteRow → SatelliteRow → Type 0
Rises a b = a.satellite < b.satellite

rises-head : (r : SatelliteRow) (rows : List SatelliteRow) → AllPairs Rises (r ∷ rows) → All (Rises r) rows
rises-head r rows h = λ k d lt. h 0 (suc k) d (omega arith) (omega (arith, lt))

rises-tail : (r : SatelliteRow) (rows : List SatelliteRow) → AllPairs Rises (r ∷ rows) → AllPairs Rises rows
rises-tail r rows h = λ i j d lt inside. h (suc i) (suc j) d (omega (arith, lt)) (omega (arith, inside))

-- a satellite that comes before all of these has no row among them
no-row : (r : SatelliteRow) (rows : List SatelliteRow) → All (Rises r) rows → observed_in r.satellite rows ≡ []
no-row r [] later = refl
no-row r (x ∷ rows) later =
    let sooner : r.satellite < x.satellite = All-head (Rises r) x rows later in
    let other : x.satellite ≢ r.satellite = omega (arith, sooner) in
    ap (λ (b : Bool). cond b x.observed.items (observed_in r.satellite rows)) (ne_eqb x.satellite r.satellite other)
    ∙ no-row r rows (All-tail (Rises r) x rows later)

abbrev row_slips : SatelliteRow → ℕ
row_slips r = slips_of r.observed.items

-- the place of a row's satellite has its digits, and each other place those of the other rows
place-counted : (r : SatelliteRow) (rows : List SatelliteRow) → 1 ≤ r.satellite → length r.observed.items ≤ 16 → All (Rises r) rows → (k : ℕ)
    → only_at (row_slips r) (r.satellite - 1) k + bits_of 16 (observed_in (k + 1) rows) ≡ bits_of 16 (observed_in (k + 1) (r ∷ rows))
place-counted r rows from few later k =
    elim (cases_eq k (r.satellite - 1)) [
      | inl same ↦
          let at : r.satellite ≡ k + 1 = omega (arith, from, same) in
          let mine : only_at (row_slips r) (r.satellite - 1) k ≡ row_slips r = ap (λ (b : Bool). cond b (row_slips r) 0) (eq-eqb k (r.satellite - 1) same) in
          let others : bits_of 16 (observed_in (k + 1) rows) ≡ 0 =
          ap (λ (n : ℕ). bits_of 16 (observed_in n rows)) (sym at) ∙ ap (λ (os : List Observed). bits_of 16 os) (no-row r rows later)
          ∙ sum-none (λ (code : ℕ). cond (has_bit_0 code []) 1 0) (range_with_len 0 16) (λ c. refl) in
          let all : bits_of 16 (observed_in (k + 1) (r ∷ rows)) ≡ row_slips r =
          ap (λ (b : Bool). bits_of 16 (cond b r.observed.items (observed_in (k + 1) rows))) (eq-eqb r.satellite (k + 1) at) ∙ codes-counted r.observed.items 16 few in
          omega (arith, mine, others, all)
      | inr other ↦
          let apart : r.satellite ≢ k + 1 = omega (arith, from, other) in
          let mine : only_at (row_slips r) (r.satellite - 1) k ≡ 0 = ap (λ (b : Bool). cond b (row_slips r) 0) (ne_eqb k (r.satellite - 1) other) in
          let all : bits_of 16 (observed_in (k + 1) (r ∷ rows)) ≡ bits_of 16 (observed_in (k + 1) rows) =
          ap (λ (b : Bool). bits_of 16 (cond b r.observed.items (observed_in (k + 1) rows))) (ne_eqb r.satellite (k + 1) apart) in
          omega (arith, mine, all)
    ]

rows-counted : (n : ℕ) (rows : List SatelliteRow) → n ≤ 16 → All (IsTableRow n) rows → AllPairs Rises rows
    → sum_by (λ k. bits_of 16 (observed_in (k + 1) rows)) (range_with_len 0 32) ≡ sum_by row_slips rows
rows-counted n [] few are rise =
    sum-none (λ (k : ℕ). bits_of 16 []) (range_with_len 0 32) (λ k. sum-none (λ (code : ℕ). cond (has_bit_0 code []) 1 0) (range_with_len 0 16) (λ c. refl))
rows-counted n (r ∷ rows) few are rise =
    let row = All-head (IsTableRow n) r rows are in
    let from : 1 ≤ r.satellite = row.satellite.0 in
    let to : r.satellite ≤ 32 = row.satellite.1 in
    let wide : length r.observed.items ≡ n = row.width in
    let narrow : length r.observed.items ≤ 16 = omega (arith, wide, few) in
    let low : 0 ≤ r.satellite - 1 = omega arith in
    let high : r.satellite - 1 < 0 + 32 = omega (arith, from, to) in
    let all = sum-both (only_at (row_slips r) (r.satellite - 1)) (λ (k : ℕ). bits_of 16 (observed_in (k + 1) rows)) (λ (k : ℕ). bits_of 16 (observed_in (k + 1) (r ∷ rows)))
    (range_with_len 0 32) (place-counted r rows from narrow (rises-head r rows rise)) in
    let mine = one-place (row_slips r) (r.satellite - 1) 0 32 low high in
    let rest = rows-counted n rows few (All-tail (IsTableRow n) r rows are) (rises-tail r rows rise) in
    let rows_sum = sum_by-cons row_slips r rows in
    added _ _ _ _ _ _ all mine rest rows_sum
  where
    added : (all mine places rest rows first : ℕ) → mine + places ≡ all → mine ≡ first → places ≡ rest → rows ≡ first + rest → all ≡ rows
    added all mine places rest rows first a b c d = omega (arith, a, b, c, d)

pub digits-counted : (n : ℕ) (es : List EpochTableView) → n ≤ 16 → All (IsTableEpoch n) es
    → times_in (λ code before now. has_bit_0 code now.observed) es ≡ sum_by (λ e. sum_by (λ r. count_by (λ o. o.slip) r.observed.items) e.rows) es
digits-counted n [] few are = refl
digits-counted n (e ∷ es) few are =
    let is = All-head (IsTableEpoch n) e es are in
    let rest = digits-counted n es few (All-tail (IsTableEpoch n) e es are) in
    turned _ _ _ _ _ rest (rows-counted n e.rows few is.rows is.rise) (sum_by-cons (λ (f : EpochTableView). sum_by row_slips f.rows) e es)
  where
    turned : (a b c d t : ℕ) → a ≡ c → b ≡ d → t ≡ d + c → a + b ≡ t
    turned a b c d t x y z = omega (arith, x, y, z)
