-- The strengths of columns, record by record.
use Rattle.std.proofs.Common.{◌≡◌, ◌≢◌, ◌<◌, ◌≤◌, ◌+◌, ◌*◌, ◌/◌, ◌^◌, ◌==◌, ◌⊎◌, inl, inr, ℕ, Bool, true, false, cond, List, [], ◌∷◌, ◌++◌, Option, None, Some, length, set, get_or, drop, replicate, refl, sym, ap, subst, ◌∙◌, arith}
use Rattle.std.specs.Prelude.{sum, min}
use Rattle.std.proofs.Math.Nat.{div-lt_iff_lt-mul}
use Rattle.std.proofs.lemmas.Bool.{eq-eqb, ne_eqb}
use Rattle.std.proofs.lemmas.List.{drop_more, drop_all, length-append, length-replicate, get_or-replicate}
use Rattle.std.proofs.lemmas.List.Sums.{sum_by-append}
use Rattle.std.proofs.lemmas.List.FromFn.{fill_by_all, get_or-map-range_with_len, length-map-range_with_len}
use Rattle.rtk_obs.specs.declared.code.Band.{Band}
use Rattle.rtk_obs.specs.declared.code.Band.TheVariants.{L1, L2, L5}
use Rattle.rtk_rinex.specs.Record.{EpochTableView}
use Rattle.rtk_rinex.specs.declared.epoch_table.Observed.{Observed}
use Rattle.rtk_rinex.specs.declared.epoch_table.SatelliteRow.{SatelliteRow}
use Rattle.rtk_tracking.specs.Epochs.{capped}
use Rattle.rtk_chart.specs.Means.{number_of, is_of_band, list_of_strength, strengths_of_row, strengths_of_rows, column_at, strengths_in, band_in, column_in, columns_of, all_without, of_band, mean_of, mean_at, bins_per_column}
use Rattle.rtk_chart.specs.Laws.{mean_of_strengths}
use Rattle.rtk_chart.specs.Steps.Added.{with_one, with_strength, with_strength_if, with_row, with_rows}
use Rattle.rtk_chart.specs.declared.scale.Scale.{Scale}
use Rattle.rtk_chart.specs.declared.strengths.BandStrengths.{BandStrengths}
use Rattle.rtk_chart.specs.declared.strengths.Strengths.{Strengths}
use Rattle.rtk_chart.proofs.ListLemmas.{set-map}
use Rattle.rtk_chart.proofs.GridLemmas.{at-place}

-- ---- a row, code by code

-- one code more of a row
pub code-more : (listed : List (Option Band)) (os : List Observed) (i : ℕ) (d : Option Band) (o : Observed) (s : Strengths) → i < length listed → i < length os
    → with_row (drop i listed) (drop i os) s
    ≡ with_row (drop (i + 1) listed) (drop (i + 1) os) (with_strength_if (get_or listed i d) (get_or os i o).strength_millidbhz s)
code-more listed os i d o s one other =
    ap (λ (cs : List (Option Band)). with_row cs (drop i os) s) (drop_more listed i d one)
    ∙ ap (λ (xs : List Observed). with_row (get_or listed i d ∷ drop (i + 1) listed) xs s) (drop_more os i o other)

-- no code is left, or nothing is observed
none-left : (listed : List (Option Band)) (s : Strengths) → with_row listed [] s ≡ s
none-left [] s = refl
none-left (c ∷ cs) s = refl

pub row-end : (listed : List (Option Band)) (os : List Observed) (i : ℕ) (s : Strengths) → (length listed ≤ i) ⊎ (length os ≤ i) → with_row (drop i listed) (drop i os) s ≡ s
row-end listed os i s ends = elim ends [
  | inl no_code ↦ ap (λ (cs : List (Option Band)). with_row cs (drop i os) s) (drop_all i listed no_code)
  | inr no_more ↦ ap (λ (xs : List Observed). with_row (drop i listed) xs s) (drop_all i os no_more) ∙ none-left (drop i listed) s
]

-- ---- numbers of strengths, and their sums

-- so many strengths, with this sum
abbrev Has : BandStrengths → ℕ → ℕ → Type 0
Has b count sum = (b.count ≡ capped count) × (b.sum ≡ capped sum)

one-had : (b : BandStrengths) (strength : Option ℕ) (n m : ℕ) → Has b n m → Has (with_one b strength) (n + length (list_of_strength strength)) (m + sum (list_of_strength strength))
one-had b None n m has =
    let count = has.0 in
    let total = has.1 in
    (omega (arith, count), omega (arith, total))
one-had b (Some strength) n m has =
    let count = has.0 in
    let total = has.1 in
    (omega (arith, count), omega (arith, total))

of-other : (band other : Band) (strength : Option ℕ) (s : Strengths) → of_band band (with_strength other strength s) ≡ cond (number_of other == number_of band) (with_one (of_band band s) strength) (of_band band s)
of-other L1 L1 strength s = refl
of-other L1 L2 strength s = refl
of-other L1 L5 strength s = refl
of-other L2 L1 strength s = refl
of-other L2 L2 strength s = refl
of-other L2 L5 strength s = refl
of-other L5 L1 strength s = refl
of-other L5 L2 strength s = refl
of-other L5 L5 strength s = refl

of-any : (band : Band) (other : Option Band) (strength : Option ℕ) (s : Strengths)
    → of_band band (with_strength_if other strength s) ≡ cond (is_of_band band other) (with_one (of_band band s) strength) (of_band band s)
of-any band None strength s = refl
of-any band (Some other) strength s = of-other band other strength s

-- one code of a row
code-had : (b : Bool) (own : BandStrengths) (strength : Option ℕ) (n m : ℕ) → Has own n m
    → Has (cond b (with_one own strength) own) (n + length (cond b (list_of_strength strength) [])) (m + sum (cond b (list_of_strength strength) []))
code-had true own strength n m has = one-had own strength n m has
code-had false own strength n m has =
    let count = has.0 in
    let total = has.1 in
    (omega (arith, count), omega (arith, total))

-- more strengths at the end
had-more : (b : BandStrengths) (n m : ℕ) (xs ys : List ℕ) → Has b (n + length xs + length ys) (m + sum xs + sum ys) → Has b (n + length (xs ++ ys)) (m + sum (xs ++ ys))
had-more b n m xs ys has =
    let size = length-append xs ys in
    let all = sum_by-append (λ x. x) xs ys in
    let count = has.0 in
    let total = has.1 in
    (omega (arith, size, count), omega (arith, all, total))

had-none : (b : BandStrengths) (n m : ℕ) → Has b n m → Has b (n + 0) (m + 0)
had-none b n m has =
    let count = has.0 in
    let total = has.1 in
    (omega (arith, count), omega (arith, total))

row-had : (band : Band) (cs : List (Option Band)) (os : List Observed) (s : Strengths) (n m : ℕ) → Has (of_band band s) n m
    → Has (of_band band (with_row cs os s)) (n + length (strengths_of_row band cs os)) (m + sum (strengths_of_row band cs os))
row-had band [] os s n m has = had-none (of_band band s) n m has
row-had band (c ∷ cs) [] s n m has = had-none (of_band band s) n m has
row-had band (c ∷ cs) (o ∷ os) s n m has =
    let own : List ℕ = cond (is_of_band band c) (list_of_strength o.strength_millidbhz) [] in
    let rest : List ℕ = strengths_of_row band cs os in
    let with : Strengths = with_strength_if c o.strength_millidbhz s in
    let here : Has (of_band band with) (n + length own) (m + sum own) =
    subst (λ (b : BandStrengths). Has b (n + length own) (m + sum own)) (sym (of-any band c o.strength_millidbhz s))
    (code-had (is_of_band band c) (of_band band s) o.strength_millidbhz n m has) in
    had-more (of_band band (with_row cs os with)) n m own rest (row-had band cs os with (n + length own) (m + sum own) here)

rows-had : (band : Band) (listed : List (Option Band)) (rows : List SatelliteRow) (s : Strengths) (n m : ℕ) → Has (of_band band s) n m
    → Has (of_band band (with_rows listed rows s)) (n + length (strengths_of_rows band listed rows)) (m + sum (strengths_of_rows band listed rows))
rows-had band listed [] s n m has = had-none (of_band band s) n m has
rows-had band listed (r ∷ rows) s n m has =
    let own : List ℕ = strengths_of_row band listed r.observed.items in
    let rest : List ℕ = strengths_of_rows band listed rows in
    let with : Strengths = with_row listed r.observed.items s in
    had-more (of_band band (with_rows listed rows with)) n m own rest
    (rows-had band listed rows with (n + length own) (m + sum own) (row-had band listed r.observed.items s n m has))

strengths-from : (a b : BandStrengths) → a.count ≡ b.count → a.sum ≡ b.sum → a ≡ b
strengths-from a b count sum = ap (λ (n : ℕ). record { count = n; sum = a.sum }) count ∙ ap (λ (n : ℕ). record { count = b.count; sum = n }) sum

-- ---- columns

-- a column with a record more, of its own or of another one
abbrev strengths_with : Scale → List (Option Band) → Band → EpochTableView → List EpochTableView → ℕ → Bool → List ℕ
strengths_with s listed band e es c own =
    cond own (strengths_in s listed band es c ++ strengths_of_rows band listed e.rows) (strengths_in s listed band es c)

strengths-own : (s : Scale) (listed : List (Option Band)) (band : Band) (e : EpochTableView) (es : List EpochTableView) (c : ℕ) → column_at s e.time ≡ c
    → strengths_in s listed band (e ∷ es) c ≡ strengths_in s listed band es c ++ strengths_of_rows band listed e.rows
strengths-own s listed band e es c at = ap (strengths_with s listed band e es c) (eq-eqb (column_at s e.time) c at)

strengths-other : (s : Scale) (listed : List (Option Band)) (band : Band) (e : EpochTableView) (es : List EpochTableView) (c : ℕ) → column_at s e.time ≢ c
    → strengths_in s listed band (e ∷ es) c ≡ strengths_in s listed band es c
strengths-other s listed band e es c apart = ap (strengths_with s listed band e es c) (ne_eqb (column_at s e.time) c apart)

band-own : (s : Scale) (listed : List (Option Band)) (e : EpochTableView) (es : List EpochTableView) (c : ℕ) (old : Strengths) (band : Band) → column_at s e.time ≡ c
    → of_band band old ≡ band_in s listed es c band → of_band band (with_rows listed e.rows old) ≡ band_in s listed (e ∷ es) c band
band-own s listed e es c old band at was =
    let before : List ℕ = strengths_in s listed band es c in
    let own : List ℕ = strengths_of_rows band listed e.rows in
    let count : (of_band band old).count ≡ capped (length before) = ap (λ (b : BandStrengths). b.count) was in
    let total : (of_band band old).sum ≡ capped (sum before) = ap (λ (b : BandStrengths). b.sum) was in
    let has = rows-had band listed e.rows old (length before) (sum before) (count, total) in
    let is = strengths-own s listed band e es c at in
    strengths-from (of_band band (with_rows listed e.rows old)) (band_in s listed (e ∷ es) c band)
    (has.0 ∙ ap (λ (n : ℕ). capped n) (sym (ap (λ (xs : List ℕ). length xs) is ∙ length-append before own)))
    (has.1 ∙ ap (λ (n : ℕ). capped n) (sym (ap (λ (xs : List ℕ). sum xs) is ∙ sum_by-append (λ x. x) before own)))

band-other : (s : Scale) (listed : List (Option Band)) (e : EpochTableView) (es : List EpochTableView) (c : ℕ) (band : Band) → column_at s e.time ≢ c
    → band_in s listed (e ∷ es) c band ≡ band_in s listed es c band
band-other s listed e es c band apart =
    ap (λ (xs : List ℕ). record { count = capped (length xs); sum = capped (sum xs) }) (strengths-other s listed band e es c apart)

abbrev column_with : BandStrengths → BandStrengths → BandStrengths → Strengths
column_with a b c = record { l1 = a; l2 = b; l5 = c }

same-column : (a b c x y z : BandStrengths) → a ≡ x → b ≡ y → c ≡ z → column_with a b c ≡ column_with x y z
same-column a b c x y z first second third =
    ap (λ (l : BandStrengths). column_with l b c) first ∙ ap (λ (l : BandStrengths). column_with x l c) second ∙ ap (λ (l : BandStrengths). column_with x y l) third

of-column : (s : Scale) (listed : List (Option Band)) (es : List EpochTableView) (c : ℕ) (band : Band) → of_band band (column_in s listed es c) ≡ band_in s listed es c band
of-column s listed es c L1 = refl
of-column s listed es c L2 = refl
of-column s listed es c L5 = refl

column-own : (s : Scale) (listed : List (Option Band)) (e : EpochTableView) (es : List EpochTableView) (c : ℕ) (old : Strengths) → column_at s e.time ≡ c
    → old ≡ column_in s listed es c → with_rows listed e.rows old ≡ column_in s listed (e ∷ es) c
column-own s listed e es c old at was =
    let own = λ (band : Band). band-own s listed e es c old band at (ap (of_band band) was ∙ of-column s listed es c band) in
    same-column _ _ _ _ _ _ (own L1) (own L2) (own L5)

column-other : (s : Scale) (listed : List (Option Band)) (e : EpochTableView) (es : List EpochTableView) (c : ℕ) → column_at s e.time ≢ c
    → column_in s listed (e ∷ es) c ≡ column_in s listed es c
column-other s listed e es c apart =
    same-column _ _ _ _ _ _ (band-other s listed e es c L1 apart) (band-other s listed e es c L2 apart) (band-other s listed e es c L5 apart)

-- a record goes to its column
pub column-more : (s : Scale) (listed : List (Option Band)) (e : EpochTableView) (es : List EpochTableView) (columns : List Strengths) (place : ℕ) (old new d : Strengths)
    → place ≡ column_at s e.time → place < 144 → columns ≡ columns_of s listed es → old ≡ column_in s listed es place
    → new ≡ with_rows listed e.rows old → set columns place new ≡ columns_of s listed (e ∷ es)
unfolding columns_of
column-more s listed e es columns place old new d at within are was took =
    set-map (column_in s listed es) (column_in s listed (e ∷ es)) columns 144 place new d are within
    (took ∙ column-own s listed e es place old (sym at) was)
    (λ k lt other. sym (column-other s listed e es k (λ same. other (sym same ∙ sym at))))

-- a record beyond all columns changes none
pub column-beyond : (s : Scale) (listed : List (Option Band)) (e : EpochTableView) (es : List EpochTableView) (columns : List Strengths) (place : ℕ)
    → place ≡ column_at s e.time → length columns ≤ place → columns ≡ columns_of s listed es → columns ≡ columns_of s listed (e ∷ es)
unfolding columns_of
column-beyond s listed e es columns place at beyond are =
    let many : length columns ≡ 144 = ap (λ xs. length xs) are ∙ length-map-range_with_len (column_in s listed es) 0 144 in
    fill_by_all (column_in s listed (e ∷ es)) columns 144 all_without many (λ k lt.
    let here : 0 + k ≡ k = omega arith in
    let apart : column_at s e.time ≢ k = omega (arith, at, beyond, many, lt) in
    ap (λ xs. get_or xs k all_without) are ∙ get_or-map-range_with_len (column_in s listed es) 0 144 k k all_without lt here
    ∙ sym (column-other s listed e es k apart))

pub column-there : (s : Scale) (listed : List (Option Band)) (es : List EpochTableView) (columns : List Strengths) (place : ℕ) (d : Strengths)
    → place < 144 → columns ≡ columns_of s listed es → get_or columns place d ≡ column_in s listed es place
unfolding columns_of
column-there s listed es columns place d within are = ap (λ xs. get_or xs place d) are ∙ at-place (column_in s listed es) 144 place d within

pub columns-size : (s : Scale) (listed : List (Option Band)) (es : List EpochTableView) (columns : List Strengths) → columns ≡ columns_of s listed es → length columns ≡ 144
unfolding columns_of
columns-size s listed es columns are = ap (λ xs. length xs) are ∙ length-map-range_with_len (column_in s listed es) 0 144

-- no record came
pub fresh-columns : (s : Scale) (listed : List (Option Band)) (columns : List Strengths) (one : Strengths) → columns ≡ replicate 144 one → one ≡ all_without → columns ≡ columns_of s listed []
unfolding columns_of
fresh-columns s listed columns one are is =
    fill_by_all (column_in s listed []) columns 144 one (ap (λ xs. length xs) are ∙ length-replicate 144 one)
    (λ k lt. ap (λ xs. get_or xs k one) are ∙ get_or-replicate 144 k one one lt ∙ is)

-- ---- means

mean-is : (xs : List ℕ) → length xs < 2 ^ 64 → sum xs < 2 ^ 64 → mean_of (record { count = capped (length xs); sum = capped (sum xs) }) ≡ mean_of_strengths xs
mean-is [] few fits = refl
mean-is (x ∷ xs) few fits =
    let n : ℕ = length (x ∷ xs) in
    let total : ℕ = sum (x ∷ xs) in
    let count : capped n ≡ n = omega (arith, few) in
    let all : capped total ≡ total = omega (arith, fits) in
    let some : n ≢ 0 = omega arith in
    ap (λ (k : ℕ). mean_of (record { count = k; sum = capped total })) count
    ∙ ap (λ (k : ℕ). mean_of (record { count = n; sum = k })) all
    ∙ ap (λ (none : Bool). cond none None (Some (min (total / n) 63_750))) (ne_eqb n 0 some)

has-column : (s : Scale) (bin : ℕ) → bin < s.bins → bin / bins_per_column s < 144
has-column s bin within =
    let some : 0 < bins_per_column s = omega (arith, within) in
    let room : bin < 144 * bins_per_column s = omega (arith, within) in
    (div-lt_iff_lt-mul some).1 room

pub means-are : (s : Scale) (listed : List (Option Band)) (es : List EpochTableView) (band : Band) (bin : ℕ) → bin < s.bins
    → length (strengths_in s listed band es (bin / bins_per_column s)) < 2 ^ 64 → sum (strengths_in s listed band es (bin / bins_per_column s)) < 2 ^ 64
    → mean_at band (get_or (columns_of s listed es) (bin / bins_per_column s) all_without) ≡ mean_of_strengths (strengths_in s listed band es (bin / bins_per_column s))
means-are s listed es band bin within few fits =
    let c : ℕ = bin / bins_per_column s in
    ap (λ (column : Strengths). mean_at band column) (column-there s listed es (columns_of s listed es) c all_without (has-column s bin within) refl)
    ∙ ap mean_of (of-column s listed es c band) ∙ mean-is (strengths_in s listed band es c) few fits
