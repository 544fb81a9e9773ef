-- The satellites of a file and their passes, an epoch more.
use Rattle.std.proofs.Common.{◌≡◌, ◌≢◌, ◌<◌, ◌≤◌, ◌+◌, ◌==◌, ◌&&◌, ◌||◌, ◌++◌, cond, ℕ, Bool, false, List, [], ◌∷◌, length, set, get_or, replicate, reverse, map, count_by, Option, None, Some, refl, sym, ap, subst, inl, inr, ◌∙◌, get_or-set_same, get_or-set_other, length-set, arith}
use Rattle.std.specs.List.{range_with_len, list_any, fold}
use Rattle.std.proofs.lemmas.Bool.{cases_Bool, cases_eq, eq-eqb, ne_eqb}
use Rattle.std.proofs.lemmas.List.{append-nil, get_or-replicate, length-replicate}
use Rattle.std.proofs.lemmas.List.FromFn.{get_or-map-range_with_len}
use Rattle.std.proofs.lemmas.List.Sums.{fold-append, sum_by_push}
use Rattle.std.proofs.lemmas.Grind.{reverse_onto}
use Rattle.rtk_rinex.specs.Record.{EpochTableView}
use Rattle.rtk_tracking.specs.Passes.{Sighting, sightings_of, has_phase, last_phase, is_away, begins_pass}
use Rattle.rtk_quality.specs.Counts.{plus, noted_of, counts_of, code_counts_of}
use Rattle.rtk_quality.specs.SatellitePasses.{no_sums, sums_at, sums_plus, sums_in, longer, passes_of, epochs_in_passes}
use Rattle.rtk_quality.specs.Quality.{numbers_of, is_in_file, with_satellite, no_numbers}
use Rattle.rtk_quality.specs.Standing.{newest_pass, older_passes, StandsForSatellite, StandForSatellites, ended_of, with_ended}
use Rattle.rtk_quality.specs.declared.pass_sums.PassSums.{PassSums}
use Rattle.rtk_quality.specs.declared.satellite_counts.PassCounts.{PassCounts}
use Rattle.rtk_quality.specs.declared.satellite_counts.SatelliteCounts.{SatelliteCounts}
use Rattle.rtk_quality.specs.declared.code_counts.CodeCounts.{CodeCounts}
use Rattle.rtk_quality.specs.declared.code_numbers.CodeNumbers.{CodeNumbers}
use Rattle.rtk_quality.specs.declared.file_counts.EndedPass.{EndedPass}
use Rattle.rtk_quality.proofs.ListLemmas.{range-more}
use Rattle.rtk_quality.proofs.CountLemmas.{same-passes, begun-passes, longer-passes}

-- ---- satellites

-- the satellites before a place have an epoch more
pub record AreUpTo (n most : ℕ) (xs : List SatelliteCounts) (interval : Option ℕ) (e : EpochTableView) (es : List EpochTableView) : Type 0 where
  pub size : length xs ≡ most
  pub new : (place : ℕ) (d : SatelliteCounts) → place < n → StandsForSatellite (get_or xs place d) interval (sightings_of (place + 1) (e ∷ es))
  pub old : (place : ℕ) (d : SatelliteCounts) → n ≤ place → place < most → StandsForSatellite (get_or xs place d) interval (sightings_of (place + 1) es)

pub none-yet : (most : ℕ) (xs : List SatelliteCounts) (interval : Option ℕ) (e : EpochTableView) (es : List EpochTableView) → StandForSatellites xs most interval es → AreUpTo 0 most xs interval e es
none-yet most xs interval e es are = record {
  size = are.size;
  new = λ place d below. absurd (omega arith);
  old = λ place d above within. are.each place d within;
}

pub all-now : (n most : ℕ) (xs : List SatelliteCounts) (interval : Option ℕ) (e : EpochTableView) (es : List EpochTableView) → n ≡ most → AreUpTo n most xs interval e es → StandForSatellites xs most interval (e ∷ es)
all-now n most xs interval e es end are = record {
  size = are.size;
  each = λ place d within.
      let below : place < n = omega arith in
      are.new place d below;
}

pub one-more : (n i most : ℕ) (xs : List SatelliteCounts) (y : SatelliteCounts) (interval : Option ℕ) (e : EpochTableView) (es : List EpochTableView) → i ≡ n → n < most
    → AreUpTo n most xs interval e es → StandsForSatellite y interval (sightings_of (n + 1) (e ∷ es)) → AreUpTo (n + 1) most (set xs i y) interval e es
one-more n i most xs y interval e es at within are stands =
    subst (λ (j : ℕ). AreUpTo (n + 1) most (set xs j y) interval e es) (sym at) (record {
      size = length-set xs n y ∙ are.size;
      new = λ place d below.
          elim (cases_eq place n) [
            | inl same ↦
                let inside : n < length xs = let size = are.size in omega (arith, size) in
                subst (λ (k : ℕ). StandsForSatellite (get_or (set xs n y) k d) interval (sightings_of (k + 1) (e ∷ es))) (sym same)
                (subst (λ (z : SatelliteCounts). StandsForSatellite z interval (sightings_of (n + 1) (e ∷ es))) (sym (get_or-set_same xs n y d inside)) stands)
            | inr other ↦
                let earlier : place < n = omega arith in
                subst (λ (z : SatelliteCounts). StandsForSatellite z interval (sightings_of (place + 1) (e ∷ es))) (sym (get_or-set_other xs n place y d other)) (are.new place d earlier)
          ];
      old = λ place d above inside.
          let other : place ≢ n = λ same. absurd (omega arith) in
          let later : n ≤ place = omega arith in
          subst (λ (z : SatelliteCounts). StandsForSatellite z interval (sightings_of (place + 1) es)) (sym (get_or-set_other xs n place y d other)) (are.old place d later inside);
    })

pub fresh-satellites : (most : ℕ) (xs : List SatelliteCounts) (one : SatelliteCounts) (interval : Option ℕ) → xs ≡ replicate most one → ((interval : Option ℕ) → StandsForSatellite one interval []) → StandForSatellites xs most interval []
fresh-satellites most xs one interval are fresh = record {
  size = ap (λ (ys : List SatelliteCounts). length ys) are ∙ length-replicate most one;
  each = λ place d within.
      subst (λ (z : SatelliteCounts). StandsForSatellite z interval []) (sym (ap (λ (ys : List SatelliteCounts). get_or ys place d) are ∙ get_or-replicate most place one d within)) (fresh interval);
}

-- ---- passes that ended

abbrev pub list_of : Option PassCounts → List PassCounts
list_of None = []
list_of (Some p) = p ∷ []

-- all passes: the older ones, and the newest one
pub older-and-newest : (ps : List PassCounts) → reverse ps ≡ reverse (older_passes ps) ++ list_of (newest_pass ps)
older-and-newest [] = refl
older-and-newest (p ∷ ps) = reverse_onto ps p []

older-longer : (s : Sighting) (sums : PassSums) (ps : List PassCounts) → older_passes (longer s sums ps) ≡ older_passes ps
older-longer s sums [] = refl
older-longer s sums (p ∷ ps) = refl

-- the passes that ended, an epoch more
pub older-more : (interval : Option ℕ) (before : List Sighting) (s : Sighting)
    → reverse (older_passes (passes_of interval (s ∷ before)))
    ≡ reverse (older_passes (passes_of interval before)) ++ list_of (cond (begins_pass interval before s) (newest_pass (passes_of interval before)) None)
older-more interval before s =
    let ps : List PassCounts = passes_of interval before in
    let same : (b : Bool) → b ≡ false → reverse (older_passes ps) ≡ reverse (older_passes ps) ++ list_of (cond b (newest_pass ps) None) =
    λ b no. sym (append-nil (reverse (older_passes ps))) ∙ sym (ap (λ (x : Bool). reverse (older_passes ps) ++ list_of (cond x (newest_pass ps) None)) no) in
    elim (cases_Bool (has_phase s.observed)) [
      | inr none ↦
          ap (λ (qs : List PassCounts). reverse (older_passes qs)) (same-passes interval before s none)
          ∙ same (begins_pass interval before s) (ap (λ (b : Bool). b && is_away interval (last_phase before) s.time) none)
      | inl has ↦
          elim (cases_Bool (begins_pass interval before s)) [
            | inl begins ↦
                ap (λ (qs : List PassCounts). reverse (older_passes qs)) (begun-passes interval before s has begins) ∙ older-and-newest ps
                ∙ sym (ap (λ (b : Bool). reverse (older_passes ps) ++ list_of (cond b (newest_pass ps) None)) begins)
            | inr goes_on ↦
                ap (λ (qs : List PassCounts). reverse (older_passes qs)) (longer-passes interval before s has goes_on)
                ∙ ap (λ (qs : List PassCounts). reverse qs) (older-longer s (sums_at interval before s) ps)
                ∙ same (begins_pass interval before s) goes_on
          ]
    ]

pub ended-append : (k : ℕ) (xs ys : List EndedPass) → ended_of k (xs ++ ys) ≡ ended_of k xs ++ ended_of k ys
ended-append k [] ys = refl
ended-append k (x ∷ xs) ys =
    elim (cases_Bool (x.satellite == k)) [
      | inl own ↦
          ap (λ (b : Bool). cond b (x.pass ∷ ended_of k (xs ++ ys)) (ended_of k (xs ++ ys))) own ∙ ap (λ (ps : List PassCounts). x.pass ∷ ps) (ended-append k xs ys)
          ∙ sym (ap (λ (b : Bool). cond b (x.pass ∷ ended_of k xs) (ended_of k xs) ++ ended_of k ys) own)
      | inr other ↦
          ap (λ (b : Bool). cond b (x.pass ∷ ended_of k (xs ++ ys)) (ended_of k (xs ++ ys))) other ∙ ended-append k xs ys
          ∙ sym (ap (λ (b : Bool). cond b (x.pass ∷ ended_of k xs) (ended_of k xs) ++ ended_of k ys) other)
    ]

pub ended-own : (k satellite : ℕ) (p : PassCounts) → satellite ≡ k → ended_of k (record { satellite = satellite; pass = p } ∷ []) ≡ p ∷ []
ended-own k satellite p same = ap (λ (b : Bool). cond b (p ∷ []) []) (eq-eqb satellite k same)

pub ended-none : (k satellite : ℕ) (p : PassCounts) → satellite ≢ k → ended_of k (record { satellite = satellite; pass = p } ∷ []) ≡ []
ended-none k satellite p other = ap (λ (b : Bool). cond b (p ∷ []) []) (ne_eqb satellite k other)

pub with-own : (k : ℕ) (ended : List EndedPass) (pass : Option PassCounts) → ended_of k (with_ended ended k pass) ≡ ended_of k ended ++ list_of pass
with-own k ended None = sym (append-nil (ended_of k ended))
with-own k ended (Some p) =
    ended-append k ended (record { satellite = k; pass = p } ∷ []) ∙ ap (λ (ps : List PassCounts). ended_of k ended ++ ps) (ended-own k k p refl)

pub with-other : (k satellite : ℕ) (ended : List EndedPass) (pass : Option PassCounts) → satellite ≢ k → ended_of k (with_ended ended satellite pass) ≡ ended_of k ended
with-other k satellite ended None other = refl
with-other k satellite ended (Some p) other =
    ended-append k ended (record { satellite = satellite; pass = p } ∷ []) ∙ ap (λ (ps : List PassCounts). ended_of k ended ++ ps) (ended-none k satellite p other)
    ∙ append-nil (ended_of k ended)

-- ---- over all satellites

pub totals-more : (interval : Option ℕ) (es : List EpochTableView) (place i : ℕ) (old own new : CodeNumbers)
    → old ≡ fold (λ total satellite. with_satellite total (numbers_of interval (sightings_of satellite es) place)) no_numbers (range_with_len 1 i)
    → own ≡ numbers_of interval (sightings_of (i + 1) es) place → new ≡ with_satellite old own
    → new ≡ fold (λ total satellite. with_satellite total (numbers_of interval (sightings_of satellite es) place)) no_numbers (range_with_len 1 (i + 1))
totals-more interval es place i old own new was is took =
    let f : CodeNumbers → ℕ → CodeNumbers = λ total satellite. with_satellite total (numbers_of interval (sightings_of satellite es) place) in
    let next : i + 1 ≡ 1 + i = omega arith in
    took ∙ ap (λ (n : CodeNumbers). with_satellite n own) was ∙ ap (λ (n : CodeNumbers). with_satellite (fold f no_numbers (range_with_len 1 i)) n) is
    ∙ ap (λ (k : ℕ). f (fold f no_numbers (range_with_len 1 i)) k) next
    ∙ sym (ap (λ (ks : List ℕ). fold f no_numbers ks) (range-more 1 i) ∙ fold-append f no_numbers (range_with_len 1 i) ((1 + i) ∷ []))

pub possible-more : (interval : Option ℕ) (es : List EpochTableView) (i old own new : ℕ)
    → old ≡ fold (λ n satellite. plus n (epochs_in_passes interval (sightings_of satellite es))) 0 (range_with_len 1 i)
    → own ≡ epochs_in_passes interval (sightings_of (i + 1) es) → new ≡ plus old own
    → new ≡ fold (λ n satellite. plus n (epochs_in_passes interval (sightings_of satellite es))) 0 (range_with_len 1 (i + 1))
possible-more interval es i old own new was is took =
    let f : ℕ → ℕ → ℕ = λ n satellite. plus n (epochs_in_passes interval (sightings_of satellite es)) in
    let next : i + 1 ≡ 1 + i = omega arith in
    took ∙ ap (λ (n : ℕ). plus n own) was ∙ ap (λ (n : ℕ). plus (fold f 0 (range_with_len 1 i)) n) is
    ∙ ap (λ (k : ℕ). f (fold f 0 (range_with_len 1 i)) k) next
    ∙ sym (ap (λ (ks : List ℕ). fold f 0 ks) (range-more 1 i) ∙ fold-append f 0 (range_with_len 1 i) ((1 + i) ∷ []))

pub sums-more : (interval : Option ℕ) (es : List EpochTableView) (i : ℕ) (old own new : PassSums)
    → old ≡ fold (λ sums satellite. sums_plus sums (sums_in interval (sightings_of satellite es))) no_sums (range_with_len 1 i)
    → own ≡ sums_in interval (sightings_of (i + 1) es) → new ≡ sums_plus old own
    → new ≡ fold (λ sums satellite. sums_plus sums (sums_in interval (sightings_of satellite es))) no_sums (range_with_len 1 (i + 1))
sums-more interval es i old own new was is took =
    let f : PassSums → ℕ → PassSums = λ sums satellite. sums_plus sums (sums_in interval (sightings_of satellite es)) in
    let next : i + 1 ≡ 1 + i = omega arith in
    took ∙ ap (λ (n : PassSums). sums_plus n own) was ∙ ap (λ (n : PassSums). sums_plus (fold f no_sums (range_with_len 1 i)) n) is
    ∙ ap (λ (k : ℕ). f (fold f no_sums (range_with_len 1 i)) k) next
    ∙ sym (ap (λ (ks : List ℕ). fold f no_sums ks) (range-more 1 i) ∙ fold-append f no_sums (range_with_len 1 i) ((1 + i) ∷ []))

pub count-next : (p : ℕ → Bool) (a n : ℕ) → count_by p (range_with_len a (n + 1)) ≡ count_by p (range_with_len a n) + cond (p (a + n)) 1 0
count-next p a n = ap (λ t. count_by p t) (range-more a n) ∙ sum_by_push (λ x. cond (p x) 1 0) (range_with_len a n) (a + n)

pub any-map : {X Y : Type 0} (p : Y → Bool) (f : X → Y) (xs : List X) → list_any p (map f xs) ≡ list_any (λ x. p (f x)) xs
any-map p f [] = refl
any-map p f (x ∷ xs) = ap (λ b. p (f x) || b) (any-map p f xs)

-- ---- the numbers of a code

pub numbers-are : (interval : Option ℕ) (place : ℕ) (before : List Sighting) (codes : List CodeCounts) (d counts : CodeCounts) (possible : ℕ) → place < 16 → codes ≡ code_counts_of interval before
    → counts ≡ get_or codes place d → possible ≡ epochs_in_passes interval before → record { counts = counts; possible = possible; satellites = 1 } ≡ numbers_of interval before place
unfolding code_counts_of
numbers-are interval place before codes d counts possible within are at in_passes =
    let here : 0 + place ≡ place = omega arith in
    let is : counts ≡ counts_of (noted_of interval place before) =
    at ∙ ap (λ (cs : List CodeCounts). get_or cs place d) are ∙ get_or-map-range_with_len (λ (k : ℕ). counts_of (noted_of interval k before)) 0 16 place place d within here in
    ap (λ (c : CodeCounts). numbers_with c possible) is ∙ ap (λ (n : ℕ). numbers_with (counts_of (noted_of interval place before)) n) in_passes
  where
    numbers_with : CodeCounts → ℕ → CodeNumbers
    numbers_with c n = record { counts = c; possible = n; satellites = 1 }

pub in-file-is : (interval : Option ℕ) (before : List Sighting) (codes : List CodeCounts) → codes ≡ code_counts_of interval before → list_any (λ c. c.seen) codes ≡ is_in_file interval before
unfolding code_counts_of is_in_file
in-file-is interval before codes are =
    ap (λ (cs : List CodeCounts). list_any (λ (c : CodeCounts). c.seen) cs) are
    ∙ any-map (λ (c : CodeCounts). c.seen) (λ (place : ℕ). counts_of (noted_of interval place before)) (range_with_len 0 16)
