-- Rows side by side, and what is remembered of satellites and codes.
use Rattle.std.proofs.Common.{◌≡◌, ◌≢◌, ◌<◌, ◌≤◌, ◌+◌, ◌*◌, ℕ, zero, suc, Bool, true, false, not, ◌&&◌, ◌||◌, cond, eqb, ltb, Option, Some, None, List, [], ◌∷◌, ◌++◌, length, get_or, set, replicate, ℤ, pos, inl, inr, refl, sym, ap, subst, ◌∙◌, arith}
use Rattle.std.specs.Prelude.{◌⊎◌, flat_map}
use Rattle.std.proofs.lemmas.Bool.{cases_Bool, lt-ltb, le-ltb, ltb-true, ltb-false, eqb-true, eqb-false, eq-eqb, ne_eqb}
use Rattle.std.specs.Ordering.{int_eq}
use Rattle.std.proofs.lemmas.Bool.Decides.{Decides-int_eq}
use Rattle.std.proofs.lemmas.List.{get_or-set_same, get_or-set_other}
use Rattle.rtk_obs.specs.SatelliteIndex.{IsSatelliteIndex}
use Rattle.rtk_rinex.specs.declared.epoch_table.Observed.{Observed}
use Rattle.rtk_rinex.specs.declared.epoch_table.SatelliteRow.{SatelliteRow}
use Rattle.rtk_tracking.specs.Epochs.{shown_at}
use Rattle.rtk_compare.specs.declared.difference.Class.TheVariants.{Lost}
use Rattle.rtk_compare.specs.declared.difference.What.TheVariants as what
use Rattle.rtk_compare.specs.declared.difference.Place.{Place}
use Rattle.rtk_compare.specs.declared.difference.Difference.{Difference}
use Rattle.rtk_compare.specs.declared.findings.Findings.{Findings}
use Rattle.rtk_compare.specs.declared.shared_codes.SharedCode.{SharedCode}
use Rattle.rtk_compare.specs.declared.track.Track.{Track}
use Rattle.rtk_compare.specs.Places.{at_satellite, at_signal}
use Rattle.rtk_compare.specs.Pairs.{Pair, Order, old_alone, new_alone, beside, side_by_side}
use Rattle.rtk_compare.specs.Phases.{rolls_kept, rolls_held}
use Rattle.rtk_compare.specs.Cells.{told_if, cell_lines}
use Rattle.rtk_compare.specs.Records.{cells_of, rows_of, cells_before}
use Rattle.rtk_compare.specs.Differences.{Adds}
use Rattle.rtk_compare.specs.Steps.Tracks.{pair, IsTrackOf, no_track, track_at, AreTracksAt, AreTracksOf, lines_if_told}
use Rattle.rtk_compare.specs.Steps.Rows.{NotesRow, place_at, gone_line, lines_told}
use Rattle.rtk_compare.proofs.FindingLemmas.{adds-as}

-- ---- two lists in one order

module _ {A : Type 0} (order : Order A) where
  -- the old file alone has the next one
  pub side-old : (x : A) (xs ys : List A) → ((y : A) (zs : List A) → ys ≡ y ∷ zs → order.number x < order.number y)
      → side_by_side order (x ∷ xs) ys ≡ old_alone order x ∷ side_by_side order xs ys
  side-old x xs [] less = refl
  side-old x xs (y ∷ ys) less =
      let lt = less y ys refl in
      let later : ltb (order.number y) (order.number x) ≡ false = le-ltb _ _ (omega (arith, lt)) in
      let unlike : eqb (order.number x) (order.number y) ≡ false = ne_eqb _ _ (λ same. omega (arith, lt, same)) in
      let f = λ (b : Bool). cond b (new_alone order y ∷ beside order x (side_by_side order xs) ys) (cond (eqb (order.number x) (order.number y)) (pair x y ∷ side_by_side order xs ys) (old_alone order x ∷ side_by_side order xs (y ∷ ys))) in
      let g = λ (b : Bool). cond b (pair x y ∷ side_by_side order xs ys) (old_alone order x ∷ side_by_side order xs (y ∷ ys)) in
      ap f later ∙ ap g unlike

  -- the new file alone has it
  pub side-new : (xs : List A) (y : A) (ys : List A) → ((x : A) (zs : List A) → xs ≡ x ∷ zs → order.number y < order.number x)
      → side_by_side order xs (y ∷ ys) ≡ new_alone order y ∷ side_by_side order xs ys
  side-new [] y ys less = refl
  side-new (x ∷ xs) y ys less =
      let sooner : ltb (order.number y) (order.number x) ≡ true = lt-ltb _ _ (less x xs refl) in
      ap (λ (b : Bool). cond b (new_alone order y ∷ beside order x (side_by_side order xs) ys) (cond (eqb (order.number x) (order.number y)) (pair x y ∷ side_by_side order xs ys) (old_alone order x ∷ side_by_side order xs (y ∷ ys)))) sooner

  -- both have it
  pub side-both : (x : A) (xs : List A) (y : A) (ys : List A) → order.number x ≡ order.number y
      → side_by_side order (x ∷ xs) (y ∷ ys) ≡ pair x y ∷ side_by_side order xs ys
  side-both x xs y ys same =
      let later : ltb (order.number y) (order.number x) ≡ false = le-ltb _ _ (omega (arith, same)) in
      let alike : eqb (order.number x) (order.number y) ≡ true = eq-eqb _ _ same in
      let f = λ (b : Bool). cond b (new_alone order y ∷ beside order x (side_by_side order xs) ys) (cond (eqb (order.number x) (order.number y)) (pair x y ∷ side_by_side order xs ys) (old_alone order x ∷ side_by_side order xs (y ∷ ys))) in
      let g = λ (b : Bool). cond b (pair x y ∷ side_by_side order xs ys) (old_alone order x ∷ side_by_side order xs (y ∷ ys)) in
      ap f later ∙ ap g alike

-- ---- satellites that rise

-- rows that rise, all above a satellite
abbrev pub RiseAbove : ℕ → List SatelliteRow → Type 0
RiseAbove n [] = Unit {0}
RiseAbove n (r ∷ rows) = (n < r.satellite) × IsSatelliteIndex r.satellite × RiseAbove r.satellite rows

-- pairs of rows of satellites up to this one
abbrev pub AreUpTo : ℕ → List (Pair SatelliteRow) → Type 0
AreUpTo n [] = Unit {0}
AreUpTo n (p ∷ ps) = (p.old.satellite ≤ n) × AreUpTo n ps

pub up_to-later : (n m : ℕ) (ps : List (Pair SatelliteRow)) → n ≤ m → AreUpTo n ps → AreUpTo m ps
up_to-later n m [] le are = tt
up_to-later n m (p ∷ ps) le are = (let first = are.0 in omega (arith, first, le), up_to-later n m ps le are.1)

pub up_to-more : (n : ℕ) (ps : List (Pair SatelliteRow)) (p : Pair SatelliteRow) → p.old.satellite ≤ n → AreUpTo n ps → AreUpTo n (ps ++ p ∷ [])
up_to-more n [] p le are = (le, tt)
up_to-more n (q ∷ ps) p le are = (are.0, up_to-more n ps p le are.1)

abbrev pub none_of : ℕ → Pair SatelliteRow
none_of s = rows_of s []

-- a later satellite has no rows among them
pub rows_of-later : (n s : ℕ) (ps : List (Pair SatelliteRow)) → n < s → AreUpTo n ps → rows_of s ps ≡ none_of s
rows_of-later n s [] lt are = refl
rows_of-later n s (p ∷ ps) lt are =
    let first = are.0 in
    let unlike : eqb p.old.satellite s ≡ false = ne_eqb _ _ (λ same. omega (arith, first, lt, same)) in
    ap (λ (b : Bool). cond b p (rows_of s ps)) unlike ∙ rows_of-later n s ps lt are.1

-- and has those that come next
pub rows_of-next : (n : ℕ) (ps : List (Pair SatelliteRow)) (p : Pair SatelliteRow) → n < p.old.satellite → AreUpTo n ps → rows_of p.old.satellite (ps ++ p ∷ []) ≡ p
rows_of-next n [] p lt are = ap (λ (b : Bool). cond b p (none_of p.old.satellite)) (eq-eqb _ _ refl)
rows_of-next n (q ∷ ps) p lt are =
    let first = are.0 in
    let unlike : eqb q.old.satellite p.old.satellite ≡ false = ne_eqb _ _ (λ same. omega (arith, first, lt, same)) in
    ap (λ (b : Bool). cond b q (rows_of p.old.satellite (ps ++ p ∷ []))) unlike ∙ rows_of-next n ps p lt are.1

-- another satellite has what it had
pub rows_of-other : (s : ℕ) (ps : List (Pair SatelliteRow)) (p : Pair SatelliteRow) → p.old.satellite ≢ s → rows_of s (ps ++ p ∷ []) ≡ rows_of s ps
rows_of-other s [] p unlike = ap (λ (b : Bool). cond b p (none_of s)) (ne_eqb _ _ unlike)
rows_of-other s (q ∷ ps) p unlike = ap (λ (x : Pair SatelliteRow). cond (eqb q.old.satellite s) q x) (rows_of-other s ps p unlike)

-- ---- what is remembered

kept-by : (held : ℤ) (b : Bool) → int_eq held (pos 0) ≡ b → rolls_kept held (pos 0) ≡ held
kept-by held true is = ap (λ (x : Bool). cond x (pos 0) held) is ∙ sym ((Decides-int_eq held (pos 0)).0 is)
kept-by held false is = ap (λ (x : Bool). cond x (pos 0) held) is

kept-none : (held : ℤ) → rolls_kept held (pos 0) ≡ held
kept-none held = kept-by held (int_eq held (pos 0)) refl

-- a moment without the satellite changes nothing
pub track-kept : (t : Track) (s : ℕ) (code : SharedCode) (es : List (Pair Observed)) → IsTrackOf t (cells_of code (none_of s) ∷ es) → IsTrackOf t es
track-kept t s code es is = record { had_phase = is.had_phase; fills_gap = is.fills_gap; rolls = is.rolls ∙ kept-none (rolls_held es) }

pub track-none : (t : Track) (s : ℕ) (code : SharedCode) (es : List (Pair Observed)) → IsTrackOf t es → IsTrackOf t (cells_of code (none_of s) ∷ es)
track-none t s code es is = record { had_phase = is.had_phase; fills_gap = is.fills_gap; rolls = is.rolls ∙ sym (kept-none (rolls_held es)) }

-- the tracks before any row of a moment
pub tracks-begin : (tracks : List Track) (codes : ℕ → List SharedCode) (earlier : List (List (Pair SatelliteRow))) → AreTracksOf tracks codes earlier → AreTracksOf tracks codes ([] ∷ earlier)
tracks-begin tracks codes earlier are = λ s good k code lt. track-none _ s (get_or (codes s) k code) _ (are s good k code lt)

-- of a satellite whose rows come next they are those of the moments before
pub tracks-before : (tracks : List Track) (codes : ℕ → List SharedCode) (earlier : List (List (Pair SatelliteRow))) (done : List (Pair SatelliteRow)) (n s : ℕ) → IsSatelliteIndex s → n < s → AreUpTo n done
    → AreTracksOf tracks codes (done ∷ earlier) → AreTracksAt tracks codes earlier s
tracks-before tracks codes earlier done n s good lt up_to are = λ k code within.
    let c = get_or (codes s) k code in
    let es = cells_before s c earlier in
    track-kept _ s c es (subst (λ (p : Pair SatelliteRow). IsTrackOf (track_at tracks s k) (cells_of c p ∷ es)) (rows_of-later n s done lt up_to) (are s good k code within))

apart : (s n k count : ℕ) → s ≢ n → k < 16 → count ≤ 16 → (16 * s + k < 16 * n) ⊎ (16 * n + count ≤ 16 * s + k)
apart s n k count unlike low few =
    elim (cases_Bool (ltb s n)) [
      | inl less ↦ inl (let lt = ltb-true _ _ less in omega (arith, lt, low))
      | inr more ↦ inr (let ge = ltb-false _ _ more in omega (arith, ge, unlike, few))
    ]

-- the rows that come next are remembered
pub tracks-next : (old new : List Track) (codes : ℕ → List SharedCode) (earlier : List (List (Pair SatelliteRow))) (done : List (Pair SatelliteRow)) (p : Pair SatelliteRow) (n : ℕ) → ((s : ℕ) → length (codes s) ≤ 16)
    → n < p.old.satellite → AreUpTo n done → AreTracksOf old codes (done ∷ earlier) → NotesRow old new (codes p.old.satellite) p → AreTracksOf new codes ((done ++ p ∷ []) ∷ earlier)
tracks-next old new codes earlier done p n few lt up_to are notes = λ s good k code within.
    elim (cases_Bool (eqb p.old.satellite s)) [
      | inl same ↦
          let is : p.old.satellite ≡ s = eqb-true _ _ same in
          subst (λ (m : ℕ). (k < length (codes m)) → IsSatelliteIndex m → IsTrackOf (track_at new m k) (cells_before m (get_or (codes m) k code) ((done ++ p ∷ []) ∷ earlier))) is
          (λ low index.
          let c = get_or (codes p.old.satellite) k code in
          let es = cells_before p.old.satellite c earlier in
          subst (λ (q : Pair SatelliteRow). IsTrackOf (track_at new p.old.satellite k) (cells_of c q ∷ es)) (sym (rows_of-next n done p lt up_to))
          (notes.own k code es low (tracks-before old codes earlier done n p.old.satellite index lt up_to are k code low)))
          within good
      | inr unlike ↦
          let other : p.old.satellite ≢ s = eqb-false _ _ unlike in
          let c = get_or (codes s) k code in
          let es = cells_before s c earlier in
          let all = few s in
          let place = apart s p.old.satellite k (length (codes p.old.satellite)) (λ e. other (sym e)) (omega (arith, within, all)) (few p.old.satellite) in
          subst (λ (q : Pair SatelliteRow). IsTrackOf (track_at new s k) (cells_of c q ∷ es)) (sym (rows_of-other s done p other))
          (subst (λ (t : Track). IsTrackOf t (cells_of c (rows_of s done) ∷ es)) (sym (notes.others (16 * s + k) place)) (are s good k code within))
    ]

-- ---- the cells of a row, one more

-- what is remembered of the cell at a place, before it is compared
pub own-track : (start tracks : List Track) (s k : ℕ) (now : Track) (es : List (Pair Observed)) → ((n : ℕ) → (n < 16 * s) ⊎ (16 * s + k ≤ n) → get_or tracks n no_track ≡ get_or start n no_track)
    → now ≡ get_or tracks (16 * s + k) no_track → IsTrackOf (track_at start s k) es → IsTrackOf now es
own-track start tracks s k now es others is track = subst (λ (t : Track). IsTrackOf t es) (sym (is ∙ others (16 * s + k) (inr (omega arith)))) track

pub own-more : (start tracks : List Track) (codes : List SharedCode) (p : Pair SatelliteRow) (s k : ℕ) (now : Track) → 16 * s + k < length tracks
    → ((j : ℕ) (code : SharedCode) (es : List (Pair Observed)) → j < k → IsTrackOf (track_at start s j) es → IsTrackOf (track_at tracks s j) (cells_of (get_or codes j code) p ∷ es))
    → ((code : SharedCode) (es : List (Pair Observed)) → IsTrackOf (track_at start s k) es → IsTrackOf now (cells_of (get_or codes k code) p ∷ es))
    → (j : ℕ) (code : SharedCode) (es : List (Pair Observed)) → j < k + 1 → IsTrackOf (track_at start s j) es → IsTrackOf (track_at (set tracks (16 * s + k) now) s j) (cells_of (get_or codes j code) p ∷ es)
own-more start tracks codes p s k now within old here j code es lt is =
    elim (cases_Bool (ltb j k)) [
      | inl less ↦
          let low : j < k = ltb-true _ _ less in
          let unlike : 16 * s + j ≢ 16 * s + k = (λ same. omega (arith, same, low)) in
          subst (λ (t : Track). IsTrackOf t (cells_of (get_or codes j code) p ∷ es)) (sym (get_or-set_other tracks (16 * s + k) (16 * s + j) now no_track unlike)) (old j code es low is)
      | inr more ↦
          let same : k ≡ j = (let high = ltb-false _ _ more in omega (arith, high, lt)) in
          subst (λ (n : ℕ). IsTrackOf (track_at start s n) es → IsTrackOf (track_at (set tracks (16 * s + k) now) s n) (cells_of (get_or codes n code) p ∷ es)) same
          (λ was. subst (λ (t : Track). IsTrackOf t (cells_of (get_or codes k code) p ∷ es)) (sym (get_or-set_same tracks (16 * s + k) now no_track within)) (here code es was))
          is
    ]

pub others-more : (start tracks : List Track) (s k : ℕ) (now : Track) → ((n : ℕ) → (n < 16 * s) ⊎ (16 * s + k ≤ n) → get_or tracks n no_track ≡ get_or start n no_track)
    → (n : ℕ) → (n < 16 * s) ⊎ (16 * s + (k + 1) ≤ n) → get_or (set tracks (16 * s + k) now) n no_track ≡ get_or start n no_track
others-more start tracks s k now old n (inl low) =
    let unlike : n ≢ 16 * s + k = (λ same. omega (arith, same, low)) in
    get_or-set_other tracks (16 * s + k) n now no_track unlike ∙ old n (inl low)
others-more start tracks s k now old n (inr high) =
    let unlike : n ≢ 16 * s + k = (λ same. omega (arith, same, high)) in
    get_or-set_other tracks (16 * s + k) n now no_track unlike ∙ old n (inr (omega (arith, high)))

-- what is told of a cell
pub cell-told : {a b : Findings} (time : Option ℕ) (p : Pair SatelliteRow) (code : SharedCode) (place : Option Place) (old new : Observed) (es : List (Pair Observed)) → place ≡ place_at time p code
    → old ≡ shown_at code.old p.old.observed.items → new ≡ shown_at code.new p.new.observed.items → Adds a b (lines_if_told code.shifts place es (pair old new)) → Adds a b (lines_if_told code.shifts (place_at time p code) es (cells_of code p))
cell-told time p code place old new es at old_is new_is adds =
    adds-as (ap (λ (o : Option Place). lines_if_told code.shifts o es (pair old new)) at ∙ ap (λ (o : Observed). lines_if_told code.shifts (place_at time p code) es (pair o new)) old_is
    ∙ ap (λ (o : Observed). lines_if_told code.shifts (place_at time p code) es (pair (shown_at code.old p.old.observed.items) o)) new_is) adds

-- and remembered of it
pub cell-noted : (now : Track) (p : Pair SatelliteRow) (code : SharedCode) (old new : Observed) (es : List (Pair Observed)) → old ≡ shown_at code.old p.old.observed.items → new ≡ shown_at code.new p.new.observed.items
    → IsTrackOf now (pair old new ∷ es) → IsTrackOf now (cells_of code p ∷ es)
cell-noted now p code old new es old_is new_is is =
    subst (λ (o : Observed). IsTrackOf now (pair (shown_at code.old p.old.observed.items) o ∷ es)) new_is (subst (λ (o : Observed). IsTrackOf now (pair o new ∷ es)) old_is is)

-- ---- what is told of a row

pub flat_map-none : {B : Type 0} (xs : List B) → flat_map {X = B} {A = Difference} (λ x. []) xs ≡ []
flat_map-none [] = refl
flat_map-none (x ∷ xs) = flat_map-none xs

told-by : (t : ℕ) (codes : ℕ → List SharedCode) (earlier : List (List (Pair SatelliteRow))) (p : Pair SatelliteRow) (a b : Bool)
    → told_if (not a && b) Lost what.Satellite (at_satellite t p.old.satellite)
    ++ flat_map (λ (k : SharedCode). lines_if_told k.shifts (cond (a || b) None (Some (at_signal t p.old.satellite k.code))) (cells_before p.old.satellite k earlier) (cells_of k p)) (codes p.old.satellite)
    ≡ cond a [] (cond b (record { class = Lost; what = what.Satellite; place = at_satellite t p.old.satellite } ∷ [])
    (flat_map (λ (k : SharedCode). cell_lines k.shifts (cells_before p.old.satellite k earlier) (cells_of k p) (at_signal t p.old.satellite k.code)) (codes p.old.satellite)))
told-by t codes earlier p true b = flat_map-none (codes p.old.satellite)
told-by t codes earlier p false true = ap (λ (ds : List Difference). record { class = Lost; what = what.Satellite; place = at_satellite t p.old.satellite } ∷ ds) (flat_map-none (codes p.old.satellite))
told-by t codes earlier p false false = refl

pub row-told : (time : Option ℕ) (codes : ℕ → List SharedCode) (earlier : List (List (Pair SatelliteRow))) (p : Pair SatelliteRow)
    → gone_line time p ++ flat_map (λ (k : SharedCode). lines_if_told k.shifts (place_at time p k) (cells_before p.old.satellite k earlier) (cells_of k p)) (codes p.old.satellite) ≡ lines_told time codes earlier p
row-told None codes earlier p = flat_map-none (codes p.old.satellite)
row-told (Some t) codes earlier p = told-by t codes earlier p (eqb (length p.old.observed.items) 0) (eqb (length p.new.observed.items) 0)

-- ---- before any row

fresh-at : (n i : ℕ) (t : Track) → IsTrackOf t [] → IsTrackOf (get_or (replicate n t) i no_track) []
fresh-at zero i t is = record { had_phase = refl; fills_gap = refl; rolls = refl }
fresh-at (suc n) zero t is = is
fresh-at (suc n) (suc i) t is = fresh-at n i t is

pub fresh-tracks : (tracks : List Track) (t : Track) (codes : ℕ → List SharedCode) → ((s : ℕ) → length (codes s) ≤ 16) → tracks ≡ replicate 3552 t → IsTrackOf t [] → AreTracksOf tracks codes []
fresh-tracks tracks t codes few are is = λ s good k code lt. subst (λ (ts : List Track). IsTrackOf (get_or ts (16 * s + k) no_track) []) (sym are) (fresh-at 3552 (16 * s + k) t is)
