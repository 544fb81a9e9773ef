-- No line of a good header has an LF among its columns.
use Rattle.std.proofs.Common.{◌≡◌, ◌≢◌, ℕ, zero, suc, ◌*◌, ◌<◌, List, [], ◌∷◌, ◌++◌, length, take, drop, decimal, codes, Bool, true, false, ◌==◌, ◌&&◌, not, All, arith, refl, ℤ, pos, negsuc}
use Rattle.std.specs.Int.{IsInRange}
use Rattle.std.specs.List.{list_all}
use Rattle.std.proofs.lemmas.Bool.Decides.{nat_tests}
use Rattle.std.proofs.lemmas.Int.{ints}
use Rattle.std.proofs.lemmas.List.Elements.{All-nil, All-cons, All-head, All-tail, All-append}
use Rattle.rtk_obs.specs.declared.code.Code.{Code}
use Rattle.rtk_obs.specs.declared.code.Code.TheVariants.{G1C, G1P, G1W, G1S, G1L, G1X, G2C, G2D, G2P, G2W, G2S, G2L, G2X, G5I, G5Q, G5X}
use Rattle.rtk_obs.specs.Coordinates.{IsCoordinate}
use Rattle.rtk_obs.specs.CivilText.{last_digits}
use Rattle.rtk_rinex.specs.Columns.{left, right, decimals, fixed, seconds_of}
use Rattle.rtk_obs.specs.Reading.{IsMoment, reading_of}
use Rattle.rtk_rinex.specs.Header.{made_text, types_of, types, types_label, first_text}
use Rattle.rtk_rinex.specs.Lines.{HasNoEnd}
use Rattle.rtk_rinex.proofs.ReadingLemmas.{FitsColumns-reading_of}
use Rattle.rtk_rinex.proofs.HeaderShownLemmas.{IsCoordinate-height}
use Rattle.rtk_rinex.proofs.HeaderRowsLemmas.{row, types_head, types_line, type_rows, Values, IsGood, version_part, made_row, marker_row, unknown_part, place_row, height_row, types_part, first_row, unit_part, end_part, row_count, from_made, from_marker, from_unknown, from_place, from_height, from_types, from_unit, from_first, all_parts}
use Rattle.rtk_rinex.proofs.LineLemmas.{IsNoEnd, both, blanks, of_decimal, of_last_digits, of_right, of_decimals}

-- ---- texts without LF

and-parts : (a b : Bool) → (a && b) ≡ true → (a ≡ true) × (b ≡ true)
and-parts true b e = (refl, e)
and-parts false b e = absurd (let apart : false ≡ true = e in cc)

not_lf : (x : ℕ) (b : Bool) → (x == 10) ≡ b → not b ≡ true → x ≢ 10
not_lf x true e h = absurd (let apart : false ≡ true = h in cc)
not_lf x false e h = grind (arith, nat_tests)

-- a text that is known
pub known : (xs : List ℕ) → list_all (λ x. not (x == 10)) xs ≡ true → HasNoEnd xs
known [] e = All-nil IsNoEnd
known (x ∷ xs) e =
    let parts = and-parts (not (x == 10)) (list_all (λ x. not (x == 10)) xs) e in
    All-cons IsNoEnd x xs (not_lf x (x == 10) refl parts.0) (known xs parts.1)

pub printed : (xs : List ℕ) → All (λ x. IsInRange 32 126 x) xs → HasNoEnd xs
printed [] h = All-nil IsNoEnd
printed (x ∷ xs) h =
    let first = All-head (λ (x : ℕ). IsInRange 32 126 x) x xs h in
    All-cons IsNoEnd x xs (omega (arith, first)) (printed xs (All-tail (λ (x : ℕ). IsInRange 32 126 x) x xs h))

pub of_take : (n : ℕ) (xs : List ℕ) → HasNoEnd xs → HasNoEnd (take n xs)
of_take zero xs h = All-nil IsNoEnd
of_take (suc n) [] h = h
of_take (suc n) (x ∷ xs) h = All-cons IsNoEnd x (take n xs) (All-head IsNoEnd x xs h) (of_take n xs (All-tail IsNoEnd x xs h))

pub of_drop : (n : ℕ) (xs : List ℕ) → HasNoEnd xs → HasNoEnd (drop n xs)
of_drop zero xs h = h
of_drop (suc n) [] h = h
of_drop (suc n) (x ∷ xs) h = of_drop n xs (All-tail IsNoEnd x xs h)

of_left : (w : ℕ) (text : List ℕ) → HasNoEnd text → HasNoEnd (left w text)
unfolding left
of_left w text h = both text _ h (blanks _)

pub of_row : (content label : List ℕ) → HasNoEnd content → HasNoEnd label → HasNoEnd (row content label)
unfolding row
of_row content label h g = both (left 60 content) (left 20 label) (of_left 60 content h) (of_left 20 label g)

pub of_fixed : (v : ℤ) → IsCoordinate v → HasNoEnd (fixed 4 14 v)
of_fixed (pos n) h = of_right 14 (decimals 4 false n) (of_decimals 4 false n (omega (arith, ints, h.least, h.greatest)))
of_fixed (negsuc n) h = of_right 14 (decimals 4 true (suc n)) (of_decimals 4 true (suc n) (omega (arith, ints, h.least, h.greatest)))

of_code : (c : Code) → HasNoEnd (types_of c)
of_code G1C = known (types_of G1C) refl
of_code G1P = known (types_of G1P) refl
of_code G1W = known (types_of G1W) refl
of_code G1S = known (types_of G1S) refl
of_code G1L = known (types_of G1L) refl
of_code G1X = known (types_of G1X) refl
of_code G2C = known (types_of G2C) refl
of_code G2D = known (types_of G2D) refl
of_code G2P = known (types_of G2P) refl
of_code G2W = known (types_of G2W) refl
of_code G2S = known (types_of G2S) refl
of_code G2L = known (types_of G2L) refl
of_code G2X = known (types_of G2X) refl
of_code G5I = known (types_of G5I) refl
of_code G5Q = known (types_of G5Q) refl
of_code G5X = known (types_of G5X) refl

of_types : (cs : List Code) → HasNoEnd (types cs)
of_types [] = All-nil IsNoEnd
of_types (c ∷ cs) = both (types_of c) (types cs) (of_code c) (of_types cs)

-- ---- the lines

pub of_made : (made : ℕ) → HasNoEnd (made_row made)
of_made made =
    let c = reading_of made in
    let year : List ℕ = last_digits 4 c.year in
    let two : ℕ → List ℕ = last_digits 2 in
    let is : (n : ℕ) → HasNoEnd (last_digits 2 n) = of_last_digits 2 in
    let date : List ℕ = (year ++ two c.month) ++ two c.day in
    let time : List ℕ = (two c.hour ++ two c.minute) ++ two c.second in
    let front : HasNoEnd date = both (year ++ two c.month) (two c.day) (both year (two c.month) (of_last_digits 4 c.year) (is c.month)) (is c.day) in
    let back : HasNoEnd time = both (two c.hour ++ two c.minute) (two c.second) (both (two c.hour) (two c.minute) (is c.hour) (is c.minute)) (is c.second) in
    let end : HasNoEnd (time ++ codes " UTC ") = both time (codes " UTC ") back (known (codes " UTC ") refl) in
    let all : HasNoEnd (made_text c) = both date (codes " " ++ (time ++ codes " UTC ")) front (both (codes " ") (time ++ codes " UTC ") (known (codes " ") refl) end) in
    let program : List ℕ = codes "rtcm2rinex                              " in
    of_row (program ++ made_text c) (codes "PGM / RUN BY / DATE") (both program (made_text c) (known program refl) all) (known (codes "PGM / RUN BY / DATE") refl)

pub of_first : (first : ℕ) → IsMoment first → HasNoEnd (first_row first)
of_first first h =
    let c = reading_of first in
    let fits = FitsColumns-reading_of first h in
    let six : ℕ → List ℕ = λ n. right 6 (decimal n) in
    let field : (n : ℕ) → n < 10_000 → HasNoEnd (right 6 (decimal n)) = λ n small. of_right 6 (decimal n) (of_decimal n (omega (arith, small))) in
    let s : List ℕ = right 13 (decimals 7 false (seconds_of c)) in
    let seconds : HasNoEnd s = of_right 13 (decimals 7 false (seconds_of c)) (of_decimals 7 false (seconds_of c) (omega (arith, fits.second, fits.millisecond))) in
    let ym : List ℕ = six c.year ++ six c.month in
    let date : List ℕ = ym ++ six c.day in
    let hour : List ℕ = date ++ six c.hour in
    let front : List ℕ = hour ++ six c.minute in
    let a : HasNoEnd ym = both (six c.year) (six c.month) (field c.year (omega (arith, fits.year))) (field c.month (omega (arith, fits.month))) in
    let b : HasNoEnd date = both ym (six c.day) a (field c.day (omega (arith, fits.day))) in
    let d : HasNoEnd hour = both date (six c.hour) b (field c.hour (omega (arith, fits.hour))) in
    let e : HasNoEnd front = both hour (six c.minute) d (field c.minute (omega (arith, fits.minute))) in
    of_row (first_text c) (codes "TIME OF FIRST OBS") (both (front ++ s) (codes "     GPS") (both front s e seconds) (known (codes "     GPS") refl)) (known (codes "TIME OF FIRST OBS") refl)

of_head : (j n : ℕ) → IsInRange 1 16 n → HasNoEnd (types_head j n)
of_head zero n h = both (codes "G  ") (right 3 (decimal (3 * n))) (known (codes "G  ") refl) (of_right 3 (decimal (3 * n)) (of_decimal (3 * n) (omega (arith, h))))
of_head (suc j) n h = known (codes "      ") refl

of_types_rows : (j m : ℕ) (cs : List Code) → IsInRange 1 16 (length cs) → All HasNoEnd (type_rows j m cs)
unfolding type_rows types_line
of_types_rows j zero cs h = All-nil HasNoEnd
of_types_rows j (suc m) cs h =
    let head : List ℕ = types_head j (length cs) in
    let shown : List ℕ = take 52 (drop (52 * j) (types cs)) in
    let is : HasNoEnd shown = of_take 52 (drop (52 * j) (types cs)) (of_drop (52 * j) (types cs) (of_types cs)) in
    All-cons HasNoEnd (types_line j cs) (type_rows (suc j) m cs)
    (of_row (head ++ shown) types_label (both head shown (of_head j (length cs) h) is) (known types_label refl)) (of_types_rows (suc j) m cs h)

of_one : (line : List ℕ) → HasNoEnd line → All HasNoEnd (line ∷ [])
of_one line h = All-cons HasNoEnd line [] h (All-nil HasNoEnd)

of_known : (content label : List ℕ) (rows : List (List ℕ)) → list_all (λ x. not (x == 10)) content ≡ true → list_all (λ x. not (x == 10)) label ≡ true → All HasNoEnd rows
    → All HasNoEnd (row content label ∷ rows)
of_known content label rows e f h = All-cons HasNoEnd (row content label) rows (of_row content label (known content e) (known label f)) h

-- the parts one after another
and_then : (a b : List (List ℕ)) → All HasNoEnd a → All HasNoEnd b → All HasNoEnd (a ++ b)
and_then = All-append HasNoEnd

pub all_lines : (v : Values) → IsGood v → All HasNoEnd (all_parts v)
all_lines v g =
    let none = All-nil HasNoEnd in
    let x : List ℕ = fixed 4 14 v.site.x in
    let y : List ℕ = fixed 4 14 v.site.y in
    let z : List ℕ = fixed 4 14 v.site.z in
    let up : List ℕ = fixed 4 14 (pos v.site.height) in
    let zeros : List ℕ = codes "        0.0000        0.0000" in
    let end : List (List ℕ) = row [] (codes "END OF HEADER") ∷ [] in
    let last : List (List ℕ) = row (codes "G") (codes "SYS / PHASE SHIFT") ∷ end in
    let antenna : List (List ℕ) = row [] (codes "ANT # / TYPE") ∷ [] in
    let receiver : List (List ℕ) = row [] (codes "REC # / TYPE / VERS") ∷ antenna in
    let observer : List (List ℕ) = row [] (codes "OBSERVER / AGENCY") ∷ receiver in
    let coordinates : HasNoEnd ((x ++ y) ++ z) = both (x ++ y) z (both x y (of_fixed v.site.x g.site.0) (of_fixed v.site.y g.site.1)) (of_fixed v.site.z g.site.2) in
    let height : HasNoEnd (up ++ zeros) = both up zeros (of_fixed (pos v.site.height) (IsCoordinate-height v.site.height g.site.3)) (known zeros refl) in
    let ends : All HasNoEnd last = of_known (codes "G") (codes "SYS / PHASE SHIFT") end refl refl (of_known [] (codes "END OF HEADER") [] refl refl none) in
    let unknown : All HasNoEnd observer =
    of_known [] (codes "OBSERVER / AGENCY") receiver refl refl (of_known [] (codes "REC # / TYPE / VERS") antenna refl refl (of_known [] (codes "ANT # / TYPE") [] refl refl none)) in
    and_then version_part (from_made v) (of_known (codes "     3.05           OBSERVATION DATA    G") (codes "RINEX VERSION / TYPE") [] refl refl none)
    (and_then (made_row v.head.made ∷ []) (from_marker v) (of_one (made_row v.head.made) (of_made v.head.made))
    (and_then (marker_row v.head.marker ∷ []) (from_unknown v)
    (of_one (marker_row v.head.marker) (of_row v.head.marker (codes "MARKER NAME") (printed v.head.marker g.heading.0.1) (known (codes "MARKER NAME") refl)))
    (and_then unknown_part (from_place v) (of_known (codes "GEODETIC") (codes "MARKER TYPE") observer refl refl unknown)
    (and_then (place_row v.site ∷ []) (from_height v) (of_one (place_row v.site) (of_row ((x ++ y) ++ z) (codes "APPROX POSITION XYZ") coordinates (known (codes "APPROX POSITION XYZ") refl)))
    (and_then (height_row v.site.height ∷ []) (from_types v) (of_one (height_row v.site.height) (of_row (up ++ zeros) (codes "ANTENNA: DELTA H/E/N") height (known (codes "ANTENNA: DELTA H/E/N") refl)))
    (and_then (types_part v) (from_unit v) (of_types_rows 0 (row_count (length v.head.listed)) v.head.listed g.heading.1.0)
    (and_then unit_part (from_first v) (of_known (codes "DBHZ") (codes "SIGNAL STRENGTH UNIT") [] refl refl none)
    (and_then (first_row v.first ∷ []) end_part (of_one (first_row v.first) (of_first v.first g.first)) ends))))))))
