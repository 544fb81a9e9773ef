-- A file of GPS alone that is written as one of any systems is a file of GPS.
use Rattle.std.proofs.Common.{◌≡◌, ◌≢◌, ◌<◌, ◌≤◌, ◌==◌, ◌&&◌, ◌||◌, ℕ, Bool, true, false, true≢false, not, if◌then◌else◌, cond, Option, None, Some, List, [], ◌∷◌, ◌++◌, map, length, get_or, leb, IsTrue, refl, sym, ap, subst, ◌∙◌, arith}
use Rattle.std.specs.Prelude.{All, AllPairs, flat_map}
use Rattle.std.specs.List.{filter, list_any, list_all}
use Rattle.std.proofs.lemmas.Bool.{eqb-true, leb-true}
use Rattle.std.proofs.lemmas.Bool.Decides.{Decides-eqb}
use Rattle.std.proofs.lemmas.List.{length-map, get_or-map}
use Rattle.std.proofs.lemmas.List.Elements.{All-cons, All-head, All-nil, All-tail, All-weaker}
use Rattle.std.proofs.lemmas.Map.Made.{IsDistinct-from_AllPairs}
use Rattle.std.proofs.lemmas.Map.Steps.{length-le_from_distinct_below}
use Rattle.std.proofs.lemmas.Map.Views.{Contains-from_any}
use Rattle.rtk_message.specs.declared.system.System.{System}
use Rattle.rtk_message.specs.declared.system.System.TheVariants.{Gps, Glonass, Galileo, Beidou, Qzss, Sbas, Navic}
use Rattle.rtk_obs.specs.declared.any_code.AnyCode.{AnyCode}
use Rattle.rtk_obs.specs.declared.any_code.AnyCode.TheVariants.{G1C, G1P, G1W, G1S, G1L, G1X, G2C, G2D, G2P, G2W, G2S, G2L, G2X, G5I, G5Q, G5X, R1C, R1P, R2C, R2P, E1C, E1B, E1X, E6C, E6B, E6X, E7I, E7Q, E7X, E8I, E8Q, E8X, E5I, E5Q, E5X, C2I, C2Q, C2X, C6I, C6Q, C6X, C7I, C7Q, C7X, C5D, C5P, C5X, C7D, C1D, C1P, C1X, J1C, J6S, J6L, J6X, J2S, J2L, J2X, J5I, J5Q, J5X, J1S, J1L, J1X, S1C, S5I, S5Q, S5X, I5A}
use Rattle.rtk_obs.specs.declared.code.Code.{Code}
use Rattle.rtk_obs.specs.declared.code.Code.TheVariants as gps
use Rattle.rtk_obs.specs.AnyCode.{code_of_gps, number_of, text_of}
use Rattle.rtk_obs.specs.Code as code
use Rattle.rtk_obs.specs.SatelliteIndex.{system_at}
use Rattle.rtk_obs.proofs.PublicLaws.{number-of-gps, same_number}
use Rattle.rtk_rinex.specs.declared.epoch_table.Observed.{Observed}
use Rattle.rtk_rinex.specs.declared.epoch_table.SatelliteRow.{SatelliteRow}
use Rattle.rtk_rinex.specs.Header.{HeadView, IsHeadView, IsCodeList, header_text}
use Rattle.rtk_rinex.specs.MixedForm.{FormView, codes_in, width_at, form_of_head}
use Rattle.rtk_rinex.specs.MixedHead.{MixedHeadView, IsMixedHead, IsMixedList, TellsGlonass, GlonassView, has_glonass, letter}
use Rattle.rtk_rinex.specs.MixedHeader.{version_letter, codes_of, IsOfGps, GpsFilesStay, mixed_header_text}
use Rattle.rtk_rinex.specs.MixedRecord.{GpsRecordsStay, mixed_record_text}
use Rattle.rtk_rinex.specs.MixedTable.{MixedTable, IsMixedTable, IsMixedRow, IsMixedEpoch, mixed_table_text, has_shift_type, TypesTellShifts}
use Rattle.rtk_rinex.specs.Record.{EpochTableView, IsEpochTableView, IsSatelliteRow, IsStrengthOrNone, is_shown, has_line_in, record_text}
use Rattle.rtk_rinex.specs.Table.{WellFormedTable, IsWellFormedTable, IsTableRow, IsTableEpoch, IsObserved, IsObservedIn, table_text}
use Rattle.rtk_commands.specs.FileTable.{FileTable, OfGps, OfSystems, IsFileTable, file_text, letter_in, is_gps_text, IsTextOfSomeFile}
use Rattle.rtk_commands.proofs.FileTableLemmas.{mixed-letter}

-- ---- the codes

pub gps_code : AnyCode → Code
gps_code G1C = gps.G1C
gps_code G1P = gps.G1P
gps_code G1W = gps.G1W
gps_code G1S = gps.G1S
gps_code G1L = gps.G1L
gps_code G1X = gps.G1X
gps_code G2C = gps.G2C
gps_code G2D = gps.G2D
gps_code G2P = gps.G2P
gps_code G2W = gps.G2W
gps_code G2S = gps.G2S
gps_code G2L = gps.G2L
gps_code G2X = gps.G2X
gps_code G5I = gps.G5I
gps_code G5Q = gps.G5Q
gps_code G5X = gps.G5X
gps_code _ = gps.G1C

-- a code with the letter of GPS is that code of GPS
code-back : (c : AnyCode) → letter c ≡ 71 → code_of_gps (gps_code c) ≡ c
unfolding gps_code
code-back G1C is = refl
code-back G1P is = refl
code-back G1W is = refl
code-back G1S is = refl
code-back G1L is = refl
code-back G1X is = refl
code-back G2C is = refl
code-back G2D is = refl
code-back G2P is = refl
code-back G2W is = refl
code-back G2S is = refl
code-back G2L is = refl
code-back G2X is = refl
code-back G5I is = refl
code-back G5Q is = refl
code-back G5X is = refl
code-back R1C is = let e : 82 ≡ 71 = is in absurd (omega (arith, e))
code-back R1P is = let e : 82 ≡ 71 = is in absurd (omega (arith, e))
code-back R2C is = let e : 82 ≡ 71 = is in absurd (omega (arith, e))
code-back R2P is = let e : 82 ≡ 71 = is in absurd (omega (arith, e))
code-back E1C is = let e : 69 ≡ 71 = is in absurd (omega (arith, e))
code-back E1B is = let e : 69 ≡ 71 = is in absurd (omega (arith, e))
code-back E1X is = let e : 69 ≡ 71 = is in absurd (omega (arith, e))
code-back E6C is = let e : 69 ≡ 71 = is in absurd (omega (arith, e))
code-back E6B is = let e : 69 ≡ 71 = is in absurd (omega (arith, e))
code-back E6X is = let e : 69 ≡ 71 = is in absurd (omega (arith, e))
code-back E7I is = let e : 69 ≡ 71 = is in absurd (omega (arith, e))
code-back E7Q is = let e : 69 ≡ 71 = is in absurd (omega (arith, e))
code-back E7X is = let e : 69 ≡ 71 = is in absurd (omega (arith, e))
code-back E8I is = let e : 69 ≡ 71 = is in absurd (omega (arith, e))
code-back E8Q is = let e : 69 ≡ 71 = is in absurd (omega (arith, e))
code-back E8X is = let e : 69 ≡ 71 = is in absurd (omega (arith, e))
code-back E5I is = let e : 69 ≡ 71 = is in absurd (omega (arith, e))
code-back E5Q is = let e : 69 ≡ 71 = is in absurd (omega (arith, e))
code-back E5X is = let e : 69 ≡ 71 = is in absurd (omega (arith, e))
code-back C2I is = let e : 67 ≡ 71 = is in absurd (omega (arith, e))
code-back C2Q is = let e : 67 ≡ 71 = is in absurd (omega (arith, e))
code-back C2X is = let e : 67 ≡ 71 = is in absurd (omega (arith, e))
code-back C6I is = let e : 67 ≡ 71 = is in absurd (omega (arith, e))
code-back C6Q is = let e : 67 ≡ 71 = is in absurd (omega (arith, e))
code-back C6X is = let e : 67 ≡ 71 = is in absurd (omega (arith, e))
code-back C7I is = let e : 67 ≡ 71 = is in absurd (omega (arith, e))
code-back C7Q is = let e : 67 ≡ 71 = is in absurd (omega (arith, e))
code-back C7X is = let e : 67 ≡ 71 = is in absurd (omega (arith, e))
code-back C5D is = let e : 67 ≡ 71 = is in absurd (omega (arith, e))
code-back C5P is = let e : 67 ≡ 71 = is in absurd (omega (arith, e))
code-back C5X is = let e : 67 ≡ 71 = is in absurd (omega (arith, e))
code-back C7D is = let e : 67 ≡ 71 = is in absurd (omega (arith, e))
code-back C1D is = let e : 67 ≡ 71 = is in absurd (omega (arith, e))
code-back C1P is = let e : 67 ≡ 71 = is in absurd (omega (arith, e))
code-back C1X is = let e : 67 ≡ 71 = is in absurd (omega (arith, e))
code-back J1C is = let e : 74 ≡ 71 = is in absurd (omega (arith, e))
code-back J6S is = let e : 74 ≡ 71 = is in absurd (omega (arith, e))
code-back J6L is = let e : 74 ≡ 71 = is in absurd (omega (arith, e))
code-back J6X is = let e : 74 ≡ 71 = is in absurd (omega (arith, e))
code-back J2S is = let e : 74 ≡ 71 = is in absurd (omega (arith, e))
code-back J2L is = let e : 74 ≡ 71 = is in absurd (omega (arith, e))
code-back J2X is = let e : 74 ≡ 71 = is in absurd (omega (arith, e))
code-back J5I is = let e : 74 ≡ 71 = is in absurd (omega (arith, e))
code-back J5Q is = let e : 74 ≡ 71 = is in absurd (omega (arith, e))
code-back J5X is = let e : 74 ≡ 71 = is in absurd (omega (arith, e))
code-back J1S is = let e : 74 ≡ 71 = is in absurd (omega (arith, e))
code-back J1L is = let e : 74 ≡ 71 = is in absurd (omega (arith, e))
code-back J1X is = let e : 74 ≡ 71 = is in absurd (omega (arith, e))
code-back S1C is = let e : 83 ≡ 71 = is in absurd (omega (arith, e))
code-back S5I is = let e : 83 ≡ 71 = is in absurd (omega (arith, e))
code-back S5Q is = let e : 83 ≡ 71 = is in absurd (omega (arith, e))
code-back S5X is = let e : 83 ≡ 71 = is in absurd (omega (arith, e))
code-back I5A is = let e : 73 ≡ 71 = is in absurd (omega (arith, e))

gps-text : (c : Code) → text_of (code_of_gps c) ≡ 71 ∷ code.name_of c
gps-text gps.G1C = refl
gps-text gps.G1P = refl
gps-text gps.G1W = refl
gps-text gps.G1S = refl
gps-text gps.G1L = refl
gps-text gps.G1X = refl
gps-text gps.G2C = refl
gps-text gps.G2D = refl
gps-text gps.G2P = refl
gps-text gps.G2W = refl
gps-text gps.G2S = refl
gps-text gps.G2L = refl
gps-text gps.G2X = refl
gps-text gps.G5I = refl
gps-text gps.G5Q = refl
gps-text gps.G5X = refl

place-below : (c : Code) → code.place_of c < 16
place-below gps.G1C = omega arith
place-below gps.G1P = omega arith
place-below gps.G1W = omega arith
place-below gps.G1S = omega arith
place-below gps.G1L = omega arith
place-below gps.G1X = omega arith
place-below gps.G2C = omega arith
place-below gps.G2D = omega arith
place-below gps.G2P = omega arith
place-below gps.G2W = omega arith
place-below gps.G2S = omega arith
place-below gps.G2L = omega arith
place-below gps.G2X = omega arith
place-below gps.G5I = omega arith
place-below gps.G5Q = omega arith
place-below gps.G5X = omega arith

number-below : (c : AnyCode) → letter c ≡ 71 → number_of c < 16
number-below c is =
    let e : number_of c ≡ code.place_of (gps_code c) = ap number_of (sym (code-back c is)) ∙ number-of-gps (gps_code c) in
    let low = place-below (gps_code c) in
    omega (arith, e, low)

-- ---- lists of codes of GPS

all-same : {X : Type 0} (f : X → ℕ) (n : ℕ) (xs : List X) → list_all (λ x. f x == n) xs ≡ true → All (λ x. f x ≡ n) xs
all-same f n [] all = All-nil (λ x. f x ≡ n)
all-same f n (x ∷ xs) all = all-same_if f n x xs (f x == n) refl all (all-same f n xs)
  where
    all-same_if : {X : Type 0} (f : X → ℕ) (n : ℕ) (x : X) (xs : List X) (b : Bool) → (f x == n) ≡ b → list_all (λ x. f x == n) (x ∷ xs) ≡ true → (list_all (λ x. f x == n) xs ≡ true → All (λ x. f x ≡ n) xs) → All (λ x. f x ≡ n) (x ∷ xs)
    all-same_if f n x xs true is all rest =
        All-cons (λ x. f x ≡ n) x xs (eqb-true (f x) n is) (rest (sym (ap (λ b. b && list_all (λ x. f x == n) xs) is) ∙ all))
    all-same_if f n x xs false is all rest = absurd (true≢false (sym all ∙ ap (λ b. b && list_all (λ x. f x == n) xs) is))

letters-if : (c : AnyCode) (cs : List AnyCode) (b : Bool) → list_all (λ d. letter d == letter c) cs ≡ b → (if b then letter c else 77) ≡ 71 → All (λ d. letter d ≡ 71) (c ∷ cs)
letters-if c cs true all is =
    All-cons (λ d. letter d ≡ 71) c cs is (All-weaker (λ d. letter d ≡ letter c) (λ d. letter d ≡ 71) (λ d same. same ∙ is) cs (all-same letter (letter c) cs all))
letters-if c cs false all is = let e : 77 ≡ 71 = is in absurd (omega (arith, e))

gps-letters : (listed : List AnyCode) → version_letter listed ≡ 71 → All (λ c. letter c ≡ 71) listed
gps-letters [] is = let e : 77 ≡ 71 = is in absurd (omega (arith, e))
gps-letters (c ∷ cs) is = letters-if c cs (list_all (λ d. letter d == letter c) cs) refl is

filter-none : {X : Type 0} (p : X → Bool) (xs : List X) → All (λ x. p x ≡ false) xs → filter p xs ≡ []
filter-none p [] none = refl
filter-none p (x ∷ xs) none =
    ap (λ b. cond b (x ∷ filter p xs) (filter p xs)) (All-head (λ x. p x ≡ false) x xs none) ∙ filter-none p xs (All-tail (λ x. p x ≡ false) x xs none)

filter-all : {X : Type 0} (p : X → Bool) (xs : List X) → All (λ x. p x ≡ true) xs → filter p xs ≡ xs
filter-all p [] all = refl
filter-all p (x ∷ xs) all =
    ap (λ b. cond b (x ∷ filter p xs) (filter p xs)) (All-head (λ x. p x ≡ true) x xs all) ∙ ap (λ l. x ∷ l) (filter-all p xs (All-tail (λ x. p x ≡ true) x xs all))

none-of : (l : ℕ) (listed : List AnyCode) → (71 == l) ≡ false → All (λ c. letter c ≡ 71) listed → codes_of l listed ≡ []
none-of l listed other all =
    filter-none (λ c. letter c == l) listed (All-weaker (λ c. letter c ≡ 71) (λ c. (letter c == l) ≡ false) (λ c is. ap (λ x. x == l) is ∙ other) listed all)

all-of : (listed : List AnyCode) → All (λ c. letter c ≡ 71) listed → codes_of 71 listed ≡ listed
all-of listed all =
    filter-all (λ c. letter c == 71) listed (All-weaker (λ c. letter c ≡ 71) (λ c. (letter c == 71) ≡ true) (λ c is. ap (λ x. x == 71) is) listed all)

texts-of : (listed : List AnyCode) → All (λ c. letter c ≡ 71) listed → map text_of listed ≡ map (λ c. 71 ∷ code.name_of c) (map gps_code listed)
texts-of [] all = refl
texts-of (c ∷ cs) all =
    let here : text_of c ≡ 71 ∷ code.name_of (gps_code c) = ap text_of (sym (code-back c (All-head (λ c. letter c ≡ 71) c cs all))) ∙ gps-text (gps_code c) in
    ap (λ (t : List ℕ). t ∷ map text_of cs) here ∙ ap (λ (ts : List (List ℕ)). (71 ∷ code.name_of (gps_code c)) ∷ ts) (texts-of cs (All-tail (λ c. letter c ≡ 71) c cs all))

numbers-apart : (listed : List AnyCode) → IsMixedList listed → AllPairs (λ m n. m ≢ n) (map number_of listed)
numbers-apart listed good i j d lt within e =
    let size = length-map listed number_of in
    let high : j < length listed = omega (arith, size, within) in
    let low : i < length listed = omega (arith, lt, high) in
    (good.order i j G1C lt high).unlike
    (same_number (get_or listed i G1C) (get_or listed j G1C) (sym (get_or-map number_of listed i G1C d low) ∙ e ∙ get_or-map number_of listed j G1C d high))

numbers-below : (listed : List AnyCode) → All (λ c. letter c ≡ 71) listed → (q : ℕ) → list_any (λ p. q == p) (map number_of listed) ≡ true → q < 16
numbers-below listed all q found =
    let at = Contains-from_any {eq = λ a b. a == b} eqb-true q (map number_of listed) found in
    let size = length-map listed number_of in
    let low : at.0 < length listed = omega (arith, size, at.1) in
    let number : number_of (get_or listed at.0 G1C) ≡ q = sym (get_or-map number_of listed at.0 G1C q low) ∙ at.2 in
    let small = number-below (get_or listed at.0 G1C) (all at.0 G1C low) in
    omega (arith, number, small)

few-codes : (listed : List AnyCode) → IsMixedList listed → All (λ c. letter c ≡ 71) listed → length listed ≤ 16
few-codes listed good all =
    let numbers = IsDistinct-from_AllPairs Decides-eqb (map number_of listed) (numbers-apart listed good) in
    let size = length-le_from_distinct_below (map number_of listed) 16 numbers (numbers-below listed all) in
    let long = length-map listed number_of in
    omega (arith, size, long)

gps-list : (listed : List AnyCode) → IsMixedList listed → All (λ c. letter c ≡ 71) listed → IsCodeList (map gps_code listed)
gps-list listed good all =
    let size = length-map listed gps_code in
    let few = few-codes listed good all in
    let some = good.count.0 in (
      (omega (arith, size, some), omega (arith, size, few)),
      λ i j d lt within e.
          let high : j < length listed = omega (arith, size, within) in
          let low : i < length listed = omega (arith, lt, high) in
          let one = get_or-map gps_code listed i G1C d low in
          let other = get_or-map gps_code listed j G1C d high in
          (good.order i j G1C lt high).unlike
          (sym (code-back (get_or listed i G1C) (all i G1C low)) ∙ ap code_of_gps (sym one ∙ e ∙ other) ∙ code-back (get_or listed j G1C) (all j G1C high)),
    )

-- ---- the rows

other-width : (f : FormView) (b2 b3 b4 b5 b6 : Bool) → codes_in f Glonass ≡ 0 → codes_in f Galileo ≡ 0 → codes_in f Beidou ≡ 0 → codes_in f Qzss ≡ 0 → codes_in f Sbas ≡ 0 → codes_in f Navic ≡ 0
    → codes_in f (if b2 then Glonass else if b3 then Galileo else if b4 then Beidou else if b5 then Qzss else if b6 then Sbas else Navic) ≡ 0
other-width f true b3 b4 b5 b6 r e c j s i = r
other-width f false true b4 b5 b6 r e c j s i = e
other-width f false false true b5 b6 r e c j s i = c
other-width f false false false true b6 r e c j s i = j
other-width f false false false false true r e c j s i = s
other-width f false false false false false r e c j s i = i

-- a satellite is of GPS, or has no code
width-if : (h : MixedHeadView) (i : ℕ) (b : Bool) → All (λ c. letter c ≡ 71) h.listed
    → codes_in (form_of_head h) (if b then Gps else if leb i 59 then Glonass else if leb i 95 then Galileo else if leb i 158 then Beidou else if leb i 168 then Qzss else if leb i 207 then Sbas else Navic)
    ≡ (if b then length h.listed else 0)
width-if h i true all = ap length (all-of h.listed all)
width-if h i false all =
    other-width (form_of_head h) (leb i 59) (leb i 95) (leb i 158) (leb i 168) (leb i 207) (ap length (none-of 82 h.listed refl all)) (ap length (none-of 69 h.listed refl all)) (ap length (none-of 67 h.listed refl all))
    (ap length (none-of 74 h.listed refl all)) (ap length (none-of 83 h.listed refl all)) (ap length (none-of 73 h.listed refl all))

no-line : (doppler : Bool) (items : List Observed) → length items ≡ 0 → list_any (is_shown doppler) items ≡ false
no-line doppler [] none = refl
no-line doppler (o ∷ items) none = absurd (omega (arith, none))

row-if : (h : MixedHeadView) (r : SatelliteRow) (b : Bool) → leb r.satellite 32 ≡ b → h.doppler ≡ false → IsMixedRow (form_of_head h) r → length r.observed.items ≡ (if b then length h.listed else 0) → IsTableRow (length h.listed) r
row-if h r true low plain row wide =
    record {
      satellite = (row.satellite.0, leb-true r.satellite 32 low);
      width = wide;
      observed = subst (λ (d : Bool). All (IsObservedIn d) r.observed.items) plain row.observed;
      line = subst (λ (d : Bool). IsTrue (has_line_in d r)) plain row.line;
    }
row-if h r false low plain row wide = absurd (true≢false (sym row.line ∙ no-line h.doppler r.observed.items wide))

gps-row : (h : MixedHeadView) (r : SatelliteRow) → h.doppler ≡ false → All (λ c. letter c ≡ 71) h.listed → IsMixedRow (form_of_head h) r → IsTableRow (length h.listed) r
gps-row h r plain all row = row-if h r (leb r.satellite 32) refl plain row (row.width ∙ width-if h r.satellite (leb r.satellite 32) all)

gps-epoch : (h : MixedHeadView) (e : EpochTableView) → h.doppler ≡ false → All (λ c. letter c ≡ 71) h.listed → IsMixedEpoch (form_of_head h) e → IsTableEpoch (length h.listed) e
gps-epoch h e plain all good = record {
  time = good.time;
  some = good.some;
  rows = All-weaker (IsMixedRow (form_of_head h)) (IsTableRow (length h.listed)) (λ r row. gps-row h r plain all row) e.rows good.rows;
  rise = good.rise;
}

table-epoch : (n : ℕ) (e : EpochTableView) → IsTableEpoch n e → IsEpochTableView e
table-epoch n e good = record {
  time = good.time;
  rows = All-weaker (IsTableRow n) IsSatelliteRow (λ r row. record {
    satellite = row.satellite;
    strengths = All-weaker IsObserved (λ (o : Observed). IsStrengthOrNone o.strength_millidbhz) (λ o is. is.strength) r.observed.items row.observed;
  }) e.rows good.rows;
  rise = good.rise;
}

-- ---- the file

records-same : GpsRecordsStay → (n : ℕ) (es : List EpochTableView) → All (IsTableEpoch n) es → flat_map (mixed_record_text false) es ≡ flat_map record_text es
records-same stay n [] all = refl
records-same stay n (e ∷ es) all =
    ap (λ (t : List ℕ). t ++ flat_map (mixed_record_text false) es) (stay e (table-epoch n e (All-head (IsTableEpoch n) e es all)))
    ∙ ap (λ (t : List ℕ). record_text e ++ t) (records-same stay n es (All-tail (IsTableEpoch n) e es all))

abbrev pub gps_head : MixedHeadView → HeadView
gps_head h = record { marker = h.marker; listed = map gps_code h.listed; made = h.made }

no-glonass : (listed : List AnyCode) (g : Option GlonassView) → All (λ c. letter c ≡ 71) listed → TellsGlonass listed g → g ≡ None
no-glonass listed None all told = refl
no-glonass listed (Some g) all told = absurd (true≢false (sym told.0 ∙ none-glonass listed all))
  where
    none-glonass : (cs : List AnyCode) → All (λ c. letter c ≡ 71) cs → has_glonass cs ≡ false
    none-glonass [] all = refl
    none-glonass (c ∷ cs) all =
        ap (λ x. (x == 82) || has_glonass cs) (All-head (λ c. letter c ≡ 71) c cs all) ∙ none-glonass cs (All-tail (λ c. letter c ≡ 71) c cs all)

gps-file : GpsFilesStay → GpsRecordsStay → (u : MixedTable) → IsMixedTable u → version_letter u.head.listed ≡ 71 → u.head.doppler ≡ false → is_gps_text (mixed_table_text u) ≡ true
    → IsTextOfSomeFile (mixed_table_text u)
gps-file header records u good is plain gps =
    let all = gps-letters u.head.listed is in
    let h : HeadView = gps_head u.head in
    let t : WellFormedTable = record { head = h; site = u.site; first = u.first; epochs = u.epochs } in
    let size : length (map gps_code u.head.listed) ≡ length u.head.listed = length-map u.head.listed gps_code in
    let is_head : IsHeadView h = (good.head.marker, gps-list u.head.listed good.head.listed all, good.head.made, good.head.whole_second) in
    let epochs : All (IsTableEpoch (length u.head.listed)) u.epochs =
    All-weaker (IsMixedEpoch (form_of_head u.head)) (IsTableEpoch (length u.head.listed)) (λ e is. gps-epoch u.head e plain all is) u.epochs good.epochs in
    let of_gps : IsOfGps h u.head = record { marker = refl; listed = texts-of u.head.listed all; glonass = no-glonass u.head.listed u.head.glonass all good.head.glonass; made = refl; doppler = plain } in
    let table : IsWellFormedTable t =
    record {
      head = is_head;
      site = good.site;
      first = good.first;
      starts = good.starts;
      epochs = subst (λ (n : ℕ). All (IsTableEpoch n) u.epochs) (sym size) epochs;
      rise = good.rise;
    } in
    let same : mixed_table_text u ≡ table_text t =
    ap (λ (top : List ℕ). top ++ flat_map (mixed_record_text u.head.doppler) u.epochs) (header h u.head u.site u.first of_gps is_head)
    ∙ ap (λ (d : Bool). header_text h u.site u.first ++ flat_map (mixed_record_text d) u.epochs) plain
    ∙ ap (λ (body : List ℕ). header_text h u.site u.first ++ body) (records-same records (length u.head.listed) u.epochs epochs) in
    (OfGps t, (table, sym (ap is_gps_text same) ∙ gps), same)

-- the text of each well-formed table of any systems is that of a file
pub some-file : GpsFilesStay → GpsRecordsStay → TypesTellShifts → (u : MixedTable) → IsMixedTable u → IsTextOfSomeFile (mixed_table_text u)
some-file header records tell u good = file-if (is_gps_text (mixed_table_text u)) refl
  where
    both-true : (a b : Bool) → (a && not b) ≡ true → (a ≡ true) × (b ≡ false)
    both-true true true is = cc
    both-true true false is = (refl, refl)
    both-true false b is = cc

    file-if : (b : Bool) → is_gps_text (mixed_table_text u) ≡ b → IsTextOfSomeFile (mixed_table_text u)
    file-if false other = (OfSystems u, (good, other), refl)
    file-if true gps =
        let two = both-true (letter_in (mixed_table_text u) == 71) (has_shift_type (mixed_table_text u)) gps in
        gps-file header records u good (sym (mixed-letter u) ∙ eqb-true (letter_in (mixed_table_text u)) 71 two.0) (sym (tell u good) ∙ two.1) gps
