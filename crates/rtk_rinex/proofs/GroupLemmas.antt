-- The lines of the observation types of one system are read back.
use Rattle.std.proofs.Common.{◌≡◌, ◌≢◌, ℕ, suc, ◌+◌, ◌*◌, ◌/◌, ◌%◌, ◌^◌, ◌<◌, ◌≤◌, List, [], ◌∷◌, ◌++◌, length, take, drop, get_or, decimal, codes, arith, refl, sym, ◌∙◌, ap, subst, append_assoc, length-append, inl, inr, min, Bool, true, false, ◌==◌, if◌then◌else◌}
use Rattle.std.specs.Prelude.{All}
use Rattle.std.specs.Int.{IsInRange}
use Rattle.std.proofs.Math.Seq.{drop-cons}
use Rattle.std.proofs.lemmas.Bool.Decides.{Decides-eqb, leb_tells}
use Rattle.std.proofs.lemmas.Grind.{flat_map-append}
use Rattle.std.proofs.lemmas.List.{same_lists, get_or-take, length-take, take_all, take-append-drop, take-append-le, append-nil, append_cancel_left, length-drop}
use Rattle.std.proofs.lemmas.List.Elements.{All-nil, All-head, All-tail}
use Rattle.rtk_obs.specs.declared.any_code.AnyCode.{AnyCode}
use Rattle.rtk_obs.specs.declared.any_code.AnyCode.TheVariants.{G1C, G1P, G1W, G1S, G1L, G1X, G2C, G2D, G2P, G2W, G2S, G2L, G2X, G5I, G5Q, G5X, R1C, R1P, R2C, R2P, E1C, E1B, E1X, E6C, E6B, E6X, E7I, E7Q, E7X, E8I, E8Q, E8X, E5I, E5Q, E5X, C2I, C2Q, C2X, C6I, C6Q, C6X, C7I, C7Q, C7X, C5D, C5P, C5X, C7D, C1D, C1P, C1X, J1C, J6S, J6L, J6X, J2S, J2L, J2X, J5I, J5Q, J5X, J1S, J1L, J1X, S1C, S5I, S5Q, S5X, I5A}
use Rattle.rtk_obs.specs.AnyCode.{name_of}
use Rattle.rtk_rinex.specs.Columns.{left, right}
use Rattle.rtk_rinex.specs.Header.{header_line, types_label, continuation_line}
use Rattle.rtk_rinex.specs.Lines.{HasNoEnd, text_of}
use Rattle.rtk_rinex.specs.MixedHead.{letter}
use Rattle.rtk_rinex.specs.MixedHeader.{codes_of, three_types, four_types, code_types, types_count, types_text, types_lines_of, system_types_lines}
use Rattle.rtk_rinex.specs.Steps.Digits.{digits_from}
use Rattle.rtk_rinex.specs.Steps.HeaderShown.{line_at, number_at}
use Rattle.rtk_rinex.specs.Steps.MixedRoom.{codes_of_letter, types_line_count}
use Rattle.rtk_rinex.specs.Steps.MixedHeaderRead.{Reads, IsGroup, code_name_at, ShowsGroup}
use Rattle.rtk_rinex.proofs.DigitsLemmas.{piece, digits_from-right}
use Rattle.rtk_rinex.proofs.HeaderGoodLemmas.{known}
use Rattle.rtk_rinex.proofs.HeaderPartsLemmas.{lines_begin}
use Rattle.rtk_rinex.proofs.HeaderRowsLemmas.{row, row_ended, ended}
use Rattle.rtk_rinex.proofs.HeaderShownLemmas.{line_rest, line_is}
use Rattle.rtk_rinex.proofs.LineLemmas.{both, one, of_right, of_decimal}
use Rattle.rtk_rinex.proofs.MixedListLemmas.{HaveOnePlace, most_unlike}
use Rattle.rtk_rinex.proofs.MixedRoomLemmas.{few_types, types_columns, some_line, lines_of_columns, columns_range, length-name, length-types_text, types_lines-some}
use Rattle.rtk_rinex.proofs.TextPartLemmas.{AreWhole, text_of-append}
use Rattle.rtk_rinex.proofs.TypesPieceLemmas.{piece_line, piece_rows, length-piece_rows, piece_in, piece_at, pieces_back, line_shown, of_pieces}

-- ---- lines, and names

if_none : (text r : List ℕ) (b : Bool) → (length text == 0) ≡ b → length text ≡ 0 → (if b then [] else r) ≡ []
if_none text r true e h = refl
if_none text r false e h = absurd (let t = (Decides-eqb (length text) 0).1 h in cc)

if_some : (text r : List ℕ) (b : Bool) → (length text == 0) ≡ b → 0 < length text → (if b then [] else r) ≡ r
if_some text r false e h = refl
if_some text r true e h = absurd (let t = (Decides-eqb (length text) 0).0 e in omega (arith, t, h))

continued-none : (j : ℕ) (text : List ℕ) → length text ≤ 52 * j → continuation_line (drop (52 * j) text) ≡ []
continued-none j text h = let left = length-drop (52 * j) text in if_none (drop (52 * j) text) _ (length (drop (52 * j) text) == 0) refl (omega (arith, left, h))

continued-some : (first : List ℕ) (j : ℕ) (text : List ℕ) → 52 * suc j < length text → continuation_line (drop (52 * suc j) text) ≡ ended (piece_line first types_label text (suc j))
unfolding piece_line
continued-some first j text h =
    let left = length-drop (52 * suc j) text in
    if_some (drop (52 * suc j) text) _ (length (drop (52 * suc j) text) == 0) refl (omega (arith, left, h)) ∙ row_ended (codes "      " ++ take 52 (drop (52 * suc j) text)) types_label

pub first_line : (first text : List ℕ) → header_line (first ++ take 52 text) types_label ≡ ended (piece_line first types_label text 0)
unfolding piece_line
first_line first text = row_ended (first ++ take 52 text) types_label

of_name : (c : AnyCode) → HasNoEnd (name_of c)
of_name G1C = known (name_of G1C) refl
of_name G1P = known (name_of G1P) refl
of_name G1W = known (name_of G1W) refl
of_name G1S = known (name_of G1S) refl
of_name G1L = known (name_of G1L) refl
of_name G1X = known (name_of G1X) refl
of_name G2C = known (name_of G2C) refl
of_name G2D = known (name_of G2D) refl
of_name G2P = known (name_of G2P) refl
of_name G2W = known (name_of G2W) refl
of_name G2S = known (name_of G2S) refl
of_name G2L = known (name_of G2L) refl
of_name G2X = known (name_of G2X) refl
of_name G5I = known (name_of G5I) refl
of_name G5Q = known (name_of G5Q) refl
of_name G5X = known (name_of G5X) refl
of_name R1C = known (name_of R1C) refl
of_name R1P = known (name_of R1P) refl
of_name R2C = known (name_of R2C) refl
of_name R2P = known (name_of R2P) refl
of_name E1C = known (name_of E1C) refl
of_name E1B = known (name_of E1B) refl
of_name E1X = known (name_of E1X) refl
of_name E6C = known (name_of E6C) refl
of_name E6B = known (name_of E6B) refl
of_name E6X = known (name_of E6X) refl
of_name E7I = known (name_of E7I) refl
of_name E7Q = known (name_of E7Q) refl
of_name E7X = known (name_of E7X) refl
of_name E8I = known (name_of E8I) refl
of_name E8Q = known (name_of E8Q) refl
of_name E8X = known (name_of E8X) refl
of_name E5I = known (name_of E5I) refl
of_name E5Q = known (name_of E5Q) refl
of_name E5X = known (name_of E5X) refl
of_name C2I = known (name_of C2I) refl
of_name C2Q = known (name_of C2Q) refl
of_name C2X = known (name_of C2X) refl
of_name C6I = known (name_of C6I) refl
of_name C6Q = known (name_of C6Q) refl
of_name C6X = known (name_of C6X) refl
of_name C7I = known (name_of C7I) refl
of_name C7Q = known (name_of C7Q) refl
of_name C7X = known (name_of C7X) refl
of_name C5D = known (name_of C5D) refl
of_name C5P = known (name_of C5P) refl
of_name C5X = known (name_of C5X) refl
of_name C7D = known (name_of C7D) refl
of_name C1D = known (name_of C1D) refl
of_name C1P = known (name_of C1P) refl
of_name C1X = known (name_of C1X) refl
of_name J1C = known (name_of J1C) refl
of_name J6S = known (name_of J6S) refl
of_name J6L = known (name_of J6L) refl
of_name J6X = known (name_of J6X) refl
of_name J2S = known (name_of J2S) refl
of_name J2L = known (name_of J2L) refl
of_name J2X = known (name_of J2X) refl
of_name J5I = known (name_of J5I) refl
of_name J5Q = known (name_of J5Q) refl
of_name J5X = known (name_of J5X) refl
of_name J1S = known (name_of J1S) refl
of_name J1L = known (name_of J1L) refl
of_name J1X = known (name_of J1X) refl
of_name S1C = known (name_of S1C) refl
of_name S5I = known (name_of S5I) refl
of_name S5Q = known (name_of S5Q) refl
of_name S5X = known (name_of S5X) refl
of_name I5A = known (name_of I5A) refl

same_codes : (xs ys : List AnyCode) (q : ℕ) → length xs ≡ length ys → ((i : ℕ) (e : AnyCode) → i < length ys → i < q → get_or xs i e ≡ get_or ys i e) → take q xs ≡ take q ys
same_codes xs ys q n same =
    let a = length-take q xs in
    let b = length-take q ys in
    same_lists (take q xs) (take q ys) (a ∙ ap (λ (m : ℕ). min q m) n ∙ sym b)
    (λ k d lt.
    let low : k < q = omega (arith, lt, a) in
    let high : k < length ys = omega (arith, lt, a, n) in
    get_or-take q xs k d low ∙ same k d high low ∙ sym (get_or-take q ys k d low))

-- codes of one system alone are all of that system
kept_first : (l : ℕ) (b : Bool) (c : AnyCode) (xs ys : List AnyCode) → b ≡ true → xs ≡ ys → (if b then c ∷ xs else xs) ≡ c ∷ ys
kept_first l true c xs ys e f = ap (λ (l : List AnyCode). c ∷ l) f
kept_first l false c xs ys e f = absurd (cc)

pub own_codes : (l : ℕ) (cs : List AnyCode) → All (λ c. letter c ≡ l) cs → codes_of l cs ≡ cs
own_codes l [] h = refl
own_codes l (c ∷ cs) h =
    kept_first l (letter c == l) c (codes_of l cs) cs ((Decides-eqb (letter c) l).1 (All-head (λ c. letter c ≡ l) c cs h)) (own_codes l cs (All-tail (λ c. letter c ≡ l) c cs h))

pub group_few : (s : ℕ) (cs : List AnyCode) → HaveOnePlace → IsGroup s cs → length cs ≤ codes_of_letter s
group_few s cs place g = subst (λ (xs : List AnyCode). length xs ≤ codes_of_letter s) (own_codes s cs g.own) (most_unlike s cs place g.distinct)

no_rows : (lines : List (List ℕ)) → text_of lines ≡ [] → lines ≡ []
no_rows [] e = refl
no_rows (l ∷ lines) e = absurd (let size = ap length e in omega (arith, size, length-append (ended l) (text_of lines), length-append l (10 ∷ [])))

-- ---- no line has an end

of_three : (c : AnyCode) → HasNoEnd (three_types c)
of_three c =
    both (codes " C" ++ name_of c ++ codes " L" ++ name_of c ++ codes " S") (name_of c)
    (both (codes " C" ++ name_of c ++ codes " L" ++ name_of c) (codes " S")
    (both (codes " C" ++ name_of c ++ codes " L") (name_of c) (both (codes " C" ++ name_of c) (codes " L") (both (codes " C") (name_of c) (known (codes " C") refl) (of_name c)) (known (codes " L") refl)) (of_name c)) (known (codes " S") refl)) (of_name c)

of_four : (c : AnyCode) → HasNoEnd (four_types c)
of_four c =
    both (codes " C" ++ name_of c ++ codes " L" ++ name_of c ++ codes " D" ++ name_of c ++ codes " S") (name_of c)
    (both (codes " C" ++ name_of c ++ codes " L" ++ name_of c ++ codes " D" ++ name_of c) (codes " S")
    (both (codes " C" ++ name_of c ++ codes " L" ++ name_of c ++ codes " D") (name_of c)
    (both (codes " C" ++ name_of c ++ codes " L" ++ name_of c) (codes " D")
    (both (codes " C" ++ name_of c ++ codes " L") (name_of c) (both (codes " C" ++ name_of c) (codes " L") (both (codes " C") (name_of c) (known (codes " C") refl) (of_name c)) (known (codes " L") refl)) (of_name c))
    (known (codes " D") refl)) (of_name c)) (known (codes " S") refl)) (of_name c)

of_code_types : (doppler : Bool) (c : AnyCode) → HasNoEnd (code_types doppler c)
of_code_types false c = of_three c
of_code_types true c = of_four c

pub of_types_text : (doppler : Bool) (cs : List AnyCode) → HasNoEnd (types_text doppler cs)
of_types_text doppler [] = All-nil (λ x. x ≢ 10)
of_types_text doppler (c ∷ cs) = both (code_types doppler c) (types_text doppler cs) (of_code_types doppler c) (of_types_text doppler cs)

-- ---- the name of a code in its types

-- what follows the first name
abbrev pub last_types : Bool → AnyCode → List ℕ
last_types false c = codes " L" ++ name_of c ++ codes " S" ++ name_of c
last_types true c = codes " L" ++ name_of c ++ codes " D" ++ name_of c ++ codes " S" ++ name_of c

pub name_front : (doppler : Bool) (c : AnyCode) (rest : List ℕ) → code_types doppler c ++ rest ≡ codes " C" ++ (name_of c ++ (last_types doppler c ++ rest))
name_front false c rest = simp append_assoc
name_front true c rest = simp append_assoc

-- where the name of the code after i of n codes stands: in the text of their types, and in its line
record NamePlace (doppler : Bool) (i len : ℕ) : Type 0 where
  pub place : 52 * (types_count doppler * i / 13) + (4 * (types_count doppler * i % 13) + 2) ≡ 4 * types_count doppler * i + 2
  pub fits : 4 * (types_count doppler * i % 13) + 2 + 2 ≤ 52
  pub within : 52 * (types_count doppler * i / 13) + (4 * (types_count doppler * i % 13) + 2 + 2) ≤ len

name_place : (doppler : Bool) (i n len : ℕ) → i < n → len ≡ 4 * types_count doppler * n → NamePlace doppler i len
name_place false i n len lt size = record { place = omega arith; fits = omega arith; within = omega (arith, lt, size) }
name_place true i n len lt size = record { place = omega arith; fits = omega arith; within = omega (arith, lt, size) }

-- the codes of which the first k lines show types
record CodesOfColumns (doppler : Bool) (k : ℕ) : Type 0 where
  pub codes : ℕ
  pub enough : 52 * k ≤ 4 * types_count doppler * codes
  pub below : (i : ℕ) → i < codes → 4 * types_count doppler * i < 52 * k

codes_of_columns : (doppler : Bool) (k : ℕ) → CodesOfColumns doppler k
codes_of_columns false k = record { codes = (52 * k + 11) / 12; enough = omega arith; below = λ i lt. omega (arith, lt) }
codes_of_columns true k = record { codes = (52 * k + 15) / 16; enough = omega arith; below = λ i lt. omega (arith, lt) }

two_columns : (x : ℕ) → 8 + 4 * x ≡ 6 + (4 * x + 2)
two_columns x = omega arith

-- the line of the name of an earlier code is one of the first k lines
line_low : (doppler : Bool) (i j k : ℕ) → j ≤ i → 4 * types_count doppler * i < 52 * k → types_count doppler * j / 13 < k
line_low false i j k le low = omega (arith, le, low)
line_low true i j k le low = omega (arith, le, low)

all_shown : (doppler : Bool) (i n k : ℕ) → i < n → k ≡ types_line_count doppler n → 4 * types_count doppler * i < 52 * k
all_shown false i n k lt e = omega (arith, lt, e)
all_shown true i n k lt e = omega (arith, lt, e)

pub small_count : (m : ℕ) → m ≤ 64 → m < 2 ^ 64
small_count m h = omega arith

-- ---- in a file with Doppler shifts, or without them

module _ (doppler : Bool) where
  -- ---- the lines of a group

  -- what stands before the types of the first line
  abbrev pub first_of : ℕ → ℕ → List ℕ
  first_of s n = s ∷ codes "  " ++ right 3 (decimal (types_count doppler * n))

  abbrev rows_of : ℕ → List AnyCode → List (List ℕ)
  rows_of s cs = piece_rows (first_of s (length cs)) types_label (types_text doppler cs) 0 (types_line_count doppler (length cs))

  pub length-first : (s n : ℕ) → n ≤ 16 → length (first_of s n) ≡ 6
  length-first s n h = length-append (s ∷ codes "  ") (right 3 (decimal (types_count doppler * n))) ∙ omega (arith, types_columns doppler n h)

  lines_text : (s n : ℕ) (text : List ℕ) → IsInRange 1 16 n → length text ≡ 4 * types_count doppler * n
      → text_of (piece_rows (first_of s n) types_label text 0 (types_line_count doppler n)) ≡ types_lines_of doppler s n text
  unfolding piece_rows
  lines_text s n text h size =
      let f = first_of s n in
      let count = lines_of_columns doppler n (length text) size in
      let range = columns_range doppler n (length text) h.0 h.1 size in
      elim (leb_tells (length text) 52) [
        | inl few ↦
            let m : types_line_count doppler n ≡ 1 = count ∙ omega (arith, range, few.1) in
            rw (m, first_line f text, continued-none 1 text few.1, continued-none 2 text (omega (arith, few.1)), continued-none 3 text (omega (arith, few.1)), continued-none 4 text (omega (arith, few.1))) (simp append_assoc)
        | inr more ↦ elim (leb_tells (length text) 104) [
          | inl few ↦
              let m : types_line_count doppler n ≡ 2 = count ∙ omega (arith, more.1, few.1) in
              rw (m, first_line f text, continued-some f 0 text more.1, continued-none 2 text few.1, continued-none 3 text (omega (arith, few.1)), continued-none 4 text (omega (arith, few.1))) (simp append_assoc)
          | inr many ↦ elim (leb_tells (length text) 156) [
            | inl few ↦
                let m : types_line_count doppler n ≡ 3 = count ∙ omega (arith, many.1, few.1) in
                rw (m, first_line f text, continued-some f 0 text (omega (arith, many.1)), continued-some f 1 text many.1, continued-none 3 text few.1, continued-none 4 text (omega (arith, few.1))) (simp append_assoc)
            | inr most ↦ elim (leb_tells (length text) 208) [
              | inl few ↦
                  let m : types_line_count doppler n ≡ 4 = count ∙ omega (arith, most.1, few.1) in
                  rw (m, first_line f text, continued-some f 0 text (omega (arith, most.1)), continued-some f 1 text (omega (arith, most.1)), continued-some f 2 text most.1, continued-none 4 text few.1) (simp append_assoc)
              | inr all ↦
                  let m : types_line_count doppler n ≡ 5 = count ∙ omega (arith, all.1, range) in
                  rw (m, first_line f text, continued-some f 0 text (omega (arith, all.1)), continued-some f 1 text (omega (arith, all.1)), continued-some f 2 text (omega (arith, all.1)), continued-some f 3 text all.1) (simp append_assoc)
            ]
          ]
        ]
      ]

  pub group_text : (s : ℕ) (cs : List AnyCode) → IsGroup s cs → system_types_lines doppler s cs ≡ text_of (rows_of s cs)
  group_text s cs g = types_lines-some doppler s cs (omega (arith, g.count)) ∙ sym (lines_text s (length cs) (types_text doppler cs) g.count (length-types_text doppler cs))

  -- ---- no line has an end

  pub of_first : (s n : ℕ) → s ≢ 10 → n ≤ 16 → HasNoEnd (first_of s n)
  of_first s n h few =
      both (s ∷ codes "  ") (right 3 (decimal (types_count doppler * n))) (both (s ∷ []) (codes "  ") (one s h) (known (codes "  ") refl))
      (of_right 3 (decimal (types_count doppler * n)) (of_decimal (types_count doppler * n) (small_count (types_count doppler * n) (few_types doppler n few))))

  of_rows : (s : ℕ) (cs : List AnyCode) → s ≢ 10 → length cs ≤ 16 → All HasNoEnd (rows_of s cs)
  of_rows s cs h few =
      of_pieces (first_of s (length cs)) types_label (types_text doppler cs) 0 (types_line_count doppler (length cs)) (of_first s (length cs) h few)
      (known types_label refl) (of_types_text doppler cs)

  pub whole_group : (s : ℕ) (cs : List AnyCode) → s ≢ 10 → IsGroup s cs → AreWhole (system_types_lines doppler s cs)
  whole_group s cs h g = record { lines = rows_of s cs; plain = of_rows s cs h (omega (arith, g.count)); is = group_text s cs g }

  -- ---- names

  -- the types around the first name of a code
  record Around (cs : List AnyCode) (i : ℕ) (name : List ℕ) : Type 0 where
    pub front : List ℕ
    pub rest : List ℕ
    pub is : types_text doppler cs ≡ front ++ (name ++ rest)
    pub length : length front ≡ 4 * types_count doppler * i + 2

  around : (cs : List AnyCode) (i : ℕ) (e : AnyCode) → i < length cs → Around cs i (name_of (get_or cs i e))
  around cs i e lt =
      let x = get_or cs i e in
      let before : List AnyCode = take i cs in
      let after : List AnyCode = drop (suc i) cs in
      let n = length-take i cs in
      let long : length before ≡ i = omega (arith, n, lt) in
      let split : cs ≡ before ++ (x ∷ after) = sym (take-append-drop i cs) ∙ ap (λ (ys : List AnyCode). before ++ ys) (drop-cons cs i e lt) in
      let rest : List ℕ = last_types doppler x ++ types_text doppler after in
      let one : code_types doppler x ++ types_text doppler after ≡ codes " C" ++ (name_of x ++ rest) = name_front doppler x (types_text doppler after) in
      let all : types_text doppler cs ≡ (types_text doppler before ++ codes " C") ++ (name_of x ++ rest) =
      ap (types_text doppler) split ∙ flat_map-append (code_types doppler) before (x ∷ after) ∙ ap (λ (ys : List ℕ). types_text doppler before ++ ys) one
      ∙ sym (append_assoc (types_text doppler before) (codes " C") (name_of x ++ rest)) in
      let size : length (types_text doppler before) ≡ 4 * types_count doppler * i = length-types_text doppler before ∙ ap (λ (k : ℕ). 4 * types_count doppler * k) long in
      record { front = types_text doppler before ++ codes " C"; rest = rest; is = all; length = length-append (types_text doppler before) (codes " C") ∙ ap (λ (k : ℕ). k + 2) size }

  name_in_text : (cs : List AnyCode) (i : ℕ) (e : AnyCode) → i < length cs → take 2 (drop (4 * types_count doppler * i + 2) (types_text doppler cs)) ≡ name_of (get_or cs i e)
  name_in_text cs i e lt =
      let a = around cs i e lt in
      rw a.is (piece (4 * types_count doppler * i + 2) 2 a.front (name_of (get_or cs i e)) a.rest a.length (length-name (get_or cs i e)))

  -- the name of a code that a line shows
  name_is : (s : ℕ) (text : List ℕ) (cs : List AnyCode) (i : ℕ) (e : AnyCode) → length cs ≤ 16 → i < length cs
      → line_at (types_count doppler * i / 13) text ≡ ended (piece_line (first_of s (length cs)) types_label (types_text doppler cs) (types_count doppler * i / 13))
      → code_name_at doppler i text ≡ name_of (get_or cs i e)
  name_is s text cs i e few lt line =
      let j = types_count doppler * i / 13 in
      let p = name_place doppler i (length cs) (length (types_text doppler cs)) lt (length-types_text doppler cs) in
      let r = 4 * (types_count doppler * i % 13) + 2 in
      let at : 8 + 4 * (types_count doppler * i % 13) ≡ 6 + r = two_columns (types_count doppler * i % 13) in
      ap (λ (k : ℕ). take 2 (drop k (line_at j text))) at
      ∙ piece_at (line_at j text) (first_of s (length cs)) types_label (types_text doppler cs) j r 2 (length-first s (length cs) few) line p.fits p.within
      ∙ ap (λ (k : ℕ). take 2 (drop k (types_text doppler cs))) p.place ∙ name_in_text cs i e lt

  -- ---- types of the first codes

  types_front : (cs : List AnyCode) (n q : ℕ) → n ≤ 4 * types_count doppler * q → take n (types_text doppler cs) ≡ take n (types_text doppler (take q cs))
  types_front cs n q h =
      elim (leb_tells q (length cs)) [
        | inl few ↦
            let e = length-take q cs in
            let all : length (take q cs) ≡ q = omega (arith, e, few.1) in
            let long : length (types_text doppler (take q cs)) ≡ 4 * types_count doppler * q = length-types_text doppler (take q cs) ∙ ap (λ (k : ℕ). 4 * types_count doppler * k) all in
            let two : types_text doppler cs ≡ types_text doppler (take q cs) ++ types_text doppler (drop q cs) =
            ap (types_text doppler) (sym (take-append-drop q cs)) ∙ flat_map-append (code_types doppler) (take q cs) (drop q cs) in
            ap (λ (ys : List ℕ). take n ys) two ∙ take-append-le n (types_text doppler (take q cs)) (types_text doppler (drop q cs)) (subst (λ (m : ℕ). n ≤ m) (sym long) h)
        | inr all ↦ ap (λ (ys : List AnyCode). take n (types_text doppler ys)) (sym (take_all q cs (omega (arith, all.1))))
      ]

  types_prefix : (xs ys : List AnyCode) (k : ℕ) → length xs ≡ length ys
      → ((i : ℕ) (e : AnyCode) → i < length ys → 4 * types_count doppler * i < 52 * k → get_or xs i e ≡ get_or ys i e)
      → take (52 * k) (types_text doppler xs) ≡ take (52 * k) (types_text doppler ys)
  types_prefix xs ys k n same =
      let c = codes_of_columns doppler k in
      let front : take c.codes xs ≡ take c.codes ys = same_codes xs ys c.codes n (λ i e lt low. same i e lt (c.below i low)) in
      types_front xs (52 * k) c.codes c.enough ∙ ap (λ (cs : List AnyCode). take (52 * k) (types_text doppler cs)) front ∙ sym (types_front ys (52 * k) c.codes c.enough)

  -- ---- the lines read back

  -- the number of types that the first line shows
  count_shown : (s n : ℕ) (text shown rest : List ℕ) → n ≤ 16 → text ≡ ended (row (first_of s n ++ shown) types_label) ++ rest → number_at 3 3 text ≡ types_count doppler * n
  count_shown s n text shown rest h e =
      let few = few_types doppler n h in
      let a : List ℕ = right 3 (decimal (types_count doppler * n)) in
      let content : List ℕ = first_of s n ++ shown in
      let after : List ℕ = line_rest content types_label rest in
      let whole : text ≡ (s ∷ codes "  ") ++ (a ++ (shown ++ after)) =
      e ∙ ap (λ (x : List ℕ). x ++ rest) (sym (row_ended content types_label)) ∙ line_is content types_label rest ∙ simp append_assoc in
      ap (digits_from 0) (rw whole (piece 3 3 (s ∷ codes "  ") a (shown ++ after) refl (types_columns doppler n h))) ∙ digits_from-right 3 (types_count doppler * n) (small_count (types_count doppler * n) few)

  first_char : (s n : ℕ) (shown rest : List ℕ) → take 1 (ended (row (first_of s n ++ shown) types_label) ++ rest) ≡ s ∷ []
  unfolding row left
  first_char s n shown rest = refl

  -- ---- what is read

  some_text : (s : ℕ) (cs : List AnyCode) → IsGroup s cs → system_types_lines doppler s cs ≡ [] → ⊥
  some_text s cs g e =
      let none = no_rows (rows_of s cs) (sym (group_text s cs g) ∙ e) in
      let size = length-piece_rows (first_of s (length cs)) types_label (types_text doppler cs) 0 (types_line_count doppler (length cs)) in
      let zero = ap length none in
      let one = some_line doppler (length cs) g.count.0 in
      omega (arith, size, zero, one)

  -- the first line of a group
  line_zero : (s n : ℕ) (text : List ℕ) → piece_line (first_of s n) types_label text 0 ≡ row (first_of s n ++ take 52 text) types_label
  unfolding piece_line
  line_zero s n text = refl

  pub group_reads : (s : ℕ) (g : List AnyCode) (text : List ℕ) → s ≢ 10 → HaveOnePlace → (take 1 text ≡ s ∷ [] → ShowsGroup doppler s text g)
      → Reads {V = List AnyCode} (IsGroup s) (λ ds. ds ≡ g) (system_types_lines doppler s) text g
  group_reads s g text plain place shows ds [] rest more group ok e t = record { rest = system_types_lines doppler s g; begins = refl; whole = λ none. absurd (some_text s ds group (e ∙ none)) }
  group_reads s g text plain place shows ds (l ∷ ls) rest more group ok e t =
      let n = length ds in
      let few : n ≤ 16 = omega (arith, group.count) in
      let m = types_line_count doppler n in
      let lines : List (List ℕ) = l ∷ ls in
      let k = length lines in
      let first : List ℕ = first_of s n in
      let types : List ℕ = types_text doppler ds in
      let rows : List (List ℕ) = rows_of s ds in
      let all : text_of lines ++ more ≡ text_of rows = sym e ∙ group_text s ds group in
      let cut = lines_begin lines rows more ok (of_rows s ds plain few) all in
      let left : more ≡ text_of cut.0 = append_cancel_left (text_of lines) more (text_of cut.0) (all ∙ ap text_of cut.1 ∙ text_of-append lines cut.0) in
      let six = length-first s n few in
      let line : (j : ℕ) → j < k → line_at j text ≡ ended (piece_line first types_label types j) = λ j lt. line_shown first types_label types m lines cut.0 text rest j six (omega arith) cut.1 t lt in
      let first_is : l ≡ row (first ++ take 52 types) types_label =
      ap (λ (x : List (List ℕ)). get_or x 0 []) (sym cut.1) ∙ piece_in first types_label types m 0 [] (some_line doppler n group.count.0) ∙ line_zero s n types in
      let begins : text ≡ ended (row (first ++ take 52 types) types_label) ++ (text_of ls ++ rest) =
      t ∙ append_assoc (ended l) (text_of ls) rest ∙ ap (λ (x : List ℕ). ended x ++ (text_of ls ++ rest)) first_is in
      let sg = shows (ap (take 1) begins ∙ first_char s n (take 52 types) (text_of ls ++ rest)) in
      let count : length g ≡ n = sg.count n (omega (arith, group.count), group_few s ds place group) (count_shown s n text (take 52 types) (text_of ls ++ rest) few begins) in
      let names : (i : ℕ) (d : AnyCode) → i < n → 4 * types_count doppler * i < 52 * k → get_or g i d ≡ get_or ds i d = λ i d lt low.
      sg.shown ds i d group lt (omega (arith, lt, count)) (λ j le. name_is s text ds j d few (omega (arith, le, lt)) (line (types_count doppler * j / 13) (line_low doppler i j k le low))) in
      let prefix = types_prefix g ds k count names in
      let back = pieces_back (first_of s (length g)) first types_label (types_text doppler g) types (types_line_count doppler (length g)) m lines cut.0 cut.1
      (λ some. (ap (first_of s) count, (ap (types_line_count doppler) count, prefix))) in
      record {
        rest = text_of back.0;
        begins = group_text s g sg.group ∙ ap text_of back.1 ∙ text_of-append lines back.0;
        whole = λ none.
            let nothing : cut.0 ≡ [] = no_rows cut.0 (sym left ∙ none) in
            let size = length-piece_rows first types_label types 0 m in
            let whole = ap length (cut.1 ∙ ap (λ (x : List (List ℕ)). lines ++ x) nothing ∙ append-nil lines) in
            let same : g ≡ ds = same_lists g ds count (λ i d lt. names i d (subst (λ (x : ℕ). i < x) count lt) (all_shown doppler i n k (subst (λ (x : ℕ). i < x) count lt) (sym whole ∙ size))) in
            let end : back.0 ≡ [] = append_cancel_left lines back.0 [] (sym back.1 ∙ ap (rows_of s) same ∙ cut.1 ∙ ap (λ (x : List (List ℕ)). lines ++ x) nothing) in
            (ap text_of end, sym same);
      }
