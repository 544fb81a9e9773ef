-- The lengths of the parts of a mixed header, and texts one after another.
use Rattle.std.proofs.Common.{◌≡◌, ◌++◌, ◌+◌, ◌*◌, ◌/◌, ◌≤◌, ◌<◌, List, [], ◌∷◌, ℕ, append_assoc, length, length-append, length-drop, drop, take, codes, decimal, arith, refl, ap, sym, subst, Bool, true, false, ◌==◌, if◌then◌else◌, ◌∙◌, inl, inr}
use Rattle.std.proofs.lemmas.Bool.Decides.{leb_tells}
use Rattle.std.proofs.lemmas.Fmt.{length-decimal-le}
use Rattle.std.proofs.lemmas.List.{append-nil, length-take}
use Rattle.rtk_obs.specs.declared.any_code.AnyCode.{AnyCode}
use Rattle.rtk_obs.specs.declared.any_code.AnyCode.TheVariants.{G1C, G1P, G1W, G1S, G1L, G1X, G2C, G2D, G2P, G2W, G2S, G2L, G2X, G5I, G5Q, G5X, R1C, R1P, R2C, R2P, E1C, E1B, E1X, E6C, E6B, E6X, E7I, E7Q, E7X, E8I, E8Q, E8X, E5I, E5Q, E5X, C2I, C2Q, C2X, C6I, C6Q, C6X, C7I, C7Q, C7X, C5D, C5P, C5X, C7D, C1D, C1P, C1X, J1C, J6S, J6L, J6X, J2S, J2L, J2X, J5I, J5Q, J5X, J1S, J1L, J1X, S1C, S5I, S5Q, S5X, I5A}
use Rattle.rtk_obs.specs.AnyCode.{name_of}
use Rattle.rtk_rinex.specs.Columns.{left, right}
use Rattle.rtk_rinex.specs.Header.{header_line, types_label, continuation_line}
use Rattle.rtk_rinex.specs.MixedHeader.{three_types, four_types, types_count, types_text, types_lines_of, system_types_lines}
use Rattle.rtk_rinex.specs.Steps.MixedRoom.{types_line_count, all_types_room}
use Rattle.rtk_rinex.proofs.DigitsLemmas.{length-left, length-right}

-- seven texts after another
pub seven_texts : (o a b c d e f g : List ℕ) → ((((((o ++ a) ++ b) ++ c) ++ d) ++ e) ++ f) ++ g ≡ o ++ (a ++ (b ++ (c ++ (d ++ (e ++ (f ++ (g ++ [])))))))
seven_texts o a b c d e f g = simp (append_assoc, append-nil)

pub length-header_line : (content label : List ℕ) → length content ≤ 60 → length label ≤ 20 → length (header_line content label) ≡ 81
unfolding header_line
length-header_line content label h g =
    length-append (left 60 content ++ left 20 label) (10 ∷ []) ∙ omega (arith, length-append (left 60 content) (left 20 label), length-left 60 content h, length-left 20 label g)

continued-some : (text : List ℕ) (b : Bool) → length (if b then [] else header_line (codes "      " ++ take 52 text) types_label) ≤ 81
continued-some text true = omega arith
continued-some text false =
    let n = length-take 52 text in
    let long : length (codes "      " ++ take 52 text) ≤ 60 = omega (arith, n, length-append (codes "      ") (take 52 text)) in
    omega (arith, length-header_line (codes "      " ++ take 52 text) types_label long (omega arith))

continued-none : (text : List ℕ) → length text ≡ 0 → length (continuation_line text) ≡ 0
continued-none [] e = refl
continued-none (x ∷ text) e = absurd (omega arith)

-- what is left after k columns fills no line, or one
continued : (k : ℕ) (text : List ℕ) → (length text ≤ k → length (continuation_line (drop k text)) ≡ 0) × (length (continuation_line (drop k text)) ≤ 81)
continued k text = (λ short. continued-none (drop k text) (length-drop k text ∙ omega arith), continued-some (drop k text) (length (drop k text) == 0))

-- n codes have at most 64 types
pub few_types : (doppler : Bool) (n : ℕ) → n ≤ 16 → types_count doppler * n ≤ 64
few_types false n h = omega arith
few_types true n h = omega arith

three_of : (m : ℕ) → m ≤ 64 → length (right 3 (decimal m)) ≡ 3
three_of m h = length-right 3 (decimal m) (length-decimal-le 3 m (omega arith) (omega arith) (omega arith))

pub types_columns : (doppler : Bool) (n : ℕ) → n ≤ 16 → length (right 3 (decimal (types_count doppler * n))) ≡ 3
types_columns doppler n h = three_of (types_count doppler * n) (few_types doppler n h)

-- the lines that w columns of types fill
pub lines_of_columns : (doppler : Bool) (n w : ℕ) → w ≡ 4 * types_count doppler * n → types_line_count doppler n ≡ (w + 51) / 52
lines_of_columns false n w e = omega (arith, e)
lines_of_columns true n w e = omega (arith, e)

-- 1 to 16 codes have 12 to 256 columns
pub columns_range : (doppler : Bool) (n w : ℕ) → 1 ≤ n → n ≤ 16 → w ≡ 4 * types_count doppler * n → (12 ≤ w) × (w ≤ 256)
columns_range false n w some few e = (omega (arith, some, e), omega (arith, few, e))
columns_range true n w some few e = (omega (arith, some, e), omega (arith, few, e))

lines_room : (doppler : Bool) (l n : ℕ) (text : List ℕ) → 1 ≤ n → n ≤ 16 → length text ≡ 4 * types_count doppler * n → length (types_lines_of doppler l n text) ≤ 81 * types_line_count doppler n
lines_room doppler l n text some few size =
    let content : List ℕ = l ∷ codes "  " ++ right 3 (decimal (types_count doppler * n)) ++ take 52 text in
    let first : List ℕ = header_line content types_label in
    let a : List ℕ = continuation_line (drop 52 text) in
    let b : List ℕ = continuation_line (drop 104 text) in
    let d : List ℕ = continuation_line (drop 156 text) in
    let f : List ℕ = continuation_line (drop 208 text) in
    let long : length content ≤ 60 =
    let t = length-take 52 text in
    omega (arith, t, types_columns doppler n few, length-append (l ∷ codes "  " ++ right 3 (decimal (types_count doppler * n))) (take 52 text), length-append (l ∷ codes "  ") (right 3 (decimal (types_count doppler * n)))) in
    let one = length-header_line content types_label long (omega arith) in
    let two = continued 52 text in
    let more = continued 104 text in
    let most = continued 156 text in
    let last = continued 208 text in
    let whole = length-append (((first ++ a) ++ b) ++ d) f in
    let all = length-append ((first ++ a) ++ b) d in
    let front = length-append (first ++ a) b in
    let start = length-append first a in
    let count = lines_of_columns doppler n (length text) size in
    let range = columns_range doppler n (length text) some few size in
    elim (leb_tells (length text) 52) [
      | inl le ↦
          let m : types_line_count doppler n ≡ 1 = count ∙ omega (arith, range, le.1) in
          let x = two.0 le.1 in
          let y = more.0 (omega (arith, le.1)) in
          let z = most.0 (omega (arith, le.1)) in
          let w = last.0 (omega (arith, le.1)) in
          omega (arith, m, one, x, y, z, w, whole, all, front, start)
      | inr gt ↦ elim (leb_tells (length text) 104) [
        | inl le ↦
            let m : types_line_count doppler n ≡ 2 = count ∙ omega (arith, gt.1, le.1) in
            let y = more.0 le.1 in
            let z = most.0 (omega (arith, le.1)) in
            let w = last.0 (omega (arith, le.1)) in
            omega (arith, m, one, two.1, y, z, w, whole, all, front, start)
        | inr gt ↦ elim (leb_tells (length text) 156) [
          | inl le ↦
              let m : types_line_count doppler n ≡ 3 = count ∙ omega (arith, gt.1, le.1) in
              let z = most.0 le.1 in
              let w = last.0 (omega (arith, le.1)) in
              omega (arith, m, one, two.1, more.1, z, w, whole, all, front, start)
          | inr gt ↦ elim (leb_tells (length text) 208) [
            | inl le ↦
                let m : types_line_count doppler n ≡ 4 = count ∙ omega (arith, gt.1, le.1) in
                let w = last.0 le.1 in
                omega (arith, m, one, two.1, more.1, most.1, w, whole, all, front, start)
            | inr gt ↦
                let m : types_line_count doppler n ≡ 5 = count ∙ omega (arith, gt.1, range) in
                omega (arith, m, one, two.1, more.1, most.1, last.1, whole, all, front, start)
          ]
        ]
      ]
    ]

-- the lines of one system, and of all
pub one_room : (doppler : Bool) (n : ℕ) → n ≤ 16 → types_line_count doppler n ≤ 5
one_room false n h = omega arith
one_room true n h = omega arith

pub more_lines : (doppler : Bool) (n m : ℕ) → n ≤ m → types_line_count doppler n ≤ types_line_count doppler m
more_lines false n m h = omega arith
more_lines true n m h = omega arith

pub some_line : (doppler : Bool) (n : ℕ) → 1 ≤ n → 1 ≤ types_line_count doppler n
some_line false n h = omega arith
some_line true n h = omega arith

most_rooms : (doppler : Bool)
    → 81 * types_line_count doppler 16 + 81 * types_line_count doppler 4 + 81 * types_line_count doppler 15 + 81 * types_line_count doppler 16
    + 81 * types_line_count doppler 13 + 81 * types_line_count doppler 4 + 81 * types_line_count doppler 1 ≤ all_types_room doppler
most_rooms false = omega arith
most_rooms true = omega arith

pub seven_rooms : (doppler : Bool) (g r e b j s i : ℕ) → g ≤ 16 → r ≤ 4 → e ≤ 15 → b ≤ 16 → j ≤ 13 → s ≤ 4 → i ≤ 1
    → 81 * types_line_count doppler g + 81 * types_line_count doppler r + 81 * types_line_count doppler e + 81 * types_line_count doppler b
    + 81 * types_line_count doppler j + 81 * types_line_count doppler s + 81 * types_line_count doppler i ≤ all_types_room doppler
seven_rooms doppler g r e b j s i p q t u v w x =
    let m = most_rooms doppler in
    let a = more_lines doppler g 16 p in
    let c = more_lines doppler r 4 q in
    let d = more_lines doppler e 15 t in
    let f = more_lines doppler b 16 u in
    let h = more_lines doppler j 13 v in
    let k = more_lines doppler s 4 w in
    let l = more_lines doppler i 1 x in
    omega (arith, m, a, c, d, f, h, k, l)

pub whole_room : (doppler : Bool) → 2025 + all_types_room doppler ≡ (if doppler then 3969 else 3483)
whole_room false = refl
whole_room true = refl

pub all_room : (doppler : Bool) → all_types_room doppler ≤ 1944
all_room false = omega arith
all_room true = omega arith

-- a name has two characters
pub length-name : (c : AnyCode) → length (name_of c) ≡ 2
length-name G1C = refl
length-name G1P = refl
length-name G1W = refl
length-name G1S = refl
length-name G1L = refl
length-name G1X = refl
length-name G2C = refl
length-name G2D = refl
length-name G2P = refl
length-name G2W = refl
length-name G2S = refl
length-name G2L = refl
length-name G2X = refl
length-name G5I = refl
length-name G5Q = refl
length-name G5X = refl
length-name R1C = refl
length-name R1P = refl
length-name R2C = refl
length-name R2P = refl
length-name E1C = refl
length-name E1B = refl
length-name E1X = refl
length-name E6C = refl
length-name E6B = refl
length-name E6X = refl
length-name E7I = refl
length-name E7Q = refl
length-name E7X = refl
length-name E8I = refl
length-name E8Q = refl
length-name E8X = refl
length-name E5I = refl
length-name E5Q = refl
length-name E5X = refl
length-name C2I = refl
length-name C2Q = refl
length-name C2X = refl
length-name C6I = refl
length-name C6Q = refl
length-name C6X = refl
length-name C7I = refl
length-name C7Q = refl
length-name C7X = refl
length-name C5D = refl
length-name C5P = refl
length-name C5X = refl
length-name C7D = refl
length-name C1D = refl
length-name C1P = refl
length-name C1X = refl
length-name J1C = refl
length-name J6S = refl
length-name J6L = refl
length-name J6X = refl
length-name J2S = refl
length-name J2L = refl
length-name J2X = refl
length-name J5I = refl
length-name J5Q = refl
length-name J5X = refl
length-name J1S = refl
length-name J1L = refl
length-name J1X = refl
length-name S1C = refl
length-name S5I = refl
length-name S5Q = refl
length-name S5X = refl
length-name I5A = refl

length-three_types : (c : AnyCode) → length (three_types c) ≡ 12
length-three_types c = simp length-append (omega (arith, length-name c))

length-four_types : (c : AnyCode) → length (four_types c) ≡ 16
length-four_types c = simp length-append (omega (arith, length-name c))

pub length-types_text : (doppler : Bool) (cs : List AnyCode) → length (types_text doppler cs) ≡ 4 * types_count doppler * length cs
length-types_text false [] = refl
length-types_text true [] = refl
length-types_text false (c ∷ cs) = length-append (three_types c) (types_text false cs) ∙ omega (arith, length-three_types c, length-types_text false cs)
length-types_text true (c ∷ cs) = length-append (four_types c) (types_text true cs) ∙ omega (arith, length-four_types c, length-types_text true cs)

columns_fit : (doppler : Bool) (i : ℕ) → i < 16 → 4 * types_count doppler * i + 16 ≤ 256
columns_fit false i h = omega arith
columns_fit true i h = omega arith

-- the types of the first codes leave room for those of one more
pub room_for_types : (doppler : Bool) (i : ℕ) (cs : List AnyCode) → i < length cs → length cs ≤ 16 → length (types_text doppler (take i cs)) + 16 ≤ 256
room_for_types doppler i cs lt few =
    let n = length-take i cs in
    let first : length (take i cs) ≡ i = omega (arith, n, lt) in
    let size : length (types_text doppler (take i cs)) ≡ 4 * types_count doppler * i = length-types_text doppler (take i cs) ∙ ap (λ (k : ℕ). 4 * types_count doppler * k) first in
    subst (λ (m : ℕ). m + 16 ≤ 256) (sym size) (columns_fit doppler i (omega (arith, lt, few)))

pub types_lines-some : (doppler : Bool) (l : ℕ) (cs : List AnyCode) → 0 < length cs → system_types_lines doppler l cs ≡ types_lines_of doppler l (length cs) (types_text doppler cs)
types_lines-some doppler l [] h = absurd (omega arith)
types_lines-some doppler l (c ∷ cs) h = refl

pub types_room : (doppler : Bool) (l : ℕ) (cs : List AnyCode) → length cs ≤ 16 → length (system_types_lines doppler l cs) ≤ 81 * types_line_count doppler (length cs)
types_room doppler l [] h = omega arith
types_room doppler l (c ∷ cs) h = lines_room doppler l (length (c ∷ cs)) (types_text doppler (c ∷ cs)) (omega arith) h (length-types_text doppler (c ∷ cs))

-- the parts of a header one after another
pub mixed-in_row : (v m k a b c d p q t u f s g z : List ℕ)
    → (((((((((((((v ++ m) ++ k) ++ a) ++ b) ++ c) ++ d) ++ p) ++ q) ++ t) ++ u) ++ f) ++ s) ++ g) ++ z
    ≡ (((((((((v ++ m) ++ k) ++ (((a ++ b) ++ c) ++ d)) ++ (p ++ q)) ++ t) ++ u) ++ f) ++ s) ++ g) ++ z
mixed-in_row v m k a b c d p q t u f s g z = simp append_assoc
