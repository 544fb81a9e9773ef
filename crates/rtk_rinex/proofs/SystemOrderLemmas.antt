-- Codes in their order are the codes of one system after those of another.
use Rattle.std.proofs.Common.{◌≡◌, ◌≢◌, ℕ, ◌+◌, ◌<◌, ◌≤◌, List, [], ◌∷◌, ◌++◌, length, drop, get_or, arith, refl, sym, ◌∙◌, ap, subst, length-append, Bool, true, false, ◌==◌, ◌&&◌, not, if◌then◌else◌, AllPairs}
use Rattle.std.specs.Prelude.{All}
use Rattle.std.specs.List.{list_all}
use Rattle.std.proofs.lemmas.Bool.{eqb-true}
use Rattle.std.proofs.lemmas.Bool.Decides.{Decides-eqb, nat_tests}
use Rattle.std.proofs.Math.ListN.{get_or-append}
use Rattle.std.proofs.lemmas.List.{append-nil}
use Rattle.std.proofs.lemmas.List.Elements.{All-nil, All-cons, All-head, All-tail, All-append, filter-append}
use Rattle.std.proofs.lemmas.List.Kept.{AllPairs-cons}
use Rattle.rtk_message.specs.declared.system.System.{System}
use Rattle.rtk_message.specs.declared.system.System.TheVariants.{Gps, Glonass, Galileo, Beidou, Qzss, Sbas, Navic}
use Rattle.rtk_obs.specs.declared.any_code.AnyCode.{AnyCode}
use Rattle.rtk_obs.specs.declared.any_code.AnyCode.TheVariants.{G1C}
use Rattle.rtk_obs.specs.AnyCode.{system_of, codes_before}
use Rattle.rtk_obs.specs.SatelliteIndex.{letter_of}
use Rattle.rtk_rinex.specs.MixedHead.{letter, AreInOrder}
use Rattle.rtk_rinex.specs.MixedHeader.{version_letter, codes_of}
use Rattle.rtk_rinex.specs.Steps.MixedRoom.{IsSystemLetter, codes_before_letter}
use Rattle.rtk_rinex.specs.Steps.MixedHeaderRead.{ShowsGroup, ReadsSystem, is_due}
use Rattle.rtk_rinex.proofs.GroupLemmas.{own_codes}
use Rattle.rtk_rinex.proofs.MixedCodesLemmas.{by_letter}
use Rattle.rtk_rinex.proofs.MixedListLemmas.{letter_of_all, letter_of_some}
use Rattle.rtk_rinex.proofs.OneLemmas.{pairs-head, pairs-tail}

-- ---- tests

pub unlike_test : (a b : ℕ) → a ≢ b → (a == b) ≡ false
unlike_test a b h = grind (arith, nat_tests)

pub like_test : (a b : ℕ) → a ≡ b → (a == b) ≡ true
like_test a b e = (Decides-eqb a b).1 e

pub test_like : (a b : ℕ) → (a == b) ≡ true → a ≡ b
test_like a b e = eqb-true a b e

pub test_unlike : (a b : ℕ) → (a == b) ≡ false → a ≢ b
test_unlike a b e same = absurd (let t = like_test a b same in cc)

pub not_true : (b : Bool) → b ≡ true → not b ≡ false
not_true true e = refl
not_true false e = absurd (cc)

-- ---- the letter of a file

pub and_parts : (a b : Bool) → (a && b) ≡ true → (a ≡ true) × (b ≡ true)
and_parts true b e = (refl, e)
and_parts false b e = absurd (cc)

pub and_false : (a b : Bool) → b ≡ false → (a && b) ≡ false
and_false true b e = e
and_false false b e = refl

pub all_like : (x : ℕ) (cs : List AnyCode) → list_all (λ d. letter d == x) cs ≡ true → All (λ d. letter d ≡ x) cs
all_like x [] e = All-nil (λ d. letter d ≡ x)
all_like x (c ∷ cs) e =
    let p = and_parts (letter c == x) (list_all (λ d. letter d == x) cs) e in
    All-cons (λ d. letter d ≡ x) c cs (test_like (letter c) x p.0) (all_like x cs p.1)

pub like_all : (x : ℕ) (cs : List AnyCode) → All (λ d. letter d ≡ x) cs → list_all (λ d. letter d == x) cs ≡ true
like_all x [] h = refl
like_all x (c ∷ cs) h =
    let one = like_test (letter c) x (All-head (λ d. letter d ≡ x) c cs h) in
    let rest = like_all x cs (All-tail (λ d. letter d ≡ x) c cs h) in
    rw (one, rest) refl

pub version_if : (b : Bool) (c : AnyCode) (cs : List AnyCode) (l : ℕ) → list_all (λ d. letter d == letter c) cs ≡ b → (if b then letter c else 77) ≡ l → l ≢ 77 → All (λ d. letter d ≡ l) (c ∷ cs)
version_if false c cs l e f h = absurd (h (sym f))
version_if true c cs l e f h =
    All-cons (λ d. letter d ≡ l) c cs f (subst (λ (x : ℕ). All (λ d. letter d ≡ x) cs) f (all_like (letter c) cs e))

pub version_own : (l : ℕ) (cs : List AnyCode) → 0 < length cs → version_letter cs ≡ l → l ≢ 77 → All (λ d. letter d ≡ l) cs
version_own l [] some e h = absurd (omega arith)
version_own l (c ∷ cs) some e h = version_if (list_all (λ d. letter d == letter c) cs) c cs l refl e h

pub own_version : (l : ℕ) (cs : List AnyCode) → 0 < length cs → All (λ d. letter d ≡ l) cs → version_letter cs ≡ l
own_version l cs some h =
    let first = h 0 G1C some in
    letter_of_all cs G1C some (ap (λ (x : ℕ). list_all (λ d. letter d == x) cs) first ∙ like_all l cs h) ∙ first

pub not_all : (x : ℕ) (xs ys : List AnyCode) → list_all (λ d. letter d == x) ys ≡ false → list_all (λ d. letter d == x) (xs ++ ys) ≡ false
not_all x [] ys e = e
not_all x (c ∷ xs) ys e = and_false (letter c == x) (list_all (λ d. letter d == x) (xs ++ ys)) (not_all x xs ys e)

pub not_own : (x l : ℕ) (cs : List AnyCode) → 0 < length cs → All (λ d. letter d ≡ l) cs → x ≢ l → list_all (λ d. letter d == x) cs ≡ false
not_own x l [] some h other = absurd (omega arith)
not_own x l (c ∷ cs) some h other =
    let e = unlike_test (letter c) x (λ z. other (sym z ∙ All-head (λ d. letter d ≡ l) c cs h)) in
    rw e refl

pub mixed_version : (l : ℕ) (xs ys : List AnyCode) → 0 < length xs → All (λ d. letter d ≢ l) xs → 0 < length ys → All (λ d. letter d ≡ l) ys → version_letter (xs ++ ys) ≡ 77
mixed_version l xs ys some other more own =
    let n = length-append xs ys in
    let first : letter (get_or (xs ++ ys) 0 G1C) ≢ l = λ e. other 0 G1C some (ap letter (sym (get_or-append xs ys G1C 0 some)) ∙ e) in
    letter_of_some (xs ++ ys) G1C (omega (arith, n, some)) (not_all (letter (get_or (xs ++ ys) 0 G1C)) xs ys (not_own (letter (get_or (xs ++ ys) 0 G1C)) l ys more own first))

-- ---- a list is the codes of its systems

pub before_is : (s : System) → codes_before s ≡ codes_before_letter (letter_of s)
before_is Gps = refl
before_is Glonass = refl
before_is Galileo = refl
before_is Beidou = refl
before_is Qzss = refl
before_is Sbas = refl
before_is Navic = refl

pub letter_is : (s : System) → IsSystemLetter (letter_of s)
letter_is Gps = (0, omega arith, refl)
letter_is Glonass = (1, omega arith, refl)
letter_is Galileo = (2, omega arith, refl)
letter_is Beidou = (3, omega arith, refl)
letter_is Qzss = (4, omega arith, refl)
letter_is Sbas = (5, omega arith, refl)
letter_is Navic = (6, omega arith, refl)

pub before_letter : (c : AnyCode) (l : ℕ) → letter c ≡ l → codes_before (system_of c) ≡ codes_before_letter l
before_letter c l e = before_is (system_of c) ∙ ap codes_before_letter e

pub left_if : (b : Bool) (c : AnyCode) (xs : List AnyCode) → b ≡ false → (if b then c ∷ xs else xs) ≡ xs
left_if false c xs e = refl
left_if true c xs e = absurd (cc)

pub kept_if : (b : Bool) (c : AnyCode) (xs : List AnyCode) → b ≡ true → (if b then c ∷ xs else xs) ≡ c ∷ xs
kept_if true c xs e = refl
kept_if false c xs e = absurd (cc)

pub codes_same : (l : ℕ) (c : AnyCode) (cs : List AnyCode) → letter c ≢ l → codes_of l (c ∷ cs) ≡ codes_of l cs
codes_same l c cs h = left_if (letter c == l) c (codes_of l cs) (unlike_test (letter c) l h)

pub codes_more : (l : ℕ) (c : AnyCode) (cs : List AnyCode) → letter c ≡ l → codes_of l (c ∷ cs) ≡ c ∷ codes_of l cs
codes_more l c cs h = kept_if (letter c == l) c (codes_of l cs) (like_test (letter c) l h)

pub none_before : (l : ℕ) (c : AnyCode) (cs : List AnyCode) → All (AreInOrder c) cs → codes_before_letter l < codes_before (system_of c) → codes_of l cs ≡ []
none_before l c [] h lt = refl
none_before l c (d ∷ cs) h lt =
    let first = All-head (AreInOrder c) d cs h in
    let later = first.systems in
    let other : letter d ≢ l = λ e. let b = before_letter d l e in omega (arith, b, later, lt) in
    codes_same l d cs other ∙ none_before l c cs (All-tail (AreInOrder c) d cs h) lt

abbrev pub seven : List AnyCode → List AnyCode → List AnyCode → List AnyCode → List AnyCode → List AnyCode → List AnyCode → List AnyCode
seven a b c d e f g = (((((a ++ b) ++ c) ++ d) ++ e) ++ f) ++ g

pub put_1 : (c : AnyCode) (cs x1 x2 x3 x4 x5 x6 x7 y1 y2 y3 y4 y5 y6 y7 : List AnyCode) → x1 ≡ c ∷ y1 → x2 ≡ y2 → x3 ≡ y3 → x4 ≡ y4 → x5 ≡ y5 → x6 ≡ y6 → x7 ≡ y7 → cs ≡ seven y1 y2 y3 y4 y5 y6 y7 → c ∷ cs ≡ seven x1 x2 x3 x4 x5 x6 x7
put_1 c cs x1 x2 x3 x4 x5 x6 x7 y1 y2 y3 y4 y5 y6 y7 e1 e2 e3 e4 e5 e6 e7 whole =
    rw (e1, e2, e3, e4, e5, e6, e7) (ap (λ (l : List AnyCode). c ∷ l) whole)

pub put_2 : (c : AnyCode) (cs x1 x2 x3 x4 x5 x6 x7 y1 y2 y3 y4 y5 y6 y7 : List AnyCode) → x1 ≡ y1 → x2 ≡ c ∷ y2 → x3 ≡ y3 → x4 ≡ y4 → x5 ≡ y5 → x6 ≡ y6 → x7 ≡ y7 → y1 ≡ [] → cs ≡ seven y1 y2 y3 y4 y5 y6 y7 → c ∷ cs ≡ seven x1 x2 x3 x4 x5 x6 x7
put_2 c cs x1 x2 x3 x4 x5 x6 x7 y1 y2 y3 y4 y5 y6 y7 e1 e2 e3 e4 e5 e6 e7 n1 whole =
    let left = rw (n1) at whole in
    rw (e1, e2, e3, e4, e5, e6, e7, n1) (ap (λ (l : List AnyCode). c ∷ l) left)

pub put_3 : (c : AnyCode) (cs x1 x2 x3 x4 x5 x6 x7 y1 y2 y3 y4 y5 y6 y7 : List AnyCode) → x1 ≡ y1 → x2 ≡ y2 → x3 ≡ c ∷ y3 → x4 ≡ y4 → x5 ≡ y5 → x6 ≡ y6 → x7 ≡ y7 → y1 ≡ [] → y2 ≡ [] → cs ≡ seven y1 y2 y3 y4 y5 y6 y7 → c ∷ cs ≡ seven x1 x2 x3 x4 x5 x6 x7
put_3 c cs x1 x2 x3 x4 x5 x6 x7 y1 y2 y3 y4 y5 y6 y7 e1 e2 e3 e4 e5 e6 e7 n1 n2 whole =
    let left = rw (n1, n2) at whole in
    rw (e1, e2, e3, e4, e5, e6, e7, n1, n2) (ap (λ (l : List AnyCode). c ∷ l) left)

pub put_4 : (c : AnyCode) (cs x1 x2 x3 x4 x5 x6 x7 y1 y2 y3 y4 y5 y6 y7 : List AnyCode) → x1 ≡ y1 → x2 ≡ y2 → x3 ≡ y3 → x4 ≡ c ∷ y4 → x5 ≡ y5 → x6 ≡ y6 → x7 ≡ y7 → y1 ≡ [] → y2 ≡ [] → y3 ≡ [] → cs ≡ seven y1 y2 y3 y4 y5 y6 y7 → c ∷ cs ≡ seven x1 x2 x3 x4 x5 x6 x7
put_4 c cs x1 x2 x3 x4 x5 x6 x7 y1 y2 y3 y4 y5 y6 y7 e1 e2 e3 e4 e5 e6 e7 n1 n2 n3 whole =
    let left = rw (n1, n2, n3) at whole in
    rw (e1, e2, e3, e4, e5, e6, e7, n1, n2, n3) (ap (λ (l : List AnyCode). c ∷ l) left)

pub put_5 : (c : AnyCode) (cs x1 x2 x3 x4 x5 x6 x7 y1 y2 y3 y4 y5 y6 y7 : List AnyCode) → x1 ≡ y1 → x2 ≡ y2 → x3 ≡ y3 → x4 ≡ y4 → x5 ≡ c ∷ y5 → x6 ≡ y6 → x7 ≡ y7 → y1 ≡ [] → y2 ≡ [] → y3 ≡ [] → y4 ≡ [] → cs ≡ seven y1 y2 y3 y4 y5 y6 y7 → c ∷ cs ≡ seven x1 x2 x3 x4 x5 x6 x7
put_5 c cs x1 x2 x3 x4 x5 x6 x7 y1 y2 y3 y4 y5 y6 y7 e1 e2 e3 e4 e5 e6 e7 n1 n2 n3 n4 whole =
    let left = rw (n1, n2, n3, n4) at whole in
    rw (e1, e2, e3, e4, e5, e6, e7, n1, n2, n3, n4) (ap (λ (l : List AnyCode). c ∷ l) left)

pub put_6 : (c : AnyCode) (cs x1 x2 x3 x4 x5 x6 x7 y1 y2 y3 y4 y5 y6 y7 : List AnyCode) → x1 ≡ y1 → x2 ≡ y2 → x3 ≡ y3 → x4 ≡ y4 → x5 ≡ y5 → x6 ≡ c ∷ y6 → x7 ≡ y7 → y1 ≡ [] → y2 ≡ [] → y3 ≡ [] → y4 ≡ [] → y5 ≡ [] → cs ≡ seven y1 y2 y3 y4 y5 y6 y7 → c ∷ cs ≡ seven x1 x2 x3 x4 x5 x6 x7
put_6 c cs x1 x2 x3 x4 x5 x6 x7 y1 y2 y3 y4 y5 y6 y7 e1 e2 e3 e4 e5 e6 e7 n1 n2 n3 n4 n5 whole =
    let left = rw (n1, n2, n3, n4, n5) at whole in
    rw (e1, e2, e3, e4, e5, e6, e7, n1, n2, n3, n4, n5) (ap (λ (l : List AnyCode). c ∷ l) left)

pub put_7 : (c : AnyCode) (cs x1 x2 x3 x4 x5 x6 x7 y1 y2 y3 y4 y5 y6 y7 : List AnyCode) → x1 ≡ y1 → x2 ≡ y2 → x3 ≡ y3 → x4 ≡ y4 → x5 ≡ y5 → x6 ≡ y6 → x7 ≡ c ∷ y7 → y1 ≡ [] → y2 ≡ [] → y3 ≡ [] → y4 ≡ [] → y5 ≡ [] → y6 ≡ [] → cs ≡ seven y1 y2 y3 y4 y5 y6 y7 → c ∷ cs ≡ seven x1 x2 x3 x4 x5 x6 x7
put_7 c cs x1 x2 x3 x4 x5 x6 x7 y1 y2 y3 y4 y5 y6 y7 e1 e2 e3 e4 e5 e6 e7 n1 n2 n3 n4 n5 n6 whole =
    let left = rw (n1, n2, n3, n4, n5, n6) at whole in
    rw (e1, e2, e3, e4, e5, e6, e7, n1, n2, n3, n4, n5, n6) (ap (λ (l : List AnyCode). c ∷ l) left)

abbrev pub groups_of : List AnyCode → List AnyCode
groups_of cs = seven (codes_of 71 cs) (codes_of 82 cs) (codes_of 69 cs) (codes_of 67 cs) (codes_of 74 cs) (codes_of 83 cs) (codes_of 73 cs)

pub first_1 : (c : AnyCode) (cs : List AnyCode) → All (AreInOrder c) cs → cs ≡ groups_of cs → letter c ≡ 71 → c ∷ cs ≡ groups_of (c ∷ cs)
first_1 c cs order whole e =
    let b = before_letter c 71 e in
    put_1 c cs (codes_of 71 (c ∷ cs)) (codes_of 82 (c ∷ cs)) (codes_of 69 (c ∷ cs)) (codes_of 67 (c ∷ cs)) (codes_of 74 (c ∷ cs)) (codes_of 83 (c ∷ cs)) (codes_of 73 (c ∷ cs)) (codes_of 71 cs) (codes_of 82 cs) (codes_of 69 cs) (codes_of 67 cs) (codes_of 74 cs) (codes_of 83 cs) (codes_of 73 cs)
    (codes_more 71 c cs e) (codes_same 82 c cs (λ z. omega (arith, e, z))) (codes_same 69 c cs (λ z. omega (arith, e, z))) (codes_same 67 c cs (λ z. omega (arith, e, z))) (codes_same 74 c cs (λ z. omega (arith, e, z))) (codes_same 83 c cs (λ z. omega (arith, e, z))) (codes_same 73 c cs (λ z. omega (arith, e, z)))
    whole

pub first_2 : (c : AnyCode) (cs : List AnyCode) → All (AreInOrder c) cs → cs ≡ groups_of cs → letter c ≡ 82 → c ∷ cs ≡ groups_of (c ∷ cs)
first_2 c cs order whole e =
    let b = before_letter c 82 e in
    put_2 c cs (codes_of 71 (c ∷ cs)) (codes_of 82 (c ∷ cs)) (codes_of 69 (c ∷ cs)) (codes_of 67 (c ∷ cs)) (codes_of 74 (c ∷ cs)) (codes_of 83 (c ∷ cs)) (codes_of 73 (c ∷ cs)) (codes_of 71 cs) (codes_of 82 cs) (codes_of 69 cs) (codes_of 67 cs) (codes_of 74 cs) (codes_of 83 cs) (codes_of 73 cs)
    (codes_same 71 c cs (λ z. omega (arith, e, z))) (codes_more 82 c cs e) (codes_same 69 c cs (λ z. omega (arith, e, z))) (codes_same 67 c cs (λ z. omega (arith, e, z))) (codes_same 74 c cs (λ z. omega (arith, e, z))) (codes_same 83 c cs (λ z. omega (arith, e, z))) (codes_same 73 c cs (λ z. omega (arith, e, z)))
    (none_before 71 c cs order (omega (arith, b))) whole

pub first_3 : (c : AnyCode) (cs : List AnyCode) → All (AreInOrder c) cs → cs ≡ groups_of cs → letter c ≡ 69 → c ∷ cs ≡ groups_of (c ∷ cs)
first_3 c cs order whole e =
    let b = before_letter c 69 e in
    put_3 c cs (codes_of 71 (c ∷ cs)) (codes_of 82 (c ∷ cs)) (codes_of 69 (c ∷ cs)) (codes_of 67 (c ∷ cs)) (codes_of 74 (c ∷ cs)) (codes_of 83 (c ∷ cs)) (codes_of 73 (c ∷ cs)) (codes_of 71 cs) (codes_of 82 cs) (codes_of 69 cs) (codes_of 67 cs) (codes_of 74 cs) (codes_of 83 cs) (codes_of 73 cs)
    (codes_same 71 c cs (λ z. omega (arith, e, z))) (codes_same 82 c cs (λ z. omega (arith, e, z))) (codes_more 69 c cs e) (codes_same 67 c cs (λ z. omega (arith, e, z))) (codes_same 74 c cs (λ z. omega (arith, e, z))) (codes_same 83 c cs (λ z. omega (arith, e, z))) (codes_same 73 c cs (λ z. omega (arith, e, z)))
    (none_before 71 c cs order (omega (arith, b))) (none_before 82 c cs order (omega (arith, b))) whole

pub first_4 : (c : AnyCode) (cs : List AnyCode) → All (AreInOrder c) cs → cs ≡ groups_of cs → letter c ≡ 67 → c ∷ cs ≡ groups_of (c ∷ cs)
first_4 c cs order whole e =
    let b = before_letter c 67 e in
    put_4 c cs (codes_of 71 (c ∷ cs)) (codes_of 82 (c ∷ cs)) (codes_of 69 (c ∷ cs)) (codes_of 67 (c ∷ cs)) (codes_of 74 (c ∷ cs)) (codes_of 83 (c ∷ cs)) (codes_of 73 (c ∷ cs)) (codes_of 71 cs) (codes_of 82 cs) (codes_of 69 cs) (codes_of 67 cs) (codes_of 74 cs) (codes_of 83 cs) (codes_of 73 cs)
    (codes_same 71 c cs (λ z. omega (arith, e, z))) (codes_same 82 c cs (λ z. omega (arith, e, z))) (codes_same 69 c cs (λ z. omega (arith, e, z))) (codes_more 67 c cs e) (codes_same 74 c cs (λ z. omega (arith, e, z))) (codes_same 83 c cs (λ z. omega (arith, e, z))) (codes_same 73 c cs (λ z. omega (arith, e, z)))
    (none_before 71 c cs order (omega (arith, b))) (none_before 82 c cs order (omega (arith, b))) (none_before 69 c cs order (omega (arith, b))) whole

pub first_5 : (c : AnyCode) (cs : List AnyCode) → All (AreInOrder c) cs → cs ≡ groups_of cs → letter c ≡ 74 → c ∷ cs ≡ groups_of (c ∷ cs)
first_5 c cs order whole e =
    let b = before_letter c 74 e in
    put_5 c cs (codes_of 71 (c ∷ cs)) (codes_of 82 (c ∷ cs)) (codes_of 69 (c ∷ cs)) (codes_of 67 (c ∷ cs)) (codes_of 74 (c ∷ cs)) (codes_of 83 (c ∷ cs)) (codes_of 73 (c ∷ cs)) (codes_of 71 cs) (codes_of 82 cs) (codes_of 69 cs) (codes_of 67 cs) (codes_of 74 cs) (codes_of 83 cs) (codes_of 73 cs)
    (codes_same 71 c cs (λ z. omega (arith, e, z))) (codes_same 82 c cs (λ z. omega (arith, e, z))) (codes_same 69 c cs (λ z. omega (arith, e, z))) (codes_same 67 c cs (λ z. omega (arith, e, z))) (codes_more 74 c cs e) (codes_same 83 c cs (λ z. omega (arith, e, z))) (codes_same 73 c cs (λ z. omega (arith, e, z)))
    (none_before 71 c cs order (omega (arith, b))) (none_before 82 c cs order (omega (arith, b))) (none_before 69 c cs order (omega (arith, b))) (none_before 67 c cs order (omega (arith, b))) whole

pub first_6 : (c : AnyCode) (cs : List AnyCode) → All (AreInOrder c) cs → cs ≡ groups_of cs → letter c ≡ 83 → c ∷ cs ≡ groups_of (c ∷ cs)
first_6 c cs order whole e =
    let b = before_letter c 83 e in
    put_6 c cs (codes_of 71 (c ∷ cs)) (codes_of 82 (c ∷ cs)) (codes_of 69 (c ∷ cs)) (codes_of 67 (c ∷ cs)) (codes_of 74 (c ∷ cs)) (codes_of 83 (c ∷ cs)) (codes_of 73 (c ∷ cs)) (codes_of 71 cs) (codes_of 82 cs) (codes_of 69 cs) (codes_of 67 cs) (codes_of 74 cs) (codes_of 83 cs) (codes_of 73 cs)
    (codes_same 71 c cs (λ z. omega (arith, e, z))) (codes_same 82 c cs (λ z. omega (arith, e, z))) (codes_same 69 c cs (λ z. omega (arith, e, z))) (codes_same 67 c cs (λ z. omega (arith, e, z))) (codes_same 74 c cs (λ z. omega (arith, e, z))) (codes_more 83 c cs e) (codes_same 73 c cs (λ z. omega (arith, e, z)))
    (none_before 71 c cs order (omega (arith, b))) (none_before 82 c cs order (omega (arith, b))) (none_before 69 c cs order (omega (arith, b))) (none_before 67 c cs order (omega (arith, b))) (none_before 74 c cs order (omega (arith, b))) whole

pub first_7 : (c : AnyCode) (cs : List AnyCode) → All (AreInOrder c) cs → cs ≡ groups_of cs → letter c ≡ 73 → c ∷ cs ≡ groups_of (c ∷ cs)
first_7 c cs order whole e =
    let b = before_letter c 73 e in
    put_7 c cs (codes_of 71 (c ∷ cs)) (codes_of 82 (c ∷ cs)) (codes_of 69 (c ∷ cs)) (codes_of 67 (c ∷ cs)) (codes_of 74 (c ∷ cs)) (codes_of 83 (c ∷ cs)) (codes_of 73 (c ∷ cs)) (codes_of 71 cs) (codes_of 82 cs) (codes_of 69 cs) (codes_of 67 cs) (codes_of 74 cs) (codes_of 83 cs) (codes_of 73 cs)
    (codes_same 71 c cs (λ z. omega (arith, e, z))) (codes_same 82 c cs (λ z. omega (arith, e, z))) (codes_same 69 c cs (λ z. omega (arith, e, z))) (codes_same 67 c cs (λ z. omega (arith, e, z))) (codes_same 74 c cs (λ z. omega (arith, e, z))) (codes_same 83 c cs (λ z. omega (arith, e, z))) (codes_more 73 c cs e)
    (none_before 71 c cs order (omega (arith, b))) (none_before 82 c cs order (omega (arith, b))) (none_before 69 c cs order (omega (arith, b))) (none_before 67 c cs order (omega (arith, b))) (none_before 74 c cs order (omega (arith, b))) (none_before 83 c cs order (omega (arith, b))) whole

pub in_groups : (cs : List AnyCode) → AllPairs AreInOrder cs → cs ≡ groups_of cs
in_groups [] h = refl
in_groups (c ∷ cs) h =
    let order = pairs-head AreInOrder c cs h in
    let whole = in_groups cs (pairs-tail AreInOrder c cs h) in
    by_letter (λ l. letter c ≡ l → c ∷ cs ≡ groups_of (c ∷ cs)) (letter c) (letter_is (system_of c))
    (first_1 c cs order whole) (first_2 c cs order whole) (first_3 c cs order whole) (first_4 c cs order whole) (first_5 c cs order whole) (first_6 c cs order whole) (first_7 c cs order whole) refl

-- ---- lists made of groups

-- codes of one system, no two alike
pub record Part (s : ℕ) (g : List AnyCode) : Type 0 where
  pub own : All (λ c. letter c ≡ s) g
  pub distinct : AllPairs (λ c d. c ≢ d) g

pub no_pairs : AllPairs {X = AnyCode} (λ c d. c ≢ d) []
no_pairs i j d lt within e = omega (arith, lt, within)

pub part_none : (s : ℕ) (g : List AnyCode) → g ≡ [] → Part s g
part_none s g e = subst (λ (x : List AnyCode). Part s x) (sym e) (record { own = All-nil (λ c. letter c ≡ s); distinct = no_pairs })

pub part_if : (doppler : Bool) (text : List ℕ) (s : ℕ) (g : List AnyCode) (b due : Bool) → due ≡ b → (due ≡ true → ShowsGroup doppler s text g) → (due ≡ false → g ≡ []) → Part s g
part_if doppler text s g true due e f h = let shown = f e in record { own = shown.group.own; distinct = shown.group.distinct }
part_if doppler text s g false due e f h = part_none s g (h e)

pub part_of : (doppler : Bool) (text : List ℕ) (file s : ℕ) (old new : List AnyCode) (out written : List ℕ) → (r : ReadsSystem doppler text file s old new out written) → Part s r.codes
part_of doppler text file s old new out written r = part_if doppler (drop (length out) text) s r.codes (is_due file s old r.begins) (is_due file s old r.begins) refl r.due r.none

-- codes in order, of systems with fewer codes before them than n
pub record Ordered (n : ℕ) (cs : List AnyCode) : Type 0 where
  pub before : All (λ c. codes_before (system_of c) < n) cs
  pub order : AllPairs AreInOrder cs

pub ordered_none : Ordered 0 []
ordered_none = record { before = All-nil (λ c. codes_before (system_of c) < 0); order = λ i j d lt within. absurd (omega (arith, lt, within)) }

pub pairs_append : (xs ys : List AnyCode) → AllPairs AreInOrder xs → AllPairs AreInOrder ys → All (λ c. All (AreInOrder c) ys) xs → AllPairs AreInOrder (xs ++ ys)
pairs_append [] ys h g f = g
pairs_append (c ∷ xs) ys h g f =
    AllPairs-cons AreInOrder c (xs ++ ys)
    (All-append (AreInOrder c) xs ys (pairs-head AreInOrder c xs h) (All-head (λ d. All (AreInOrder d) ys) c xs f))
    (pairs_append xs ys (pairs-tail AreInOrder c xs h) g (All-tail (λ d. All (AreInOrder d) ys) c xs f))

pub ordered_more : (n s : ℕ) (cs g : List AnyCode) → Ordered n cs → Part s g → n ≤ codes_before_letter s → Ordered (codes_before_letter s + 1) (cs ++ g)
ordered_more n s cs g h p le =
    let own : All (λ c. codes_before (system_of c) ≡ codes_before_letter s) g = λ k d lt. before_letter _ s (p.own k d lt) in
    record {
      before = All-append (λ c. codes_before (system_of c) < codes_before_letter s + 1) cs g
          (λ k d lt. let b = h.before k d lt in omega (arith, b, le)) (λ k d lt. let b = own k d lt in omega (arith, b));
      order = pairs_append cs g h.order
          (λ i j d lt within. record { unlike = p.distinct i j d lt within; systems = (let a = own i d (omega (arith, lt, within)) in let b = own j d within in omega (arith, a, b)) })
          (λ k d lt i e within. record {
            unlike = λ same. (let a = h.before k d lt in let b = own i e within in let z = ap (λ (c : AnyCode). codes_before (system_of c)) same in omega (arith, a, b, z, le));
            systems = (let a = h.before k d lt in let b = own i e within in omega (arith, a, b, le));
          });
    }

pub none_own : (l k : ℕ) (g : List AnyCode) → k ≢ l → All (λ c. letter c ≡ k) g → codes_of l g ≡ []
none_own l k [] other h = refl
none_own l k (c ∷ g) other h =
    codes_same l c g (λ e. other (sym (All-head (λ d. letter d ≡ k) c g h) ∙ e)) ∙ none_own l k g other (All-tail (λ d. letter d ≡ k) c g h)

pub split_seven : (l : ℕ) (a b c d e f g : List AnyCode)
    → codes_of l (seven a b c d e f g) ≡ seven (codes_of l a) (codes_of l b) (codes_of l c) (codes_of l d) (codes_of l e) (codes_of l f) (codes_of l g)
split_seven l a b c d e f g =
    let p : AnyCode → Bool = λ x. letter x == l in
    filter-append p (((((a ++ b) ++ c) ++ d) ++ e) ++ f) g ∙ ap (λ (x : List AnyCode). x ++ codes_of l g)
    (filter-append p ((((a ++ b) ++ c) ++ d) ++ e) f ∙ ap (λ (x : List AnyCode). x ++ codes_of l f)
    (filter-append p (((a ++ b) ++ c) ++ d) e ∙ ap (λ (x : List AnyCode). x ++ codes_of l e)
    (filter-append p ((a ++ b) ++ c) d ∙ ap (λ (x : List AnyCode). x ++ codes_of l d)
    (filter-append p (a ++ b) c ∙ ap (λ (x : List AnyCode). x ++ codes_of l c) (filter-append p a b)))))

pub only_1 : (x1 x2 x3 x4 x5 x6 x7 : List AnyCode) → x2 ≡ [] → x3 ≡ [] → x4 ≡ [] → x5 ≡ [] → x6 ≡ [] → x7 ≡ [] → seven x1 x2 x3 x4 x5 x6 x7 ≡ x1
only_1 x1 x2 x3 x4 x5 x6 x7 e2 e3 e4 e5 e6 e7 = rw (e2, e3, e4, e5, e6, e7) (simp append-nil)

pub only_2 : (x1 x2 x3 x4 x5 x6 x7 : List AnyCode) → x1 ≡ [] → x3 ≡ [] → x4 ≡ [] → x5 ≡ [] → x6 ≡ [] → x7 ≡ [] → seven x1 x2 x3 x4 x5 x6 x7 ≡ x2
only_2 x1 x2 x3 x4 x5 x6 x7 e1 e3 e4 e5 e6 e7 = rw (e1, e3, e4, e5, e6, e7) (simp append-nil)

pub only_3 : (x1 x2 x3 x4 x5 x6 x7 : List AnyCode) → x1 ≡ [] → x2 ≡ [] → x4 ≡ [] → x5 ≡ [] → x6 ≡ [] → x7 ≡ [] → seven x1 x2 x3 x4 x5 x6 x7 ≡ x3
only_3 x1 x2 x3 x4 x5 x6 x7 e1 e2 e4 e5 e6 e7 = rw (e1, e2, e4, e5, e6, e7) (simp append-nil)

pub only_4 : (x1 x2 x3 x4 x5 x6 x7 : List AnyCode) → x1 ≡ [] → x2 ≡ [] → x3 ≡ [] → x5 ≡ [] → x6 ≡ [] → x7 ≡ [] → seven x1 x2 x3 x4 x5 x6 x7 ≡ x4
only_4 x1 x2 x3 x4 x5 x6 x7 e1 e2 e3 e5 e6 e7 = rw (e1, e2, e3, e5, e6, e7) (simp append-nil)

pub only_5 : (x1 x2 x3 x4 x5 x6 x7 : List AnyCode) → x1 ≡ [] → x2 ≡ [] → x3 ≡ [] → x4 ≡ [] → x6 ≡ [] → x7 ≡ [] → seven x1 x2 x3 x4 x5 x6 x7 ≡ x5
only_5 x1 x2 x3 x4 x5 x6 x7 e1 e2 e3 e4 e6 e7 = rw (e1, e2, e3, e4, e6, e7) (simp append-nil)

pub only_6 : (x1 x2 x3 x4 x5 x6 x7 : List AnyCode) → x1 ≡ [] → x2 ≡ [] → x3 ≡ [] → x4 ≡ [] → x5 ≡ [] → x7 ≡ [] → seven x1 x2 x3 x4 x5 x6 x7 ≡ x6
only_6 x1 x2 x3 x4 x5 x6 x7 e1 e2 e3 e4 e5 e7 = rw (e1, e2, e3, e4, e5, e7) (simp append-nil)

pub only_7 : (x1 x2 x3 x4 x5 x6 x7 : List AnyCode) → x1 ≡ [] → x2 ≡ [] → x3 ≡ [] → x4 ≡ [] → x5 ≡ [] → x6 ≡ [] → seven x1 x2 x3 x4 x5 x6 x7 ≡ x7
only_7 x1 x2 x3 x4 x5 x6 x7 e1 e2 e3 e4 e5 e6 = rw (e1, e2, e3, e4, e5, e6) refl

-- seven parts, of the systems in their order
pub record Parts (a b c d e f g : List AnyCode) : Type 0 where
  pub first : Part 71 a
  pub second : Part 82 b
  pub third : Part 69 c
  pub fourth : Part 67 d
  pub fifth : Part 74 e
  pub sixth : Part 83 f
  pub last : Part 73 g

pub part_1 : (a b c d e f g : List AnyCode) → Parts a b c d e f g → codes_of 71 (seven a b c d e f g) ≡ a
part_1 a b c d e f g p =
    split_seven 71 a b c d e f g ∙ only_1 (codes_of 71 a) (codes_of 71 b) (codes_of 71 c) (codes_of 71 d) (codes_of 71 e) (codes_of 71 f) (codes_of 71 g) (none_own 71 82 b (λ z. omega (arith, z)) p.second.own) (none_own 71 69 c (λ z. omega (arith, z)) p.third.own) (none_own 71 67 d (λ z. omega (arith, z)) p.fourth.own) (none_own 71 74 e (λ z. omega (arith, z)) p.fifth.own) (none_own 71 83 f (λ z. omega (arith, z)) p.sixth.own) (none_own 71 73 g (λ z. omega (arith, z)) p.last.own) ∙ own_codes 71 a p.first.own

pub part_2 : (a b c d e f g : List AnyCode) → Parts a b c d e f g → codes_of 82 (seven a b c d e f g) ≡ b
part_2 a b c d e f g p =
    split_seven 82 a b c d e f g ∙ only_2 (codes_of 82 a) (codes_of 82 b) (codes_of 82 c) (codes_of 82 d) (codes_of 82 e) (codes_of 82 f) (codes_of 82 g) (none_own 82 71 a (λ z. omega (arith, z)) p.first.own) (none_own 82 69 c (λ z. omega (arith, z)) p.third.own) (none_own 82 67 d (λ z. omega (arith, z)) p.fourth.own) (none_own 82 74 e (λ z. omega (arith, z)) p.fifth.own) (none_own 82 83 f (λ z. omega (arith, z)) p.sixth.own) (none_own 82 73 g (λ z. omega (arith, z)) p.last.own) ∙ own_codes 82 b p.second.own

pub part_3 : (a b c d e f g : List AnyCode) → Parts a b c d e f g → codes_of 69 (seven a b c d e f g) ≡ c
part_3 a b c d e f g p =
    split_seven 69 a b c d e f g ∙ only_3 (codes_of 69 a) (codes_of 69 b) (codes_of 69 c) (codes_of 69 d) (codes_of 69 e) (codes_of 69 f) (codes_of 69 g) (none_own 69 71 a (λ z. omega (arith, z)) p.first.own) (none_own 69 82 b (λ z. omega (arith, z)) p.second.own) (none_own 69 67 d (λ z. omega (arith, z)) p.fourth.own) (none_own 69 74 e (λ z. omega (arith, z)) p.fifth.own) (none_own 69 83 f (λ z. omega (arith, z)) p.sixth.own) (none_own 69 73 g (λ z. omega (arith, z)) p.last.own) ∙ own_codes 69 c p.third.own

pub part_4 : (a b c d e f g : List AnyCode) → Parts a b c d e f g → codes_of 67 (seven a b c d e f g) ≡ d
part_4 a b c d e f g p =
    split_seven 67 a b c d e f g ∙ only_4 (codes_of 67 a) (codes_of 67 b) (codes_of 67 c) (codes_of 67 d) (codes_of 67 e) (codes_of 67 f) (codes_of 67 g) (none_own 67 71 a (λ z. omega (arith, z)) p.first.own) (none_own 67 82 b (λ z. omega (arith, z)) p.second.own) (none_own 67 69 c (λ z. omega (arith, z)) p.third.own) (none_own 67 74 e (λ z. omega (arith, z)) p.fifth.own) (none_own 67 83 f (λ z. omega (arith, z)) p.sixth.own) (none_own 67 73 g (λ z. omega (arith, z)) p.last.own) ∙ own_codes 67 d p.fourth.own

pub part_5 : (a b c d e f g : List AnyCode) → Parts a b c d e f g → codes_of 74 (seven a b c d e f g) ≡ e
part_5 a b c d e f g p =
    split_seven 74 a b c d e f g ∙ only_5 (codes_of 74 a) (codes_of 74 b) (codes_of 74 c) (codes_of 74 d) (codes_of 74 e) (codes_of 74 f) (codes_of 74 g) (none_own 74 71 a (λ z. omega (arith, z)) p.first.own) (none_own 74 82 b (λ z. omega (arith, z)) p.second.own) (none_own 74 69 c (λ z. omega (arith, z)) p.third.own) (none_own 74 67 d (λ z. omega (arith, z)) p.fourth.own) (none_own 74 83 f (λ z. omega (arith, z)) p.sixth.own) (none_own 74 73 g (λ z. omega (arith, z)) p.last.own) ∙ own_codes 74 e p.fifth.own

pub part_6 : (a b c d e f g : List AnyCode) → Parts a b c d e f g → codes_of 83 (seven a b c d e f g) ≡ f
part_6 a b c d e f g p =
    split_seven 83 a b c d e f g ∙ only_6 (codes_of 83 a) (codes_of 83 b) (codes_of 83 c) (codes_of 83 d) (codes_of 83 e) (codes_of 83 f) (codes_of 83 g) (none_own 83 71 a (λ z. omega (arith, z)) p.first.own) (none_own 83 82 b (λ z. omega (arith, z)) p.second.own) (none_own 83 69 c (λ z. omega (arith, z)) p.third.own) (none_own 83 67 d (λ z. omega (arith, z)) p.fourth.own) (none_own 83 74 e (λ z. omega (arith, z)) p.fifth.own) (none_own 83 73 g (λ z. omega (arith, z)) p.last.own) ∙ own_codes 83 f p.sixth.own

pub part_7 : (a b c d e f g : List AnyCode) → Parts a b c d e f g → codes_of 73 (seven a b c d e f g) ≡ g
part_7 a b c d e f g p =
    split_seven 73 a b c d e f g ∙ only_7 (codes_of 73 a) (codes_of 73 b) (codes_of 73 c) (codes_of 73 d) (codes_of 73 e) (codes_of 73 f) (codes_of 73 g) (none_own 73 71 a (λ z. omega (arith, z)) p.first.own) (none_own 73 82 b (λ z. omega (arith, z)) p.second.own) (none_own 73 69 c (λ z. omega (arith, z)) p.third.own) (none_own 73 67 d (λ z. omega (arith, z)) p.fourth.own) (none_own 73 74 e (λ z. omega (arith, z)) p.fifth.own) (none_own 73 83 f (λ z. omega (arith, z)) p.sixth.own) ∙ own_codes 73 g p.last.own

pub ordered_seven : (a b c d e f g : List AnyCode) → Parts a b c d e f g → AllPairs AreInOrder (seven a b c d e f g)
ordered_seven a b c d e f g p =
    let one = ordered_more 0 71 [] a ordered_none p.first (omega arith) in
    let two = ordered_more 1 82 a b one p.second (omega arith) in
    let three = ordered_more 17 69 (a ++ b) c two p.third (omega arith) in
    let four = ordered_more 21 67 ((a ++ b) ++ c) d three p.fourth (omega arith) in
    let five = ordered_more 36 74 (((a ++ b) ++ c) ++ d) e four p.fifth (omega arith) in
    let six = ordered_more 52 83 ((((a ++ b) ++ c) ++ d) ++ e) f five p.sixth (omega arith) in
    (ordered_more 65 73 (((((a ++ b) ++ c) ++ d) ++ e) ++ f) g six p.last (omega arith)).order
