-- The header of codes of GPS alone is the header of a file of GPS.
use Rattle.std.proofs.Common.{◌≡◌, ◌≢◌, ℕ, ◌*◌, ◌<◌, ◌≤◌, List, [], ◌∷◌, ◌++◌, length, take, drop, map, get_or, codes, decimal, arith, refl, sym, ◌∙◌, ap, append_assoc, Bool, true, false, ◌==◌, if◌then◌else◌}
use Rattle.std.specs.List.{list_all}
use Rattle.std.proofs.lemmas.Bool.Decides.{Decides-eqb, nat_tests}
use Rattle.std.proofs.lemmas.List.{append-nil, length-map, length-drop}
use Rattle.rtk_obs.specs.declared.code.Code.{Code}
use Rattle.rtk_obs.specs.declared.any_code.AnyCode.{AnyCode}
use Rattle.rtk_obs.specs.declared.any_code.AnyCode.TheVariants.{G1C}
use Rattle.rtk_obs.specs.Code as gps
use Rattle.rtk_obs.specs.AnyCode.{name_of, text_of}
use Rattle.rtk_obs.specs.Reading.{reading_of}
use Rattle.rtk_rinex.specs.Columns.{right}
use Rattle.rtk_rinex.specs.Header.{header_line, types_label, continuation_line, version_line, made_line, marker_line, position_lines, types_of, types, types_lines, unit_line, first_line, header_text}
use Rattle.rtk_rinex.specs.MixedHead.{letter}
use Rattle.rtk_rinex.specs.MixedHeader.{version_letter, codes_of, three_types, types_text, types_lines_of, system_types_lines, phase_shift_line, by_system, mixed_header_text, GpsFilesStay}
use Rattle.rtk_rinex.proofs.MixedListLemmas.{letter_of_all}
use Rattle.rtk_rinex.proofs.MixedRoomLemmas.{length-types_text, types_lines-some}

-- the text of a code of GPS
abbrev gps_text : Code → List ℕ
gps_text c = 71 ∷ gps.name_of c

-- the codes are those of GPS, one by one
abbrev AreGps : List AnyCode → List Code → Type 0
AreGps cs ds = map text_of cs ≡ map gps_text ds

record IsGpsFirst (c : AnyCode) (d : Code) (cs : List AnyCode) (ds : List Code) : Type 0 where
  pub letter : letter c ≡ 71
  pub name : name_of c ≡ gps.name_of d
  pub rest : AreGps cs ds

gps_first : (c : AnyCode) (d : Code) (cs : List AnyCode) (ds : List Code) → AreGps (c ∷ cs) (d ∷ ds) → IsGpsFirst c d cs ds
gps_first c d cs ds e =
    let text : text_of c ≡ gps_text d = ap (λ (l : List (List ℕ)). get_or l 0 []) e in
    record { letter = ap (λ (l : List ℕ). get_or l 0 0) text; name = ap (λ (l : List ℕ). drop 1 l) text; rest = ap (λ (l : List (List ℕ)). drop 1 l) e }

gps_count : (cs : List AnyCode) (ds : List Code) → AreGps cs ds → length cs ≡ length ds
gps_count cs ds e = sym (length-map cs text_of) ∙ ap length e ∙ length-map ds gps_text

gps_types : (cs : List AnyCode) (ds : List Code) → AreGps cs ds → types_text false cs ≡ types ds
gps_types [] [] e = refl
gps_types [] (d ∷ ds) e = absurd (let n = gps_count [] (d ∷ ds) e in omega arith)
gps_types (c ∷ cs) [] e = absurd (let n = gps_count (c ∷ cs) [] e in omega arith)
gps_types (c ∷ cs) (d ∷ ds) e =
    let f = gps_first c d cs ds e in
    let one : three_types c ≡ types_of d = ap (λ (name : List ℕ). codes " C" ++ name ++ codes " L" ++ name ++ codes " S" ++ name) f.name in
    ap (λ (x : List ℕ). x ++ types_text false cs) one ∙ ap (λ (x : List ℕ). types_of d ++ x) (gps_types cs ds f.rest)

kept_if : (b : Bool) (c : AnyCode) (xs ys : List AnyCode) → b ≡ true → xs ≡ ys → (if b then c ∷ xs else xs) ≡ c ∷ ys
kept_if true c xs ys e f = ap (λ (l : List AnyCode). c ∷ l) f
kept_if false c xs ys e f = absurd (cc)

left_if : (b : Bool) (c : AnyCode) (xs : List AnyCode) → b ≡ false → xs ≡ [] → (if b then c ∷ xs else xs) ≡ []
left_if false c xs e f = f
left_if true c xs e f = absurd (cc)

gps_kept : (cs : List AnyCode) (ds : List Code) → AreGps cs ds → codes_of 71 cs ≡ cs
gps_kept [] ds e = refl
gps_kept (c ∷ cs) [] e = absurd (let n = gps_count (c ∷ cs) [] e in omega arith)
gps_kept (c ∷ cs) (d ∷ ds) e =
    let f = gps_first c d cs ds e in
    kept_if (letter c == 71) c (codes_of 71 cs) cs ((Decides-eqb (letter c) 71).1 f.letter) (gps_kept cs ds f.rest)

unlike_test : (a b l : ℕ) → a ≡ b → l ≢ b → (a == l) ≡ false
unlike_test a b l e h = grind (arith, nat_tests)

gps_none : (l : ℕ) (cs : List AnyCode) (ds : List Code) → l ≢ 71 → AreGps cs ds → codes_of l cs ≡ []
gps_none l [] ds h e = refl
gps_none l (c ∷ cs) [] h e = absurd (let n = gps_count (c ∷ cs) [] e in omega arith)
gps_none l (c ∷ cs) (d ∷ ds) h e =
    let f = gps_first c d cs ds e in
    left_if (letter c == l) c (codes_of l cs) (unlike_test (letter c) 71 l f.letter h) (gps_none l cs ds h f.rest)

gps_letters : (cs : List AnyCode) (ds : List Code) → AreGps cs ds → list_all (λ c. letter c == 71) cs ≡ true
gps_letters [] ds e = refl
gps_letters (c ∷ cs) [] e = absurd (let n = gps_count (c ∷ cs) [] e in omega arith)
gps_letters (c ∷ cs) (d ∷ ds) e =
    let f = gps_first c d cs ds e in
    let one : (letter c == 71) ≡ true = (Decides-eqb (letter c) 71).1 f.letter in
    rw (one, gps_letters cs ds f.rest) refl

first_letter : (cs : List AnyCode) (ds : List Code) (x : AnyCode) → 0 < length cs → AreGps cs ds → letter (get_or cs 0 x) ≡ 71
first_letter [] ds x some e = absurd (omega arith)
first_letter (c ∷ cs) [] x some e = absurd (let n = gps_count (c ∷ cs) [] e in omega arith)
first_letter (c ∷ cs) (d ∷ ds) x some e = (gps_first c d cs ds e).letter

gps_version : (cs : List AnyCode) (ds : List Code) → 0 < length cs → AreGps cs ds → version_letter cs ≡ 71
gps_version cs ds some e =
    let first = first_letter cs ds G1C some e in
    letter_of_all cs G1C some (ap (λ (l : ℕ). list_all (λ c. letter c == l) cs) first ∙ gps_letters cs ds e) ∙ first

-- ---- lines of one system

only_first : (a b c d e f g : List ℕ) → b ≡ [] → c ≡ [] → d ≡ [] → e ≡ [] → f ≡ [] → g ≡ [] → a ++ (b ++ (c ++ (d ++ (e ++ (f ++ (g ++ [])))))) ≡ a
only_first a b c d e f g p q r s t u = rw (p, q, r, s, t, u) (append-nil a)

pub by_gps : (lines : ℕ → List AnyCode → List ℕ) (cs : List AnyCode) (ds : List Code) → ((l : ℕ) → lines l [] ≡ []) → AreGps cs ds → by_system lines cs ≡ lines 71 cs
by_gps lines cs ds empty e =
    let none : (l : ℕ) → l ≢ 71 → lines l (codes_of l cs) ≡ [] = λ l h. ap (lines l) (gps_none l cs ds h e) ∙ empty l in
    only_first (lines 71 (codes_of 71 cs)) (lines 82 (codes_of 82 cs)) (lines 69 (codes_of 69 cs)) (lines 67 (codes_of 67 cs)) (lines 74 (codes_of 74 cs)) (lines 83 (codes_of 83 cs)) (lines 73 (codes_of 73 cs))
    (none 82 (λ x. omega (arith, x))) (none 69 (λ x. omega (arith, x))) (none 67 (λ x. omega (arith, x))) (none 74 (λ x. omega (arith, x))) (none 83 (λ x. omega (arith, x))) (none 73 (λ x. omega (arith, x)))
    ∙ ap (lines 71) (gps_kept cs ds e)

-- at most 16 codes of three types fill no fifth line
no_fifth : (text : List ℕ) (b : Bool) → (length text == 0) ≡ b → length text ≡ 0 → (if b then [] else header_line (codes "      " ++ take 52 text) types_label) ≡ []
no_fifth text true e h = refl
no_fifth text false e h = absurd (let t = (Decides-eqb (length text) 0).1 h in cc)

four_are_all : (l n : ℕ) (text : List ℕ) → length text ≤ 192 → types_lines_of false l n text
    ≡ header_line (l ∷ codes "  " ++ right 3 (decimal (3 * n)) ++ take 52 text) types_label ++ continuation_line (drop 52 text) ++ continuation_line (drop 104 text) ++ continuation_line (drop 156 text)
four_are_all l n text few =
    let left = length-drop 208 text in
    let front : List ℕ =
    header_line (l ∷ codes "  " ++ right 3 (decimal (3 * n)) ++ take 52 text) types_label ++ continuation_line (drop 52 text) ++ continuation_line (drop 104 text) ++ continuation_line (drop 156 text) in
    ap (λ (x : List ℕ). front ++ x) (no_fifth (drop 208 text) (length (drop 208 text) == 0) refl (omega (arith, left, few))) ∙ append-nil front

gps_types_lines : (cs : List AnyCode) (ds : List Code) → 0 < length cs → length cs ≤ 16 → AreGps cs ds → by_system (system_types_lines false) cs ≡ types_lines ds
gps_types_lines cs ds some few e =
    let size = length-types_text false cs in
    by_gps (system_types_lines false) cs ds (λ l. refl) e ∙ types_lines-some false 71 cs some
    ∙ ap (λ (n : ℕ). types_lines_of false 71 n (types_text false cs)) (gps_count cs ds e) ∙ four_are_all 71 (length ds) (types_text false cs) (omega (arith, size, few))
    ∙ ap (λ (text : List ℕ). header_line (71 ∷ codes "  " ++ right 3 (decimal (3 * length ds)) ++ take 52 text) types_label ++ continuation_line (drop 52 text) ++ continuation_line (drop 104 text) ++ continuation_line (drop 156 text))
    (gps_types cs ds e)

shift-some : (l : ℕ) (cs : List AnyCode) → 0 < length cs → phase_shift_line l cs ≡ header_line (l ∷ []) (codes "SYS / PHASE SHIFT")
shift-some l [] h = absurd (omega arith)
shift-some l (c ∷ cs) h = refl

gps_shift : (cs : List AnyCode) (ds : List Code) → 0 < length cs → AreGps cs ds → by_system phase_shift_line cs ≡ header_line (codes "G") (codes "SYS / PHASE SHIFT")
gps_shift cs ds some e = by_gps phase_shift_line cs ds (λ l. refl) e ∙ shift-some 71 cs some

-- ---- the header

gps-in_row : (v m k a b c d p t u f s z : List ℕ)
    → (((((((((v ++ m) ++ k) ++ (((a ++ b) ++ c) ++ d)) ++ p) ++ t) ++ u) ++ f) ++ s) ++ []) ++ z
    ≡ ((((((((v ++ m) ++ k) ++ a) ++ b) ++ c) ++ d) ++ p) ++ t) ++ (((u ++ f) ++ s) ++ z)
gps-in_row v m k a b c d p t u f s z = simp (append_assoc, append-nil)

pub gps_stay : GpsFilesStay
unfolding mixed_header_text header_text
gps_stay h m s first is good =
    let n = gps_count m.listed h.listed is.listed in
    let some : 0 < length m.listed = omega (arith, n, good.1.0) in
    let few : length m.listed ≤ 16 = omega (arith, n, good.1.0) in
    rw (is.marker, is.made, is.glonass, is.doppler, gps_version m.listed h.listed some is.listed, gps_types_lines m.listed h.listed some few is.listed, gps_shift m.listed h.listed some is.listed)
    (gps-in_row version_line (made_line (reading_of h.made)) (marker_line h.marker) _ _ _ _ (position_lines s) (types_lines h.listed) unit_line (first_line (reading_of first)) _ _)
