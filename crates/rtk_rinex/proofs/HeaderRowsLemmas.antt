-- The parts of a header, each as the list of its lines.
use Rattle.std.proofs.Common.{◌≡◌, ◌≢◌, ℕ, zero, suc, ◌+◌, ◌*◌, ◌/◌, ◌<◌, ◌≤◌, List, [], ◌∷◌, ◌++◌, length, take, drop, decimal, codes, Bool, true, false, ◌==◌, if◌then◌else◌, arith, refl, sym, ◌∙◌, append_assoc, length-append, pos, inl, inr}
use Rattle.std.specs.Int.{IsInRange}
use Rattle.std.proofs.lemmas.Bool.Decides.{nat_tests, leb_tells}
use Rattle.std.proofs.lemmas.Grind.{flat_map-append}
use Rattle.std.proofs.lemmas.List.{length-drop, append-nil}
use Rattle.rtk_obs.specs.declared.code.Code.{Code}
use Rattle.rtk_obs.specs.declared.code.Code.TheVariants.{G1C, G1P, G1W, G1S, G1L, G1X, G2C, G2D, G2P, G2W, G2S, G2L, G2X, G5I, G5Q, G5X}
use Rattle.rtk_obs.specs.Code.{name_of}
use Rattle.rtk_rinex.specs.Columns.{left, right, fixed}
use Rattle.rtk_obs.specs.Reading.{IsMoment, reading_of}
use Rattle.rtk_rinex.specs.Lines.{text_of}
use Rattle.rtk_rinex.specs.Header.{HeadView, PositionView, IsHeadView, IsPositionView, header_line, made_text, types_of, types, types_label, continuation_line, types_lines, first_text, header_text}

-- ---- lines as lists of columns

-- the 80 columns of a line
unfoldable pub row : List ℕ → List ℕ → List ℕ
row content label = left 60 content ++ left 20 label

abbrev pub ended : List ℕ → List ℕ
ended line = line ++ 10 ∷ []

pub row_ended : (content label : List ℕ) → header_line content label ≡ ended (row content label)
unfolding header_line row
row_ended content label = refl

-- a line with more after it, and a list of one line
pub line_of : (content label : List ℕ) → ended (row content label) ≡ header_line content label ++ []
line_of content label = sym (append-nil (header_line content label) ∙ row_ended content label)

pub one_text : (content label : List ℕ) → header_line content label ≡ text_of (row content label ∷ [])
one_text content label = row_ended content label ∙ sym (append-nil (ended (row content label)))

-- what stands before the types of a line of types
abbrev pub types_head : ℕ → ℕ → List ℕ
types_head zero n = codes "G  " ++ right 3 (decimal (3 * n))
types_head (suc j) n = codes "      "

-- the line of types after j lines of types
unfoldable pub types_line : ℕ → List Code → List ℕ
types_line j cs = row (types_head j (length cs) ++ take 52 (drop (52 * j) (types cs))) types_label

-- m lines of types from the j-th on
unfoldable pub type_rows : ℕ → ℕ → List Code → List (List ℕ)
type_rows j zero cs = []
type_rows j (suc m) cs = types_line j cs ∷ type_rows (suc j) m cs

abbrev pub row_count : ℕ → ℕ
row_count n = (12 * n + 51) / 52

-- ---- the parts, of the values of a header

-- the values of a header
pub record Values : Type 0 where
  pub head : HeadView
  pub site : PositionView
  pub first : ℕ

abbrev pub values_of : HeadView → PositionView → ℕ → Values
values_of h s t = record { head = h; site = s; first = t }

pub record IsGood (v : Values) : Type 0 where
  pub heading : IsHeadView v.head
  pub site : IsPositionView v.site
  pub first : IsMoment v.first

abbrev pub text_with : Values → List ℕ
text_with v = header_text v.head v.site v.first

abbrev pub version_part : List (List ℕ)
version_part = row (codes "     3.05           OBSERVATION DATA    G") (codes "RINEX VERSION / TYPE") ∷ []

abbrev pub made_row : ℕ → List ℕ
made_row made = row (codes "rtcm2rinex                              " ++ made_text (reading_of made)) (codes "PGM / RUN BY / DATE")

abbrev pub marker_row : List ℕ → List ℕ
marker_row marker = row marker (codes "MARKER NAME")

abbrev pub unknown_part : List (List ℕ)
unknown_part =
    row (codes "GEODETIC") (codes "MARKER TYPE")
    ∷ row [] (codes "OBSERVER / AGENCY")
    ∷ row [] (codes "REC # / TYPE / VERS")
    ∷ row [] (codes "ANT # / TYPE")
    ∷ []

abbrev pub place_row : PositionView → List ℕ
place_row s = row (fixed 4 14 s.x ++ fixed 4 14 s.y ++ fixed 4 14 s.z) (codes "APPROX POSITION XYZ")

abbrev pub height_row : ℕ → List ℕ
height_row height = row (fixed 4 14 (pos height) ++ codes "        0.0000        0.0000") (codes "ANTENNA: DELTA H/E/N")

abbrev pub types_part : Values → List (List ℕ)
types_part v = type_rows 0 (row_count (length v.head.listed)) v.head.listed

abbrev pub unit_part : List (List ℕ)
unit_part = row (codes "DBHZ") (codes "SIGNAL STRENGTH UNIT") ∷ []

abbrev pub first_row : ℕ → List ℕ
first_row first = row (first_text (reading_of first)) (codes "TIME OF FIRST OBS")

abbrev pub end_part : List (List ℕ)
end_part = row (codes "G") (codes "SYS / PHASE SHIFT") ∷ row [] (codes "END OF HEADER") ∷ []

-- the parts from each one on
abbrev pub from_first : Values → List (List ℕ)
from_first v = (first_row v.first ∷ []) ++ end_part

abbrev pub from_unit : Values → List (List ℕ)
from_unit v = unit_part ++ from_first v

abbrev pub from_types : Values → List (List ℕ)
from_types v = types_part v ++ from_unit v

abbrev pub from_height : Values → List (List ℕ)
from_height v = (height_row v.site.height ∷ []) ++ from_types v

abbrev pub from_place : Values → List (List ℕ)
from_place v = (place_row v.site ∷ []) ++ from_height v

abbrev pub from_unknown : Values → List (List ℕ)
from_unknown v = unknown_part ++ from_place v

abbrev pub from_marker : Values → List (List ℕ)
from_marker v = (marker_row v.head.marker ∷ []) ++ from_unknown v

abbrev pub from_made : Values → List (List ℕ)
from_made v = (made_row v.head.made ∷ []) ++ from_marker v

abbrev pub all_parts : Values → List (List ℕ)
all_parts v = version_part ++ from_made v

-- ---- the types

pub length-name : (c : Code) → length (name_of c) ≡ 2
length-name G1C = refl
length-name G1P = refl
length-name G1W = refl
length-name G1S = refl
length-name G1L = refl
length-name G1X = refl
length-name G2C = refl
length-name G2D = refl
length-name G2P = refl
length-name G2W = refl
length-name G2S = refl
length-name G2L = refl
length-name G2X = refl
length-name G5I = refl
length-name G5Q = refl
length-name G5X = refl

length-types_of : (c : Code) → length (types_of c) ≡ 12
length-types_of c = simp length-append (omega (arith, length-name c))

pub length-types : (cs : List Code) → length (types cs) ≡ 12 * length cs
length-types [] = refl
length-types (c ∷ cs) = length-append (types_of c) (types cs) ∙ omega (arith, length-types_of c, length-types cs)

if_none : (text r : List ℕ) (b : Bool) → (length text == 0) ≡ b → length text ≡ 0 → (if b then [] else r) ≡ []
if_none text r true e h = refl
if_none text r false e h = absurd (let not : length text ≢ 0 = grind (arith, nat_tests) in not h)

if_some : (text r : List ℕ) (b : Bool) → (length text == 0) ≡ b → 0 < length text → (if b then [] else r) ≡ r
if_some text r false e h = refl
if_some text r true e h = absurd (let none : length text ≡ 0 = grind (arith, nat_tests) in omega (arith, none, h))

-- the continuation line after j lines of types
continued : ℕ → List Code → List ℕ
continued j cs = continuation_line (drop (52 * j) (types cs))

continued-none : (j : ℕ) (cs : List Code) → 12 * length cs ≤ 52 * j → continued j cs ≡ []
unfolding continued
continued-none j cs h =
    let text : List ℕ = drop (52 * j) (types cs) in
    let none : length text ≡ 0 = length-drop (52 * j) (types cs) ∙ omega (arith, length-types cs) in
    if_none text _ (length text == 0) refl none

continued-some : (j : ℕ) (cs : List Code) → 52 * suc j < 12 * length cs → continued (suc j) cs ≡ ended (types_line (suc j) cs)
unfolding continued types_line
continued-some j cs h =
    let text : List ℕ = drop (52 * suc j) (types cs) in
    let some : 0 < length text = let e = length-drop (52 * suc j) (types cs) in omega (arith, length-types cs, e) in
    if_some text _ (length text == 0) refl some ∙ row_ended (codes "      " ++ take 52 text) types_label

types_lines-are : (cs : List Code) → types_lines cs ≡ ended (types_line 0 cs) ++ continued 1 cs ++ continued 2 cs ++ continued 3 cs
unfolding continued types_line
types_lines-are cs = rw (row_ended (types_head 0 (length cs) ++ take 52 (types cs)) types_label) refl

pub text_of-types : (cs : List Code) → IsInRange 1 16 (length cs) → text_of (type_rows 0 (row_count (length cs)) cs) ≡ types_lines cs
unfolding type_rows
text_of-types cs h =
    elim (leb_tells (length cs) 4) [
      | inl few ↦
          let m : row_count (length cs) ≡ 1 = omega (arith, h, few.1) in
          rw (m, types_lines-are cs, continued-none 1 cs (omega (arith, few.1)), continued-none 2 cs (omega (arith, few.1)), continued-none 3 cs (omega (arith, few.1))) (simp append_assoc)
      | inr more ↦ elim (leb_tells (length cs) 8) [
        | inl few ↦
            let m : row_count (length cs) ≡ 2 = omega (arith, more.1, few.1) in
            rw (m, types_lines-are cs, continued-some 0 cs (omega (arith, more.1)), continued-none 2 cs (omega (arith, few.1)), continued-none 3 cs (omega (arith, few.1))) (simp append_assoc)
        | inr many ↦ elim (leb_tells (length cs) 13) [
          | inl few ↦
              let m : row_count (length cs) ≡ 3 = omega (arith, many.1, few.1) in
              rw (m, types_lines-are cs, continued-some 0 cs (omega (arith, many.1)), continued-some 1 cs (omega (arith, many.1)), continued-none 3 cs (omega (arith, few.1))) (simp append_assoc)
          | inr all ↦
              let m : row_count (length cs) ≡ 4 = omega (arith, all.1, h) in
              rw (m, types_lines-are cs, continued-some 0 cs (omega (arith, all.1)), continued-some 1 cs (omega (arith, all.1)), continued-some 2 cs (omega (arith, all.1))) (simp append_assoc)
        ]
      ]
    ]

-- ---- the text of the parts

pub all_text : (v : Values) → IsInRange 1 16 (length v.head.listed) → text_of (all_parts v) ≡ text_with v
unfolding header_text header_line row
all_text v count =
    rw (flat_map-append (λ (line : List ℕ). line ++ 10 ∷ []) (types_part v) (from_unit v), text_of-types v.head.listed count) (simp append_assoc)

pub unknown_text : (out : List ℕ) → out ++ header_line (codes "GEODETIC") (codes "MARKER TYPE") ++ header_line [] (codes "OBSERVER / AGENCY")
    ++ header_line [] (codes "REC # / TYPE / VERS") ++ header_line [] (codes "ANT # / TYPE") ≡ out ++ text_of unknown_part
unfolding header_line row
unknown_text out = simp append_assoc

pub end_text : (out : List ℕ) → out ++ header_line (codes "G") (codes "SYS / PHASE SHIFT") ++ header_line [] (codes "END OF HEADER") ≡ out ++ text_of end_part
unfolding header_line row
end_text out = simp append_assoc
