-- The parts of a header of any systems: each is a text of whole lines.
use Rattle.std.proofs.Common.{◌≡◌, ◌≢◌, ◌⊎◌, ℕ, zero, suc, ◌<◌, ◌≤◌, List, [], ◌∷◌, ◌++◌, slice_index_or, decimal, codes, arith, refl, sym, subst, append_assoc, inl, inr, Bool, true, false, not, ◌==◌, if◌then◌else◌, pos, Option, Some, None}
use Rattle.std.specs.List.{list_all}
use Rattle.rtk_obs.specs.declared.any_code.AnyCode.{AnyCode}
use Rattle.rtk_obs.specs.AnyCode.{system_of}
use Rattle.rtk_rinex.specs.Columns.{right, fixed}
use Rattle.rtk_obs.specs.Reading.{IsMoment, reading_of}
use Rattle.rtk_rinex.specs.Header.{PositionView, IsMarker, IsPositionView, header_line, made_line, marker_line, place_line, height_line, unit_line, first_line}
use Rattle.rtk_rinex.specs.Lines.{HasNoEnd}
use Rattle.rtk_rinex.specs.MixedHead.{GlonassView, MixedHeadView, letter, IsMixedHead, TellsGlonass}
use Rattle.rtk_rinex.specs.MixedHeader.{version_letter, mixed_version_line, codes_of, system_types_lines, phase_shift_line, by_system, slots_lines, biases_line, leap_line, glonass_lines, unknown_lines, mixed_header_text}
use Rattle.rtk_rinex.specs.Steps.MixedRoom.{IsFileLetter}
use Rattle.rtk_rinex.specs.Steps.MixedHeaderRead.{IsGroup, types_and_unit, IsListOf}
use Rattle.rtk_rinex.proofs.HeaderGoodLemmas.{known, printed, of_row, of_fixed, of_made, of_first}
use Rattle.rtk_rinex.proofs.HeaderShownLemmas.{IsCoordinate-height}
use Rattle.rtk_rinex.proofs.HeaderRowsLemmas.{row}
use Rattle.rtk_rinex.proofs.LineLemmas.{both, one, of_right, of_decimal}
use Rattle.rtk_rinex.proofs.MixedListLemmas.{HaveOnePlace}
use Rattle.rtk_rinex.proofs.GroupLemmas.{whole_group}
use Rattle.rtk_rinex.proofs.SlotsLinesLemmas.{whole_slots}
use Rattle.rtk_rinex.proofs.SystemOrderLemmas.{letter_is}
use Rattle.rtk_rinex.proofs.SystemsReadLemmas.{at_file, group_or_none}
use Rattle.rtk_rinex.proofs.TextPartLemmas.{AreWhole, whole_then, whole_none, whole_line}

-- the values of a header
pub record MixedValues : Type 0 where
  pub head : MixedHeadView
  pub site : PositionView
  pub first : ℕ

abbrev pub mixed_values : MixedHeadView → PositionView → ℕ → MixedValues
mixed_values h s t = record { head = h; site = s; first = t }

pub record IsGoodMixed (v : MixedValues) : Type 0 where
  pub heading : IsMixedHead v.head
  pub site : IsPositionView v.site
  pub first : IsMoment v.first

abbrev pub mixed_text : MixedValues → List ℕ
mixed_text v = mixed_header_text v.head v.site v.first

abbrev pub end_line : List ℕ
end_line = header_line [] (codes "END OF HEADER")

-- the parts from each one on
abbrev pub from_end : MixedValues → List ℕ
from_end v = end_line

abbrev pub from_glonass : MixedValues → List ℕ
from_glonass v = glonass_lines v.head.glonass ++ from_end v

abbrev pub from_shift : MixedValues → List ℕ
from_shift v = by_system phase_shift_line v.head.listed ++ from_glonass v

abbrev pub from_first : MixedValues → List ℕ
from_first v = first_line (reading_of v.first) ++ from_shift v

abbrev pub from_types : MixedValues → List ℕ
from_types v = types_and_unit v.head.doppler v.head.listed ++ from_first v

abbrev pub from_height : MixedValues → List ℕ
from_height v = height_line v.site.height ++ from_types v

abbrev pub from_place : MixedValues → List ℕ
from_place v = place_line v.site ++ from_height v

abbrev pub from_unknown : MixedValues → List ℕ
from_unknown v = unknown_lines ++ from_place v

abbrev pub from_marker : MixedValues → List ℕ
from_marker v = marker_line v.head.marker ++ from_unknown v

abbrev pub from_made : MixedValues → List ℕ
from_made v = made_line (reading_of v.head.made) ++ from_marker v

abbrev pub all_mixed : MixedValues → List ℕ
all_mixed v = mixed_version_line (version_letter v.head.listed) ++ from_made v

in_row : (v m k n p q t u f s g z : List ℕ)
    → v ++ (m ++ (k ++ (n ++ (p ++ (q ++ ((t ++ u) ++ (f ++ (s ++ (g ++ z))))))))) ≡ (((((((((v ++ m) ++ k) ++ n) ++ (p ++ q)) ++ t) ++ u) ++ f) ++ s) ++ g) ++ z
in_row v m k n p q t u f s g z = simp append_assoc

pub all_is : (v : MixedValues) → all_mixed v ≡ mixed_text v
unfolding mixed_header_text
all_is v =
    in_row (mixed_version_line (version_letter v.head.listed)) (made_line (reading_of v.head.made)) (marker_line v.head.marker) unknown_lines (place_line v.site) (height_line v.site.height)
    (by_system (system_types_lines v.head.doppler) v.head.listed) unit_line (first_line (reading_of v.first)) (by_system phase_shift_line v.head.listed) (glonass_lines v.head.glonass) end_line

-- ---- the letter of a file

file_of_system : (l k : ℕ) → k < 7 → slice_index_or (codes "GRECJSI") k l ≡ l → IsFileLetter l
file_of_system l zero lt e = (0, omega arith, e)
file_of_system l (suc zero) lt e = (1, omega arith, e)
file_of_system l (suc (suc zero)) lt e = (2, omega arith, e)
file_of_system l (suc (suc (suc zero))) lt e = (3, omega arith, e)
file_of_system l (suc (suc (suc (suc zero)))) lt e = (4, omega arith, e)
file_of_system l (suc (suc (suc (suc (suc zero))))) lt e = (5, omega arith, e)
file_of_system l (suc (suc (suc (suc (suc (suc zero)))))) lt e = (6, omega arith, e)
file_of_system l (suc (suc (suc (suc (suc (suc (suc k))))))) lt e = absurd (omega arith)

letter_if : (b : Bool) (c : AnyCode) → IsFileLetter (if b then letter c else 77)
letter_if true c = let h = letter_is (system_of c) in file_of_system (letter c) h.0 h.1 h.2
letter_if false c = (7, omega arith, refl)

pub file_letter : (cs : List AnyCode) → IsFileLetter (version_letter cs)
file_letter [] = (7, omega arith, refl)
file_letter (c ∷ cs) = letter_if (list_all (λ d. letter d == letter c) cs) c

pub printed_letter : (l : ℕ) → IsFileLetter l → l ≢ 10
printed_letter l h =
    at_file (λ x. x ≢ 10) l h.0 h.1 h.2 (λ e. omega (arith, e)) (λ e. omega (arith, e)) (λ e. omega (arith, e)) (λ e. omega (arith, e)) (λ e. omega (arith, e)) (λ e. omega (arith, e))
    (λ e. omega (arith, e)) (λ e. omega (arith, e))

-- ---- whole lines

pub of_version : (l : ℕ) → IsFileLetter l → HasNoEnd (row (codes "     3.05           OBSERVATION DATA    " ++ l ∷ []) (codes "RINEX VERSION / TYPE"))
of_version l h =
    of_row (codes "     3.05           OBSERVATION DATA    " ++ l ∷ []) (codes "RINEX VERSION / TYPE")
    (both (codes "     3.05           OBSERVATION DATA    ") (l ∷ []) (known (codes "     3.05           OBSERVATION DATA    ") refl) (one l (printed_letter l h))) (known (codes "RINEX VERSION / TYPE") refl)

pub of_marker : (m : List ℕ) → IsMarker m → HasNoEnd (row m (codes "MARKER NAME"))
of_marker m h = of_row m (codes "MARKER NAME") (printed m h.1) (known (codes "MARKER NAME") refl)

pub of_place : (s : PositionView) → IsPositionView s → HasNoEnd (row (fixed 4 14 s.x ++ fixed 4 14 s.y ++ fixed 4 14 s.z) (codes "APPROX POSITION XYZ"))
of_place s g =
    let x : List ℕ = fixed 4 14 s.x in
    let y : List ℕ = fixed 4 14 s.y in
    let z : List ℕ = fixed 4 14 s.z in
    of_row ((x ++ y) ++ z) (codes "APPROX POSITION XYZ") (both (x ++ y) z (both x y (of_fixed s.x g.0) (of_fixed s.y g.1)) (of_fixed s.z g.2)) (known (codes "APPROX POSITION XYZ") refl)

pub of_height : (h : ℕ) → h < 65_536 → HasNoEnd (row (fixed 4 14 (pos h) ++ codes "        0.0000        0.0000") (codes "ANTENNA: DELTA H/E/N"))
of_height h small =
    let up : List ℕ = fixed 4 14 (pos h) in
    let zeros : List ℕ = codes "        0.0000        0.0000" in
    of_row (up ++ zeros) (codes "ANTENNA: DELTA H/E/N") (both up zeros (of_fixed (pos h) (IsCoordinate-height h small)) (known zeros refl)) (known (codes "ANTENNA: DELTA H/E/N") refl)

pub of_leap : (n : ℕ) → n ≤ 99 → HasNoEnd (row (right 6 (decimal n)) (codes "LEAP SECONDS"))
of_leap n h = of_row (right 6 (decimal n)) (codes "LEAP SECONDS") (of_right 6 (decimal n) (of_decimal n (omega arith))) (known (codes "LEAP SECONDS") refl)

whole_known : (content label : List ℕ) → list_all (λ x. not (x == 10)) content ≡ true → list_all (λ x. not (x == 10)) label ≡ true → AreWhole (header_line content label)
whole_known content label e f = whole_line content label (of_row content label (known content e) (known label f))

pub whole_unknown : AreWhole unknown_lines
whole_unknown =
    whole_then _ _ (whole_then _ _ (whole_then _ _ (whole_known (codes "GEODETIC") (codes "MARKER TYPE") refl refl) (whole_known [] (codes "OBSERVER / AGENCY") refl refl))
    (whole_known [] (codes "REC # / TYPE / VERS") refl refl)) (whole_known [] (codes "ANT # / TYPE") refl refl)

pub whole_unit : AreWhole unit_line
whole_unit = whole_known (codes "DBHZ") (codes "SIGNAL STRENGTH UNIT") refl refl

pub whole_biases : AreWhole biases_line
whole_biases = whole_known [] (codes "GLONASS COD/PHS/BIS") refl refl

pub whole_end : AreWhole end_line
whole_end = whole_known [] (codes "END OF HEADER") refl refl

whole_system : (doppler : Bool) (s : ℕ) (g : List AnyCode) → s ≢ 10 → (g ≡ []) ⊎ IsGroup s g → AreWhole (system_types_lines doppler s g)
whole_system doppler s g h own =
    elim own [
      | inl none ↦ subst (λ (x : List AnyCode). AreWhole (system_types_lines doppler s x)) (sym none) whole_none
      | inr group ↦ whole_group doppler s g h group
    ]

whole_shift : (s : ℕ) (g : List AnyCode) → s ≢ 10 → AreWhole (phase_shift_line s g)
whole_shift s [] h = whole_none
whole_shift s (c ∷ g) h = whole_line (s ∷ []) (codes "SYS / PHASE SHIFT") (of_row (s ∷ []) (codes "SYS / PHASE SHIFT") (one s h) (known (codes "SYS / PHASE SHIFT") refl))

-- lines of each system
whole_seven : (lines : ℕ → List AnyCode → List ℕ) (cs : List AnyCode) → AreWhole (lines 71 (codes_of 71 cs)) → AreWhole (lines 82 (codes_of 82 cs))
    → AreWhole (lines 69 (codes_of 69 cs)) → AreWhole (lines 67 (codes_of 67 cs)) → AreWhole (lines 74 (codes_of 74 cs)) → AreWhole (lines 83 (codes_of 83 cs)) → AreWhole (lines 73 (codes_of 73 cs))
    → AreWhole (by_system lines cs)
whole_seven lines cs a b c d e f g =
    whole_then _ _ a (whole_then _ _ b (whole_then _ _ c (whole_then _ _ d (whole_then _ _ e (whole_then _ _ f (whole_then _ _ g whole_none))))))

pub whole_types : (doppler : Bool) (file : ℕ) (cs : List AnyCode) → HaveOnePlace → IsListOf file cs → AreWhole (types_and_unit doppler cs)
whole_types doppler file cs place h =
    whole_then (by_system (system_types_lines doppler) cs) unit_line
    (whole_seven (system_types_lines doppler) cs
    (whole_system doppler 71 (codes_of 71 cs) (λ z. omega (arith, z)) (group_or_none file 71 cs place (omega arith) h))
    (whole_system doppler 82 (codes_of 82 cs) (λ z. omega (arith, z)) (group_or_none file 82 cs place (omega arith) h))
    (whole_system doppler 69 (codes_of 69 cs) (λ z. omega (arith, z)) (group_or_none file 69 cs place (omega arith) h))
    (whole_system doppler 67 (codes_of 67 cs) (λ z. omega (arith, z)) (group_or_none file 67 cs place (omega arith) h))
    (whole_system doppler 74 (codes_of 74 cs) (λ z. omega (arith, z)) (group_or_none file 74 cs place (omega arith) h))
    (whole_system doppler 83 (codes_of 83 cs) (λ z. omega (arith, z)) (group_or_none file 83 cs place (omega arith) h))
    (whole_system doppler 73 (codes_of 73 cs) (λ z. omega (arith, z)) (group_or_none file 73 cs place (omega arith) h)))
    whole_unit

pub whole_shifts : (cs : List AnyCode) → AreWhole (by_system phase_shift_line cs)
whole_shifts cs =
    whole_seven phase_shift_line cs
    (whole_shift 71 (codes_of 71 cs) (λ z. omega (arith, z))) (whole_shift 82 (codes_of 82 cs) (λ z. omega (arith, z))) (whole_shift 69 (codes_of 69 cs) (λ z. omega (arith, z)))
    (whole_shift 67 (codes_of 67 cs) (λ z. omega (arith, z))) (whole_shift 74 (codes_of 74 cs) (λ z. omega (arith, z))) (whole_shift 83 (codes_of 83 cs) (λ z. omega (arith, z)))
    (whole_shift 73 (codes_of 73 cs) (λ z. omega (arith, z)))

pub whole_leap : (n : ℕ) → n ≤ 99 → AreWhole (leap_line n)
whole_leap n h = whole_line (right 6 (decimal n)) (codes "LEAP SECONDS") (of_leap n h)

pub whole_glonass : (cs : List AnyCode) (g : Option GlonassView) → TellsGlonass cs g → AreWhole (glonass_lines g)
whole_glonass cs None h = whole_none
whole_glonass cs (Some g) h =
    whole_then (slots_lines g.channels ++ biases_line) (leap_line g.leap_seconds) (whole_then (slots_lines g.channels) biases_line (whole_slots g.channels h.1.channels) whole_biases)
    (whole_leap g.leap_seconds h.1.leap_seconds)

pub list_of : (v : MixedValues) → IsGoodMixed v → IsListOf (version_letter v.head.listed) v.head.listed
list_of v g = record { list = g.heading.listed; letter = refl }

pub whole_mixed : (v : MixedValues) → HaveOnePlace → IsGoodMixed v → AreWhole (mixed_text v)
whole_mixed v place g =
    subst (λ (t : List ℕ). AreWhole t) (all_is v)
    (whole_then _ _ (whole_line _ _ (of_version (version_letter v.head.listed) (file_letter v.head.listed)))
    (whole_then _ _ (whole_line _ _ (of_made v.head.made))
    (whole_then _ _ (whole_line _ _ (of_marker v.head.marker g.heading.marker))
    (whole_then _ _ whole_unknown
    (whole_then _ _ (whole_line _ _ (of_place v.site g.site))
    (whole_then _ _ (whole_line _ _ (of_height v.site.height g.site.3))
    (whole_then _ _ (whole_types v.head.doppler (version_letter v.head.listed) v.head.listed place (list_of v g))
    (whole_then _ _ (whole_line _ _ (of_first v.first g.first))
    (whole_then _ _ (whole_shifts v.head.listed)
    (whole_then _ _ (whole_glonass v.head.listed v.head.glonass g.heading.glonass) whole_end))))))))))
