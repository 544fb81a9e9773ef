-- The tenth line of a file of any systems tells whether it has Doppler shifts: nine lines of 81 bytes stand before it.
use Rattle.std.proofs.Common.{◌≡◌, ◌==◌, ◌+◌, ◌≤◌, ℕ, List, [], ◌∷◌, ◌++◌, length, get_or, get_or-append-add, codes, pos, append_assoc, length-append, arith, refl, sym, ap, ◌∙◌}
use Rattle.std.specs.Prelude.{flat_map}
use Rattle.rtk_obs.specs.Reading.{reading_of}
use Rattle.rtk_rinex.specs.Columns.{fixed}
use Rattle.rtk_rinex.specs.Header.{IsMarker, PositionView, IsPositionView, header_line, made_text, made_line, marker_line, place_line, height_line, position_lines, unit_line, first_line}
use Rattle.rtk_rinex.specs.MixedHead.{MixedHeadView}
use Rattle.rtk_rinex.specs.MixedHeader.{version_letter, mixed_version_line, unknown_lines, by_system, system_types_lines, phase_shift_line, glonass_lines, mixed_header_text}
use Rattle.rtk_rinex.specs.MixedRecord.{mixed_record_text}
use Rattle.rtk_rinex.specs.MixedTable.{has_shift_type, TypesTellShifts}
use Rattle.rtk_rinex.specs.Steps.MixedHeaderRead.{types_and_unit}
use Rattle.rtk_rinex.proofs.FlagLemmas.{HasFlag, flag_after, types_flag}
use Rattle.rtk_rinex.proofs.HeaderShownLemmas.{length-fixed, IsCoordinate-height}
use Rattle.rtk_rinex.proofs.MixedListLemmas.{HaveOnePlace}
use Rattle.rtk_rinex.proofs.MixedRoomLemmas.{length-header_line}

-- ---- the first nine lines

length-unknown : length unknown_lines ≡ 324
length-unknown =
    let a : List ℕ = header_line (codes "GEODETIC") (codes "MARKER TYPE") in
    let b : List ℕ = header_line [] (codes "OBSERVER / AGENCY") in
    let c : List ℕ = header_line [] (codes "REC # / TYPE / VERS") in
    let d : List ℕ = header_line [] (codes "ANT # / TYPE") in
    let p : length a ≡ 81 = length-header_line (codes "GEODETIC") (codes "MARKER TYPE") (omega arith) (omega arith) in
    let q : length b ≡ 81 = length-header_line [] (codes "OBSERVER / AGENCY") (omega arith) (omega arith) in
    let r : length c ≡ 81 = length-header_line [] (codes "REC # / TYPE / VERS") (omega arith) (omega arith) in
    let t : length d ≡ 81 = length-header_line [] (codes "ANT # / TYPE") (omega arith) (omega arith) in
    omega (arith, p, q, r, t, length-append ((a ++ b) ++ c) d, length-append (a ++ b) c, length-append a b)

length-place : (s : PositionView) → IsPositionView s → length (place_line s) ≡ 81
length-place s good =
    let x : List ℕ = fixed 4 14 s.x in
    let y : List ℕ = fixed 4 14 s.y in
    let z : List ℕ = fixed 4 14 s.z in
    let wide : length ((x ++ y) ++ z) ≤ 60 = omega (arith, length-fixed s.x good.0, length-fixed s.y good.1, length-fixed s.z good.2, length-append (x ++ y) z, length-append x y) in
    length-header_line ((x ++ y) ++ z) (codes "APPROX POSITION XYZ") wide (omega arith)

length-height : (s : PositionView) → IsPositionView s → length (height_line s.height) ≡ 81
length-height s good =
    let x : List ℕ = fixed 4 14 (pos s.height) in
    let zeros : List ℕ = codes "        0.0000        0.0000" in
    let wide : length (x ++ zeros) ≤ 60 = omega (arith, length-fixed (pos s.height) (IsCoordinate-height s.height good.3), length-append x zeros) in
    length-header_line (x ++ zeros) (codes "ANTENNA: DELTA H/E/N") wide (omega arith)

length-made : (h : MixedHeadView) → length (made_line (reading_of h.made)) ≡ 81
length-made h =
    let content : List ℕ = codes "rtcm2rinex                              " ++ made_text (reading_of h.made) in
    let wide : length content ≡ 60 = refl in
    length-header_line content (codes "PGM / RUN BY / DATE") (omega (arith, wide)) (omega arith)

nine_lines : MixedHeadView → PositionView → List ℕ
nine_lines h s = (((mixed_version_line (version_letter h.listed) ++ made_line (reading_of h.made)) ++ marker_line h.marker) ++ unknown_lines) ++ position_lines s

length-nine : (h : MixedHeadView) (s : PositionView) → IsMarker h.marker → IsPositionView s → length (nine_lines h s) ≡ 729
unfolding nine_lines
length-nine h s good site =
    let v : List ℕ = mixed_version_line (version_letter h.listed) in
    let m : List ℕ = made_line (reading_of h.made) in
    let k : List ℕ = marker_line h.marker in
    let a : length v ≡ 81 =
    length-header_line (codes "     3.05           OBSERVATION DATA    " ++ version_letter h.listed ∷ []) (codes "RINEX VERSION / TYPE") (omega arith) (omega arith) in
    let b : length m ≡ 81 = length-made h in
    let c : length k ≡ 81 = length-header_line h.marker (codes "MARKER NAME") (omega (arith, good.0)) (omega arith) in
    omega (
      arith,
      a,
      b,
      c,
      length-unknown,
      length-place s site,
      length-height s site,
      length-append (((v ++ m) ++ k) ++ unknown_lines) (position_lines s),
      length-append ((v ++ m) ++ k) unknown_lines,
      length-append (v ++ m) k,
      length-append v m,
      length-append (place_line s) (height_line s.height),
    )

-- ---- the tenth

glue_types : (n t u f s g z r : List ℕ) → ((((((n ++ t) ++ u) ++ f) ++ s) ++ g) ++ z) ++ r ≡ n ++ ((t ++ u) ++ (f ++ (s ++ (g ++ (z ++ r)))))
glue_types n t u f s g z r = simp append_assoc

-- what stands after the types, in a header with this text behind it
after_types : MixedHeadView → ℕ → List ℕ → List ℕ
after_types h first r =
    first_line (reading_of first) ++ (by_system phase_shift_line h.listed ++ (glonass_lines h.glonass ++ (header_line [] (codes "END OF HEADER") ++ r)))

types_at : (h : MixedHeadView) (s : PositionView) (first : ℕ) (r : List ℕ) → mixed_header_text h s first ++ r ≡ nine_lines h s ++ (types_and_unit h.doppler h.listed ++ after_types h first r)
unfolding mixed_header_text nine_lines after_types
types_at h s first r =
    glue_types ((((mixed_version_line (version_letter h.listed) ++ made_line (reading_of h.made)) ++ marker_line h.marker) ++ unknown_lines) ++ position_lines s)
    (by_system (system_types_lines h.doppler) h.listed) unit_line (first_line (reading_of first)) (by_system phase_shift_line h.listed) (glonass_lines h.glonass)
    (header_line [] (codes "END OF HEADER")) r

-- a header, and whatever stands behind it
pub header-tells : (h : MixedHeadView) (s : PositionView) (first : ℕ) (r : List ℕ) → IsMarker h.marker → IsPositionView s → HasFlag h.doppler (types_and_unit h.doppler h.listed)
    → has_shift_type (mixed_header_text h s first ++ r) ≡ h.doppler
header-tells h s first r marker site flag =
    let front : List ℕ = nine_lines h s in
    let types : List ℕ = types_and_unit h.doppler h.listed in
    let rest : List ℕ = after_types h first r in
    ap has_shift_type (types_at h s first r)
    ∙ ap (λ (n : ℕ). get_or (front ++ (types ++ rest)) (n + 15) 0 == 68) (sym (length-nine h s marker site))
    ∙ ap (λ (x : ℕ). x == 68) (get_or-append-add front (types ++ rest) 15 0)
    ∙ flag_after h.doppler types rest flag

pub types-tell : HaveOnePlace → TypesTellShifts
types-tell place t good =
    let h : MixedHeadView = t.head in
    header-tells h t.site t.first (flat_map (mixed_record_text h.doppler) t.epochs) good.head.marker good.site
    (types_flag h.doppler (version_letter h.listed) h.listed place (record { list = good.head.listed; letter = refl }))
