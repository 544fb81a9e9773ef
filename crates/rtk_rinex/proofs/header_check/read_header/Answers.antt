use Rattle.std.proofs.Common.{◌≡◌, ◌∙◌, ◌++◌, ℕ, List, [], ◌∷◌, length, take, drop, get_or, arith, ap, refl, sym, ◌<◌}
use Rattle.std.specs.Int.{IsInRange}
use Rattle.std.proofs.lemmas.List.{get_or-take, length-take}
use Rattle.rtk_obs.specs.declared.code.Code.{Code}
use Rattle.rtk_obs.specs.declared.time.Civil.{Civil}
use Rattle.rtk_rinex.specs.Header.{HeadView, version_line, made_line, marker_line, position_view, place_line, height_line, types_lines, unit_line, first_line, header_text}
use Rattle.rtk_obs.specs.Reading.{reading_of}
use Rattle.rtk_rinex.proofs.HeaderLemmas.{parts-in_row}
use Rattle.rtk_obs.proofs.PublicLaws.{reading_is}
use Rattle.rtk_rinex.proofs.HeaderShownLemmas.{good_or, shown_or, some_or}
use Rattle.rtk_rinex.proofs.HeaderRowsLemmas.{one_text, text_of-types, unknown_text, Values, IsGood, values_of, version_part, made_row, marker_row, unknown_part, place_row, height_row, types_part, unit_part, first_row, end_part, from_made, from_marker, from_unknown, from_place, from_height, from_types, from_unit, from_first, all_parts}
use Rattle.rtk_rinex.proofs.PartLemmas.{ReadsBack, back_then, back_fixed, back_line, ends_line, starts}
use Rattle.rtk_rinex.proofs.HeaderTypesLemmas.{ShowsTypes, types_end, types_back}
use Rattle.rtk_rinex.proofs.HeaderPartsLemmas.{shows_header}
use Rattle.rtk_rinex.proofs.header_check.read_header.Goals as goal

-- ---- the parts that are read

abbrev values : (c : goal.After-with_height) → Values
values c = values_of c.in-Ok.head (position_view c.with_height.result) c.unwrap_or-first.result

good : (c : goal.After-with_height) → IsGood (values c)
good c =
    let p = c.with_height.result in
    record { heading = c.in-Ok.ensures.good; site = (p.x_fits, p.y_fits, p.z_fits, omega arith); first = omega arith }

listed_is : (c : goal.After-with_height) → c.in-Ok.head.listed ≡ take c.unwrap_or-count.result c.read_codes-codes.result
listed_is c =
    ap (λ (h : HeadView). h.listed) c.in-Ok.ensures.head ∙ c.split_at.ensures.front ∙ ap (λ (cs : List Code). take c.unwrap_or-count.result cs) c.as_slice.ensures

count_is : (c : goal.After-with_height) → length c.in-Ok.head.listed ≡ c.unwrap_or-count.result
count_is c =
    let n = length-take c.unwrap_or-count.result c.read_codes-codes.result in
    let range : IsInRange 1 16 c.unwrap_or-count.result =
    rw c.unwrap_or-count.ensures (good_or (IsInRange 1 16) c.read_code_count.result 1 c.read_code_count.ensures.good (omega arith, omega arith)) in
    ap length (listed_is c) ∙ omega (arith, n, c.read_codes-codes.ensures.all.length, range)

-- ---- each part as it is put

made_put : (c : goal.After-with_height) → c.put_made_line.new.out.items ≡ c.put_version_line.new.out.items ++ made_line (reading_of c.in-Ok.head.made)
made_put c =
    let made : c.civil.result ≡ reading_of c.in-Ok.head.made =
    reading_is c.moment.result c.civil.result c.civil.ensures.reading ∙ ap reading_of (c.moment.ensures.value ∙ sym (ap (λ (h : HeadView). h.made) c.in-Ok.ensures.head)) in
    c.put_made_line.ensures.items ∙ ap (λ (d : Civil). c.put_version_line.new.out.items ++ made_line d) made

marker_put : (c : goal.After-with_height) → c.put_marker_line.new.out.items ≡ c.put_made_line.new.out.items ++ marker_line c.in-Ok.head.marker
marker_put c =
    c.put_marker_line.ensures.items ∙ ap (λ (m : List ℕ). c.put_made_line.new.out.items ++ marker_line m) (c.as_bytes.ensures.value ∙ sym (ap (λ (h : HeadView). h.marker) c.in-Ok.ensures.head))

place_put : (c : goal.After-with_height) → c.put_place_line.new.out.items ≡ c.put_unknown_lines.new.out.items ++ place_line (position_view c.with_height.result)
place_put c = let same = c.with_height.ensures in rw (same.0, same.1, same.2) c.put_place_line.ensures.items

height_put : (c : goal.After-with_height) → c.put_height_line.new.out.items ≡ c.put_place_line.new.out.items ++ height_line c.with_height.result.height
height_put c = rw c.with_height.ensures.3 c.put_height_line.ensures.items

types_put : (c : goal.After-with_height) → c.put_types_lines.new.out.items ≡ c.put_height_line.new.out.items ++ types_lines c.in-Ok.head.listed
types_put c = c.put_types_lines.ensures.items ∙ ap (λ (cs : List Code). c.put_height_line.new.out.items ++ types_lines cs) c.codes.ensures.value

first_put : (c : goal.After-with_height) → c.put_first_line.new.out.items ≡ c.put_unit_line.new.out.items ++ first_line (reading_of c.unwrap_or-first.result)
first_put c =
    c.put_first_line.ensures.items ∙ ap (λ (d : Civil). c.put_unit_line.new.out.items ++ first_line d) (reading_is c.unwrap_or-first.result c.civil-2.result c.civil-2.ensures.reading)

written : (c : goal.After-with_height) → c.put_end_lines.new.out.items ≡ header_text c.in-Ok.head (position_view c.with_height.result) c.unwrap_or-first.result
unfolding header_text
written c =
    let h = c.in-Ok.head in
    let s = position_view c.with_height.result in
    rw (c.put_end_lines.ensures.items, first_put c, c.put_unit_line.ensures.items, types_put c, height_put c, place_put c, c.put_unknown_lines.ensures.items, marker_put c, made_put c, c.put_version_line.ensures.items, c.requires.empty)
    (parts-in_row version_line (made_line (reading_of h.made)) (marker_line h.marker) _ _ _ _ (place_line s) (height_line s.height) (types_lines h.listed) unit_line (first_line (reading_of c.unwrap_or-first.result)) _ _)

-- ---- each part as it is read

place_at : (text out read : List ℕ) (n : ℕ) → read ≡ drop n text → n ≡ length out → read ≡ drop (length out) text
place_at text out read n e f = e ∙ ap (λ (k : ℕ). drop k text) f

types_shown : (c : goal.After-with_height) → ShowsTypes (drop (length c.put_height_line.new.out.items) c.args.text.now) c.in-Ok.head.listed
types_shown c =
    let at = place_at c.args.text.now c.put_height_line.new.out.items c.after-types.result.now c.len-5.result c.after-types.ensures c.len-5.ensures.value in
    record {
      count = λ n shown range line. count_is c
          ∙ shown_or c.read_code_count.result _ c.unwrap_or-count.result n c.unwrap_or-count.ensures (c.read_code_count.ensures.shown n shown range (line.0, at ∙ line.1));
      listed = λ ds i e distinct same range lt names.
          let below : i < c.unwrap_or-count.result = omega (arith, count_is c, same, lt) in
          ap (λ (cs : List Code). get_or cs i e) (listed_is c) ∙ get_or-take c.unwrap_or-count.result c.read_codes-codes.result i e below
          ∙ c.read_codes-codes.ensures.shown ds i e distinct lt (omega (arith, lt, range)) (λ j le. rw at (names j le));
    }

back : (c : goal.After-with_height) → ReadsBack all_parts c.args.text.now (values c)
back c =
    let text = c.args.text.now in
    let v = values_of c.in-Ok.head (position_view c.with_height.result) c.unwrap_or-first.result in
    let g : IsGood v = good c in
    let head = c.in-Ok.ensures.head in
    let same = c.with_height.ensures in
    back_then (λ x. version_part) from_made text [] c.put_version_line.new.out.items v (λ u w p q h k e. ap (λ (l : List (List ℕ)). drop 1 l) e) g
    (c.put_version_line.ensures.items ∙ ap (λ (o : List ℕ). o ++ version_line) c.requires.empty ∙ one_text _ _) (back_fixed version_part text v)
    (back_then (λ x. made_row x.head.made ∷ []) from_marker text c.put_version_line.new.out.items c.put_made_line.new.out.items v (ends_line made_row (λ x. x.head.made)) g
    (made_put c ∙ ap (λ (l : List ℕ). c.put_version_line.new.out.items ++ l) (one_text _ _))
    (back_line made_row (λ x. x.head.made) _ v (λ u h line.
    ap (λ (a : HeadView). a.made) head ∙ shown_or c.read_made.result _ c.unwrap_or-made.result u.head.made c.unwrap_or-made.ensures
    (c.read_made.ensures u.head.made h.heading.2 h.heading.3 (starts _ _ _ _ (place_at text _ _ _ c.after.ensures c.len.ensures.value) line))))
    (back_then (λ x. marker_row x.head.marker ∷ []) from_unknown text c.put_made_line.new.out.items c.put_marker_line.new.out.items v (ends_line marker_row (λ x. x.head.marker)) g
    (marker_put c ∙ ap (λ (l : List ℕ). c.put_made_line.new.out.items ++ l) (one_text _ _))
    (back_line marker_row (λ x. x.head.marker) _ v (λ u h line.
    ap (λ (a : HeadView). a.marker) head ∙ shown_or c.read_marker.result _ c.unwrap_or-marker.result u.head.marker c.unwrap_or-marker.ensures
    (c.read_marker.ensures u.head.marker h.heading.0 (starts _ _ _ _ (place_at text _ _ _ c.after-2.ensures c.len-2.ensures.value) line))))
    (back_then (λ x. unknown_part) from_place text c.put_marker_line.new.out.items c.put_unknown_lines.new.out.items v (λ u w p q h k e. ap (λ (l : List (List ℕ)). drop 4 l) e) g
    (c.put_unknown_lines.ensures.items ∙ unknown_text c.put_marker_line.new.out.items) (back_fixed unknown_part _ v)
    (back_then (λ x. place_row x.site ∷ []) from_height text c.put_unknown_lines.new.out.items c.put_place_line.new.out.items v (ends_line place_row (λ x. x.site)) g
    (place_put c ∙ ap (λ (l : List ℕ). c.put_unknown_lines.new.out.items ++ l) (one_text _ _))
    (back_line (λ (row : List ℕ). row) (λ x. place_row x.site) _ v (λ u h line.
    let shown = some_or _ c.read_place.result _ c.unwrap_or-place.result c.unwrap_or-place.ensures
    (c.read_place.ensures u.site h.site (starts _ _ _ _ (place_at text _ _ _ c.after-3.ensures c.len-3.ensures.value) line)) in
    rw (same.0 ∙ shown.0, same.1 ∙ shown.1, same.2 ∙ shown.2) refl))
    (back_then (λ x. height_row x.site.height ∷ []) from_types text c.put_place_line.new.out.items c.put_height_line.new.out.items v (ends_line height_row (λ x. x.site.height)) g
    (height_put c ∙ ap (λ (l : List ℕ). c.put_place_line.new.out.items ++ l) (one_text _ _))
    (back_line height_row (λ x. x.site.height) _ v (λ u h line.
    same.3 ∙ shown_or c.read_height.result _ c.unwrap_or-height.result u.site.height c.unwrap_or-height.ensures
    (c.read_height.ensures u.site.height h.site.3 (starts _ _ _ _ (place_at text _ _ _ c.after-4.ensures c.len-4.ensures.value) line))))
    (back_then types_part from_unit text c.put_height_line.new.out.items c.put_types_lines.new.out.items v types_end g
    (types_put c ∙ ap (λ (l : List ℕ). c.put_height_line.new.out.items ++ l) (sym (text_of-types c.in-Ok.head.listed g.heading.1.0)))
    (types_back _ v (types_shown c))
    (back_then (λ x. unit_part) from_first text c.put_types_lines.new.out.items c.put_unit_line.new.out.items v (λ u w p q h k e. ap (λ (l : List (List ℕ)). drop 1 l) e) g
    (c.put_unit_line.ensures.items ∙ ap (λ (l : List ℕ). c.put_types_lines.new.out.items ++ l) (one_text _ _)) (back_fixed unit_part _ v)
    (back_then (λ x. first_row x.first ∷ []) (λ x. end_part) text c.put_unit_line.new.out.items c.put_first_line.new.out.items v (ends_line first_row (λ x. x.first)) g
    (first_put c ∙ ap (λ (l : List ℕ). c.put_unit_line.new.out.items ++ l) (one_text _ _))
    (back_line first_row (λ x. x.first) _ v (λ u h line.
    shown_or c.read_first.result _ c.unwrap_or-first.result u.first c.unwrap_or-first.ensures
    (c.read_first.ensures u.first h.first (starts _ _ _ _ (place_at text _ _ _ c.after-5.ensures c.len-6.ensures.value) line))))
    (back_fixed end_part _ v)))))))))

pub returns-clause-written : goal.returns-clause-written
returns-clause-written c = written c

pub returns-clause-shown : goal.returns-clause-shown
returns-clause-shown c = shows_header c.args.text.now c.put_end_lines.new.out.items (values c) (good c) (written c) (back c)
