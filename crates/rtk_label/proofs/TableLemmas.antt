-- The text of a table with a label, in its parts; a blank label is none.
use Rattle.std.proofs.Common.{◌≡◌, ◌≤◌, ℕ, ◌+◌, List, [], ◌∷◌, ◌++◌, length, codes, pos, ap, sym, arith, refl, ◌∙◌, append_assoc, length-append}
use Rattle.std.specs.Prelude.{flat_map}
use Rattle.rtk_obs.specs.declared.time.Civil.{Civil}
use Rattle.rtk_rinex.specs.Columns.{left, fixed}
use Rattle.rtk_rinex.specs.Header.{HeadView, PositionView, IsMarker, IsPositionView, header_line, made_text, made_line, marker_line, place_line, height_line, types_lines, unit_line, first_line, first_text, last_lines, header_text}
use Rattle.rtk_rinex.specs.MixedHead.{MixedHeadView}
use Rattle.rtk_rinex.specs.MixedHeader.{version_letter, mixed_version_line, by_system, system_types_lines, phase_shift_line, glonass_lines, mixed_header_text}
use Rattle.rtk_obs.specs.Reading.{reading_of}
use Rattle.rtk_rinex.specs.Record.{record_text}
use Rattle.rtk_rinex.specs.MixedRecord.{mixed_record_text}
use Rattle.rtk_rinex.specs.Table.{WellFormedTable, IsWellFormedTable, table_text}
use Rattle.rtk_rinex.specs.MixedTable.{MixedTable, IsMixedTable, mixed_table_text}
use Rattle.rtk_label.specs.Fields.{marker_number_line}
use Rattle.rtk_label.specs.Labelled.{LabelView, IsLabel, blank_label, top_lines, middle_lines, labelled_header, labelled_text, labelled_mixed_header, labelled_mixed_text}
use Rattle.rtk_label.proofs.FileParts.{FileParts, AreFileParts, text_of_parts, parts_of, mixed_parts_of}
use Rattle.rtk_label.proofs.PieceLemmas.{joined, HasWidths}
use Rattle.rtk_label.proofs.OffsetLemmas.{zero_offset}
use Rattle.rtk_label.proofs.LineLemmas.{length-line}
use Rattle.rtk_label.proofs.FrontLemmas.{top_widths, top_front, top_back, top_is, top_is_sized, middle_widths, line_cells, middle_is, line_cells_sized}

abbrev total : List ℕ → ℕ
total [] = 0
total (w ∷ ws) = w + total ws

length-joined : (ws : List ℕ) (xs : List (List ℕ)) → HasWidths ws xs → length (joined xs) ≡ total ws
length-joined [] [] h = refl
length-joined [] (x ∷ xs) h = absurd h
length-joined (w ∷ ws) [] h = absurd h
length-joined (w ∷ ws) (x ∷ xs) h = length-append x (joined xs) ∙ omega (arith, h.0, length-joined ws xs h.1)

pub length-three : (xs : List (List ℕ)) → HasWidths top_widths xs → length (joined xs) ≡ 243
length-three xs h = length-joined top_widths xs h

pub length-six : (xs : List (List ℕ)) → HasWidths middle_widths xs → length (joined xs) ≡ 486
length-six xs h = length-joined middle_widths xs h

pub length-top : (letter : ℕ) (run marker : List ℕ) (made : Civil) → length run ≤ 20 → IsMarker marker → length (top_lines letter run marker made) ≡ 243
length-top letter run marker made h m = ap length (top_is letter run marker made h) ∙ length-three (top_front letter ∷ left 20 run ∷ top_back marker made ∷ []) (top_is_sized letter run marker made h m)

pub length-middle : (l : LabelView) (s : PositionView) → IsLabel l → IsPositionView s → length (middle_lines l s) ≡ 486
length-middle l s is p = ap length (middle_is l s is p) ∙ length-six (line_cells l s) (line_cells_sized l s is p)

-- ---- a blank label

blank_program : (made label : List ℕ) → header_line (codes "rtcm2rinex          " ++ left 20 [] ++ made) label ≡ header_line (codes "rtcm2rinex                              " ++ made) label
unfolding left
blank_program made label = refl

blank_observer : (label : List ℕ) → header_line (left 20 [] ++ left 40 []) label ≡ header_line [] label
unfolding header_line left
blank_observer label = refl

blank_receiver : (label : List ℕ) → header_line (left 20 [] ++ left 20 [] ++ left 20 []) label ≡ header_line [] label
unfolding header_line left
blank_receiver label = refl

blank_antenna : (label : List ℕ) → header_line (left 20 [] ++ left 20 []) label ≡ header_line [] label
unfolding header_line left
blank_antenna label = refl

blank_offsets : (height label : List ℕ) → header_line (height ++ zero_offset ++ zero_offset) label ≡ header_line (height ++ codes "        0.0000        0.0000") label
blank_offsets height label = ap (λ (c : List ℕ). header_line c label) (append_assoc height zero_offset zero_offset)

-- ten lines without the fields of a label, in a header that ends with z
glue_blank : (v g m n t o r a p d z : List ℕ) → (((((v ++ g) ++ m) ++ n) ++ (((((t ++ o) ++ r) ++ a) ++ p) ++ d))) ++ z
    ≡ v ++ (g ++ (m ++ (n ++ (t ++ (o ++ (r ++ (a ++ (p ++ (d ++ z)))))))))
glue_blank v g m n t o r a p d z = simp append_assoc

-- the first nine lines of a header without fields, before z
abbrev nine_lines : ℕ → List ℕ → Civil → PositionView → List ℕ → List ℕ
nine_lines letter marker made s z =
    mixed_version_line letter ++ (made_line made ++ (marker_line marker ++ (header_line (codes "GEODETIC") (codes "MARKER TYPE")
    ++ (header_line [] (codes "OBSERVER / AGENCY") ++ (header_line [] (codes "REC # / TYPE / VERS") ++ (header_line [] (codes "ANT # / TYPE")
    ++ (place_line s ++ (height_line s.height ++ z))))))))

-- the lines of a blank label are these
pub blank_nine : (letter : ℕ) (marker : List ℕ) (made : Civil) (s : PositionView) (z : List ℕ)
    → ((top_lines letter [] marker made ++ []) ++ middle_lines blank_label s) ++ z ≡ nine_lines letter marker made s z
blank_nine letter marker made s z =
    let v : List ℕ = mixed_version_line letter in
    let m : List ℕ = marker_line marker in
    let t : List ℕ = header_line (codes "GEODETIC") (codes "MARKER TYPE") in
    let p : List ℕ = place_line s in
    let d : List ℕ = header_line (fixed 4 14 (pos s.height) ++ zero_offset ++ zero_offset) (codes "ANTENNA: DELTA H/E/N") in
    let o : List ℕ = header_line (left 20 [] ++ left 40 []) (codes "OBSERVER / AGENCY") in
    let r : List ℕ = header_line (left 20 [] ++ left 20 [] ++ left 20 []) (codes "REC # / TYPE / VERS") in
    let a : List ℕ = header_line (left 20 [] ++ left 20 []) (codes "ANT # / TYPE") in
    glue_blank v (header_line (codes "rtcm2rinex          " ++ left 20 [] ++ made_text made) (codes "PGM / RUN BY / DATE")) m [] t o r a p d z
    ∙ ap (λ (x : List ℕ). v ++ (x ++ (m ++ (t ++ (o ++ (r ++ (a ++ (p ++ (d ++ z))))))))) (blank_program (made_text made) (codes "PGM / RUN BY / DATE"))
    ∙ ap (λ (x : List ℕ). v ++ (made_line made ++ (m ++ (t ++ (x ++ (r ++ (a ++ (p ++ (d ++ z))))))))) (blank_observer (codes "OBSERVER / AGENCY"))
    ∙ ap (λ (x : List ℕ). v ++ (made_line made ++ (m ++ (t ++ (header_line [] (codes "OBSERVER / AGENCY") ++ (x ++ (a ++ (p ++ (d ++ z))))))))) (blank_receiver (codes "REC # / TYPE / VERS"))
    ∙ ap (λ (x : List ℕ). v ++ (made_line made ++ (m ++ (t ++ (header_line [] (codes "OBSERVER / AGENCY") ++ (header_line [] (codes "REC # / TYPE / VERS") ++ (x ++ (p ++ (d ++ z)))))))))
    (blank_antenna (codes "ANT # / TYPE"))
    ∙ ap (λ (x : List ℕ). v ++ (made_line made ++ (m ++ (t ++ (header_line [] (codes "OBSERVER / AGENCY") ++ (header_line [] (codes "REC # / TYPE / VERS") ++ (header_line [] (codes "ANT # / TYPE") ++ (p ++ (x ++ z)))))))))
    (blank_offsets (fixed 4 14 (pos s.height)) (codes "ANTENNA: DELTA H/E/N"))

glue_gps : (v g m t o r a p d x y : List ℕ) → ((((((((v ++ g) ++ m) ++ t) ++ o) ++ r) ++ a) ++ (p ++ d)) ++ x) ++ y ≡ v ++ (g ++ (m ++ (t ++ (o ++ (r ++ (a ++ (p ++ (d ++ (x ++ y)))))))))
glue_gps v g m t o r a p d x y = simp append_assoc

pub blank_header : (h : HeadView) (s : PositionView) (first : ℕ) → labelled_header blank_label h s first ≡ header_text h s first
unfolding labelled_header header_text
blank_header h s first =
    let made = reading_of h.made in
    let x : List ℕ = types_lines h.listed in
    let y : List ℕ = last_lines (reading_of first) in
    append_assoc ((top_lines 71 [] h.marker made ++ []) ++ middle_lines blank_label s) x y
    ∙ blank_nine 71 h.marker made s (x ++ y)
    ∙ sym (glue_gps (mixed_version_line 71) (made_line made) (marker_line h.marker) (header_line (codes "GEODETIC") (codes "MARKER TYPE"))
    (header_line [] (codes "OBSERVER / AGENCY")) (header_line [] (codes "REC # / TYPE / VERS")) (header_line [] (codes "ANT # / TYPE"))
    (place_line s) (height_line s.height) x y)

pub blank_text : (t : WellFormedTable) → labelled_text blank_label t ≡ table_text t
blank_text t = ap (λ (header : List ℕ). header ++ flat_map record_text t.epochs) (blank_header t.head t.site t.first)

glue_after : (b x u o q g e : List ℕ) → (((((b ++ x) ++ u) ++ o) ++ q) ++ g) ++ e ≡ b ++ (((((x ++ u) ++ o) ++ q) ++ g) ++ e)
glue_after b x u o q g e = simp append_assoc

glue_mixed : (v w m t o r a p d x u f q g e : List ℕ) → (((((((((v ++ w) ++ m) ++ (((t ++ o) ++ r) ++ a)) ++ (p ++ d)) ++ x) ++ u) ++ f) ++ q) ++ g) ++ e
    ≡ v ++ (w ++ (m ++ (t ++ (o ++ (r ++ (a ++ (p ++ (d ++ (((((x ++ u) ++ f) ++ q) ++ g) ++ e)))))))))
glue_mixed v w m t o r a p d x u f q g e = simp append_assoc

pub blank_mixed_header : (h : MixedHeadView) (s : PositionView) (first : ℕ) → labelled_mixed_header blank_label h s first ≡ mixed_header_text h s first
unfolding labelled_mixed_header mixed_header_text
blank_mixed_header h s first =
    let made = reading_of h.made in
    let letter : ℕ = version_letter h.listed in
    let x : List ℕ = by_system (system_types_lines h.doppler) h.listed in
    let u : List ℕ = unit_line in
    let f : List ℕ = first_line (reading_of first) in
    let q : List ℕ = by_system phase_shift_line h.listed in
    let g : List ℕ = glonass_lines h.glonass in
    let e : List ℕ = header_line [] (codes "END OF HEADER") in
    glue_after ((top_lines letter [] h.marker made ++ []) ++ middle_lines blank_label s) x u f q g e
    ∙ blank_nine letter h.marker made s (((((x ++ u) ++ f) ++ q) ++ g) ++ e)
    ∙ sym (glue_mixed (mixed_version_line letter) (made_line made) (marker_line h.marker) (header_line (codes "GEODETIC") (codes "MARKER TYPE"))
    (header_line [] (codes "OBSERVER / AGENCY")) (header_line [] (codes "REC # / TYPE / VERS")) (header_line [] (codes "ANT # / TYPE"))
    (place_line s) (height_line s.height) x u f q g e)

pub blank_mixed_text : (t : MixedTable) → labelled_mixed_text blank_label t ≡ mixed_table_text t
blank_mixed_text t = ap (λ (header : List ℕ). header ++ flat_map (mixed_record_text t.head.doppler) t.epochs) (blank_mixed_header t.head t.site t.first)

-- ---- the parts

glue_parts : (a n m x y r : List ℕ) → ((((a ++ n) ++ m) ++ x) ++ y) ++ r ≡ a ++ (n ++ (m ++ ((x ++ y) ++ r)))
glue_parts a n m x y r = simp append_assoc

pub label_parts : (l : LabelView) (t : WellFormedTable) → labelled_text l t ≡ text_of_parts l (parts_of t)
unfolding labelled_header
label_parts l t =
    glue_parts (top_lines 71 l.run_by t.head.marker (reading_of t.head.made)) (marker_number_line l.marker_number) (middle_lines l t.site)
    (types_lines t.head.listed) (last_lines (reading_of t.first)) (flat_map record_text t.epochs)

pub plain_parts : (t : WellFormedTable) → table_text t ≡ text_of_parts blank_label (parts_of t)
plain_parts t = sym (blank_text t) ∙ label_parts blank_label t

glue_mixed_parts : (a n m x u o q g e r : List ℕ) → ((((((((a ++ n) ++ m) ++ x) ++ u) ++ o) ++ q) ++ g) ++ e) ++ r ≡ a ++ (n ++ (m ++ ((((((x ++ u) ++ o) ++ q) ++ g) ++ e) ++ r)))
glue_mixed_parts a n m x u o q g e r = simp append_assoc

pub mixed_label_parts : (l : LabelView) (t : MixedTable) → labelled_mixed_text l t ≡ text_of_parts l (mixed_parts_of t)
unfolding labelled_mixed_header
mixed_label_parts l t =
    glue_mixed_parts (top_lines (version_letter t.head.listed) l.run_by t.head.marker (reading_of t.head.made)) (marker_number_line l.marker_number) (middle_lines l t.site)
    (by_system (system_types_lines t.head.doppler) t.head.listed) unit_line (first_line (reading_of t.first)) (by_system phase_shift_line t.head.listed) (glonass_lines t.head.glonass)
    (header_line [] (codes "END OF HEADER")) (flat_map (mixed_record_text t.head.doppler) t.epochs)

pub mixed_plain_parts : (t : MixedTable) → mixed_table_text t ≡ text_of_parts blank_label (mixed_parts_of t)
mixed_plain_parts t = sym (blank_mixed_text t) ∙ mixed_label_parts blank_label t

length-end : 81 ≤ length (header_line [] (codes "END OF HEADER"))
length-end = let size = length-line [] (codes "END OF HEADER") (omega arith) (omega arith) in omega (arith, size)

-- a text that ends with this line and other lines has it
ends-more : (front end more : List ℕ) → 81 ≤ length end → 81 ≤ length ((front ++ end) ++ more)
ends-more front end more long =
    let a = length-append (front ++ end) more in
    let b = length-append front end in
    omega (arith, a, b, long)

length-last : (c : Civil) → 81 ≤ length (last_lines c)
length-last c =
    let a : List ℕ = header_line (codes "DBHZ") (codes "SIGNAL STRENGTH UNIT") ++ header_line (first_text c) (codes "TIME OF FIRST OBS") ++ header_line (codes "G") (codes "SYS / PHASE SHIFT") in
    let b : List ℕ = header_line [] (codes "END OF HEADER") in
    omega (arith, length-append a b, length-line [] (codes "END OF HEADER") (omega arith) (omega arith))

pub long-after : (t : WellFormedTable) → 81 ≤ length (parts_of t).rest
long-after t = ends-more (types_lines t.head.listed) (last_lines (reading_of t.first)) (flat_map record_text t.epochs) (length-last (reading_of t.first))

pub parts-good : (t : WellFormedTable) → IsWellFormedTable t → AreFileParts (parts_of t)
parts-good t good = record { marker = good.head.0; site = good.site; more = long-after t }

pub mixed_long-after : (t : MixedTable) → 81 ≤ length (mixed_parts_of t).rest
mixed_long-after t =
    ends-more (by_system (system_types_lines t.head.doppler) t.head.listed ++ unit_line ++ first_line (reading_of t.first) ++ by_system phase_shift_line t.head.listed ++ glonass_lines t.head.glonass)
    (header_line [] (codes "END OF HEADER")) (flat_map (mixed_record_text t.head.doppler) t.epochs) length-end

pub mixed_parts-good : (t : MixedTable) → IsMixedTable t → AreFileParts (mixed_parts_of t)
mixed_parts-good t good = record { marker = good.head.marker; site = good.site; more = mixed_long-after t }

pub length-labelled : (l : LabelView) (p : FileParts) → IsLabel l → AreFileParts p → 810 ≤ length (text_of_parts l p)
length-labelled l p is good =
    let top : List ℕ = top_lines p.letter l.run_by p.marker p.made in
    let number : List ℕ = marker_number_line l.marker_number in
    let middle : List ℕ = middle_lines l p.site in
    let a = length-append top (number ++ (middle ++ p.rest)) in
    let b = length-append number (middle ++ p.rest) in
    let c = length-append middle p.rest in
    let more = good.more in
    omega (arith, a, b, c, more, length-top p.letter l.run_by p.marker p.made is.run_by.0 good.marker, length-middle l p.site is good.site)
