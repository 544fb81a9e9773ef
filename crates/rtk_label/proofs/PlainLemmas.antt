-- The lines of a header with fields of a label put in, and taken out.
use Rattle.std.proofs.Common.{◌≡◌, ◌<◌, ◌≤◌, ℕ, ◌+◌, ◌/◌, ◌==◌, List, [], ◌∷◌, ◌++◌, length, take, drop, get_or, codes, replicate, pos, if◌then◌else◌, ap, sym, arith, refl, ◌∙◌, append_assoc}
use Rattle.std.proofs.lemmas.List.{append-nil}
use Rattle.rtk_obs.specs.declared.time.Civil.{Civil}
use Rattle.rtk_obs.specs.CivilText.{last_digits}
use Rattle.rtk_rinex.specs.Columns.{left, right, fixed, IsField}
use Rattle.rtk_rinex.specs.Header.{PositionView, IsMarker, IsPositionView}
use Rattle.rtk_label.specs.Fields.{offset_columns}
use Rattle.rtk_label.specs.Labelled.{LabelView, IsLabel, IsFor, blank_label, height_columns, top_lines, middle_lines}
use Rattle.rtk_label.specs.Steps.Shown.{IsFieldIn, IsLabelIn}
use Rattle.rtk_label.specs.Steps.Fronts.{filled_height, filled_middle, plain_columns, plain_offset, plain_middle}
use Rattle.rtk_label.proofs.PieceLemmas.{joined, same_more, same_pieces}
use Rattle.rtk_label.proofs.ChoiceLemmas.{if_filled}
use Rattle.rtk_label.proofs.FieldLemmas.{blank_field, length-plain_columns, field_was, field_is_blank, field_in}
use Rattle.rtk_label.proofs.OffsetLemmas.{zero_offset, fixed_height, told_zero, zero_height, length-plain_offset, offset_was, offset_is_told, offset_is_plain, offset_in}
use Rattle.rtk_label.proofs.LineLemmas.{line_end}
use Rattle.rtk_label.proofs.FrontLemmas.{length-piece, top_widths, top_columns, top_cut, top_sizes, top_front, top_back, top_is, top_is_sized, middle_widths, Cells, AreCells, cells_of, middle_columns, middle_cut, middle_sizes, cells_are, cells, type_line, place_line, line_cells, middle_is, line_cells_sized}

pub blank_is_label : IsLabel blank_label
blank_is_label = record {
  run_by = blank_field 20;
  marker_number = blank_field 20;
  observer = blank_field 20;
  agency = blank_field 40;
  receiver_number = blank_field 20;
  receiver_type = blank_field 20;
  receiver_version = blank_field 20;
  antenna_number = blank_field 20;
  antenna_type = blank_field 20;
  height = λ h. absurd (omega (arith, h));
  east = λ h. absurd (omega (arith, h));
  north = λ h. absurd (omega (arith, h));
}

-- ---- three lines

pub glue_three : (a b c : List ℕ) → (a ++ b) ++ c ≡ joined (a ∷ b ∷ c ∷ [])
glue_three a b c = simp (append_assoc, append-nil)

three : (a b c a' b' c' : List ℕ) → a ≡ a' → b ≡ b' → c ≡ c' → joined (a ∷ b ∷ c ∷ []) ≡ joined (a' ∷ b' ∷ c' ∷ [])
three a b c a' b' c' e f g = ap joined (same_more a a' _ _ e (same_more b b' _ _ f (same_more c c' [] [] g refl)))

-- what stands before and after the field of three lines, and the field
record TopIs (letter : ℕ) (top run cell marker : List ℕ) (made : Civil) : Type 0 where
  pub front : take 101 top ≡ top_front letter
  pub shown : cell ≡ left 20 run
  pub back : take 122 (drop 121 top) ≡ top_back marker made

top_told : (letter : ℕ) (top run cell marker : List ℕ) (made : Civil) → length top ≡ 243 → length cell ≡ 20 → length run ≤ 20 → IsMarker marker
    → joined (top_columns top cell) ≡ top_lines letter run marker made → TopIs letter top run cell marker made
top_told letter top run cell marker made l size h m e =
    let same = same_pieces top_widths (top_columns top cell) (top_front letter ∷ left 20 run ∷ top_back marker made ∷ [])
    (top_sizes top cell l size) (top_is_sized letter run marker made h m) (e ∙ top_is letter run marker made h) in record {
      front = ap (λ (p : List (List ℕ)). get_or p 0 []) same;
      shown = ap (λ (p : List (List ℕ)). get_or p 1 []) same;
      back = ap (λ (p : List (List ℕ)). get_or p 2 []) same;
    }

length-cell : (t : List ℕ) → length t ≡ 243 → length (take 20 (drop 101 t)) ≡ 20
length-cell t l = length-piece 101 20 t (omega (arith, l))

pub top_was : (letter : ℕ) (top run marker : List ℕ) (made : Civil) → length top ≡ 243 → IsMarker marker → IsFieldIn 20 (take 20 (drop 101 top)) run
    → (take 101 top ++ plain_columns 20 run (take 20 (drop 101 top))) ++ take 122 (drop 121 top) ≡ top_lines letter [] marker made
    → top ≡ top_lines letter run marker made
top_was letter top run marker made l m is e =
    let cell : List ℕ = take 20 (drop 101 top) in
    let plain : List ℕ = plain_columns 20 run cell in
    let size : length plain ≡ 20 = length-plain_columns 20 run cell (length-cell top l) in
    let t = top_told letter top [] plain marker made l size (omega arith) m (sym (glue_three (take 101 top) plain (take 122 (drop 121 top))) ∙ e) in
    top_cut top l ∙ three _ _ _ _ _ _ t.front (field_was 20 cell run is t.shown) t.back ∙ sym (top_is letter run marker made is.good.0)

pub top_is_plain : (letter : ℕ) (top run g marker : List ℕ) (made : Civil) → length top ≡ 243 → IsMarker marker → IsFieldIn 20 (take 20 (drop 101 top)) run → IsField 20 g
    → top ≡ top_lines letter g marker made
    → ((take 101 top ++ plain_columns 20 run (take 20 (drop 101 top))) ++ take 122 (drop 121 top) ≡ top_lines letter [] marker made) × (run ≡ g)
top_is_plain letter top run g marker made l m is good e =
    let cell : List ℕ = take 20 (drop 101 top) in
    let plain : List ℕ = plain_columns 20 run cell in
    let t = top_told letter top g cell marker made l (length-cell top l) good.0 m (sym (top_cut top l) ∙ e) in (
      glue_three (take 101 top) plain (take 122 (drop 121 top)) ∙ three _ _ _ _ _ _ t.front (field_is_blank 20 cell run g is good t.shown) t.back
          ∙ sym (top_is letter [] marker made (omega arith)),
      is.all g good t.shown,
    )

pub top_filled : (letter : ℕ) (top run marker : List ℕ) (made : Civil) → length top ≡ 243 → IsMarker marker → length run ≤ 20 → top ≡ top_lines letter [] marker made
    → (take 101 top ++ left 20 run) ++ take 122 (drop 121 top) ≡ top_lines letter run marker made
top_filled letter top run marker made l m h e =
    let cell : List ℕ = take 20 (drop 101 top) in
    let t = top_told letter top [] cell marker made l (length-cell top l) (omega arith) m (sym (top_cut top l) ∙ e) in
    glue_three (take 101 top) (left 20 run) (take 122 (drop 121 top)) ∙ three _ _ _ _ _ _ t.front refl t.back ∙ sym (top_is letter run marker made h)

-- ---- six lines

glue_cells : (a o g b n t v d i j e h x y f : List ℕ)
    → (((((((((((((a ++ o) ++ g) ++ b) ++ n) ++ t) ++ v) ++ d) ++ i) ++ j) ++ e) ++ h) ++ x) ++ y) ++ f
    ≡ a ++ (o ++ (g ++ (b ++ (n ++ (t ++ (v ++ (d ++ (i ++ (j ++ (e ++ (h ++ (x ++ (y ++ (f ++ []))))))))))))))
glue_cells a o g b n t v d i j e h x y f = simp (append_assoc, append-nil)

record SameCells (c u : Cells) : Type 0 where
  pub observer : c.observer ≡ u.observer
  pub agency : c.agency ≡ u.agency
  pub receiver_number : c.receiver_number ≡ u.receiver_number
  pub receiver_type : c.receiver_type ≡ u.receiver_type
  pub receiver_version : c.receiver_version ≡ u.receiver_version
  pub antenna_number : c.antenna_number ≡ u.antenna_number
  pub antenna_type : c.antenna_type ≡ u.antenna_type
  pub height : c.height ≡ u.height
  pub east : c.east ≡ u.east
  pub north : c.north ≡ u.north

-- what stands between the fields of six lines
record AreBetween (m : List ℕ) (s : PositionView) : Type 0 where
  pub first : take 81 m ≡ type_line
  pub observer : take 21 (drop 141 m) ≡ line_end 0 (codes "OBSERVER / AGENCY")
  pub receiver : take 21 (drop 222 m) ≡ line_end 0 (codes "REC # / TYPE / VERS")
  pub antenna : take 122 (drop 283 m) ≡ line_end 20 (codes "ANT # / TYPE") ++ place_line s
  pub offsets : take 39 (drop 447 m) ≡ line_end 18 (codes "ANTENNA: DELTA H/E/N")

record MiddleIs (m : List ℕ) (c u : Cells) (s : PositionView) : Type 0 where
  pub between : AreBetween m s
  pub cells : SameCells c u

middle_told : (m : List ℕ) (c : Cells) (l : LabelView) (s : PositionView) → length m ≡ 486 → AreCells c → IsLabel l → IsPositionView s
    → joined (middle_columns m c) ≡ middle_lines l s → MiddleIs m c (cells l s) s
middle_told m c l s long size is p e =
    let same = same_pieces middle_widths (middle_columns m c) (line_cells l s) (middle_sizes m c long size) (line_cells_sized l s is p) (e ∙ middle_is l s is p) in record {
      between = record {
        first = ap (λ (p : List (List ℕ)). get_or p 0 []) same;
        observer = ap (λ (p : List (List ℕ)). get_or p 3 []) same;
        receiver = ap (λ (p : List (List ℕ)). get_or p 7 []) same;
        antenna = ap (λ (p : List (List ℕ)). get_or p 10 []) same;
        offsets = ap (λ (p : List (List ℕ)). get_or p 14 []) same;
      };
      cells = record {
        observer = ap (λ (p : List (List ℕ)). get_or p 1 []) same;
        agency = ap (λ (p : List (List ℕ)). get_or p 2 []) same;
        receiver_number = ap (λ (p : List (List ℕ)). get_or p 4 []) same;
        receiver_type = ap (λ (p : List (List ℕ)). get_or p 5 []) same;
        receiver_version = ap (λ (p : List (List ℕ)). get_or p 6 []) same;
        antenna_number = ap (λ (p : List (List ℕ)). get_or p 8 []) same;
        antenna_type = ap (λ (p : List (List ℕ)). get_or p 9 []) same;
        height = ap (λ (p : List (List ℕ)). get_or p 11 []) same;
        east = ap (λ (p : List (List ℕ)). get_or p 12 []) same;
        north = ap (λ (p : List (List ℕ)). get_or p 13 []) same;
      };
    }

-- six lines with other fields
middle_with : (m : List ℕ) (c : Cells) (l : LabelView) (s : PositionView) → AreBetween m s → SameCells c (cells l s) → joined (middle_columns m c) ≡ joined (line_cells l s)
middle_with m c l s b e =
    ap joined (same_more _ _ _ _ b.first (same_more _ _ _ _ e.observer (same_more _ _ _ _ e.agency (same_more _ _ _ _ b.observer
    (same_more _ _ _ _ e.receiver_number (same_more _ _ _ _ e.receiver_type (same_more _ _ _ _ e.receiver_version (same_more _ _ _ _ b.receiver
    (same_more _ _ _ _ e.antenna_number (same_more _ _ _ _ e.antenna_type (same_more _ _ _ _ b.antenna (same_more _ _ _ _ e.height
    (same_more _ _ _ _ e.east (same_more _ _ _ _ e.north (same_more _ _ [] [] b.offsets refl)))))))))))))))

abbrev pub plain_cells : LabelView → List ℕ → Cells
plain_cells l m =
    record {
      observer = plain_columns 20 l.observer (take 20 (drop 81 m));
      agency = plain_columns 40 l.agency (take 40 (drop 101 m));
      receiver_number = plain_columns 20 l.receiver_number (take 20 (drop 162 m));
      receiver_type = plain_columns 20 l.receiver_type (take 20 (drop 182 m));
      receiver_version = plain_columns 20 l.receiver_version (take 20 (drop 202 m));
      antenna_number = plain_columns 20 l.antenna_number (take 20 (drop 243 m));
      antenna_type = plain_columns 20 l.antenna_type (take 20 (drop 263 m));
      height = plain_offset l.height (take 14 (drop 405 m));
      east = plain_offset l.east (take 14 (drop 419 m));
      north = plain_offset l.north (take 14 (drop 433 m));
    }

pub plain_cells_are : (l : LabelView) (m : List ℕ) → length m ≡ 486 → AreCells (plain_cells l m)
plain_cells_are l m long =
    let c = cells_are m long in record {
      observer = length-plain_columns 20 l.observer _ c.observer;
      agency = length-plain_columns 40 l.agency _ c.agency;
      receiver_number = length-plain_columns 20 l.receiver_number _ c.receiver_number;
      receiver_type = length-plain_columns 20 l.receiver_type _ c.receiver_type;
      receiver_version = length-plain_columns 20 l.receiver_version _ c.receiver_version;
      antenna_number = length-plain_columns 20 l.antenna_number _ c.antenna_number;
      antenna_type = length-plain_columns 20 l.antenna_type _ c.antenna_type;
      height = length-plain_offset l.height _ c.height;
      east = length-plain_offset l.east _ c.east;
      north = length-plain_offset l.north _ c.north;
    }

pub plain_middle_is : (l : LabelView) (m : List ℕ) → plain_middle l m ≡ joined (middle_columns m (plain_cells l m))
plain_middle_is l m =
    let c = plain_cells l m in
    glue_cells (take 81 m) c.observer c.agency (take 21 (drop 141 m)) c.receiver_number c.receiver_type c.receiver_version (take 21 (drop 222 m))
    c.antenna_number c.antenna_type (take 122 (drop 283 m)) c.height c.east c.north (take 39 (drop 447 m))

height_told : (l : LabelView) (s : PositionView) (columns : List ℕ) → IsPositionView s → plain_offset l.height columns ≡ height_columns [] s → IsFor l s
height_told l s columns p e some = told_zero s.height p.3 (sym e ∙ if_filled l.height columns zero_offset some)

-- if six lines are plain without the label, they were the lines of the label
pub middle_was : (m top number : List ℕ) (l : LabelView) (s : PositionView) → length m ≡ 486 → IsLabel l → IsPositionView s → IsLabelIn top number m l
    → plain_middle l m ≡ middle_lines blank_label s → (m ≡ middle_lines l s) × IsFor l s
middle_was m top number l s long is p in_m e =
    let t = middle_told m (plain_cells l m) blank_label s long (plain_cells_are l m long) blank_is_label p (sym (plain_middle_is l m) ∙ e) in
    let c = t.cells in
    let same : SameCells (cells_of m) (cells l s) = record {
      observer = field_was 20 _ l.observer in_m.observer c.observer;
      agency = field_was 40 _ l.agency in_m.agency c.agency;
      receiver_number = field_was 20 _ l.receiver_number in_m.receiver_number c.receiver_number;
      receiver_type = field_was 20 _ l.receiver_type in_m.receiver_type c.receiver_type;
      receiver_version = field_was 20 _ l.receiver_version in_m.receiver_version c.receiver_version;
      antenna_number = field_was 20 _ l.antenna_number in_m.antenna_number c.antenna_number;
      antenna_type = field_was 20 _ l.antenna_type in_m.antenna_type c.antenna_type;
      height = offset_was _ l.height (fixed 4 14 (pos s.height)) in_m.height c.height;
      east = offset_was _ l.east zero_offset in_m.east c.east;
      north = offset_was _ l.north zero_offset in_m.north c.north;
    } in
    (middle_cut m long ∙ middle_with m (cells_of m) l s t.between same ∙ sym (middle_is l s is p), height_told l s (take 14 (drop 405 m)) p c.height)

abbrev zero_rest : List ℕ
zero_rest = codes "0.0000"

-- a number of the stream, as the columns of a blank height
as_told : (g : List ℕ) (s : PositionView) (columns : List ℕ) → IsPositionView s → columns ≡ height_columns g s
    → columns ≡ (if length g == 0 then replicate 8 32 ++ ((48 + s.height / 10_000) ∷ 46 ∷ last_digits 4 s.height) else right 14 g)
as_told g s columns p e = e ∙ ap (λ (t : List ℕ). if length g == 0 then t else right 14 g) (fixed_height s.height p.3)

for_zero : (g : LabelView) (s : PositionView) → IsFor g s → 0 < length g.height → fixed 4 14 (pos s.height) ≡ zero_offset
for_zero g s is some = ap (λ (h : ℕ). fixed 4 14 (pos h)) (is some) ∙ zero_height

-- the lines of a label are plain without it, and show no other
pub record MiddleIsPlain (m : List ℕ) (l g : LabelView) (s : PositionView) : Type 0 where
  pub plain : plain_middle l m ≡ middle_lines blank_label s
  pub observer : l.observer ≡ g.observer
  pub agency : l.agency ≡ g.agency
  pub receiver_number : l.receiver_number ≡ g.receiver_number
  pub receiver_type : l.receiver_type ≡ g.receiver_type
  pub receiver_version : l.receiver_version ≡ g.receiver_version
  pub antenna_number : l.antenna_number ≡ g.antenna_number
  pub antenna_type : l.antenna_type ≡ g.antenna_type
  pub height : l.height ≡ g.height
  pub east : l.east ≡ g.east
  pub north : l.north ≡ g.north

pub middle_is_plain : (m top number : List ℕ) (l g : LabelView) (s : PositionView) → length m ≡ 486 → IsLabel g → IsFor g s → IsPositionView s
    → IsLabelIn top number m l → m ≡ middle_lines g s → MiddleIsPlain m l g s
middle_is_plain m top number l g s long is for p in_m e =
    let t = middle_told m (cells_of m) g s long (cells_are m long) is p (sym (middle_cut m long) ∙ e) in
    let c = t.cells in
    let height : l.height ≡ g.height = offset_is_told _ l.height g.height _ in_m.height is.height (as_told g.height s _ p c.height) in
    let east : l.east ≡ g.east = offset_is_told _ l.east g.east zero_rest in_m.east is.east c.east in
    let north : l.north ≡ g.north = offset_is_told _ l.north g.north zero_rest in_m.north is.north c.north in
    let same : SameCells (plain_cells l m) (cells blank_label s) = record {
      observer = field_is_blank 20 _ l.observer g.observer in_m.observer is.observer c.observer;
      agency = field_is_blank 40 _ l.agency g.agency in_m.agency is.agency c.agency;
      receiver_number = field_is_blank 20 _ l.receiver_number g.receiver_number in_m.receiver_number is.receiver_number c.receiver_number;
      receiver_type = field_is_blank 20 _ l.receiver_type g.receiver_type in_m.receiver_type is.receiver_type c.receiver_type;
      receiver_version = field_is_blank 20 _ l.receiver_version g.receiver_version in_m.receiver_version is.receiver_version c.receiver_version;
      antenna_number = field_is_blank 20 _ l.antenna_number g.antenna_number in_m.antenna_number is.antenna_number c.antenna_number;
      antenna_type = field_is_blank 20 _ l.antenna_type g.antenna_type in_m.antenna_type is.antenna_type c.antenna_type;
      height = ap (λ (t : List ℕ). plain_offset t (take 14 (drop 405 m))) height ∙ offset_is_plain _ g.height (fixed 4 14 (pos s.height)) (for_zero g s for) c.height;
      east = ap (λ (t : List ℕ). plain_offset t (take 14 (drop 419 m))) east ∙ offset_is_plain _ g.east zero_offset (λ some. refl) c.east;
      north = ap (λ (t : List ℕ). plain_offset t (take 14 (drop 433 m))) north ∙ offset_is_plain _ g.north zero_offset (λ some. refl) c.north;
    } in record {
      plain = plain_middle_is l m ∙ middle_with m (plain_cells l m) blank_label s t.between same ∙ sym (middle_is blank_label s blank_is_label p);
      observer = in_m.observer.all g.observer is.observer c.observer;
      agency = in_m.agency.all g.agency is.agency c.agency;
      receiver_number = in_m.receiver_number.all g.receiver_number is.receiver_number c.receiver_number;
      receiver_type = in_m.receiver_type.all g.receiver_type is.receiver_type c.receiver_type;
      receiver_version = in_m.receiver_version.all g.receiver_version is.receiver_version c.receiver_version;
      antenna_number = in_m.antenna_number.all g.antenna_number is.antenna_number c.antenna_number;
      antenna_type = in_m.antenna_type.all g.antenna_type is.antenna_type c.antenna_type;
      height = height;
      east = east;
      north = north;
    }

abbrev filled_cells : LabelView → List ℕ → Cells
filled_cells l m =
    record {
      observer = left 20 l.observer;
      agency = left 40 l.agency;
      receiver_number = left 20 l.receiver_number;
      receiver_type = left 20 l.receiver_type;
      receiver_version = left 20 l.receiver_version;
      antenna_number = left 20 l.antenna_number;
      antenna_type = left 20 l.antenna_type;
      height = filled_height l.height (take 14 (drop 405 m));
      east = offset_columns l.east;
      north = offset_columns l.north;
    }

-- plain lines with the fields of a label are the lines of the label
pub middle_filled : (m : List ℕ) (l : LabelView) (s : PositionView) → length m ≡ 486 → IsLabel l → IsPositionView s → m ≡ middle_lines blank_label s
    → filled_middle l m ≡ middle_lines l s
middle_filled m l s long is p e =
    let t = middle_told m (cells_of m) blank_label s long (cells_are m long) blank_is_label p (sym (middle_cut m long) ∙ e) in
    let c = filled_cells l m in
    let same : SameCells c (cells l s) = record {
      observer = refl;
      agency = refl;
      receiver_number = refl;
      receiver_type = refl;
      receiver_version = refl;
      antenna_number = refl;
      antenna_type = refl;
      height = ap (λ (t : List ℕ). if length l.height == 0 then t else right 14 l.height) t.cells.height;
      east = refl;
      north = refl;
    } in
    glue_cells (take 81 m) c.observer c.agency (take 21 (drop 141 m)) c.receiver_number c.receiver_type c.receiver_version (take 21 (drop 222 m))
    c.antenna_number c.antenna_type (take 122 (drop 283 m)) c.height c.east c.north (take 39 (drop 447 m))
    ∙ middle_with m c l s t.between same ∙ sym (middle_is l s is p)

-- ---- the lines of a label show it

pub top_in : (letter : ℕ) (top run marker : List ℕ) (made : Civil) → length top ≡ 243 → IsMarker marker → IsField 20 run → top ≡ top_lines letter run marker made
    → IsFieldIn 20 (take 20 (drop 101 top)) run
top_in letter top run marker made l m good e =
    let t = top_told letter top run (take 20 (drop 101 top)) marker made l (length-cell top l) good.0 m (sym (top_cut top l) ∙ e) in
    field_in 20 _ run good t.shown

pub label_in : (top number m : List ℕ) (l : LabelView) (s : PositionView) → length m ≡ 486 → IsLabel l → IsPositionView s → IsFieldIn 20 (take 20 (drop 101 top)) l.run_by
    → l.marker_number ≡ number → m ≡ middle_lines l s → IsLabelIn top number m l
label_in top number m l s long is p run same e =
    let c = (middle_told m (cells_of m) l s long (cells_are m long) is p (sym (middle_cut m long) ∙ e)).cells in record {
      run_by = run;
      marker_number = same;
      observer = field_in 20 _ l.observer is.observer c.observer;
      agency = field_in 40 _ l.agency is.agency c.agency;
      receiver_number = field_in 20 _ l.receiver_number is.receiver_number c.receiver_number;
      receiver_type = field_in 20 _ l.receiver_type is.receiver_type c.receiver_type;
      receiver_version = field_in 20 _ l.receiver_version is.receiver_version c.receiver_version;
      antenna_number = field_in 20 _ l.antenna_number is.antenna_number c.antenna_number;
      antenna_type = field_in 20 _ l.antenna_type is.antenna_type c.antenna_type;
      height = offset_in _ l.height _ is.height (as_told l.height s _ p c.height);
      east = offset_in _ l.east zero_rest is.east c.east;
      north = offset_in _ l.north zero_rest is.north c.north;
    }
