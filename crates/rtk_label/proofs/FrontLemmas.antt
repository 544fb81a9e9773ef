-- The first nine lines of a header, with fields and without, in pieces of known widths.
use Rattle.std.proofs.Common.{◌≡◌, ◌<◌, ◌≤◌, ℕ, ◌+◌, List, [], ◌∷◌, ◌++◌, length, take, drop, codes, pos, ap, arith, refl, ◌∙◌, append_assoc, length-append, inl, inr}
use Rattle.std.proofs.lemmas.List.{append-nil, drop_all, length-drop, length-take-le}
use Rattle.rtk_obs.specs.declared.time.Civil.{Civil}
use Rattle.rtk_rinex.specs.Columns.{left, right, fixed}
use Rattle.rtk_rinex.specs.Header.{PositionView, IsMarker, IsPositionView, header_line, made_text}
use Rattle.rtk_rinex.specs.MixedHeader.{mixed_version_line}
use Rattle.rtk_label.specs.Fields.{offset_columns}
use Rattle.rtk_label.specs.Labelled.{LabelView, IsLabel, height_columns, top_lines, middle_lines}
use Rattle.rtk_label.proofs.PieceLemmas.{joined, HasWidths, next_piece}
use Rattle.rtk_label.proofs.ChoiceLemmas.{if_blank, if_filled, blank_or_filled}
use Rattle.rtk_label.proofs.FieldLemmas.{length-left}
use Rattle.rtk_label.proofs.OffsetLemmas.{length-right, length-offset}
use Rattle.rtk_label.proofs.LineLemmas.{line_end, line_of, length-line, length-made, length-fixed, height_coordinate}

-- ---- a text of any kind, in pieces

pub length-piece : (k w : ℕ) (text : List ℕ) → k + w ≤ length text → length (take w (drop k text)) ≡ w
length-piece k w text h = length-take-le w (drop k text) (omega (arith, h, length-drop k text))

abbrev pub top_widths : List ℕ
top_widths = 101 ∷ 20 ∷ 122 ∷ []

abbrev pub top_columns : List ℕ → List ℕ → List (List ℕ)
top_columns t run = take 101 t ∷ run ∷ take 122 (drop 121 t) ∷ []

pub top_cut : (t : List ℕ) → length t ≡ 243 → t ≡ joined (top_columns t (take 20 (drop 101 t)))
top_cut t l =
    next_piece 0 101 t _ (next_piece 101 20 t _ (next_piece 121 122 t [] (drop_all 243 t (omega (arith, l)))))

pub top_sizes : (t run : List ℕ) → length t ≡ 243 → length run ≡ 20 → HasWidths top_widths (top_columns t run)
top_sizes t run l r = (length-piece 0 101 t (omega (arith, l)), (r, (length-piece 121 122 t (omega (arith, l)), tt)))

abbrev pub middle_widths : List ℕ
middle_widths = 81 ∷ 20 ∷ 40 ∷ 21 ∷ 20 ∷ 20 ∷ 20 ∷ 21 ∷ 20 ∷ 20 ∷ 122 ∷ 14 ∷ 14 ∷ 14 ∷ 39 ∷ []

-- the ten fields of six lines
pub record Cells : Type 0 where
  pub observer : List ℕ
  pub agency : List ℕ
  pub receiver_number : List ℕ
  pub receiver_type : List ℕ
  pub receiver_version : List ℕ
  pub antenna_number : List ℕ
  pub antenna_type : List ℕ
  pub height : List ℕ
  pub east : List ℕ
  pub north : List ℕ

pub record AreCells (c : Cells) : Type 0 where
  pub observer : length c.observer ≡ 20
  pub agency : length c.agency ≡ 40
  pub receiver_number : length c.receiver_number ≡ 20
  pub receiver_type : length c.receiver_type ≡ 20
  pub receiver_version : length c.receiver_version ≡ 20
  pub antenna_number : length c.antenna_number ≡ 20
  pub antenna_type : length c.antenna_type ≡ 20
  pub height : length c.height ≡ 14
  pub east : length c.east ≡ 14
  pub north : length c.north ≡ 14

-- these fields with what stands between them
abbrev pub with_cells : List ℕ → List ℕ → List ℕ → List ℕ → List ℕ → Cells → List (List ℕ)
with_cells a b d e f c =
    a ∷ c.observer ∷ c.agency ∷ b ∷ c.receiver_number ∷ c.receiver_type ∷ c.receiver_version ∷ d ∷ c.antenna_number ∷ c.antenna_type ∷ e
    ∷ c.height ∷ c.east ∷ c.north ∷ f ∷ []

pub cells_sizes : (a b d e f : List ℕ) (c : Cells) → length a ≡ 81 → length b ≡ 21 → length d ≡ 21 → length e ≡ 122 → length f ≡ 39 → AreCells c
    → HasWidths middle_widths (with_cells a b d e f c)
cells_sizes a b d e f c la lb ld le lf is = (
  la,
  (is.observer, (is.agency, (lb, (is.receiver_number, (is.receiver_type, (is.receiver_version, (ld, (is.antenna_number, (is.antenna_type, (le, (is.height, (is.east, (is.north, (lf, tt)))))))))))))),
)

abbrev pub cells_of : List ℕ → Cells
cells_of m =
    record {
      observer = take 20 (drop 81 m);
      agency = take 40 (drop 101 m);
      receiver_number = take 20 (drop 162 m);
      receiver_type = take 20 (drop 182 m);
      receiver_version = take 20 (drop 202 m);
      antenna_number = take 20 (drop 243 m);
      antenna_type = take 20 (drop 263 m);
      height = take 14 (drop 405 m);
      east = take 14 (drop 419 m);
      north = take 14 (drop 433 m);
    }

-- six lines with other fields
abbrev pub middle_columns : List ℕ → Cells → List (List ℕ)
middle_columns m c = with_cells (take 81 m) (take 21 (drop 141 m)) (take 21 (drop 222 m)) (take 122 (drop 283 m)) (take 39 (drop 447 m)) c

pub middle_cut : (m : List ℕ) → length m ≡ 486 → m ≡ joined (middle_columns m (cells_of m))
middle_cut m l =
    next_piece 0 81 m _ (next_piece 81 20 m _ (next_piece 101 40 m _ (next_piece 141 21 m _ (next_piece 162 20 m _ (next_piece 182 20 m _
    (next_piece 202 20 m _ (next_piece 222 21 m _ (next_piece 243 20 m _ (next_piece 263 20 m _ (next_piece 283 122 m _ (next_piece 405 14 m _
    (next_piece 419 14 m _ (next_piece 433 14 m _ (next_piece 447 39 m [] (drop_all 486 m (omega (arith, l)))))))))))))))))

pub middle_sizes : (m : List ℕ) (c : Cells) → length m ≡ 486 → AreCells c → HasWidths middle_widths (middle_columns m c)
middle_sizes m c l is =
    cells_sizes _ _ _ _ _ c (length-piece 0 81 m (omega (arith, l))) (length-piece 141 21 m (omega (arith, l))) (length-piece 222 21 m (omega (arith, l)))
    (length-piece 283 122 m (omega (arith, l))) (length-piece 447 39 m (omega (arith, l))) is

pub cells_are : (m : List ℕ) → length m ≡ 486 → AreCells (cells_of m)
cells_are m l = record {
  observer = length-piece 81 20 m (omega (arith, l));
  agency = length-piece 101 40 m (omega (arith, l));
  receiver_number = length-piece 162 20 m (omega (arith, l));
  receiver_type = length-piece 182 20 m (omega (arith, l));
  receiver_version = length-piece 202 20 m (omega (arith, l));
  antenna_number = length-piece 243 20 m (omega (arith, l));
  antenna_type = length-piece 263 20 m (omega (arith, l));
  height = length-piece 405 14 m (omega (arith, l));
  east = length-piece 419 14 m (omega (arith, l));
  north = length-piece 433 14 m (omega (arith, l));
}

-- ---- the lines of a header, in pieces

unfoldable pub top_front : ℕ → List ℕ
top_front letter = mixed_version_line letter ++ codes "rtcm2rinex          "

unfoldable pub top_back : List ℕ → Civil → List ℕ
top_back marker made = (made_text made ++ line_end 0 (codes "PGM / RUN BY / DATE")) ++ header_line marker (codes "MARKER NAME")

glue_top : (v c l m e n : List ℕ) → (v ++ (((c ++ l) ++ m) ++ e)) ++ n ≡ (v ++ c) ++ (l ++ (((m ++ e) ++ n) ++ []))
glue_top v c l m e n = simp (append_assoc, append-nil)

program_size : (run : List ℕ) (made : Civil) → length run ≤ 20 → length ((codes "rtcm2rinex          " ++ left 20 run) ++ made_text made) ≡ 60
program_size run made h =
    let a = length-append (codes "rtcm2rinex          " ++ left 20 run) (made_text made) in
    let b = length-append (codes "rtcm2rinex          ") (left 20 run) in
    let lit : length (codes "rtcm2rinex          ") ≡ 20 = refl in
    omega (arith, a, b, lit, length-left 20 run h, length-made made)

pub top_is : (letter : ℕ) (run marker : List ℕ) (made : Civil) → length run ≤ 20
    → top_lines letter run marker made ≡ joined (top_front letter ∷ left 20 run ∷ top_back marker made ∷ [])
unfolding top_front top_back
top_is letter run marker made h =
    let v : List ℕ = mixed_version_line letter in
    let n : List ℕ = header_line marker (codes "MARKER NAME") in
    let line = line_of ((codes "rtcm2rinex          " ++ left 20 run) ++ made_text made) (codes "PGM / RUN BY / DATE") 60 0 (program_size run made h) refl in
    ap (λ (r : List ℕ). (v ++ r) ++ n) line
    ∙ glue_top v (codes "rtcm2rinex          ") (left 20 run) (made_text made) (line_end 0 (codes "PGM / RUN BY / DATE")) n

pub top_is_sized : (letter : ℕ) (run marker : List ℕ) (made : Civil) → length run ≤ 20 → IsMarker marker
    → HasWidths top_widths (top_front letter ∷ left 20 run ∷ top_back marker made ∷ [])
unfolding top_front top_back line_end left
top_is_sized letter run marker made h m =
    let n = length-line marker (codes "MARKER NAME") (omega (arith, m.0)) (omega arith) in
    let e : length (line_end 0 (codes "PGM / RUN BY / DATE")) ≡ 21 = refl in
    let a = length-append (made_text made ++ line_end 0 (codes "PGM / RUN BY / DATE")) (header_line marker (codes "MARKER NAME")) in
    let b = length-append (made_text made) (line_end 0 (codes "PGM / RUN BY / DATE")) in
    let v = length-line (codes "     3.05           OBSERVATION DATA    " ++ letter ∷ []) (codes "RINEX VERSION / TYPE") (omega arith) (omega arith) in
    let f = length-append (mixed_version_line letter) (codes "rtcm2rinex          ") in
    let lit : length (codes "rtcm2rinex          ") ≡ 20 = refl in
    (omega (arith, v, f, lit), (length-left 20 run h, (omega (arith, a, b, e, n, length-made made), tt)))

abbrev pub cells : LabelView → PositionView → Cells
cells l s =
    record {
      observer = left 20 l.observer;
      agency = left 40 l.agency;
      receiver_number = left 20 l.receiver_number;
      receiver_type = left 20 l.receiver_type;
      receiver_version = left 20 l.receiver_version;
      antenna_number = left 20 l.antenna_number;
      antenna_type = left 20 l.antenna_type;
      height = height_columns l.height s;
      east = offset_columns l.east;
      north = offset_columns l.north;
    }

length-height : (g : List ℕ) (s : PositionView) → IsPositionView s → (0 < length g → length g ≤ 14) → length (height_columns g s) ≡ 14
length-height g s p h =
    elim (blank_or_filled g) [
      | inl none ↦ ap length (if_blank g (fixed 4 14 (pos s.height)) (right 14 g) none) ∙ length-fixed (pos s.height) (height_coordinate s.height p.3)
      | inr some ↦ ap length (if_filled g (fixed 4 14 (pos s.height)) (right 14 g) some) ∙ length-right 14 g (h some)
    ]

pub cells_fit : (l : LabelView) (s : PositionView) → IsLabel l → IsPositionView s → AreCells (cells l s)
cells_fit l s is p = record {
  observer = length-left 20 l.observer is.observer.0;
  agency = length-left 40 l.agency is.agency.0;
  receiver_number = length-left 20 l.receiver_number is.receiver_number.0;
  receiver_type = length-left 20 l.receiver_type is.receiver_type.0;
  receiver_version = length-left 20 l.receiver_version is.receiver_version.0;
  antenna_number = length-left 20 l.antenna_number is.antenna_number.0;
  antenna_type = length-left 20 l.antenna_type is.antenna_type.0;
  height = length-height l.height s p (λ some. omega (arith, (is.height some).0));
  east = length-offset l.east is.east;
  north = length-offset l.north is.north;
}

unfoldable pub type_line : List ℕ
type_line = header_line (codes "GEODETIC") (codes "MARKER TYPE")

unfoldable pub place_line : PositionView → List ℕ
place_line s = header_line (fixed 4 14 s.x ++ fixed 4 14 s.y ++ fixed 4 14 s.z) (codes "APPROX POSITION XYZ")

abbrev pub line_cells : LabelView → PositionView → List (List ℕ)
line_cells l s =
    with_cells type_line (line_end 0 (codes "OBSERVER / AGENCY")) (line_end 0 (codes "REC # / TYPE / VERS")) (line_end 20 (codes "ANT # / TYPE") ++ place_line s)
    (line_end 18 (codes "ANTENNA: DELTA H/E/N")) (cells l s)

glue_middle : (a o g b n t v d i j e p h x y f : List ℕ)
    → ((((a ++ ((o ++ g) ++ b)) ++ (((n ++ t) ++ v) ++ d)) ++ ((i ++ j) ++ e)) ++ p) ++ (((h ++ x) ++ y) ++ f)
    ≡ a ++ (o ++ (g ++ (b ++ (n ++ (t ++ (v ++ (d ++ (i ++ (j ++ ((e ++ p) ++ (h ++ (x ++ (y ++ (f ++ []))))))))))))))
glue_middle a o g b n t v d i j e p h x y f = simp (append_assoc, append-nil)

-- four lines in place of others
four : (a p x y z w x' y' z' w' : List ℕ) → x ≡ x' → y ≡ y' → z ≡ z' → w ≡ w' → ((((a ++ x) ++ y) ++ z) ++ p) ++ w ≡ ((((a ++ x') ++ y') ++ z') ++ p) ++ w'
four a p x y z w x' y' z' w' e f g h =
    ap (λ (t : List ℕ). ((((a ++ t) ++ y) ++ z) ++ p) ++ w) e ∙ ap (λ (t : List ℕ). ((((a ++ x') ++ t) ++ z) ++ p) ++ w) f
    ∙ ap (λ (t : List ℕ). ((((a ++ x') ++ y') ++ t) ++ p) ++ w) g ∙ ap (λ (t : List ℕ). ((((a ++ x') ++ y') ++ z') ++ p) ++ t) h

pub middle_is : (l : LabelView) (s : PositionView) → IsLabel l → IsPositionView s → middle_lines l s ≡ joined (line_cells l s)
unfolding type_line place_line
middle_is l s is p =
    let c = cells l s in
    let z = cells_fit l s is p in
    let o = c.observer ++ c.agency in
    let r = (c.receiver_number ++ c.receiver_type) ++ c.receiver_version in
    let i = c.antenna_number ++ c.antenna_type in
    let h = (c.height ++ c.east) ++ c.north in
    let lo : length o ≡ 60 = length-append c.observer c.agency ∙ omega (arith, z.observer, z.agency) in
    let lr : length r ≡ 60 =
    length-append (c.receiver_number ++ c.receiver_type) c.receiver_version ∙ omega (arith, length-append c.receiver_number c.receiver_type, z.receiver_number, z.receiver_type, z.receiver_version) in
    let li : length i ≡ 40 = length-append c.antenna_number c.antenna_type ∙ omega (arith, z.antenna_number, z.antenna_type) in
    let lh : length h ≡ 42 = length-append (c.height ++ c.east) c.north ∙ omega (arith, length-append c.height c.east, z.height, z.east, z.north) in
    let a : List ℕ = header_line (codes "GEODETIC") (codes "MARKER TYPE") in
    let q : List ℕ = header_line (fixed 4 14 s.x ++ fixed 4 14 s.y ++ fixed 4 14 s.z) (codes "APPROX POSITION XYZ") in
    four a q _ _ _ _ _ _ _ _
    (line_of o (codes "OBSERVER / AGENCY") 60 0 lo refl) (line_of r (codes "REC # / TYPE / VERS") 60 0 lr refl)
    (line_of i (codes "ANT # / TYPE") 40 20 li refl) (line_of h (codes "ANTENNA: DELTA H/E/N") 42 18 lh refl)
    ∙ glue_middle a c.observer c.agency (line_end 0 (codes "OBSERVER / AGENCY")) c.receiver_number c.receiver_type c.receiver_version
    (line_end 0 (codes "REC # / TYPE / VERS")) c.antenna_number c.antenna_type (line_end 20 (codes "ANT # / TYPE")) q c.height c.east c.north
    (line_end 18 (codes "ANTENNA: DELTA H/E/N"))

length-place : (s : PositionView) → IsPositionView s → length (place_line s) ≡ 81
unfolding place_line
length-place s p =
    let x : List ℕ = fixed 4 14 s.x in
    let y : List ℕ = fixed 4 14 s.y in
    let z : List ℕ = fixed 4 14 s.z in
    let a = length-append (x ++ y) z in
    let b = length-append x y in
    length-line ((x ++ y) ++ z) (codes "APPROX POSITION XYZ") (omega (arith, a, b, length-fixed s.x p.0, length-fixed s.y p.1, length-fixed s.z p.2)) (omega arith)

length-antenna : (s : PositionView) → IsPositionView s → length (line_end 20 (codes "ANT # / TYPE") ++ place_line s) ≡ 122
unfolding line_end left
length-antenna s p =
    let e : length (line_end 20 (codes "ANT # / TYPE")) ≡ 41 = refl in
    length-append (line_end 20 (codes "ANT # / TYPE")) (place_line s) ∙ omega (arith, e, length-place s p)

pub line_cells_sized : (l : LabelView) (s : PositionView) → IsLabel l → IsPositionView s → HasWidths middle_widths (line_cells l s)
unfolding type_line line_end left
line_cells_sized l s is p =
    cells_sizes type_line (line_end 0 (codes "OBSERVER / AGENCY")) (line_end 0 (codes "REC # / TYPE / VERS")) (line_end 20 (codes "ANT # / TYPE") ++ place_line s)
    (line_end 18 (codes "ANTENNA: DELTA H/E/N")) (cells l s) (length-line (codes "GEODETIC") (codes "MARKER TYPE") (omega arith) (omega arith)) refl refl (length-antenna s p) refl
    (cells_fit l s is p)
