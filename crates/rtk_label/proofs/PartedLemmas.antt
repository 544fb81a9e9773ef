-- A text that is parted into a label and a plain text.
use Rattle.std.proofs.Common.{◌≡◌, ◌<◌, ◌≤◌, ℕ, ◌+◌, List, [], ◌++◌, length, take, drop, codes, Option, ap, sym, arith, ◌∙◌, append_assoc, length-append, inl, inr}
use Rattle.std.specs.Prelude.{IfSome}
use Rattle.std.proofs.lemmas.List.{take_at, drop_at, drop-drop, take-append-drop, length-take-le, append_cancel_left}
use Rattle.rtk_rinex.specs.Columns.{left, IsField}
use Rattle.rtk_rinex.specs.Header.{header_line}
use Rattle.rtk_obs.specs.Reading.{IsMoment}
use Rattle.rtk_rinex.specs.Table.{WellFormedTable, IsWellFormedTable, table_text}
use Rattle.rtk_rinex.specs.MixedTable.{MixedTable, IsMixedTable, mixed_table_text}
use Rattle.rtk_label.specs.Fields.{marker_number_line}
use Rattle.rtk_label.specs.Labelled.{LabelView, IsLabel, IsFor, blank_label, top_lines, middle_lines, labelled_with, labelled_mixed_with}
use Rattle.rtk_label.specs.TimeLines.{extent_lines}
use Rattle.rtk_label.specs.LabelWriting.{WasLabelled, IsOfEveryTable, WasLabelledMixed, IsOfEveryMixedTable, whole_len, whole_lines, BeginsEveryTable, BeginsEveryMixedTable, IsCutText, IsParted}
use Rattle.rtk_label.proofs.FileParts.{FileParts, AreFileParts, text_of_parts, with_lines, parts_of, mixed_parts_of, WasOfParts, IsOfEveryParts, BeginsEveryParts}
use Rattle.rtk_label.specs.Steps.Shown.{IsLabelIn, IsRead}
use Rattle.rtk_label.specs.Steps.Fronts.{plain_columns, plain_top, plain_middle, plain_front}
use Rattle.rtk_label.specs.Steps.Told.{HasNoTimeLine, AreTold}
use Rattle.rtk_label.specs.declared.time_lines.TimeLines.{TimeLines}
use Rattle.rtk_label.proofs.PieceLemmas.{same_parts, next_piece, joined}
use Rattle.rtk_label.proofs.ChoiceLemmas.{if_blank, none_is, blank_or_filled}
use Rattle.rtk_label.proofs.FieldLemmas.{length-plain_columns}
use Rattle.rtk_label.proofs.LineLemmas.{length-line}
use Rattle.rtk_label.proofs.FrontLemmas.{length-piece, top_columns, middle_columns, top_sizes, type_line, middle_sizes, line_cells, middle_is}
use Rattle.rtk_label.proofs.NumberLemmas.{no_number, length-number}
use Rattle.rtk_label.proofs.PlainLemmas.{blank_is_label, glue_three, top_was, top_is_plain, plain_cells, plain_cells_are, plain_middle_is, middle_was, middle_is_plain}
use Rattle.rtk_label.proofs.NextLineLemmas.{gps-next, mixed-next}
use Rattle.rtk_label.proofs.TableLemmas.{length-three, length-six, length-top, length-middle, label_parts, plain_parts, parts-good, mixed_label_parts, mixed_plain_parts, mixed_parts-good, length-labelled}

-- ---- the parts of a text

pub label_good : (top number middle : List ℕ) (l : LabelView) → IsField 20 number → IsLabelIn top number middle l → IsLabel l
label_good top number middle l good is = record {
  run_by = is.run_by.good;
  marker_number = rw is.marker_number good;
  observer = is.observer.good;
  agency = is.agency.good;
  receiver_number = is.receiver_number.good;
  receiver_type = is.receiver_type.good;
  receiver_version = is.receiver_version.good;
  antenna_number = is.antenna_number.good;
  antenna_type = is.antenna_type.good;
  height = is.height.good;
  east = is.east.good;
  north = is.north.good;
}

pub within : (text number : List ℕ) (from : ℕ) (l : LabelView) → IsRead text number from l → from ≤ 81
within text number from l r =
    elim (blank_or_filled number) [ inl none ↦ omega (arith, r.blank none) | inr some ↦ omega (arith, r.filled some) ]

pub from_is : (text number : List ℕ) (from : ℕ) (l : LabelView) → IsRead text number from l → from ≡ length (marker_number_line l.marker_number)
from_is text number from l r =
    elim (blank_or_filled number) [
      | inl none ↦ r.blank none ∙ sym (ap length (if_blank number [] (header_line (left 20 number) (codes "MARKER NUMBER")) none))
      | inr some ↦ r.filled some ∙ sym (length-number number r.line.good some)
    ]
    ∙ ap (λ (n : List ℕ). length (marker_number_line n)) (sym r.label.marker_number)

pub length-first : (text : List ℕ) → 810 ≤ length text → length (take 243 text) ≡ 243
length-first text h = length-take-le 243 text (omega (arith, h))

pub length-next : (text : List ℕ) (from : ℕ) → 810 ≤ length text → from ≤ 81 → length (take 486 (drop (from + 243) text)) ≡ 486
length-next text from h lt = length-piece (from + 243) 486 text (omega (arith, h, lt))

pub six_cut : (text : List ℕ) (from : ℕ) → drop (from + 243) text ≡ take 486 (drop (from + 243) text) ++ drop (from + 729) text
six_cut text from =
    let n : from + 243 + 486 ≡ from + 729 = omega arith in
    next_piece (from + 243) 486 text (drop (from + 729) text) (ap (λ (k : ℕ). drop k text) n)

below_cut : (text number : List ℕ) (from : ℕ) (l : LabelView) → IsRead text number from l
    → drop 243 text ≡ marker_number_line number ++ (take 486 (drop (from + 243) text) ++ drop (from + 729) text)
below_cut text number from l r =
    elim (blank_or_filled number) [
      | inl none ↦
          let n : 243 ≡ from + 243 = omega (arith, r.blank none) in
          ap (λ (k : ℕ). drop k text) n ∙ six_cut text from
          ∙ ap (λ (t : List ℕ). t ++ (take 486 (drop (from + 243) text) ++ drop (from + 729) text)) (sym (if_blank number [] (header_line (left 20 number) (codes "MARKER NUMBER")) none))
      | inr some ↦
          let n : 324 ≡ from + 243 = omega (arith, r.filled some) in
          next_piece 243 81 text _ (ap (λ (k : ℕ). drop k text) n ∙ six_cut text from)
          ∙ ap (λ (t : List ℕ). t ++ (take 486 (drop (from + 243) text) ++ drop (from + 729) text)) (r.line.some some)
    ]

pub text_cut : (text number : List ℕ) (from : ℕ) (l : LabelView) → IsRead text number from l
    → text ≡ take 243 text ++ (marker_number_line number ++ (take 486 (drop (from + 243) text) ++ drop (from + 729) text))
text_cut text number from l r = sym (take-append-drop 243 text) ∙ ap (λ (t : List ℕ). take 243 text ++ t) (below_cut text number from l r)

pub length-plain_top : (l : LabelView) (top : List ℕ) → length top ≡ 243 → length (plain_top l top) ≡ 243
length-plain_top l top long =
    let plain : List ℕ = plain_columns 20 l.run_by (take 20 (drop 101 top)) in
    ap length (glue_three (take 101 top) plain (take 122 (drop 121 top)))
    ∙ length-three (top_columns top plain) (top_sizes top plain long (length-plain_columns 20 l.run_by (take 20 (drop 101 top)) (length-piece 101 20 top (omega (arith, long)))))

pub length-plain_middle : (l : LabelView) (m : List ℕ) → length m ≡ 486 → length (plain_middle l m) ≡ 486
length-plain_middle l m long = ap length (plain_middle_is l m) ∙ length-six (middle_columns m (plain_cells l m)) (middle_sizes m (plain_cells l m) long (plain_cells_are l m long))

pub length-front : (text number : List ℕ) (from : ℕ) (l : LabelView) → IsRead text number from l → length (plain_front text from l) ≡ 729
length-front text number from l r =
    length-append (plain_top l (take 243 text)) (plain_middle l (take 486 (drop (from + 243) text)))
    ∙ omega (arith, length-plain_top l (take 243 text) (length-first text r.long), length-plain_middle l _ (length-next text from r.long (within text number from l r)))

-- ---- what the plain text says of the text

pub was_labelled : (text number : List ℕ) (from : ℕ) (l : LabelView) (p : FileParts) → IsRead text number from l → AreFileParts p
    → plain_front text from l ++ drop (from + 729) text ≡ text_of_parts blank_label p → (text ≡ text_of_parts l p) × IsFor l p.site
was_labelled text number from l p r good e =
    let top : List ℕ = take 243 text in
    let m : List ℕ = take 486 (drop (from + 243) text) in
    let rest : List ℕ = drop (from + 729) text in
    let a = length-first text r.long in
    let b = length-next text from r.long (within text number from l r) in
    let two = same_parts (plain_top l top) (top_lines p.letter [] p.marker p.made) (plain_middle l m ++ rest) (middle_lines blank_label p.site ++ p.rest)
    (length-plain_top l top a ∙ sym (length-top p.letter [] p.marker p.made (omega arith) good.marker))
    (sym (append_assoc (plain_top l top) (plain_middle l m) rest) ∙ e) in
    let next = same_parts (plain_middle l m) (middle_lines blank_label p.site) rest p.rest
    (length-plain_middle l m b ∙ sym (length-middle blank_label p.site blank_is_label good.site)) two.1 in
    let first : top ≡ top_lines p.letter l.run_by p.marker p.made =
    top_was p.letter top l.run_by p.marker p.made a good.marker r.label.run_by two.0 in
    let six = middle_was m top number l p.site b r.good good.site r.label next.0 in (
      text_cut text number from l r
          ∙ ap (λ (x : List ℕ). x ++ (marker_number_line number ++ (m ++ rest))) first
          ∙ ap (λ (x : List ℕ). top_lines p.letter l.run_by p.marker p.made ++ (marker_number_line x ++ (m ++ rest))) (sym r.label.marker_number)
          ∙ ap (λ (x : List ℕ). top_lines p.letter l.run_by p.marker p.made ++ (marker_number_line l.marker_number ++ (x ++ rest))) six.0
          ∙ ap (λ (x : List ℕ). top_lines p.letter l.run_by p.marker p.made ++ (marker_number_line l.marker_number ++ (middle_lines l p.site ++ x))) next.1,
      six.1,
    )

-- ---- what a labelled text is parted into

pub first_of_middle : (g : LabelView) (p : FileParts) → IsLabel g → AreFileParts p → (rest : List ℕ) → length type_line ≡ 81
    → take 81 (middle_lines g p.site ++ rest) ≡ type_line
first_of_middle g p is good rest size =
    let tail : List ℕ = drop 81 (joined (line_cells g p.site)) in
    ap (λ (x : List ℕ). take 81 (x ++ rest)) (middle_is g p.site is good.site)
    ∙ ap (take 81) (append_assoc type_line _ rest) ∙ take_at type_line _ 81 size

pub length-type : length type_line ≡ 81
unfolding type_line
length-type = length-line (codes "GEODETIC") (codes "MARKER TYPE") (omega arith) (omega arith)

number_told : (text number : List ℕ) (from : ℕ) (l g : LabelView) (p : FileParts) → IsRead text number from l → IsLabel g → AreFileParts p
    → drop 243 text ≡ marker_number_line g.marker_number ++ (middle_lines g p.site ++ p.rest) → number ≡ g.marker_number
number_told text number from l g p r is good e =
    elim (blank_or_filled g.marker_number) [
      | inl none ↦
          let below : drop 243 text ≡ middle_lines g p.site ++ p.rest =
          e ∙ ap (λ (x : List ℕ). x ++ (middle_lines g p.site ++ p.rest)) (if_blank g.marker_number [] (header_line (left 20 g.marker_number) (codes "MARKER NUMBER")) none) in
          let line : take 81 (drop 243 text) ≡ type_line = ap (take 81) below ∙ first_of_middle g p is good p.rest length-type in
          elim (blank_or_filled number) [
            | inl blank ↦ none_is number blank ∙ sym (none_is g.marker_number none)
            | inr some ↦ absurd (no_number number r.line.good some (sym line ∙ r.line.some some))
          ]
      | inr some ↦
          r.line.all g.marker_number is.marker_number some
          (ap (take 81) e ∙ take_at (marker_number_line g.marker_number) (middle_lines g p.site ++ p.rest) 81 (length-number g.marker_number is.marker_number some))
    ]

pub record IsPlainOf (text : List ℕ) (from : ℕ) (l g : LabelView) (p : FileParts) : Type 0 where
  pub plain : plain_front text from l ++ drop (from + 729) text ≡ text_of_parts blank_label p
  pub label : l ≡ g

abbrev label_with : List ℕ → List ℕ → List ℕ → List ℕ → List ℕ → List ℕ → List ℕ → List ℕ → List ℕ → List ℕ → List ℕ → List ℕ → LabelView
label_with a b c d e f h i j k m n =
    record {
      run_by = a;
      marker_number = b;
      observer = c;
      agency = d;
      receiver_number = e;
      receiver_type = f;
      receiver_version = h;
      antenna_number = i;
      antenna_type = j;
      height = k;
      east = m;
      north = n;
    }

same_fields : (a b c d e f h i j k m n a' b' c' d' e' f' h' i' j' k' m' n' : List ℕ) → a ≡ a' → b ≡ b' → c ≡ c' → d ≡ d' → e ≡ e' → f ≡ f' → h ≡ h'
    → i ≡ i' → j ≡ j' → k ≡ k' → m ≡ m' → n ≡ n' → label_with a b c d e f h i j k m n ≡ label_with a' b' c' d' e' f' h' i' j' k' m' n'
same_fields a b c d e f h i j k m n a' b' c' d' e' f' h' i' j' k' m' n' ea eb ec ed ee ef eh ei ej ek em en =
    cc

one_label : (l g : LabelView) → l.run_by ≡ g.run_by → l.marker_number ≡ g.marker_number → l.observer ≡ g.observer → l.agency ≡ g.agency
    → l.receiver_number ≡ g.receiver_number → l.receiver_type ≡ g.receiver_type → l.receiver_version ≡ g.receiver_version
    → l.antenna_number ≡ g.antenna_number → l.antenna_type ≡ g.antenna_type → l.height ≡ g.height → l.east ≡ g.east → l.north ≡ g.north → l ≡ g
one_label l g a b c d e f h i j k m n =
    same_fields l.run_by l.marker_number l.observer l.agency l.receiver_number l.receiver_type l.receiver_version l.antenna_number l.antenna_type l.height l.east l.north
    g.run_by g.marker_number g.observer g.agency g.receiver_number g.receiver_type g.receiver_version g.antenna_number g.antenna_type g.height g.east g.north
    a b c d e f h i j k m n

pub is_plain : (text number : List ℕ) (from : ℕ) (l g : LabelView) (p : FileParts) → IsRead text number from l → AreFileParts p → IsLabel g → IsFor g p.site
    → text ≡ text_of_parts g p → IsPlainOf text from l g p
is_plain text number from l g p r good is for e =
    let top : List ℕ = take 243 text in
    let m : List ℕ = take 486 (drop (from + 243) text) in
    let rest : List ℕ = drop (from + 729) text in
    let a = length-first text r.long in
    let b = length-next text from r.long (within text number from l r) in
    let two = same_parts top (top_lines p.letter g.run_by p.marker p.made) (drop 243 text) (marker_number_line g.marker_number ++ (middle_lines g p.site ++ p.rest))
    (a ∙ sym (length-top p.letter g.run_by p.marker p.made is.run_by.0 good.marker)) (take-append-drop 243 text ∙ e) in
    let same : number ≡ g.marker_number = number_told text number from l g p r is good two.1 in
    let tail : m ++ rest ≡ middle_lines g p.site ++ p.rest =
    append_cancel_left (marker_number_line number) (m ++ rest) (middle_lines g p.site ++ p.rest)
    (sym (below_cut text number from l r) ∙ two.1 ∙ ap (λ (x : List ℕ). marker_number_line x ++ (middle_lines g p.site ++ p.rest)) (sym same)) in
    let next = same_parts m (middle_lines g p.site) rest p.rest (b ∙ sym (length-middle g p.site is good.site)) tail in
    let first = top_is_plain p.letter top l.run_by g.run_by p.marker p.made a good.marker r.label.run_by is.run_by two.0 in
    let six = middle_is_plain m top number l g p.site b is for good.site r.label next.0 in record {
      plain = append_assoc (plain_top l top) (plain_middle l m) rest
          ∙ ap (λ (x : List ℕ). x ++ (plain_middle l m ++ rest)) first.0
          ∙ ap (λ (x : List ℕ). top_lines p.letter [] p.marker p.made ++ (x ++ rest)) six.plain
          ∙ ap (λ (x : List ℕ). top_lines p.letter [] p.marker p.made ++ (middle_lines blank_label p.site ++ x)) next.1;
      label = one_label l g first.1 (r.label.marker_number ∙ same) six.observer six.agency six.receiver_number six.receiver_type six.receiver_version
          six.antenna_number six.antenna_type six.height six.east six.north;
    }

-- ---- lines behind the nine that a label changes

-- what stands after the first nine lines
pub after-front : (p : FileParts) → AreFileParts p → drop 729 (text_of_parts blank_label p) ≡ p.rest
after-front p good =
    let top : List ℕ = top_lines p.letter [] p.marker p.made in
    let middle : List ℕ = middle_lines blank_label p.site in
    let a = length-top p.letter [] p.marker p.made (omega arith) good.marker in
    let b = length-middle blank_label p.site blank_is_label good.site in
    let below : drop 243 (text_of_parts blank_label p) ≡ middle ++ p.rest = drop_at top (middle ++ p.rest) 243 a in
    sym (drop-drop 486 243 (text_of_parts blank_label p)) ∙ ap (drop 486) below ∙ drop_at middle p.rest 486 b

-- the first nine lines without a label
abbrev nine_of : FileParts → List ℕ
nine_of p = top_lines p.letter [] p.marker p.made ++ middle_lines blank_label p.site

length-nine : (p : FileParts) → AreFileParts p → length (nine_of p) ≡ 729
length-nine p good =
    length-append (top_lines p.letter [] p.marker p.made) (middle_lines blank_label p.site)
    ∙ omega (arith, length-top p.letter [] p.marker p.made (omega arith) good.marker, length-middle blank_label p.site blank_is_label good.site)

nine-with : (lines : List ℕ) (p : FileParts) → nine_of p ++ (lines ++ p.rest) ≡ text_of_parts blank_label (with_lines lines p)
nine-with lines p = append_assoc (top_lines p.letter [] p.marker p.made) (middle_lines blank_label p.site) (lines ++ p.rest)

nine-rest : (p : FileParts) → nine_of p ++ p.rest ≡ text_of_parts blank_label p
nine-rest p = append_assoc (top_lines p.letter [] p.marker p.made) (middle_lines blank_label p.site) p.rest

pub lines-good : (lines : List ℕ) (p : FileParts) → AreFileParts p → AreFileParts (with_lines lines p)
lines-good lines p good = record {
  marker = good.marker;
  site = good.site;
  more = let long = good.more in omega (arith, length-append lines p.rest, long);
}

glue_lines : (a n m x r : List ℕ) → (((a ++ n) ++ m) ++ x) ++ r ≡ a ++ (n ++ (m ++ (x ++ r)))
glue_lines a n m x r = simp append_assoc

lines-parts : (lines : List ℕ) (l : LabelView) (p : FileParts) (plain : List ℕ) → AreFileParts p → plain ≡ text_of_parts blank_label p
    → (((top_lines p.letter l.run_by p.marker p.made ++ marker_number_line l.marker_number) ++ middle_lines l p.site) ++ lines) ++ drop 729 plain ≡ text_of_parts l (with_lines lines p)
lines-parts lines l p plain good is =
    let front : List ℕ = ((top_lines p.letter l.run_by p.marker p.made ++ marker_number_line l.marker_number) ++ middle_lines l p.site) ++ lines in
    ap (λ (x : List ℕ). front ++ x) (ap (drop 729) is ∙ after-front p good)
    ∙ glue_lines (top_lines p.letter l.run_by p.marker p.made) (marker_number_line l.marker_number) (middle_lines l p.site) lines p.rest

gps-lines : (lines : List ℕ) (l : LabelView) (t : WellFormedTable) → IsWellFormedTable t → labelled_with lines l t ≡ text_of_parts l (with_lines lines (parts_of t))
gps-lines lines l t good = lines-parts lines l (parts_of t) (table_text t) (parts-good t good) (plain_parts t)

mixed-lines : (lines : List ℕ) (l : LabelView) (t : MixedTable) → IsMixedTable t → labelled_mixed_with lines l t ≡ text_of_parts l (with_lines lines (mixed_parts_of t))
mixed-lines lines l t good = lines-parts lines l (mixed_parts_of t) (mixed_table_text t) (mixed_parts-good t good) (mixed_plain_parts t)

-- ---- the parts are those of a table

was_gps : (text plain : List ℕ) (l : LabelView) (lines : List ℕ) → WasOfParts text plain l lines → WasLabelled text plain l lines
was_gps text plain l lines was t good e =
    let is = was (parts_of t) (parts-good t good) (e ∙ plain_parts t) in (is.0 ∙ sym (gps-lines lines l t good), is.1)

every_gps : (text plain : List ℕ) (l : LabelView) (w : TimeLines) (lines : List ℕ) → IsOfEveryParts text plain l w lines → IsOfEveryTable text plain l w lines
every_gps text plain l w lines every t m v interval last good is for moment e =
    let p = every (parts_of t) m v interval last (parts-good t good) (gps-next t good) is for moment (e ∙ gps-lines (extent_lines v interval last) m t good) in
    (p.0 ∙ sym (plain_parts t), p.1, p.2, p.3)

was_mixed : (text plain : List ℕ) (l : LabelView) (lines : List ℕ) → WasOfParts text plain l lines → WasLabelledMixed text plain l lines
was_mixed text plain l lines was t good e =
    let is = was (mixed_parts_of t) (mixed_parts-good t good) (e ∙ mixed_plain_parts t) in (is.0 ∙ sym (mixed-lines lines l t good), is.1)

every_mixed : (text plain : List ℕ) (l : LabelView) (w : TimeLines) (lines : List ℕ) → IsOfEveryParts text plain l w lines → IsOfEveryMixedTable text plain l w lines
every_mixed text plain l w lines every t m v interval last good is for moment e =
    let p = every (mixed_parts_of t) m v interval last (mixed_parts-good t good) (mixed-next t good) is for moment (e ∙ mixed-lines (extent_lines v interval last) m t good) in
    (p.0 ∙ sym (mixed_plain_parts t), p.1, p.2, p.3)

begins_gps : (text plain : List ℕ) → BeginsEveryParts text plain → BeginsEveryTable text plain
begins_gps text plain every t m rest good is for e =
    let p = every (parts_of t) m rest (parts-good t good) is for (e ∙ label_parts m t) in (p.0, p.1 ∙ sym (plain_parts t))

begins_mixed : (text plain : List ℕ) → BeginsEveryParts text plain → BeginsEveryMixedTable text plain
begins_mixed text plain every t m rest good is for e =
    let p = every (mixed_parts_of t) m rest (mixed_parts-good t good) is for (e ∙ mixed_label_parts m t) in (p.0, p.1 ∙ sym (mixed_plain_parts t))

parted_by : (text plain : List ℕ) (l : LabelView) (w : TimeLines) (lines : List ℕ) → IsLabel l → WasOfParts text plain l lines → IsOfEveryParts text plain l w lines
    → (length text < 810 → IsCutText text plain l) → IsParted text plain l w lines
parted_by text plain l w lines good was every cut = record {
  good = good;
  labelled = was_gps text plain l lines was;
  every = every_gps text plain l w lines every;
  labelled_mixed = was_mixed text plain l lines was;
  every_mixed = every_mixed text plain l w lines every;
  cut = cut;
}

-- a text whose six lines end after so many bytes, with time lines behind them
pub record IsReadTold (text number front : List ℕ) (from : ℕ) (l : LabelView) (w : TimeLines) (lines : List ℕ) : Type 0 where
  pub read : IsRead text number from l
  pub front_is : front ≡ plain_front text from l
  pub told : AreTold (drop (from + 729) text) w lines

-- the first nine lines have room before it
pub front-fits : (n k total : ℕ) (lines : List ℕ) → n ≤ 81 → 810 ≤ total → (n + 729 ≤ total → n + 729 + length lines ≤ total) → k ≡ length lines → n + k + 729 ≤ total
front-fits n k total lines few long within same = let inside = within (omega (arith, few, long)) in omega (arith, inside, same)

-- what is left behind the time lines
pub behind-lines : (text number front : List ℕ) (from : ℕ) (l : LabelView) (w : TimeLines) (lines : List ℕ) → IsReadTold text number front from l w lines
    → drop (from + 729) text ≡ lines ++ drop (from + length lines + 729) text
behind-lines text number front from l w lines c =
    let sum : from + 729 + length lines ≡ from + length lines + 729 = omega arith in
    c.told.parts ∙ ap (λ (x : List ℕ). lines ++ x) (drop-drop (length lines) (from + 729) text ∙ ap (λ (k : ℕ). drop k text) sum)

length-read : (text number front : List ℕ) (from : ℕ) (l : LabelView) (w : TimeLines) (lines : List ℕ) → IsReadTold text number front from l w lines → length front ≡ 729
length-read text number front from l w lines c = ap length c.front_is ∙ length-front text number from l c.read

-- the plain text is that of parts
told-was : (text number front : List ℕ) (from : ℕ) (l : LabelView) (w : TimeLines) (lines : List ℕ) → IsReadTold text number front from l w lines → (p : FileParts) → AreFileParts p
    → front ++ drop (from + length lines + 729) text ≡ text_of_parts blank_label p → (text ≡ text_of_parts l (with_lines lines p)) × IsFor l p.site
told-was text number front from l w lines c p good e =
    let rest : List ℕ = drop (from + length lines + 729) text in
    let two = same_parts front (nine_of p) rest p.rest (length-read text number front from l w lines c ∙ sym (length-nine p good)) (e ∙ sym (nine-rest p)) in
    was_labelled text number from l (with_lines lines p) c.read (lines-good lines p good)
    (ap (λ (x : List ℕ). x ++ drop (from + 729) text) (sym c.front_is ∙ two.0)
    ∙ ap (λ (x : List ℕ). nine_of p ++ x) (behind-lines text number front from l w lines c ∙ ap (λ (x : List ℕ). lines ++ x) two.1)
    ∙ nine-with lines p)

-- the text is that of parts with a label and time lines
told-every : (text number front : List ℕ) (from : ℕ) (l : LabelView) (w : TimeLines) (lines : List ℕ) → IsReadTold text number front from l w lines → (p : FileParts) (m : LabelView) (v : TimeLines) (interval last : Option ℕ)
    → AreFileParts p → HasNoTimeLine p.rest → IsLabel m → IsFor m p.site → IfSome last IsMoment → text ≡ text_of_parts m (with_lines (extent_lines v interval last) p)
    → (front ++ drop (from + length lines + 729) text ≡ text_of_parts blank_label p) × (l ≡ m) × (lines ≡ extent_lines v interval last) × (extent_lines w interval last ≡ lines)
told-every text number front from l w lines c p m v interval last good next is for moment e =
    let due : List ℕ = extent_lines v interval last in
    let q = is_plain text number from l m (with_lines due p) c.read (lines-good due p good) is for e in
    let tail : List ℕ = drop (from + 729) text in
    let rest : List ℕ = drop (from + length lines + 729) text in
    let two = same_parts front (nine_of p) tail (due ++ p.rest) (length-read text number front from l w lines c ∙ sym (length-nine p good))
    (ap (λ (x : List ℕ). x ++ tail) c.front_is ∙ q.plain ∙ sym (nine-with due p)) in
    let own = c.told.every v interval last p.rest moment next two.1 in
    let left : rest ≡ p.rest =
    append_cancel_left lines rest p.rest (sym (behind-lines text number front from l w lines c) ∙ two.1 ∙ ap (λ (x : List ℕ). x ++ p.rest) (sym own.0)) in
    (ap (λ (x : List ℕ). x ++ rest) two.0 ∙ ap (λ (x : List ℕ). nine_of p ++ x) left ∙ nine-rest p, q.label, own.0, own.1)

pub parted : (text number front plain : List ℕ) (from : ℕ) (l : LabelView) (w : TimeLines) (lines : List ℕ) → IsReadTold text number front from l w lines
    → plain ≡ front ++ drop (from + length lines + 729) text → IsParted text plain l w lines
parted text number front plain from l w lines c plain_is =
    parted_by text plain l w lines c.read.good
    (λ p good e. told-was text number front from l w lines c p good (sym plain_is ∙ e))
    (λ p m v interval last good next is for moment e.
    let q = told-every text number front from l w lines c p m v interval last good next is for moment e in (plain_is ∙ q.0, q.1, q.2, q.3))
    (λ short. let long = c.read.long in absurd (omega (arith, short, long)))

-- a text that ends within its first ten lines is that of no table
pub parted_cut : (text plain : List ℕ) (l : LabelView) (w : TimeLines) (lines : List ℕ) → length text < 810 → length plain ≤ length text → IsLabel l → IsCutText text plain l → IsParted text plain l w lines
parted_cut text plain l w lines short small good is =
    parted_by text plain l w lines good
    (λ p parts e. let size = ap length e in absurd (omega (arith, short, small, size, length-labelled blank_label p blank_is_label parts)))
    (λ p m v interval last parts next fits for moment e.
    let due : List ℕ = extent_lines v interval last in
    let size = ap length e in absurd (omega (arith, short, size, length-labelled m (with_lines due p) fits (lines-good due p parts))))
    (λ h. is)

pub cut_text : (text lines plain : List ℕ) (l : LabelView) → plain ≡ lines ++ drop (whole_len text) text
    → ((rest : List ℕ) → WasOfParts (whole_lines text ++ rest) (lines ++ rest) l []) → BeginsEveryParts (whole_lines text) lines → IsCutText text plain l
cut_text text lines plain l parts was every = record {
  lines = lines;
  parts = parts;
  labelled = λ rest. was_gps (whole_lines text ++ rest) (lines ++ rest) l [] (was rest);
  every = begins_gps (whole_lines text) lines every;
  labelled_mixed = λ rest. was_mixed (whole_lines text ++ rest) (lines ++ rest) l [] (was rest);
  every_mixed = begins_mixed (whole_lines text) lines every;
}
