-- The laws of src/laws.rt.
use Rattle.std.proofs.Common.{◌≡◌, ◌<◌, ◌≤◌, ℕ, List, [], ◌++◌, length, take, drop, codes, ap, sym, arith, refl, ◌∙◌, append_assoc, subst, inl, inr}
use Rattle.std.specs.Prelude.{flat_map}
use Rattle.std.proofs.lemmas.List.{take_at, drop_at, drop-drop}
use Rattle.rtk_rinex.specs.CheckTable.{OneTable}
use Rattle.rtk_rinex.specs.Columns.{left, IsField}
use Rattle.rtk_rinex.specs.Header.{HeadView, IsMarker, IsPositionView, header_line}
use Rattle.rtk_rinex.specs.MixedHead.{MixedHeadView}
use Rattle.rtk_rinex.specs.Record.{record_text}
use Rattle.rtk_rinex.specs.MixedRecord.{mixed_record_text}
use Rattle.rtk_rinex.specs.Table.{WellFormedTable, table_text}
use Rattle.rtk_rinex.specs.MixedTable.{mixed_table_text}
use Rattle.rtk_label.specs.Fields.{marker_number_line}
use Rattle.rtk_label.specs.Labelled.{LabelView, IsLabel, IsFor, blank_label, top_lines, middle_lines, front_lines, mixed_front_lines}
use Rattle.rtk_label.specs.LabelLaws.{BlankIsFile, FilesAreLong, FrontIsChanged, LabelsAreTold, RecordsStay, MixedLabelsAreTold, MixedFrontIsChanged, MixedRecordsStay, MixedLabelLaws}
use Rattle.rtk_label.proofs.FileParts.{FileParts, AreFileParts, text_of_parts, parts_of, mixed_parts_of}
use Rattle.rtk_label.specs.Steps.Shown.{IsNumberIn, IsRead}
use Rattle.rtk_label.proofs.PieceLemmas.{same_parts}
use Rattle.rtk_label.proofs.ChoiceLemmas.{if_blank, blank_or_filled}
use Rattle.rtk_label.proofs.FieldLemmas.{length-left, field_in}
use Rattle.rtk_label.proofs.LineLemmas.{line_end}
use Rattle.rtk_label.proofs.FrontLemmas.{type_line}
use Rattle.rtk_label.proofs.NumberLemmas.{no_number, length-number, number_cut}
use Rattle.rtk_label.proofs.PlainLemmas.{blank_is_label, top_in, label_in}
use Rattle.rtk_label.proofs.TableLemmas.{length-top, length-middle, blank_text, blank_mixed_text, label_parts, plain_parts, parts-good, long-after, mixed_label_parts, mixed_plain_parts, mixed_parts-good, mixed_long-after, length-labelled}
use Rattle.rtk_label.proofs.PartedLemmas.{after-front, is_plain, length-type, first_of_middle}

pub blank-is_file : BlankIsFile
blank-is_file t = blank_text t

pub records-stay : RecordsStay
records-stay l t = record { records = flat_map record_text t.epochs; plain = refl; labelled = refl }

mixed-records : MixedRecordsStay
mixed-records l t = record { records = flat_map (mixed_record_text t.head.doppler) t.epochs; plain = refl; labelled = refl }

glue_front : (a n m x : List ℕ) → ((a ++ n) ++ m) ++ x ≡ a ++ (n ++ (m ++ x))
glue_front a n m x = simp append_assoc

front-of_parts : (l : LabelView) (p : FileParts) (plain front : List ℕ) → AreFileParts p → plain ≡ text_of_parts blank_label p
    → (top_lines p.letter l.run_by p.marker p.made ++ marker_number_line l.marker_number) ++ middle_lines l p.site ≡ front → text_of_parts l p ≡ front ++ drop 729 plain
front-of_parts l p plain front good is same =
    sym (glue_front (top_lines p.letter l.run_by p.marker p.made) (marker_number_line l.marker_number) (middle_lines l p.site) p.rest)
    ∙ ap (λ (x : List ℕ). x ++ p.rest) same ∙ ap (λ (x : List ℕ). front ++ x) (sym (ap (drop 729) is ∙ after-front p good))

same_front : (l : LabelView) (t u : WellFormedTable) → u.head ≡ t.head → u.site ≡ t.site → front_lines l u.head u.site ≡ front_lines l t.head t.site
same_front l t u h s = ap (λ x. front_lines l x u.site) h ∙ ap (λ x. front_lines l t.head x) s

pub front-is_changed : FrontIsChanged
front-is_changed l t u good h s =
    let marker : IsMarker u.head.marker = subst (λ (x : HeadView). IsMarker x.marker) (sym h) good.head.0 in
    let place : IsPositionView u.site = subst IsPositionView (sym s) good.site in
    label_parts l u ∙ front-of_parts l (parts_of u) (table_text u) (front_lines l t.head t.site) (record { marker = marker; site = place; more = long-after u }) (plain_parts u) (same_front l t u h s)

mixed-front : MixedFrontIsChanged
mixed-front l t u good h s =
    let marker : IsMarker u.head.marker = subst (λ (x : MixedHeadView). IsMarker x.marker) (sym h) good.head.marker in
    let place : IsPositionView u.site = subst IsPositionView (sym s) good.site in
    mixed_label_parts l u
    ∙ front-of_parts l (mixed_parts_of u) (mixed_table_text u) (mixed_front_lines l t.head t.site) (record { marker = marker; site = place; more = mixed_long-after u }) (mixed_plain_parts u)
    (ap (λ x. mixed_front_lines l x u.site) h ∙ ap (λ x. mixed_front_lines l t.head x) s)

-- ---- a labelled text shows its label

one_number_line : (n g : List ℕ) → IsField 20 n → IsField 20 g → 0 < length n → 0 < length g → marker_number_line n ≡ marker_number_line g → n ≡ g
one_number_line n g is good some filled e =
    let two = same_parts (left 20 n) (left 20 g) (line_end 40 (codes "MARKER NUMBER")) (line_end 40 (codes "MARKER NUMBER"))
    (length-left 20 n is.0 ∙ sym (length-left 20 g good.0)) (sym (number_cut n is.0 some) ∙ e ∙ number_cut g good.0 filled) in
    (field_in 20 (left 20 n) n is refl).all g good two.0

number_in_filled : (line n : List ℕ) → IsField 20 n → 0 < length n → line ≡ marker_number_line n → IsNumberIn line n
number_in_filled line n is some e = record {
  good = is;
  some = λ h. e;
  all = λ g good filled other. one_number_line n g is good some filled (sym e ∙ other);
}

number_in_blank : (line n : List ℕ) → IsField 20 n → length n ≡ 0 → line ≡ type_line → IsNumberIn line n
number_in_blank line n is none e = record {
  good = is;
  some = λ h. absurd (omega (arith, none, h));
  all = λ g good filled other. absurd (no_number g good filled (sym e ∙ other));
}

pub read_blank : (text : List ℕ) (l : LabelView) (p : FileParts) → IsLabel l → AreFileParts p → text ≡ text_of_parts l p → length l.marker_number ≡ 0
    → IsRead text l.marker_number 0 l
read_blank text l p is good e none =
    let top : List ℕ = top_lines p.letter l.run_by p.marker p.made in
    let middle : List ℕ = middle_lines l p.site in
    let a = length-top p.letter l.run_by p.marker p.made is.run_by.0 good.marker in
    let b = length-middle l p.site is good.site in
    let parts : text ≡ top ++ (middle ++ p.rest) =
    e ∙ ap (λ (x : List ℕ). top ++ (x ++ (middle ++ p.rest))) (if_blank l.marker_number [] (header_line (left 20 l.marker_number) (codes "MARKER NUMBER")) none) in
    let first : take 243 text ≡ top = ap (take 243) parts ∙ take_at top (middle ++ p.rest) 243 a in
    let below : drop 243 text ≡ middle ++ p.rest = ap (drop 243) parts ∙ drop_at top (middle ++ p.rest) 243 a in
    let six : take 486 (drop 243 text) ≡ middle = ap (take 486) below ∙ take_at middle p.rest 486 b in
    let line : take 81 (drop 243 text) ≡ type_line = ap (take 81) below ∙ first_of_middle l p is good p.rest length-type in record {
      long = rw e (length-labelled l p is good);
      line = number_in_blank _ l.marker_number is.marker_number none line;
      blank = λ h. refl;
      filled = λ h. absurd (omega (arith, none, h));
      label = label_in (take 243 text) l.marker_number (take 486 (drop 243 text)) l p.site (ap length six ∙ b) is good.site
          (top_in p.letter (take 243 text) l.run_by p.marker p.made (ap length first ∙ a) good.marker is.run_by first) refl six;
      good = is;
    }

pub read_filled : (text : List ℕ) (l : LabelView) (p : FileParts) → IsLabel l → AreFileParts p → text ≡ text_of_parts l p → 0 < length l.marker_number
    → IsRead text l.marker_number 81 l
read_filled text l p is good e some =
    let top : List ℕ = top_lines p.letter l.run_by p.marker p.made in
    let middle : List ℕ = middle_lines l p.site in
    let number : List ℕ = marker_number_line l.marker_number in
    let a = length-top p.letter l.run_by p.marker p.made is.run_by.0 good.marker in
    let b = length-middle l p.site is good.site in
    let n = length-number l.marker_number is.marker_number some in
    let parts : text ≡ top ++ (number ++ (middle ++ p.rest)) = e in
    let first : take 243 text ≡ top = ap (take 243) parts ∙ take_at top (number ++ (middle ++ p.rest)) 243 a in
    let below : drop 243 text ≡ number ++ (middle ++ p.rest) = ap (drop 243) parts ∙ drop_at top (number ++ (middle ++ p.rest)) 243 a in
    let line : take 81 (drop 243 text) ≡ number = ap (take 81) below ∙ take_at number (middle ++ p.rest) 81 n in
    let lower : drop 324 text ≡ middle ++ p.rest = sym (drop-drop 81 243 text) ∙ ap (drop 81) below ∙ drop_at number (middle ++ p.rest) 81 n in
    let six : take 486 (drop 324 text) ≡ middle = ap (take 486) lower ∙ take_at middle p.rest 486 b in record {
      long = rw e (length-labelled l p is good);
      line = number_in_filled _ l.marker_number is.marker_number some line;
      blank = λ h. absurd (omega (arith, some, h));
      filled = λ h. refl;
      label = label_in (take 243 text) l.marker_number (take 486 (drop 324 text)) l p.site (ap length six ∙ b) is good.site
          (top_in p.letter (take 243 text) l.run_by p.marker p.made (ap length first ∙ a) good.marker is.run_by first) refl six;
      good = is;
    }

same_told : (text : List ℕ) (from : ℕ) (l m : LabelView) (p q : FileParts) → IsRead text l.marker_number from l → IsLabel l → IsLabel m
    → IsFor l p.site → IsFor m q.site → AreFileParts p → AreFileParts q → text ≡ text_of_parts l p → text ≡ text_of_parts m q → (l ≡ m) × (text_of_parts blank_label p ≡ text_of_parts blank_label q)
same_told text from l m p q r is good for other wp wq e f =
    let a = is_plain text l.marker_number from l l p r wp is for e in
    let b = is_plain text l.marker_number from l m q r wq good other f in
    (b.label, sym a.plain ∙ b.plain)

parts-told : (l m : LabelView) (p q : FileParts) → IsLabel l → IsLabel m → IsFor l p.site → IsFor m q.site → AreFileParts p → AreFileParts q → text_of_parts l p ≡ text_of_parts m q
    → (l ≡ m) × (text_of_parts blank_label p ≡ text_of_parts blank_label q)
parts-told l m p q is good for other wp wq e =
    elim (blank_or_filled l.marker_number) [
      | inl none ↦ same_told (text_of_parts l p) 0 l m p q (read_blank (text_of_parts l p) l p is wp refl none) is good for other wp wq refl e
      | inr some ↦ same_told (text_of_parts l p) 81 l m p q (read_filled (text_of_parts l p) l p is wp refl some) is good for other wp wq refl e
    ]

pub labels-told : OneTable → LabelsAreTold
labels-told one l m t u is good for other wt wu e =
    let told = parts-told l m (parts_of t) (parts_of u) is good for other (parts-good t wt) (parts-good u wu) (sym (label_parts l t) ∙ e ∙ label_parts m u) in
    (told.0, one t u wt wu (plain_parts t ∙ told.1 ∙ sym (plain_parts u)))

mixed-told : MixedLabelsAreTold
mixed-told l m t u is good for other wt wu e =
    let told = parts-told l m (mixed_parts_of t) (mixed_parts_of u) is good for other (mixed_parts-good t wt) (mixed_parts-good u wu) (sym (mixed_label_parts l t) ∙ e ∙ mixed_label_parts m u) in
    (told.0, mixed_plain_parts t ∙ told.1 ∙ sym (mixed_plain_parts u))

pub mixed-laws : MixedLabelLaws
mixed-laws = record { blank = blank_mixed_text; told = mixed-told; front = mixed-front; records = mixed-records }

pub files-long : FilesAreLong
files-long =
    record {
      gps = λ t good. subst (λ (text : List ℕ). 810 ≤ length text) (sym (plain_parts t)) (length-labelled blank_label (parts_of t) blank_is_label (parts-good t good));
      mixed = λ t good. subst (λ (text : List ℕ). 810 ≤ length text) (sym (mixed_plain_parts t)) (length-labelled blank_label (mixed_parts_of t) blank_is_label (mixed_parts-good t good));
    }
