-- What is written of a file with a label.
use Rattle.std.proofs.Common.{◌≡◌, ◌<◌, ◌≤◌, ◌==◌, true, ℕ, ◌+◌, Option, List, [], ◌++◌, length, take, drop, ap, sym, arith, refl, ◌∙◌, append_assoc}
use Rattle.std.specs.Prelude.{Result, Ok, Err, OnOk, OnErr, Decides}
use Rattle.std.proofs.lemmas.Bool.{eq-eqb}
use Rattle.std.proofs.lemmas.Bool.Decides.{nat_tests}
use Rattle.std.proofs.lemmas.List.{take_at, drop_at, drop-drop, drop-take, take-take, take-append-le, length-append}
use Rattle.std.proofs.Math.Seq.{take-append-add}
use Rattle.rtk_frame.specs.Stream.{with_more, TakesPart}
use Rattle.rtk_frame.proofs.PublicLaws.{with_more-with_more}
use Rattle.rtk_rinex.specs.Header.{PositionView}
use Rattle.rtk_rinex.specs.Table.{WellFormedTable, IsWellFormedTable, table_text}
use Rattle.rtk_rinex.specs.MixedTable.{MixedTable, IsMixedTable, mixed_table_text}
use Rattle.rtk_label.specs.Fields.{marker_number_line}
use Rattle.rtk_label.specs.Labelled.{LabelView, IsLabel, IsFor, blank_label, top_lines, middle_lines, labelled_text, labelled_mixed_text}
use Rattle.rtk_label.specs.LabelWriting.{IsFilledFront, WritesLabelled, WritesFirstLabelled, WritesFront, WritesFirstOfFront, WritesLabelledMixed, WritesFirstLabelledMixed, WritesMixedFront, WritesFirstOfMixedFront}
use Rattle.rtk_label.proofs.FileParts.{FileParts, AreFileParts, text_of_parts, parts_of, mixed_parts_of}
use Rattle.rtk_label.specs.Steps.Fronts.{filled_top, filled_middle, filled_front}
use Rattle.rtk_label.proofs.PlainLemmas.{blank_is_label, top_filled, middle_filled}
use Rattle.rtk_label.proofs.TableLemmas.{length-top, length-middle, label_parts, plain_parts, parts-good, mixed_label_parts, mixed_plain_parts, mixed_parts-good}

-- ---- texts in parts

-- a part of a text is a part of a longer one
pub part-longer : (before after : Option (List ℕ)) (text more whole : List ℕ) → whole ≡ text ++ more → TakesPart before after text → TakesPart before after whole
part-longer before after text more whole is part =
    let long : length whole ≡ length text + length more = ap length is ∙ length-append text more in
    let within : part.0 ≤ length whole = omega (arith, long, part.1) in
    (part.0, within, part.2 ∙ ap (λ t. with_more before t) (sym (ap (λ t. take part.0 t) is ∙ take-append-le part.0 text more part.1)))

-- a part after what is written already
pub part-after : (first before after : Option (List ℕ)) (done text whole : List ℕ) → whole ≡ done ++ text → before ≡ with_more first done → TakesPart before after text → TakesPart first after whole
part-after first before after done text whole is wrote part =
    let more : List ℕ = take part.0 text in
    let long : length whole ≡ length done + length text = ap length is ∙ length-append done text in
    let within : length done + part.0 ≤ length whole = omega (arith, long, part.1) in (
      length done + part.0,
      within,
      part.2 ∙ ap (λ o. with_more o more) wrote ∙ with_more-with_more first done more
          ∙ ap (λ t. with_more first t) (sym (ap (λ t. take (length done + part.0) t) is ∙ take-append-add done text part.0)),
    )

-- ---- a file with a label

glue_front : (a n m x : List ℕ) → ((a ++ n) ++ m) ++ x ≡ a ++ (n ++ (m ++ x))
glue_front a n m x = simp append_assoc

-- the lines of the label, and what stands after them
pub record IsFilled (text : List ℕ) (l : LabelView) (p : FileParts) : Type 0 where
  pub front : filled_front l text ≡ (top_lines p.letter l.run_by p.marker p.made ++ marker_number_line l.marker_number) ++ middle_lines l p.site
  pub whole : text_of_parts l p ≡ filled_front l text ++ drop 729 text

pub filled-is : (text : List ℕ) (l : LabelView) (p : FileParts) → IsLabel l → AreFileParts p → text ≡ text_of_parts blank_label p → IsFilled text l p
filled-is text l p is good whole =
    let top : List ℕ = top_lines p.letter [] p.marker p.made in
    let middle : List ℕ = middle_lines blank_label p.site in
    let number : List ℕ = marker_number_line l.marker_number in
    let a = length-top p.letter [] p.marker p.made (omega arith) good.marker in
    let b = length-middle blank_label p.site blank_is_label good.site in
    let first : take 243 text ≡ top = ap (take 243) whole ∙ take_at top (middle ++ p.rest) 243 a in
    let below : drop 243 text ≡ middle ++ p.rest = ap (drop 243) whole ∙ drop_at top (middle ++ p.rest) 243 a in
    let six : take 486 (drop 243 text) ≡ middle = ap (take 486) below ∙ take_at middle p.rest 486 b in
    let rest : drop 729 text ≡ p.rest = sym (drop-drop 486 243 text) ∙ ap (drop 486) below ∙ drop_at middle p.rest 486 b in
    let la : length (take 243 text) ≡ 243 = ap length first ∙ a in
    let lb : length (take 486 (drop 243 text)) ≡ 486 = ap length six ∙ b in
    let f : filled_top l (take 243 text) ≡ top_lines p.letter l.run_by p.marker p.made = top_filled p.letter (take 243 text) l.run_by p.marker p.made la good.marker is.run_by.0 first in
    let g : filled_middle l (take 486 (drop 243 text)) ≡ middle_lines l p.site = middle_filled (take 486 (drop 243 text)) l p.site lb is good.site six in
    let front : filled_front l text ≡ (top_lines p.letter l.run_by p.marker p.made ++ number) ++ middle_lines l p.site =
    ap (λ (x : List ℕ). (x ++ number) ++ filled_middle l (take 486 (drop 243 text))) f ∙ ap (λ (x : List ℕ). (top_lines p.letter l.run_by p.marker p.made ++ number) ++ x) g in record {
      front = front;
      whole = sym (glue_front (top_lines p.letter l.run_by p.marker p.made) number (middle_lines l p.site) p.rest) ∙ ap (λ (x : List ℕ). x ++ p.rest) (sym front) ∙ ap (λ (x : List ℕ). filled_front l text ++ x) (sym rest);
    }

gps-filled : (text : List ℕ) (l : LabelView) (t : WellFormedTable) → IsLabel l → IsWellFormedTable t → text ≡ table_text t → IsFilled text l (parts_of t)
gps-filled text l t is good e = filled-is text l (parts_of t) is (parts-good t good) (e ∙ plain_parts t)

mixed-filled : (text : List ℕ) (l : LabelView) (t : MixedTable) → IsLabel l → IsMixedTable t → text ≡ mixed_table_text t → IsFilled text l (mixed_parts_of t)
mixed-filled text l t is good e = filled-is text l (mixed_parts_of t) is (mixed_parts-good t good) (e ∙ mixed_plain_parts t)

-- ---- the lines that a label changes

pub wrote_lines : (text : List ℕ) (l : LabelView) (before after : Option (List ℕ)) → IsLabel l → after ≡ with_more before (filled_front l text) → WritesFront text l before after
wrote_lines text l before after is wrote t good e = wrote ∙ ap (with_more before) (gps-filled text l t is good e).front

pub wrote_some : (text : List ℕ) (l : LabelView) (before after : Option (List ℕ)) → IsLabel l → TakesPart before after (filled_front l text) → WritesFirstOfFront text l before after
wrote_some text l before after is part t good e = let f = (gps-filled text l t is good e).front in rw (← f) part

pub wrote_mixed_lines : (text : List ℕ) (l : LabelView) (before after : Option (List ℕ)) → IsLabel l → after ≡ with_more before (filled_front l text) → WritesMixedFront text l before after
wrote_mixed_lines text l before after is wrote t good e = wrote ∙ ap (with_more before) (mixed-filled text l t is good e).front

pub wrote_mixed_some : (text : List ℕ) (l : LabelView) (before after : Option (List ℕ)) → IsLabel l → TakesPart before after (filled_front l text) → WritesFirstOfMixedFront text l before after
wrote_mixed_some text l before after is part t good e = let f = (mixed-filled text l t is good e).front in rw (← f) part

-- ---- the first 729 bytes alone

-- they decide the lines
front-taken : (l : LabelView) (text : List ℕ) → filled_front l (take 729 text) ≡ filled_front l text
front-taken l text =
    let number : List ℕ = marker_number_line l.marker_number in
    let top : take 243 (take 729 text) ≡ take 243 text = take-take 243 729 text (omega arith) in
    let middle : take 486 (drop 243 (take 729 text)) ≡ take 486 (drop 243 text) =
    ap (λ (x : List ℕ). take 486 x) (drop-take 243 486 text) ∙ take-take 486 486 (drop 243 text) (omega arith) in
    ap (λ (x : List ℕ). (filled_top l x ++ number) ++ filled_middle l (take 486 (drop 243 (take 729 text)))) top
    ∙ ap (λ (x : List ℕ). (filled_top l (take 243 text) ++ number) ++ filled_middle l x) middle

from-front : (l : LabelView) (text front lines whole : List ℕ) → take 729 text ≡ front → lines ≡ filled_front l front → whole ≡ filled_front l text ++ drop 729 text
    → whole ≡ lines ++ drop 729 text
from-front l text front lines whole begins is all =
    all ∙ ap (λ (x : List ℕ). x ++ drop 729 text) (sym (front-taken l text) ∙ ap (λ (x : List ℕ). filled_front l x) begins ∙ sym is)

pub fills-front : (l : LabelView) (front lines : List ℕ) → IsLabel l → lines ≡ filled_front l front → IsFilledFront l front lines
fills-front l front lines good is =
    record {
      gps = λ t table begins. from-front l (table_text t) front lines (labelled_text l t) begins is (label_parts l t ∙ (gps-filled (table_text t) l t good table refl).whole);
      mixed = λ t table begins. from-front l (mixed_table_text t) front lines (labelled_mixed_text l t) begins is (mixed_label_parts l t ∙ (mixed-filled (mixed_table_text t) l t good table refl).whole);
    }

-- ---- the whole file

-- what is written of a text with a label, and of this a first part
abbrev pub labelled_of : LabelView → List ℕ → List ℕ
labelled_of l text = filled_front l text ++ drop 729 text

-- two writes give it
pub wrote_all : (text : List ℕ) (l : LabelView) (before mid after : Option (List ℕ)) → mid ≡ with_more before (filled_front l text) → after ≡ with_more mid (drop 729 text) → after ≡ with_more before (labelled_of l text)
wrote_all text l before mid after first next =
    next ∙ ap (λ (o : Option (List ℕ)). with_more o (drop 729 text)) first ∙ with_more-with_more before (filled_front l text) (drop 729 text)

-- the first write broke off
pub wrote_front : (text : List ℕ) (l : LabelView) (before after : Option (List ℕ)) → TakesPart before after (filled_front l text) → TakesPart before after (labelled_of l text)
wrote_front text l before after part = part-longer before after (filled_front l text) (drop 729 text) (labelled_of l text) refl part

-- the second one did
pub wrote_more : (text : List ℕ) (l : LabelView) (before mid after : Option (List ℕ)) → mid ≡ with_more before (filled_front l text) → TakesPart mid after (drop 729 text) → TakesPart before after (labelled_of l text)
wrote_more text l before mid after first part = part-after before mid after (filled_front l text) (drop 729 text) (labelled_of l text) refl first part

pub wrote_file : (text : List ℕ) (l : LabelView) (before after : Option (List ℕ)) → IsLabel l → after ≡ with_more before (labelled_of l text) → WritesLabelled text l before after
wrote_file text l before after is wrote t good e = let f = gps-filled text l t is good e in wrote ∙ ap (with_more before) (sym (label_parts l t ∙ f.whole))

pub wrote_first : (text : List ℕ) (l : LabelView) (before after : Option (List ℕ)) → IsLabel l → TakesPart before after (labelled_of l text) → WritesFirstLabelled text l before after
wrote_first text l before after is part t good e = let f = label_parts l t ∙ (gps-filled text l t is good e).whole in rw f part

pub wrote_mixed_file : (text : List ℕ) (l : LabelView) (before after : Option (List ℕ)) → IsLabel l → after ≡ with_more before (labelled_of l text) → WritesLabelledMixed text l before after
wrote_mixed_file text l before after is wrote t good e = let f = mixed-filled text l t is good e in wrote ∙ ap (with_more before) (sym (mixed_label_parts l t ∙ f.whole))

pub wrote_mixed_first : (text : List ℕ) (l : LabelView) (before after : Option (List ℕ)) → IsLabel l → TakesPart before after (labelled_of l text) → WritesFirstLabelledMixed text l before after
wrote_mixed_first text l before after is part t good e = let f = mixed_label_parts l t ∙ (mixed-filled text l t is good e).whole in rw f part

-- ---- answers

pub on_err-from : {T E : Type 0} (r : Result T E) {Q : Type 0} → Q → OnErr r Q
on_err-from (Ok x) q = tt
on_err-from (Err e) q = q

pub on_ok-map : {T E : Type 0} (r : Result T E) {P Q : Type 0} → (P → Q) → OnOk r P → OnOk r Q
on_ok-map (Ok x) f p = f p
on_ok-map (Err e) f p = p

-- ---- for which file a label is

pub for_blank : (l : LabelView) (s : PositionView) → length l.height ≡ 0 → Decides true (IsFor l s)
for_blank l s none = (λ h some. absurd (omega (arith, none, some)), λ h. refl)

pub for_told : (l : LabelView) (s : PositionView) (h : ℕ) → 0 < length l.height → h ≡ s.height → Decides (h == 0) (IsFor l s)
for_told l s h some same =
    (λ e any. let none : h ≡ 0 = grind (arith, nat_tests) in sym same ∙ none, λ is. eq-eqb h 0 (same ∙ is some))
