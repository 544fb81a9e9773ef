-- What is still to be written, epoch by epoch.
use Rattle.std.proofs.Common.{◌≡◌, ◌≤◌, ◌+◌, ℕ, Bool, true, false, cond, Option, List, [], ◌∷◌, ◌++◌, length, take, refl, sym, ap, append_assoc, ◌∙◌, arith}
use Rattle.std.specs.Prelude.{flat_map, unwrap_or}
use Rattle.std.specs.List.{filter}
use Rattle.std.proofs.lemmas.List.{take-append-le, length-append}
use Rattle.std.proofs.Math.Seq.{take-append-add}
use Rattle.rtk_frame.specs.Stream.{with_more, TakesPart}
use Rattle.rtk_frame.proofs.PublicLaws.{with_more-nil, with_more-with_more}
use Rattle.rtk_rinex.specs.Record.{EpochTableView}
use Rattle.rtk_cut.specs.declared.part_writer.PartWriter.{PartWriter}
use Rattle.rtk_cut.specs.declared.part.Choice.{Choice}
use Rattle.rtk_cut.specs.Cut.{step_of, is_on_step, is_chosen, cut_epoch, kept_after}
use Rattle.rtk_cut.specs.Steps.FileTexts.{FileTexts, text_with}
use Rattle.rtk_cut.specs.Steps.PartRecords.{after_header}
use Rattle.rtk_cut.specs.Steps.PartFile.{still_to_write, WritesUpTo, writing}
use Rattle.rtk_cut.proofs.ThinnedLemmas.{thinned-on, thinned-off}

-- ---- texts in parts

pub writes-nothing : (o : Option (List ℕ)) (text rest : List ℕ) → text ≡ rest → WritesUpTo o o text rest
writes-nothing o text rest same = ([], same, sym (with_more-nil o))

pub part-nothing : (o : Option (List ℕ)) (text : List ℕ) → TakesPart o o text
part-nothing o text = (0, omega arith, sym (with_more-nil o))

-- a part of a text is a part of a longer one
pub part-longer : (before after : Option (List ℕ)) (text more whole : List ℕ) → whole ≡ text ++ more → TakesPart before after text → TakesPart before after whole
part-longer before after text more whole is part =
    let long : length whole ≡ length text + length more = ap length is ∙ length-append text more in
    let within : part.0 ≤ length whole = omega (arith, long, part.1) in
    (part.0, within, part.2 ∙ ap (λ t. with_more before t) (sym (ap (λ t. take part.0 t) is ∙ take-append-le part.0 text more part.1)))

-- a part after what is written already
pub part-after : (first before after : Option (List ℕ)) (done text whole : List ℕ) → whole ≡ done ++ text → before ≡ with_more first done → TakesPart before after text → TakesPart first after whole
part-after first before after done text whole is wrote part =
    let more : List ℕ = take part.0 text in
    let long : length whole ≡ length done + length text = ap length is ∙ length-append done text in
    let within : length done + part.0 ≤ length whole = omega (arith, long, part.1) in (
      length done + part.0,
      within,
      part.2 ∙ ap (λ o. with_more o more) wrote ∙ with_more-with_more first done more
          ∙ ap (λ t. with_more first t) (sym (ap (λ t. take (length done + part.0) t) is ∙ take-append-add done text part.0)),
    )

-- ---- epochs

pub kept-on : (part : Choice) (earlier : List EpochTableView) (e : EpochTableView) (left : List EpochTableView) → is_on_step (step_of part) e ≡ true
    → kept_after part earlier (e ∷ left) ≡ cond (is_chosen part e) (cut_epoch (step_of part) earlier e ∷ kept_after part (e ∷ earlier) left) (kept_after part (e ∷ earlier) left)
kept-on part earlier e left on = ap (λ es. filter (is_chosen part) es) (thinned-on (step_of part) earlier e left on)

pub kept-in : (part : Choice) (earlier : List EpochTableView) (e : EpochTableView) (left : List EpochTableView) → is_on_step (step_of part) e ≡ true → is_chosen part e ≡ true
    → kept_after part earlier (e ∷ left) ≡ cut_epoch (step_of part) earlier e ∷ kept_after part (e ∷ earlier) left
kept-in part earlier e left on spans =
    kept-on part earlier e left on ∙ ap (λ b. cond b (cut_epoch (step_of part) earlier e ∷ kept_after part (e ∷ earlier) left) (kept_after part (e ∷ earlier) left)) spans

same-left : (part : Choice) (f : FileTexts) (b : Bool) (earlier earlier' left left' : List EpochTableView) → kept_after part earlier left ≡ kept_after part earlier' left'
    → still_to_write part f b earlier left ≡ still_to_write part f b earlier' left'
same-left part f true earlier earlier' left left' same = ap (λ es. flat_map f.record_of es) same
same-left part f false earlier earlier' left left' same = ap (λ es. text_with part.from f es) same

-- an epoch off the step has no record
pub left-off : (part : Choice) (f : FileTexts) (b : Bool) (earlier : List EpochTableView) (e : EpochTableView) (left : List EpochTableView) → is_on_step (step_of part) e ≡ false
    → still_to_write part f b earlier (e ∷ left) ≡ still_to_write part f b (e ∷ earlier) left
left-off part f b earlier e left off =
    same-left part f b earlier (e ∷ earlier) (e ∷ left) left (ap (λ es. filter (is_chosen part) es) (thinned-off (step_of part) earlier e left off))

-- nor has one outside the span
pub left-outside : (part : Choice) (f : FileTexts) (b : Bool) (earlier : List EpochTableView) (e : EpochTableView) (left : List EpochTableView) → is_on_step (step_of part) e ≡ true
    → is_chosen part e ≡ false → still_to_write part f b earlier (e ∷ left) ≡ still_to_write part f b (e ∷ earlier) left
left-outside part f b earlier e left on outside =
    same-left part f b earlier (e ∷ earlier) (e ∷ left) left
    (kept-on part earlier e left on ∙ ap (λ b. cond b (cut_epoch (step_of part) earlier e ∷ kept_after part (e ∷ earlier) left) (kept_after part (e ∷ earlier) left)) outside)

-- an epoch on the step and in the span has one, and the header comes before the first
pub left-in : (part : Choice) (f : FileTexts) (b : Bool) (earlier : List EpochTableView) (e : EpochTableView) (left : List EpochTableView) → is_on_step (step_of part) e ≡ true
    → is_chosen part e ≡ true
    → still_to_write part f b earlier (e ∷ left) ≡ after_header b f e.time (f.record_of (cut_epoch (step_of part) earlier e)) ++ still_to_write part f true (e ∷ earlier) left
left-in part f true earlier e left on spans = ap (λ es. flat_map f.record_of es) (kept-in part earlier e left on spans)
left-in part f false earlier e left on spans =
    ap (λ es. text_with part.from f es) (kept-in part earlier e left on spans)
    ∙ sym (append_assoc (f.header e.time) (f.record_of (cut_epoch (step_of part) earlier e)) (flat_map f.record_of (kept_after part (e ∷ earlier) left)))

-- how many records an epoch has
pub count-off : (choice : Choice) (earlier : List EpochTableView) (e : EpochTableView) (left : List EpochTableView) → is_on_step (step_of choice) e ≡ false
    → length (kept_after choice earlier (e ∷ left)) ≡ 0 + length (kept_after choice (e ∷ earlier) left)
count-off choice earlier e left off =
    ap (λ (es : List EpochTableView). length (filter (is_chosen choice) es)) (thinned-off (step_of choice) earlier e left off) ∙ omega arith

pub count-outside : (choice : Choice) (earlier : List EpochTableView) (e : EpochTableView) (left : List EpochTableView) → is_on_step (step_of choice) e ≡ true
    → is_chosen choice e ≡ false → length (kept_after choice earlier (e ∷ left)) ≡ 0 + length (kept_after choice (e ∷ earlier) left)
count-outside choice earlier e left on outside =
    ap (λ (es : List EpochTableView). length es)
    (kept-on choice earlier e left on ∙ ap (λ b. cond b (cut_epoch (step_of choice) earlier e ∷ kept_after choice (e ∷ earlier) left) (kept_after choice (e ∷ earlier) left)) outside)
    ∙ omega arith

pub count-in : (choice : Choice) (earlier : List EpochTableView) (e : EpochTableView) (left : List EpochTableView) → is_on_step (step_of choice) e ≡ true
    → is_chosen choice e ≡ true → length (kept_after choice earlier (e ∷ left)) ≡ 1 + length (kept_after choice (e ∷ earlier) left)
count-in choice earlier e left on inside =
    ap (λ (es : List EpochTableView). length es) (kept-in choice earlier e left on inside) ∙ omega arith

-- at the end only the header of a part without records is left
pub left-end : (part : Choice) (f : FileTexts) (b : Bool) (earlier : List EpochTableView) → still_to_write part f b earlier [] ≡ after_header b f (unwrap_or part.from f.first) []
left-end part f true earlier = refl
left-end part f false earlier = refl

-- ---- a writer whose file goes on

pub writing-same : {F : Type 0} (texts : F → FileTexts) (marks : F → List Bool) (w : PartWriter F) (file : F) → texts file ≡ texts w.file → marks file ≡ marks w.file
    → writing texts marks (record w { file = file }) ≡ writing texts marks w
writing-same texts marks w file same also =
    ap (λ (t : FileTexts). record { texts = t; marks = marks file; choice = w.choice; is_header_out = w.is_header_out }) same
    ∙ ap (λ (m : List Bool). record { texts = texts w.file; marks = m; choice = w.choice; is_header_out = w.is_header_out }) also
