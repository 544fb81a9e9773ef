-- The part of a file, with the label of the file.
use Rattle.std.proofs.Common.{◌≡◌, ◌≤◌, ◌+◌, ℕ, List, ◌++◌, length, take, drop, Option, refl, sym, ap, ◌∙◌, arith}
use Rattle.std.proofs.lemmas.List.{take-append-le, length-append}
use Rattle.std.proofs.Math.Seq.{take-append-add}
use Rattle.rtk_frame.specs.Stream.{with_more, TakesPart}
use Rattle.rtk_frame.proofs.PublicLaws.{with_more-nil, with_more-with_more}
use Rattle.rtk_cut.specs.declared.part.Part.{Part}
use Rattle.rtk_cut.specs.declared.counts.CutCounts.{CutCounts}
use Rattle.rtk_label.specs.Labelled.{LabelView}
use Rattle.rtk_label.specs.declared.time_lines.TimeLines.{TimeLines}
use Rattle.rtk_commands.specs.declared.file_answer.FileAnswer.TheVariants.{Cut}
use Rattle.rtk_commands.specs.FileText.{WritesAll, WritesFirst}
use Rattle.rtk_commands.specs.WithLabel.{IsPartedTable, WritesOfTable}
use Rattle.rtk_commands.specs.FileTable.{FileTable, IsFileTable, file_text, file_front, file_with_lines, labelled_file}
use Rattle.rtk_commands.specs.CutInput.{part_of_file, part_counts, CutsTable, CountsPartOfFile, HaveLinesOfPart, WritesLabelledPart, WritesFirstOfLabelledPart, WritesRestOfPart, WritesFirstOfRest}
use Rattle.rtk_commands.specs.LabelInput.{WritesWithLines, WritesFirstWithLines, WritesFrontOfFile, WritesFirstOfFrontOfFile, WritesFrontAndLines, WritesFirstOfFrontAndLines}
use Rattle.rtk_commands.proofs.FileTableLemmas.{front-of_part, front-of_file}
use Rattle.rtk_commands.proofs.WithLabelLemmas.{all_of_table, first_of_table}

-- ---- two writes

-- a part of a text is a part of a longer one
part-longer : (before after : Option (List ℕ)) (text more whole : List ℕ) → whole ≡ text ++ more → TakesPart before after text → TakesPart before after whole
part-longer before after text more whole is part =
    let long : length whole ≡ length text + length more = ap length is ∙ length-append text more in
    let within : part.0 ≤ length whole = omega (arith, long, part.1) in
    (part.0, within, part.2 ∙ ap (λ t. with_more before t) (sym (ap (λ t. take part.0 t) is ∙ take-append-le part.0 text more part.1)))

-- a part after what is written already
part-after : (first before after : Option (List ℕ)) (done text whole : List ℕ) → whole ≡ done ++ text → before ≡ with_more first done → TakesPart before after text → TakesPart first after whole
part-after first before after done text whole is wrote part =
    let more : List ℕ = take part.0 text in
    let long : length whole ≡ length done + length text = ap length is ∙ length-append done text in
    let within : length done + part.0 ≤ length whole = omega (arith, long, part.1) in (
      length done + part.0,
      within,
      part.2 ∙ ap (λ o. with_more o more) wrote ∙ with_more-with_more first done more
          ∙ ap (λ t. with_more first t) (sym (ap (λ t. take (length done + part.0) t) is ∙ take-append-add done text part.0)),
    )

-- nothing is a part of any text
part-nothing : (o : Option (List ℕ)) (text : List ℕ) → TakesPart o o text
part-nothing o text = (0, omega arith, sym (with_more-nil o))

-- ---- a file with a label and lines

pub wrote-two : (l : LabelView) (plain lines : List ℕ) (before mid after : Option (List ℕ)) → WritesFrontOfFile plain l before mid → after ≡ with_more mid lines → WritesFrontAndLines plain l lines before after
wrote-two l plain lines before mid after front next f good e =
    next ∙ ap (λ (o : Option (List ℕ)). with_more o lines) (front f good e) ∙ with_more-with_more before (file_front l f) lines

pub wrote-first_of_two : (l : LabelView) (plain lines : List ℕ) (before after : Option (List ℕ)) → WritesFirstOfFrontOfFile plain l before after → WritesFirstOfFrontAndLines plain l lines before after
wrote-first_of_two l plain lines before after front f good e = part-longer before after (file_front l f) lines (file_front l f ++ lines) refl (front f good e)

pub wrote-more_of_two : (l : LabelView) (plain lines : List ℕ) (before mid after : Option (List ℕ)) → WritesFrontOfFile plain l before mid → TakesPart mid after lines → WritesFirstOfFrontAndLines plain l lines before after
wrote-more_of_two l plain lines before mid after front next f good e = part-after before mid after (file_front l f) lines (file_front l f ++ lines) refl (front f good e) next

pub wrote-file : (l : LabelView) (plain lines : List ℕ) (before mid after : Option (List ℕ)) → WritesFrontAndLines plain l lines before mid → after ≡ with_more mid (drop 729 plain) → WritesWithLines plain l lines before after
wrote-file l plain lines before mid after front next f good e =
    next ∙ ap (λ (o : Option (List ℕ)). with_more o (drop 729 plain)) (front f good e) ∙ with_more-with_more before (file_front l f ++ lines) (drop 729 plain)
    ∙ ap (λ (x : List ℕ). with_more before ((file_front l f ++ lines) ++ drop 729 x)) e ∙ ap (with_more before) (sym (front-of_file lines l f))

pub wrote-first_of_file : (l : LabelView) (plain lines : List ℕ) (before after : Option (List ℕ)) → WritesFirstOfFrontAndLines plain l lines before after → WritesFirstWithLines plain l lines before after
wrote-first_of_file l plain lines before after front f good e =
    part-longer before after (file_front l f ++ lines) (drop 729 (file_text f)) (file_with_lines lines l f) (front-of_file lines l f) (front f good e)

pub wrote-more_of_file : (l : LabelView) (plain lines : List ℕ) (before mid after : Option (List ℕ)) → WritesFrontAndLines plain l lines before mid → TakesPart mid after (drop 729 plain) → WritesFirstWithLines plain l lines before after
wrote-more_of_file l plain lines before mid after front next f good e =
    part-after before mid after (file_front l f ++ lines) (drop 729 plain) (file_with_lines lines l f)
    (front-of_file lines l f ∙ ap (λ (x : List ℕ). (file_front l f ++ lines) ++ drop 729 x) (sym e)) (front f good e) next

-- ---- the part of a file with its label

pub wrote-part : (l : LabelView) (w : TimeLines) (plain lines : List ℕ) (part : Part) (before mid after : Option (List ℕ)) → HaveLinesOfPart plain w part lines → WritesFrontAndLines plain l lines before mid
    → WritesRestOfPart plain part mid after → WritesLabelledPart l w plain part before after
wrote-part l w plain lines part before mid after have front rest f good e =
    let u : FileTable = part_of_file part f in
    rest f good e ∙ ap (λ (o : Option (List ℕ)). with_more o (drop 729 (file_text u))) (front f good e)
    ∙ with_more-with_more before (file_front l f ++ lines) (drop 729 (file_text u))
    ∙ ap (λ (x : List ℕ). with_more before ((file_front l f ++ x) ++ drop 729 (file_text u))) (have f good e)
    ∙ ap (with_more before) (sym (front-of_part w l part f))

-- the lines are those of the part
part-is : (l : LabelView) (w : TimeLines) (plain lines : List ℕ) (part : Part) → HaveLinesOfPart plain w part lines → (f : FileTable) → IsFileTable f → plain ≡ file_text f
    → labelled_file w l (part_of_file part f) ≡ (file_front l f ++ lines) ++ drop 729 (file_text (part_of_file part f))
part-is l w plain lines part have f good e =
    front-of_part w l part f ∙ ap (λ (x : List ℕ). (file_front l f ++ x) ++ drop 729 (file_text (part_of_file part f))) (sym (have f good e))

pub wrote-none : (l : LabelView) (w : TimeLines) (plain : List ℕ) (part : Part) (held : Option (List ℕ)) → WritesFirstOfLabelledPart l w plain part held held
wrote-none l w plain part held f good e = part-nothing held (labelled_file w l (part_of_file part f))

pub wrote-first : (l : LabelView) (w : TimeLines) (plain lines : List ℕ) (part : Part) (before after : Option (List ℕ)) → HaveLinesOfPart plain w part lines → WritesFirstOfFrontAndLines plain l lines before after
    → WritesFirstOfLabelledPart l w plain part before after
wrote-first l w plain lines part before after have front f good e =
    let u : FileTable = part_of_file part f in
    part-longer before after (file_front l f ++ lines) (drop 729 (file_text u)) (labelled_file w l u) (part-is l w plain lines part have f good e) (front f good e)

pub wrote-more : (l : LabelView) (w : TimeLines) (plain lines : List ℕ) (part : Part) (before mid after : Option (List ℕ)) → HaveLinesOfPart plain w part lines → WritesFrontAndLines plain l lines before mid
    → WritesFirstOfRest plain part mid after → WritesFirstOfLabelledPart l w plain part before after
wrote-more l w plain lines part before mid after have front rest f good e =
    let u : FileTable = part_of_file part f in
    part-after before mid after (file_front l f ++ lines) (drop 729 (file_text u)) (labelled_file w l u) (part-is l w plain lines part have f good e) (front f good e) (rest f good e)

-- ---- a text with a label

same_counts : (counts other : CutCounts) → counts.records ≡ other.records → counts.written ≡ other.written → Cut counts ≡ Cut other
same_counts counts other records written = ap Cut (λ i. record { records = records i; written = written i })

pub cuts : (text plain : List ℕ) (m : LabelView) (w : TimeLines) (part : Part) (counts : CutCounts) (before after : Option (List ℕ)) → IsPartedTable text plain m w → WritesLabelledPart m w plain part before after
    → CountsPartOfFile plain part counts → WritesAll (WritesOfTable (CutsTable part) text (Cut counts)) before after
cuts text plain m w part counts before after parted wrote counted =
    all_of_table (CutsTable part) text plain m w (Cut counts) before after parted (λ f good e.
    let two = counted f good e in
    (labelled_file w m (part_of_file part f), (same_counts counts (part_counts part f) two.0 two.1, refl), wrote f good e))

pub cuts_first : (text plain : List ℕ) (m : LabelView) (w : TimeLines) (part : Part) (before after : Option (List ℕ)) → IsPartedTable text plain m w → WritesFirstOfLabelledPart m w plain part before after
    → WritesFirst (WritesOfTable (CutsTable part) text) before after
cuts_first text plain m w part before after parted wrote =
    first_of_table (CutsTable part) text plain m w before after parted (λ f good e. (Cut (part_counts part f), labelled_file w m (part_of_file part f), (refl, refl), wrote f good e))
