-- What `label` says of the text that it read, by what is left of it without its label and its time lines.
use Rattle.std.proofs.Common.{◌≡◌, inl, inr, ℕ, List, [], Option, refl, sym, ap, subst, ◌∙◌}
use Rattle.rtk_frame.specs.Stream.{with_more, TakesPart}
use Rattle.rtk_frame.proofs.PublicLaws.{with_more-nil}
use Rattle.rtk_label.specs.Labelled.{LabelView, IsFor}
use Rattle.rtk_label.specs.declared.time_lines.TimeLines.{TimeLines}
use Rattle.rtk_commands.specs.declared.file_answer.FileAnswer.TheVariants.{Written, Height}
use Rattle.rtk_commands.specs.FileTable.{FileTable, IsFileTable, file_text, file_site, file_with_lines, labelled_file, HaveLines}
use Rattle.rtk_commands.specs.FileText.{WritesAll, WritesFirst}
use Rattle.rtk_commands.specs.WithLabel.{IsPartedTable, WritesOfTable}
use Rattle.rtk_commands.specs.LabelInput.{LabelsTable, IsForFile, WritesWithLines, WritesFirstWithLines}
use Rattle.rtk_commands.proofs.WithLabelLemmas.{all_of_table, first_of_table}

pub labels : (l : LabelView) (v : TimeLines) (m : LabelView) (w : TimeLines) (text plain lines : List ℕ) (before after : Option (List ℕ)) → IsPartedTable text plain m w → IsForFile l plain
    → HaveLines plain v lines → WritesWithLines plain l lines before after → WritesAll (WritesOfTable (LabelsTable l v) text Written) before after
labels l v m w text plain lines before after parted for have wrote =
    all_of_table (LabelsTable l v) text plain m w Written before after parted (λ f good e. (
      labelled_file v l f,
      inl (refl, for f good e, refl),
      wrote f good e ∙ ap (λ (x : List ℕ). with_more before (file_with_lines x l f)) (have f good e),
    ))

pub labels_first : (l : LabelView) (v : TimeLines) (m : LabelView) (w : TimeLines) (text plain lines : List ℕ) (before after : Option (List ℕ)) → IsPartedTable text plain m w → IsForFile l plain
    → HaveLines plain v lines → WritesFirstWithLines plain l lines before after → WritesFirst (WritesOfTable (LabelsTable l v) text) before after
labels_first l v m w text plain lines before after parted for have wrote =
    first_of_table (LabelsTable l v) text plain m w before after parted (λ f good e. (
      Written,
      labelled_file v l f,
      inl (refl, for f good e, refl),
      subst (λ (x : List ℕ). TakesPart before after (file_with_lines x l f)) (have f good e) (wrote f good e),
    ))

pub has_height : (l : LabelView) (v : TimeLines) (m : LabelView) (w : TimeLines) (text plain : List ℕ) (held : Option (List ℕ)) → IsPartedTable text plain m w
    → ((f : FileTable) → IsFileTable f → plain ≡ file_text f → ¬ (IsFor l (file_site f))) → WritesAll (WritesOfTable (LabelsTable l v) text Height) held held
has_height l v m w text plain held parted not =
    all_of_table (LabelsTable l v) text plain m w Height held held parted (λ f good e. ([], inr (refl, not f good e, refl), sym (with_more-nil held)))
