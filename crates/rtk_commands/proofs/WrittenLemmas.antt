-- What is written stands right after what was held.
use Rattle.std.proofs.Common.{◌≡◌, ◌≢◌, inl, inr, ℕ, List, [], ◌++◌, Some, ◌∙◌, ap}
use Rattle.rtk_rinex.specs.declared.check_fault.CheckFault.{CheckFault}
use Rattle.rtk_cut.specs.declared.counts.CutCounts.{CutCounts}
use Rattle.rtk_label.specs.Labelled.{LabelView, IsLabel, IsFor, blank_label}
use Rattle.rtk_label.specs.LabelLaws.{BlankIsFile, FrontIsChanged, MixedLabelLaws}
use Rattle.rtk_label.specs.declared.time_lines.TimeLines.{TimeLines}
use Rattle.rtk_quality.specs.declared.form.Form.{Form}
use Rattle.rtk_commands.specs.declared.charting.Chart.{Chart}
use Rattle.rtk_commands.specs.declared.file_answer.FileAnswer.TheVariants.{Written, Cut, Refused, Height, NoneChosen}
use Rattle.rtk_commands.specs.ChartInput.{IsPictureOf, DrawsTable}
use Rattle.rtk_commands.specs.QualityInput.{TellsNumbersOf, TellsTable}
use Rattle.rtk_commands.specs.FileTable.{FileTable, OfGps, OfSystems, IsFileTable, file_text, file_site, labelled_file}
use Rattle.rtk_commands.specs.WithLabel.{IsWithLabel}
use Rattle.rtk_commands.specs.WrittenLaws.{LineFollows, PictureFollows, NumbersFollow, PartFollows, LabelFollows, no_times, NothingGivesFile}
use Rattle.rtk_commands.proofs.FileTableLemmas.{nothing-gives_file}

same-bytes : (first more last : List ℕ) → Some last ≡ Some (first ++ more) → last ≡ first ++ more
same-bytes first more last same = cc

not-refused : (fault : CheckFault) → Written ≢ Refused fault
not-refused fault e = cc

cut-not-refused : (counts : CutCounts) (fault : CheckFault) → Cut counts ≢ Refused fault
cut-not-refused counts fault e = cc

not-height : Written ≢ Height
not-height e = cc

not-none : Written ≢ NoneChosen
not-none e = cc

own-counts : (counts other : CutCounts) → Cut counts ≡ Cut other → counts ≡ other
own-counts counts other e = cc

pub line-follows : LineFollows
line-follows text first last valid told = (told.0, told.1, same-bytes first told.0 last told.2)

-- the file is of GPS or of any systems
picture-of : (chart : Chart) (text first last bytes : List ℕ) (f : FileTable) (w : TimeLines) (l : LabelView) → IsFileTable f → IsLabel l → IsFor l (file_site f) → text ≡ labelled_file w l f
    → DrawsTable chart f w l Written bytes → last ≡ first ++ bytes
    → (f : FileTable) × IsFileTable f × IsWithLabel text f × ((picture : List ℕ) × IsPictureOf chart f picture × (last ≡ first ++ picture))
picture-of chart text first last bytes (OfGps t) w l good is for e drawn same = elim drawn [
  | inl some ↦ (OfGps t, good, (w, l, is, for, e), (bytes, some.2, same))
  | inr none ↦ absurd (not-none none.0)
]
picture-of chart text first last bytes (OfSystems t) w l good is for e drawn same = elim drawn [
  | inl some ↦ (OfSystems t, good, (w, l, is, for, e), (bytes, some.2, same))
  | inr none ↦ absurd (not-none none.0)
]

numbers-of : (form : Form) (text first last bytes : List ℕ) (f : FileTable) (w : TimeLines) (l : LabelView) → IsFileTable f → IsLabel l → IsFor l (file_site f) → text ≡ labelled_file w l f
    → TellsTable form f w l Written bytes → last ≡ first ++ bytes
    → (f : FileTable) × IsFileTable f × IsWithLabel text f × ((numbers : List ℕ) × TellsNumbersOf form f numbers × (last ≡ first ++ numbers))
numbers-of form text first last bytes f w l good is for e told same = (f, good, (w, l, is, for, e), (bytes, told.1, same))

pub picture-follows : PictureFollows
picture-follows chart text first last (bytes, made, same) = elim made [
  | inl some ↦ picture-of chart text first last bytes some.0 some.1 some.2 some.3 some.4 some.5 some.6 some.7 (same-bytes first bytes last same)
  | inr refused ↦ absurd (not-refused refused.0 refused.1)
]

pub numbers-follow : NumbersFollow
numbers-follow form text first last (bytes, made, same) = elim made [
  | inl some ↦ numbers-of form text first last bytes some.0 some.1 some.2 some.3 some.4 some.5 some.6 some.7 (same-bytes first bytes last same)
  | inr refused ↦ absurd (not-refused refused.0 refused.1)
]

pub part-follows : PartFollows
part-follows text first last part counts (bytes, made, same) = elim made [
  | inl some ↦ (
    some.0,
    some.3,
    own-counts counts _ some.7.0,
    (some.1, some.2, some.4, some.5, some.6, same-bytes first bytes last same ∙ ap (λ (x : List ℕ). first ++ x) some.7.1),
  )
  | inr refused ↦ absurd (cut-not-refused counts refused.0 refused.1)
]

pub label-follows : LabelFollows
label-follows l w text first last (bytes, made, same) = elim made [
  | inl some ↦ elim some.7 [
    | inl wrote ↦ (some.0, some.3, (some.1, some.2, some.4, some.5, some.6), wrote.1, same-bytes first bytes last same ∙ ap (λ (x : List ℕ). first ++ x) wrote.2)
    | inr none ↦ absurd (not-height none.0)
  ]
  | inr refused ↦ absurd (not-refused refused.0 refused.1)
]

pub nothing-follows : BlankIsFile → FrontIsChanged → MixedLabelLaws → NothingGivesFile
nothing-follows blank front mixed text first last wrote =
    let file = label-follows blank_label no_times text first last wrote in
    (file.0, file.1, file.2, file.4 ∙ ap (λ (x : List ℕ). first ++ x) (nothing-gives_file blank front mixed file.0 file.1))
