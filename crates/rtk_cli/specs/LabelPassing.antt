-- A text that gets the fields of a label as it passes a writer (this project's rule).
use Rattle.std.specs.Prelude.{◌≡◌, ◌<◌, ℕ, List, [], ◌∷◌, ◌++◌, length, Option, None, Some, MatchOption}
use Rattle.std.specs.Io.KnownBytes.{Appends}
use Rattle.std.specs.List.{concat}
use Rattle.rtk_rinex.specs.Table.{WellFormedTable, IsWellFormedTable, table_text}
use Rattle.rtk_rinex.specs.MixedTable.{MixedTable, IsMixedTable, mixed_table_text}
use Rattle.rtk_label.specs.Filling.{filling_label, filling_front}
use Rattle.rtk_label.specs.Labelled.{LabelView, labelled_text, labelled_mixed_text}
use Rattle.rtk_label.specs.LabelWriting.{IsFilledFront}
use Rattle.rtk_label.specs.declared.filling.Filling.{Filling}
use Rattle.rtk_cli.specs.declared.auto_labelling.Labelled.{Labelled}

-- ---- before the first part

-- with a label the first lines wait, and none of their bytes came; without one no line waits
abbrev pub AwaitsText : {W : Type 0} → Option LabelView → Labelled W → Type 0
AwaitsText None new = new.filling ≡ None
AwaitsText (Some l) new = (f : Filling) × (new.filling ≡ Some f) × (filling_label f ≡ l) × (filling_front f ≡ [])

-- ---- a part of the text

-- the first lines wait: after these more bytes came
pub record LinesWait {W : Type 0} (f g : Filling) (inner : W) (new : Labelled W) (part : List ℕ) : Type 0 where
  pub label : filling_label g ≡ filling_label f
  pub front : filling_front g ≡ filling_front f ++ part
  pub short : length (filling_front g) < 729
  pub same : new.inner ≡ inner

-- with these bytes the first lines are whole, and they were written with the label
pub record LinesAreWritten {W : Type 0} (contents : W → Option (List ℕ)) (f : Filling) (inner : W) (new : Labelled W) (part : List ℕ) : Type 0 where
  pub lines : List ℕ
  pub whole : length (filling_front f ++ part) ≡ 729
  pub filled : IsFilledFront (filling_label f) (filling_front f ++ part) lines
  pub wrote : Appends (contents inner) (contents new.inner) lines

-- the first lines after a part, by those that wait then
abbrev pub FillsFirst : {W : Type 0} → (W → Option (List ℕ)) → Filling → W → Labelled W → List ℕ → Type 0
FillsFirst contents f inner new part = MatchOption new.filling (LinesAreWritten contents f inner new part) (λ g. LinesWait f g inner new part)

-- the part stands behind what was written
abbrev pub PassesOn : {W : Type 0} → (W → Option (List ℕ)) → W → Labelled W → List ℕ → Type 0
PassesOn contents inner new part = (new.filling ≡ None) × Appends (contents inner) (contents new.inner) part

abbrev pub FillsFrom : {W : Type 0} → (W → Option (List ℕ)) → Option Filling → W → Labelled W → List ℕ → Type 0
FillsFrom contents None inner new part = PassesOn contents inner new part
FillsFrom contents (Some f) inner new part = FillsFirst contents f inner new part

-- what a part of the text does to the lines that wait, and to the bytes of the writer behind
abbrev pub FillsText : {W : Type 0} → (W → Option (List ℕ)) → Labelled W → Labelled W → List ℕ → Type 0
FillsText contents old new part = FillsFrom contents old.filling old.inner new part

-- ---- the whole text

-- parts, one after another
abbrev pub FillsParts : {W : Type 0} → (W → Option (List ℕ)) → Labelled W → Labelled W → List (List ℕ) → Type 0
FillsParts contents old new [] = old ≡ new
FillsParts {W} contents old new (part ∷ parts) = (mid : Labelled W) × FillsText contents old mid part × FillsParts contents mid new parts

-- a text that comes in parts, with this label or without one, stands behind these bytes as this text
abbrev pub PassesAs : {W : Type 0} → (W → Option (List ℕ)) → Option LabelView → List ℕ → List ℕ → Type 0
PassesAs {W} contents l text whole = (old new : Labelled W) (before : List ℕ) (parts : List (List ℕ))
    → AwaitsText l old → contents old.inner ≡ Some before → concat parts ≡ text
    → FillsParts contents old new parts → contents new.inner ≡ Some (before ++ whole)

-- in whatever parts it comes, the text of a table is written with the label, and without a label any text is written as it is
pub record PassesLabelled {W : Type 0} (contents : W → Option (List ℕ)) : Type 0 where
  pub gps : (l : LabelView) (t : WellFormedTable) → IsWellFormedTable t → PassesAs contents (Some l) (table_text t) (labelled_text l t)
  pub mixed : (l : LabelView) (t : MixedTable) → IsMixedTable t → PassesAs contents (Some l) (mixed_table_text t) (labelled_mixed_text l t)
  pub plain : (text : List ℕ) → PassesAs contents None text text
