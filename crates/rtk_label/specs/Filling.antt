-- The first lines of a text that gets a label as it passes.
use Rattle.std.specs.Prelude.{ℕ, List}
use Rattle.rtk_label.specs.Labelled.{LabelView}
use Rattle.rtk_label.specs.declared.filling.Filling.{Filling}

-- the label that they get
abbrev pub filling_label : Filling → LabelView
filling_label f = f.label

-- their bytes that came so far
abbrev pub filling_front : Filling → List ℕ
filling_front f = f.front.items
