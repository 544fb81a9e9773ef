-- Why the words of `label` are refused.
use Rattle.rtk_label.specs.Labelled.{LabelView}
use Rattle.rtk_label.specs.LabelFault.{IsLabelFault}
use Rattle.rtk_cli.specs.declared.words.BadWords.{BadWords}
use Rattle.rtk_cli.specs.declared.words.BadWords.TheVariants.{Field}

-- a field does not fit its columns, and those before it do
abbrev pub RefusesLabel : LabelView → BadWords → Type 0
RefusesLabel fields (Field fault) = IsLabelFault fields fault
RefusesLabel fields _ = ⊥
