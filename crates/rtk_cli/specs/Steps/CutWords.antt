-- What the words of `cut` say, and why they are refused.
use Rattle.std.specs.Prelude.{◌≡◌, ◌<◌, ◌⊎◌, ℕ, Option, Some}
use Rattle.rtk_cut.specs.declared.part.Part.{Part}
use Rattle.rtk_cli.specs.declared.cut_words.CutOptions.{CutOptions}
use Rattle.rtk_cli.specs.declared.words.BadWords.{BadWords}
use Rattle.rtk_cli.specs.declared.words.BadWords.TheVariants.{From, Until}
use Rattle.rtk_cli.specs.Steps.MomentText.{WritesMoment, HasNoMoment}
use Rattle.rtk_cli.specs.Steps.OptionTexts.{SaysIfAny}

-- both moments are there, and the first one is after the second one
abbrev pub IsAfter : Option ℕ → Option ℕ → Type 0
IsAfter (Some from) (Some until) = until < from
IsAfter _ _ = ⊥

-- the part is what the options write
abbrev pub SaysPart : CutOptions → Part → Type 0
SaysPart o p = SaysIfAny WritesMoment o.from p.from × SaysIfAny WritesMoment o.until p.until × (p.every ≡ o.every) × ¬ (IsAfter p.from p.until)

-- this is the first cause for which the words are refused: the form of the first moment, the form of
-- the second one, and their order (this project's rule)
abbrev pub RefusesPart : CutOptions → BadWords → Type 0
RefusesPart o From = HasNoMoment o.from
RefusesPart o Until =
    ((from : Option ℕ) × SaysIfAny WritesMoment o.from from × HasNoMoment o.until)
    ⊎ ((from : Option ℕ) × (until : Option ℕ) × SaysIfAny WritesMoment o.from from × SaysIfAny WritesMoment o.until until × IsAfter from until)
RefusesPart o _ = ⊥
