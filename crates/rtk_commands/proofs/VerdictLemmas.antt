-- The verdict of `check`, by the answer of a command of a file.
use Rattle.std.proofs.Common.{◌≡◌, ◌≢◌, inl, inr, ℕ, Bool, true, false, List, Option, refl, sym, ◌∙◌}
use Rattle.std.specs.Prelude.{Decides}
use Rattle.rtk_frame.specs.Stream.{with_more, TakesPart}
use Rattle.rtk_commands.specs.declared.file_answer.FileAnswer.{FileAnswer}
use Rattle.rtk_commands.specs.declared.file_answer.FileAnswer.TheVariants.{Written, NotValid}
use Rattle.rtk_commands.specs.CheckInput.{SaysVerdict, WritesVerdict, Tells, TellsPart}

not-both : NotValid ≢ Written
not-both e = cc

false-not-true : false ≢ true
false-not-true e = cc

says : (text line : List ℕ) (answer : FileAnswer) (said : Bool) → Decides said (answer ≡ Written) → WritesVerdict text answer line → SaysVerdict text said line
says text line answer true decides wrote = elim wrote [
  | inl said ↦ said.1
  | inr denied ↦ absurd (not-both (sym denied.0 ∙ decides.0 refl))
]
says text line answer false decides wrote = elim wrote [
  | inl said ↦ absurd (false-not-true (decides.1 said.0))
  | inr denied ↦ denied.1
]

pub tells : (text line : List ℕ) (answer : FileAnswer) (said : Bool) (before after : Option (List ℕ)) → Decides said (answer ≡ Written) → WritesVerdict text answer line
    → after ≡ with_more before line → Tells text said before after
tells text line answer said before after decides wrote same = (line, says text line answer said decides wrote, same)

pub tells_part : (text line : List ℕ) (answer : FileAnswer) (before after : Option (List ℕ)) → WritesVerdict text answer line → TakesPart before after line → TellsPart text before after
tells_part text line answer before after wrote part = elim wrote [
  | inl said ↦ (true, line, said.1, part)
  | inr denied ↦ (false, line, denied.1, part)
]
