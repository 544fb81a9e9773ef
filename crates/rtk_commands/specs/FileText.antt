-- What a command of a file does with a text, by the answers and the bytes that it makes of it. All of it is
-- this project's rule.
use Rattle.std.specs.Prelude.{◌≡◌, ℕ, ◌≤◌, ◌<◌, ◌⊎◌, Bool, IsTrue, List, length, Option, Result, IfOk, IfErr, IfSome, IsErrOf}
use Rattle.rtk_frame.specs.Stream.{with_more, TakesPart}
use Rattle.rtk_commands.specs.Passed.{taken_of}
use Rattle.rtk_commands.specs.declared.fault.ToolFault.{ToolFault}
use Rattle.rtk_commands.specs.declared.fault.ToolFault.TheVariants.{TooLong, OutOfMemory, Output}
use Rattle.rtk_commands.specs.declared.file_command.TheConstants.{CHECK_LIMIT}
use Rattle.rtk_commands.specs.declared.file_answer.FileAnswer.{FileAnswer}
use Rattle.rtk_commands.specs.Show.{IsBeforeOutput}

-- bytes for which this holds were taken: before, after
abbrev pub WritesAll : (List ℕ → Type 0) → Option (List ℕ) → Option (List ℕ) → Type 0
WritesAll Writes before after = (bytes : List ℕ) × Writes bytes × (after ≡ with_more before bytes)

-- of the bytes of some answer a first part was taken, perhaps none or all of it
abbrev pub WritesFirst : (FileAnswer → List ℕ → Type 0) → Option (List ℕ) → Option (List ℕ) → Type 0
WritesFirst Writes before after = (answer : FileAnswer) × (bytes : List ℕ) × Writes answer bytes × TakesPart before after bytes

-- a text is short enough, and what is made of it with this answer was taken
abbrev pub AnswersText : (List ℕ → FileAnswer → List ℕ → Type 0) → FileAnswer → List ℕ → Option (List ℕ) → Option (List ℕ) → Type 0
AnswersText Writes answer text before after = (length text ≤ CHECK_LIMIT) × WritesAll (Writes text answer) before after

-- or a first part of it
abbrev pub AnswersPartOf : (List ℕ → FileAnswer → List ℕ → Type 0) → List ℕ → Option (List ℕ) → Option (List ℕ) → Type 0
AnswersPartOf Writes text before after = (length text ≤ CHECK_LIMIT) × WritesFirst (Writes text) before after

-- nothing was taken, or a first part
abbrev pub LeavesPartOf : (List ℕ → FileAnswer → List ℕ → Type 0) → List ℕ → Option (List ℕ) → Option (List ℕ) → Type 0
LeavesPartOf Writes text before after = (after ≡ before) ⊎ AnswersPartOf Writes text before after

-- what a command did with the text of a reader, by the bytes that the reader had and the writer holds. It is
-- done: all was written after what the writer held. Or there was a fault: a first part is out after a failed
-- write, nothing or, in pieces, a first part after a refusal of memory, and else nothing
pub record IsFileOutcome (in_pieces : Bool) (Writes : List ℕ → FileAnswer → List ℕ → Type 0) (had held : Option (List ℕ)) (result : Result FileAnswer ToolFault) (holds : Option (List ℕ)) : Type 0 where
  pub told : IfOk result (λ answer. IfSome had (λ text. AnswersText Writes answer text held (taken_of held holds)))
  pub part : IsErrOf result Output → IfSome had (λ text. AnswersPartOf Writes text held (taken_of held holds))
  pub memory : IsErrOf result OutOfMemory → (taken_of held holds ≡ held) ⊎ (IsTrue in_pieces × IfSome had (λ text. AnswersPartOf Writes text held (taken_of held holds)))
  pub nothing : IfErr result (λ fault. IsBeforeOutput fault → taken_of held holds ≡ held)
  pub too_long : IsErrOf result TooLong → IfSome had (λ text. CHECK_LIMIT < length text)
