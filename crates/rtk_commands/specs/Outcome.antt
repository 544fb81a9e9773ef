-- What a command did with the text of a reader, by the bytes that the reader had and the writer
-- holds (this project's rule).
use Rattle.std.specs.Prelude.{◌≡◌, ℕ, ◌<◌, List, length, Option, Result, IfOk, IfErr, IfSome, IsErrOf}
use Rattle.rtk_commands.specs.Passed.{taken_of}
use Rattle.rtk_commands.specs.declared.fault.ToolFault.{ToolFault}
use Rattle.rtk_commands.specs.declared.fault.ToolFault.TheVariants.{TooLong}

-- it is done: this was told of all that the reader had, after what the writer held; or there was a
-- fault before anything was out, or one after which a first part of it is out; and only an input
-- over the limit is too long
pub record IsOutcome {T : Type 0} (limit : ℕ) (had held : Option (List ℕ)) (Told : T → List ℕ → Option (List ℕ) → Option (List ℕ) → Type 0) (ToldPart : List ℕ → Option (List ℕ) → Option (List ℕ) → Type 0) (IsBefore : ToolFault → Type 0) (result : Result T ToolFault) (holds : Option (List ℕ)) : Type 0 where
  pub told : IfOk result (λ answer. IfSome had (λ text. Told answer text held (taken_of held holds)))
  pub part : IfErr result (λ fault. ¬ (IsBefore fault) → IfSome had (λ text. ToldPart text held (taken_of held holds)))
  pub nothing : IfErr result (λ fault. IsBefore fault → taken_of held holds ≡ held)
  pub too_long : IsErrOf result TooLong → IfSome had (λ text. limit < length text)
