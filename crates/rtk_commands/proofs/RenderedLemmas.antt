-- What a command writes whose bytes are all made before.
use Rattle.std.proofs.Common.{◌≡◌, ℕ, List, Option, Result, Ok, Err, IfOk, IsOkAnd, IsErrOf, sym, subst}
use Rattle.rtk_frame.specs.Stream.{with_more, TakesPart}
use Rattle.rtk_commands.specs.declared.fault.ToolFault.{ToolFault}
use Rattle.rtk_commands.specs.declared.fault.ToolFault.TheVariants.{Output}
use Rattle.rtk_commands.specs.declared.file_answer.FileAnswer.{FileAnswer}
use Rattle.rtk_commands.specs.declared.rendered.Rendered.{Rendered}
use Rattle.rtk_commands.specs.FileText.{WritesAll, WritesFirst}

pub all_of_rendered : {E : Type 0} (Writes : FileAnswer → List ℕ → Type 0) (rendered : Result Rendered E) (result : Result FileAnswer ToolFault) (before after : Option (List ℕ))
    → IfOk rendered (λ made. Writes made.answer made.bytes.items)
    → IfOk result (λ answer. IsOkAnd rendered (λ made. (answer ≡ made.answer) × (after ≡ with_more before made.bytes.items)))
    → IfOk result (λ answer. WritesAll (Writes answer) before after)
all_of_rendered Writes (Ok made) (Ok answer) before after is done = (made.bytes.items, subst (λ (a : FileAnswer). Writes a made.bytes.items) (sym done.0) is, done.1)
all_of_rendered Writes (Err refused) (Ok answer) before after is done = absurd done
all_of_rendered Writes rendered (Err fault) before after is done = tt

pub first_of_rendered : {E : Type 0} (Writes : FileAnswer → List ℕ → Type 0) (rendered : Result Rendered E) (result : Result FileAnswer ToolFault) (before after : Option (List ℕ))
    → IfOk rendered (λ made. Writes made.answer made.bytes.items)
    → (IsErrOf result Output → IsOkAnd rendered (λ made. TakesPart before after made.bytes.items))
    → IsErrOf result Output → WritesFirst Writes before after
first_of_rendered Writes (Ok made) result before after is part e = (made.answer, made.bytes.items, is, part e)
first_of_rendered Writes (Err refused) result before after is part e = absurd (part e)
