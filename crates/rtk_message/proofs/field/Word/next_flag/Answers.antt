use Rattle.std.proofs.Common.{Bool, List, ◌++◌, ◌∙◌, ap}
use Rattle.rtk_message.proofs.FieldLemmas.{one_bit}
use Rattle.rtk_message.proofs.field.Word.next_flag.Goals as goal

pub returns-clause-taken : goal.returns-clause-taken
returns-clause-taken c =
    let t = c.next_u64.ensures.taken in
    record { fits = tt; is = t.is ∙ ap (λ (b : List Bool). b ++ c.next_u64.new.self) (one_bit c.next_u64.result t.fits) }
