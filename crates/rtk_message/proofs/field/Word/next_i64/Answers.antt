use Rattle.std.proofs.Common.{List, Bool, ◌++◌, ◌∙◌, ap, sym, w64}
use Rattle.std.proofs.lemmas.Int.{to_z-of_z}
use mir.Val.{SFits}
use Rattle.rtk_message.proofs.field.Word.next_i64.Goals as goal

pub returns-clause-taken : goal.returns-clause-taken
returns-clause-taken c =
    let t = c.next_u64.ensures.taken in
    let s : SFits w64 c.signed_of.result = record { sfits = c.signed_of.type_inv } in
    rw (to_z-of_z w64 c.signed_of.result s) (record { fits = c.signed_of.ensures.fits; is = t.is ∙ ap (λ (b : List Bool). b ++ c.next_u64.new.self) (sym c.signed_of.ensures.bits) })
