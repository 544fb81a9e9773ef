use Rattle.std.proofs.Common.{◌≡◌, ◌∙◌, ℕ, Bool, false, List, length, nat_lt, sym, ap, arith}
use Rattle.std.proofs.lemmas.Grind.{common_steps}
use Rattle.rtk_bits.specs.Bits.{bits}
use Rattle.rtk_survey.specs.DateMessages.{unsigned_at}
use Rattle.rtk_survey.specs.SystemMessages.{system_message_numbered}
use Rattle.rtk_survey.proofs.system_message.system_message_in.Goals as goal

pub returns : goal.returns
returns c =
    let bs : List Bool = c.new-reader.result in
    let size = c.remaining.ensures in
    let long = c.if-remaining-lt12.false in
    let known : bs ≡ bits c.args.payload.now = c.new-reader.ensures in
    let number : c.next_u-number.result ≡ unsigned_at 0 12 bs = c.next_u-number.ensures.number in
    let enough : nat_lt (length bs) 12 ≡ false = grind (arith, common_steps) in
    rw (← known, enough) (c.read_numbered.ensures ∙ ap (λ (n : ℕ). system_message_numbered n (bits c.args.payload.now)) number ∙ ap (λ (xs : List Bool). system_message_numbered (unsigned_at 0 12 bs) xs) (sym known))
