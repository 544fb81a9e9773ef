use Rattle.std.proofs.Common.{◌≤◌, ◌+◌, ◌∙◌, Bool, List, length, take, drop, sym, ap, subst, arith}
use Rattle.rtk_bits.specs.Bits.{unsigned}
use Rattle.rtk_survey.proofs.BitLemmas.{left_long}
use Rattle.rtk_survey.proofs.system_message.field_at.Goals as goal

pub pass-requires : goal.pass-requires
pass-requires c =
    let enough = c.requires.enough in
    subst (λ (bs : List Bool). c.args.place ≤ length bs) (sym c.new-reader.ensures) (omega (arith, enough))

pub next_u-requires-clause-enough : goal.next_u-requires-clause-enough
next_u-requires-clause-enough c =
    left_long c.new-reader.result c.pass.new.reader c.args.place c.args.width c.pass.ensures
    (subst (λ (bs : List Bool). c.args.place + c.args.width ≤ length bs) (sym c.new-reader.ensures) c.requires.enough)

pub returns-clause-value : goal.returns-clause-value
returns-clause-value c =
    c.next_u.ensures.number
    ∙ ap (λ (left : List Bool). unsigned (take c.args.width left)) (c.pass.ensures ∙ ap (λ (bs : List Bool). drop c.args.place bs) c.new-reader.ensures)
