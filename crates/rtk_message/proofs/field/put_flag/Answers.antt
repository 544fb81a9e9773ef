use Rattle.std.proofs.Common.{Bool, List, ◌++◌, ap, ◌∙◌}
use Rattle.rtk_message.proofs.FieldLemmas.{flag_bit}
use Rattle.rtk_message.proofs.field.put_flag.Goals as goal

pub returns : goal.returns
returns c = record { is = c.in_ok-put_u.ensures.put ∙ ap (λ (b : List Bool). c.args.writer.now ++ b) (flag_bit c.args.value) }
