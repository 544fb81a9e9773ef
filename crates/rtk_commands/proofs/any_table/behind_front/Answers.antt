use Rattle.std.proofs.Common.{◌∙◌, length, arith, sym}
use Rattle.std.proofs.lemmas.List.{drop_all}
use Rattle.rtk_commands.proofs.any_table.behind_front.Goals as goal

pub returns-then-text-lt-PLAIN_FRONT : goal.returns-then-text-lt-PLAIN_FRONT
returns-then-text-lt-PLAIN_FRONT c =
    c.split_at.ensures.back ∙ drop_all (length c.args.text.now) c.args.text.now (omega arith) ∙ sym (drop_all 729 c.args.text.now (omega (arith, c.if-text-lt-PLAIN_FRONT.true)))
