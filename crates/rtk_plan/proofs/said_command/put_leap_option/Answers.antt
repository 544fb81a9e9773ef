use Rattle.std.proofs.Common.{◌++◌, ℕ, ap, ◌∙◌, append_assoc, codes, decimal}
use Rattle.rtk_plan.proofs.said_command.put_leap_option.Goals as goal

pub returns : goal.returns
returns c =
    c.in_ok-put_named.ensures
    ∙ ap (λ (n : ℕ). (c.args.line.now.items ++ codes " --leap-seconds ") ++ decimal n) c.from.ensures
    ∙ append_assoc c.args.line.now.items (codes " --leap-seconds ") (decimal c.args.seconds)
