use Rattle.std.proofs.Common.{ℕ, List, ◌++◌, ap, ◌∙◌, append_assoc, codes}
use Rattle.rtk_plan.specs.SaidCommand.{convert_words, command_text}
use Rattle.rtk_cli.proofs.auto_saying.put_same_by_hand.Goals as goal

pub returns : goal.returns
returns c =
    let command : List ℕ = command_text (convert_words c.args.setup.now) c.args.named.now in
    c.in_ok-put_command.ensures ∙ ap (λ (t : List ℕ). t ++ command) c.in_ok-extend_from_slice.ensures.items ∙ append_assoc c.args.lines.now.items (codes " the same by hand:\n") command
