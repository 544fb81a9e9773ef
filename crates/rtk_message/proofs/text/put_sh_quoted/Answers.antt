use Rattle.std.proofs.Common.{List, ℕ, ◌++◌, ap, ◌∙◌, append_assoc}
use Rattle.rtk_message.specs.ShellText.{sh_quoted, folder_before, quoted_if_needed}
use Rattle.rtk_message.proofs.text.put_sh_quoted.Goals as goal

pub returns : goal.returns
unfolding sh_quoted
returns c =
    let name : List ℕ = c.args.name.now in
    c.in_ok-put_quoted_if_needed.ensures ∙ ap (λ (t : List ℕ). t ++ quoted_if_needed name) c.in_ok-put_folder_before.ensures
    ∙ append_assoc c.args.line.now.items (folder_before name) (quoted_if_needed name)
