use Rattle.std.proofs.Common.{◌++◌, ap, ◌∙◌, append_assoc, codes}
use Rattle.rtk_systems.specs.MessageLines.{unread_lines_from, unread_gps}
use Rattle.rtk_systems.proofs.message_lines.put_unread_gps.Goals as goal

pub returns : goal.returns
unfolding unread_gps
returns c =
    let a = unread_lines_from (codes " not in the file: GPS ") c.args.taken c.args.surveys.now 1001 3 in
    let b = unread_lines_from (codes " not in the file: GPS ") c.args.taken c.args.surveys.now 1071 3 in
    c.in_ok-put_numbered-2.ensures ∙ ap (λ l. l ++ b) (c.in_ok-put_numbered.ensures) ∙ append_assoc c.args.lines.now.items a b
