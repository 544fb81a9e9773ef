use Rattle.std.proofs.Common.{◌++◌, ap, ◌∙◌, append_assoc, codes}
use Rattle.rtk_systems.specs.MessageLines.{unread_lines_from, line_of_1012, unread_legacy_glonass}
use Rattle.rtk_systems.proofs.message_lines.put_legacy_glonass.Goals as goal

pub returns : goal.returns
unfolding unread_legacy_glonass
returns c =
    let a = unread_lines_from (codes " not in the file: GLONASS ") c.args.taken c.args.surveys.now 1009 3 in
    let b = line_of_1012 c.args.is_long c.args.taken c.args.surveys.now in
    c.in_ok-put_1012.ensures ∙ ap (λ l. l ++ b) c.in_ok-put_numbered.ensures ∙ append_assoc c.args.lines.now.items a b
