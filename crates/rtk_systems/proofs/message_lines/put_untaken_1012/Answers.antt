use Rattle.std.proofs.Common.{ℕ, List, ◌++◌, ap, ◌∙◌}
use Rattle.rtk_systems.specs.MessageLines.{glonass_line_of}
use Rattle.rtk_systems.proofs.message_lines.put_untaken_1012.Goals as goal

pub returns : goal.returns
returns c =
    let old : List ℕ = c.args.lines.now.items in
    c.in_ok-put_glonass_numbered.ensures
    ∙ ap (λ (n : ℕ). old ++ glonass_line_of c.args.taken 1012 n) c.all_1012_in_captures-count.ensures
