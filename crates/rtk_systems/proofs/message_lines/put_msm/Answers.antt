use Rattle.std.proofs.Common.{ℕ, List, ◌++◌, ap, ◌∙◌}
use Rattle.rtk_message.specs.Systems.{number_of_kind}
use Rattle.rtk_systems.specs.MessageLines.{msm_line_of}
use Rattle.rtk_systems.proofs.message_lines.put_msm.Goals as goal

pub returns : goal.returns
returns c =
    let old : List ℕ = c.args.lines.now.items in
    c.in_ok-put_msm_numbered.ensures
    ∙ ap (λ (n : ℕ). old ++ msm_line_of c.args.taken c.args.surveys.now n c.messages_in_captures-count.result) c.number.ensures
    ∙ ap (λ (n : ℕ). old ++ msm_line_of c.args.taken c.args.surveys.now (number_of_kind c.args.msm) n) c.messages_in_captures-count.ensures
