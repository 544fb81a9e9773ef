use Rattle.std.proofs.Common.{ℕ, List, ◌++◌, ap, ◌∙◌}
use Rattle.rtk_message.specs.Systems.{number_of_type}
use Rattle.rtk_systems.specs.DopplerLines.{doppler_line_of}
use Rattle.rtk_systems.proofs.doppler_lines.put_doppler_of.Goals as goal

pub returns : goal.returns
returns c =
    let old : List ℕ = c.args.lines.now.items in
    c.in_ok-put_doppler_numbered.ensures
    ∙ ap (λ (n : ℕ). old ++ doppler_line_of c.args.taken n c.typed_in_captures-count.result) c.number.ensures
    ∙ ap (λ (n : ℕ). old ++ doppler_line_of c.args.taken (number_of_type c.args.msm) n) c.typed_in_captures-count.ensures
