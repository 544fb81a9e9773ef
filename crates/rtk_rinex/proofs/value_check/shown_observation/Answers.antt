use Rattle.std.proofs.Common.{◌≢◌, ◌∙◌, ℕ, replicate}
use Rattle.rtk_rinex.proofs.ValuesLemmas.{clash}
use Rattle.rtk_rinex.proofs.CellLemmas.{some-value}
use Rattle.rtk_rinex.proofs.value_check.shown_observation.Goals as goal

pub returns-in_err-written_value : goal.returns-in_err-written_value
returns-in_err-written_value c =
    rw c.from_residual.ensures (λ v h e.
    let solid : c.args.columns.now ≢ replicate {A = ℕ} 16 32 = λ z. clash c.is_same.result c.if-is_same.false (c.is_same.ensures.1 z) in
    let p = some-value c.args.columns.now v c.args.first c.args.second h solid e in
    c.in_err-written_value.ensures p.0 p.1 (c.split_at.ensures.front ∙ p.2.field))
