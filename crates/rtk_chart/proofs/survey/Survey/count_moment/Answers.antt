use Rattle.std.proofs.Common.{arith}
use Rattle.rtk_chart.proofs.survey.Survey.count_moment.Goals as goal

pub returns : goal.returns
returns c = λ es e at stands.
    let sum = c.saturating_add-self.ensures in
    let many = stands.records in
    record { records = omega (arith, sum, many); steps = c.in_ok-note_time.ensures es e at stands.steps }
