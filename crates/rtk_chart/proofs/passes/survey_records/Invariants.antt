use Rattle.std.proofs.Common.{◌≡◌, length}
use Rattle.rtk_rinex.specs.Table.{WellFormedTable, IsWellFormedTable, table_text}
use Rattle.rtk_chart.specs.Steps.Standing.{StandsForSurvey}
use Rattle.rtk_tracking.proofs.PublicLaws.{HasCome}
use Rattle.rtk_chart.proofs.passes.survey_records.Given as goal

abbrev pub invariant-loop-record : goal.invariant-loop-record
invariant-loop-record l = (t : WellFormedTable) → IsWellFormedTable t → l.table.text ≡ table_text t → HasCome StandsForSurvey l.records l.survey t.epochs

abbrev pub decreases-loop-record : goal.decreases-loop-record
decreases-loop-record l = length l.records.text
