use Rattle.std.proofs.Common.{◌≡◌, length}
use Rattle.rtk_rinex.specs.MixedTable.{MixedTable, IsMixedTable, mixed_table_text}
use Rattle.rtk_chart.specs.Steps.Standing.{StandsForSurvey}
use Rattle.rtk_chart.proofs.GroupLemmas.{HasComeOfAny}
use Rattle.rtk_chart.proofs.group_rows.survey_moments.Given as goal

abbrev pub invariant-loop-record : goal.invariant-loop-record
invariant-loop-record l = (t : MixedTable) → IsMixedTable t → l.table.text ≡ mixed_table_text t → HasComeOfAny StandsForSurvey l.records l.survey t.epochs

abbrev pub decreases-loop-record : goal.decreases-loop-record
decreases-loop-record l = length l.records.text
