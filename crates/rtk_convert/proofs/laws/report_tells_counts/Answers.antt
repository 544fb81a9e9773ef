use Rattle.rtk_convert.proofs.ReportLemmas.{lines-tell, report-tells}
use Rattle.rtk_convert.proofs.laws.report_tells_counts.Goals as goal

pub returns-clause-lines : goal.returns-clause-lines
returns-clause-lines c = lines-tell

pub returns-clause-report : goal.returns-clause-report
returns-clause-report c = report-tells
