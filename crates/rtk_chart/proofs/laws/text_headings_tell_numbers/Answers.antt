use Rattle.rtk_chart.proofs.HeadingLemmas.{text-begins, text-headings}
use Rattle.rtk_chart.proofs.laws.text_headings_tell_numbers.Goals as goal

pub returns-clause-stands : goal.returns-clause-stands
returns-clause-stands c = text-begins

pub returns-clause-equal : goal.returns-clause-equal
returns-clause-equal c = text-headings c.one_reading.ensures.reads
