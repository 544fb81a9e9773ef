use Rattle.rtk_chart.proofs.HeadingLemmas.{svg-has, svg-headings}
use Rattle.rtk_chart.proofs.laws.svg_headings_tell_numbers.Goals as goal

pub returns-clause-stands : goal.returns-clause-stands
returns-clause-stands c = svg-has

pub returns-clause-equal : goal.returns-clause-equal
returns-clause-equal c = svg-headings c.one_reading.ensures.reads
