use Rattle.rtk_quality.proofs.LawLemmas.{each-counted, mean-of-all, each-in-pass, phases-in-passes, totals-are-sums, rows-are-sum}
use Rattle.rtk_quality.proofs.HourLawLemmas.{hour-mean-of-all}
use Rattle.rtk_quality.proofs.laws.each_is_counted.Goals as goal

pub returns : goal.returns
returns c = record { codes = each-counted; means = mean-of-all; epochs = each-in-pass; phases = phases-in-passes; totals = totals-are-sums; rows = rows-are-sum; hours = hour-mean-of-all }
