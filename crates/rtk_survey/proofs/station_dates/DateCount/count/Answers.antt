use Rattle.rtk_survey.proofs.DateLemmas.{date-more}
use Rattle.rtk_survey.proofs.station_dates.DateCount.count.Goals as goal

pub returns : goal.returns
returns c = λ station ds same stands.
    date-more c.args.number station c.args.date ds c.counts_as-counts.result c.args.self.now c.earlier_or-self.result c.count_if-self.result
    same c.counts_as-counts.ensures stands c.earlier_or-self.ensures c.count_if-self.ensures
