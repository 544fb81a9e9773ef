use Rattle.rtk_frame.proofs.StreamLemmas.{sum_calls-at_most, sum_calls-one}
use Rattle.rtk_frame.proofs.laws.calls_of_one_read.Goals as goal

pub returns : goal.returns
returns g c = record {
  at_most = sum_calls-at_most g.R.Source.given g.R.Source.failures g.R.Source.calls;
  one = sum_calls-one g.R.Source.given g.R.Source.failures g.R.Source.calls;
}
