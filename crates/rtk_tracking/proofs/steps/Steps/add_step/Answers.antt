use Rattle.rtk_tracking.proofs.steps.Steps.add_step.Goals as goal

pub returns : goal.returns
returns c = λ steps stands. record {
  counts = c.in_ok-count.ensures.counts steps stands.counts;
  frequent = c.more_frequent-self.ensures steps stands.frequent (c.in_ok-count.ensures.count steps stands.counts);
}
