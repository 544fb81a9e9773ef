use Rattle.rtk_quality.proofs.EventLawLemmas.{outages-have-all, longest-outages-first, moments-are-all, largest-moments-first}
use Rattle.rtk_quality.proofs.laws.events_hide_nothing.Goals as goal

pub returns-clause-outages : goal.returns-clause-outages
returns-clause-outages c = outages-have-all

pub returns-clause-longest : goal.returns-clause-longest
returns-clause-longest c = longest-outages-first

pub returns-clause-moments : goal.returns-clause-moments
returns-clause-moments c = moments-are-all

pub returns-clause-largest : goal.returns-clause-largest
returns-clause-largest c = largest-moments-first
