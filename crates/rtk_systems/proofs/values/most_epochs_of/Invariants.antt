use Rattle.std.proofs.Common.{◌≡◌, drop}
use Rattle.rtk_survey.specs.Surveys.{places_of}
use Rattle.rtk_systems.specs.Values.{most_after}
use Rattle.rtk_systems.proofs.values.most_epochs_of.Given as goal

abbrev pub invariant-loop-link : goal.invariant-loop-link
invariant-loop-link l =
    most_after l.most l.surveys l.station l.msm (places_of (drop l.link-index l.links)) ≡ most_after 0 l.surveys l.station l.msm (places_of l.links)
