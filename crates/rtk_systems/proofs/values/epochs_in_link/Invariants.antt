use Rattle.std.proofs.Common.{◌≡◌, drop}
use Rattle.rtk_systems.specs.Values.{no_epochs, epochs_after}
use Rattle.rtk_systems.proofs.values.epochs_in_link.Given as goal

abbrev pub invariant-loop-place : goal.invariant-loop-place
invariant-loop-place l =
    epochs_after l.epochs l.station l.msm l.surveys (drop l.place-index l.link) ≡ epochs_after no_epochs l.station l.msm l.surveys l.link
