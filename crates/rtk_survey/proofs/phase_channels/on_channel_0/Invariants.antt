use Rattle.std.proofs.Common.{◌≡◌, ◌<◌, ℕ, Some, pos}
use Rattle.rtk_obs.specs.Carriers.{IsSlot, channel_at}
use Rattle.rtk_survey.proofs.phase_channels.on_channel_0.Given as goal

-- the slots before this one have channel 0
abbrev pub invariant-loop-slot : goal.invariant-loop-slot
invariant-loop-slot l = (s : ℕ) → IsSlot s → s < l.slot → channel_at l.channels s ≡ Some (pos 0)
