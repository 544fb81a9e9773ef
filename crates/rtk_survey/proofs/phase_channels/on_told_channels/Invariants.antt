use Rattle.std.proofs.Common.{◌≡◌, ◌<◌, ℕ}
use Rattle.rtk_obs.specs.Carriers.{IsSlot, channel_at}
use Rattle.rtk_survey.specs.PhaseChannels.{phase_channel}
use Rattle.rtk_survey.proofs.phase_channels.on_told_channels.Given as goal

-- the slots before this one have their channels
abbrev pub invariant-loop-slot : goal.invariant-loop-slot
invariant-loop-slot l = (s : ℕ) → IsSlot s → s < l.slot → channel_at l.channels s ≡ phase_channel l.message s
