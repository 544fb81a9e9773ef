use Rattle.std.proofs.Common.{◌∙◌, ℕ, inl, inr, sym, ap, arith}
use Rattle.std.proofs.lemmas.Bool.{cases_eq}
use Rattle.rtk_obs.specs.Carriers.{channel_at}
use Rattle.rtk_survey.specs.PhaseChannels.{phase_channel}
use Rattle.rtk_survey.proofs.phase_channels.on_told_channels.Goals as goal

pub loop-slot-init : goal.loop-slot-init
loop-slot-init c = λ s is before. let from = is.0 in absurd (omega (arith, from, before))

pub loop-slot-preserved : goal.loop-slot-preserved
loop-slot-preserved c = λ s is before. elim (cases_eq s c.loop-slot.slot) [
  | inl same ↦
      ap (λ (k : ℕ). channel_at c.set_slot.new.channels k) same ∙ c.set_slot.ensures.own ∙ ap (λ (k : ℕ). phase_channel c.args.message.now k) (sym same)
  | inr other ↦ c.set_slot.ensures.others s is other ∙ c.loop-slot.invariant s is (omega (arith, before, other))
]

pub returns : goal.returns
returns c = λ s is. let last = is.1 in c.loop-slot.invariant s is (omega (arith, last, c.loop-slot-test.false))
