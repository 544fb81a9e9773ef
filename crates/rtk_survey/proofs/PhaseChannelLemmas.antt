-- The channels on which phases are counted.
use Rattle.std.proofs.Common.{◌≡◌, ◌<◌, ◌≤◌, ◌+◌, ◌-◌, ◌∙◌, ℕ, ℤ, List, Option, None, get_or, sym, ap, arith}
use Rattle.std.proofs.lemmas.List.{ext_get_or}
use Rattle.std.proofs.lemmas.List.FromFn.{length-map-range_with_len, get_or-map-range_with_len}
use Rattle.rtk_message.specs.declared.any_message.AnyMessage.{AnyMessage}
use Rattle.rtk_obs.specs.Carriers.{IsSlot, AreChannels, channel_at}
use Rattle.rtk_survey.specs.PhaseChannels.{phase_channel, phase_channels}

pub channels-are : (channels : List (Option ℤ)) (m : AnyMessage) → AreChannels channels → ((slot : ℕ) → IsSlot slot → channel_at channels slot ≡ phase_channel m slot)
    → channels ≡ phase_channels m
channels-are channels m good sets =
    ext_get_or None channels (phase_channels m) (good.count ∙ sym (length-map-range_with_len (phase_channel m) 1 27)) (λ i lt.
    let few : i < 27 = omega (arith, lt, good.count) in
    let from : 1 ≤ i + 1 = omega arith in
    let to : i + 1 ≤ 27 = omega (arith, few) in
    let place : i ≡ (i + 1) - 1 = omega arith in
    let slot : 1 + i ≡ i + 1 = omega arith in
    ap (λ (k : ℕ). get_or channels k None) place ∙ sets (i + 1) (from, to) ∙ sym (get_or-map-range_with_len (phase_channel m) 1 27 i (i + 1) None few slot))
