use Rattle.std.proofs.Common.{◌≡◌, ◌+◌, ◌∙◌, ℕ, sym, ap, subst, arith}
use Rattle.rtk_systems.specs.SlotChannels.{count_told, IsToldField}
use Rattle.rtk_systems.specs.Steps.ToldFields.{most_told_with}
use Rattle.rtk_systems.specs.declared.slot_channels.MostTold.{MostTold}
use Rattle.rtk_systems.proofs.ChannelLemmas.{IsToldSoFar, told-none, told-step}
use Rattle.rtk_systems.proofs.slot_channels.told_field.Goals as goal

pub loop-field-init : goal.loop-field-init
loop-field-init c = told-none (count_told c.args.surveys.now c.args.source c.args.slot)

pub loop-field-preserved : goal.loop-field-preserved
loop-field-preserved c =
    let counts : ℕ → ℕ = count_told c.args.surveys.now c.args.source c.args.slot in
    let n : ℕ = c.loop-field.field in
    let is : c.most_told_with-told.result ≡ most_told_with c.loop-field.told n (counts n) = c.most_told_with-told.ensures ∙ ap (λ (k : ℕ). most_told_with c.loop-field.told n k) c.count_told.ensures in
    subst (λ (t : MostTold). IsToldSoFar counts (n + 1) t) (sym is) (told-step counts n c.loop-field.told c.loop-field.invariant)

pub returns : goal.returns
returns c =
    let counts : ℕ → ℕ = count_told c.args.surveys.now c.args.source c.args.slot in
    let end : c.loop-field.field ≡ 14 = omega (arith, c.loop-field.auto.field-end, c.loop-field-test.false) in
    subst (λ (n : ℕ). IsToldField counts n c.loop-field.told.field) end c.loop-field.invariant.told
