use Rattle.std.proofs.Common.{ℕ, Option, Some, ap, sym, ◌∙◌}
use Rattle.std.specs.Prelude.{option_map}
use Rattle.rtk_rinex.specs.MixedHead.{GlonassView}
use Rattle.rtk_convert.specs.File.{file_leap_seconds, told_with}
use Rattle.rtk_convert.proofs.FileHeaderLemmas.{some-is}
use Rattle.rtk_convert.proofs.file_header.told_at.Goals as goal

pub returns : goal.returns
returns c =
    let told : GlonassView = c.in_ok-told.told in
    let n : ℕ = c.file_leap_seconds-leap_seconds.result in
    let some = some-is c.new.result n (record { channels = c.channels.result; leap_seconds = n }) c.new.ensures c.file_leap_seconds-leap_seconds.ensures.bound in
    some
    ∙ ap (λ channels. Some (record { channels = channels; leap_seconds = n })) c.channels.ensures
    ∙ ap (λ (k : ℕ). Some (told_with k told)) c.file_leap_seconds-leap_seconds.ensures.value
    ∙ ap (λ (g : Option GlonassView). option_map (told_with (file_leap_seconds c.args.setup.now c.args.first)) g) (sym c.in_ok-told.was ∙ c.glonass.ensures.value ∙ ap (λ h. h.glonass) c.head.ensures.value)
