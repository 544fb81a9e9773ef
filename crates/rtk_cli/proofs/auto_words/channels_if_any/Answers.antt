use Rattle.std.proofs.Common.{◌≡◌}
use Rattle.rtk_cli.specs.declared.words.BadWords.{BadWords}
use Rattle.rtk_cli.specs.declared.words.BadWords.TheVariants.{Channels}
use Rattle.rtk_cli.specs.Steps.ChannelList.{HasNoChannels}
use Rattle.rtk_cli.specs.Steps.ConvertWords.{HasBadChannels}
use Rattle.rtk_cli.proofs.AutoLemmas.{given-channels}
use Rattle.rtk_cli.proofs.RefusedLemmas.{exit-also}
use Rattle.rtk_cli.proofs.auto_words.channels_if_any.Goals as goal

-- the channels are bad
pub returns-in_err-channels-clause-refused : goal.returns-in_err-channels-clause-refused
returns-in_err-channels-clause-refused c =
    exit-also (λ (cause : BadWords). (cause ≡ Channels) × HasNoChannels c.in-Some.text.now) (λ (cause : BadWords). (cause ≡ Channels) × HasBadChannels c.args.text)
    c.in_err-channels.field-0.0 c.from_residual.result c.from_residual.ensures.1 (given-channels c.args.text c.in-Some.text c.in-Some.is)
    c.in_err-channels.ensures.refused
