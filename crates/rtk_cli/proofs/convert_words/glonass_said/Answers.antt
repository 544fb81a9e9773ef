use Rattle.std.proofs.Common.{◌≡◌, ℤ, List, Option, inr, sym, ◌∙◌, subst}
use Rattle.rtk_cli.specs.declared.words.BadWords.{BadWords}
use Rattle.rtk_cli.specs.declared.words.BadWords.TheVariants.{Channels, NoChannels, NoGlonass}
use Rattle.rtk_cli.specs.Steps.ChannelList.{HasNoChannels}
use Rattle.rtk_cli.specs.Steps.ConvertWords.{SaysChannels, IsGlonassCause}
use Rattle.rtk_cli.proofs.RefusedLemmas.{refused-by, exit-also}
use Rattle.rtk_cli.proofs.HeadLemmas.{bad-channels, says-channels}
use Rattle.rtk_cli.proofs.convert_words.glonass_said.Goals as goal

-- codes of GLONASS have no channels
pub returns-then-is_due-clause-refused : goal.returns-then-is_due-clause-refused
returns-then-is_due-clause-refused c =
    refused-by (IsGlonassCause c.args.options.now c.args.listed.now) NoChannels c.into.result c.into.ensures (c.in-None.is, sym c.has_glonass-is_due.ensures ∙ c.if-is_due.true)

-- 1012 have no code of GLONASS
pub returns-then-options-clause-refused : goal.returns-then-options-clause-refused
returns-then-options-clause-refused c =
    refused-by (IsGlonassCause c.args.options.now c.args.listed.now) NoGlonass c.into-then-options.result c.into-then-options.ensures
    (c.in-None.is, sym c.has_glonass-is_due.ensures ∙ c.if-is_due.false, c.if-options.true)

-- the channels are bad
pub returns-in_err-channels-clause-refused : goal.returns-in_err-channels-clause-refused
returns-in_err-channels-clause-refused c =
    exit-also (λ (cause : BadWords). (cause ≡ Channels) × HasNoChannels c.in-Some.text.now) (IsGlonassCause c.args.options.now c.args.listed.now) c.in_err-channels.field-0.0 c.from_residual.result
    c.from_residual.ensures.1 (bad-channels c.args.options.now c.args.listed.now c.in-Some.text c.in-Some.is) c.in_err-channels.ensures.refused

-- the channels are of no code
pub returns-then-not-is_due-clause-refused : goal.returns-then-not-is_due-clause-refused
returns-then-not-is_due-clause-refused c =
    refused-by (IsGlonassCause c.args.options.now c.args.listed.now) Channels c.into-then-not-is_due.result c.into-then-not-is_due.ensures
    (inr ((c.in_ok-channels.channels, says-channels c.args.options.now c.in-Some.text c.in_ok-channels.channels c.in-Some.is c.in_ok-channels.ensures.said), sym c.has_glonass-is_due.ensures ∙ c.if-not-is_due.true))

-- the channels are those of the text
pub returns-clause-said : goal.returns-clause-said
returns-clause-said c =
    let o = c.args.options.now in (
      sym c.has_glonass-is_due.ensures ∙ c.if-not-is_due.false,
      subst (λ (channels : List (Option ℤ)). SaysChannels o.channels channels) (sym c.glonass_of.ensures.channels) (says-channels o c.in-Some.text c.in_ok-channels.channels c.in-Some.is c.in_ok-channels.ensures.said),
      c.glonass_of.ensures.leap_seconds,
    )
