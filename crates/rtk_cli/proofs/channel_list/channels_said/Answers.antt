use Rattle.std.proofs.Common.{◌≡◌, ℕ, List, inr, refl, sym, subst}
use Rattle.rtk_cli.specs.declared.channel_list.SlotChannel.{SlotChannel}
use Rattle.rtk_cli.specs.declared.words.BadWords.{BadWords}
use Rattle.rtk_cli.specs.declared.words.BadWords.TheVariants.{Channels}
use Rattle.rtk_cli.specs.Steps.ChannelList.{WritesSlots, AreSlotsUnlike, HasNoChannels}
use Rattle.rtk_cli.proofs.RefusedLemmas.{refused-by}
use Rattle.rtk_cli.proofs.channel_list.channels_said.Goals as goal

pub returns-clause-refused : goal.returns-clause-refused
returns-clause-refused c =
    let writes : WritesSlots c.as_bytes.result.now c.in-Some.slots.items = rw c.in-Some.is at c.in_ok-slots.ensures in
    refused-by (λ (cause : BadWords). (cause ≡ Channels) × HasNoChannels c.args.text.now) Channels c.into-in-None.result c.into-in-None.ensures (
      refl,
      inr (
        c.in-Some.slots.items,
        subst (λ (t : List ℕ). WritesSlots t c.in-Some.slots.items) c.as_bytes.ensures.value writes,
        λ unlike. c.in-None.ensures (subst (λ (l : List SlotChannel). AreSlotsUnlike l) (sym c.as_slice.ensures.value) unlike),
      ),
    )
