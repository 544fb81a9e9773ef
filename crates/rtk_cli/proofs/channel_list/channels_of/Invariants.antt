use Rattle.rtk_cli.proofs.ChannelLemmas.{SetsSlots}
use Rattle.rtk_cli.proofs.channel_list.channels_of.Given as goal

abbrev pub invariant-loop-place : goal.invariant-loop-place
invariant-loop-place l = SetsSlots l.slots l.place l.channels
