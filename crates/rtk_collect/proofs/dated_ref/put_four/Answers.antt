use Rattle.std.proofs.Common.{Bool, ◌∙◌, sym, ap}
use Rattle.rtk_message.specs.declared.any_message.AnyMessage.TheVariants as any
use Rattle.rtk_collect.specs.Signals.{plain_entries_by}
use Rattle.rtk_collect.proofs.SignalLemmas.{entries_by-four}
use Rattle.rtk_collect.proofs.dated_ref.put_four.Goals as goal

pub returns-then-sbas : goal.returns-then-sbas
returns-then-sbas c =
    λ doppler channels. c.put_entries_with_sbas.ensures channels ∙ ap (λ (b : Bool). plain_entries_by b channels (any.Message c.args.message.now)) (sym c.if-sbas.true)
    ∙ sym (entries_by-four c.args.sbas doppler channels c.args.message.now)

pub returns-else-sbas : goal.returns-else-sbas
returns-else-sbas c =
    λ doppler channels. c.put_entries_of.ensures ∙ ap (λ (b : Bool). plain_entries_by b channels (any.Message c.args.message.now)) (sym c.if-sbas.false)
    ∙ sym (entries_by-four c.args.sbas doppler channels c.args.message.now)
