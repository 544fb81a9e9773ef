use Rattle.std.proofs.Common.{refl, sym, ◌∙◌}
use Rattle.rtk_obs.specs.GlonassCells.{glonass_channel}
use Rattle.rtk_obs.proofs.GlonassLemmas.{put-again, put-none, put-new, seen-map}
use Rattle.rtk_obs.proofs.glonass_cells.put_satellite.Goals as goal

pub returns-then-not-mark_number-clause-entries : goal.returns-then-not-mark_number-clause-entries
returns-then-not-mark_number-clause-entries c = λ before seen so_far.
    put-again c.args.channels.now before c.args.satellite.now c.mark_number.result c.args.found.now.items (c.mark_number.ensures.value _ seen) c.if-not-mark_number.true so_far

pub returns-then-not-mark_number-clause-seen : goal.returns-then-not-mark_number-clause-seen
returns-then-not-mark_number-clause-seen c = λ before seen. seen-map c.mark_number.new.seen before c.args.satellite.now (c.mark_number.ensures.seen _ seen)

pub returns-in_default-clause-entries : goal.returns-in_default-clause-entries
returns-in_default-clause-entries c = λ before seen so_far.
    put-none c.args.channels.now before c.args.satellite.now c.mark_number.result c.args.found.now.items (c.mark_number.ensures.value _ seen) c.if-not-mark_number.false (sym c.satellite_in.ensures ∙ c.in_default.is) so_far

pub returns-in_default-clause-seen : goal.returns-in_default-clause-seen
returns-in_default-clause-seen c = λ before seen. seen-map c.mark_number.new.seen before c.args.satellite.now (c.mark_number.ensures.seen _ seen)

pub returns-clause-entries : goal.returns-clause-entries
returns-clause-entries c = λ before seen so_far.
    put-new c.args.channels.now before c.args.satellite.now c.mark_number.result c.in-Some.index (glonass_channel c.args.channels.now c.args.satellite.now) c.args.found.now.items c.put_entries.new.found.items
    (c.mark_number.ensures.value _ seen) c.if-not-mark_number.false (sym c.in-Some.ensures) refl c.put_entries.ensures.entries so_far

pub returns-clause-seen : goal.returns-clause-seen
returns-clause-seen c = λ before seen. seen-map c.mark_number.new.seen before c.args.satellite.now (c.mark_number.ensures.seen _ seen)
