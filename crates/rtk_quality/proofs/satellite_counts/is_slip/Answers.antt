use Rattle.std.proofs.Common.{Bool, false, ◌&&◌, slice_index_or, sym, ap, ◌∙◌}
use Rattle.rtk_quality.proofs.CountLemmas.{slip-is}
use Rattle.rtk_quality.proofs.satellite_counts.is_slip.Goals as goal

pub returns-then-shown_at : goal.returns-then-shown_at
returns-then-shown_at c = λ interval before s same marked.
    sym (ap (λ (b : Bool). b && slice_index_or c.args.kept.now c.args.place false) c.if-shown_at.true)
    ∙ slip-is interval c.args.place before s c.args.observed.now c.shown_at.result _ same c.shown_at.ensures (marked c.args.place c.requires)

pub returns-else-shown_at : goal.returns-else-shown_at
returns-else-shown_at c = λ interval before s same marked.
    c.if-shown_at.false ∙ sym (ap (λ (b : Bool). b && slice_index_or c.args.kept.now c.args.place false) c.if-shown_at.false)
    ∙ slip-is interval c.args.place before s c.args.observed.now c.shown_at.result _ same c.shown_at.ensures (marked c.args.place c.requires)
