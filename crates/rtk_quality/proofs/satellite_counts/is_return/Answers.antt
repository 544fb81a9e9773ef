use Rattle.rtk_quality.proofs.CountLemmas.{return-is}
use Rattle.std.proofs.Common.{◌∙◌}
use Rattle.rtk_quality.proofs.satellite_counts.is_return.Goals as goal

pub returns : goal.returns
returns c = λ interval before s same are.
    c.has_returned.ensures
    ∙ return-is interval c.args.place before s c.args.observed.now c.shown_at-bit.result _ _ same c.shown_at-bit.ensures (are.had c.args.place c.requires) (are.kept c.args.place c.requires)
