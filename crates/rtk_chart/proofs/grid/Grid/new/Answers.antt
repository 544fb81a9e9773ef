use Rattle.std.proofs.Common.{refl}
use Rattle.rtk_chart.proofs.GridLemmas.{fresh-bins, fresh-gaps, fresh-outages, fresh-passes, fresh-recorded}
use Rattle.rtk_chart.proofs.StrengthLemmas.{fresh-columns}
use Rattle.rtk_chart.proofs.grid.Grid.new.Goals as goal

pub returns-clause-grid : goal.returns-clause-grid
returns-clause-grid c = λ listed. record {
  bins = fresh-bins c.args.scale.now c.in_ok-vec.field-0.items c.new.result (c.in_ok-vec.ensures.items_if_clones_equal (λ y same. same)) c.new.ensures;
  missing = record {
    gaps = fresh-gaps c.args.scale.now c.in_ok-vec-3.field-0.items (c.in_ok-vec-3.ensures.items_if_clones_equal (λ y same. same));
    count = refl;
  };
  last = refl;
  recorded = fresh-recorded c.args.scale.now c.in_ok-vec-4.field-0.items (c.in_ok-vec-4.ensures.items_if_clones_equal (λ y same. same));
  passes = fresh-passes _ c.new-3.result c.args.scale.now.interval refl (c.new-3.ensures c.args.scale.now.interval);
  outages = fresh-outages c.args.scale.now c.in_ok-vec-2.field-0.items (c.in_ok-vec-2.ensures.items_if_clones_equal (λ y same. same));
  strengths = fresh-columns c.args.scale.now listed c.in_ok-vec-5.field-0.items c.none.result (c.in_ok-vec-5.ensures.items_if_clones_equal (λ y same. same)) c.none.ensures;
  slips = refl;
  returns = refl;
  rises = refl;
}
