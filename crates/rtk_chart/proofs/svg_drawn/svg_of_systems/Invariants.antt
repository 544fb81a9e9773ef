use Rattle.std.proofs.Common.{◌≡◌, ◌≤◌, ◌+◌, ◌*◌, length, take}
use Rattle.std.specs.List.{fold}
use Rattle.rtk_chart.specs.Groups.{drawn_in_order, HoldsOfMixed}
use Rattle.rtk_chart.specs.SvgSystems.{nothing_in_svg, with_svg_system}
use Rattle.rtk_chart.specs.Steps.SvgParts.{svg_view_of}
use Rattle.rtk_chart.proofs.svg_drawn.svg_of_systems.Given as goal

abbrev pub invariant-loop-system : goal.invariant-loop-system
invariant-loop-system l = record {
  value : HoldsOfMixed l.drawing.table.now.text
      (λ es. svg_view_of l.all ≡ fold (with_svg_system l.drawing.scale l.drawing.choice.now es l.listed) (nothing_in_svg l.drawing.scale.bins) (take l.system-index drawn_in_order));
  top : l.all.top ≤ 106 + 23_772 * l.system-index;
  lines : l.all.lines ≤ 32 * l.system-index;
  bins : length l.all.tracked.items ≡ l.drawing.scale.bins;
}
