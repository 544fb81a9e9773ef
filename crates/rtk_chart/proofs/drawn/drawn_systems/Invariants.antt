use Rattle.std.proofs.Common.{◌≡◌, take}
use Rattle.std.specs.List.{fold}
use Rattle.rtk_chart.specs.Groups.{drawn_in_order, HoldsOfMixed}
use Rattle.rtk_chart.specs.MixedChart.{nothing_drawn, with_drawn_system}
use Rattle.rtk_chart.specs.Steps.Pictures.{view_of}
use Rattle.rtk_chart.proofs.drawn.drawn_systems.Given as goal

abbrev pub invariant-loop-system : goal.invariant-loop-system
invariant-loop-system l =
    HoldsOfMixed l.drawing.table.now.text
    (λ es. view_of l.all ≡ fold (with_drawn_system l.drawing.scale l.width l.drawing.choice.now es l.listed) nothing_drawn (take l.system-index drawn_in_order))
