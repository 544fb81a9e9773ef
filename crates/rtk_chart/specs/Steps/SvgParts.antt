-- What is made of the grids of a file of any systems for its picture in SVG.
use Rattle.std.specs.Prelude.{ℕ, ◌+◌, ◌*◌, Bool, List, ◌++◌, length}
use Rattle.rtk_message.specs.declared.system.System.{System}
use Rattle.rtk_chart.specs.MixedChart.{both_numbers}
use Rattle.rtk_chart.specs.Steps.Pictures.{numbers_of_grid}
use Rattle.rtk_chart.specs.SvgPath.{tracked_counts}
use Rattle.rtk_chart.specs.SvgPicture.{never_texts, lacked_before}
use Rattle.rtk_chart.specs.SvgSystems.{SvgView, counts_with, columns_with, with_svg_bins}
use Rattle.rtk_chart.specs.declared.grid.Grid.{Grid}
use Rattle.rtk_chart.specs.declared.groups.Names.{Names}
use Rattle.rtk_chart.specs.declared.strengths.Strengths.{Strengths}
use Rattle.rtk_chart.specs.declared.svg_drawn.SvgDrawn.{SvgDrawn}

abbrev pub svg_view_of : SvgDrawn → SvgView
svg_view_of d = record {
  bands = d.bands.items;
  top = d.top;
  never = d.never.items;
  lines = d.lines;
  numbers = d.numbers;
  tracked = d.tracked.items;
  lower = d.lower.items;
  upper = d.upper.items;
}

-- with what the satellites of a grid have beside their bands
abbrev pub with_svg_sums : List (List ℕ) → Names → Grid → List Strengths → SvgView → SvgView
with_svg_sums listed names grid upper v = record {
  bands = v.bands;
  top = v.top;
  never = v.never ++ never_texts names grid.bins.items (18 + 24 * v.lines) 0 listed;
  lines = v.lines + lacked_before grid.bins.items (length listed);
  numbers = both_numbers v.numbers (numbers_of_grid grid);
  tracked = counts_with v.tracked (tracked_counts grid.bins.items);
  lower = columns_with v.lower grid.strengths.items;
  upper = columns_with v.upper upper;
}

-- with the satellites of a grid
abbrev pub with_svg_grid : System → Bool → List (List ℕ) → Names → Grid → List Strengths → SvgView → SvgView
with_svg_grid system first listed names grid upper v =
    with_svg_bins system first listed names grid.bins.items grid.outages.items (numbers_of_grid grid) grid.strengths.items upper v
