-- What is made of a file's records: it holds of their epochs, and gives the picture.
use Rattle.std.specs.Prelude.{ℕ, ◌-◌, List, ◌++◌, map}
use Rattle.rtk_obs.specs.declared.any_code.AnyCode.{AnyCode}
use Rattle.rtk_obs.specs.Code.{name_of}
use Rattle.rtk_obs.specs.declared.code.Code.{Code}
use Rattle.rtk_chart.specs.TextPicture.{text_body, text_picture, satellites_in, satellite_rows, never_in_line, all_never_lines}
use Rattle.rtk_chart.specs.SvgPicture.{svg_picture}
use Rattle.rtk_chart.specs.Groups.{title_of}
use Rattle.rtk_chart.specs.MixedChart.{DrawnView, both_numbers}
use Rattle.rtk_chart.specs.declared.drawn.DrawnNumbers.{DrawnNumbers}
use Rattle.rtk_chart.specs.declared.drawn.Drawn.{Drawn}
use Rattle.rtk_chart.specs.declared.groups.Names.{Names}
use Rattle.rtk_chart.specs.declared.scale.Scale.{Scale}
use Rattle.rtk_chart.specs.declared.survey.Survey.{Survey}
use Rattle.rtk_chart.specs.declared.grid.Grid.{Grid}

-- what stands below the heading
abbrev pub body_of_grid : List Code → Scale → ℕ → Grid → List ℕ
body_of_grid listed s width grid = text_body listed s width grid.bins.items grid.outages.items grid.recorded.items grid.gaps.items

-- a picture in characters
abbrev pub text_of_grid : List ℕ → List Code → Scale → ℕ → Survey → Grid → List ℕ
text_of_grid marker listed s width survey grid =
    text_picture marker listed s width survey.records grid.slips grid.returns grid.rises grid.missing
    grid.bins.items grid.outages.items grid.recorded.items grid.gaps.items

-- a picture in SVG
abbrev pub svg_of_grid : List ℕ → List Code → Scale → Survey → Grid → List ℕ
svg_of_grid marker listed s survey grid =
    svg_picture marker (map name_of listed) s survey.records grid.slips grid.returns grid.rises grid.missing
    grid.bins.items grid.outages.items grid.gaps.items grid.strengths.items

-- ---- of any systems

abbrev pub view_of : Drawn → DrawnView
view_of d = record { rows = d.rows.items; never = d.never.items; numbers = d.numbers }

-- the numbers of the satellites of a grid
abbrev pub numbers_of_grid : Grid → DrawnNumbers
numbers_of_grid grid = record { satellites = satellites_in grid.bins.items; slips = grid.slips; returns = grid.returns; rises = grid.rises }

-- with the satellites of a grid
abbrev pub with_grid : ℕ → List AnyCode → Names → Grid → DrawnView → DrawnView
with_grid width listed names grid d = record {
  rows = d.rows ++ satellite_rows names grid.bins.items grid.outages.items;
  never = d.never ++ all_never_lines title_of names grid.bins.items (never_in_line (width - 1)) 0 listed;
  numbers = both_numbers d.numbers (numbers_of_grid grid);
}
