-- The layers of a code's bar: in which bins each of them is drawn (this project's rule).
use Rattle.std.specs.Prelude.{◌==◌, Bool, not, ◌&&◌, unwrap_or}
use Rattle.rtk_chart.specs.declared.code_marks.CodeMarks.{CodeMarks}
use Rattle.rtk_chart.specs.declared.layer.Layer.{Layer}
use Rattle.rtk_chart.specs.declared.layer.Layer.TheVariants.{Phase, Level, Missing, Part, Absent, Slip, Return, Rise, Half}

-- formula
-- the phase; the phase with this least strength digit, 0 for none; the phase is missing in some epochs of the
-- bin, which may be all; it is missing in some and not in all; it is missing in all; a slip; a return; a rise; a
-- half cycle
abbrev pub shows : Layer → CodeMarks → Bool
shows Phase marks = marks.phase
shows (Level level) marks = marks.phase && unwrap_or marks.least 0 == level
shows Missing marks = marks.missing
shows Part marks = marks.phase && marks.missing
shows Absent marks = marks.missing && not marks.phase
shows Slip marks = marks.slip
shows Return marks = marks.returned
shows Rise marks = marks.rise
shows Half marks = marks.half
