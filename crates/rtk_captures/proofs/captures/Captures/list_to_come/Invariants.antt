use Rattle.std.proofs.Common.{◌≡◌, ◌++◌, drop}
use Rattle.rtk_captures.specs.CaptureNames.{capture_name, lines_by}
use Rattle.rtk_captures.specs.RefusalLists.{to_come_line_if}
use Rattle.rtk_captures.specs.StationCaptures.{to_come_in}
use Rattle.rtk_captures.proofs.captures.Captures.list_to_come.Given as goal

-- the lines so far and those of the captures that are left are those of all
abbrev pub invariant-loop-place : goal.invariant-loop-place
invariant-loop-place l =
    l.lines.items ++ lines_by (λ at s. to_come_line_if (to_come_in s) (capture_name l.self.names.now at)) l.place (drop l.place l.self.surveys.now) ≡ lines_by (λ at s. to_come_line_if (to_come_in s) (capture_name l.self.names.now at)) 0 l.self.surveys.now
