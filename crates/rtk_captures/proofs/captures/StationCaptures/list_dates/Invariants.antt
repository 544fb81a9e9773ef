use Rattle.std.proofs.Common.{◌≡◌, ◌++◌, drop}
use Rattle.rtk_captures.specs.CaptureNames.{capture_name, lines_by}
use Rattle.rtk_captures.specs.RefusalLists.{differing_lines}
use Rattle.rtk_captures.specs.StationCaptures.{told_in}
use Rattle.rtk_captures.proofs.captures.StationCaptures.list_dates.Given as goal

-- the lines so far and those of the captures that are left are those of all
abbrev pub invariant-loop-place : goal.invariant-loop-place
invariant-loop-place l =
    l.lines.items ++ lines_by (λ at s. differing_lines (told_in l.self.station s) (capture_name l.self.all.names.now at)) l.place (drop l.place l.self.all.surveys.now) ≡ lines_by (λ at s. differing_lines (told_in l.self.station s) (capture_name l.self.all.names.now at)) 0 l.self.all.surveys.now
