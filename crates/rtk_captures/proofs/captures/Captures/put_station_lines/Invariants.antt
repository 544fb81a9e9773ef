use Rattle.std.proofs.Common.{◌≡◌, ◌++◌, drop}
use Rattle.rtk_captures.specs.CaptureNames.{capture_name, lines_by}
use Rattle.rtk_captures.specs.Lists.{station_line}
use Rattle.rtk_captures.proofs.captures.Captures.put_station_lines.Given as goal

-- the lines so far and those of the captures that are left are those of all
abbrev pub invariant-loop-place : goal.invariant-loop-place
invariant-loop-place l =
    l.lines.items ++ lines_by (λ at s. station_line s l.station (capture_name l.self.names.now at)) l.place (drop l.place l.self.surveys.now) ≡ l.fn.lines.items ++ lines_by (λ at s. station_line s l.station (capture_name l.self.names.now at)) 0 l.self.surveys.now
