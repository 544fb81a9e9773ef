use Rattle.std.proofs.Common.{◌≡◌, ◌++◌, drop}
use Rattle.rtk_captures.specs.CaptureNames.{capture_name, lines_by}
use Rattle.rtk_captures.specs.RefusalLists.{told_line_if}
use Rattle.rtk_captures.proofs.captures.StationCaptures.list_told.Given as goal

-- the lines so far and those of the captures that are left are those of all
abbrev pub invariant-loop-place : goal.invariant-loop-place
invariant-loop-place l =
    l.lines.items ++ lines_by (λ at c. told_line_if c.told (capture_name l.self.all.names.now at)) l.place (drop l.place l.self.captures.now) ≡ lines_by (λ at c. told_line_if c.told (capture_name l.self.all.names.now at)) 0 l.self.captures.now
