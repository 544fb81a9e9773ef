use Rattle.std.proofs.Common.{◌≡◌, ◌++◌, drop}
use Rattle.std.specs.Prelude.{codes}
use Rattle.rtk_captures.specs.CaptureNames.{capture_name, lines_by}
use Rattle.rtk_captures.specs.Lists.{capture_line}
use Rattle.rtk_captures.proofs.captures.Captures.list_all.Given as goal

-- the lines so far and those of the captures that are left are those of all
abbrev pub invariant-loop-place : goal.invariant-loop-place
invariant-loop-place l =
    l.lines.items ++ lines_by (λ at s. capture_line (codes " ") (capture_name l.self.names.now at) s.look) l.place (drop l.place l.self.surveys.now) ≡ lines_by (λ at s. capture_line (codes " ") (capture_name l.self.names.now at) s.look) 0 l.self.surveys.now
