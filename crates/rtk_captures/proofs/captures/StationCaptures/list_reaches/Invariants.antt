use Rattle.std.proofs.Common.{◌≡◌, ◌++◌, drop}
use Rattle.std.specs.Prelude.{slice_get}
use Rattle.rtk_captures.specs.CaptureNames.{capture_name, lines_by}
use Rattle.rtk_captures.specs.RefusalLists.{epochs_in_survey, reach_line_if}
use Rattle.rtk_captures.proofs.captures.StationCaptures.list_reaches.Given as goal

-- the lines so far and those of the captures that are left are those of all
abbrev pub invariant-loop-place : goal.invariant-loop-place
invariant-loop-place l =
    l.lines.items ++ lines_by (λ at p. reach_line_if p (epochs_in_survey l.self.station (slice_get l.self.all.surveys.now at)) (capture_name l.self.all.names.now at)) l.place (drop l.place l.placed) ≡ lines_by (λ at p. reach_line_if p (epochs_in_survey l.self.station (slice_get l.self.all.surveys.now at)) (capture_name l.self.all.names.now at)) 0 l.placed
