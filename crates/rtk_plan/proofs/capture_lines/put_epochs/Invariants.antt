use Rattle.std.proofs.Common.{◌≡◌, ◌++◌, drop}
use Rattle.std.specs.Prelude.{flat_map}
use Rattle.rtk_plan.specs.KnownLines.{epochs_lines_of}
use Rattle.rtk_survey.specs.Surveys.{places_of}
use Rattle.rtk_plan.proofs.capture_lines.put_epochs.Given as goal

-- the lines so far and those of the links that are left are those of all
abbrev pub invariant-loop-link : goal.invariant-loop-link
invariant-loop-link l =
    l.lines.items ++ flat_map (epochs_lines_of l.captures.names.now l.told) (places_of (drop l.link-index l.links))
    ≡ l.fn.lines.items ++ flat_map (epochs_lines_of l.captures.names.now l.told) (places_of l.links)
