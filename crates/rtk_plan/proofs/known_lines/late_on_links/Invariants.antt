use Rattle.std.proofs.Common.{◌≡◌, take}
use Rattle.std.specs.List.{sum_by}
use Rattle.rtk_survey.specs.Counting.{shown_count}
use Rattle.rtk_plan.specs.Reported.{late_of}
use Rattle.rtk_plan.proofs.known_lines.late_on_links.Given as goal

abbrev pub invariant-loop-link : goal.invariant-loop-link
invariant-loop-link l = l.count ≡ shown_count (sum_by (late_of l.reported) (take l.link-index l.links))
