use Rattle.std.proofs.Common.{◌≡◌, ◌++◌, ℕ, List, ap, ◌∙◌}
use Rattle.rtk_plan.specs.KnownLines.{skipped_lines, epochs_lines}
use Rattle.rtk_survey.specs.Surveys.{places_of}
use Rattle.rtk_captures.specs.declared.station_capture.StationCapture.{StationCapture}
use Rattle.rtk_survey.proofs.PublicLaws.{then-put}
use Rattle.rtk_plan.proofs.known_lines.put_captures_in.Goals as goal

pub returns : goal.returns
returns c =
    let names = c.args.captures.now.names.now in
    let plan = c.args.plan.now in
    let old : List ℕ = c.args.lines.now.items in
    let mid : List ℕ = c.put_skipped.new.lines.items in
    let a : List ℕ = skipped_lines names plan.captures.items plan.skipped.items in
    let b : List ℕ = epochs_lines names plan.captures.items (places_of plan.links.items) in
    let first : mid ≡ old ++ a =
    c.in_ok-put_skipped.ensures
    ∙ ap (λ (cs : List StationCapture). old ++ skipped_lines names cs c.as_slice.result.now) c.as_slice-told.ensures.value
    ∙ ap (λ (ps : List ℕ). old ++ skipped_lines names plan.captures.items ps) c.as_slice.ensures.value in
    let second : c.put_epochs.new.lines.items ≡ mid ++ b =
    c.in_ok-put_epochs.ensures
    ∙ ap (λ (cs : List StationCapture). mid ++ epochs_lines names cs (places_of c.as_slice-2.result.now)) c.as_slice-told.ensures.value
    ∙ ap (λ (ls : List (List ℕ)). mid ++ epochs_lines names plan.captures.items ls) (ap places_of c.as_slice-2.ensures.value) in
    then-put old mid c.put_epochs.new.lines.items a b first second
