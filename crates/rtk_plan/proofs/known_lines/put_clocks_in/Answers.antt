use Rattle.std.proofs.Common.{◌++◌, ℕ, List, ap, ◌∙◌}
use Rattle.rtk_systems.specs.ClockOffsets.{told_clock_lines}
use Rattle.rtk_plan.specs.LeapLines.{leap_lines}
use Rattle.rtk_systems.specs.UncheckedSystems.{unchecked_system_lines}
use Rattle.rtk_survey.proofs.PublicLaws.{three-parts}
use Rattle.rtk_plan.proofs.known_lines.put_clocks_in.Goals as goal

pub returns : goal.returns
returns c =
    let old : List ℕ = c.args.lines.now.items in
    let ss = c.args.captures.now.surveys.now in
    let plan = c.args.plan.now in
    let clocks : ℕ → List ℕ = λ n. told_clock_lines plan.asked ss n plan.leap_seconds in
    let others : ℕ → List ℕ = λ n. unchecked_system_lines plan.setup.head.listed ss n in
    let leap : List ℕ = leap_lines c.args.captures.now.names.now ss plan in
    c.in_ok-put_leap_in.ensures
    ∙ ap (λ (l : List ℕ). l ++ leap) (c.in_ok-put_unchecked.ensures
    ∙ ap (λ (n : ℕ). c.put_told_clocks.new.lines.items ++ others n) c.station-station.ensures.value
    ∙ ap (λ (l : List ℕ). l ++ others plan.setup.station) (c.in_ok-put_told_clocks.ensures ∙ ap (λ (n : ℕ). old ++ clocks n) c.station-station.ensures.value))
    ∙ three-parts old (clocks plan.setup.station) (others plan.setup.station) leap
