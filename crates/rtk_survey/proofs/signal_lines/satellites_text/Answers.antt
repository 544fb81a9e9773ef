use Rattle.std.proofs.Common.{◌≡◌, ◌-◌, ◌+◌, ◌≤◌, ℕ, List, [], false, get_or, ap, ◌∙◌, arith}
use Rattle.std.specs.Prelude.{flat_map}
use Rattle.std.specs.List.{range_with_len}
use Rattle.rtk_survey.specs.SummaryText.{listed_satellite, satellites_text}
use Rattle.rtk_survey.proofs.ListLemmas.{put-more}
use Rattle.rtk_survey.proofs.signal_lines.satellites_text.Goals as goal

pub loop-satellite-preserved : goal.loop-satellite-preserved
loop-satellite-preserved c =
    let lines : ℕ → List ℕ = listed_satellite (λ n. get_or c.args.marks.now n false) in
    let from : 1 ≤ c.loop-satellite.satellite = c.loop-satellite.auto.satellite in
    let at : c.loop-satellite.satellite ≡ 1 + (c.loop-satellite.satellite - 1) = omega arith in
    let next : (c.loop-satellite.satellite - 1) + 1 ≡ (c.loop-satellite.satellite + 1) - 1 = omega arith in
    put-more lines 1 (c.loop-satellite.satellite - 1) c.loop-satellite.satellite [] c.loop-satellite.text.items c.put_satellite.new.text.items
    at c.loop-satellite.invariant c.in_ok-put_satellite.ensures
    ∙ ap (λ (k : ℕ). flat_map lines (range_with_len 1 k)) next

pub returns : goal.returns
unfolding satellites_text
returns c =
    let end : c.loop-satellite.satellite - 1 ≡ 32 = omega (arith, c.loop-satellite-test.false) in
    c.loop-satellite.invariant ∙ ap (λ (k : ℕ). flat_map (listed_satellite (λ n. get_or c.args.marks.now n false)) (range_with_len 1 k)) end
