use Rattle.std.proofs.Common.{◌≡◌, ◌++◌, ℕ, List, take, sym, ap, ◌∙◌, arith}
use Rattle.std.specs.Prelude.{flat_map, codes}
use Rattle.rtk_survey.specs.Steps.Tables.{system_epochs_held}
use Rattle.rtk_survey.specs.SummaryText.{numbered_line, beside_numbers, system_epoch_lines}
use Rattle.rtk_survey.proofs.ListLemmas.{put-taken}
use Rattle.rtk_survey.proofs.message_lines.put_epochs.Goals as goal

pub loop-number-preserved : goal.loop-number-preserved
loop-number-preserved c =
    let lines : List ℕ = c.loop-number.lines.items in
    let words : List ℕ = codes " epochs " in
    let held : ℕ → ℕ = system_epochs_held c.args.station.now in
    put-taken (λ n. numbered_line (codes " epochs ") n (held n)) beside_numbers c.loop-number.number-index 0
    c.args.lines.now.items lines c.put_numbered.new.lines.items c.loop-number-test.true c.loop-number.invariant
    (c.in_ok-put_numbered.ensures
    ∙ ap (λ (count : ℕ). lines ++ numbered_line words c.from.result count) (c.epochs_numbered-count.ensures ∙ ap held (sym c.from.ensures))
    ∙ ap (λ (n : ℕ). lines ++ numbered_line words n (held n)) c.from.ensures)

pub returns : goal.returns
unfolding system_epoch_lines
returns c =
    let end : c.loop-number.number-index ≡ 25 = omega (arith, c.loop-number.auto.number-index-end, c.loop-number-test.false) in
    c.loop-number.invariant
    ∙ ap (λ (k : ℕ). c.args.lines.now.items ++ flat_map (λ n. numbered_line (codes " epochs ") n (system_epochs_held c.args.station.now n)) (take k beside_numbers)) end
