use Rattle.std.proofs.Common.{◌≡◌, ◌++◌, ℕ, List, take, sym, ap, ◌∙◌, arith}
use Rattle.std.specs.Prelude.{flat_map, codes}
use Rattle.rtk_survey.specs.Steps.Tables.{messages_held}
use Rattle.rtk_survey.specs.SummaryText.{numbered_line, message_numbers, message_lines}
use Rattle.rtk_survey.proofs.ListLemmas.{put-taken}
use Rattle.rtk_survey.proofs.message_lines.put_messages.Goals as goal

pub loop-number-preserved : goal.loop-number-preserved
loop-number-preserved c =
    let lines : List ℕ = c.loop-number.lines.items in
    let words : List ℕ = codes " message " in
    let held : ℕ → ℕ = messages_held c.args.station.now in
    put-taken (λ n. numbered_line (codes " message ") n (held n)) message_numbers c.loop-number.number-index 0
    c.args.lines.now.items lines c.put_numbered.new.lines.items c.loop-number-test.true c.loop-number.invariant
    (c.in_ok-put_numbered.ensures
    ∙ ap (λ (count : ℕ). lines ++ numbered_line words c.from.result count) (c.messages_held-count.ensures ∙ ap held (sym c.from.ensures))
    ∙ ap (λ (n : ℕ). lines ++ numbered_line words n (held n)) c.from.ensures)

pub returns : goal.returns
unfolding message_lines
returns c =
    let end : c.loop-number.number-index ≡ 32 = omega (arith, c.loop-number.auto.number-index-end, c.loop-number-test.false) in
    c.loop-number.invariant
    ∙ ap (λ (k : ℕ). c.args.lines.now.items ++ flat_map (λ n. numbered_line (codes " message ") n (messages_held c.args.station.now n)) (take k message_numbers)) end
