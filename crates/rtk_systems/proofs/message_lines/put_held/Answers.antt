use Rattle.std.proofs.Common.{◌≡◌, ◌++◌, ℕ, ap, ◌∙◌, arith}
use Rattle.std.specs.Prelude.{flat_map}
use Rattle.std.specs.List.{range_with_len}
use Rattle.rtk_survey.proofs.PublicLaws.{put-more}
use Rattle.rtk_systems.specs.MessageLines.{held_line, held_lines}
use Rattle.rtk_systems.proofs.message_lines.put_held.Goals as goal

pub loop-number-preserved : goal.loop-number-preserved
loop-number-preserved c =
    let n : ℕ = c.loop-number.number in
    put-more (held_line c.args.surveys.now) 0 n n c.args.lines.now.items c.loop-number.lines.items c.put_held_line.new.lines.items
    (omega arith) c.loop-number.invariant c.in_ok-put_held_line.ensures

pub returns : goal.returns
unfolding held_lines
returns c =
    let end : c.loop-number.number ≡ 4096 = omega (arith, c.loop-number.auto.number-end, c.loop-number-test.false) in
    c.loop-number.invariant ∙ ap (λ (k : ℕ). c.args.lines.now.items ++ flat_map (held_line c.args.surveys.now) (range_with_len 0 k)) end
