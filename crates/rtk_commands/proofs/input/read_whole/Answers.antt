use Rattle.std.proofs.Common.{◌++◌, ◌∙◌, ◌≤◌, ◌+◌, List, ℕ, ap, take, length, arith, rules}
use Rattle.std.proofs.lemmas.Grind.{common_steps}
use Rattle.rtk_frame.specs.Stream.{with_more}
use Rattle.rtk_frame.proofs.PublicLaws.{with_more-with_more}
use Rattle.rtk_commands.proofs.input.read_whole.Goals as goal

-- no memory for the bytes of the last read: they were read all the same
pub returns-in_err-extend_from_slice-clause-within : goal.returns-in_err-extend_from_slice-clause-within
returns-in_err-extend_from_slice-clause-within g c =
    let more : List ℕ = take c.in-Ok.count c.read.new.buf in
    let few : length (c.loop-piece.bytes.items ++ more) ≤ c.args.limit + 1 = grind (arith, common_steps) in (
      c.loop-piece.bytes.items ++ more,
      c.in-Ok.ensures.given ∙ ap (λ known. with_more known more) c.loop-piece.invariant.given
          ∙ with_more-with_more (g.R.Source.given c.args.reader.now) c.loop-piece.bytes.items more,
      few,
    )

pub returns-then-count-eq0-clause-to_the_end : goal.returns-then-count-eq0-clause-to_the_end
returns-then-count-eq0-clause-to_the_end g c = search rules depth 5 fits 300
