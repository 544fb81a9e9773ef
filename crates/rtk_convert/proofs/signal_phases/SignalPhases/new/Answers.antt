use Rattle.std.proofs.Common.{arith, ap, length, length-append, ◌∷◌, [], subst, sym}
use Rattle.std.specs.Prelude.{All}
use Rattle.std.proofs.lemmas.List.Elements.{All-push}
use Rattle.rtk_convert.specs.Steps.PhaseBlocks.{HasNoPhases}
use Rattle.rtk_convert.proofs.PhaseBlockLemmas.{no-phase-at}
use Rattle.rtk_convert.proofs.signal_phases.SignalPhases.new.Goals as goal

pub adding-preserved : goal.adding-preserved
adding-preserved c =
    let b = c.in_ok-add_block.ensures in
    record {
      few = omega (arith, c.adding-test.true, ap length b.2, length-append c.adding.blocks.items (b.0 ∷ []));
      empty = subst (All HasNoPhases) (sym b.2) (All-push HasNoPhases c.adding.blocks.items b.0 c.adding.invariant.empty b.1);
    }

pub invariant_of-result : goal.invariant_of-result
invariant_of-result c = omega (arith, c.adding.invariant.few, c.adding-test.false)

pub returns : goal.returns
returns c = λ satellite code. no-phase-at c.adding.blocks.items c.adding.invariant.empty satellite code
