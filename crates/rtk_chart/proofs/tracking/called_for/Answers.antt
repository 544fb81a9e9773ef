use Rattle.std.proofs.Common.{◌≤◌, ℕ, Bool, List, false, cond, length, get_or, sym, ap, inl, inr, ◌∙◌, arith}
use Rattle.std.proofs.lemmas.Bool.{cases_lt, lt-ltb, le-ltb}
use Rattle.std.proofs.lemmas.List.FromFn.{fill_by_all}
use Rattle.rtk_rinex.specs.Record.{no_observation}
use Rattle.rtk_rinex.specs.declared.epoch_table.Observed.{Observed}
use Rattle.rtk_tracking.specs.Passes.{has_phase}
use Rattle.rtk_chart.specs.Grid.{no_marks}
use Rattle.rtk_chart.specs.Steps.Shown.{called_for, called_at}
use Rattle.rtk_chart.specs.declared.code_marks.CodeMarks.{CodeMarks}
use Rattle.rtk_chart.proofs.GridLemmas.{unshown-at}
use Rattle.rtk_chart.proofs.tracking.called_for.Goals as goal

pub returns : goal.returns
returns c =
    let os : List Observed = c.args.observed.now in
    let known = c.args.known.now in
    let called : ℕ → CodeMarks = called_at os known.had known.kept in
    let others : CodeMarks = called_for no_observation (has_phase os) false false in
    fill_by_all called c.loop-code.codes 16 no_marks c.loop-code.invariant.size (λ k lt. elim (cases_lt k c.loop-code.code) [
      | inl below ↦ c.loop-code.invariant.filled k lt ∙ ap (λ (b : Bool). cond b (called k) others) (lt-ltb k c.loop-code.code below)
      | inr above ↦
          let past : length os ≤ k = omega (arith, above, lt, c.loop-code-test.false) in
          c.loop-code.invariant.filled k lt ∙ ap (λ (b : Bool). cond b (called k) others) (le-ltb k c.loop-code.code above)
          ∙ sym (ap (λ (o : Observed). called_for o (has_phase os) (get_or known.had k false) (get_or known.kept k false)) (unshown-at os k past))
    ])
