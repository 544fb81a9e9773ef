use Rattle.std.proofs.Common.{◌≡◌, ◌+◌, ◌-◌, ◌*◌, ◌≤◌, suc, ℕ, List, drop, arith, sym, subst}
use Rattle.std.proofs.Math.Nat.{mul-le-mul}
use Rattle.rtk_rinex.specs.Record.{code_width}
use Rattle.rtk_rinex.specs.Steps.MixedReadRecords.{IsMixedCell}
use Rattle.rtk_rinex.proofs.ValuesLemmas.{clash}
use Rattle.rtk_rinex.proofs.MixedRowLemmas.{mixed-cells-front, mixed-cells-back}
use Rattle.rtk_rinex.proofs.MixedCodeLemmas.{code-at, next-place}
use Rattle.rtk_rinex.proofs.WrittenLemmas.{no-width}
use Rattle.rtk_rinex.proofs.mixed_satellite_line_check.are_mixed_cells.Goals as goal

pub overflow_mul-at : goal.overflow_mul-at
overflow_mul-at c =
    let few : c.code_columns-width.result * c.loop-k.k ≤ 64 * 16 = mul-le-mul {n₁ = c.code_columns-width.result} {m₁ = c.loop-k.k} {n₂ = 64} {m₂ = 16} c.code_columns-width.ensures.few (omega arith) in
    omega (arith, few)

pub loop-k-init : goal.loop-k-init
loop-k-init c =
    let all : c.args.code_count - 0 ≡ c.args.code_count = omega arith in
    rw (no-width c.args.doppler, all) (record { rest = λ cells. cells; whole = λ cells. cells })

pub is_mixed_cell-requires : goal.is_mixed_cell-requires
is_mixed_cell-requires c = let few = c.columns_at.ensures.len in omega (arith, few, c.code_columns-width.ensures.value)

pub returns-then-not-is_mixed_cell : goal.returns-then-not-is_mixed_cell
returns-then-not-is_mixed_cell c =
    let d = c.args.doppler in
    let k = c.loop-k.k in
    let columns = c.args.columns.now in
    let m = c.args.code_count - (k + 1) in
    let more : c.args.code_count - k ≡ suc m = omega arith in
    let here = code-at d k c.code_columns-width.result columns c.columns_at.result.now c.code_columns-width.ensures.value c.columns_at.ensures.value in (
      λ e. cc,
      λ all.
          let parts = mixed-cells-front d c.args.phases (c.args.code_count - k) m (drop (code_width d * k) columns) more (c.loop-k.invariant.rest all) in
          absurd (clash c.is_mixed_cell.result c.if-not-is_mixed_cell.true (c.is_mixed_cell.ensures.1 (subst (λ (t : List ℕ). IsMixedCell d c.args.phases t) (sym here) parts.0))),
    )

pub loop-k-preserved : goal.loop-k-preserved
loop-k-preserved c =
    let d = c.args.doppler in
    let k = c.loop-k.k in
    let columns = c.args.columns.now in
    let m = c.args.code_count - (k + 1) in
    let more : c.args.code_count - k ≡ suc m = omega arith in
    let next = next-place d k columns in
    let here = code-at d k c.code_columns-width.result columns c.columns_at.result.now c.code_columns-width.ensures.value c.columns_at.ensures.value in
    let cell = subst (λ (t : List ℕ). IsMixedCell d c.args.phases t) here (c.is_mixed_cell.ensures.0 c.if-not-is_mixed_cell.false) in record {
      rest = λ all. rw next ((mixed-cells-front d c.args.phases (c.args.code_count - k) m (drop (code_width d * k) columns) more (c.loop-k.invariant.rest all)).1);
      whole = λ rest. c.loop-k.invariant.whole (mixed-cells-back d c.args.phases (c.args.code_count - k) m (drop (code_width d * k) columns) more cell (rw next at rest));
    }
