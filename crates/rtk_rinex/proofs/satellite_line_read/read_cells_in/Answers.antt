use Rattle.std.proofs.Common.{◌≡◌, ◌∙◌, ◌+◌, ◌-◌, ◌*◌, ◌≤◌, ◌++◌, [], ◌∷◌, suc, ℕ, List, take, drop, flat_map, arith, ap, sym, refl, length-append}
use Rattle.std.proofs.Math.Nat.{mul-le-mul}
use mathlib.Core.Logic.{∥∥₁_map}
use Rattle.std.proofs.lemmas.List.{append-nil}
use Rattle.std.proofs.lemmas.List.Elements.{All-nil, All-push}
use Rattle.rtk_rinex.specs.Columns.{left}
use Rattle.rtk_rinex.specs.Record.{code_text, code_width}
use Rattle.rtk_rinex.specs.Table.{IsObservedIn}
use Rattle.rtk_rinex.proofs.CheckLemmas.{text-more}
use Rattle.rtk_rinex.proofs.MixedCodeLemmas.{left-code, code-at, next-place, no-codes-left}
use Rattle.rtk_rinex.proofs.MixedRowLemmas.{codes-front}
use Rattle.rtk_rinex.proofs.WrittenLemmas.{no-width}
use Rattle.rtk_rinex.proofs.satellite_line_read.read_cells_in.Goals as goal

pub overflow_mul-at : goal.overflow_mul-at
overflow_mul-at c =
    let few : c.code_columns-width.result * c.loop-k.k ≤ 64 * 16 = mul-le-mul {n₁ = c.code_columns-width.result} {m₁ = c.loop-k.k} {n₂ = 64} {m₂ = 16} c.code_columns-width.ensures.few (omega arith) in
    omega (arith, few)

pub loop-k-init : goal.loop-k-init
loop-k-init c =
    let all : c.args.code_count - 0 ≡ c.args.code_count = omega arith in
    rw (c.clear.ensures, all, no-width c.args.doppler) (record { observed = All-nil (IsObservedIn c.args.doppler); count = refl; text = refl; rest = λ cells. cells })

pub read_cell_in-requires-clause-few : goal.read_cell_in-requires-clause-few
read_cell_in-requires-clause-few c = let few = c.columns_at.ensures.len in omega (arith, few, c.code_columns-width.ensures.value)

pub read_cell_in-requires-clause-cell : goal.read_cell_in-requires-clause-cell
read_cell_in-requires-clause-cell c =
    let d = c.args.doppler in
    let k = c.loop-k.k in
    let columns = c.args.columns.now in
    let m = c.args.code_count - (k + 1) in
    let more : c.args.code_count - k ≡ suc m = omega arith in
    let here = code-at d k c.code_columns-width.result columns c.columns_at.result.now c.code_columns-width.ensures.value c.columns_at.ensures.value in
    ∥∥₁_map c.requires.cells (λ all.
    let cell = (codes-front d (c.args.code_count - k) m (drop (code_width d * k) columns) more (c.loop-k.invariant.rest all)).0 in
    (cell.0, cell.1, ap (left (code_width d)) here ∙ cell.2))

pub loop-k-preserved : goal.loop-k-preserved
loop-k-preserved c =
    let d = c.args.doppler in
    let w = code_width d in
    let l = c.loop-k in
    let k = l.k in
    let columns = c.args.columns.now in
    let m = c.args.code_count - (k + 1) in
    let more : c.args.code_count - k ≡ suc m = omega arith in
    let next = next-place d k columns in
    let here = code-at d k c.code_columns-width.result columns c.columns_at.result.now c.code_columns-width.ensures.value c.columns_at.ensures.value in
    let shown = c.read_cell_in.result in
    let cell : left w (take w (drop (w * k) columns)) ≡ code_text d shown = ap (left w) (sym here) ∙ c.read_cell_in.ensures.text in
    let split : left (w * (c.args.code_count - k)) (drop (w * k) columns) ≡ left w (take w (drop (w * k) columns)) ++ left (w * m) (drop w (drop (w * k) columns)) =
    ap (λ (n : ℕ). left (w * n) (drop (w * k) columns)) more ∙ left-code d m (drop (w * k) columns) in
    let text = text-more (code_text d) l.observed.items shown (left (w * c.args.code_count) columns) (left (w * (c.args.code_count - k)) (drop (w * k) columns))
    (left w (take w (drop (w * k) columns))) (left (w * m) (drop w (drop (w * k) columns))) l.invariant.text split cell in
    rw (c.push.ensures.items, next) (record {
      observed = All-push (IsObservedIn d) l.observed.items shown l.invariant.observed c.read_cell_in.ensures.observed;
      count = length-append l.observed.items (shown ∷ []) ∙ omega (arith, l.invariant.count);
      text = text;
      rest = λ all. (codes-front d (c.args.code_count - k) m (drop (w * k) columns) more (l.invariant.rest all)).1;
    })

pub returns-clause-code_count : goal.returns-clause-code_count
returns-clause-code_count c = c.loop-k.invariant.count ∙ omega arith

pub returns-clause-text : goal.returns-clause-text
returns-clause-text c =
    let l = c.loop-k in
    let d = c.args.doppler in
    let done : l.k ≡ c.args.code_count = omega arith in
    l.invariant.text ∙ ap (λ (t : List ℕ). flat_map (code_text d) l.observed.items ++ t) (no-codes-left d c.args.code_count l.k c.args.columns.now c.requires.few done)
    ∙ append-nil (flat_map (code_text d) l.observed.items)
