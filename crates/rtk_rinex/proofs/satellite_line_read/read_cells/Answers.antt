use Rattle.std.proofs.Common.{◌≡◌, ◌∙◌, ◌+◌, ◌-◌, ◌*◌, ◌++◌, [], ◌∷◌, suc, ℕ, List, take, drop, flat_map, arith, ap, sym, refl, length-append}
use mathlib.Core.Logic.{∥∥₁_map}
use Rattle.std.proofs.lemmas.List.{append-nil}
use Rattle.std.proofs.lemmas.List.Elements.{All-nil, All-push}
use Rattle.rtk_rinex.specs.Columns.{left}
use Rattle.rtk_rinex.specs.Record.{observations}
use Rattle.rtk_rinex.specs.Table.{IsObserved}
use Rattle.rtk_rinex.proofs.CheckLemmas.{text-more}
use Rattle.rtk_rinex.proofs.CellLemmas.{drop_more, cells-front, left-split, no-columns}
use Rattle.rtk_rinex.proofs.satellite_line_read.read_cells.Goals as goal

pub loop-k-init : goal.loop-k-init
loop-k-init c =
    let all : c.args.code_count - 0 ≡ c.args.code_count = omega arith in
    rw (c.clear.ensures, all) (record { observed = All-nil IsObserved; count = refl; text = refl; rest = λ cells. cells })

pub read_cell_in-requires-clause-cell : goal.read_cell_in-requires-clause-cell
read_cell_in-requires-clause-cell c =
    let k = c.loop-k.k in
    let columns = c.args.columns.now in
    let m = c.args.code_count - (k + 1) in
    let more : c.args.code_count - k ≡ suc m = omega arith in
    ∥∥₁_map c.requires.cells (λ all.
    let cell = (cells-front (c.args.code_count - k) m (drop (48 * k) columns) more (c.loop-k.invariant.rest all)).0 in
    (cell.0, cell.1, ap (left 48) c.columns_at-cell.ensures.value ∙ cell.2))

pub loop-k-preserved : goal.loop-k-preserved
loop-k-preserved c =
    let l = c.loop-k in
    let k = l.k in
    let columns = c.args.columns.now in
    let m = c.args.code_count - (k + 1) in
    let more : c.args.code_count - k ≡ suc m = omega arith in
    let places : 48 * (k + 1) ≡ 48 * k + 48 = omega arith in
    let next : drop (48 * (k + 1)) columns ≡ drop 48 (drop (48 * k) columns) = ap (λ (n : ℕ). drop n columns) places ∙ drop_more (48 * k) 48 columns in
    let shown = c.read_cell_in.result in
    let cell : left 48 (take 48 (drop (48 * k) columns)) ≡ observations shown = ap (left 48) (sym c.columns_at-cell.ensures.value) ∙ c.read_cell_in.ensures.text in
    let split : left (48 * (c.args.code_count - k)) (drop (48 * k) columns) ≡ left 48 (take 48 (drop (48 * k) columns)) ++ left (48 * m) (drop 48 (drop (48 * k) columns)) =
    ap (λ (n : ℕ). left (48 * n) (drop (48 * k) columns)) more ∙ left-split m (drop (48 * k) columns) in
    let text = text-more observations l.observed.items shown (left (48 * c.args.code_count) columns) (left (48 * (c.args.code_count - k)) (drop (48 * k) columns))
    (left 48 (take 48 (drop (48 * k) columns))) (left (48 * m) (drop 48 (drop (48 * k) columns))) l.invariant.text split cell in
    rw (c.push.ensures.items, next) (record {
      observed = All-push IsObserved l.observed.items shown l.invariant.observed c.read_cell_in.ensures.observed;
      count = length-append l.observed.items (shown ∷ []) ∙ omega (arith, l.invariant.count);
      text = text;
      rest = λ all. (cells-front (c.args.code_count - k) m (drop (48 * k) columns) more (l.invariant.rest all)).1;
    })

pub returns-clause-code_count : goal.returns-clause-code_count
returns-clause-code_count c = c.loop-k.invariant.count ∙ omega arith

pub returns-clause-text : goal.returns-clause-text
returns-clause-text c =
    let l = c.loop-k in
    let done : l.k ≡ c.args.code_count = omega arith in
    l.invariant.text ∙ ap (λ (t : List ℕ). flat_map observations l.observed.items ++ t) (no-columns c.args.code_count l.k c.args.columns.now c.requires.few done) ∙ append-nil (flat_map observations l.observed.items)
