use Rattle.std.proofs.Common.{◌++◌, ℕ, List, ap, ◌∙◌, codes}
use Rattle.rtk_plan.specs.LeftOut.{numberless_line, refused_among, dayless_lines, refused_lines}
use Rattle.rtk_survey.proofs.PublicLaws.{five-parts}
use Rattle.rtk_plan.proofs.left_out.put_refused_of.Goals as goal

pub returns : goal.returns
unfolding refused_lines
returns c =
    let name : List ℕ = c.args.name.now in
    let unread = c.args.contents.now.unread in
    let a : List ℕ = numberless_line unread.no_number name in
    let b : List ℕ = refused_among (codes " refused M3 ") name unread.short in
    let d : List ℕ = refused_among (codes " refused M4 ") name unread.outside_week in
    let e : List ℕ = dayless_lines c.args.taken name c.args.contents.now.dayless in
    let f : List ℕ = refused_among (codes " refused M5 ") name unread.too_many_cells in
    c.in_ok-put_refused_among-3.ensures
    ∙ ap (λ (l : List ℕ). l ++ f) (c.in_ok-put_dayless.ensures
    ∙ ap (λ (l : List ℕ). l ++ e) (c.in_ok-put_refused_among-2.ensures
    ∙ ap (λ (l : List ℕ). l ++ d) (c.in_ok-put_refused_among.ensures ∙ ap (λ (l : List ℕ). l ++ b) c.in_ok-put_numberless.ensures)))
    ∙ five-parts c.args.lines.now.items a b d e f
