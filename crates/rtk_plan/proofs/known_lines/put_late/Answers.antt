use Rattle.std.proofs.Common.{◌≡◌, ◌++◌, ℕ, List, refl, ◌∙◌, codes, decimal, append_assoc, ne_eqb}
use Rattle.rtk_plan.specs.KnownLines.{late_by_stray, late_count_line}
use Rattle.rtk_survey.proofs.PublicLaws.{then-put}
use Rattle.rtk_plan.proofs.known_lines.put_late.Goals as goal

-- words and a number more
named : (old l new a words number : List ℕ) → l ≡ old ++ a → new ≡ (l ++ words) ++ number → new ≡ old ++ ((a ++ words) ++ number)
named old l new a words number so_far more = then-put old (l ++ words) new (a ++ words) number (then-put old l (l ++ words) a words so_far refl) more

pub returns : goal.returns
unfolding late_count_line
returns c =
    let old : List ℕ = c.args.lines.now.items in
    let late : List ℕ = decimal c.args.late in
    let window : List ℕ = decimal c.args.window in
    let a : List ℕ = codes " late " ++ late in
    let b : List ℕ = (a ++ codes ": observations after ") ++ window in
    let d : List ℕ = (b ++ codes " newer epochs, and new positions after ") ++ window in
    let first = c.in_ok-put_named.ensures ∙ append_assoc old (codes " late ") late in
    let second = named old c.put_named.new.line.items c.put_named-2.new.line.items a (codes ": observations after ") window first c.in_ok-put_named-2.ensures in
    let third = named old c.put_named-2.new.line.items c.put_named-3.new.line.items b (codes " newer epochs, and new positions after ") window second c.in_ok-put_named-3.ensures in
    let fourth = then-put old c.put_named-3.new.line.items c.extend_from_slice.new.self.items d (codes " epochs, are left out") third c.in_ok-extend_from_slice.ensures.items in
    let stray : List ℕ = late_by_stray c.args.by_stray in
    let fifth = then-put old c.extend_from_slice.new.self.items c.put_late_by_stray.new.lines.items (d ++ codes " epochs, are left out") stray fourth c.in_ok-put_late_by_stray.ensures in
    rw (ne_eqb c.args.late 0 c.if-late-eq0.false) (
    then-put old c.put_late_by_stray.new.lines.items c.extend_from_slice-2.new.self.items ((d ++ codes " epochs, are left out") ++ stray) (codes "\n") fifth c.in_ok-extend_from_slice-2.ensures.items)
