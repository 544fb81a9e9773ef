use Rattle.std.proofs.Common.{◌++◌, ℕ, List, refl, ap, ◌∙◌, codes, decimal}
use Rattle.rtk_captures.specs.Lists.{words_and_name, part_command}
use Rattle.rtk_survey.proofs.PublicLaws.{then-put}
use Rattle.rtk_captures.proofs.lists.put_parting.Goals as goal

pub returns : goal.returns
returns c =
    let old : List ℕ = c.args.lines.now.items in
    let name : List ℕ = c.args.name.now in
    let byte : ℕ = c.args.byte in
    let a : List ℕ = words_and_name (codes " ") name in
    let b : List ℕ = codes ": the second date begins at byte " in
    let d : List ℕ = decimal byte in
    let e : List ℕ = codes "; these commands part it there:\n" in
    let f : List ℕ = part_command (codes "head -c ") byte name (codes ".1\n") in
    let l1 : List ℕ = c.put_words_and_name.new.lines.items in
    let l2 : List ℕ = c.put_named.new.line.items in
    let l3 : List ℕ = c.extend_from_slice.new.self.items in
    let l4 : List ℕ = c.put_part_command.new.lines.items in
    let first = then-put old l1 (l1 ++ b) a b c.in_ok-put_words_and_name.ensures refl in
    let second = then-put old (l1 ++ b) l2 (a ++ b) d first c.in_ok-put_named.ensures in
    let third = then-put old l2 l3 ((a ++ b) ++ d) e second c.in_ok-extend_from_slice.ensures.items in
    let fourth = then-put old l3 l4 (((a ++ b) ++ d) ++ e) f third c.in_ok-put_part_command.ensures in
    let most : ℕ = c.saturating_add.result in
    let fifth = then-put old l4 c.put_part_command-2.new.lines.items ((((a ++ b) ++ d) ++ e) ++ f) (part_command (codes "tail -c +") most name (codes ".2\n")) fourth c.in_ok-put_part_command-2.ensures in
    fifth ∙ ap (λ (n : ℕ). old ++ (((((a ++ b) ++ d) ++ e) ++ f) ++ part_command (codes "tail -c +") n name (codes ".2\n"))) c.saturating_add.ensures
