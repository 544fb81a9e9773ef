use Rattle.std.proofs.Common.{◌++◌, ℕ, List}
use Rattle.rtk_message.specs.declared.system.System.{System}
use Rattle.rtk_message.specs.declared.system.System.TheVariants.{Glonass, Galileo, Beidou, Qzss, Sbas, Navic}
use Rattle.rtk_survey.specs.UncheckedClocks.{unchecked_line, unchecked_lines}
use Rattle.rtk_survey.proofs.ListLemmas.{and-then}
use Rattle.rtk_survey.proofs.unchecked_clocks.put_unchecked.Goals as goal

pub returns : goal.returns
unfolding unchecked_lines
returns c =
    let line : System → List ℕ = λ s. unchecked_line c.args.date c.args.sent.now c.args.offsets.now s in
    let l0 : List ℕ = c.args.lines.now.items in
    let l1 : List ℕ = c.put_unchecked_line.new.lines.items in
    let l2 : List ℕ = c.put_unchecked_line-2.new.lines.items in
    let l3 : List ℕ = c.put_unchecked_line-3.new.lines.items in
    let l4 : List ℕ = c.put_unchecked_line-4.new.lines.items in
    let l5 : List ℕ = c.put_unchecked_line-5.new.lines.items in
    let l6 : List ℕ = c.put_unchecked_line-6.new.lines.items in
    let r : List ℕ = line Glonass in
    let e : List ℕ = line Galileo in
    let b : List ℕ = line Beidou in
    let j : List ℕ = line Qzss in
    let a : List ℕ = line Sbas in
    let n : List ℕ = line Navic in
    and-then l0 l5 l6 (r ++ e ++ b ++ j ++ a) n
    (and-then l0 l4 l5 (r ++ e ++ b ++ j) a
    (and-then l0 l3 l4 (r ++ e ++ b) j
    (and-then l0 l2 l3 (r ++ e) b
    (and-then l0 l1 l2 r e c.in_ok-put_unchecked_line.ensures c.in_ok-put_unchecked_line-2.ensures)
    c.in_ok-put_unchecked_line-3.ensures)
    c.in_ok-put_unchecked_line-4.ensures)
    c.in_ok-put_unchecked_line-5.ensures)
    c.in_ok-put_unchecked_line-6.ensures
