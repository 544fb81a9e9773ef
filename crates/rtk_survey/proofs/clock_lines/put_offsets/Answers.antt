use Rattle.std.proofs.Common.{◌++◌, ◌∙◌, List, ℕ, ap}
use Rattle.rtk_survey.specs.ClockLines.{clock_line, glonass_line, clock_lines}
use Rattle.rtk_survey.specs.declared.clock_chains.ClockOffset.{ClockOffset}
use Rattle.rtk_survey.proofs.ListLemmas.{and-then}
use Rattle.rtk_survey.proofs.clock_lines.put_offsets.Goals as goal

pub returns : goal.returns
unfolding clock_lines
returns c =
    let s = c.args.offsets.now in
    let l0 : List ℕ = c.args.lines.now.items in
    let l1 : List ℕ = c.put_glonass.new.lines.items in
    let l2 : List ℕ = c.put_clock.new.lines.items in
    let l3 : List ℕ = c.put_clock-2.new.lines.items in
    let l4 : List ℕ = c.put_clock-3.new.lines.items in
    let l5 : List ℕ = c.put_clock-4.new.lines.items in
    let l6 : List ℕ = c.put_clock-5.new.lines.items in
    let r : List ℕ = glonass_line c.args.date s.glonass.items in
    let e : List ℕ = clock_line 69 s.galileo.items in
    let b : List ℕ = clock_line 67 s.beidou.items in
    let j : List ℕ = clock_line 74 s.qzss.items in
    let a : List ℕ = clock_line 83 s.sbas.items in
    let n : List ℕ = clock_line 73 s.navic.items in
    and-then l0 l5 l6 (r ++ e ++ b ++ j ++ a) n
    (and-then l0 l4 l5 (r ++ e ++ b ++ j) a
    (and-then l0 l3 l4 (r ++ e ++ b) j
    (and-then l0 l2 l3 (r ++ e) b
    (and-then l0 l1 l2 r e
    (c.in_ok-put_glonass.ensures ∙ ap (λ (os : List ClockOffset). l0 ++ glonass_line c.args.date os) c.as_slice.ensures.value)
    (c.in_ok-put_clock.ensures ∙ ap (λ (os : List ClockOffset). l1 ++ clock_line 69 os) c.as_slice-2.ensures.value))
    (c.in_ok-put_clock-2.ensures ∙ ap (λ (os : List ClockOffset). l2 ++ clock_line 67 os) c.as_slice-3.ensures.value))
    (c.in_ok-put_clock-3.ensures ∙ ap (λ (os : List ClockOffset). l3 ++ clock_line 74 os) c.as_slice-4.ensures.value))
    (c.in_ok-put_clock-4.ensures ∙ ap (λ (os : List ClockOffset). l4 ++ clock_line 83 os) c.as_slice-5.ensures.value))
    (c.in_ok-put_clock-5.ensures ∙ ap (λ (os : List ClockOffset). l5 ++ clock_line 73 os) c.as_slice-6.ensures.value)
