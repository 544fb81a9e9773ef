use Rattle.std.proofs.Common.{◌<◌, ◌≤◌, ◌++◌, ℕ, List, min, length, sym, ap, ◌∙◌, append-nil, arith}
use Rattle.rtk_captures.proofs.WalkLemmas.{captures-more, captures-same, of-link-end}
use Rattle.rtk_captures.proofs.linking.captures_of_link.Goals.{then-numbers-at+in_ok-push, else-numbers-at}
use Rattle.rtk_captures.proofs.linking.captures_of_link.Goals as goal

pub loop-at-preserved : goal.loop-at-preserved
loop-at-preserved c =
    let os = c.args.ordered.now in
    let ns = c.args.numbers.now in
    let i : ℕ = c.loop-at.at in
    let lt : i < length os = omega (arith, c.loop-at-test.true, c.min-count.ensures) in
    let within : i < length ns = omega (arith, c.loop-at-test.true, c.min-count.ensures) in
    let before = c.loop-at.places.items in
    let places = c.if-numbers-at.places.items in
    elim c.if-numbers-at.branch [
      | then-numbers-at+in_ok-push w ↦
          captures-more c.args.link os ns i (record { from = 0; until = 0; given = 0 }) 0 before places lt within w.if-numbers-at.true
          (ap (λ v. v.items) w.places-is ∙ w.in_ok-push.ensures.items) c.loop-at.invariant
      | else-numbers-at w ↦
          captures-same c.args.link os ns i (record { from = 0; until = 0; given = 0 }) 0 before places lt within w.if-numbers-at.false
          (ap (λ v. v.items) w.places-is) c.loop-at.invariant
    ]

pub returns : goal.returns
returns c =
    let os = c.args.ordered.now in
    let ns = c.args.numbers.now in
    let past : min (length os) (length ns) ≤ c.loop-at.at = omega (arith, c.loop-at-test.false, c.min-count.ensures) in
    sym (append-nil c.loop-at.places.items) ∙ ap (λ (xs : List ℕ). c.loop-at.places.items ++ xs) (sym (of-link-end c.args.link os ns c.loop-at.at past)) ∙ c.loop-at.invariant
