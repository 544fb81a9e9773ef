use Rattle.std.proofs.Common.{◌≡◌, ◌<◌, ◌+◌, ℕ, min, nat_lt, ap, ◌∙◌, lit<, arith}
use Rattle.std.proofs.lemmas.Bool.{ltb-true, lt-ltb, ltb_from_iff}
use Rattle.rtk_survey.specs.Points.{squared_apart}
use Rattle.rtk_survey.proofs.points.are_far.Goals as goal

-- a sum that stops at a greater number is compared alike
compared : (k most x y z s t : ℕ) → k < most → s ≡ min (x + y) most → t ≡ min (s + z) most → nat_lt k t ≡ nat_lt k (x + y + z)
compared k most x y z s t below first second =
    ltb_from_iff (λ h. let lt = ltb-true k t h in omega (arith, lt, first, second), λ h. lt-ltb k t (omega (arith, h, first, second, below)))

pub returns : goal.returns
returns c =
    let k : ℕ = 1_000_000_000_000 in
    let a = c.args.a.now in
    let b = c.args.b.now in
    let x : ℕ = squared_apart a.x b.x in
    let y : ℕ = squared_apart a.y b.y in
    compared k 340_282_366_920_938_463_463_374_607_431_768_211_455 c.squared_apart-x.result c.squared_apart-y.result c.squared_apart-z.result
    c.saturating_add.result c.saturating_add-2.result (lit< tt) c.saturating_add.ensures c.saturating_add-2.ensures
    ∙ ap (λ (n : ℕ). nat_lt k (n + c.squared_apart-y.result + c.squared_apart-z.result)) c.squared_apart-x.ensures.value
    ∙ ap (λ (n : ℕ). nat_lt k (x + n + c.squared_apart-z.result)) c.squared_apart-y.ensures.value
    ∙ ap (λ (n : ℕ). nat_lt k (x + y + n)) c.squared_apart-z.ensures.value
