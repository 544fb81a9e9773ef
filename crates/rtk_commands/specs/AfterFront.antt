-- A sink that passes over the first nine lines of a file, 729 bytes, and hands on what comes after them.
use Rattle.std.specs.Prelude.{◌≡◌, ◌<◌, ◌≤◌, ℕ, List, ◌++◌, length, take, drop, Option, None, Some, refl}
use Rattle.std.specs.Coded.{Coded, code_by, coded×, coded_ℕ, coded_list}

-- what it has: the sink behind, and the bytes that it passed over
pub record AfterFrontView (W : Type 0) : Type 0 where
  pub out : W
  pub passed_over : List ℕ

-- how the logic stores it
abbrev pub after_front_code : {W : Type 0} → Coded W → Coded (AfterFrontView W)
after_front_code {W} code =
    code_by (W × List ℕ) (coded× code (coded_list coded_ℕ)) (λ s. (s.out, s.passed_over)) (λ p. record { out = p.0; passed_over = p.1 }) (λ _. refl)

-- the bytes that it took: those that it passed over, then those that the sink behind took after these
-- first ones, which it had before; nothing is known if nothing was known of that sink
abbrev pub taken_after : Option (List ℕ) → List ℕ → Option (List ℕ) → Option (List ℕ)
taken_after None passed_over taken = None
taken_after (Some first) passed_over None = None
taken_after (Some first) passed_over (Some all) = Some (passed_over ++ drop (length first) all)

-- the sink behind has more than these first bytes only once 729 bytes were passed over
abbrev pub IsAfterFront : Option (List ℕ) → List ℕ → Option (List ℕ) → Type 0
IsAfterFront None passed_over taken = (length passed_over ≤ 729) × (taken ≡ None)
IsAfterFront (Some first) passed_over None = ⊥
IsAfterFront (Some first) passed_over (Some all) =
    (length passed_over ≤ 729) × (take (length first) all ≡ first) × (length passed_over < 729 → all ≡ first)
