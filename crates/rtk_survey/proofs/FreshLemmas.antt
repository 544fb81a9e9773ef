-- What is held before the first frame.
use Rattle.std.proofs.Common.{◌≡◌, ℕ, List, [], length, replicate, ap, ◌∙◌}
use Rattle.std.proofs.lemmas.List.{length-replicate}
use Rattle.std.specs.BTreeMap.{BTreeMap, is_at}
use Rattle.std.specs.Map.{lookup}
use Rattle.std.specs.Option.{unwrap_or}
use Rattle.std.specs.Ordering.{nat_cmp}
use Rattle.rtk_survey.specs.Contents.{count_at}

pub as-many : {X : Type 0} (xs : List X) (k : ℕ) (x : X) → xs ≡ replicate k x → length xs ≡ k
as-many xs k x are = ap (λ ys. length ys) are ∙ length-replicate k x

pub nothing-counted : (m : BTreeMap ℕ ℕ) → m.entries ≡ [] → (n : ℕ) → count_at m n ≡ 0
nothing-counted m empty n = ap (λ (entries : List (ℕ × ℕ)). unwrap_or (lookup (is_at (nat_cmp n)) entries) 0) empty
