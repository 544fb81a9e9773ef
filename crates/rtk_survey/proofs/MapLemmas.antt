-- A map in which the value of one key was put.
use Rattle.std.proofs.Common.{◌≡◌, ◌≢◌, ℕ, false, Option, Some, inl, inr, sym, subst, arith}
use Rattle.std.proofs.lemmas.Bool.{cases_eq}
use Rattle.std.proofs.lemmas.Bool.Decides.{nat_tests}
use Rattle.std.specs.Ordering.{nat_cmp, is_eq}
use Rattle.std.specs.BTreeMap.{BTreeMap, get, Updates}

pub other-key : (k q : ℕ) → q ≢ k → is_eq (nat_cmp k q) ≡ false
other-key k q other = grind (arith, nat_tests)

-- what holds of each key holds after the value of one was put
pub put-one : {X : Type 0} (P : ℕ → Option X → Type 0) (Q : ℕ → Option X → Type 0) (old new : BTreeMap ℕ X) (k : ℕ) (x : X) → Updates nat_cmp old new k (Some x)
    → Q k (Some x) → ((n : ℕ) → n ≢ k → P n (get nat_cmp old n) → Q n (get nat_cmp old n)) → ((n : ℕ) → P n (get nat_cmp old n))
    → (n : ℕ) → Q n (get nat_cmp new n)
put-one {X} P Q old new k x puts own others all n = elim (cases_eq n k) [
  | inl same ↦ subst (λ (q : ℕ). Q q (get nat_cmp new q)) (sym same) (subst (λ (o : Option X). Q k o) (sym puts.1) own)
  | inr other ↦ subst (λ (o : Option X). Q n o) (sym (puts.2 n (other-key k n other))) (others n other (all n))
]
