-- No two codes have one name.
use Rattle.std.proofs.Common.{◌≡◌, ℕ, List, ◌∷◌, refl, sym, ◌∙◌, ap, nat_eq, cond, ◌≢◌, Option, Some, None}
use Rattle.std.specs.Prelude.{MatchOption}
use Rattle.rtk_obs.specs.declared.code.Code.{Code}
use Rattle.rtk_obs.specs.declared.code.Code.TheVariants.{G1C, G1P, G1W, G1S, G1L, G1X, G2C, G2D, G2P, G2W, G2S, G2L, G2X, G5I, G5Q, G5X}
use Rattle.rtk_obs.specs.Code.{name_of}

-- the code of a band, 49 for 1 and so on, and an attribute
abbrev code_of : ℕ → ℕ → Code
code_of band a =
    cond (nat_eq band 49)
    (cond (nat_eq a 67) G1C (cond (nat_eq a 80) G1P (cond (nat_eq a 87) G1W (cond (nat_eq a 83) G1S (cond (nat_eq a 76) G1L G1X)))))
    (cond (nat_eq band 50)
    (cond (nat_eq a 67) G2C (cond (nat_eq a 68) G2D (cond (nat_eq a 80) G2P (cond (nat_eq a 87) G2W (cond (nat_eq a 83) G2S (cond (nat_eq a 76) G2L G2X))))))
    (cond (nat_eq a 73) G5I (cond (nat_eq a 81) G5Q G5X)))

abbrev named : List ℕ → Code
named (band ∷ a ∷ rest) = code_of band a
named _ = G1C

named-name_of : (c : Code) → named (name_of c) ≡ c
named-name_of G1C = refl
named-name_of G1P = refl
named-name_of G1W = refl
named-name_of G1S = refl
named-name_of G1L = refl
named-name_of G1X = refl
named-name_of G2C = refl
named-name_of G2D = refl
named-name_of G2P = refl
named-name_of G2W = refl
named-name_of G2S = refl
named-name_of G2L = refl
named-name_of G2X = refl
named-name_of G5I = refl
named-name_of G5Q = refl
named-name_of G5X = refl

pub same_code : (c d : Code) → name_of c ≡ name_of d → c ≡ d
same_code c d e = sym (named-name_of c) ∙ (ap named e ∙ named-name_of d)

-- the answer to the name of a code is the code
pub reads_back : (c : Code) (answer : Option Code) → MatchOption answer ((d : Code) → name_of c ≢ name_of d) (λ d. name_of c ≡ name_of d) → answer ≡ Some c
reads_back c None m = absurd (m c refl)
reads_back c (Some d) m = ap (λ (e : Code). Some e) (sym (same_code c d m))
