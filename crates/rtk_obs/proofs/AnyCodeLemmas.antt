-- The codes of all systems: a text, or a system and a place, belong to one code.
use Rattle.std.proofs.Common.{◌≡◌, ◌≢◌, ℕ, ◌+◌, ◌-◌, ◌*◌, ◌<◌, ◌≤◌, Bool, false, ◌&&◌, nat_eq, cond, List, [], ◌∷◌, get_or, Option, Some, None, refl, sym, ap, ◌∙◌, arith}
use Rattle.std.specs.Prelude.{MatchOption}
use Rattle.rtk_message.specs.declared.system.System.{System}
use Rattle.rtk_obs.specs.SatelliteIndex.{system_at}
use Rattle.rtk_obs.specs.declared.any_code.AnyCode.{AnyCode}
use Rattle.rtk_obs.specs.declared.any_code.AnyCode.TheVariants.{G1C, G1P, G1W, G1S, G1L, G1X, G2C, G2D, G2P, G2W, G2S, G2L, G2X, G5I, G5Q, G5X, R1C, R1P, R2C, R2P, E1C, E1B, E1X, E6C, E6B, E6X, E7I, E7Q, E7X, E8I, E8Q, E8X, E5I, E5Q, E5X, C2I, C2Q, C2X, C6I, C6Q, C6X, C7I, C7Q, C7X, C5D, C5P, C5X, C7D, C1D, C1P, C1X, J1C, J6S, J6L, J6X, J2S, J2L, J2X, J5I, J5Q, J5X, J1S, J1L, J1X, S1C, S5I, S5Q, S5X, I5A}
use Rattle.rtk_obs.specs.AnyCode.{system_of, place_of, text_of, codes_before, number_of, all_any_codes, IsSignal, signal_place}

pub place_below : (c : AnyCode) → place_of c < 16
place_below G1C = omega arith
place_below G1P = omega arith
place_below G1W = omega arith
place_below G1S = omega arith
place_below G1L = omega arith
place_below G1X = omega arith
place_below G2C = omega arith
place_below G2D = omega arith
place_below G2P = omega arith
place_below G2W = omega arith
place_below G2S = omega arith
place_below G2L = omega arith
place_below G2X = omega arith
place_below G5I = omega arith
place_below G5Q = omega arith
place_below G5X = omega arith
place_below R1C = omega arith
place_below R1P = omega arith
place_below R2C = omega arith
place_below R2P = omega arith
place_below E1C = omega arith
place_below E1B = omega arith
place_below E1X = omega arith
place_below E6C = omega arith
place_below E6B = omega arith
place_below E6X = omega arith
place_below E7I = omega arith
place_below E7Q = omega arith
place_below E7X = omega arith
place_below E8I = omega arith
place_below E8Q = omega arith
place_below E8X = omega arith
place_below E5I = omega arith
place_below E5Q = omega arith
place_below E5X = omega arith
place_below C2I = omega arith
place_below C2Q = omega arith
place_below C2X = omega arith
place_below C6I = omega arith
place_below C6Q = omega arith
place_below C6X = omega arith
place_below C7I = omega arith
place_below C7Q = omega arith
place_below C7X = omega arith
place_below C5D = omega arith
place_below C5P = omega arith
place_below C5X = omega arith
place_below C7D = omega arith
place_below C1D = omega arith
place_below C1P = omega arith
place_below C1X = omega arith
place_below J1C = omega arith
place_below J6S = omega arith
place_below J6L = omega arith
place_below J6X = omega arith
place_below J2S = omega arith
place_below J2L = omega arith
place_below J2X = omega arith
place_below J5I = omega arith
place_below J5Q = omega arith
place_below J5X = omega arith
place_below J1S = omega arith
place_below J1L = omega arith
place_below J1X = omega arith
place_below S1C = omega arith
place_below S5I = omega arith
place_below S5Q = omega arith
place_below S5X = omega arith
place_below I5A = omega arith

pub number_below : (c : AnyCode) → number_of c < 69
number_below G1C = omega arith
number_below G1P = omega arith
number_below G1W = omega arith
number_below G1S = omega arith
number_below G1L = omega arith
number_below G1X = omega arith
number_below G2C = omega arith
number_below G2D = omega arith
number_below G2P = omega arith
number_below G2W = omega arith
number_below G2S = omega arith
number_below G2L = omega arith
number_below G2X = omega arith
number_below G5I = omega arith
number_below G5Q = omega arith
number_below G5X = omega arith
number_below R1C = omega arith
number_below R1P = omega arith
number_below R2C = omega arith
number_below R2P = omega arith
number_below E1C = omega arith
number_below E1B = omega arith
number_below E1X = omega arith
number_below E6C = omega arith
number_below E6B = omega arith
number_below E6X = omega arith
number_below E7I = omega arith
number_below E7Q = omega arith
number_below E7X = omega arith
number_below E8I = omega arith
number_below E8Q = omega arith
number_below E8X = omega arith
number_below E5I = omega arith
number_below E5Q = omega arith
number_below E5X = omega arith
number_below C2I = omega arith
number_below C2Q = omega arith
number_below C2X = omega arith
number_below C6I = omega arith
number_below C6Q = omega arith
number_below C6X = omega arith
number_below C7I = omega arith
number_below C7Q = omega arith
number_below C7X = omega arith
number_below C5D = omega arith
number_below C5P = omega arith
number_below C5X = omega arith
number_below C7D = omega arith
number_below C1D = omega arith
number_below C1P = omega arith
number_below C1X = omega arith
number_below J1C = omega arith
number_below J6S = omega arith
number_below J6L = omega arith
number_below J6X = omega arith
number_below J2S = omega arith
number_below J2L = omega arith
number_below J2X = omega arith
number_below J5I = omega arith
number_below J5Q = omega arith
number_below J5X = omega arith
number_below J1S = omega arith
number_below J1L = omega arith
number_below J1X = omega arith
number_below S1C = omega arith
number_below S5I = omega arith
number_below S5Q = omega arith
number_below S5X = omega arith
number_below I5A = omega arith

pub at_number : (c : AnyCode) → get_or all_any_codes (number_of c) G1C ≡ c
at_number G1C = refl
at_number G1P = refl
at_number G1W = refl
at_number G1S = refl
at_number G1L = refl
at_number G1X = refl
at_number G2C = refl
at_number G2D = refl
at_number G2P = refl
at_number G2W = refl
at_number G2S = refl
at_number G2L = refl
at_number G2X = refl
at_number G5I = refl
at_number G5Q = refl
at_number G5X = refl
at_number R1C = refl
at_number R1P = refl
at_number R2C = refl
at_number R2P = refl
at_number E1C = refl
at_number E1B = refl
at_number E1X = refl
at_number E6C = refl
at_number E6B = refl
at_number E6X = refl
at_number E7I = refl
at_number E7Q = refl
at_number E7X = refl
at_number E8I = refl
at_number E8Q = refl
at_number E8X = refl
at_number E5I = refl
at_number E5Q = refl
at_number E5X = refl
at_number C2I = refl
at_number C2Q = refl
at_number C2X = refl
at_number C6I = refl
at_number C6Q = refl
at_number C6X = refl
at_number C7I = refl
at_number C7Q = refl
at_number C7X = refl
at_number C5D = refl
at_number C5P = refl
at_number C5X = refl
at_number C7D = refl
at_number C1D = refl
at_number C1P = refl
at_number C1X = refl
at_number J1C = refl
at_number J6S = refl
at_number J6L = refl
at_number J6X = refl
at_number J2S = refl
at_number J2L = refl
at_number J2X = refl
at_number J5I = refl
at_number J5Q = refl
at_number J5X = refl
at_number J1S = refl
at_number J1L = refl
at_number J1X = refl
at_number S1C = refl
at_number S5I = refl
at_number S5Q = refl
at_number S5X = refl
at_number I5A = refl

pub same_number : (c d : AnyCode) → number_of c ≡ number_of d → c ≡ d
same_number c d e = sym (at_number c) ∙ ap (λ (k : ℕ). get_or all_any_codes k G1C) e ∙ at_number d

pub same_place : (c d : AnyCode) → system_of c ≡ system_of d → place_of c ≡ place_of d → c ≡ d
same_place c d s p = same_number c d (ap (λ (x : System). codes_before x + place_of c) s ∙ ap (λ (k : ℕ). codes_before (system_of d) + k) p)

-- ---- places among all signals

same_parts : (a b x y : ℕ) → 1 ≤ a → 1 ≤ b → x < 16 → y < 16 → (a - 1) * 16 + x ≡ (b - 1) * 16 + y → (a ≡ b) × (x ≡ y)
same_parts a b x y ha hb hx hy e = (omega arith, omega arith)

pub signal_below : (satellite : ℕ) (c : AnyCode) → IsSignal satellite c → signal_place satellite c < 3536
signal_below satellite c h = omega (arith, h.0.0, h.0.1, place_below c)

pub same_signal : (a b : ℕ) (c d : AnyCode) → IsSignal a c → IsSignal b d → signal_place a c ≡ signal_place b d → (a ≡ b) × (c ≡ d)
same_signal a b c d h g e =
    let p = same_parts a b (place_of c) (place_of d) h.0.0 g.0.0 (place_below c) (place_below d) e in
    (p.0, same_place c d (h.1 ∙ ap system_at p.0 ∙ sym g.1) p.1)

-- ---- texts

abbrev same_characters : List ℕ → List ℕ → Bool
same_characters (a ∷ b ∷ c ∷ []) (x ∷ y ∷ z ∷ []) = nat_eq a x && nat_eq b y && nat_eq c z
same_characters _ _ = false

-- the first of the codes that has a text
with_text : List ℕ → List AnyCode → AnyCode
with_text text [] = G1C
with_text text (c ∷ cs) = cond (same_characters text (text_of c)) c (with_text text cs)

with_own_text : (c : AnyCode) → with_text (text_of c) all_any_codes ≡ c
unfolding with_text
with_own_text G1C = refl
with_own_text G1P = refl
with_own_text G1W = refl
with_own_text G1S = refl
with_own_text G1L = refl
with_own_text G1X = refl
with_own_text G2C = refl
with_own_text G2D = refl
with_own_text G2P = refl
with_own_text G2W = refl
with_own_text G2S = refl
with_own_text G2L = refl
with_own_text G2X = refl
with_own_text G5I = refl
with_own_text G5Q = refl
with_own_text G5X = refl
with_own_text R1C = refl
with_own_text R1P = refl
with_own_text R2C = refl
with_own_text R2P = refl
with_own_text E1C = refl
with_own_text E1B = refl
with_own_text E1X = refl
with_own_text E6C = refl
with_own_text E6B = refl
with_own_text E6X = refl
with_own_text E7I = refl
with_own_text E7Q = refl
with_own_text E7X = refl
with_own_text E8I = refl
with_own_text E8Q = refl
with_own_text E8X = refl
with_own_text E5I = refl
with_own_text E5Q = refl
with_own_text E5X = refl
with_own_text C2I = refl
with_own_text C2Q = refl
with_own_text C2X = refl
with_own_text C6I = refl
with_own_text C6Q = refl
with_own_text C6X = refl
with_own_text C7I = refl
with_own_text C7Q = refl
with_own_text C7X = refl
with_own_text C5D = refl
with_own_text C5P = refl
with_own_text C5X = refl
with_own_text C7D = refl
with_own_text C1D = refl
with_own_text C1P = refl
with_own_text C1X = refl
with_own_text J1C = refl
with_own_text J6S = refl
with_own_text J6L = refl
with_own_text J6X = refl
with_own_text J2S = refl
with_own_text J2L = refl
with_own_text J2X = refl
with_own_text J5I = refl
with_own_text J5Q = refl
with_own_text J5X = refl
with_own_text J1S = refl
with_own_text J1L = refl
with_own_text J1X = refl
with_own_text S1C = refl
with_own_text S5I = refl
with_own_text S5Q = refl
with_own_text S5X = refl
with_own_text I5A = refl

pub same_text : (c d : AnyCode) → text_of c ≡ text_of d → c ≡ d
same_text c d e = sym (with_own_text c) ∙ ap (λ (text : List ℕ). with_text text all_any_codes) e ∙ with_own_text d

-- the answer to the text of a code is the code
pub reads_back : (c : AnyCode) (answer : Option AnyCode) → MatchOption answer ((d : AnyCode) → text_of c ≢ text_of d) (λ d. text_of c ≡ text_of d) → answer ≡ Some c
reads_back c None m = absurd (m c refl)
reads_back c (Some d) m = ap (λ (e : AnyCode). Some e) (sym (same_text c d m))
