-- The places of satellites and codes in a flat table.
use Rattle.std.proofs.Common.{◌≡◌, ◌≢◌, ◌∙◌, ℕ, ◌+◌, ◌-◌, ◌*◌, arith, true, false, nat_eq, ◌&&◌, inl, inr, sym, ap}
use Rattle.std.proofs.lemmas.Bool.{cases_order, and_parts, eqb-true, false_from_ne_true}
use Rattle.std.proofs.lemmas.Bool.Decides.{nat_tests}
use Rattle.rtk_message.specs.declared.system.System.{System}
use Rattle.rtk_obs.specs.declared.any_code.AnyCode.{AnyCode}
use Rattle.rtk_obs.specs.AnyCode.{IsSignal, codes_before, number_of, place_of, signal_place, system_of}
use Rattle.rtk_obs.specs.SatelliteIndex.{system_at}
use Rattle.rtk_obs.proofs.PublicLaws.{place_below, same_number}

pub by_eq : {P : Type 0} (m n : ℕ) → (m ≡ n → P) → (m ≢ n → P) → P
by_eq m n same other =
    elim (cases_order m n) [
      | inl e ↦ same e
      | inr (inl lt) ↦ other (λ e. omega arith)
      | inr (inr gt) ↦ other (λ e. omega arith)
    ]

pub same_test : (a b c d : ℕ) → a ≡ c → b ≡ d → (nat_eq a c && nat_eq b d) ≡ true
same_test a b c d e f = grind (arith, nat_tests)

-- of one system, a place belongs to one code
pub same_place : (c d : AnyCode) → system_of c ≡ system_of d → place_of c ≡ place_of d → c ≡ d
same_place c d system place = same_number c d (ap (λ (s : System). codes_before s + place_of c) system ∙ ap (λ (k : ℕ). codes_before (system_of d) + k) place)

-- two codes of the system of a satellite
pub same_code_of : (s : ℕ) (c d : AnyCode) → IsSignal s c → IsSignal s d → place_of c ≡ place_of d → c ≡ d
same_code_of s c d hc hd place = same_place c d (hc.1 ∙ sym hd.1) place

-- a place among all signals belongs to one satellite and code
pub same_signal : (a b : ℕ) (c d : AnyCode) → IsSignal a c → IsSignal b d → signal_place a c ≡ signal_place b d → (a ≡ b) × (c ≡ d)
same_signal a b c d hc hd e =
    let p = place_below c in
    let q = place_below d in
    let low = hc.0.0 in
    let high = hd.0.0 in
    let one : a ≡ b = grind (arith) in
    let place : place_of c ≡ place_of d = grind (arith) in
    (one, same_place c d (hc.1 ∙ ap system_at one ∙ sym hd.1) place)

pub other_signal : (a c : ℕ) (k d : AnyCode) → signal_place a k ≢ signal_place c d → (nat_eq a c && nat_eq (number_of k) (number_of d)) ≡ false
other_signal a c k d ne = false_from_ne_true (nat_eq a c && nat_eq (number_of k) (number_of d)) (λ t.
    let p = and_parts (nat_eq a c) (nat_eq (number_of k) (number_of d)) t in
    let code : k ≡ d = same_number k d (eqb-true (number_of k) (number_of d) p.1) in
    ne (ap (λ (n : ℕ). (n - 1) * 16 + place_of k) (eqb-true a c p.0) ∙ ap (λ (x : AnyCode). (c - 1) * 16 + place_of x) code))
