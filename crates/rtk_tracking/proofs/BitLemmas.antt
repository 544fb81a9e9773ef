-- Each bit 0 is exactly one of three kinds.
use Rattle.std.proofs.Common.{◌≡◌, ◌+◌, ℕ, Bool, true, false, not, cond, ◌&&◌, ◌||◌, List, [], ◌∷◌, Option, refl}
use Rattle.std.proofs.lemmas.Bool.{both_ways}
use Rattle.rtk_tracking.specs.Epochs.{shows_phase}
use Rattle.rtk_tracking.specs.Passes.{Sighting, has_bit_0, begins_pass, ends_outage, had_phase, kept_phase, is_known, is_kept}
use Rattle.rtk_tracking.specs.Laws.{EachBitIsOneOfThree, RiseOrReturnIsEither}

-- what had a phase since the last outage had one since the pass began
carried : (shows begins ends kept had : Bool) → (kept ≡ true → had ≡ true)
    → (shows || (not (begins || ends) && kept)) ≡ true → (shows || (not begins && had)) ≡ true
carried true begins ends kept had implied holds = refl
carried false true ends kept had implied holds = holds
carried false false true kept had implied holds = absurd (both_ways false refl holds)
carried false false false kept had implied holds = implied holds

kept-had : (interval : Option ℕ) (place : ℕ) (before : List Sighting) → kept_phase interval place before ≡ true → had_phase interval place before ≡ true
kept-had interval place [] holds = holds
kept-had interval place (s ∷ before) holds =
    carried (shows_phase place s.observed) (begins_pass interval before s) (ends_outage interval before s)
    (kept_phase interval place before) (had_phase interval place before) (kept-had interval place before) holds

kept-known : (interval : Option ℕ) (place : ℕ) (before : List Sighting) (s : Sighting) → is_kept interval place before s ≡ true → is_known interval place before s ≡ true
kept-known interval place before s holds =
    carried false (begins_pass interval before s) (ends_outage interval before s)
    (kept_phase interval place before) (had_phase interval place before) (kept-had interval place before) holds

-- one, if it holds
abbrev one : Bool → ℕ
one b = cond b 1 0

of-three : (bit known kept : Bool) → (kept ≡ true → known ≡ true)
    → one (bit && not known) + one (bit && (known && not kept)) + one (bit && kept) ≡ one bit
of-three false known kept implied = refl
of-three true false false implied = refl
of-three true false true implied = absurd (both_ways false refl (implied refl))
of-three true true false implied = refl
of-three true true true implied = refl

pub each-bit : EachBitIsOneOfThree
each-bit interval place before s =
    of-three (has_bit_0 place s.observed) (is_known interval place before s) (is_kept interval place before s) (kept-known interval place before s)

of-two : (bit known kept : Bool) → (kept ≡ true → known ≡ true) → (bit && not kept) ≡ ((bit && not known) || (bit && (known && not kept)))
of-two false known kept implied = refl
of-two true false false implied = refl
of-two true false true implied = absurd (both_ways false refl (implied refl))
of-two true true false implied = refl
of-two true true true implied = refl

pub either-of-two : RiseOrReturnIsEither
either-of-two interval place before s =
    of-two (has_bit_0 place s.observed) (is_known interval place before s) (is_kept interval place before s) (kept-known interval place before s)
