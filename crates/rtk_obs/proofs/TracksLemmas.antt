-- The last phase of a list of epochs, and the places of a Tracks after a step.
use Rattle.std.proofs.Common.{get_or-set_same, get_or-set_other, ◌≡◌, ◌≢◌, ℕ, zero, suc, set, replicate, ◌+◌, ◌-◌, ◌*◌, ◌<◌, ◌≤◌, [], ◌∷◌, List, refl, sym, ap, subst, ◌∙◌, arith, get_or, Some, None, Option, true, false, Bool, nat_eq, ◌&&◌, cond, inl, inr}
use Rattle.std.proofs.lemmas.List.{length-set}
use Rattle.std.specs.Prelude.{filter, MatchOption}
use Rattle.std.specs.List.{AllByRecursion}
use Rattle.std.proofs.lemmas.Bool.Decides.{nat_tests}
use Rattle.std.proofs.lemmas.Bool.{cases_order}
use Rattle.rtk_obs.specs.declared.code.Code.{Code}
use Rattle.rtk_obs.specs.declared.code.Code.TheVariants.{G1C, G1P, G1W, G1S, G1L, G1X, G2C, G2D, G2P, G2W, G2S, G2L, G2X, G5I, G5Q, G5X}
use Rattle.rtk_obs.specs.declared.track.Track.{Track}
use Rattle.rtk_obs.specs.Code.{place_of, frequency_of_code}
use Rattle.rtk_obs.specs.Slip.{EpochCell, has_phase}
use Rattle.rtk_obs.specs.Cell.{IsSatellite}
use Rattle.rtk_obs.specs.Rollover.{last_after, last_phase, track_of, rolls_since}
use Rattle.rtk_obs.specs.CellSteps.{Step, epoch_cells_of, IsFalling, PhasesFall}
use Rattle.rtk_obs.specs.Tracks.{IsBounded, IsLater, HasPlaces, track_at, place_of_signal, RepresentsSteps}
use Rattle.rtk_obs.specs.TracksLaws.{IsGreatest, LastIsGreatest, LaterThanSteps, LaterAfterStep, AllLaterAfterStep}

pub get_or-replicate : {X : Type 0} (n i : ℕ) (y : X) → get_or (replicate n y) i y ≡ y
get_or-replicate zero i y = refl
get_or-replicate (suc n) zero y = refl
get_or-replicate (suc n) (suc i) y = get_or-replicate n i y

pub by_eq : {P : Type 0} (m n : ℕ) → (m ≡ n → P) → (m ≢ n → P) → P
by_eq m n same other =
    elim (cases_order m n) [
      | inl e ↦ same e
      | inr (inl lt) ↦ other (λ e. omega arith)
      | inr (inr gt) ↦ other (λ e. omega arith)
    ]

-- ---- places

pub place_bound : (c : Code) → place_of c < 16
place_bound G1C = omega arith
place_bound G1P = omega arith
place_bound G1W = omega arith
place_bound G1S = omega arith
place_bound G1L = omega arith
place_bound G1X = omega arith
place_bound G2C = omega arith
place_bound G2D = omega arith
place_bound G2P = omega arith
place_bound G2W = omega arith
place_bound G2S = omega arith
place_bound G2L = omega arith
place_bound G2X = omega arith
place_bound G5I = omega arith
place_bound G5Q = omega arith
place_bound G5X = omega arith

-- the code at a place
code_at : ℕ → Code
code_at zero = G1C
code_at (suc zero) = G1P
code_at (suc (suc zero)) = G1W
code_at (suc (suc (suc zero))) = G1S
code_at (suc (suc (suc (suc zero)))) = G1L
code_at (suc (suc (suc (suc (suc zero))))) = G1X
code_at (suc (suc (suc (suc (suc (suc zero)))))) = G2C
code_at (suc (suc (suc (suc (suc (suc (suc zero))))))) = G2D
code_at (suc (suc (suc (suc (suc (suc (suc (suc zero)))))))) = G2P
code_at (suc (suc (suc (suc (suc (suc (suc (suc (suc zero))))))))) = G2W
code_at (suc (suc (suc (suc (suc (suc (suc (suc (suc (suc zero)))))))))) = G2S
code_at (suc (suc (suc (suc (suc (suc (suc (suc (suc (suc (suc zero))))))))))) = G2L
code_at (suc (suc (suc (suc (suc (suc (suc (suc (suc (suc (suc (suc zero)))))))))))) = G2X
code_at (suc (suc (suc (suc (suc (suc (suc (suc (suc (suc (suc (suc (suc zero))))))))))))) = G5I
code_at (suc (suc (suc (suc (suc (suc (suc (suc (suc (suc (suc (suc (suc (suc zero)))))))))))))) = G5Q
code_at (suc (suc (suc (suc (suc (suc (suc (suc (suc (suc (suc (suc (suc (suc (suc n))))))))))))))) = G5X

code_at-place_of : (c : Code) → code_at (place_of c) ≡ c
unfolding code_at
code_at-place_of G1C = refl
code_at-place_of G1P = refl
code_at-place_of G1W = refl
code_at-place_of G1S = refl
code_at-place_of G1L = refl
code_at-place_of G1X = refl
code_at-place_of G2C = refl
code_at-place_of G2D = refl
code_at-place_of G2P = refl
code_at-place_of G2W = refl
code_at-place_of G2S = refl
code_at-place_of G2L = refl
code_at-place_of G2X = refl
code_at-place_of G5I = refl
code_at-place_of G5Q = refl
code_at-place_of G5X = refl

same_code : (c d : Code) → place_of c ≡ place_of d → c ≡ d
same_code c d e = sym (code_at-place_of c) ∙ (ap code_at e ∙ code_at-place_of d)

same_place : (a b c d : ℕ) → 1 ≤ a → 1 ≤ c → b < 16 → d < 16 → (a - 1) * 16 + b ≡ (c - 1) * 16 + d → (a ≡ c) × (b ≡ d)
same_place a b c d ha hc hb hd e = omega arith

-- a place is the place of one satellite and one code
pub same_signal : (a b : ℕ) (c d : Code) → IsSatellite a → IsSatellite b → place_of_signal a c ≡ place_of_signal b d → (a ≡ b) × (c ≡ d)
same_signal a b c d ha hb e =
    let s = same_place a (place_of c) b (place_of d) ha.0 hb.0 (place_bound c) (place_bound d) e in
    (s.0, same_code c d s.1)

pub place_inside : (s : ℕ) (c : Code) → IsSatellite s → place_of_signal s c < 512
place_inside s c h = let a = h.0 in let b = h.1 in let p = place_bound c in omega arith

pub same_test : (a b c d : ℕ) → a ≡ c → b ≡ d → (nat_eq a c && nat_eq b d) ≡ true
same_test a b c d e f = grind (arith, nat_tests)

pub other_test : (a b c d : ℕ) → b < 16 → d < 16 → (a - 1) * 16 + b ≢ (c - 1) * 16 + d → (nat_eq a c && nat_eq b d) ≡ false
other_test a b c d h k ne = grind (arith, nat_tests)

-- ---- falling epochs

all_more : (es : List EpochCell) (x y : ℕ) → x < y → AllByRecursion (λ e. e.epoch < x) es → AllByRecursion (λ e. e.epoch < y) es
all_more [] x y h a = tt
all_more (e ∷ es) x y h a = (omega arith, all_more es x y h a.1)

all_at_most : (es : List EpochCell) (x : ℕ) → AllByRecursion (λ e. e.epoch < x) es → AllByRecursion (λ e. e.epoch ≤ x) es
all_at_most [] x a = tt
all_at_most (e ∷ es) x a = (omega arith, all_at_most es x a.1)

below_if : (b : Bool) (e : EpochCell) (rest : List EpochCell) (t : Track) (last : Option Track) (x : ℕ) → t.epoch ≡ e.epoch
    → IsFalling (cond b (e ∷ rest) rest) → IsLater (cond b (Some t) last) x
    → (IsFalling rest → IsLater last x → AllByRecursion (λ c. c.epoch < x) rest)
    → AllByRecursion (λ c. c.epoch < x) (cond b (e ∷ rest) rest)
below_if true e rest t last x same falls later more = (omega arith, all_more rest e.epoch x (omega arith) falls.0)
below_if false e rest t last x same falls later more = more falls later

-- an epoch after the last phase is after each of them
all_below : (frequency : ℕ) (es : List EpochCell) (x : ℕ) → PhasesFall es → IsLater (last_phase frequency es) x → AllByRecursion (λ e. e.epoch < x) (filter has_phase es)
all_below frequency [] x falls later = tt
all_below frequency (e ∷ es) x falls later =
    below_if (has_phase e) e (filter has_phase es) (track_of frequency (last_phase frequency es) e) (last_phase frequency es) x refl falls later (all_below frequency es x)

falls_if : (b : Bool) (e : EpochCell) (rest : List EpochCell) → AllByRecursion (λ c. c.epoch < e.epoch) rest → IsFalling rest → IsFalling (cond b (e ∷ rest) rest)
falls_if true e rest a falls = (a, falls)
falls_if false e rest a falls = falls

pub falls_more : (frequency : ℕ) (e : EpochCell) (es : List EpochCell) → PhasesFall es → IsLater (last_phase frequency es) e.epoch → PhasesFall (e ∷ es)
falls_more frequency e es falls later = falls_if (has_phase e) e (filter has_phase es) (all_below frequency es e.epoch falls later) falls

later_if : (b : Bool) (e : EpochCell) (rest : List EpochCell) (t : Track) (last : Option Track) (x : ℕ) → t.epoch ≡ e.epoch
    → AllByRecursion (λ c. c.epoch < x) (cond b (e ∷ rest) rest) → (AllByRecursion (λ c. c.epoch < x) rest → IsLater last x)
    → IsLater (cond b (Some t) last) x
later_if true e rest t last x same a more = let h = a.0 in omega arith
later_if false e rest t last x same a more = more a

later_than : (frequency : ℕ) (es : List EpochCell) (x : ℕ) → AllByRecursion (λ e. e.epoch < x) (filter has_phase es) → IsLater (last_phase frequency es) x
later_than frequency [] x a = tt
later_than frequency (e ∷ es) x a =
    later_if (has_phase e) e (filter has_phase es) (track_of frequency (last_phase frequency es) e) (last_phase frequency es) x refl a (later_than frequency es x)

pub later_than_steps : LaterThanSteps
later_than_steps tracks steps satellite code epoch represents is_satellite a =
    subst (λ (o : Option Track). IsLater o epoch) (sym (represents.last satellite code is_satellite)) (later_than (frequency_of_code code) (epoch_cells_of satellite code steps) epoch a)

chosen_later : (b : Bool) (t : Track) (last : Option Track) (x : ℕ) → IsLater last x → t.epoch < x → IsLater (cond b (Some t) last) x
chosen_later true t last x later h = h
chosen_later false t last x later h = later

pub later_after_step : LaterAfterStep
later_after_step frequency last e epoch later h = chosen_later (has_phase e) (track_of frequency last e) last epoch later h

-- ---- the greatest epoch

first_greatest : (b : Bool) (frequency : ℕ) (last : Option Track) (e : EpochCell) (rest : List EpochCell) → has_phase e ≡ b → last ≡ last_phase frequency rest
    → IsFalling (cond b (e ∷ filter has_phase rest) (filter has_phase rest))
    → (IsFalling (filter has_phase rest) → MatchOption last (filter has_phase rest ≡ []) (λ t. IsGreatest frequency rest t))
    → MatchOption (cond b (Some (track_of frequency last e)) last) (cond b (e ∷ filter has_phase rest) (filter has_phase rest) ≡ []) (λ t. IsGreatest frequency (e ∷ rest) t)
first_greatest true frequency last e rest is held falls more = record {
  seen = e;
  above = [];
  below = rest;
  among = refl;
  with_phase = is;
  epoch = refl;
  lock_time_ms = refl;
  source = refl;
  offset = refl;
  rolls = ap (λ (o : Option Track). rolls_since frequency o e) held;
  greatest = rw is (omega arith, all_at_most (filter has_phase rest) e.epoch falls.0);
}
first_greatest false frequency None e rest is held falls more = more falls
first_greatest false frequency (Some t) e rest is held falls more =
    let g : IsGreatest frequency rest t = more falls in
    record {
      seen = g.seen;
      above = e ∷ g.above;
      below = g.below;
      among = ap (λ (es : List EpochCell). e ∷ es) g.among;
      with_phase = g.with_phase;
      epoch = g.epoch;
      lock_time_ms = g.lock_time_ms;
      source = g.source;
      offset = g.offset;
      rolls = g.rolls;
      greatest = rw is g.greatest;
    }

pub last_is_greatest : LastIsGreatest
last_is_greatest frequency [] falls = refl
last_is_greatest frequency (e ∷ es) falls = first_greatest (has_phase e) frequency (last_phase frequency es) e es refl refl falls (last_is_greatest frequency es)

-- ---- a step

pub represents_more : (old new : List (Option Track)) (steps : List Step) (a : ℕ) (b : Code) (e : EpochCell) → IsSatellite a
    → IsLater (track_at old a b) e.epoch
    → track_at new a b ≡ last_after (frequency_of_code b) (track_at old a b) e
    → ((s : ℕ) (c : Code) → place_of_signal s c ≢ place_of_signal a b → track_at new s c ≡ track_at old s c)
    → RepresentsSteps old steps → RepresentsSteps new (record { satellite = a; code = b; seen = e } ∷ steps)
represents_more old new steps a b e ha later same others r = record {
  rising = λ s c hs. by_eq (place_of_signal a b) (place_of_signal s c)
      (λ p. let q = same_place a (place_of b) s (place_of c) ha.0 hs.0 (place_bound b) (place_bound c) p in
      rw (same_test a (place_of b) s (place_of c) q.0 q.1)
      (falls_more (frequency_of_code c) e (epoch_cells_of s c steps) (r.rising s c hs)
      (subst (λ (o : Option Track). IsLater o e.epoch) (r.last s c hs)
      (subst (λ (x : ℕ). IsLater (track_at old x c) e.epoch) q.0 (subst (λ (y : Code). IsLater (track_at old a y) e.epoch) (same_code b c q.1) later)))))
      (λ ne. rw (other_test a (place_of b) s (place_of c) (place_bound b) (place_bound c) ne) (r.rising s c hs));
  last = λ s c hs. by_eq (place_of_signal a b) (place_of_signal s c)
      (λ p. let q = same_place a (place_of b) s (place_of c) ha.0 hs.0 (place_bound b) (place_bound c) p in
      rw (same_test a (place_of b) s (place_of c) q.0 q.1)
      (subst (λ (x : ℕ). track_at new x c ≡ last_after (frequency_of_code c) (track_at old x c) e) q.0
      (subst (λ (y : Code). track_at new a y ≡ last_after (frequency_of_code y) (track_at old a y) e) (same_code b c q.1) same)
      ∙ ap (λ (o : Option Track). last_after (frequency_of_code c) o e) (r.last s c hs)))
      (λ ne. rw (other_test a (place_of b) s (place_of c) (place_bound b) (place_bound c) ne)
      (others s c (λ p. ne (sym p)) ∙ r.last s c hs));
}

-- one place that was written
pub places-set : (places : List (Option Track)) (k : ℕ) (t : Option Track) → HasPlaces places → k < 512 → IsBounded t → HasPlaces (set places k t)
places-set places k t h inside bounded = record {
  count = length-set places k t ∙ h.count;
  bounded = λ j. by_eq j k
      (λ same. rw (ap (λ (i : ℕ). get_or (set places k t) i None) same, get_or-set_same places k t None (let n = h.count in omega arith)) bounded)
      (λ other. rw (get_or-set_other places k j t None other) (h.bounded j));
}

-- ---- steps one after another

pub all_later_step : AllLaterAfterStep
all_later_step old new a b e x same others later h s c =
    by_eq (place_of_signal s c) (place_of_signal a b)
    (λ p. subst (λ (o : Option Track). IsLater o x) (sym (ap (λ (k : ℕ). get_or new k None) p ∙ same)) (later_after_step (frequency_of_code b) (track_at old a b) e x (later a b) h))
    (λ ne. subst (λ (o : Option Track). IsLater o x) (sym (others s c ne)) (later s c))
