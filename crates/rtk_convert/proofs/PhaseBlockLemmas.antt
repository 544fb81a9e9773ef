-- The last phases of all systems in blocks of the codes of GPS.
use Rattle.std.proofs.Common.{◌≡◌, ◌≢◌, ◌∙◌, ◌+◌, ◌-◌, ◌*◌, ◌/◌, ◌%◌, ◌<◌, ℕ, zero, suc, List, [], length, set, get_or, get_or-set_other, get_or-set_same, Option, None, inl, inr, refl, sym, ap, subst, arith}
use Rattle.std.specs.Prelude.{All}
use Rattle.std.specs.List.{range_with_len}
use Rattle.std.proofs.lemmas.Bool.{cases_eq, cases_lt}
use Rattle.std.proofs.lemmas.List.{get_or_past, get_or_read, length-map}
use Rattle.std.proofs.lemmas.List.FromFn.{get_or-map-range_with_len, length-range_with_len}
use Rattle.rtk_obs.specs.declared.any_code.AnyCode.{AnyCode}
use Rattle.rtk_obs.specs.declared.code.Code.{Code}
use Rattle.rtk_obs.specs.declared.code.Code.TheVariants.{G1C, G1P, G1W, G1S, G1L, G1X, G2C, G2D, G2P, G2W, G2S, G2L, G2X, G5I, G5Q, G5X}
use Rattle.rtk_obs.specs.declared.track.Track.{Track}
use Rattle.rtk_obs.specs.AnyCode as any
use Rattle.rtk_obs.specs.AnyCode.{signal_place}
use Rattle.rtk_obs.specs.Code.{all_codes, place_of}
use Rattle.rtk_obs.specs.SatelliteIndex.{IsSatelliteIndex}
use Rattle.rtk_obs.specs.Tracks as tracks
use Rattle.rtk_obs.specs.Tracks.{place_of_signal}
use Rattle.rtk_obs.proofs.PublicLaws.{place_below}
use Rattle.rtk_convert.specs.LastPhases.{track_at}
use Rattle.rtk_convert.specs.Steps.PhaseBlocks.{HasNoPhases, phase_at, phases_of}

-- ---- places

-- the phase at a place, if it is one of the 3,584
pub at-place : (blocks : List (List (Option Track))) (k : ℕ) → k < 3584 → get_or (phases_of blocks) k None ≡ phase_at blocks k
at-place blocks k lt = get_or-map-range_with_len (phase_at blocks) 0 3584 k k None lt (omega arith)

size : (blocks : List (List (Option Track))) → length (phases_of blocks) ≡ 3584
size blocks = length-map (range_with_len 0 3584) (phase_at blocks) ∙ length-range_with_len 0 3584

-- two lists of blocks with the same phases at a place
pub same-place : (blocks others : List (List (Option Track))) (k : ℕ) → phase_at blocks k ≡ phase_at others k → get_or (phases_of blocks) k None ≡ get_or (phases_of others) k None
same-place blocks others k h = elim (cases_lt k 3584) [
  | inl lt ↦ at-place blocks k lt ∙ h ∙ sym (at-place others k lt)
  | inr ge ↦
      get_or_past (phases_of blocks) k None (omega (arith, ge, size blocks)) ∙ sym (get_or_past (phases_of others) k None (omega (arith, ge, size others)))
]

-- ---- codes of GPS for places

-- each place below 16 is that of a code
place-at : (k : ℕ) → k < 16 → place_of (get_or all_codes k G1C) ≡ k
place-at zero lt = refl
place-at (suc zero) lt = refl
place-at (suc (suc zero)) lt = refl
place-at (suc (suc (suc zero))) lt = refl
place-at (suc (suc (suc (suc zero)))) lt = refl
place-at (suc (suc (suc (suc (suc zero))))) lt = refl
place-at (suc (suc (suc (suc (suc (suc zero)))))) lt = refl
place-at (suc (suc (suc (suc (suc (suc (suc zero))))))) lt = refl
place-at (suc (suc (suc (suc (suc (suc (suc (suc zero)))))))) lt = refl
place-at (suc (suc (suc (suc (suc (suc (suc (suc (suc zero))))))))) lt = refl
place-at (suc (suc (suc (suc (suc (suc (suc (suc (suc (suc zero)))))))))) lt = refl
place-at (suc (suc (suc (suc (suc (suc (suc (suc (suc (suc (suc zero))))))))))) lt = refl
place-at (suc (suc (suc (suc (suc (suc (suc (suc (suc (suc (suc (suc zero)))))))))))) lt = refl
place-at (suc (suc (suc (suc (suc (suc (suc (suc (suc (suc (suc (suc (suc zero))))))))))))) lt = refl
place-at (suc (suc (suc (suc (suc (suc (suc (suc (suc (suc (suc (suc (suc (suc zero)))))))))))))) lt = refl
place-at (suc (suc (suc (suc (suc (suc (suc (suc (suc (suc (suc (suc (suc (suc (suc zero))))))))))))))) lt = refl
place-at (suc (suc (suc (suc (suc (suc (suc (suc (suc (suc (suc (suc (suc (suc (suc (suc k)))))))))))))))) lt = absurd (omega arith)

-- each place of a block is that of a satellite and a code
pub place-of : (k : ℕ) → place_of_signal (k / 16 + 1) (get_or all_codes (k % 16) G1C) ≡ k
place-of k = let low : k % 16 < 16 = omega arith in let at = place-at (k % 16) low in omega (arith, at)

-- a block in which no satellite and code has a phase
pub no-phases : (block : List (Option Track)) → ((satellite : ℕ) (code : Code) → tracks.track_at block satellite code ≡ None) → HasNoPhases block
no-phases block h k = subst (λ (n : ℕ). get_or block n None ≡ None) (place-of k) (h (k / 16 + 1) (get_or all_codes (k % 16) G1C))

none-in : (blocks : List (List (Option Track))) (n : ℕ) → All HasNoPhases blocks → HasNoPhases (get_or blocks n [])
none-in blocks n h = elim (cases_lt n (length blocks)) [
  | inl lt ↦ h n [] lt
  | inr ge ↦ λ k. subst (λ (block : List (Option Track)). get_or block k None ≡ None) (sym (get_or_past blocks n [] ge)) refl
]

-- blocks without a phase have none at any place
pub no-phase-at : (blocks : List (List (Option Track))) → All HasNoPhases blocks → (satellite : ℕ) (code : AnyCode) → track_at (phases_of blocks) satellite code ≡ None
no-phase-at blocks h satellite code =
    let k = signal_place satellite code in
    elim (cases_lt k 3584) [
      | inl lt ↦ at-place blocks k lt ∙ none-in blocks (k / 512) h (k % 512)
      | inr ge ↦ get_or_past (phases_of blocks) k None (omega (arith, ge, size blocks))
    ]

-- ---- a step

-- where the phase of a satellite and code stands
pub record StandsAt (place satellite : ℕ) (code : AnyCode) (block slot : ℕ) : Type 0 where
  pub inside : place < 3584
  pub block_is : place / 512 ≡ block
  pub slot_is : place % 512 ≡ slot

pub stands-at : (satellite : ℕ) (code : AnyCode) (c : Code) → IsSatelliteIndex satellite → place_of c ≡ any.place_of code
    → StandsAt (signal_place satellite code) satellite code ((satellite - 1) / 32) (place_of_signal ((satellite - 1) % 32 + 1) c)
stands-at satellite code c is same =
    let low = place_below code in
    record {
      inside = omega (arith, low, is.0, is.1);
      block_is = omega (arith, low, is.0);
      slot_is = omega (arith, low, is.0, same);
    }

module _ (blocks : List (List (Option Track))) (block : List (Option Track)) (satellite : ℕ) (code : AnyCode) (c : Code) (is : IsSatelliteIndex satellite) (same : place_of c ≡ any.place_of code) where
  -- the phase in its block
  pub in-block : track_at (phases_of blocks) satellite code ≡ tracks.track_at (get_or blocks ((satellite - 1) / 32) []) ((satellite - 1) % 32 + 1) c
  in-block =
      let k = signal_place satellite code in
      let at = stands-at satellite code c is same in
      at-place blocks k at.inside
      ∙ ap (λ (n : ℕ). get_or (get_or blocks n []) (k % 512) None) at.block_is
      ∙ ap (λ (n : ℕ). get_or (get_or blocks ((satellite - 1) / 32) []) n None) at.slot_is

  -- and after its block is another one
  pub in-next : (satellite - 1) / 32 < length blocks
      → track_at (phases_of (set blocks ((satellite - 1) / 32) block)) satellite code ≡ tracks.track_at block ((satellite - 1) % 32 + 1) c
  in-next within =
      let k = signal_place satellite code in
      let i = (satellite - 1) / 32 in
      let at = stands-at satellite code c is same in
      at-place (set blocks i block) k at.inside
      ∙ ap (λ (n : ℕ). get_or (get_or (set blocks i block) n []) (k % 512) None) at.block_is
      ∙ ap (λ (b : List (Option Track)). get_or b (k % 512) None) (get_or-set_same blocks i block [] within)
      ∙ ap (λ (n : ℕ). get_or block n None) at.slot_is

  -- the phases at other places stay
  pub in-others : (satellite - 1) / 32 < length blocks
      → ((s : ℕ) (d : Code) → place_of_signal s d ≢ place_of_signal ((satellite - 1) % 32 + 1) c → tracks.track_at block s d ≡ tracks.track_at (get_or blocks ((satellite - 1) / 32) []) s d)
      → (s : ℕ) (d : AnyCode) → signal_place s d ≢ signal_place satellite code
      → track_at (phases_of (set blocks ((satellite - 1) / 32) block)) s d ≡ track_at (phases_of blocks) s d
  in-others within others s d ne =
      let k = signal_place s d in
      let i = (satellite - 1) / 32 in
      let at = stands-at satellite code c is same in
      same-place (set blocks i block) blocks k
      (elim (cases_eq (k / 512) i) [
        | inr other ↦ ap (λ (b : List (Option Track)). get_or b (k % 512) None) (get_or-set_other blocks i (k / 512) block [] other)
        | inl here ↦
            let slot : k % 512 ≢ place_of_signal ((satellite - 1) % 32 + 1) c = λ q. ne (omega (arith, q, here, at.block_is, at.slot_is)) in
            let place = place-of (k % 512) in
            let stays = others (k % 512 / 16 + 1) (get_or all_codes (k % 512 % 16) G1C) (λ q. slot (sym place ∙ q)) in
            ap (λ (n : ℕ). get_or (get_or (set blocks i block) n []) (k % 512) None) here
            ∙ ap (λ (b : List (Option Track)). get_or b (k % 512) None) (get_or-set_same blocks i block [] within)
            ∙ subst (λ (n : ℕ). get_or block n None ≡ get_or (get_or blocks i []) n None) place stays
            ∙ ap (λ (n : ℕ). get_or (get_or blocks n []) (k % 512) None) (sym here)
      ])

-- a step is taken in a block, which is read at an index: the index of the satellite, of the block and of the code
-- are those that the code of the step comes to
pub record IsStepIn (blocks : List (List (Option Track))) (satellite : ℕ) (code : AnyCode) (index at : ℕ) (c : Code) (block : List (Option Track)) : Type 0 where
  pub size : length blocks ≡ 7
  pub is : IsSatelliteIndex satellite
  pub index_is : index ≡ satellite
  pub at_is : at ≡ (index - 1) / 32
  pub code_is : place_of c ≡ any.place_of code
  pub read : block ≡ get_or blocks at block

module _ (blocks : List (List (Option Track))) (satellite : ℕ) (code : AnyCode) (index at : ℕ) (c : Code) (block new : List (Option Track)) (h : IsStepIn blocks satellite code index at c block) where
  at-block : at ≡ (satellite - 1) / 32
  at-block = h.at_is ∙ ap (λ (n : ℕ). (n - 1) / 32) h.index_is

  within-blocks : (satellite - 1) / 32 < length blocks
  within-blocks = let size = h.size in let is = h.is in omega (arith, size, is.0, is.1)

  block-read : block ≡ get_or blocks ((satellite - 1) / 32) []
  block-read =
      let low : at < length blocks = subst (λ (n : ℕ). n < length blocks) (sym at-block) within-blocks in
      get_or_read blocks at block low h.read [] ∙ ap (λ (n : ℕ). get_or blocks n []) at-block

  -- the phase before the step
  pub step-before : track_at (phases_of blocks) satellite code ≡ tracks.track_at block ((index - 1) % 32 + 1) c
  step-before =
      in-block blocks new satellite code c h.is h.code_is
      ∙ ap (λ (b : List (Option Track)). tracks.track_at b ((satellite - 1) % 32 + 1) c) (sym block-read)
      ∙ ap (λ (n : ℕ). tracks.track_at block ((n - 1) % 32 + 1) c) (sym h.index_is)

  -- and after it
  pub step-after : track_at (phases_of (set blocks at new)) satellite code ≡ tracks.track_at new ((index - 1) % 32 + 1) c
  step-after =
      ap (λ (n : ℕ). track_at (phases_of (set blocks n new)) satellite code) at-block
      ∙ in-next blocks new satellite code c h.is h.code_is within-blocks
      ∙ ap (λ (n : ℕ). tracks.track_at new ((n - 1) % 32 + 1) c) (sym h.index_is)

  -- the phases at other places stay
  pub step-others : ((s : ℕ) (d : Code) → place_of_signal s d ≢ place_of_signal ((index - 1) % 32 + 1) c → tracks.track_at new s d ≡ tracks.track_at block s d)
      → (s : ℕ) (d : AnyCode) → signal_place s d ≢ signal_place satellite code
      → track_at (phases_of (set blocks at new)) s d ≡ track_at (phases_of blocks) s d
  step-others others s d ne =
      ap (λ (n : ℕ). track_at (phases_of (set blocks n new)) s d) at-block
      ∙ in-others blocks new satellite code c h.is h.code_is within-blocks
      (λ n k other.
      others n k (subst (λ (i : ℕ). place_of_signal n k ≢ place_of_signal ((i - 1) % 32 + 1) c) (sym h.index_is) other)
      ∙ ap (λ (b : List (Option Track)). tracks.track_at b n k) block-read)
      s d ne

-- ---- one block

-- the place of a code of GPS among those of its system is the same
place-of-gps : (c : Code) → any.place_of (any.code_of_gps c) ≡ place_of c
place-of-gps G1C = refl
place-of-gps G1P = refl
place-of-gps G1W = refl
place-of-gps G1S = refl
place-of-gps G1L = refl
place-of-gps G1X = refl
place-of-gps G2C = refl
place-of-gps G2D = refl
place-of-gps G2P = refl
place-of-gps G2W = refl
place-of-gps G2S = refl
place-of-gps G2L = refl
place-of-gps G2X = refl
place-of-gps G5I = refl
place-of-gps G5Q = refl
place-of-gps G5X = refl

-- a step at a satellite and code of GPS leaves the phases at other places
pub gps-others : (old new : List (Option Track)) (satellite : ℕ) (code : Code)
    → ((s : ℕ) (d : Code) → place_of_signal s d ≢ place_of_signal satellite code → tracks.track_at new s d ≡ tracks.track_at old s d)
    → (s : ℕ) (d : AnyCode) → signal_place s d ≢ signal_place satellite (any.code_of_gps code) → track_at new s d ≡ track_at old s d
gps-others old new satellite code others s d ne =
    let k = signal_place s d in
    let own : signal_place satellite (any.code_of_gps code) ≡ place_of_signal satellite code = ap (λ (p : ℕ). (satellite - 1) * 16 + p) (place-of-gps code) in
    let at = place-of k in
    subst (λ (n : ℕ). get_or new n None ≡ get_or old n None) at
    (others (k / 16 + 1) (get_or all_codes (k % 16) G1C) (λ q. ne (sym at ∙ q ∙ sym own)))
