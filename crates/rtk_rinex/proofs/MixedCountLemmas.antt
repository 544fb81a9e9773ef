-- An epoch has at most as many satellites as the systems with codes.
use Rattle.std.proofs.Common.{◌≡◌, ℕ, ◌+◌, ◌-◌, ◌<◌, ◌≤◌, ◌==◌, Bool, true, false, if◌then◌else◌, List, [], ◌∷◌, length, refl, subst, arith, inl, inr, ◌⊎◌, ⊎_elim}
use Rattle.std.specs.Prelude.{All, AllPairs, min}
use Rattle.std.specs.Int.{IsInRange}
use Rattle.std.proofs.lemmas.Bool.Decides.{leb_tells, nat_tests}
use Rattle.std.proofs.lemmas.List.Elements.{All-head, All-tail}
use Rattle.rtk_message.specs.declared.system.System.{System}
use Rattle.rtk_message.specs.declared.system.System.TheVariants.{Gps, Glonass, Galileo, Beidou, Qzss, Sbas, Navic}
use Rattle.rtk_obs.specs.SatelliteIndex.{IsSatelliteIndex}
use Rattle.rtk_rinex.specs.declared.epoch_table.SatelliteRow.{SatelliteRow}
use Rattle.rtk_rinex.specs.MixedForm.{FormView, codes_in, width_at, most_satellites}
use Rattle.rtk_rinex.specs.MixedTable.{IsMixedRow}
use Rattle.rtk_rinex.proofs.MixedRowLemmas.{mixed-wide}
use Rattle.rtk_rinex.proofs.OneLemmas.{Below, pairs-head, pairs-tail}
use Rattle.rtk_rinex.proofs.SatelliteRangeLemmas.{at-gps, at-glonass, at-galileo, at-beidou, at-qzss, at-sbas, at-navic}

-- how many satellites of a system with w codes are not after the satellite i, if k stand before the system
-- and n are of it
unfoldable part : ℕ → ℕ → ℕ → ℕ → ℕ
part w k n i = if w == 0 then 0 else min (i - k) n

few_if : (c : Bool) (k n i : ℕ) → (if c then 0 else min (i - k) n) ≤ (if c then 0 else n)
few_if true k n i = omega arith
few_if false k n i = omega arith

part-few : (w k n i : ℕ) → part w k n i ≤ (if w == 0 then 0 else n)
unfolding part
part-few w k n i = few_if (w == 0) k n i

grow_if : (c : Bool) (k n i j : ℕ) → i ≤ j → (if c then 0 else min (i - k) n) ≤ (if c then 0 else min (j - k) n)
grow_if true k n i j h = omega arith
grow_if false k n i j h = omega (arith, h)

part-grow : (w k n i j : ℕ) → i ≤ j → part w k n i ≤ part w k n j
unfolding part
part-grow w k n i j h = grow_if (w == 0) k n i j h

part-more : (w k n i j : ℕ) → 0 < w → i < j → k < j → j ≤ k + n → part w k n i < part w k n j
unfolding part
part-more w k n i j some less low high =
    let no : (w == 0) ≡ false = grind (arith, nat_tests) in
    rw no (omega (arith, less, low, high))

-- how many satellites of the systems with codes are not after a satellite
unfoldable rank : FormView → ℕ → ℕ
rank f i =
    part f.gps 0 32 i + part f.glonass 32 27 i + part f.galileo 59 36 i + part f.beidou 95 63 i + part f.qzss 158 10 i + part f.sbas 168 39 i + part f.navic 207 14 i

rank-grow : (f : FormView) (i j : ℕ) → i ≤ j → rank f i ≤ rank f j
unfolding rank
rank-grow f i j h =
    omega (
      arith,
      part-grow f.gps 0 32 i j h,
      part-grow f.glonass 32 27 i j h,
      part-grow f.galileo 59 36 i j h,
      part-grow f.beidou 95 63 i j h,
      part-grow f.qzss 158 10 i j h,
      part-grow f.sbas 168 39 i j h,
      part-grow f.navic 207 14 i j h,
    )

rank-few : (f : FormView) (i : ℕ) → rank f i ≤ most_satellites f
unfolding rank
rank-few f i =
    omega (
      arith,
      part-few f.gps 0 32 i,
      part-few f.glonass 32 27 i,
      part-few f.galileo 59 36 i,
      part-few f.beidou 95 63 i,
      part-few f.qzss 158 10 i,
      part-few f.sbas 168 39 i,
      part-few f.navic 207 14 i,
    )

-- the codes of the system of a satellite
own : (f : FormView) (s t : System) → s ≡ t → 0 < codes_in f s → 0 < codes_in f t
own f s t e h = subst (λ (u : System). 0 < codes_in f u) e h

-- one more satellite with codes
rank-more : (f : FormView) (i j : ℕ) → i < j → IsSatelliteIndex j → 0 < width_at f j → rank f i < rank f j
unfolding rank
rank-more f i j less h some =
    let le : i ≤ j = omega (arith, less) in
    let g = part-grow f.gps 0 32 i j le in
    let r = part-grow f.glonass 32 27 i j le in
    let e = part-grow f.galileo 59 36 i j le in
    let c = part-grow f.beidou 95 63 i j le in
    let q = part-grow f.qzss 158 10 i j le in
    let s = part-grow f.sbas 168 39 i j le in
    let n = part-grow f.navic 207 14 i j le in
    elim (leb_tells j 32) [
      | inl a ↦ omega (arith, part-more f.gps 0 32 i j (own f _ Gps (at-gps j a.1) some) less (omega (arith, less)) (omega (arith, a.1)), r, e, c, q, s, n)
      | inr a ↦ elim (leb_tells j 59) [
        | inl b ↦ omega (arith, part-more f.glonass 32 27 i j (own f _ Glonass (at-glonass j a.1 b.1) some) less a.1 (omega (arith, b.1)), g, e, c, q, s, n)
        | inr b ↦ elim (leb_tells j 95) [
          | inl d ↦ omega (arith, part-more f.galileo 59 36 i j (own f _ Galileo (at-galileo j b.1 d.1) some) less b.1 (omega (arith, d.1)), g, r, c, q, s, n)
          | inr d ↦ elim (leb_tells j 158) [
            | inl k ↦ omega (arith, part-more f.beidou 95 63 i j (own f _ Beidou (at-beidou j d.1 k.1) some) less d.1 (omega (arith, k.1)), g, r, e, q, s, n)
            | inr k ↦ elim (leb_tells j 168) [
              | inl l ↦ omega (arith, part-more f.qzss 158 10 i j (own f _ Qzss (at-qzss j k.1 l.1) some) less k.1 (omega (arith, l.1)), g, r, e, c, s, n)
              | inr l ↦ elim (leb_tells j 207) [
                | inl m ↦ omega (arith, part-more f.sbas 168 39 i j (own f _ Sbas (at-sbas j l.1 m.1) some) less l.1 (omega (arith, m.1)), g, r, e, c, q, n)
                | inr m ↦ omega (arith, part-more f.navic 207 14 i j (own f _ Navic (at-navic j m.1) some) less m.1 (omega (arith, h.1)), g, r, e, c, q, s)
              ]
            ]
          ]
        ]
      ]
    ]

few-above : (f : FormView) (b : ℕ) (rows : List SatelliteRow) → All (IsMixedRow f) rows → AllPairs Below rows → All (λ (r : SatelliteRow). b < r.satellite) rows
    → length rows + rank f b ≤ rank f 221 ⊎ (length rows ≡ 0)
few-above f b [] h p l = inr refl
few-above f b (r ∷ rows) h p l =
    let is = All-head (IsMixedRow f) r rows h in
    let low : b < r.satellite = All-head (λ (r : SatelliteRow). b < r.satellite) r rows l in
    let more = rank-more f b r.satellite low is.satellite (mixed-wide f r is) in
    let end = rank-grow f r.satellite 221 is.satellite.1 in
    ⊎_elim
    (λ rest. inl (omega (arith, rest, more)))
    (λ none. inl (omega (arith, end, none, more)))
    (few-above f r.satellite rows (All-tail (IsMixedRow f) r rows h) (pairs-tail Below r rows p) (pairs-head Below r rows p))

-- there are at most as many rows as satellites of the systems with codes
pub few-mixed : (f : FormView) (rows : List SatelliteRow) → All (IsMixedRow f) rows → AllPairs Below rows → length rows ≤ most_satellites f
few-mixed f rows h p =
    ⊎_elim (λ more. omega (arith, more, rank-few f 221)) (λ none. omega (arith, none))
    (few-above f 0 rows h p (λ k d lt. omega (arith, (h k d lt).satellite)))

-- that number has three digits
with_if : (c : Bool) (n : ℕ) → (if c then 0 else n) ≤ n
with_if true n = omega arith
with_if false n = omega arith

pub count-few : (f : FormView) (n : ℕ) → IsInRange 1 (most_satellites f) n → n < 1000
count-few f n h =
    omega (
      arith,
      h,
      with_if (f.gps == 0) 32,
      with_if (f.glonass == 0) 27,
      with_if (f.galileo == 0) 36,
      with_if (f.beidou == 0) 63,
      with_if (f.qzss == 0) 10,
      with_if (f.sbas == 0) 39,
      with_if (f.navic == 0) 14,
    )
