-- Keys are equal exactly if their parts are, and bodies exactly if all fields are.
use Rattle.std.proofs.Common.{◌≡◌, ℕ, ℤ, ◌+◌, ◌*◌, ◌<◌, Bool, Option, None, Some, refl, ap, sym, ◌∙◌, arith}
use Rattle.std.specs.Prelude.{◌==◌, if◌then◌else◌}
use Rattle.std.specs.Bool.{Decides}
use Rattle.std.specs.Option.{option_eq, unwrap_or}
use Rattle.std.specs.Ordering.{int_eq}
use Rattle.std.specs.Cmp.{booleans_Decides}
use Rattle.std.proofs.lemmas.Bool.Decides.{Decides-eqb, Decides-int_eq, Decides-and, Decides-like}
use Rattle.rtk_message.specs.declared.arp1005.Arp1005.{Arp1005}
use Rattle.rtk_message.specs.declared.arp1006.Arp1006.{Arp1006}
use denote.Enum.Bare.{sameb}
use Rattle.rtk_obs.specs.contracts.cell.CellSource.{the_type}
use Rattle.rtk_obs.specs.Code.{place_of}
use Rattle.rtk_obs.specs.declared.code.Code.{Code}
use Rattle.rtk_obs.specs.declared.code.Code.TheVariants.{G1C, G1P, G1W, G1S, G1L, G1X, G2C, G2D, G2P, G2W, G2S, G2L, G2X, G5I, G5Q, G5X}
use Rattle.rtk_obs.specs.declared.cell.CellSource.{CellSource}
use Rattle.rtk_obs.specs.declared.cell.CellSource.TheVariants.{Legacy, Msm}
use Rattle.rtk_obs.specs.declared.cell.Cell.{Cell}
use Rattle.rtk_obs.proofs.PublicLaws.{code_same, any_code_same}
use Rattle.rtk_collect.specs.declared.conflicts.SatelliteCode.{SatelliteCode}
use Rattle.rtk_collect.specs.declared.conflicts.AnySatelliteCode.{AnySatelliteCode}
use Rattle.rtk_collect.specs.contracts.conflicts.SatelliteCodePartialEq.TheImpl as satellite_code_eq
use Rattle.rtk_collect.specs.contracts.conflicts.AnySatelliteCodePartialEq.TheImpl as any_satellite_code_eq
use Rattle.rtk_collect.specs.Key.{key, key_at, rank_of}
use Rattle.rtk_collect.specs.Entries.{Entries}
use Rattle.rtk_obs.specs.Slip.{is_same_source}
use Rattle.rtk_collect.specs.Equal.{equal_cells, equal_1005, equal_1006}
use Rattle.rtk_collect.specs.Laws.{KeysAreDistinct, EqualityDecides}

-- the code in a place
abbrev code_at : ℕ → Code
code_at n =
    if n == 0 then G1C else if n == 1 then G1P else if n == 2 then G1W else if n == 3 then G1S else if n == 4 then G1L else if n == 5 then G1X else
    if n == 6 then G2C else if n == 7 then G2D else if n == 8 then G2P else if n == 9 then G2W else if n == 10 then G2S else if n == 11 then G2L else
    if n == 12 then G2X else if n == 13 then G5I else if n == 14 then G5Q else G5X

code_at-place : (c : Code) → code_at (place_of c) ≡ c
code_at-place G1C = refl
code_at-place G1P = refl
code_at-place G1W = refl
code_at-place G1S = refl
code_at-place G1L = refl
code_at-place G1X = refl
code_at-place G2C = refl
code_at-place G2D = refl
code_at-place G2P = refl
code_at-place G2W = refl
code_at-place G2S = refl
code_at-place G2L = refl
code_at-place G2X = refl
code_at-place G5I = refl
code_at-place G5Q = refl
code_at-place G5X = refl

pub place-less : (c : Code) → place_of c < 16
place-less G1C = omega arith
place-less G1P = omega arith
place-less G1W = omega arith
place-less G1S = omega arith
place-less G1L = omega arith
place-less G1X = omega arith
place-less G2C = omega arith
place-less G2D = omega arith
place-less G2P = omega arith
place-less G2W = omega arith
place-less G2S = omega arith
place-less G2L = omega arith
place-less G2X = omega arith
place-less G5I = omega arith
place-less G5Q = omega arith
place-less G5X = omega arith

pub rank-less : (s : CellSource) → rank_of s < 2
rank-less Legacy = omega arith
rank-less Msm = omega arith

pub rank-one : (s t : CellSource) → rank_of s ≡ rank_of t → s ≡ t
rank-one Legacy Legacy h = refl
rank-one Legacy Msm h = cc
rank-one Msm Legacy h = cc
rank-one Msm Msm h = refl

place-one : (c d : Code) → place_of c ≡ place_of d → c ≡ d
place-one c d h = sym (code_at-place c) ∙ ap code_at h ∙ code_at-place d

pub parts-one : (s s' p p' r r' : ℕ) → p < 16 → p' < 16 → r < 2 → r' < 2 → (s * 16 + p) * 2 + r ≡ (s' * 16 + p') * 2 + r' → (s ≡ s') × (p ≡ p') × (r ≡ r')
parts-one s s' p p' r r' a b c d h = (omega arith, omega arith, omega arith)

pub number-one : (p q r s : ℕ) → r < 2 → s < 2 → p * 2 + r ≡ q * 2 + s → (p ≡ q) × (r ≡ s)
number-one p q r s a b h = (omega arith, omega arith)

-- equal keys have one number of satellite and code, and one kind of message
pub key-one : {E S : Type 0} (es : Entries E S) (c d : E) → key es c ≡ key es d → (es.place c ≡ es.place d) × ((es.cell c).source ≡ (es.cell d).source)
unfolding key key_at
key-one es c d h =
    let p = number-one (es.place c) (es.place d) (rank_of (es.cell c).source) (rank_of (es.cell d).source) (rank-less (es.cell c).source) (rank-less (es.cell d).source) h in
    (p.0, rank-one (es.cell c).source (es.cell d).source p.1)

pub keys-are-distinct : KeysAreDistinct
unfolding key key_at
keys-are-distinct c d = (
  λ h. let p = parts-one c.satellite d.satellite (place_of c.code) (place_of d.code) (rank_of c.cell.source) (rank_of d.cell.source) (place-less c.code) (place-less d.code) (rank-less c.cell.source) (rank-less d.cell.source) h in
      (p.0, place-one c.code d.code p.1, rank-one c.cell.source d.cell.source p.2),
  λ h. ap (λ s. (s * 16 + place_of c.code) * 2 + rank_of c.cell.source) h.0 ∙ ap (λ k. (d.satellite * 16 + place_of k) * 2 + rank_of c.cell.source) h.1 ∙ ap (λ t. (d.satellite * 16 + place_of d.code) * 2 + rank_of t) h.2,
)

-- bodies

options-decide : {T : Type 0} (E : T → T → Bool) → ((a b : T) → Decides (E a b) (a ≡ b)) → (a b : Option T) → Decides (option_eq E a b) (a ≡ b)
options-decide E d None None = (λ _. refl, λ _. refl)
options-decide E d None (Some y) = (λ h. cc, λ h. cc)
options-decide E d (Some x) None = (λ h. cc, λ h. cc)
options-decide E d (Some x) (Some y) = (λ h. ap Some ((d x y).0 h), λ h. (d x y).1 (ap (λ o. unwrap_or o x) h))

pub sources-decide : (a b : CellSource) → Decides (is_same_source a b) (a ≡ b)
sources-decide Legacy Legacy = (λ _. refl, λ _. refl)
sources-decide Legacy Msm = (λ h. cc, λ h. cc)
sources-decide Msm Legacy = (λ h. cc, λ h. cc)
sources-decide Msm Msm = (λ _. refl, λ _. refl)

abbrev ints : (a b : Option ℤ) → Decides (option_eq int_eq a b) (a ≡ b)
ints a b = options-decide int_eq Decides-int_eq a b

abbrev numbers : (a b : Option ℕ) → Decides (option_eq ◌==◌ a b) (a ≡ b)
numbers a b = options-decide ◌==◌ Decides-eqb a b

pub cells-decide : (a b : Cell) → Decides (equal_cells a b) (a ≡ b)
cells-decide a b = Decides-like (equal_cells a b)
    (λ h i. record { range_mm = h.0 i; phase_millicycles = h.1.0 i; strength_millidbhz = h.1.1.0 i; lock_time_ms = h.1.1.1.0 i; half = h.1.1.1.1.0 i; source = h.1.1.1.1.1.0 i; offset = h.1.1.1.1.1.1 i })
    (λ e. (
      ap (λ (c : Cell). c.range_mm) e,
      (
        ap (λ (c : Cell). c.phase_millicycles) e,
        (
          ap (λ (c : Cell). c.strength_millidbhz) e,
          (
            ap (λ (c : Cell). c.lock_time_ms) e,
            (ap (λ (c : Cell). c.half) e, (ap (λ (c : Cell). c.source) e, ap (λ (c : Cell). c.offset) e)),
          ),
        ),
      ),
    ))
    (Decides-and _ _ (ints a.range_mm b.range_mm) (Decides-and _ _ (ints a.phase_millicycles b.phase_millicycles) (Decides-and _ _ (numbers a.strength_millidbhz b.strength_millidbhz)
    (Decides-and _ _ (Decides-eqb a.lock_time_ms b.lock_time_ms) (Decides-and _ _ (booleans_Decides a.half b.half) (Decides-and _ _ (sources-decide a.source b.source) (ints a.offset b.offset)))))))

pub decides-1005 : (a b : Arp1005) → Decides (equal_1005 a b) (a ≡ b)
decides-1005 a b = Decides-like (equal_1005 a b)
    (λ h i. record {
      station = h.0 i;
      realization_year = h.1.0 i;
      gps = h.1.1.0 i;
      glonass = h.1.1.1.0 i;
      galileo = h.1.1.1.1.0 i;
      reference_station = h.1.1.1.1.1.0 i;
      x = h.1.1.1.1.1.1.0 i;
      single_oscillator = h.1.1.1.1.1.1.1.0 i;
      reserved = h.1.1.1.1.1.1.1.1.0 i;
      y = h.1.1.1.1.1.1.1.1.1.0 i;
      quarter_cycle = h.1.1.1.1.1.1.1.1.1.1.0 i;
      z = h.1.1.1.1.1.1.1.1.1.1.1 i;
    })
    (λ e. (
      ap (λ (c : Arp1005). c.station) e,
      (
        ap (λ (c : Arp1005). c.realization_year) e,
        (
          ap (λ (c : Arp1005). c.gps) e,
          (
            ap (λ (c : Arp1005). c.glonass) e,
            (
              ap (λ (c : Arp1005). c.galileo) e,
              (
                ap (λ (c : Arp1005). c.reference_station) e,
                (
                  ap (λ (c : Arp1005). c.x) e,
                  (
                    ap (λ (c : Arp1005). c.single_oscillator) e,
                    (
                      ap (λ (c : Arp1005). c.reserved) e,
                      (
                        ap (λ (c : Arp1005). c.y) e,
                        (ap (λ (c : Arp1005). c.quarter_cycle) e, ap (λ (c : Arp1005). c.z) e),
                      ),
                    ),
                  ),
                ),
              ),
            ),
          ),
        ),
      ),
    ))
    (Decides-and _ _ (Decides-eqb a.station b.station) (Decides-and _ _ (Decides-eqb a.realization_year b.realization_year) (Decides-and _ _ (booleans_Decides a.gps b.gps)
    (Decides-and _ _ (booleans_Decides a.glonass b.glonass) (Decides-and _ _ (booleans_Decides a.galileo b.galileo) (Decides-and _ _ (booleans_Decides a.reference_station b.reference_station)
    (Decides-and _ _ (Decides-int_eq a.x b.x) (Decides-and _ _ (booleans_Decides a.single_oscillator b.single_oscillator) (Decides-and _ _ (booleans_Decides a.reserved b.reserved)
    (Decides-and _ _ (Decides-int_eq a.y b.y) (Decides-and _ _ (Decides-eqb a.quarter_cycle b.quarter_cycle) (Decides-int_eq a.z b.z))))))))))))

pub decides-1006 : (a b : Arp1006) → Decides (equal_1006 a b) (a ≡ b)
decides-1006 a b = Decides-like (equal_1006 a b)
    (λ h i. record { arp = h.0 i; height = h.1 i })
    (λ e. (ap (λ (c : Arp1006). c.arp) e, ap (λ (c : Arp1006). c.height) e))
    (Decides-and _ _ (decides-1005 a.arp b.arp) (Decides-eqb a.height b.height))

pub equality-decides : EqualityDecides
equality-decides = (cells-decide, decides-1005, decides-1006)

-- the derived test of two kinds of message
pub sources-same : (a b : CellSource) → sameb the_type a b ≡ is_same_source a b
sources-same Legacy Legacy = refl
sources-same Legacy Msm = refl
sources-same Msm Legacy = refl
sources-same Msm Msm = refl

-- the derived test of two satellites with their codes
pub satellite_code-same : (a b : SatelliteCode) → Decides ((satellite_code_eq.ghosts).eq a b) (a ≡ b)
satellite_code-same a b = Decides-like ((satellite_code_eq.ghosts).eq a b)
    (λ h i. record { satellite = h.0 i; code = h.1 i })
    (λ e. (ap (λ (x : SatelliteCode). x.satellite) e, ap (λ (x : SatelliteCode). x.code) e))
    (Decides-and _ _ (Decides-eqb a.satellite b.satellite) (code_same a.code b.code))

pub any_satellite_code-same : (a b : AnySatelliteCode) → Decides ((any_satellite_code_eq.ghosts).eq a b) (a ≡ b)
any_satellite_code-same a b = Decides-like ((any_satellite_code_eq.ghosts).eq a b)
    (λ h i. record { satellite = h.0 i; code = h.1 i })
    (λ e. (ap (λ (x : AnySatelliteCode). x.satellite) e, ap (λ (x : AnySatelliteCode). x.code) e))
    (Decides-and _ _ (Decides-eqb a.satellite b.satellite) (any_code_same a.code b.code))
