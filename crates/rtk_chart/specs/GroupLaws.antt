-- Laws of the groups in which the satellites of any systems are drawn.
use Rattle.std.specs.Prelude.{◌≡◌, ◌⊎◌, ℕ, ◌+◌, ◌-◌, true, false}
use Rattle.rtk_obs.specs.SatelliteIndex.{IsSatelliteIndex, system_at, index_name}
use Rattle.rtk_chart.specs.Groups.{first_group, second_group, is_in_group}
use Rattle.rtk_chart.specs.TextPicture.{satellite_label}
use Rattle.rtk_chart.specs.declared.groups.Group.{Group}

-- the satellite of this index is in one group and not in another one, and at its place there it has its name in RINEX
pub record IsLabelled (i : ℕ) (g other : Group) : Type 0 where
  pub inside : is_in_group g i ≡ true
  pub alone : is_in_group other i ≡ false
  pub label : satellite_label g.names.letter (g.names.before + (i - g.before)) ≡ index_name i

-- each satellite of any system is in one of the two groups of its system
abbrev pub SatellitesAreLabelled : Type 0
SatellitesAreLabelled =
    (i : ℕ) → IsSatelliteIndex i
    → IsLabelled i (first_group (system_at i)) (second_group (system_at i)) ⊎ IsLabelled i (second_group (system_at i)) (first_group (system_at i))
