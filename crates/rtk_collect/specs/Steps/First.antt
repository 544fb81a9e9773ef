-- The satellites of the first 1004 of an epoch.
use Rattle.std.specs.Prelude.{◌≡◌, ℕ, ◌<◌, List, [], ◌∷◌, ◌++◌, length, filter, slice_index_or}
use Rattle.rtk_message.specs.declared.obs1004.Satellite.{Satellite}
use Rattle.rtk_obs.specs.CellsLeft.{AreRisingSatellites}
use Rattle.rtk_obs.specs.declared.cell.CellSource.TheVariants.{Legacy}
use Rattle.rtk_collect.specs.EpochSet.{EpochSetView, AreKeptOf, is_from}
use Rattle.rtk_collect.specs.Entries.{Entries}
use Rattle.rtk_collect.specs.Steps.OrderedPlaces.{leading}

-- satellites that rise, and have cells that an epoch can keep
pub record AreFirst {E S : Type 0} (es : Entries E S) (InRange : E → Type 0) (legacy : List Satellite → List E) (satellites : List Satellite) : Type 0 where
  pub rise : AreRisingSatellites satellites
  pub present : 0 < length satellites
  pub kept : AreKeptOf es InRange Legacy (legacy satellites)
  pub some : 0 < length (legacy satellites)

-- the epoch has no cell that came in a 1004, if it is one of these epochs, which fall
abbrev pub HasNoLegacy : {E S : Type 0} → Entries E S → ℕ → List (EpochSetView E) → Type 0
HasNoLegacy {E} es e sets =
    (d : EpochSetView E) → leading e sets < length sets → (slice_index_or sets (leading e sets) d).epoch ≡ e → filter (is_from es Legacy) (slice_index_or sets (leading e sets) d).cells ≡ []

-- the cells of satellites, if there are any, and those of a list
abbrev pub spelled : {E : Type 0} → (List Satellite → List E) → List Satellite → List E → List E
spelled legacy [] cells = cells
spelled legacy (s ∷ ss) cells = legacy (s ∷ ss) ++ cells
