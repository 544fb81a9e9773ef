-- How the strengths of a record are added to those of a column.
use Rattle.std.specs.Prelude.{ℕ, ◌+◌, List, [], ◌∷◌, Option, None, Some}
use Rattle.rtk_obs.specs.declared.code.Band.{Band}
use Rattle.rtk_obs.specs.declared.code.Band.TheVariants.{L1, L2, L5}
use Rattle.rtk_rinex.specs.declared.epoch_table.Observed.{Observed}
use Rattle.rtk_rinex.specs.declared.epoch_table.SatelliteRow.{SatelliteRow}
use Rattle.rtk_tracking.specs.Epochs.{capped}
use Rattle.rtk_chart.specs.declared.strengths.BandStrengths.{BandStrengths}
use Rattle.rtk_chart.specs.declared.strengths.Strengths.{Strengths}

-- with one strength more, if it is there
abbrev pub with_one : BandStrengths → Option ℕ → BandStrengths
with_one b None = b
with_one b (Some strength) = record { count = capped (b.count + 1); sum = capped (b.sum + strength) }

-- with the strength of a band
abbrev pub with_strength : Band → Option ℕ → Strengths → Strengths
with_strength L1 strength s = record { l1 = with_one s.l1 strength; l2 = s.l2; l5 = s.l5 }
with_strength L2 strength s = record { l1 = s.l1; l2 = with_one s.l2 strength; l5 = s.l5 }
with_strength L5 strength s = record { l1 = s.l1; l2 = s.l2; l5 = with_one s.l5 strength }

-- a code of another band adds nothing
abbrev pub with_strength_if : Option Band → Option ℕ → Strengths → Strengths
with_strength_if None strength s = s
with_strength_if (Some band) strength s = with_strength band strength s

-- with the strengths of a satellite, each of which counts for the band of its code
abbrev pub with_row : List (Option Band) → List Observed → Strengths → Strengths
with_row [] os s = s
with_row (b ∷ bs) [] s = s
with_row (b ∷ bs) (o ∷ os) s = with_row bs os (with_strength_if b o.strength_millidbhz s)

-- with the strengths of the rows of a record
abbrev pub with_rows : List (Option Band) → List SatelliteRow → Strengths → Strengths
with_rows listed [] s = s
with_rows listed (r ∷ rows) s = with_rows listed rows (with_row listed r.observed.items s)
