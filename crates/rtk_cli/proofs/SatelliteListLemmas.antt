-- Lists of satellites, read from the front.
use Rattle.std.proofs.Common.{◌≡◌, ◌++◌, ℕ, List, ◌∷◌, length, refl, sym, ◌∙◌}
use Rattle.rtk_obs.specs.SatelliteIndex.{IsSatelliteIndex, index_name}
use Rattle.rtk_cli.specs.Steps.NameList.{comma_names}
use Rattle.rtk_cli.specs.Steps.ChartWords.{ListsSatellites}
use Rattle.rtk_cli.proofs.NameListLemmas.{Naming, Next, next-of}

pub three-characters : (i : ℕ) → length (index_name i) ≡ 3
three-characters i = refl

-- the names of satellites
abbrev pub satellites-naming : Naming ℕ
satellites-naming = record { name = index_name; width = 3; same = three-characters }

pub next-satellite : (text done listed rest : List ℕ) → 44 ∷ text ≡ comma_names index_name done ++ 44 ∷ rest → ListsSatellites text listed → Next IsSatelliteIndex satellites-naming rest
next-satellite text done listed rest so_far lists = next-of IsSatelliteIndex satellites-naming done listed rest lists.0 (sym so_far ∙ lists.1)
