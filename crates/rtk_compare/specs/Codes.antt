-- The codes that two files have both, and where they stand in each.
use Rattle.std.specs.Prelude.{ℕ, ◌+◌, ◌==◌, Bool, if◌then◌else◌, List, [], ◌∷◌, ◌++◌, Option, None, Some}
use Rattle.rtk_obs.specs.declared.any_code.AnyCode.{AnyCode}
use Rattle.rtk_obs.specs.AnyCode.{number_of}
use Rattle.rtk_obs.specs.SatelliteIndex.{letter_of, system_at}
use Rattle.rtk_rinex.specs.MixedHeader.{codes_of}
use Rattle.rtk_compare.specs.declared.shared_codes.SharedCode.{SharedCode}

-- the first place of a code among those from this place on
abbrev pub place_from : ℕ → AnyCode → List AnyCode → Option ℕ
place_from n c [] = None
place_from n c (d ∷ ds) = if number_of d == number_of c then Some n else place_from (n + 1) c ds

-- the first place of a code in a list
abbrev pub place_in : AnyCode → List AnyCode → Option ℕ
place_in c listed = place_from 0 c listed

-- a code with its places, if it has both; the files show both Doppler shifts (true), or not
abbrev pub with_places : Bool → AnyCode → ℕ → Option ℕ → List SharedCode
with_places shifts c old None = []
with_places shifts c old (Some new) = record { code = c; old = old; new = new; shifts = shifts } ∷ []

-- the codes from this place on of the old list that the new one has too
abbrev pub shared_from : Bool → List AnyCode → ℕ → List AnyCode → List SharedCode
shared_from shifts news old [] = []
shared_from shifts news old (c ∷ cs) = with_places shifts c old (place_in c news) ++ shared_from shifts news (old + 1) cs

-- the codes that both lists have, in the order of the old one
abbrev pub shared_of : Bool → List AnyCode → List AnyCode → List SharedCode
shared_of shifts olds news = shared_from shifts news 0 olds

-- the codes that both list of the system of a satellite
abbrev pub shared_codes : Bool → List AnyCode → List AnyCode → ℕ → List SharedCode
shared_codes shifts olds news satellite =
    shared_of shifts (codes_of (letter_of (system_at satellite)) olds) (codes_of (letter_of (system_at satellite)) news)
