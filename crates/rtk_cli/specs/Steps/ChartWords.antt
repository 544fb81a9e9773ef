-- What the words of `chart` choose, and why they are refused.
use Rattle.std.specs.Prelude.{◌≡◌, ℕ, ◌==◌, Bool, ◌||◌, List, [], ◌∷◌, Option, None, Some, IsSomeAnd, All, IsTrue}
use Rattle.std.specs.Borrow.{Bor}
use Rattle.std.specs.List.{list_any}
use Rattle.rtk_obs.specs.SatelliteIndex.{IsSatelliteIndex, system_at, letter_of, index_name}
use Rattle.rtk_chart.specs.Choice.{is_chosen}
use Rattle.rtk_chart.specs.declared.choice.Choice.{Choice}
use Rattle.rtk_chart.specs.declared.choice.Choice.TheVariants.{All as EachOne, These}
use Rattle.rtk_cli.specs.declared.chart_words.ChartOptions.{ChartOptions}
use Rattle.rtk_cli.specs.declared.words.BadWords.{BadWords}
use Rattle.rtk_cli.specs.declared.words.BadWords.TheVariants.{Systems, Satellites}
use Rattle.rtk_cli.specs.Steps.NameList.{comma_names}
use Rattle.rtk_cli.specs.Steps.SystemLetters.{are_systems, HasNoSystems}

-- formula
-- the text lists these satellites, one or more: with a comma before it, it is their names, a comma before each (this
-- project's rule)
abbrev pub ListsSatellites : List ℕ → List ℕ → Type 0
ListsSatellites text satellites = All IsSatelliteIndex satellites × (44 ∷ text ≡ comma_names index_name satellites)

-- a satellite is of a system of these letters
abbrev pub is_of_system : List ℕ → ℕ → Bool
is_of_system letters i = list_any (λ x. x == letter_of (system_at i)) letters

-- formula
-- a satellite is of a system of these letters, or listed
abbrev pub is_named : List ℕ → List ℕ → ℕ → Bool
is_named letters listed i = is_of_system letters i || list_any (λ s. s == i) listed

-- the letters that an option names, or none without it
abbrev pub SaysSystems : Option (Bor (List ℕ)) → List ℕ → Type 0
SaysSystems None letters = letters ≡ []
SaysSystems (Some text) letters = (letters ≡ text.now) × IsTrue (are_systems text.now)

-- the satellites that an option lists, or none without it
abbrev pub SaysSatellites : Option (Bor (List ℕ)) → List ℕ → Type 0
SaysSatellites None listed = listed ≡ []
SaysSatellites (Some text) listed = ListsSatellites text.now listed

-- formula
-- the choice is what the options name: all if there is none, else what either names
abbrev pub IsChoiceOf : Option (Bor (List ℕ)) → Option (Bor (List ℕ)) → Choice → Type 0
IsChoiceOf None None choice = choice ≡ EachOne
IsChoiceOf systems satellites EachOne = ⊥
IsChoiceOf systems satellites (These chosen) =
    (letters : List ℕ) × (listed : List ℕ) × SaysSystems systems letters × SaysSatellites satellites listed
    × ((i : ℕ) → IsSatelliteIndex i → is_chosen chosen i ≡ is_named letters listed i)

abbrev pub SaysChoice : ChartOptions → Choice → Type 0
SaysChoice o choice = IsChoiceOf o.systems o.satellites choice

-- the option is there, and its text lists no satellites
abbrev pub HasNoSatellites : Option (Bor (List ℕ)) → Type 0
HasNoSatellites o = IsSomeAnd o (λ text. (listed : List ℕ) → ¬ (ListsSatellites text.now listed))

-- this is the first cause for which the words are refused: the form of the systems, and last that of the satellites
-- (this project's rule)
abbrev pub RefusesChoice : ChartOptions → BadWords → Type 0
RefusesChoice o Systems = HasNoSystems o.systems
RefusesChoice o Satellites = (letters : List ℕ) × SaysSystems o.systems letters × HasNoSatellites o.satellites
RefusesChoice o _ = ⊥
