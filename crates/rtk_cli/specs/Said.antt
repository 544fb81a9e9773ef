-- The captures that `auto` reads for a plan, and the command that it says (this project's rule).
use Rattle.std.specs.Prelude.{◌≡◌, ℕ, List, ◌++◌, map, codes}
use Rattle.std.specs.Borrow.{Bor}
use Rattle.std.specs.declared.vec.Vec.{Vec}
use Rattle.rtk_setup.specs.Setup.{SetupView}
use Rattle.rtk_captures.specs.CaptureNames.{capture_name}
use Rattle.rtk_survey.specs.Surveys.{places_of}
use Rattle.rtk_plan.specs.SaidCommand.{convert_words, command_text}
use Rattle.rtk_cli.specs.declared.auto_rereading.CaptureRead.{CaptureRead}

-- ---- what is read

-- the names of captures that are read, as bytes
abbrev pub read_names : List CaptureRead → List (List ℕ)
read_names captures = map (λ capture. capture.name.now) captures

-- for each link the captures are read that a plan has, in its order
abbrev pub ReadsPlanned : {A B : Type 0} → List (Bor (List ℕ)) → List (Vec ℕ A) → List (Vec CaptureRead B) → Type 0
ReadsPlanned names planned links = map (λ link. read_names link.items) links ≡ map (map (capture_name names)) (places_of planned)

-- ---- what is said

-- the names of captures that are read
abbrev pub names_of : List CaptureRead → List (Bor (List ℕ))
names_of captures = map (λ capture. capture.name) captures

abbrev pub names_of_links : {A : Type 0} → List (Vec CaptureRead A) → List (List (Bor (List ℕ)))
names_of_links links = map (λ link. names_of link.items) links

abbrev pub names_in : {A : Type 0} → List (Vec (Bor (List ℕ)) A) → List (List (Bor (List ℕ)))
names_in links = map (λ link. link.items) links

-- formula
-- what is said first: the command of a conversion with this setup, of links with these names
abbrev pub same_by_hand : {A : Type 0} → SetupView → List (Vec (Bor (List ℕ)) A) → List ℕ
same_by_hand setup named = codes " the same by hand:\n" ++ command_text (convert_words setup) named

-- first of all the command is said that has this setup, and the names of the captures that are read for these links
abbrev pub IsSaid : {A : Type 0} → List ℕ → List ℕ → SetupView → List (Vec CaptureRead A) → Type 0
IsSaid {A} old new setup links =
    (named : List (Vec (Bor (List ℕ)) A)) × (rest : List ℕ) × (names_in named ≡ names_of_links links) × (new ≡ old ++ same_by_hand setup named ++ rest)
