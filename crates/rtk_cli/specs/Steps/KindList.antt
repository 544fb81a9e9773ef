-- The kinds of MSM as the words of a command line write them: one for all systems, and exceptions.
use Rattle.std.specs.Prelude.{◌≡◌, ℕ, ◌+◌, ◌==◌, Bool, true, nat_le, List, [], ◌∷◌, map, count_by, codes}
use Rattle.std.specs.List.{list_all}
use Rattle.rtk_message.specs.declared.msm_kind.MsmKind.{MsmKind}
use Rattle.rtk_message.specs.declared.msm_type.MsmType.{MsmType}
use Rattle.rtk_message.specs.Systems.{digit_of}
use Rattle.rtk_obs.specs.SatelliteIndex.{letter_of}
use Rattle.rtk_setup.specs.Setup.{all_of, with_kind}
use Rattle.rtk_setup.specs.declared.system_kinds.SystemKinds.{SystemKinds}
use Rattle.rtk_cli.specs.Steps.Parts.{marked_parts}

-- formula
-- an exception: the letter of the system, and the last digit of its message numbers, as E4 (this project's rule)
abbrev pub exception_word : MsmType → List ℕ
exception_word t = letter_of t.system ∷ (48 + digit_of t.kind) ∷ []

-- the kinds with these exceptions
abbrev pub with_exceptions : SystemKinds → List MsmType → SystemKinds
with_exceptions kinds [] = kinds
with_exceptions kinds (t ∷ ts) = with_exceptions (with_kind kinds t.system t.kind) ts

abbrev pub stands_once : ℕ → List ℕ → Bool
stands_once letter text = nat_le (count_by (λ x. x == letter) text) 1

-- formula
-- the letter of each system stands once at most
abbrev pub has_letters_once : List ℕ → Bool
has_letters_once text = list_all (λ letter. stands_once letter text) (codes "GRECJSI")

-- formula
-- the text writes these kinds: its first part between commas is the digit of all systems, each further part an exception,
-- and no system has two exceptions (this project's rule)
abbrev pub WritesKinds : List ℕ → SystemKinds → Type 0
WritesKinds text kinds =
    (general : MsmKind) × (exceptions : List MsmType)
    × (marked_parts 44 text ≡ ((48 + digit_of general) ∷ []) ∷ map exception_word exceptions)
    × (has_letters_once text ≡ true) × (kinds ≡ with_exceptions (all_of general) exceptions)
