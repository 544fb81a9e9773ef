-- What `show` leaves of the lines of all that a reader had, if it is not done.
use Rattle.std.proofs.Common.{◌≡◌, ◌≢◌, ◌⊎◌, inl, inr, ℕ, Bool, true, List, Option, None, Some, Result, Ok, Err, IfErr, IfSome, IsErrOf, refl, sym, subst}
use Rattle.std.specs.Io.KnownBytes.{Keeps}
use Rattle.rtk_commands.specs.Input.{GivesText}
use Rattle.rtk_commands.specs.Passed.{given_of, IsLeft, taken_of}
use Rattle.rtk_commands.specs.declared.fault.ToolFault.{ToolFault}
use Rattle.rtk_commands.specs.declared.fault.ToolFault.TheVariants.{Input, TooLong, NotHex, OutOfMemory, Output}
use Rattle.rtk_commands.proofs.PassedLemmas.{all_text}
use Rattle.rtk_commands.proofs.ThroughLemmas.{lands}
use Rattle.rtk_commands.specs.Hex.{capture_of}
use Rattle.rtk_commands.specs.Show.{ShowsPartOfBy, IsBeforeOutput}
use Rattle.rtk_commands.proofs.ShownLemmas.{shows-none}

-- of no lines all may be out
none_shown : (IsLine : List ℕ → List ℕ → Type 0) (capture : Option (List ℕ)) (held : Option (List ℕ)) → ShowsPartOfBy IsLine capture held held
none_shown IsLine None held = refl
none_shown IsLine (Some capture) held = shows-none IsLine capture held

none_of_any : (IsLine : List ℕ → List ℕ → Type 0) (hex : Bool) (had : Option (List ℕ)) (held out : Option (List ℕ)) → out ≡ held → IfSome had (λ text. ShowsPartOfBy IsLine (capture_of hex text) held out)
none_of_any IsLine hex None held out same = tt
none_of_any IsLine hex (Some text) held out same = subst (ShowsPartOfBy IsLine (capture_of hex text) held) (sym same) (none_shown IsLine (capture_of hex text) held)

apart : (result : Result ℕ ToolFault) (fault : ToolFault) → Output ≢ fault → result ≡ Err Output → result ≢ Err fault
apart result fault differs is e = differs (let same : Output ≡ fault = cc in same)

not_input : Output ≢ Input
not_input e = cc

not_long : Output ≢ TooLong
not_long e = cc

not_memory : Output ≢ OutOfMemory
not_memory e = cc

-- the whole input was read
at_the_end : (IsLine : List ℕ → List ℕ → Type 0) (hex : Bool) (had held : ℕ → Option (List ℕ)) (number at from to : ℕ) (first last before after out : Option (List ℕ))
    → number ≡ 0 → ((n : ℕ) → held n ≡ held 0) → Keeps (had 0) first → Keeps (held 0) before → taken_of (held to) out ≡ taken_of (held to) after
    → GivesText (given_of number (had number) first) (given_of at (had at) last) (λ text. ShowsPartOfBy IsLine (capture_of hex text) (taken_of (held from) before) (taken_of (held to) after))
    → IsLeft (had at) last true
    → IfSome (had 0) (λ text. ShowsPartOfBy IsLine (capture_of hex text) (held 0) (taken_of (held 0) out))
at_the_end IsLine hex had held number at from to first last before after out zero one kept kept' same some end =
    all_text had number at first last (λ text. ShowsPartOfBy IsLine (capture_of hex text) (held 0) (taken_of (held 0) out)) zero kept end
    (some.0, some.1, lands held from to before after out (ShowsPartOfBy IsLine (capture_of hex some.0)) one kept' same some.2)

pub shown_part_through : (IsLine : List ℕ → List ℕ → Type 0) (hex : Bool) (had held : ℕ → Option (List ℕ)) (number at from to : ℕ) (first last before after out : Option (List ℕ)) (result : Result ℕ ToolFault) (ended : Bool)
    → number ≡ 0 → ((n : ℕ) → held n ≡ held 0) → Keeps (had 0) first → Keeps (held 0) before → taken_of (held to) out ≡ taken_of (held to) after
    → GivesText (given_of number (had number) first) (given_of at (had at) last) (λ text. ShowsPartOfBy IsLine (capture_of hex text) (taken_of (held from) before) (taken_of (held to) after))
    → (IsErrOf result OutOfMemory → (taken_of (held to) after ≡ taken_of (held from) before) ⊎ ((ended ≡ true) × IsLeft (had at) last true))
    → (result ≢ Err Input → result ≢ Err TooLong → result ≢ Err OutOfMemory → (ended ≡ true) × IsLeft (had at) last true)
    → IfErr result (λ fault. ¬ (IsBeforeOutput fault) → IfSome (had 0) (λ text. ShowsPartOfBy IsLine (capture_of hex text) (held 0) (taken_of (held 0) out)))
shown_part_through IsLine hex had held number at from to first last before after out (Ok x) ended zero one kept kept' same some memory end = tt
shown_part_through IsLine hex had held number at from to first last before after out (Err Input) ended zero one kept kept' same some memory end = λ not. absurd (not tt)
shown_part_through IsLine hex had held number at from to first last before after out (Err TooLong) ended zero one kept kept' same some memory end = λ not. absurd (not tt)
shown_part_through IsLine hex had held number at from to first last before after out (Err NotHex) ended zero one kept kept' same some memory end = λ not. absurd (not tt)
shown_part_through IsLine hex had held number at from to first last before after out (Err OutOfMemory) ended zero one kept kept' same some memory end = λ not.
    elim (memory refl) [
      | inl none ↦ none_of_any IsLine hex (had 0) (held 0) (taken_of (held 0) out) (lands held from to before after out (λ x y. y ≡ x) one kept' same none)
      | inr whole ↦ at_the_end IsLine hex had held number at from to first last before after out zero one kept kept' same some whole.1
    ]
shown_part_through IsLine hex had held number at from to first last before after out (Err Output) ended zero one kept kept' same some memory end = λ not.
    at_the_end IsLine hex had held number at from to first last before after out zero one kept kept' same some (end (apart (Err Output) Input not_input refl) (apart (Err Output) TooLong not_long refl) (apart (Err Output) OutOfMemory not_memory refl)).1
