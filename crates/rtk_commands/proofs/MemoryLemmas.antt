-- What `summary` says of the reader and the writer behind its source and its sink, and what `show`
-- says of a vector.
use Rattle.std.proofs.Common.{◌≡◌, ℕ, Bool, true, false, List, [], ◌++◌, Option, None, Some, Result, Ok, Err, IfSome, OnOk, IsErrOf, sym, ap, ◌∙◌, subst}
use Rattle.std.specs.Io.KnownBytes.{Keeps}
use Rattle.rtk_frame.specs.Frames.{frames}
use Rattle.rtk_frame.specs.Stream.{TakesPart}
use Rattle.rtk_commands.specs.Passed.{given_of, IsLeft, taken_of}
use Rattle.rtk_commands.proofs.PassedLemmas.{all_text, given_first}
use Rattle.rtk_commands.proofs.ThroughLemmas.{lands}
use Rattle.rtk_survey.specs.Summary.{Summarizes, SummarizesInPart, summary_text}
use Rattle.rtk_commands.specs.Show.{ShowsTextBy}
use Rattle.rtk_commands.specs.Shown.{AreLinesBy}
use Rattle.rtk_commands.specs.Summarized.{SummarizesText, SummarizesPartOf}

-- a summary of all that the reader had
pub summary_through : {T E : Type 0} (name : List ℕ) (had held : ℕ → Option (List ℕ)) (number at from to : ℕ) (first last before after out : Option (List ℕ)) (result : Result T E) (ended : Bool)
    → number ≡ 0 → ((n : ℕ) → held n ≡ held 0) → Keeps (had 0) first → Keeps (held 0) before → taken_of (held to) out ≡ taken_of (held to) after
    → OnOk result (Summarizes name (given_of number (had number) first) (given_of at (had at) last) (taken_of (held from) before) (taken_of (held to) after))
    → OnOk result ((ended ≡ true) × IsLeft (had at) last true)
    → OnOk result (IfSome (had 0) (λ text. SummarizesText name text (held 0) (taken_of (held 0) out)))
summary_through name had held number at from to first last before after out (Ok x) ended zero one kept kept' same done end =
    all_text had number at first last (λ text. SummarizesText name text (held 0) (taken_of (held 0) out)) zero kept end.1
    (done.0, done.2, lands held from to before after out (SummarizesText name done.0) one kept' same (done.1, done.3, done.4))
summary_through name had held number at from to first last before after out (Err fault) ended zero one kept kept' same done end = tt

from_some : (had : Option (List ℕ)) (P Q : List ℕ → Type 0) → ((text : List ℕ) → P text → Q text) → IfSome had P → IfSome had Q
from_some None P Q step holds = tt
from_some (Some text) P Q step holds = step text holds

-- a first part of the summary of what it gave
pub summary_part_through : {T E : Type 0} (name : List ℕ) (had held : ℕ → Option (List ℕ)) (number at from to : ℕ) (first last before after out : Option (List ℕ)) (result : Result T E) (fault : E)
    → number ≡ 0 → ((n : ℕ) → held n ≡ held 0) → Keeps (had 0) first → Keeps (held 0) before → taken_of (held to) out ≡ taken_of (held to) after
    → (IsErrOf result fault → SummarizesInPart name (given_of number (had number) first) (given_of at (had at) last) (taken_of (held from) before) (taken_of (held to) after))
    → IsErrOf result fault → IfSome (had 0) (λ text. SummarizesPartOf name text (held 0) (taken_of (held 0) out))
summary_part_through name had held number at from to first last before after out result fault zero one kept kept' same told e =
    let some = told e in
    let bytes : List ℕ = some.0 in
    from_some (had 0) (λ all. (rest : List ℕ) × (all ≡ bytes ++ rest)) (λ text. SummarizesPartOf name text (held 0) (taken_of (held 0) out))
    (λ text part. (bytes, part.0, part.1, some.1, some.3, lands held from to before after out (λ x y. TakesPart x y (summary_text name bytes some.1)) one kept' same some.4))
    (given_first had number at first last bytes zero kept some.2)

-- the lines that were shown to a vector
pub lines_in_memory : (IsLine : List ℕ → List ℕ → Type 0) (count : ℕ) (capture first lines : List ℕ) → ShowsTextBy IsLine false count capture (Some first) (Some lines) → first ≡ [] → AreLinesBy IsLine (frames capture) lines
lines_in_memory IsLine count capture first lines shown empty =
    let some = shown.1.0 in
    let all : Some lines ≡ Some (first ++ some.0) = some.2 in
    let is : lines ≡ first ++ some.0 = cc in
    subst (AreLinesBy IsLine (frames capture)) (sym (is ∙ ap (λ l. l ++ some.0) empty)) some.1
