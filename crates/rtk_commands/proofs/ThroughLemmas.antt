-- What a command that was given a source and a sink says of the reader and the writer behind them.
use Rattle.std.proofs.Common.{◌≡◌, ◌≢◌, ℕ, Bool, true, List, Option, Result, Ok, Err, IfSome, IfOk, IfErr, sym, ap, ◌∙◌, subst}
use Rattle.std.specs.Io.KnownBytes.{Keeps}
use Rattle.rtk_commands.specs.Input.{GivesText}
use Rattle.rtk_commands.specs.Passed.{given_of, IsLeft, taken_of}
use Rattle.rtk_commands.specs.declared.fault.ToolFault.{ToolFault}
use Rattle.rtk_commands.specs.declared.fault.ToolFault.TheVariants.{Input, TooLong, OutOfMemory}
use Rattle.rtk_commands.proofs.PassedLemmas.{all_text, taken_first}

-- a fact of what a sink took, as one of what the writer behind held and holds
pub lands : (held : ℕ → Option (List ℕ)) (from to : ℕ) (before after out : Option (List ℕ)) (Q : Option (List ℕ) → Option (List ℕ) → Type 0)
    → ((n : ℕ) → held n ≡ held 0) → Keeps (held 0) before → taken_of (held to) out ≡ taken_of (held to) after
    → Q (taken_of (held from) before) (taken_of (held to) after) → Q (held 0) (taken_of (held 0) out)
lands held from to before after out Q one kept same fact =
    let start : taken_of (held from) before ≡ held 0 = ap (λ (h : Option (List ℕ)). taken_of h before) (one from) ∙ taken_first (held 0) before kept in
    let end : taken_of (held to) after ≡ taken_of (held 0) out = sym same ∙ ap (λ (h : Option (List ℕ)). taken_of h out) (one to) in
    subst (λ (a : Option (List ℕ)). Q (held 0) a) end (subst (λ (b : Option (List ℕ)). Q b (taken_of (held to) after)) start fact)

no_fault : {T : Type 0} (x : T) (fault : ToolFault) → Ok x ≢ Err fault
no_fault x fault e = cc

-- from what the command says of the source and the sink: the reader was read to its end unless there
-- was no text
pub done_through : {T : Type 0} (had held : ℕ → Option (List ℕ)) (number at from to : ℕ) (first last before after out : Option (List ℕ)) (result : Result T ToolFault) (ended : Bool)
    (Q : T → List ℕ → Option (List ℕ) → Option (List ℕ) → Type 0)
    → number ≡ 0 → ((n : ℕ) → held n ≡ held 0) → Keeps (had 0) first → Keeps (held 0) before → taken_of (held to) out ≡ taken_of (held to) after
    → IfOk result (λ x. GivesText (given_of number (had number) first) (given_of at (had at) last) (λ text. Q x text (taken_of (held from) before) (taken_of (held to) after)))
    → (result ≢ Err Input → result ≢ Err TooLong → result ≢ Err OutOfMemory → (ended ≡ true) × IsLeft (had at) last true)
    → IfOk result (λ x. IfSome (had 0) (λ text. Q x text (held 0) (taken_of (held 0) out)))
done_through had held number at from to first last before after out (Ok x) ended Q zero one kept kept' same told end =
    all_text had number at first last (λ text. Q x text (held 0) (taken_of (held 0) out)) zero kept
    (end (no_fault x Input) (no_fault x TooLong) (no_fault x OutOfMemory)).1
    (told.0, told.1, lands held from to before after out (Q x told.0) one kept' same told.2)
done_through had held number at from to first last before after out (Err fault) ended Q zero one kept kept' same told end = tt

-- and where it is not done
pub nothing_through : {T E : Type 0} (held : ℕ → Option (List ℕ)) (from to : ℕ) (before after out : Option (List ℕ)) (result : Result T E) (B : E → Type 0)
    → ((n : ℕ) → held n ≡ held 0) → Keeps (held 0) before → taken_of (held to) out ≡ taken_of (held to) after
    → IfErr result (λ fault. B fault → taken_of (held to) after ≡ taken_of (held from) before)
    → IfErr result (λ fault. B fault → taken_of (held 0) out ≡ held 0)
nothing_through held from to before after out (Ok x) B one kept same nothing = tt
nothing_through held from to before after out (Err fault) B one kept same nothing = λ b. lands held from to before after out (λ x y. y ≡ x) one kept same (nothing b)
