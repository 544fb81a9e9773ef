-- A text that is kept line by line, and what is answered if memory is refused for it.
use Rattle.std.proofs.Common.{◌≡◌, ◌≢◌, ◌+◌, ◌∙◌, ◌⊎◌, ℕ, List, [], ◌∷◌, ◌++◌, flat_map, refl, ap, arith, length-append, inl, inr, ⊎_elim}
use Rattle.std.specs.Prelude.{Ok, Err}
use Rattle.std.proofs.lemmas.List.{flat_map_more}
use Rattle.std.proofs.lemmas.List.Elements.{All-nil, All-cons, All-append}
use Rattle.rtk_rinex.specs.Lines.{HasNoEnd, IsLine}
use Rattle.rtk_rinex.specs.HeaderFault.{AreLines}
use Rattle.rtk_rinex.specs.KeptTable.{HasLine, TextIsKept}
use Rattle.rtk_rinex.specs.Table.{table_text}
use Rattle.rtk_rinex.specs.declared.check_fault.Cause.{Cause}
use Rattle.rtk_rinex.specs.declared.check_fault.Cause.TheVariants.{HeaderLine, Columns, Value, Order, Truncated, OutOfMemory}
use Rattle.rtk_rinex.proofs.OneFaultLemmas.{fault-none}
use Rattle.rtk_rinex.proofs.OneTableLemmas.{text-is_accepted}

-- ---- what is answered to the text of a table

refused_memory : (cause : Cause) → ¬ (cause ≢ OutOfMemory) → cause ≡ OutOfMemory
refused_memory HeaderLine h = absurd (h (λ e. cc))
refused_memory Columns h = absurd (h (λ e. cc))
refused_memory Value h = absurd (h (λ e. cc))
refused_memory Order h = absurd (h (λ e. cc))
refused_memory Truncated h = absurd (h (λ e. cc))
refused_memory OutOfMemory h = refl

pub text-is_kept : TextIsKept
text-is_kept t (Ok v) is answer = text-is_accepted t (Ok v) is answer
text-is_kept t (Err fault) is answer = refused_memory fault.cause (λ other. fault-none (table_text t) fault (answer other) t is refl)

-- ---- the lines that are kept

-- so many whole lines, or nothing follows them
abbrev pub AreLinesOrAll : ℕ → List ℕ → List ℕ → Type 0
AreLinesOrAll n text rest = AreLines n text ⊎ (rest ≡ [])

pub none-kept : AreLines 0 []
none-kept = ([], All-nil HasNoEnd, refl, refl)

one_more : (n : ℕ) (text line : List ℕ) → AreLines n text → IsLine line → AreLines (n + 1) (text ++ line)
one_more n text line are is = (
  are.0 ++ is.0 ∷ [],
  All-append HasNoEnd are.0 (is.0 ∷ []) are.1 (All-cons HasNoEnd is.0 [] is.1 (All-nil HasNoEnd)),
  length-append are.0 (is.0 ∷ []) ∙ omega (arith, are.2),
  ap (λ (t : List ℕ). t ++ line) are.3 ∙ ap (λ (l : List ℕ). flat_map (λ line. line ++ 10 ∷ []) are.0 ++ l) is.2
      ∙ flat_map_more (λ (line : List ℕ). line ++ 10 ∷ []) [] are.0 is.0,
)

pub line-kept : (n : ℕ) (text rest line after : List ℕ) → rest ≢ [] → AreLinesOrAll n text rest → IsLine line ⊎ (after ≡ [])
    → AreLinesOrAll (n + 1) (text ++ line) after
line-kept n text rest line after some so_far whole =
    ⊎_elim
    (λ are. ⊎_elim (λ is. inl (one_more n text line are is)) (λ none. inr none) whole)
    (λ none. absurd (some none))
    so_far

pub has-line : (n : ℕ) (bytes text rest : List ℕ) → bytes ≡ text ++ rest → rest ≢ [] → AreLinesOrAll n text rest → HasLine bytes (n + 1)
has-line n bytes text rest parts some so_far =
    ⊎_elim (λ are. (n, text, rest, refl, are, parts, some)) (λ none. absurd (some none)) so_far
