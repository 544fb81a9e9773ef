-- The kinds that a text writes.
use Rattle.std.proofs.Common.{◌≡◌, ◌≢◌, ℕ, ◌+◌, true, false, List, [], ◌∷◌, ◌++◌, map, drop, get_or, Option, None, Some, refl, sym, ap, ◌∙◌}
use Rattle.std.specs.Prelude.{MatchOption}
use Rattle.rtk_message.specs.declared.msm_kind.MsmKind.{MsmKind}
use Rattle.rtk_message.specs.declared.msm_type.MsmType.{MsmType}
use Rattle.rtk_message.specs.Systems.{digit_of}
use Rattle.rtk_setup.specs.Setup.{all_of, with_kind}
use Rattle.rtk_setup.specs.declared.system_kinds.SystemKinds.{SystemKinds}
use Rattle.rtk_cli.specs.Steps.Parts.{marked_parts}
use Rattle.rtk_cli.specs.Steps.KindList.{exception_word, with_exceptions, has_letters_once, WritesKinds}
use Rattle.rtk_cli.proofs.PartLemmas.{one-word, last-word, no-word}

-- one exception more
pub one-exception : (kinds : SystemKinds) (done : List MsmType) (t : MsmType) → with_kind (with_exceptions kinds done) t.system t.kind ≡ with_exceptions kinds (done ++ t ∷ [])
one-exception kinds [] t = refl
one-exception kinds (d ∷ done) t = one-exception (with_kind kinds d.system d.kind) done t

-- ---- the exceptions of a text

-- the exceptions that are read so far of a text, the kinds with them, and the rest of the text
pub record ReadsExceptions (first : SystemKinds) (text : List ℕ) (changed : SystemKinds) (rest : List ℕ) : Type 0 where
  pub done : List MsmType
  pub so_far : marked_parts 44 text ≡ map exception_word done ++ marked_parts 44 rest
  pub kinds : changed ≡ with_exceptions first done

pub reads-none : (first : SystemKinds) (text : List ℕ) → ReadsExceptions first text first text
reads-none first text = record { done = []; so_far = refl; kinds = refl }

-- one exception more is read
pub reads-more : (first : SystemKinds) (text : List ℕ) (changed : SystemKinds) (rest word next : List ℕ) (t : MsmType) (new : SystemKinds)
    → ReadsExceptions first text changed rest → marked_parts 44 rest ≡ word ∷ marked_parts 44 next → word ≡ exception_word t → new ≡ with_kind changed t.system t.kind
    → ReadsExceptions first text new next
reads-more first text changed rest word next t new reads split is same = record {
  done = reads.done ++ t ∷ [];
  so_far = one-word exception_word (marked_parts 44 text) reads.done t word (marked_parts 44 rest) (marked_parts 44 next) reads.so_far split is;
  kinds = same ∙ ap (λ (k : SystemKinds). with_kind k t.system t.kind) reads.kinds ∙ one-exception first reads.done t;
}

-- all exceptions are read
pub reads-all : (first : SystemKinds) (text : List ℕ) (changed : SystemKinds) (rest word : List ℕ) (t : MsmType) (new : SystemKinds)
    → ReadsExceptions first text changed rest → marked_parts 44 rest ≡ word ∷ [] → word ≡ exception_word t → new ≡ with_kind changed t.system t.kind
    → (exceptions : List MsmType) × (marked_parts 44 text ≡ map exception_word exceptions) × (new ≡ with_exceptions first exceptions)
reads-all first text changed rest word t new reads split is same = (
  reads.done ++ t ∷ [],
  last-word exception_word (marked_parts 44 text) reads.done t word (marked_parts 44 rest) reads.so_far split is,
  same ∙ ap (λ (k : SystemKinds). with_kind k t.system t.kind) reads.kinds ∙ one-exception first reads.done t,
)

-- what follows begins with no exception
pub reads-no-more : (first : SystemKinds) (text : List ℕ) (changed : SystemKinds) (rest word : List ℕ) (more : List (List ℕ))
    → ReadsExceptions first text changed rest → marked_parts 44 rest ≡ word ∷ more → ((t : MsmType) → word ≢ exception_word t)
    → (exceptions : List MsmType) → marked_parts 44 text ≢ map exception_word exceptions
reads-no-more first text changed rest word more reads split none exceptions =
    no-word (λ (t : MsmType). Unit {0}) exception_word (marked_parts 44 text) reads.done exceptions word (marked_parts 44 rest) more reads.so_far split (λ t _. none t) (λ k d lt. tt)

-- ---- the whole text

-- a letter stands twice
pub letter-twice : (text : List ℕ) → has_letters_once text ≡ false → (kinds : SystemKinds) → ¬ (WritesKinds text kinds)
letter-twice text twice kinds (k, exceptions, writes, once, are) = let bad : false ≡ true = sym twice ∙ once in cc

-- the first part is no kind
pub no-general : (text word : List ℕ) (more : List (List ℕ)) → marked_parts 44 text ≡ word ∷ more → ((k : MsmKind) → word ≢ (48 + digit_of k) ∷ []) → (kinds : SystemKinds) → ¬ (WritesKinds text kinds)
no-general text word more split none kinds (k, exceptions, writes, once, are) = none k (ap (λ (t : List (List ℕ)). get_or t 0 []) (sym split ∙ writes))

-- the first part is all
pub general-alone : (text word : List ℕ) (k : MsmKind) (kinds : SystemKinds) → marked_parts 44 text ≡ word ∷ [] → word ≡ (48 + digit_of k) ∷ [] → has_letters_once text ≡ true → kinds ≡ all_of k → WritesKinds text kinds
general-alone text word k kinds split is once are = (k, [], split ∙ ap (λ (t : List ℕ). t ∷ []) is, once, are)

-- exceptions follow the first part
pub general-first : (text word next : List ℕ) (k : MsmKind) (all : SystemKinds) (r : Option SystemKinds) → marked_parts 44 text ≡ word ∷ marked_parts 44 next → word ≡ (48 + digit_of k) ∷ [] → has_letters_once text ≡ true
    → all ≡ all_of k
    → MatchOption r ((exceptions : List MsmType) → marked_parts 44 next ≢ map exception_word exceptions)
    (λ changed. (exceptions : List MsmType) × (marked_parts 44 next ≡ map exception_word exceptions) × (changed ≡ with_exceptions all exceptions))
    → MatchOption r ((kinds : SystemKinds) → ¬ (WritesKinds text kinds)) (λ kinds. WritesKinds text kinds)
general-first text word next k all None split is once of_all none = λ kinds (j, exceptions, writes, o, are).
    none exceptions (ap (λ (t : List (List ℕ)). drop 1 t) (sym split ∙ writes))
general-first text word next k all (Some kinds) split is once of_all (exceptions, lists, are) = (
  k,
  exceptions,
  split ∙ ap (λ (t : List (List ℕ)). word ∷ t) lists ∙ ap (λ (t : List ℕ). t ∷ map exception_word exceptions) is,
  once,
  are ∙ ap (λ (a : SystemKinds). with_exceptions a exceptions) of_all,
)
