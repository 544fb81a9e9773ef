-- What the driver of the commands of a file says of the reader and the writer behind its source and its sink.
use Rattle.std.proofs.Common.{◌≡◌, ◌≢◌, ◌⊎◌, inl, inr, ℕ, Bool, true, List, length, Option, None, Some, Result, Ok, Err, IfOk, IfErr, IfSome, IsErrOf, refl, sym, ap, ◌∙◌, take_all, arith}
use Rattle.std.specs.Io.Buffered.{writer_contents}
use Rattle.std.specs.declared.io.buffered.BufWriter.{BufWriter}
use Rattle.std.specs.Io.KnownBytes.{Keeps, append_known}
use Rattle.rtk_frame.specs.Stream.{with_more}
use Rattle.rtk_commands.specs.declared.fault.ToolFault.{ToolFault}
use Rattle.rtk_commands.specs.declared.fault.ToolFault.TheVariants.{Input, TooLong, NotHex, OutOfMemory, Output}
use Rattle.rtk_commands.specs.Input.{GivesText}
use Rattle.rtk_commands.specs.Passed.{given_of, IsLeft, taken_of}
use Rattle.rtk_commands.specs.declared.resuming.Resumed.{Resumed}
use Rattle.rtk_commands.proofs.PassedLemmas.{all_text}
use Rattle.rtk_commands.proofs.ThroughLemmas.{lands}
use Rattle.rtk_commands.specs.declared.file_answer.FileAnswer.{FileAnswer}
use Rattle.rtk_commands.specs.FileText.{WritesAll, WritesFirst, AnswersText, AnswersPartOf, LeavesPartOf}
use Rattle.rtk_commands.specs.Show.{IsBeforeOutput}

-- all of it is a first part
all_is_first : (Writes : FileAnswer → List ℕ → Type 0) (answer : FileAnswer) (before after : Option (List ℕ)) → WritesAll (Writes answer) before after → WritesFirst Writes before after
all_is_first Writes answer before after (bytes, wrote, same) =
    (answer, bytes, wrote, (length bytes, omega arith, same ∙ ap (with_more before) (sym (take_all (length bytes) bytes (omega arith)))))

no_fault : {T : Type 0} (x : T) (fault : ToolFault) → Ok x ≢ Err fault
no_fault x fault e = cc

apart : {T : Type 0} (result : Result T ToolFault) (fault : ToolFault) → Output ≢ fault → result ≡ Err Output → result ≢ Err fault
apart result fault differs is e = differs (let same : Output ≡ fault = cc in same)

not_input : Output ≢ Input
not_input e = cc

not_long : Output ≢ TooLong
not_long e = cc

not_memory : Output ≢ OutOfMemory
not_memory e = cc

-- what a writer holds behind a sink that gathers, and what is gathered
abbrev pub gathered_contents : {W A : Type 0} → (W → Option (List ℕ)) → BufWriter (Resumed W) A → Option (List ℕ)
gathered_contents {W} contents writer = writer_contents (λ (r : Resumed W). contents r.inner) writer

-- ---- what is out, whatever the answer

-- nothing, or a first part of what was read to its end
pub whatever : (Writes : List ℕ → FileAnswer → List ℕ → Type 0) (given gave before after : Option (List ℕ)) (result : Result FileAnswer ToolFault) (End A : Type 0)
    → IfOk result (λ answer. GivesText given gave (λ text. AnswersText Writes answer text before after))
    → (IsErrOf result Output → GivesText given gave (λ text. AnswersPartOf Writes text before after))
    → (IsErrOf result OutOfMemory → (after ≡ before) ⊎ (A × End × GivesText given gave (λ text. AnswersPartOf Writes text before after)))
    → IfErr result (λ fault. IsBeforeOutput fault → after ≡ before)
    → (result ≢ Err Input → result ≢ Err TooLong → result ≢ Err OutOfMemory → End)
    → (after ≡ before) ⊎ (End × GivesText given gave (λ text. AnswersPartOf Writes text before after))
whatever Writes given gave before after (Ok answer) End A told part memory nothing end =
    let is_first : AnswersPartOf Writes told.0 before after = (told.2.0, all_is_first (Writes told.0) answer before after told.2.1) in
    inr (end (no_fault answer Input) (no_fault answer TooLong) (no_fault answer OutOfMemory), (told.0, told.1, is_first))
whatever Writes given gave before after (Err Input) End A told part memory nothing end = inl (nothing tt)
whatever Writes given gave before after (Err TooLong) End A told part memory nothing end = inl (nothing tt)
whatever Writes given gave before after (Err NotHex) End A told part memory nothing end = inl (nothing tt)
whatever Writes given gave before after (Err OutOfMemory) End A told part memory nothing end = elim (memory refl) [
  | inl none ↦ inl none
  | inr some ↦ inr (some.1, some.2)
]
whatever Writes given gave before after (Err Output) End A told part memory nothing end =
    inr (end (apart (Err Output) Input not_input refl) (apart (Err Output) TooLong not_long refl) (apart (Err Output) OutOfMemory not_memory refl), part refl)

-- nothing may be out
none_out : (Writes : List ℕ → FileAnswer → List ℕ → Type 0) (had held out : Option (List ℕ)) → out ≡ held → IfSome had (λ text. LeavesPartOf Writes text held out)
none_out Writes None held out same = tt
none_out Writes (Some text) held out same = inl same

pub part_if_out : (Writes : List ℕ → FileAnswer → List ℕ → Type 0) (had held : ℕ → Option (List ℕ)) (number at from to : ℕ) (first last before after out : Option (List ℕ)) (ended : Bool)
    → number ≡ 0 → ((n : ℕ) → held n ≡ held 0) → Keeps (had 0) first → Keeps (held 0) before
    → ((unwritten : List ℕ) × (taken_of (held to) (append_known out unwritten) ≡ taken_of (held to) after))
    → (taken_of (held to) after ≡ taken_of (held from) before)
    ⊎ (((ended ≡ true) × IsLeft (had at) last true) × GivesText (given_of number (had number) first) (given_of at (had at) last) (λ text. AnswersPartOf Writes text (taken_of (held from) before) (taken_of (held to) after)))
    → (unwritten : List ℕ) × IfSome (had 0) (λ text. LeavesPartOf Writes text (held 0) (taken_of (held 0) (append_known out unwritten)))
part_if_out Writes had held number at from to first last before after out ended zero one kept kept' (unwritten, same) taken =
    let all : Option (List ℕ) = append_known out unwritten in (
      unwritten,
      elim taken [
        | inl nothing ↦ none_out Writes (had 0) (held 0) (taken_of (held 0) all) (lands held from to before after all (λ x y. y ≡ x) one kept' same nothing)
        | inr whole ↦ all_text had number at first last (λ text. LeavesPartOf Writes text (held 0) (taken_of (held 0) all)) zero kept whole.0.1
            (whole.1.0, whole.1.1, inr (lands held from to before after all (AnswersPartOf Writes whole.1.0) one kept' same whole.1.2))
      ],
    )
