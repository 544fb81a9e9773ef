-- What `cut` of some systems alone writes.
use Rattle.std.proofs.Common.{◌≡◌, ◌≢◌, ◌∙◌, inl, inr, ℕ, List, [], ◌∷◌, Option, None, Some, refl, sym, ap, subst}
use Rattle.std.specs.Option.{IfSome, MatchOption}
use Rattle.rtk_frame.proofs.PublicLaws.{with_more-nil}
use Rattle.rtk_message.specs.declared.system.System.{System}
use Rattle.rtk_obs.specs.declared.any_code.AnyCode.{AnyCode}
use Rattle.rtk_rinex.specs.MixedHeader.{GpsFilesStay}
use Rattle.rtk_rinex.specs.MixedRecord.{GpsRecordsStay}
use Rattle.rtk_rinex.specs.MixedTable.{MixedTable, IsMixedTable, mixed_table_text, TypesTellShifts}
use Rattle.rtk_rinex.specs.declared.check_fault.CheckFault.{CheckFault}
use Rattle.rtk_cut.specs.declared.counts.CutCounts.{CutCounts}
use Rattle.rtk_rinex.specs.declared.system_flags.SystemFlags.{SystemFlags}
use Rattle.rtk_cut.specs.declared.part.Part.{Part}
use Rattle.rtk_cut.specs.KeptLaws.{KeptFilesAreTables}
use Rattle.rtk_cut.specs.KeptSystems.{kept_codes, kept_table, first_absent}
use Rattle.rtk_label.specs.Labelled.{LabelView, labelled_mixed_with}
use Rattle.rtk_label.specs.declared.time_lines.TimeLines.{TimeLines}
use Rattle.rtk_commands.specs.declared.file_answer.FileAnswer.{FileAnswer}
use Rattle.rtk_commands.specs.declared.file_answer.FileAnswer.TheVariants.{Cut, Refused, NoneChosen, Absent}
use Rattle.rtk_commands.specs.declared.kept_part.KeptPart.{KeptPart}
use Rattle.rtk_commands.specs.CompareInput.{IsLabelledText, IsPartedMixed, IsMixedRefused}
use Rattle.rtk_commands.specs.CutInput.{part_of_file, part_counts, CountsPartOfFile, WritesLabelledPart, WritesFirstOfLabelledPart}
use Rattle.rtk_commands.specs.FileTable.{labelled_file, IsTextOfSomeFile}
use Rattle.rtk_commands.specs.FileText.{WritesAll, WritesFirst}
use Rattle.rtk_commands.specs.KeptPartInput.{IsTextOfSystems, HasNoneAbsent, CutsPlain, CutsIfSome, CutsUnless, CutsKept, CutsKeptOfPlain, CutsKeptOfText}
use Rattle.rtk_commands.proofs.GpsTableLemmas.{some-file}

-- ---- the part of a plain text

same-counts : (counts other : CutCounts) → counts.records ≡ other.records → counts.written ≡ other.written → Cut counts ≡ Cut other
same-counts counts other records written = ap Cut (λ i. record { records = records i; written = written i })

pub plain-all : (part : Part) (plain : List ℕ) (w : TimeLines) (m : LabelView) (counts : CutCounts) (before after : Option (List ℕ)) → IsTextOfSomeFile plain → WritesLabelledPart m w plain part before after
    → CountsPartOfFile plain part counts → WritesAll (CutsPlain part plain w m (Cut counts)) before after
plain-all part plain w m counts before after (f, good, is) wrote counted =
    let two = counted f good is in
    (labelled_file w m (part_of_file part f), (f, good, is, (same-counts counts (part_counts part f) two.0 two.1, refl)), wrote f good is)

pub plain-first : (part : Part) (plain : List ℕ) (w : TimeLines) (m : LabelView) (before after : Option (List ℕ)) → IsTextOfSomeFile plain → WritesFirstOfLabelledPart m w plain part before after
    → WritesFirst (CutsPlain part plain w m) before after
plain-first part plain w m before after (f, good, is) wrote =
    (Cut (part_counts part f), labelled_file w m (part_of_file part f), (f, good, is, (refl, refl)), wrote f good is)

-- ---- what is kept

-- this holds of each table whose text this is
abbrev pub OfEach : List ℕ → (MixedTable → Type 0) → Type 0
OfEach plain P = (t : MixedTable) → IsMixedTable t → plain ≡ mixed_table_text t → P t

-- what holds of each option holds of the one that there is
pub of-some : {A : Type 0} (P : A → Type 0) (o : Option A) (a : A) → o ≡ Some a → IfSome o P → P a
of-some P o a is p = subst (λ x. IfSome x P) is p

pub match-some : {A : Type 0} (Q : Type 0) (P : A → Type 0) (o : Option A) (a : A) → o ≡ Some a → MatchOption o Q P → P a
match-some Q P o a is p = subst (λ x. MatchOption x Q P) is p

pub match-none : {A : Type 0} (Q : Type 0) (P : A → Type 0) (o : Option A) → o ≡ None → MatchOption o Q P → Q
match-none Q P o is p = subst (λ x. MatchOption x Q P) is p

-- a system is absent
pub absent-all : (k : KeptPart) (plain : List ℕ) (w : TimeLines) (l : LabelView) (system : System) (held : Option (List ℕ)) → IsTextOfSystems plain → OfEach plain (λ t. Some system ≡ first_absent k.kept t.head.listed)
    → WritesAll (CutsKeptOfPlain k plain w l (Absent system)) held held
absent-all k plain w l system held (t, good, is) absent =
    let none : List ℕ = [] in
    (none, (t, good, is, subst (λ (o : Option System). CutsUnless k t w l o (Absent system) none) (absent t good is) (refl, refl)), sym (with_more-nil held))

present : (k : KeptPart) (t : MixedTable) (w : TimeLines) (l : LabelView) (answer : FileAnswer) (bytes : List ℕ) → first_absent k.kept t.head.listed ≡ None
    → CutsIfSome k t w l (kept_codes k.kept t.head.listed) answer bytes → CutsKept k t w l answer bytes
present k t w l answer bytes none cuts = subst (λ (o : Option System). CutsUnless k t w l o answer bytes) (sym none) cuts

-- no code is kept
pub none-all : (k : KeptPart) (plain : List ℕ) (w : TimeLines) (l : LabelView) (held : Option (List ℕ)) → IsTextOfSystems plain → HasNoneAbsent k.kept plain
    → OfEach plain (λ t. kept_codes k.kept t.head.listed ≡ []) → WritesAll (CutsKeptOfPlain k plain w l NoneChosen) held held
none-all k plain w l held (t, good, is) all empty =
    let none : List ℕ = [] in
    let cuts = subst (λ (cs : List AnyCode). CutsIfSome k t w l cs NoneChosen none) (sym (empty t good is)) (refl, refl) in
    (none, (t, good, is, present k t w l NoneChosen none (all t good is) cuts), sym (with_more-nil held))

some-codes : (k : KeptPart) (t : MixedTable) (w : TimeLines) (l : LabelView) (codes : List AnyCode) (answer : FileAnswer) (bytes : List ℕ) → codes ≢ [] → CutsPlain k.part (mixed_table_text (kept_table k.kept t)) w l answer bytes
    → CutsIfSome k t w l codes answer bytes
some-codes k t w l [] answer bytes some cuts = absurd (some refl)
some-codes k t w l (c ∷ cs) answer bytes some cuts = cuts

kept-cuts : (k : KeptPart) (narrow : List ℕ) (t : MixedTable) (w : TimeLines) (l : LabelView) (answer : FileAnswer) (bytes : List ℕ) → first_absent k.kept t.head.listed ≡ None → kept_codes k.kept t.head.listed ≢ []
    → narrow ≡ mixed_table_text (kept_table k.kept t) → CutsPlain k.part narrow w l answer bytes → CutsKept k t w l answer bytes
kept-cuts k narrow t w l answer bytes all some text cuts =
    present k t w l answer bytes all (some-codes k t w l (kept_codes k.kept t.head.listed) answer bytes some (subst (λ (x : List ℕ). CutsPlain k.part x w l answer bytes) text cuts))

pub kept-all : (k : KeptPart) (plain narrow : List ℕ) (w : TimeLines) (l : LabelView) (answer : FileAnswer) (before after : Option (List ℕ)) → IsTextOfSystems plain → HasNoneAbsent k.kept plain
    → OfEach plain (λ t. kept_codes k.kept t.head.listed ≢ []) → OfEach plain (λ t. narrow ≡ mixed_table_text (kept_table k.kept t))
    → WritesAll (CutsPlain k.part narrow w l answer) before after → WritesAll (CutsKeptOfPlain k plain w l answer) before after
kept-all k plain narrow w l answer before after (t, good, is) all some text (bytes, cuts, took) =
    (bytes, (t, good, is, kept-cuts k narrow t w l answer bytes (all t good is) (some t good is) (text t good is) cuts), took)

pub kept-first : (k : KeptPart) (plain narrow : List ℕ) (w : TimeLines) (l : LabelView) (before after : Option (List ℕ)) → IsTextOfSystems plain → HasNoneAbsent k.kept plain
    → OfEach plain (λ t. kept_codes k.kept t.head.listed ≢ []) → OfEach plain (λ t. narrow ≡ mixed_table_text (kept_table k.kept t))
    → WritesFirst (CutsPlain k.part narrow w l) before after → WritesFirst (CutsKeptOfPlain k plain w l) before after
kept-first k plain narrow w l before after (t, good, is) all some text (answer, bytes, cuts, took) =
    (answer, bytes, (t, good, is, kept-cuts k narrow t w l answer bytes (all t good is) (some t good is) (text t good is) cuts), took)

-- what is kept is a file
pub kept-some_file : KeptFilesAreTables → GpsFilesStay → GpsRecordsStay → TypesTellShifts → (ks : SystemFlags) (plain narrow : List ℕ) → IsTextOfSystems plain → OfEach plain (λ t. kept_codes ks t.head.listed ≢ [])
    → OfEach plain (λ t. narrow ≡ mixed_table_text (kept_table ks t)) → IsTextOfSomeFile narrow
kept-some_file tables header records tell ks plain narrow (t, good, is) some text =
    subst IsTextOfSomeFile (sym (text t good is)) (some-file header records tell (kept_table ks t) (tables ks t good (some t good is)))

-- ---- a text with a label

labelled-as : (text plain : List ℕ) (w : TimeLines) (l : LabelView) (t : MixedTable) → IsPartedMixed text plain l w → IsMixedTable t → plain ≡ mixed_table_text t → IsLabelledText text t l
labelled-as text plain w l t parted good is =
    let both = parted.parted.labelled_mixed t good is in
    record {
      times = w;
      table = good;
      label = parted.parted.good;
      fits = both.1;
      text = both.0 ∙ ap (λ (x : List ℕ). labelled_mixed_with x l t) (parted.due t good is);
    }

-- what was parted is a text of a table
pub parted-systems : (text plain : List ℕ) (w : TimeLines) (l : LabelView) → IsPartedMixed text plain l w → IsTextOfSystems plain
parted-systems text plain w l p = (p.table, p.is_table, p.is_text)

pub text-all : (k : KeptPart) (text plain : List ℕ) (w : TimeLines) (l : LabelView) (answer : FileAnswer) (before after : Option (List ℕ)) → IsPartedMixed text plain l w
    → WritesAll (CutsKeptOfPlain k plain w l answer) before after → WritesAll (CutsKeptOfText k text answer) before after
unfolding labelled-as
text-all k text plain w l answer before after parted (bytes, (t, good, is, cuts), took) = (bytes, inl (t, l, labelled-as text plain w l t parted good is, cuts), took)

pub text-first : (k : KeptPart) (text plain : List ℕ) (w : TimeLines) (l : LabelView) (before after : Option (List ℕ)) → IsPartedMixed text plain l w
    → WritesFirst (CutsKeptOfPlain k plain w l) before after → WritesFirst (CutsKeptOfText k text) before after
unfolding labelled-as
text-first k text plain w l before after parted (answer, bytes, (t, good, is, cuts), took) = (answer, bytes, inl (t, l, labelled-as text plain w l t parted good is, cuts), took)

pub refused-all : (k : KeptPart) (text : List ℕ) (fault : CheckFault) (held : Option (List ℕ)) → IsMixedRefused text fault → WritesAll (CutsKeptOfText k text (Refused fault)) held held
refused-all k text fault held is = ([], inr (fault, refl, is, refl), sym (with_more-nil held))
