-- What is said of a text, by what is left of it without its label and its time lines.
use Rattle.std.proofs.Common.{◌≡◌, ◌<◌, ◌+◌, ◌^◌, inl, inr, ℕ, List, [], length, Option, Some, None, Result, Ok, Err, refl, sym, subst}
use Rattle.std.specs.Prelude.{MatchOption}
use Rattle.rtk_frame.proofs.PublicLaws.{with_more-nil}
use Rattle.rtk_rinex.specs.declared.check_fault.CheckFault.{CheckFault}
use Rattle.rtk_rinex.specs.declared.check_fault.Cause.TheVariants.{HeaderLine}
use Rattle.rtk_label.specs.Fields.{marker_number_line}
use Rattle.rtk_label.specs.Labelled.{LabelView}
use Rattle.rtk_label.specs.LabelWriting.{IsParted, IsWrongLine, line_in_text}
use Rattle.rtk_label.specs.declared.time_lines.TimeLines.{TimeLines}
use Rattle.rtk_commands.specs.declared.file_answer.FileAnswer.{FileAnswer}
use Rattle.rtk_commands.specs.declared.file_answer.FileAnswer.TheVariants.{Refused}
use Rattle.rtk_commands.specs.FileTable.{FileTable, IsFileTable, file_text, file_lines, HaveLines, IsTextOfSomeFile, IsTextOfNoFile, IsFaultOfFile, text_of, HasItsLetter}
use Rattle.rtk_commands.specs.FileText.{WritesAll, WritesFirst}
use Rattle.rtk_commands.specs.WithLabel.{OfItsTable, TellsWrongLine, IsPartedTable, IsRefused, IsReadTable, MakesOfFile, WritesOfTable}
use Rattle.rtk_commands.specs.declared.with_label.LabelledTable.{LabelledTable}
use Rattle.rtk_commands.proofs.FileTableLemmas.{labelled-file, every-file}

-- ---- what is left of a text

-- the same texts by other names
pub parted_as : (text other plain left : List ℕ) (m : LabelView) (w : TimeLines) (lines : List ℕ) → other ≡ text → left ≡ plain → IsParted text plain m w lines → IsParted other left m w lines
parted_as text other plain left m w lines e f parted = rw (e, f) parted

pub some_as : (plain left : List ℕ) → left ≡ plain → IsTextOfSomeFile plain → IsTextOfSomeFile left
some_as plain left e some = rw e some

-- the time lines, by the first wrong one
pub due-lines : (plain lines due : List ℕ) (from : ℕ) (w : TimeLines) (told : Option ℕ) → HaveLines plain w due → MatchOption told (lines ≡ due) (IsWrongLine from lines due)
    → TellsWrongLine plain from w lines told
due-lines plain lines due from w told have is f good e =
    subst (λ (x : List ℕ). MatchOption told (lines ≡ x) (IsWrongLine from lines x)) (have f good e) is

pub none-wrong : (plain lines : List ℕ) (from : ℕ) (w : TimeLines) (told : Option ℕ) → TellsWrongLine plain from w lines told → told ≡ None → HaveLines plain w lines
none-wrong plain lines from w told tells none f good e =
    subst (λ (o : Option ℕ). MatchOption o (lines ≡ file_lines w f) (IsWrongLine from lines (file_lines w f))) none (tells f good e)

some-wrong : (plain lines : List ℕ) (from : ℕ) (w : TimeLines) (told : Option ℕ) (n : ℕ) → TellsWrongLine plain from w lines told → told ≡ Some n
    → (f : FileTable) → IsFileTable f → plain ≡ file_text f → IsWrongLine from lines (file_lines w f) n
some-wrong plain lines from w told n tells some f good e =
    subst (λ (o : Option ℕ). MatchOption o (lines ≡ file_lines w f) (IsWrongLine from lines (file_lines w f))) some (tells f good e)

-- the text is that of no file, since what is left is that of none
pub refused_with : (m : LabelView) (w : TimeLines) (lines text plain : List ℕ) (from : ℕ) (fault other : CheckFault) → IsParted text plain m w lines → IsTextOfNoFile plain → IsFaultOfFile plain other
    → from ≡ length (marker_number_line m.marker_number) + length lines → length plain + from ≡ length text
    → (other.line + from < 2 ^ 64 → fault.line ≡ line_in_text from lines other.line) → fault.cause ≡ other.cause → IsRefused text fault
refused_with m w lines text plain from fault other parted none is from_is size line cause = (
  λ f good has. none f good (every-file text plain m w lines parted f has.0 has.1 good has.2 has.3 has.4).0,
  record {
    plain = plain;
    label = m;
    times = w;
    lines = lines;
    from = from;
    parted = parted;
    from_is = from_is;
    size = size;
    fault_is = inl (record { of_plain = other; is_fault = is; line = line; cause = cause });
  },
)

-- or since a time line is wrong
pub refused_by_line : (m : LabelView) (w : TimeLines) (lines text plain : List ℕ) (from n : ℕ) (told : Option ℕ) → IsParted text plain m w lines → IsTextOfSomeFile plain
    → TellsWrongLine plain from w lines told → told ≡ Some n → from ≡ length (marker_number_line m.marker_number) + length lines → length plain + from ≡ length text
    → IsRefused text (record { line = n; cause = HeaderLine })
refused_by_line m w lines text plain from n told parted some tells is from_is size = (
  λ f good has.
      let q = every-file text plain m w lines parted f has.0 has.1 good has.2 has.3 has.4 in
      (some-wrong plain lines from w told n tells is f good q.0).wrong (sym q.3),
  record {
    plain = plain;
    label = m;
    times = w;
    lines = lines;
    from = from;
    parted = parted;
    from_is = from_is;
    size = size;
    fault_is = inr (record {
      file = some.0;
      is_file = some.1;
      text = some.2;
      line = some-wrong plain lines from w told n tells is some.0 some.1 some.2;
      cause = refl;
    });
  },
)

-- what was read of a text
pub read-parted : (text : List ℕ) (read : Result LabelledTable CheckFault) (file : LabelledTable) → read ≡ Ok file → IsReadTable text read → IsPartedTable text (text_of file.table) file.label file.times
read-parted text read file is reads = (subst (λ (r : Result LabelledTable CheckFault). IsReadTable text r) is reads).0

pub read-letter : (text : List ℕ) (read : Result LabelledTable CheckFault) (file : LabelledTable) → read ≡ Ok file → IsReadTable text read → HasItsLetter file.table
read-letter text read file is reads = (subst (λ (r : Result LabelledTable CheckFault). IsReadTable text r) is reads).1

pub read-refused : (text : List ℕ) (read : Result LabelledTable CheckFault) (fault : CheckFault) → read ≡ Err fault → IsReadTable text read → IsRefused text fault
read-refused text read fault is reads = subst (λ (r : Result LabelledTable CheckFault). IsReadTable text r) is reads

-- ---- what a command writes

-- of the file whose text is left
pub all_of_table : (Writes : FileTable → TimeLines → LabelView → FileAnswer → List ℕ → Type 0) (text plain : List ℕ) (m : LabelView) (w : TimeLines) (answer : FileAnswer) (before after : Option (List ℕ)) → IsPartedTable text plain m w
    → ((f : FileTable) → IsFileTable f → plain ≡ file_text f → WritesAll (Writes f w m answer) before after) → WritesAll (WritesOfTable Writes text answer) before after
all_of_table Writes text plain m w answer before after p each =
    let f : FileTable = p.some.0 in
    let two = labelled-file text plain m w p f p.some.1 p.some.2 in
    let some = each f p.some.1 p.some.2 in
    (some.0, inl (f, w, m, p.some.1, p.parted.good, two.1, two.0, some.1), some.2)

pub first_of_table : (Writes : FileTable → TimeLines → LabelView → FileAnswer → List ℕ → Type 0) (text plain : List ℕ) (m : LabelView) (w : TimeLines) (before after : Option (List ℕ)) → IsPartedTable text plain m w
    → ((f : FileTable) → IsFileTable f → plain ≡ file_text f → WritesFirst (Writes f w m) before after) → WritesFirst (WritesOfTable Writes text) before after
first_of_table Writes text plain m w before after p each =
    let f : FileTable = p.some.0 in
    let two = labelled-file text plain m w p f p.some.1 p.some.2 in
    let some = each f p.some.1 p.some.2 in
    (some.0, some.1, inl (f, w, m, p.some.1, p.parted.good, two.1, two.0, some.2), some.3)

-- of all bytes that were made of it
pub made_of_table : (Writes : FileTable → TimeLines → LabelView → FileAnswer → List ℕ → Type 0) (text plain : List ℕ) (m : LabelView) (w : TimeLines) (answer : FileAnswer) (bytes : List ℕ) → IsPartedTable text plain m w
    → MakesOfFile Writes plain answer bytes → WritesOfTable Writes text answer bytes
made_of_table Writes text plain m w answer bytes p each =
    let f : FileTable = p.some.0 in
    let two = labelled-file text plain m w p f p.some.1 p.some.2 in
    inl (f, w, m, p.some.1, p.parted.good, two.1, two.0, each f w m p.some.1 p.some.2)

-- of a text that is refused
pub made_of_refused : (Writes : FileTable → TimeLines → LabelView → FileAnswer → List ℕ → Type 0) (text : List ℕ) (fault : CheckFault) → IsRefused text fault → WritesOfTable Writes text (Refused fault) []
made_of_refused Writes text fault is = inr (fault, refl, is, refl)

pub all_of_refused : (Writes : FileTable → TimeLines → LabelView → FileAnswer → List ℕ → Type 0) (text : List ℕ) (fault : CheckFault) (held : Option (List ℕ)) → IsRefused text fault
    → WritesAll (WritesOfTable Writes text (Refused fault)) held held
all_of_refused Writes text fault held is = ([], made_of_refused Writes text fault is, sym (with_more-nil held))
