-- Two texts, by what is left of each without its label.
use Rattle.std.proofs.Common.{◌≡◌, ◌<◌, ◌+◌, ◌^◌, ℕ, Bool, List, Option, Some, None, Result, Ok, Err, length, inl, inr, refl, sym, ap, subst, ◌∙◌}
use Rattle.std.specs.Prelude.{MatchOption}
use Rattle.rtk_rinex.specs.MixedCheckTable.{HoldsMixedTable, IsMixedFault, IsWithoutMixedTable}
use Rattle.rtk_rinex.specs.MixedTable.{MixedTable, IsMixedTable, mixed_table_text}
use Rattle.rtk_rinex.specs.declared.check_fault.CheckFault.{CheckFault}
use Rattle.rtk_rinex.specs.declared.check_fault.Cause.TheVariants.{HeaderLine}
use Rattle.rtk_cut.specs.Extent.{extent_of}
use Rattle.rtk_label.specs.Fields.{marker_number_line}
use Rattle.rtk_label.specs.Labelled.{LabelView, labelled_mixed_with}
use Rattle.rtk_label.specs.LabelWriting.{IsParted, IsWrongLine, line_in_text}
use Rattle.rtk_label.specs.declared.time_lines.TimeLines.{TimeLines}
use Rattle.rtk_compare.specs.declared.difference.Difference.{Difference}
use Rattle.rtk_compare.specs.declared.findings.Findings.{Findings}
use Rattle.rtk_compare.specs.Answer.{answer_text}
use Rattle.rtk_compare.specs.Differences as differences
use Rattle.rtk_commands.specs.declared.comparing.Compare.{Compare}
use Rattle.rtk_commands.specs.declared.with_label.LabelledMixed.{LabelledMixed}
use Rattle.rtk_commands.specs.FileTable.{lines_of_epochs}
use Rattle.rtk_commands.specs.CompareInput.{IsLabelledText, HaveMixedLines, TellsWrongMixedLine, IsPartedMixed, IsMixedRefused, IsReadMixed, lines_of_labels, all_differences, TellsDifferences}
use Rattle.rtk_commands.proofs.FileTableLemmas.{mixed-moment}

-- what was parted is a table with a label and its time lines
pub labelled : (text plain : List ℕ) (m : LabelView) (w : TimeLines) → (p : IsPartedMixed text plain m w) → IsLabelledText text p.table m
labelled text plain m w p =
    let both = p.parted.labelled_mixed p.table p.is_table p.is_text in
    record {
      times = w;
      table = p.is_table;
      label = p.parted.good;
      fits = both.1;
      text = both.0 ∙ ap (λ (x : List ℕ). labelled_mixed_with x m p.table) (p.due p.table p.is_table p.is_text);
    }

pub parted_mixed : (text plain : List ℕ) (m : LabelView) (w : TimeLines) (lines : List ℕ) (n k : ℕ) → IsParted text plain m w lines → HoldsMixedTable plain n k → HaveMixedLines plain w lines
    → IsPartedMixed text plain m w
parted_mixed text plain m w lines n k parted holds due = record {
  lines = lines;
  parted = parted;
  table = holds.table;
  is_table = holds.is_table;
  is_text = holds.text;
  due = due;
}

-- the time lines, by the first wrong one
pub due-mixed : (plain lines due : List ℕ) (from : ℕ) (w : TimeLines) (told : Option ℕ) → HaveMixedLines plain w due → MatchOption told (lines ≡ due) (IsWrongLine from lines due)
    → TellsWrongMixedLine plain from w lines told
due-mixed plain lines due from w told have is t good e =
    subst (λ (x : List ℕ). MatchOption told (lines ≡ x) (IsWrongLine from lines x)) (have t good e) is

pub none-wrong_mixed : (plain lines : List ℕ) (from : ℕ) (w : TimeLines) (told : Option ℕ) → TellsWrongMixedLine plain from w lines told → told ≡ None → HaveMixedLines plain w lines
none-wrong_mixed plain lines from w told tells none t good e =
    subst (λ (o : Option ℕ). MatchOption o (lines ≡ lines_of_epochs w t.epochs) (IsWrongLine from lines (lines_of_epochs w t.epochs))) none (tells t good e)

some-wrong_mixed : (plain lines : List ℕ) (from : ℕ) (w : TimeLines) (told : Option ℕ) (n : ℕ) → TellsWrongMixedLine plain from w lines told → told ≡ Some n
    → (t : MixedTable) → IsMixedTable t → plain ≡ mixed_table_text t → IsWrongLine from lines (lines_of_epochs w t.epochs) n
some-wrong_mixed plain lines from w told n tells some t good e =
    subst (λ (o : Option ℕ). MatchOption o (lines ≡ lines_of_epochs w t.epochs) (IsWrongLine from lines (lines_of_epochs w t.epochs))) some (tells t good e)

-- a text that is parted is that of no other table, label and lines
every-mixed : (text plain : List ℕ) (m : LabelView) (w : TimeLines) (lines : List ℕ) → IsParted text plain m w lines → (t : MixedTable) (l : LabelView) → IsLabelledText text t l
    → (plain ≡ mixed_table_text t) × (lines_of_epochs w t.epochs ≡ lines)
every-mixed text plain m w lines parted t l has =
    let q = parted.every_mixed t l has.times (extent_of t.epochs).interval_ms (extent_of t.epochs).last has.table has.label has.fits (mixed-moment t has.table) has.text in
    (q.0, q.3)

-- the fault of what is left
pub refused_mixed : (m : LabelView) (w : TimeLines) (lines text plain : List ℕ) (from : ℕ) (fault other : CheckFault) → IsParted text plain m w lines → IsWithoutMixedTable plain → IsMixedFault plain other
    → from ≡ length (marker_number_line m.marker_number) + length lines → length plain + from ≡ length text
    → (other.line + from < 2 ^ 64 → fault.line ≡ line_in_text from lines other.line) → fault.cause ≡ other.cause → IsMixedRefused text fault
refused_mixed m w lines text plain from fault other parted none is from_is size line cause = (
  λ t l has. none t has.table (every-mixed text plain m w lines parted t l has).0,
  record {
    plain = plain;
    label = m;
    times = w;
    lines = lines;
    from = from;
    parted = parted;
    from_is = from_is;
    size = size;
    fault_is = inl (record { of_plain = other; is_fault = is; line = line; cause = cause });
  },
)

-- a wrong time line
pub refused_mixed_line : (m : LabelView) (w : TimeLines) (lines text plain : List ℕ) (from n a b : ℕ) (told : Option ℕ) → IsParted text plain m w lines → HoldsMixedTable plain a b
    → TellsWrongMixedLine plain from w lines told → told ≡ Some n → from ≡ length (marker_number_line m.marker_number) + length lines → length plain + from ≡ length text
    → IsMixedRefused text (record { line = n; cause = HeaderLine })
refused_mixed_line m w lines text plain from n a b told parted holds tells is from_is size = (
  λ t l has.
      let q = every-mixed text plain m w lines parted t l has in
      (some-wrong_mixed plain lines from w told n tells is t has.table q.0).wrong (sym q.1),
  record {
    plain = plain;
    label = m;
    times = w;
    lines = lines;
    from = from;
    parted = parted;
    from_is = from_is;
    size = size;
    fault_is = inr (record {
      table = holds.table;
      is_table = holds.is_table;
      text = holds.text;
      line = some-wrong_mixed plain lines from w told n tells is holds.table holds.is_table holds.text;
      cause = refl;
    });
  },
)

-- what was read of a text
pub read-mixed : (text : List ℕ) (read : Result LabelledMixed CheckFault) (file : LabelledMixed) → read ≡ Ok file → IsReadMixed text read → IsPartedMixed text file.table.text file.label file.times
read-mixed text read file is reads = subst (λ (r : Result LabelledMixed CheckFault). IsReadMixed text r) is reads

pub read-mixed_refused : (text : List ℕ) (read : Result LabelledMixed CheckFault) (fault : CheckFault) → read ≡ Err fault → IsReadMixed text read → IsMixedRefused text fault
read-mixed_refused text read fault is reads = subst (λ (r : Result LabelledMixed CheckFault). IsReadMixed text r) is reads

pub told_of : (command : Compare) (old new old_plain new_plain : List ℕ) (l m : LabelView) (w v : TimeLines) (before after : Findings) (worse : Bool) (text : List ℕ) → (p : IsPartedMixed old old_plain l w)
    → (q : IsPartedMixed new new_plain m v)
    → differences.HasFindings before (lines_of_labels command.labels l m) → differences.AddsDifferences before after old_plain new_plain
    → ((ds : List Difference) → differences.HasFindings after ds → worse ≡ differences.is_worse ds) → text ≡ answer_text command.form after → TellsDifferences command old new worse text
told_of command old new old_plain new_plain l m w v before after worse text p q labels added says told =
    let found = (added p.table q.table p.is_table p.is_text q.is_table q.is_text).adds (lines_of_labels command.labels l m) labels in
    record {
      old_table = p.table;
      old_label = l;
      new_table = q.table;
      new_label = m;
      findings = after;
      is_old = labelled old old_plain l w p;
      is_new = labelled new new_plain m v q;
      found = found;
      says = says (all_differences command l p.table m q.table) found;
      told = told;
    }
