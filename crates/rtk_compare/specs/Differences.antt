-- The differences of two files, and how they are counted. All of it is this project's rule.
use Rattle.std.specs.Prelude.{◌≡◌, ℕ, Bool, true, false, not, ◌&&◌, List, ◌++◌, length, take}
use Rattle.std.specs.List.{filter, list_any}
use Rattle.rtk_rinex.specs.MixedTable.{MixedTable, IsMixedTable, mixed_table_text}
use Rattle.rtk_tracking.specs.Epochs.{capped}
use Rattle.rtk_compare.specs.declared.difference.Class.{Class}
use Rattle.rtk_compare.specs.declared.difference.Class.TheVariants.{Lost, Changed, Explained}
use Rattle.rtk_compare.specs.declared.difference.Difference.{Difference}
use Rattle.rtk_compare.specs.declared.findings.Found.{Found}
use Rattle.rtk_compare.specs.declared.findings.Findings.{Findings}
use Rattle.rtk_compare.specs.Codes.{shared_codes}
use Rattle.rtk_compare.specs.Headers.{header_lines}
use Rattle.rtk_compare.specs.Records.{record_lines}

-- the differences of two files: those of their headers, then those of their epochs. Doppler shifts are compared if both
-- show them
abbrev pub differences : MixedTable → MixedTable → List Difference
differences t u = header_lines t.head t.site u.head u.site ++ record_lines (shared_codes (t.head.doppler && u.head.doppler) t.head.listed u.head.listed) t.epochs u.epochs

-- ---- counts

abbrev pub is_class : Class → Class → Bool
is_class Lost Lost = true
is_class Changed Changed = true
is_class Explained Explained = true
is_class c d = false

abbrev pub of_class : Class → List Difference → List Difference
of_class c ds = filter (λ d. is_class c d.class) ds

-- constant
-- so many are kept of a class
abbrev pub most_kept : ℕ
most_kept = 100

-- the number of the differences of a class, and the first ones of them
pub record HasFound (c : Class) (found : Found) (ds : List Difference) : Type 0 where
  pub count : found.count ≡ capped (length (of_class c ds))
  pub first : found.first.items ≡ take most_kept (of_class c ds)

-- what was found are these differences
pub record HasFindings (f : Findings) (ds : List Difference) : Type 0 where
  pub lost : HasFound Lost f.lost ds
  pub changed : HasFound Changed f.changed ds
  pub explained : HasFound Explained f.explained ds

-- more differences were found: before, after
pub record Adds (before after : Findings) (more : List Difference) : Type 0 where
  pub adds : (ds : List Difference) → HasFindings before ds → HasFindings after (ds ++ more)

-- some difference is lost or changed, and not explained
abbrev pub is_worse : List Difference → Bool
is_worse ds = list_any (λ d. not (is_class Explained d.class)) ds

-- the differences of the files of these texts were found
abbrev pub AddsDifferences : Findings → Findings → List ℕ → List ℕ → Type 0
AddsDifferences before after old new =
    (t u : MixedTable) → IsMixedTable t → old ≡ mixed_table_text t → IsMixedTable u → new ≡ mixed_table_text u
    → Adds before after (differences t u)
