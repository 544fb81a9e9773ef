-- A text has one fault at most, and with a fault it is the text of no well-formed table.
use Rattle.std.proofs.Common.{◌≡◌, ◌≢◌, ℕ, List, length, flat_map, refl, sym, ◌∙◌, arith, ⊎_elim}
use Rattle.std.specs.Prelude.{All}
use Rattle.rtk_rinex.specs.declared.check_fault.Cause.{Cause}
use Rattle.rtk_rinex.specs.declared.check_fault.CheckFault.{CheckFault}
use Rattle.rtk_rinex.specs.Header.{header_text}
use Rattle.rtk_rinex.specs.Record.{record_text}
use Rattle.rtk_rinex.specs.Table.{WellFormedTable, IsWellFormedTable, IsTableEpoch, StartsAt, table_text}
use Rattle.rtk_rinex.specs.HeaderFault.{AreLines, IsFaultOfHeader}
use Rattle.rtk_rinex.specs.Steps.HeaderRead.{HasHeader}
use Rattle.rtk_rinex.specs.CheckText.{IsFaultOfRecords}
use Rattle.rtk_rinex.specs.CheckTable.{IsFaultAfterHeader, IsFault, OneFault, FaultMeansNoTable}
use Rattle.rtk_rinex.proofs.HeaderRowsLemmas.{IsGood, values_of}
use Rattle.rtk_rinex.proofs.HeaderPartsLemmas.{one_header}
use Rattle.rtk_rinex.proofs.TextLemmas.{no_records}
use Rattle.rtk_rinex.proofs.OneRecordsLemmas.{IsSame, one_of_records}
use Rattle.rtk_rinex.proofs.OneHeaderLemmas.{HasFaultAfter, has-fault-after, one_number, no_header, one_of_header}

header-fault-of : (bytes : List ℕ) (f : CheckFault) (a : IsFaultOfHeader bytes f) → HasFaultAfter a.0 bytes f.cause
header-fault-of bytes f a = has-fault-after a.0 bytes f.cause a.2

has-header : (bytes : List ℕ) (f : CheckFault) → IsFaultAfterHeader bytes f → HasHeader bytes
has-header bytes f b = (header_text b.head b.site b.first, b.rest, (b.head, b.site, b.first, b.heading, b.good_site, b.moment, refl), b.text)

of_header : (bytes : List ℕ) (f g : CheckFault) → IsFaultOfHeader bytes f → IsFaultOfHeader bytes g → IsSame f g
of_header bytes f g a b =
    let one = one_of_header a.0 b.0 bytes f.cause g.cause (header-fault-of bytes f a) (header-fault-of bytes g b) in
    (omega (arith, a.1, b.1, one.0), one.1)

header_or_records : (bytes : List ℕ) (f g : CheckFault) → IsFaultOfHeader bytes f → IsFaultAfterHeader bytes g → ⊥
header_or_records bytes f g a b = no_header a.0 bytes f.cause (header-fault-of bytes f a) (has-header bytes g b)

of_records : (bytes : List ℕ) (f g : CheckFault) → IsFaultAfterHeader bytes f → IsFaultAfterHeader bytes g → IsSame f g
of_records bytes f g a b =
    let good : IsGood (values_of a.head a.site a.first) = record { heading = a.heading; site = a.good_site; first = a.moment } in
    let other : IsGood (values_of b.head b.site b.first) = record { heading = b.heading; site = b.good_site; first = b.moment } in
    let one = one_header (values_of a.head a.site a.first) (values_of b.head b.site b.first) a.rest b.rest good other (sym a.text ∙ b.text) in
    let are : AreLines b.lines (header_text a.head a.site a.first) = rw one.text b.are_lines in
    let lines : b.lines ≡ a.lines = one_number b.lines a.lines (header_text a.head a.site a.first) are a.are_lines in
    let records : IsFaultOfRecords (length a.head.listed) a.first a.lines a.rest g = rw (← one.alike.count, ← one.alike.first, lines, ← one.rest) at b.records in
    one_of_records (length a.head.listed) a.first a.lines a.rest f g a.heading.1.0.1 a.records records

is_same : (bytes : List ℕ) (f g : CheckFault) → IsFault bytes f → IsFault bytes g → IsSame f g
is_same bytes f g a b =
    ⊎_elim
    (λ head. ⊎_elim (λ other. of_header bytes f g head other) (λ records. absurd (header_or_records bytes f g head records)) b)
    (λ records. ⊎_elim (λ head. absurd (header_or_records bytes g f head records)) (λ other. of_records bytes f g records other) b)
    a

abbrev fault_with : ℕ → Cause → CheckFault
fault_with line cause = record { line = line; cause = cause }

same_parts : (l m : ℕ) (c d : Cause) → l ≡ m → c ≡ d → fault_with l c ≡ fault_with m d
same_parts l m c d e f = cc

pub same_fault : (f g : CheckFault) → IsSame f g → f ≡ g
same_fault f g s = same_parts f.line g.line f.cause g.cause s.0 s.1

pub one-fault : OneFault
one-fault bytes f g a b = same_fault f g (is_same bytes f g a b)

-- ---- no table

table-header : (bytes : List ℕ) (u : WellFormedTable) → IsWellFormedTable u → bytes ≡ table_text u → HasHeader bytes
table-header bytes u is e =
    (header_text u.head u.site u.first, flat_map record_text u.epochs, (u.head, u.site, u.first, is.head, is.site, is.first, refl), e)

records_or_table : (bytes : List ℕ) (f : CheckFault) → IsFaultAfterHeader bytes f → (u : WellFormedTable) → IsWellFormedTable u → bytes ≢ table_text u
records_or_table bytes f a u is e =
    let good : IsGood (values_of a.head a.site a.first) = record { heading = a.heading; site = a.good_site; first = a.moment } in
    let other : IsGood (values_of u.head u.site u.first) = record { heading = is.head; site = is.site; first = is.first } in
    let one = one_header (values_of a.head a.site a.first) (values_of u.head u.site u.first) a.rest (flat_map record_text u.epochs) good other (sym a.text ∙ e) in
    let epochs : All (IsTableEpoch (length a.head.listed)) u.epochs = rw one.alike.count is.epochs in
    let start : StartsAt a.first u.epochs = rw one.alike.first is.starts in
    no_records (length a.head.listed) a.first a.lines a.rest f u.epochs a.heading.1.0.1 a.records epochs is.rise start one.rest

pub fault-none : FaultMeansNoTable
fault-none bytes f a u is e =
    ⊎_elim
    (λ head. no_header head.0 bytes f.cause (header-fault-of bytes f head) (table-header bytes u is e))
    (λ records. records_or_table bytes f records u is e)
    a
