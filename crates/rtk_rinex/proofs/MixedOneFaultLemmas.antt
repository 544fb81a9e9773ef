-- A text of any systems has one fault at most, and with a fault it is the text of no well-formed table.
use Rattle.std.proofs.Common.{◌≡◌, ◌≢◌, ℕ, List, flat_map, refl, sym, ◌∙◌, ap, subst, arith, ⊎_elim}
use Rattle.std.specs.Prelude.{All}
use Rattle.rtk_rinex.specs.MixedHead.{MixedHeadView}
use Rattle.rtk_rinex.specs.declared.check_fault.CheckFault.{CheckFault}
use Rattle.rtk_rinex.specs.HeaderFault.{AreLines}
use Rattle.rtk_rinex.specs.Table.{StartsAt}
use Rattle.rtk_rinex.specs.MixedForm.{form_of_head}
use Rattle.rtk_rinex.specs.MixedHeader.{mixed_header_text}
use Rattle.rtk_rinex.specs.MixedHeaderFault.{BeginsWithMixedHeader, IsFaultOfMixedHeader}
use Rattle.rtk_rinex.specs.MixedRecord.{mixed_record_text}
use Rattle.rtk_rinex.specs.MixedTable.{MixedTable, IsMixedTable, IsMixedEpoch, mixed_table_text}
use Rattle.rtk_rinex.specs.MixedCheckText.{IsFaultOfMixedRecords}
use Rattle.rtk_rinex.specs.MixedCheckTable.{IsFaultAfterMixedHeader, IsMixedFault, MixedOneFault, MixedFaultMeansNoTable}
use Rattle.rtk_rinex.proofs.MixedListLemmas.{HaveOnePlace}
use Rattle.rtk_rinex.proofs.MixedOneHeaderLemmas.{HasMixedFaultAfter, has-mixed-fault-after, no_mixed_header, one_of_mixed_header}
use Rattle.rtk_rinex.proofs.MixedOneRecordsLemmas.{one_of_records}
use Rattle.rtk_rinex.proofs.MixedPartsLemmas.{MixedValues, IsGoodMixed, mixed_values, mixed_text}
use Rattle.rtk_rinex.proofs.MixedSameHeaderLemmas.{HaveOneText, one_mixed_header}
use Rattle.rtk_rinex.proofs.MixedTextLemmas.{header-of, no_records}
use Rattle.rtk_rinex.proofs.OneFaultLemmas.{same_fault}
use Rattle.rtk_rinex.proofs.OneHeaderLemmas.{one_number}
use Rattle.rtk_rinex.proofs.OneRecordsLemmas.{IsSame}

header-fault-of : (bytes : List ℕ) (f : CheckFault) (a : IsFaultOfMixedHeader bytes f) → HasMixedFaultAfter a.0 bytes f.cause
header-fault-of bytes f a = has-mixed-fault-after a.0 bytes f.cause a.2

has-header : (bytes : List ℕ) (f : CheckFault) → IsFaultAfterMixedHeader bytes f → BeginsWithMixedHeader bytes
has-header bytes f b = (mixed_header_text b.head b.site b.first, b.rest, (b.head, b.site, b.first, b.heading, b.good_site, b.moment, refl), b.text)

of_header : (bytes : List ℕ) (f g : CheckFault) → IsFaultOfMixedHeader bytes f → IsFaultOfMixedHeader bytes g → IsSame f g
of_header bytes f g a b =
    let one = one_of_mixed_header a.0 b.0 bytes f.cause g.cause (header-fault-of bytes f a) (header-fault-of bytes g b) in
    (omega (arith, a.1, b.1, one.0), one.1)

header_or_records : HaveOnePlace → HaveOneText → (bytes : List ℕ) (f g : CheckFault) → IsFaultOfMixedHeader bytes f → IsFaultAfterMixedHeader bytes g → ⊥
header_or_records places texts bytes f g a b = no_mixed_header places texts a.0 bytes f.cause (header-fault-of bytes f a) (has-header bytes g b)

of_records : HaveOnePlace → HaveOneText → (bytes : List ℕ) (f g : CheckFault) → IsFaultAfterMixedHeader bytes f → IsFaultAfterMixedHeader bytes g → IsSame f g
of_records places texts bytes f g a b =
    let u : MixedValues = mixed_values a.head a.site a.first in
    let v : MixedValues = mixed_values b.head b.site b.first in
    let good : IsGoodMixed u = record { heading = a.heading; site = a.good_site; first = a.moment } in
    let other : IsGoodMixed v = record { heading = b.heading; site = b.good_site; first = b.moment } in
    let one = one_mixed_header places texts u v a.rest b.rest good other (sym a.text ∙ b.text) in
    let head : a.head ≡ b.head = ap (λ (w : MixedValues). w.head) one.0 in
    let first : a.first ≡ b.first = ap (λ (w : MixedValues). w.first) one.0 in
    let are : AreLines b.lines (mixed_header_text a.head a.site a.first) =
    subst (λ (t : List ℕ). AreLines b.lines t) (sym (ap mixed_text one.0)) b.are_lines in
    let lines : b.lines ≡ a.lines = one_number b.lines a.lines (mixed_header_text a.head a.site a.first) are a.are_lines in
    let records : IsFaultOfMixedRecords (form_of_head a.head) a.first a.lines a.rest g = rw (← head, ← first, lines, ← one.1) at b.records in
    one_of_records (form_of_head a.head) a.first a.lines a.rest f g a.records records

is_same : HaveOnePlace → HaveOneText → (bytes : List ℕ) (f g : CheckFault) → IsMixedFault bytes f → IsMixedFault bytes g → IsSame f g
is_same places texts bytes f g a b =
    ⊎_elim
    (λ head. ⊎_elim (λ other. of_header bytes f g head other) (λ records. absurd (header_or_records places texts bytes f g head records)) b)
    (λ records. ⊎_elim (λ head. absurd (header_or_records places texts bytes g f head records)) (λ other. of_records places texts bytes f g records other) b)
    a

pub one-mixed-fault : HaveOnePlace → HaveOneText → MixedOneFault
one-mixed-fault places texts bytes f g a b = same_fault f g (is_same places texts bytes f g a b)

-- ---- no table

records_or_table : HaveOnePlace → HaveOneText → (bytes : List ℕ) (f : CheckFault) → IsFaultAfterMixedHeader bytes f → (t : MixedTable) → IsMixedTable t → bytes ≢ mixed_table_text t
records_or_table places texts bytes f a t is e =
    let u : MixedValues = mixed_values a.head a.site a.first in
    let v : MixedValues = mixed_values t.head t.site t.first in
    let good : IsGoodMixed u = record { heading = a.heading; site = a.good_site; first = a.moment } in
    let other : IsGoodMixed v = record { heading = is.head; site = is.site; first = is.first } in
    let one = one_mixed_header places texts u v a.rest (flat_map (mixed_record_text t.head.doppler) t.epochs) good other (sym a.text ∙ e) in
    let head : a.head ≡ t.head = ap (λ (w : MixedValues). w.head) one.0 in
    let first : a.first ≡ t.first = ap (λ (w : MixedValues). w.first) one.0 in
    let epochs : All (IsMixedEpoch (form_of_head a.head)) t.epochs = rw head is.epochs in
    let start : StartsAt a.first t.epochs = rw first is.starts in
    no_records (form_of_head a.head) a.first a.lines a.rest f t.epochs a.records epochs is.rise start (one.1 ∙ ap (λ (k : MixedHeadView). flat_map (mixed_record_text k.doppler) t.epochs) (sym head))

pub mixed-fault-none : HaveOnePlace → HaveOneText → MixedFaultMeansNoTable
mixed-fault-none places texts bytes f a t is e =
    ⊎_elim
    (λ head. no_mixed_header places texts head.0 bytes f.cause (header-fault-of bytes f head) (header-of t bytes is e))
    (λ records. records_or_table places texts bytes f records t is e)
    a
