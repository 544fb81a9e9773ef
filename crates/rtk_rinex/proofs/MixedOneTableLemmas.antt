-- Two well-formed tables of any systems of one text are equal, and what is answered to the text of such a
-- table is this table.
use Rattle.std.proofs.Common.{◌≡◌, length, refl, sym, ◌∙◌, ap, flat_map}
use Rattle.std.specs.Prelude.{Ok, Err, All}
use Rattle.rtk_rinex.specs.MixedHead.{MixedHeadView}
use Rattle.rtk_rinex.specs.CheckText.{satellite_lines}
use Rattle.rtk_rinex.specs.MixedRecord.{mixed_record_text}
use Rattle.rtk_rinex.specs.MixedForm.{form_of_head}
use Rattle.rtk_rinex.specs.MixedTable.{MixedTable, IsMixedEpoch, mixed_table_text}
use Rattle.rtk_rinex.specs.MixedCheckTable.{MixedOneTable, MixedTextIsAccepted}
use Rattle.rtk_rinex.proofs.MixedListLemmas.{HaveOnePlace}
use Rattle.rtk_rinex.proofs.MixedOneFaultLemmas.{mixed-fault-none}
use Rattle.rtk_rinex.proofs.MixedPartsLemmas.{MixedValues, IsGoodMixed, mixed_values}
use Rattle.rtk_rinex.proofs.MixedSameHeaderLemmas.{HaveOneText, one_mixed_header}
use Rattle.rtk_rinex.proofs.MixedTextLemmas.{same_table, same_list}
use Rattle.rtk_rinex.proofs.OneTableLemmas.{same_view}

-- ---- one table

pub one_mixed_table : HaveOnePlace → HaveOneText → MixedOneTable
one_mixed_table places texts t u g f e =
    let good : IsGoodMixed (mixed_values t.head t.site t.first) = record { heading = g.head; site = g.site; first = g.first } in
    let other : IsGoodMixed (mixed_values u.head u.site u.first) = record { heading = f.head; site = f.site; first = f.first } in
    let one = one_mixed_header places texts (mixed_values t.head t.site t.first) (mixed_values u.head u.site u.first) (flat_map (mixed_record_text t.head.doppler) t.epochs) (flat_map (mixed_record_text u.head.doppler) u.epochs) good other e in
    let head : t.head ≡ u.head = ap (λ (v : MixedValues). v.head) one.0 in
    let epochs : All (IsMixedEpoch (form_of_head t.head)) u.epochs = rw (← head) at f.epochs in
    same_table t.head u.head t.site u.site t.first u.first t.epochs u.epochs head (ap (λ (v : MixedValues). v.site) one.0) (ap (λ (v : MixedValues). v.first) one.0)
    (sym (same_list (form_of_head t.head) t.epochs u.epochs g.epochs epochs (one.1 ∙ ap (λ (k : MixedHeadView). flat_map (mixed_record_text k.doppler) u.epochs) (sym head))))

-- ---- what is answered to the text of a table

pub mixed_text-is_accepted : HaveOnePlace → HaveOneText → MixedTextIsAccepted
mixed_text-is_accepted places texts t (Ok v) is answer =
    let held = answer.1 in
    let same : t ≡ held.table = held.only t is refl in
    same_view v.text (mixed_table_text t) v.epochs (length t.epochs) v.satellites (satellite_lines t.epochs) answer.0
    (sym held.epochs ∙ ap (λ (u : MixedTable). length u.epochs) (sym same))
    (sym held.satellites ∙ ap (λ (u : MixedTable). satellite_lines u.epochs) (sym same))
mixed_text-is_accepted places texts t (Err fault) is answer = mixed-fault-none places texts (mixed_table_text t) fault answer t is refl
