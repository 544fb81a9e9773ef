-- Two well-formed tables of one text are equal, and what is answered to the text of a table is this
-- table.
use Rattle.std.proofs.Common.{◌≡◌, ℕ, List, length, refl, sym, ◌∙◌, ap, flat_map}
use Rattle.std.specs.Prelude.{Ok, Err, All}
use Rattle.rtk_rinex.specs.Record.{record_text}
use Rattle.rtk_rinex.specs.Table.{WellFormedTable, IsTableEpoch, table_text}
use Rattle.rtk_rinex.specs.CheckText.{satellite_lines}
use Rattle.rtk_rinex.specs.CheckTable.{TableView, OneTable, TextIsAccepted}
use Rattle.rtk_rinex.proofs.HeaderRowsLemmas.{IsGood, values_of}
use Rattle.rtk_rinex.proofs.HeaderTypesLemmas.{HaveOneName}
use Rattle.rtk_rinex.proofs.HeaderPartsLemmas.{one_header}
use Rattle.rtk_rinex.proofs.TextLemmas.{same_table, same_list}
use Rattle.rtk_rinex.proofs.OneFaultLemmas.{fault-none}

-- ---- one table

pub one_table : HaveOneName → OneTable
one_table names t u g f e =
    let good : IsGood (values_of t.head t.site t.first) = record { heading = g.head; site = g.site; first = g.first } in
    let other : IsGood (values_of u.head u.site u.first) = record { heading = f.head; site = f.site; first = f.first } in
    let one = one_header (values_of t.head t.site t.first) (values_of u.head u.site u.first) (flat_map record_text t.epochs) (flat_map record_text u.epochs) good other e in
    let epochs : All (IsTableEpoch (length t.head.listed)) u.epochs = rw (← one.alike.count) at f.epochs in
    same_table t.head u.head t.site u.site t.first u.first t.epochs u.epochs (one.head names) one.alike.site one.alike.first
    (sym (same_list (length t.head.listed) t.epochs u.epochs g.head.1.0.1 g.epochs epochs one.rest))

-- ---- what is answered to the text of a table

abbrev view_with : List ℕ → ℕ → ℕ → TableView
view_with text epochs satellites = record { text = text; epochs = epochs; satellites = satellites }

pub same_view : (a b : List ℕ) (k l m n : ℕ) → a ≡ b → k ≡ l → m ≡ n → view_with a k m ≡ view_with b l n
same_view a b k l m n e f g = cc

pub text-is_accepted : TextIsAccepted
text-is_accepted t (Ok v) is answer =
    let held = answer.1 in
    let same : t ≡ held.table = held.only t is refl in
    same_view v.text (table_text t) v.epochs (length t.epochs) v.satellites (satellite_lines t.epochs) answer.0
    (sym held.epochs ∙ ap (λ (u : WellFormedTable). length u.epochs) (sym same))
    (sym held.satellites ∙ ap (λ (u : WellFormedTable). satellite_lines u.epochs) (sym same))
text-is_accepted t (Err fault) is answer = fault-none (table_text t) fault answer t is refl
