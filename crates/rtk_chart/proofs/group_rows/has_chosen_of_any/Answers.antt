use Rattle.std.proofs.Common.{◌≡◌, ◌||◌, Bool, true, false, [], refl, sym, ap, ◌∙◌}
use Rattle.std.specs.List.{list_any}
use Rattle.rtk_rinex.specs.Record.{EpochTableView}
use Rattle.rtk_chart.specs.Choice.{has_row}
use Rattle.rtk_chart.proofs.ChoiceLemmas.{found-stays}
use Rattle.rtk_chart.proofs.GroupLemmas.{HasComeOfAny, record-more, record-all}
use Rattle.rtk_chart.proofs.group_rows.has_chosen_of_any.Goals as goal

pub loop-record-init : goal.loop-record-init
loop-record-init c = λ t is text. ([], t.epochs, (c.records-records.ensures.records t is text).1, refl, refl)

pub loop-record-preserved : goal.loop-record-preserved
loop-record-preserved c = λ t is text.
    let p : EpochTableView → Bool = has_row c.args.chosen.now in
    record-more (λ found es. list_any p es ≡ found) c.loop-record.records c.next.new.self false false t.epochs c.in-Some.record
    (c.loop-record.invariant t is text) c.in-Some.ensures.next
    (λ es e of good none. ap (λ (b : Bool). b || list_any p es) (sym (c.has_chosen_row.ensures e of) ∙ c.if-has_chosen_row.false) ∙ none)

pub returns-then-has_chosen_row : goal.returns-then-has_chosen_row
returns-then-has_chosen_row c = λ t is text.
    let p : EpochTableView → Bool = has_row c.args.chosen.now in
    let come : HasComeOfAny (λ found es. list_any p es ≡ found) c.next.new.self true t.epochs =
    record-more (λ found es. list_any p es ≡ found) c.loop-record.records c.next.new.self false true t.epochs c.in-Some.record
    (c.loop-record.invariant t is text) c.in-Some.ensures.next
    (λ es e of good none. ap (λ (b : Bool). b || list_any p es) (sym (c.has_chosen_row.ensures e of) ∙ c.if-has_chosen_row.true))
    in
    sym (ap (list_any p) (sym come.3) ∙ found-stays p come.1 come.0 come.4)

pub returns : goal.returns
returns c = λ t is text.
    sym (record-all (λ found es. list_any (has_row c.args.chosen.now) es ≡ found) c.loop-record.records false t.epochs (c.loop-record.invariant t is text) c.in_default.ensures.next)
