use Rattle.std.proofs.Common.{◌≡◌, ℕ, List, take, drop, refl, subst}
use Rattle.std.specs.Prelude.{Decides}
use Rattle.rtk_rinex.specs.Columns.{left}
use Rattle.rtk_label.specs.TimeLines.{interval_label, last_label}
use Rattle.rtk_label.specs.Steps.Told.{label_end, AreTold}
use Rattle.rtk_label.specs.declared.time_lines.TheConstants.{INTERVAL_END, LAST_END}
use Rattle.rtk_label.proofs.ToldLemmas.{told-are, told-room}
use Rattle.rtk_label.proofs.time_lines.told_lines.Goals as goal

interval_end : INTERVAL_END.now ≡ label_end interval_label
unfolding left
interval_end = refl

last_end : LAST_END.now ≡ label_end last_label
unfolding left
last_end = refl

told : (c : goal.After-add) → AreTold (drop c.args.from c.args.text.now) (record { interval = c.begins_with-interval.result; last = c.begins_with-last.result }) c.add.new.out.items
told c =
    let first : ℕ = c.len_if-first.result in
    let interval = subst (λ (x : List ℕ). Decides c.begins_with-interval.result (take 21 (drop 60 c.after-rest.result.now) ≡ x)) interval_end c.begins_with-interval.ensures in
    let behind = rw c.after.ensures at c.begins_with-last.ensures in
    let last = subst (λ (x : List ℕ). Decides c.begins_with-last.result (take 21 (drop 60 (drop first c.after-rest.result.now)) ≡ x)) last_end behind in
    let own =
    told-are c.after-rest.result.now c.add.new.out.items (record { interval = c.begins_with-interval.result; last = c.begins_with-last.result }) first c.len_if-second.result
    c.len_if-first.ensures.value c.len_if-second.ensures.value interval last (rw (c.add.ensures.items, c.new-lines.ensures) c.columns_at.ensures.value) in
    rw c.after-rest.ensures at own

pub returns-clause-told : goal.returns-clause-told
returns-clause-told c = told c

pub returns-clause-few : goal.returns-clause-few
returns-clause-few c = (told c).few

pub returns-clause-within : goal.returns-clause-within
returns-clause-within c = λ low. told-room c.args.text.now c.add.new.out.items c.args.from _ (told c) low
