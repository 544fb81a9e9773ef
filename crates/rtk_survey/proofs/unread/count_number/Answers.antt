use Rattle.std.proofs.Common.{rules, ◌≡◌, ◌+◌, ℕ, Option, sym, subst, ap, ◌∙◌}
use Rattle.std.specs.BTreeMap.{BTreeMap}
use Rattle.std.specs.BTreeMap.Entry.{map_with_value}
use Rattle.std.specs.Option.{unwrap_or}
use Rattle.rtk_survey.specs.Contents.{count_at}
use Rattle.rtk_survey.specs.Counting.{shown_count}
use Rattle.rtk_survey.proofs.TallyLemmas.{put-count, other-counts}
use Rattle.rtk_survey.proofs.unread.count_number.Goals as goal

pub returns-clause-own : goal.returns-clause-own
returns-clause-own c =
    let after = c.saturating_add.result in
    let m = map_with_value c.in_ok-counts.field-0 after in
    let was = c.or_insert-count.ensures.value ∙ ap (λ (o : Option ℕ). unwrap_or o 0) c.in_ok-counts.ensures.value in
    let e : c.counts-3-1.given.0 ≡ m = search rules in
    subst (λ (x : BTreeMap ℕ ℕ). count_at x c.args.number ≡ shown_count (count_at c.args.counts.now c.args.number + 1)) (sym e)
    (put-count c.args.counts.now m c.args.number after (c.in_ok-counts.ensures.update.0 after) ∙ c.saturating_add.ensures ∙ ap (λ (n : ℕ). shown_count (n + 1)) was)

pub returns-clause-others : goal.returns-clause-others
returns-clause-others c = λ n other.
    let after = c.saturating_add.result in
    let m = map_with_value c.in_ok-counts.field-0 after in
    let e : c.counts-3-1.given.0 ≡ m = search rules in
    subst (λ (x : BTreeMap ℕ ℕ). count_at x n ≡ count_at c.args.counts.now n) (sym e)
    (other-counts c.args.counts.now m c.args.number after (c.in_ok-counts.ensures.update.0 after) n other)
