use Rattle.std.proofs.Common.{◌≡◌, ◌≤◌, ◌+◌, ◌∙◌, ℕ, List, length, ap, sym, arith}
use Rattle.std.proofs.lemmas.List.Edits.{length-insert}
use Rattle.rtk_quality.proofs.ColumnLemmas.{blank-more, padded-is}
use Rattle.rtk_quality.proofs.columns.pad_from.Goals as goal

pub loop-blank-preserved : goal.loop-blank-preserved
loop-blank-preserved c =
    let had : List ℕ = c.loop-blank.text.items in
    let so_far : c.args.at ≤ length had = c.loop-blank.invariant.within in
    let longer : length c.insert.new.self.items ≡ length had + 1 =
    ap (λ (t : List ℕ). length t) c.in_ok-insert.ensures.items ∙ length-insert had c.args.at 32 so_far in
    record {
      within = omega (arith, so_far, longer);
      padded = λ before value place is.
          blank-more c.loop-blank._blank c.args.at before value had c.insert.new.self.items place (c.loop-blank.invariant.padded before value place is) c.in_ok-insert.ensures.items;
    }

pub returns : goal.returns
returns c = λ before value place is.
    let all : c.saturating_sub-blanks.result ≡ c.loop-blank._blank = omega (arith, c.loop-blank-test.false, c.loop-blank.auto._blank-end) in
    padded-is c.loop-blank._blank c.args.width c.args.at c.len.result before value c.args.text.now.items c.loop-blank.text.items place is
    (c.len.ensures ∙ c.args.text.now.ok.0) (sym all ∙ c.saturating_sub-blanks.ensures) (c.loop-blank.invariant.padded before value place is)
