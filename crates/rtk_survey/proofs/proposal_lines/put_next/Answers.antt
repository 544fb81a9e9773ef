use Rattle.std.proofs.Common.{◌≡◌, ◌++◌, List, ℕ, length, codes, decimal, append_assoc, sym, ◌∙◌}
use Rattle.std.proofs.lemmas.Bool.{eqb-false}
use Rattle.rtk_survey.specs.SummaryText.{near_text, words_text, auto_line}
use Rattle.rtk_survey.proofs.LineLemmas.{next-lines-are}
use Rattle.rtk_survey.proofs.proposal_lines.put_next.Goals as goal

regrouped : (a w d n t s o : List ℕ) → (((((a ++ w) ++ d) ++ n) ++ t) ++ s) ++ o ≡ a ++ (w ++ d ++ n ++ t ++ s ++ o)
regrouped a w d n t s o = simp append_assoc

pub returns : goal.returns
returns c =
    let name : List ℕ = c.args.name.now in
    let station : ℕ = c.args.station in
    rw (
      next-lines-are name (near_text c.args.near) station c.args.options.now c.args.codes.now (eqb-false (length c.args.codes.now) 0 (sym c.is_empty.ensures ∙ c.if-is_empty.false)),
      c.in_ok-put_auto.ensures,
      c.in_ok-put_words.ensures,
      c.in_ok-put_near.ensures,
      c.in_ok-extend_from_slice.ensures.items,
      c.in_ok-put_named.ensures,
      c.from.ensures,
    ) (regrouped c.args.lines.now.items (codes " next rtcm2rinex convert --station ") (decimal station) (codes " --near ") (near_text c.args.near) (words_text name station c.args.options.now c.args.codes.now) (auto_line name station))
