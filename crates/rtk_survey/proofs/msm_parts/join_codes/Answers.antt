use Rattle.std.proofs.Common.{◌≡◌, List, true, false, sym, subst}
use Rattle.rtk_obs.specs.declared.cell.CellEntry.{CellEntry}
use Rattle.rtk_survey.specs.Proposal.{is_taken_with, entries_with}
use Rattle.rtk_survey.specs.Contents.{HasCodes}
use Rattle.rtk_survey.specs.Tracing.{entries_of_message}
use Rattle.rtk_survey.proofs.MsmLemmas.{entries-taken, entries-left}
use Rattle.rtk_survey.proofs.msm_parts.join_codes.Goals as goal

pub returns-then-accepts : goal.returns-then-accepts
returns-then-accepts c = λ ms stands.
    let kind = c.args.kind in
    let m = c.args.message.now in
    let yes : is_taken_with kind m ≡ true = cc (c.only.ensures, c.number.ensures, c.accepts.ensures, c.if-accepts.true) in
    subst (λ (es : List CellEntry). HasCodes c.join.new.self es) (sym (entries-taken kind m ms yes))
    (c.join.ensures (entries_of_message m) (entries_with kind ms) c.requires stands)

pub returns-else-accepts : goal.returns-else-accepts
returns-else-accepts c = λ ms stands.
    let kind = c.args.kind in
    let no : is_taken_with kind c.args.message.now ≡ false = cc (c.only.ensures, c.number.ensures, c.accepts.ensures, c.if-accepts.false) in
    subst (λ (es : List CellEntry). HasCodes c.args.codes.now es) (sym (entries-left kind c.args.message.now ms no)) stands
