use Rattle.std.proofs.Common.{◌∙◌}
use Rattle.rtk_rinex.proofs.MixedRecordsLemmas.{split-parts}
use Rattle.rtk_rinex.proofs.mixed_records.split_before.Goals as goal

pub returns-clause-parts : goal.returns-clause-parts
returns-clause-parts c = λ front e.
    let parts = split-parts c.args.text.now front c.args.rest.now e in
    (c.split_at.ensures.front ∙ parts.0, c.split_at.ensures.back ∙ parts.1)
