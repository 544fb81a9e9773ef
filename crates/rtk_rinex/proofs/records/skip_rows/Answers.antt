use Rattle.std.proofs.Common.{◌∙◌, List, ℕ, length, flat_map, refl}
use Rattle.rtk_rinex.proofs.DigitsLemmas.{drop-exact}
use Rattle.rtk_rinex.proofs.RecordsLemmas.{rows-unmarked, no-record-after, record-after}
use Rattle.rtk_rinex.proofs.records.skip_rows.Goals as goal

pub returns-in-Some-clause-rest : goal.returns-in-Some-clause-rest
returns-in-Some-clause-rest c = λ line_of rows rest of ends text.
    let front : List ℕ = flat_map line_of rows in
    let first = rw text at c.in-Some.ensures in
    let at = record-after front rest c.in-Some.next (rows-unmarked line_of of rows) ends first in
    c.split_at.ensures.back ∙ rw (at, text) (drop-exact (length front) front rest refl)

pub returns-in-None-clause-rest : goal.returns-in-None-clause-rest
returns-in-None-clause-rest c = λ line_of rows rest of ends text.
    let first = rw text at c.in-None.ensures in
    no-record-after (flat_map line_of rows) rest ends first
