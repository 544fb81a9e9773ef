use Rattle.rtk_convert.proofs.GatheringLemmas.{comes-once}
use Rattle.rtk_convert.proofs.HistoryLemmas.{feeds-once, closes-once, ends-once, found-once, next-once, reads-once}
use Rattle.rtk_convert.proofs.laws.one_history_of_calls.Goals as goal

pub returns : goal.returns
returns c =
    let law = c.clock_laws.ensures.one_moment in
    record { class = comes-once law; feed = feeds-once law; close = closes-once law; end = ends-once law; all = found-once law; next = next-once; reads = reads-once law }
