-- Each frame that calls or reads find has a payload, so the file that they come to is the text of a
-- table.
use Rattle.std.proofs.Common.{ℕ, zero, suc, inl, inr, List, [], ◌∷◌, sym, subst}
use Rattle.std.specs.List.{AllByRecursion}
use Rattle.std.proofs.lemmas.List.Elements.{All-from_recursion}
use Rattle.rtk_convert.specs.ArrivalLaws.{HasPayload}
use Rattle.rtk_convert.specs.CallLaws.{Call, Feed, Close, IsAfterCall, CallsComeTo, CallsComeToTable}
use Rattle.rtk_convert.specs.Converter.{IsAfterClosing, IsAfterClosingAll}
use Rattle.rtk_convert.specs.FrameClass.{Found, arrivals}
use Rattle.rtk_convert.specs.FileLaws.{IsTextOfTable}
use Rattle.rtk_convert.specs.FileOfArrivals.{kept_file}
use Rattle.rtk_convert.specs.History.{History, Finds, found_by_piece, found_by_close, fed_on}
use Rattle.rtk_convert.specs.ReadHistory.{Read, IsAfterPiece, IsHistoryOf}
use Rattle.rtk_setup.specs.Setup.{SetupView, IsSetupView}
use Rattle.rtk_convert.specs.Conversion.{found_on}
use Rattle.rtk_convert.proofs.KeptTableLemmas.{kept-file-is_table}

abbrev HavePayloads : SetupView → List Found → Type 0
HavePayloads s found = AllByRecursion (HasPayload s) found

finds-payloads : (s : SetupView) (link : ℕ) (payloads : List (List ℕ)) (before after : List Found) → Finds s link payloads before after → HavePayloads s before → HavePayloads s after
finds-payloads s link [] before after p have = subst (HavePayloads s) (sym p) have
finds-payloads s link (payload ∷ rest) before after p have = finds-payloads s link rest (found_on link p.0 ∷ before) after p.2 ((payload, p.1), have)

closing-payloads : (s : SetupView) (h : History) (link : ℕ) (next : History) → IsAfterClosing s h link next → HavePayloads s h.found → HavePayloads s next.found
closing-payloads s h link next (inl p) have = finds-payloads s link (found_by_close (fed_on link h.links)) h.found next.found p.1.found have
closing-payloads s h link next (inr p) have = subst (λ (x : History). HavePayloads s x.found) (sym p.1) have

call-payloads : (s : SetupView) (h : History) (call : Call) (next : History) → IsAfterCall s h call next → HavePayloads s h.found → HavePayloads s next.found
call-payloads s h (Feed link piece) next (inl p) have = finds-payloads s link (found_by_piece (fed_on link h.links) piece) h.found next.found p.1.found have
call-payloads s h (Feed link piece) next (inr p) have = subst (λ (x : History). HavePayloads s x.found) (sym p.1) have
call-payloads s h (Close link) next p have = closing-payloads s h link next p have

come-payloads : (s : SetupView) (links : ℕ) (calls : List Call) (h : History) → CallsComeTo s links calls h → HavePayloads s h.found
come-payloads s links [] h p = subst (λ (x : History). HavePayloads s x.found) (sym p) tt
come-payloads s links (c ∷ before) h p = call-payloads s p.0 c h p.2 (come-payloads s links before p.0 p.1)

end-payloads : (s : SetupView) (h : History) (n : ℕ) (last : History) → IsAfterClosingAll s h n last → HavePayloads s h.found → HavePayloads s last.found
end-payloads s h zero last p have = subst (λ (x : History). HavePayloads s x.found) (sym p) have
end-payloads s h (suc n) last p have = closing-payloads s p.0 n last p.2 (end-payloads s h n p.0 p.1 have)

pub calls-table : CallsComeToTable
calls-table s links calls found good_setup p =
    let have = subst (HavePayloads s) (sym p.4) (end-payloads s p.0 links p.1 p.3 (come-payloads s links calls p.0 p.2)) in
    kept-file-is_table s found good_setup (All-from_recursion (HasPayload s) found have)

piece-payloads : (s : SetupView) (h : History) (link : ℕ) (piece : List ℕ) (next : History) → IsAfterPiece s h link piece next → HavePayloads s h.found → HavePayloads s next.found
piece-payloads s h link [] next p have = finds-payloads s link (found_by_close (fed_on link h.links)) h.found next.found p.found have
piece-payloads s h link (x ∷ piece) next p have = finds-payloads s link (found_by_piece (fed_on link h.links) (x ∷ piece)) h.found next.found p.found have

reads-payloads : (s : SetupView) (links : ℕ) (reads : List Read) (h : History) → IsHistoryOf s links reads h → HavePayloads s h.found
reads-payloads s links [] h p = subst (λ (x : History). HavePayloads s x.found) (sym p) tt
reads-payloads s links (r ∷ before) h p = piece-payloads s p.0 r.link r.piece h p.2.after (reads-payloads s links before p.0 p.1)

pub reads-table : (s : SetupView) (links : ℕ) (reads : List Read) (h : History) → IsSetupView s → IsHistoryOf s links reads h → IsTextOfTable (kept_file s (arrivals h.found))
reads-table s links reads h good_setup p =
    kept-file-is_table s h.found good_setup (All-from_recursion (HasPayload s) h.found (reads-payloads s links reads h p))
