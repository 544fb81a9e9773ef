-- `all_bytes` shares what `all_bytes_mut` lends, for as long as the ring is lent: the slice ends
-- with the bytes that it shows, and so the ring ends as it was.
use mathlib.Core.Path.{◌≡◌, refl, ap}
use mathlib.Core.List.{List, [], ◌∷◌}
use mathlib.Core.Option.{none}
use Prim.Native.Nat.{ℕ, ◌*◌, ◌^◌}
use lib.ListN.{length}
use mir.Syntax.{named, erased}
use mir.Val.{Val}
use base.Logic.{id⊢, ent, emp}
use seplogic.Ra.Ura.{Ura}
use types.Logic.{Logic, sem}
use base.Fml.{ftrue, flft, fres}
use types.Kit.{‵, raw, ◌⊛◌, some, later, ◌$◌, ◌∵◌, !, qed, by, done, move, keep, drop, use0, use1, use2, split, join, fsplit, fjoin, fpack, feq_l, feq_i, flt_l, flt_i, pick, await, rewrite}
use types.Run.{enter, addr, stop, fld, hop, from, no_more, and_then, returns}
use types.Part.{whole, sub, agg}
use types.ByLocal.{alloc_all, pass_all, free_all, look_at, look_in_at, get, get_in, through, sets, lands_as}
use contract.BorrowLft.{⊑_static}
use contract.Monad.{fact, fact_i}
use contract.Running.{tables}
use denote.Builtin.{u8}
use denote.Exit.{no}
use denote.Array.{Array}
use denote.Follow.{follows, such_by, follows_by}
use denote.FollowSlice.{followed_slice}
use denote.Slice.{MutSlice, slice_val, finally}
use denote.Ref.{Bor, MutBor, mut_vals, mut_Tells}
use denote.Signature.{plain, mut_ref_to}
use denote.Steps.{nothing, heard, only}
use denote.Shares.{Shares-less}
use denote.Param.Shared.{copy_shared, Sharable}
use denote.Struct.Field.{u8-field}
use denote.Struct.Laws.{u8-copy}
use denote.Triple.Call.{calls_at}
use denote.Triple.Clauses.{Lasts, lasts}
use denote.Triple.Spec.{triple_of}
use denote.Triple.Table.{framed}
use denote.Triple.Walked.{Stays, stay_dropped, walk_of, Goes-spent_ref}
use borrow.Rule.Slice.Handed.{sl_Share}
use borrow.Table.Owned as owned
use Rattle.std.proofs.raw_atomic.Walks.{proved, leaves}
use Rattle.circular_buffer.specs.Buffer.{Buffer}
use Rattle.rtk_frame.specs.Steps.Ring.{ring_row, with_bytes, RingEndsAs}
use Rattle.rtk_frame.specs.contracts.lending.all_bytes as f
use Rattle.rtk_frame.proofs.lending.all_bytes.Statement.{statement}
use Rattle.rtk_frame.proofs.lending.all_bytes.Code as code
use Rattle.rtk_frame.specs.contracts.lending.all_bytes_mut as g
use Rattle.rtk_frame.proofs.lending.all_bytes_mut.Met.{met}

abbrev stayed : Stays f.ended.signature.params f.ended.kept
stayed = (stay_dropped (mut_ref_to (0 ∷ []) tt (plain (λ _. ring_row))) no, tt)

ends : {M : Type 1} {𝓤 : Ura M} (𝓛 : Logic 𝓤) (s : MutBor (Buffer ℕ)) → ent 𝓤 (sem 𝓛 (fres s.ghost_name (ring_row.coded.code s.now))) (sem 𝓛 (RingEndsAs s s.now))
unfolding such_by follows_by
ends 𝓛 s = qed 𝓛 (‵ (fres s.ghost_name (ring_row.coded.code s.now)) ∷ []) ∵
    fpack ! ((t : (Buffer ℕ → Buffer ℕ) × Buffer ℕ) × ((w : Buffer ℕ) → Unit {0}) × (t.1 ≡ s.now)) (λ t. follows_by (Buffer ℕ) (Buffer ℕ) ring_row.coded.code ring_row.coded.code s.ghost_name none t.0.0 t.0.1) (((λ _. s.now), s.now), (λ w. tt), refl) $ done !

pub all_bytes_spec : {M : Type 1} → statement M
all_bytes_spec 𝓤 𝓛 𝓜 𝓡 wired =
    let c = f.clauses 𝓛 𝓜.mem 𝓡.returns in let W = walk_of 𝓛 f.ended stayed c in
    proved 𝓛 f.ended stayed c 𝓜 𝓡 (Goes-spent_ref 𝓛 1 (0 ∷ []) tt (plain (λ _. ring_row)), tt)
    f.Key.name code.function (code.unfolded 𝓤 𝓛.H 𝓜 𝓡 wired)
    (λ κs. (mut_vals, tt)) (λ κs. (mut_Tells (named 0) κs.0 ring_row, tt)) (λ κs qs bounds a _ are.
    let κ = κs.0 in let q = qs.0 in let s : MutBor (Buffer ℕ) = a.0 in let vs = mut_vals s in
    let y : W.Ghost = ((κs, qs, bounds, a, (vs, tt)), tt) in
    let G = triple_of 𝓛 g.signature (g.spec 𝓛 𝓜.mem 𝓡.returns) in
    let z : G.Ghost = ((κs, qs, bounds, a, (vs, tt)), tt) in
    let shared : Sharable u8-field = copy_shared u8-field u8-copy in
    qed 𝓛 (raw (G.pre z) ∷ []) ∵ enter ! _ _ _ _ _ $
    alloc_all ! (λ l. pass_all ! refl ((tt, tt), tt) $
    sets ! (addr ! (through ! refl (stop !))) refl (tt, tt) $
    calls_at ! (framed 𝓤 𝓛.H 𝓜 (tables 𝓤 𝓛.H 𝓜 𝓡 𝓡.env)) G (met 𝓤 𝓛 𝓜 𝓡 (code.calls-rtk_frame::lending::all_bytes_mut 𝓡.env wired)) z
    (and_then ! (get ! refl) (no_more !)) (λ v.
    use1 𝓛 (later (some (λ (r : MutBor (List ℕ)). ((‵ (flft κ q) ⊛ ‵ ftrue) ⊛ ‵ ((MutSlice (named 0) κ u8).own_val r (v ∷ []))) ⊛
    some (λ (ws : Lasts g.ended κs a). ‵ (lasts g.ended κs a ws) ⊛ (‵ (follows ring_row (Array u8 0) s.ghost_name r.ghost_name (with_bytes s.now)) ⊛ (raw (fact 𝓤 (r.now ≡ s.now.items)) ⊛ raw (fact 𝓤 (with_bytes s.now r.now ≡ s.now)))))))) (id⊢ 𝓤 _) $
    await ! tt $ pick ! (λ r.
    let n = length r.now in let back : Bor (List ℕ) = record { ref_ptr = r.ref_ptr; now = r.now } in let out : Val = slice_val r.ref_ptr n in
    split ! $ split ! $ move ! (1 ∷ []) $ fsplit ! $ fsplit ! $ feq_l ! (λ is. fsplit ! $ flt_l ! (λ few. flt_l ! (λ small.
    flt_i ! (n * 1) (2 ^ 63) small $ flt_i ! n (2 ^ 64) few $ fjoin ! $ fjoin ! $
    -- [what the slice owns; the tokens; what `all_bytes_mut` says]
    move ! (1 ∷ []) $ split ! $ move ! (2 ∷ 0 ∷ []) $
    use2 𝓛 (later (‵ ((owned.ShrSlice erased κ u8).own_val back) ⊛ (‵ (finally u8 r.ghost_name r.now) ⊛ ‵ (flft κ q))))
    (sl_Share 𝓛 u8 r.ref_ptr.0 r.ref_ptr.1 r.ghost_name r.now shared.shr_laws κ q (Shares-less 𝓛 u8 [] κ (⊑_static κ) (shared.shares _ 𝓤 𝓛))) $
    await ! tt $ split ! $ move ! (1 ∷ []) $ split ! $
    -- [how the slice ends; the token; what the shared slice owns; nothing; what `all_bytes_mut`
    -- says]
    move ! (4 ∷ []) $ pick ! (λ ws. split ! $ drop ! $ split ! $ move ! (1 ∷ []) $ split ! $
    heard ! (r.now ≡ s.now.items) (λ value. heard ! (with_bytes s.now r.now ≡ s.now) (λ same.
    use2 𝓛 (‵ (fres s.ghost_name (ring_row.coded.code (with_bytes s.now r.now)))) (followed_slice 𝓛 ring_row u8 (with_bytes s.now) s.ghost_name r.ghost_name r.now) $
    rewrite ! 0 (λ (b : Buffer ℕ). ‵ (fres s.ghost_name (ring_row.coded.code b))) same refl $
    use1 𝓛 (‵ (RingEndsAs s s.now)) (ends 𝓛 s) $
    lands_as ! (ap only is) refl (tt, (tt, (record { fits = few }, tt))) $
    sets ! (addr ! (from ! (fld ! refl (hop ! (look_in_at ! 2 (sub ! 0 refl (whole !))) (stop !))))) refl (tt, tt) $
    sets ! (agg ! (and_then ! (get ! refl) (and_then ! (get_in ! (fld ! refl (stop !)) (sub ! 1 refl (whole !))) (no_more !)))) refl (tt, (tt, (record { fits = few }, tt))) $
    returns ! (look_at ! 0 refl) $ free_all ! refl $ keep ! (0 ∷ 1 ∷ 2 ∷ []) $
    -- [how the ring ends; the token; what the shared slice owns]
    move ! (2 ∷ []) $ fsplit ! $ feq_i ! (List Val) (out ∷ []) (out ∷ []) refl $ fjoin ! $ fjoin ! $
    nothing ! $ move ! (3 ∷ 0 ∷ []) $ join ! $ nothing ! $ nothing ! $ fjoin ! $
    use0 𝓛 (raw (fact 𝓤 (back.now ≡ s.now.items))) (fact_i 𝓤 (back.now ≡ s.now.items) (emp 𝓤) value) $
    -- [the value; nothing; the tokens; the result; how the ring ends]
    move ! (4 ∷ 0 ∷ []) $ join ! $ move ! (2 ∷ 1 ∷ 3 ∷ 0 ∷ []) $
    by ! (leaves 𝓛 f.ended stayed c y out back (tt, tt) (tt, tt))))))))))))
