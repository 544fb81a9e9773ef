use Rattle.std.proofs.Common.{◌≡◌, ℕ, ◌+◌, ◌-◌, List, take, drop, refl, sym, ◌∙◌, ap, arith}
use Rattle.std.proofs.lemmas.List.{drop-drop}
use Rattle.rtk_frame.proofs.search.found_at.Goals as goal

pub returns : goal.returns
returns c =
    let b : List ℕ = c.args.bytes.now in
    let n : ℕ = c.args.place in
    let k : n + 3 + c.args.payload_len - (n + 3) ≡ c.args.payload_len = omega arith in
    (refl, ap (λ j. take j (drop (n + 3) b)) k ∙ ap (take c.args.payload_len) (sym (drop-drop 3 n b)))
