use Rattle.std.specs.Prelude.{if◌then◌else◌}
use Rattle.std.proofs.Common.{◌≡◌, ℕ, ◌+◌, Bool, true, not, [], ◌∷◌, ◌++◌, length, is_ok, sym, ap, ◌∙◌, append_assoc}
use Rattle.std.proofs.lemmas.List.{length_push}
use Rattle.rtk_cli.proofs.LinkLemmas.{one-more-link}
use Rattle.rtk_cli.proofs.converting.links_over.Goals as goal

pub loop-reader-preserved : goal.loop-reader-preserved
loop-reader-preserved g c =
    let i = c.loop-reader.invariant in
    let seen = c.loop-reader.yielded in
    let links = c.loop-reader.sources.items in
    let ok : is_ok c.push.result ≡ true = c.is_err.ensures.negation ∙ ap not c.if-is_err.false in
    let pushed : c.push.new.self.items ≡ links ++ c.over.result ∷ [] =
    c.push.ensures.items ∙ ap (λ (b : Bool). if b then (links ++ c.over.result ∷ []) else links) ok in
    let count : length (seen ++ c.in-Some.reader ∷ []) ≡ length seen + 1 = length_push seen c.in-Some.reader in
    record {
      made = rw pushed (one-more-link c.over.result c.in-Some.reader i.made (c.over.ensures.number ∙ i.number ∙ sym i.as_many) c.over.ensures.inner);
      split = i.split ∙ ap (λ rest. seen ++ rest) c.in-Some.ensures.steps.0 ∙ sym (append_assoc seen (c.in-Some.reader ∷ []) _);
      number = ap (λ (n : ℕ). n + 1) i.number ∙ sym count;
      as_many = ap length pushed ∙ length_push links c.over.result ∙ ap (λ (n : ℕ). n + 1) i.as_many ∙ sym count;
    }
