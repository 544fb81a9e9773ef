use Rattle.std.proofs.Common.{◌≡◌, ◌∙◌, ◌<◌, ◌+◌, [], ℕ, List, length, ap, arith, subst, sym, All, Option}
use Rattle.std.proofs.lemmas.List.{length_push}
use Rattle.std.proofs.lemmas.List.Elements.{All-push}
use Rattle.rtk_quality.specs.Standing.{StandForCodes}
use Rattle.rtk_quality.specs.declared.missing.MissingCodes.{MissingCodes}
use Rattle.rtk_quality.proofs.file_counts.missing_codes.Goals as goal

pub loop-satellite-preserved : goal.loop-satellite-preserved
loop-satellite-preserved c =
    let had : List MissingCodes = c.loop-satellite.missing.items in
    let longer : length c.push.new.self.items ≡ length had + 1 = ap (λ (xs : List MissingCodes). length xs) c.in_ok-push.ensures.items ∙ length_push had _ in
    let size : length had ≡ c.loop-satellite._satellite = c.loop-satellite.invariant.size in
    record {
      size = omega (arith, longer, size);
      fresh = subst (λ (xs : List MissingCodes). All (λ m. (interval : Option ℕ) → StandForCodes m.codes.items c.args.count interval []) xs) (sym c.in_ok-push.ensures.items)
          (All-push (λ m. (interval : Option ℕ) → StandForCodes m.codes.items c.args.count interval []) had _ c.loop-satellite.invariant.fresh c.in_ok-new.ensures);
    }

pub returns : goal.returns
returns c = λ interval.
    let size : length c.loop-satellite.missing.items ≡ c.args.most = omega (arith, c.loop-satellite.invariant.size, c.loop-satellite-test.false, c.loop-satellite.auto._satellite-end) in
    record {
      size = size;
      each = λ place d within.
          let inside : place < length c.loop-satellite.missing.items = omega (arith, within, size) in
          c.loop-satellite.invariant.fresh place d inside interval;
    }
