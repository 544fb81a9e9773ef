use Rattle.std.proofs.Common.{◌≡◌, ◌<◌, ◌∙◌, List, length, take, arith, ap, sym}
use Rattle.std.proofs.lemmas.List.{length-take, get_or-take}
use Rattle.std.proofs.lemmas.List.Elements.{All-take}
use Rattle.rtk_obs.specs.declared.any_code.AnyCode.{AnyCode}
use Rattle.rtk_rinex.specs.MixedHead.{letter}
use Rattle.rtk_rinex.proofs.MixedCodesLemmas.{refilled, front_distinct}
use Rattle.rtk_rinex.proofs.mixed_types_read.read_group.Goals as goal

kept : (c : goal.After-truncate) → c.truncate.new.self.items ≡ take c.read_count-count.result c.move_shown_codes.new.all
kept c =
    c.truncate.ensures.items
    ∙ ap (take c.read_count-count.result) (refilled c.all_of-all.result.items c.move_shown_codes.new.all (c.move_shown_codes.ensures.all.length ∙ sym c.all_of-all.ensures.all.length))

whole : (c : goal.After-truncate) → c.len.result ≡ length c.move_shown_codes.new.all
whole c =
    c.len.ensures.value ∙ ap length (refilled c.all_of-all.result.items c.move_shown_codes.new.all (c.move_shown_codes.ensures.all.length ∙ sym c.all_of-all.ensures.all.length))

size : (c : goal.After-truncate) → length c.truncate.new.self.items ≡ c.read_count-count.result
size c =
    let n = length-take c.read_count-count.result c.move_shown_codes.new.all in
    ap length (kept c) ∙ omega (arith, n, whole c, c.read_count-count.ensures.good)

pub returns-clause-shown : goal.returns-clause-shown
returns-clause-shown c =
    let all : List AnyCode = c.move_shown_codes.new.all in
    let n = c.read_count-count.result in
    let a = c.move_shown_codes.ensures.all in
    let few = c.all_of-all.ensures.few in
    let long = a.length ∙ sym c.all_of-all.ensures.all.length in
    rw (kept c) (record {
      group = record {
        count = (let z = size c in let k = ap length (kept c) in (omega (arith, z, k, c.read_count-count.ensures.good), omega (arith, z, k, whole c, c.read_count-count.ensures.good, few, long)));
        own = All-take (λ d. letter d ≡ c.args.system) n all a.own;
        distinct = front_distinct n all a.distinct;
      };
      count = λ m range e.
          let z = size c in
          let k = ap length (kept c) in
          let is = c.read_count-count.ensures.shown m (omega (arith, range), omega (arith, range, whole c, a.length)) e in
          omega (arith, z, k, is);
      shown = λ ds i d group lt low names.
          let z = size c in
          let k = ap length (kept c) in
          let inside : i < n = omega (arith, low, z, k) in
          get_or-take n all i d inside ∙ c.move_shown_codes.ensures.shown ds i d group lt (omega (arith, inside, whole c, c.read_count-count.ensures.good)) names;
    })

pub returns-clause-few : goal.returns-clause-few
returns-clause-few c =
    let z = size c in
    let a = c.move_shown_codes.ensures.all.length in
    omega (arith, z, whole c, c.read_count-count.ensures.good, a)
