use Rattle.std.proofs.Common.{◌≡◌, ℕ, ◌+◌, ◌<◌, false, List, length, set, get_or, take_all, length-set, sym, subst, arith}
use Rattle.std.specs.List.{list_any}
use Rattle.rtk_obs.specs.declared.any_code.AnyCode.{AnyCode}
use Rattle.rtk_obs.specs.declared.any_code.AnyCode.TheVariants.{G1C}
use Rattle.rtk_obs.specs.AnyCode.{place_of}
use Rattle.rtk_convert.specs.Steps.ShownCells.{is_at}
use Rattle.rtk_convert.proofs.ListedLemmas.{PlacesTo, places-more}
use Rattle.rtk_convert.proofs.row_form.columns_of.Goals as goal

pub loop-k-preserved : goal.loop-k-preserved
loop-k-preserved c =
    let codes = c.args.codes.now in
    let l = c.loop-k in
    let inside : place_of (get_or codes l.k G1C) < length l.columns = omega (arith, c.place.ensures.bound, c.place.ensures.value) in
    record {
      len = simp length-set l.invariant.len;
      among = λ d low. subst (λ (i : ℕ). PlacesTo codes (l.k + 1) (set l.columns i l.k) d) (sym c.place.ensures.value)
          (places-more codes l.k l.columns c.loop-k-test.true inside l.invariant.among d low);
    }

pub returns : goal.returns
returns c =
    let codes = c.args.codes.now in
    let l = c.loop-k in
    record {
      distinct = c.requires.distinct;
      among = λ d low. record {
        unlisted = λ m. subst (λ (xs : List AnyCode). list_any (is_at d) xs ≡ false) (take_all l.k codes (omega arith)) ((l.invariant.among d low).unlisted m);
        found = (l.invariant.among d low).found;
      };
    }
