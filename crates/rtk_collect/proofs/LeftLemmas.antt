-- What is left of a window, in whatever lists its epochs keep their cells.
use Rattle.std.proofs.Common.{◌≡◌, ◌<◌, ◌++◌, List, Option, Some, None, map, ap, subst, ◌∙◌}
use Rattle.std.specs.Prelude.{option_to_list, IfSome, All}
use Rattle.std.proofs.lemmas.List.{map-append}
use Rattle.rtk_collect.specs.EpochSet.{EpochSetView, EpochsFall}
use Rattle.rtk_collect.specs.Offered.{NotBelow}
use Rattle.rtk_collect.proofs.WindowLemmas.{falls-front, least-is, left-not-below}

module _ {E : Type 0} {S : Type 0} (f : S → EpochSetView E) where
  split : (old new : List S) (o : Option S) → old ≡ new ++ option_to_list o → map f old ≡ map f new ++ map f (option_to_list o)
  split old new o e = ap (map f) e ∙ map-append f new (option_to_list o)

  pub falls-left : (old new : List S) (o : Option S) → old ≡ new ++ option_to_list o → EpochsFall (map f old) → EpochsFall (map f new)
  falls-left old new o e falls = falls-front (map f new) (map f (option_to_list o)) (subst EpochsFall (split old new o e) falls)

  pub least-left : (old new : List S) (o : Option S) → old ≡ new ++ option_to_list o → EpochsFall (map f old)
      → IfSome o (λ s. All (λ (x : EpochSetView E). (f s).epoch < x.epoch) (map f new))
  least-left old new None e falls = tt
  least-left old new (Some s) e falls = least-is (map f new) (Some (f s)) (subst EpochsFall (split old new (Some s) e) falls)

  pub not-below-left : (old new : List S) (o : Option S) → old ≡ new ++ option_to_list o → IfSome o (λ s. NotBelow (f s) (map f old))
  not-below-left old new None e = tt
  not-below-left old new (Some s) e = left-not-below (map f old) (map f new) (Some (f s)) (split old new (Some s) e)
