-- Epochs newest first: each comes after the one behind it.
use Rattle.std.proofs.Common.{◌<◌, ℕ, suc, arith, List, [], ◌∷◌, Option, None, Some}
use Rattle.std.specs.Prelude.{AllPairs}
use Rattle.rtk_rinex.specs.Record.{EpochTableView}
use Rattle.rtk_tracking.specs.Epochs.{newest_first, epochs_onto, newest_moment}
use Rattle.rtk_quality.specs.Laws.{EpochsFall}

-- a moment after another one, if there is one
abbrev pub IsAfter : ℕ → Option ℕ → Type 0
IsAfter t None = Unit {0}
IsAfter t (Some last) = last < t

abbrev pub AreFalling : List EpochTableView → Type 0
AreFalling [] = Unit {0}
AreFalling (e ∷ es) = IsAfter e.time (newest_moment es) × AreFalling es

pub falling : (es : List EpochTableView) → EpochsFall es → AreFalling es
falling [] fall = tt
falling (e ∷ []) fall = (tt, tt)
falling (e ∷ f ∷ es) fall =
    (fall 0 1 e (omega arith) (omega arith), falling (f ∷ es) (λ i j d lt within. fall (suc i) (suc j) d (omega (arith, lt)) (omega (arith, within))))

-- the epochs of a table rise
abbrev Rise : List EpochTableView → Type 0
Rise es = AllPairs (λ a b. a.time < b.time) es

abbrev StartsAfter : List EpochTableView → Option ℕ → Type 0
StartsAfter [] last = Unit {0}
StartsAfter (e ∷ es) last = IsAfter e.time last

starts-next : (e : EpochTableView) (es : List EpochTableView) → Rise (e ∷ es) → StartsAfter es (Some e.time)
starts-next e [] rise = tt
starts-next e (f ∷ es) rise = rise 0 1 e (omega arith) (omega arith)

onto-fall : (es before : List EpochTableView) → Rise es → AreFalling before → StartsAfter es (newest_moment before) → AreFalling (epochs_onto es before)
onto-fall [] before rise fall starts = fall
onto-fall (e ∷ es) before rise fall starts =
    onto-fall es (e ∷ before) (λ i j d lt within. rise (suc i) (suc j) d (omega (arith, lt)) (omega (arith, within))) (starts, fall) (starts-next e es rise)

none-before : (es : List EpochTableView) → StartsAfter es None
none-before [] = tt
none-before (e ∷ es) = tt

pub newest-first-fall : (es : List EpochTableView) → Rise es → AreFalling (newest_first es)
newest-first-fall es rise = onto-fall es [] rise tt (none-before es)
