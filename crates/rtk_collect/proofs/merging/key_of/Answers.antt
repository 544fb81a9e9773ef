use Rattle.std.proofs.Common.{◌≡◌, ℕ, ◌+◌, ◌-◌, ◌*◌, arith, ap, ◌∙◌}
use Rattle.rtk_obs.specs.declared.cell.Cell.{Cell}
use Rattle.rtk_obs.specs.declared.cell.CellSource.{CellSource}
use Rattle.rtk_obs.specs.declared.cell.CellSource.TheVariants.{Legacy, Msm}
use Rattle.rtk_obs.specs.contracts.cell.CellSource.{the_type}
use Rattle.rtk_collect.specs.Key.{key, key_at, rank_of}
use Rattle.rtk_collect.proofs.merging.key_of.Goals as goal

-- the number of a kind of message, taken from 1
by-kind : (s : CellSource) (n : ℕ) → n + 1 - denote.Enum.Declared.tag_of the_type s ≡ n + rank_of s
by-kind Legacy n = omega arith
by-kind Msm n = omega arith

pub returns : goal.returns
unfolding key key_at
returns g c =
    ap (λ (x : Cell). c.place.result * 2 + 1 - denote.Enum.Declared.tag_of the_type x.source) c.cell.ensures
    ∙ by-kind (g.E.Entry.entries.cell c.args.entry.now).source (c.place.result * 2)
    ∙ ap (λ t. t * 2 + rank_of (g.E.Entry.entries.cell c.args.entry.now).source) c.place.ensures.value
