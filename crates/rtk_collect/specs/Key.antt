-- The keys of the cells of an epoch, and their order.
use Rattle.std.specs.Prelude.{ℕ, ◌+◌, ◌*◌, ◌<◌, List, [], ◌∷◌}
use Rattle.rtk_obs.specs.declared.cell.CellSource.{CellSource}
use Rattle.rtk_obs.specs.declared.cell.CellSource.TheVariants.{Legacy, Msm}
use Rattle.rtk_collect.specs.Entries.{Entries}

-- a cell of an MSM stands before one of a 1004 (this project's rule)
abbrev pub rank_of : CellSource → ℕ
rank_of Msm = 0
rank_of Legacy = 1

-- formula
-- the key of a satellite and code, by their number, and kind of message in an epoch, in this order of
-- weight (this project's rule). It is one number, so that the order of cells is the order of numbers,
-- and a test of two keys is one comparison; the law `equality_decides` says that equal keys have equal
-- parts.
unfoldable pub key_at : ℕ → CellSource → ℕ
key_at place source = place * 2 + rank_of source

-- formula
-- the key of a cell in its epoch
unfoldable pub key : {E S : Type 0} → Entries E S → E → ℕ
key es c = key_at (es.place c) (es.cell c).source

-- the first of the cells, if there is one, has a greater key
abbrev pub Above : {E S : Type 0} → Entries E S → ℕ → List E → Type 0
Above es k [] = Unit {0}
Above es k (x ∷ xs) = k < key es x

-- the keys rise
abbrev pub KeysRise : {E S : Type 0} → Entries E S → List E → Type 0
KeysRise es [] = Unit {0}
KeysRise es (x ∷ xs) = Above es (key es x) xs × KeysRise es xs
