-- A source and a sink over memory: what a clause sees of them, and what stays (this project's
-- rule).
use Rattle.std.specs.Prelude.{◌≡◌, ℕ, List, [], length, drop, min}
use Rattle.rtk_frame.specs.declared.memory.After.{After}

-- a source over memory
pub record MemSourceView : Type 0 where
  -- all bytes given so far, with the zeros that came after its own bytes
  pub given : List ℕ
  -- its bytes that are not yet given
  pub left : List ℕ
  -- what comes after them
  pub after : After
  -- the most bytes that one read gives
  pub per_read : ℕ
  pub failures : ℕ
  pub calls : ℕ

-- a sink into memory
pub record MemSinkView : Type 0 where
  -- all bytes taken so far
  pub taken : List ℕ
  -- how many bytes it still takes
  pub room : ℕ
  -- the most bytes that one write takes
  pub per_write : ℕ
  pub failures : ℕ

-- a source of these bytes, from which nothing was read
abbrev pub new_source : List ℕ → ℕ → After → MemSourceView
new_source bytes per_read after = record { given = []; left = bytes; after = after; per_read = per_read; failures = 0; calls = 0 }

-- a sink that took nothing
abbrev pub new_sink : ℕ → ℕ → MemSinkView
new_sink room per_write = record { taken = []; room = room; per_write = per_write; failures = 0 }

-- how many bytes a read with this buffer may give
abbrev pub room_of : MemSourceView → List ℕ → ℕ
room_of source buf = min (length buf) source.per_read

-- all bytes were given, and this comes after them
abbrev pub IsSpent : MemSourceView → After → Type 0
IsSpent source after = (source.left ≡ []) × (source.after ≡ after)

-- the first `count` of the bytes that were left are gone; what the source was made with stays
abbrev pub IsReadOn : MemSourceView → MemSourceView → ℕ → Type 0
IsReadOn before after count = (after.left ≡ drop count before.left)
    × (after.after ≡ before.after) × (after.per_read ≡ before.per_read)
