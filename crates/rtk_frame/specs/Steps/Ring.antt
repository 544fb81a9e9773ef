-- What a ring of bytes is once a borrow of it is over.
use Rattle.std.specs.Prelude.{◌≡◌, ⊤, ℕ, List, length}
use Rattle.std.specs.Borrow.{follows_so, Lends, MutBor, Fml, RattleType, u8, Array}
use Rattle.std.specs.List.{refill}
use mathlib.Core.Option.{none}
use Rattle.circular_buffer.specs.Buffer.{Buffer, buffer}
use Rattle.circular_buffer.specs.contracts.heap.HeapCircularBuffer.{the_row}
use Rattle.std.specs.contracts.alloc.Global as global
use Rattle.std.specs.contracts.impls.GlobalAllocator.TheImpl.{ghosts}

-- a ring of bytes, as the logic holds its type
abbrev pub ring_row : RattleType
ring_row = the_row u8 global.the_row ghosts

-- the ring with these bytes instead of its own
abbrev pub with_bytes : Buffer ℕ → List ℕ → Buffer ℕ
with_bytes b bytes = buffer (refill (length b.items) b.items bytes) b.capacity

-- the ring s ends with the last bytes written through r
abbrev pub LendsBytes : MutBor (Buffer ℕ) → MutBor (List ℕ) → Fml
LendsBytes s r = Lends ring_row (Array u8 0) s r (with_bytes s.now)

-- the ring s ends as b
abbrev pub RingEndsAs : MutBor (Buffer ℕ) → Buffer ℕ → Fml
RingEndsAs s b = follows_so ring_row ring_row s.ghost_name none (λ _ _. ⊤) (λ n. n ≡ b)
