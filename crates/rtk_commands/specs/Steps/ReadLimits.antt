-- What `convert` takes of its links, and `summary` of its capture. The numbers are this project's
-- rule.
use Rattle.std.specs.Prelude.{ℕ, ◌*◌}

-- constant
-- the most reads of a conversion, and of a summary: 1,000,000,000
abbrev pub most_reads : ℕ
most_reads = 1000000000

-- constant
-- the bytes of a link that are read ahead at once: 64 times the 512 that a conversion asks for
abbrev pub read_at_once : ℕ
read_at_once = 64 * 512
