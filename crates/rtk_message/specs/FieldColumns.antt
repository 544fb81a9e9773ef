-- A column: one field of each satellite or of each cell, as fields of one width.
-- Source: RTCM 10403.3, messages 1071 to 1137
use Rattle.std.specs.Prelude.{ℕ, ℤ, Bool, List, map}
use Rattle.rtk_message.specs.Fields.{Field, u, i, flag}

abbrev pub numbers : ℕ → List ℕ → List Field
numbers w ns = map (λ n. u w n) ns

abbrev pub integers : ℕ → List ℤ → List Field
integers w zs = map (λ z. i w z) zs

abbrev pub flags : List Bool → List Field
flags bs = map (λ b. flag b) bs
