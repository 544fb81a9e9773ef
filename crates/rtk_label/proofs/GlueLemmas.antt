-- Fifteen texts that are appended one after the other.
use Rattle.std.proofs.Common.{◌≡◌, ℕ, List, ◌++◌, append_assoc}

pub glue-fifteen : (out x1 x2 x3 x4 x5 x6 x7 x8 x9 x10 x11 x12 x13 x14 x15 : List ℕ)
    → ((((((((((((((out ++ x1) ++ x2) ++ x3) ++ x4) ++ x5) ++ x6) ++ x7) ++ x8) ++ x9) ++ x10) ++ x11) ++ x12) ++ x13) ++ x14) ++ x15
    ≡ out ++ ((((((((((((((x1 ++ x2) ++ x3) ++ x4) ++ x5) ++ x6) ++ x7) ++ x8) ++ x9) ++ x10) ++ x11) ++ x12) ++ x13) ++ x14) ++ x15)
glue-fifteen out x1 x2 x3 x4 x5 x6 x7 x8 x9 x10 x11 x12 x13 x14 x15 = simp append_assoc
