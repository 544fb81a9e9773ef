-- Facts that proofs of other crates cite.

-- records that come one after another, and what stands for them
pub use Rattle.rtk_tracking.proofs.RecordLemmas.{HasCome, come-more, come-all}
-- each bit 0 is exactly one of three kinds
pub use Rattle.rtk_tracking.proofs.BitLemmas.{each-bit}
