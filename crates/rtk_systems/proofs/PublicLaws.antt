-- Lemmas that proofs of other crates cite.

pub use Rattle.rtk_systems.proofs.ChannelLemmas.{one-glonass, one-row, one-seconds}
