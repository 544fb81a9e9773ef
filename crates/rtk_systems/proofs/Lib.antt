mod ChannelLemmas
mod CodeLemmas
mod MessageLineLemmas
pub mod PublicLaws
