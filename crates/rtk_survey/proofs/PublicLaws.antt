-- Lemmas that proofs of other crates cite.

pub use Rattle.rtk_survey.proofs.CutLemmas.{head-more, take-none, take-again}
pub use Rattle.rtk_survey.proofs.FreshLemmas.{as-many}
pub use Rattle.rtk_survey.proofs.ListLemmas.{cut-at, put-more}
pub use Rattle.rtk_survey.proofs.LineLemmas.{code-kept, code-left}
pub use Rattle.rtk_survey.proofs.MsmLemmas.{codes-marked, epochs-are, stands-of}
pub use Rattle.rtk_survey.proofs.PutLemmas.{three-parts, four-parts, five-parts, seven-parts, then-put}
pub use Rattle.rtk_survey.proofs.ReadLemmas.{count-rises, refilled, length-first}
