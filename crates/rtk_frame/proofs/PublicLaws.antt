-- The laws of src/laws.rt as lemmas, which proofs of other crates cite: each says what a clause
-- there says.

-- the clauses `payloads` of `final_frames_in_any_cut`, `frames_in_any_cut` and
-- `frames_after_the_first`, and the clause of `final_frames_after_found`
pub use Rattle.rtk_frame.proofs.FirstFrame.{final_payloads_cut, payloads_cut, first_payloads, after_found}
-- the clauses `placed` of `final_frames_in_any_cut` and of `frames_in_any_cut`
pub use Rattle.rtk_frame.proofs.Pieces.{final_cut, frames_cut}
-- the clauses of `places_after_found`: piece, rest; and frames that are shifted twice
pub use Rattle.rtk_frame.proofs.FoundPlace.{found_in_piece, found_of_rest, shifted_twice}
-- the clause `is` of `pending_of_a_text`
pub use Rattle.rtk_frame.proofs.FinalLaw.{is_pending}
-- the clause of `pending_in_any_cut`
pub use Rattle.rtk_frame.proofs.Pieces.{pending_cut}
-- the clauses of `passed_bytes_join`: none, parts
pub use Rattle.rtk_frame.proofs.StreamLemmas.{with_more-nil, with_more-with_more}
-- the clauses of `calls_of_one_read`, at_most and one, for any functions in the place of the ghost
-- members of `Source`
pub use Rattle.rtk_frame.proofs.StreamLemmas.{sum_calls-at_most, sum_calls-one}
