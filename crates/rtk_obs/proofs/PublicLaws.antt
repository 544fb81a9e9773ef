-- The laws of src/laws.rt as lemmas, which proofs of other crates cite: each says what a clause
-- there says.

-- the clause `one_moment` of `civil_laws`
pub use Rattle.rtk_obs.proofs.YearLemmas.{one_moment}
-- the clauses `one` and `reads` of `one_reading`, that two readings with equal fields are the same, and the last year of a moment
pub use Rattle.rtk_obs.proofs.ReadingLemmas.{reading_is, reading-reads, same_civil, year-bound}
-- the clause `equality` of `code_laws`
pub use Rattle.rtk_obs.proofs.EqualityLemmas.{code_same}
-- the clause `each` of `cells_are_distinct`; the clauses `each`, `satellites` and `kind` of `cells_are_in_range`
pub use Rattle.rtk_obs.proofs.MessageLemmas.{cells_of-distinct, cells_of-in_range, cells_of-satellites, cells_of-kind}
-- the clauses of `places_are_distinct`: code_bound, signal_bound, distinct
pub use Rattle.rtk_obs.proofs.TracksLemmas.{place_bound, place_inside, same_signal}
-- the clauses of `entry_laws`: codes, range, differ, kind, gps and numbers
pub use Rattle.rtk_obs.proofs.SignalEntryLemmas.{entries_of-own, entries_of-in_range, entries_of-differ, entries_of-kind, entries-of-gps, number-of-gps}
-- the clauses `bound`, `numbers` and `equality` of `any_code_laws`, and that a number is below 69
pub use Rattle.rtk_obs.proofs.AnyCodeLemmas.{place_below, same_number, number_below}
pub use Rattle.rtk_obs.proofs.EqualityLemmas.{any_code_same}
-- the clauses `time` and `legacy` of `clock_laws`
pub use Rattle.rtk_obs.proofs.ClockLemmas.{is_clock, clock-of-1012}
-- the clauses of `sbas_laws`: codes, range, differ, kind and plain
pub use Rattle.rtk_obs.proofs.SbasLemmas.{sbas-own, sbas-range, sbas-differ, sbas-kind, plain-1004}
-- the clauses of `normal_field_laws`: twice, marks and cells
pub use Rattle.rtk_obs.proofs.NormalFieldLemmas.{normal-twice, normal-marks, normal-cells}
-- the clauses of `doppler_laws`: codes, range, differ, kind and plain
pub use Rattle.rtk_obs.proofs.DopplerLemmas.{doppler-own, doppler-range, doppler-differ, doppler-kind, plain-entries}
