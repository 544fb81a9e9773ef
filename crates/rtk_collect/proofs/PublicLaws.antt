-- The laws of src/laws.rt as lemmas, which proofs of other crates cite: each says what a clause
-- there says, but for `with_cells-all` and `left-is`.

-- the clause of `late_arrivals_change_nothing`; the clauses `grow` and `after` of
-- `closed_epochs_only_grow`; the clause `late` of `stations_are_final`; the clauses `late` and
-- `in_time` of `kept_epochs_of_arrivals`
pub use Rattle.rtk_collect.proofs.LateLemmas.{late-change-nothing, closed-only-grow, closed-after, stations-are-final, kept-late, kept-new}
-- the clause `held` of `kept_epochs_of_arrivals`, the clause `count` of
-- `closed_epochs_are_the_rest`, and the clause `opens` of `openings_do_not_conflict`
pub use Rattle.rtk_collect.proofs.OpeningLemmas.{held-length, closed-length, opening-conflicts-not}
-- the clause `rest` of `closed_epochs_are_the_rest`, whatever the second argument is
pub use Rattle.rtk_collect.proofs.JoinsLemmas.{closed-drop}
-- the clauses `greater`, `same` and `lesser` of `cells_join_epochs`, and the clause `fall` of
-- `kept_epochs_are_ordered`
pub use Rattle.rtk_collect.proofs.ArrivalsLemmas.{with_arrival-new, with_arrival-same, with_arrival-below, kept-falls}
-- the clauses `rise` and `same` of `kept_epochs_are_ordered`
pub use Rattle.rtk_collect.proofs.SetsLemmas.{kept-rise, kept-same}
-- the clause `taken` of `set_decides`
pub use Rattle.rtk_collect.proofs.MembersLemmas.{kept-are-taken}
-- the clause `cells` of `epochs_are_bounded`
pub use Rattle.rtk_collect.proofs.FewLemmas.{kept-are-few}
-- what holds of all cells that join and of all cells that they join holds of all after it: of any
-- property, and a clause can't speak of all properties
pub use Rattle.rtk_collect.proofs.CellsLemmas.{with_cells-all}
-- cells that are left beside others by satellite and code are left by their numbers
pub use Rattle.rtk_collect.proofs.LegacyListLemmas.{left-is}
-- the clauses `order`, `satellites` and `opens` of `signal_window_laws`
pub use Rattle.rtk_collect.proofs.SignalLemmas.{gps-keeps-its-order, epochs-are-of-satellites, signals-open}
-- the clause `gps` of `signal_window_laws`
pub use Rattle.rtk_collect.proofs.SignalGpsLemmas.{gps-is-kept}
