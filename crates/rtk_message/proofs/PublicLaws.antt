-- The laws of src/laws.rt that proofs of other crates cite, as lemmas: each says what a clause
-- there says.

-- the clause of `parts_of_fields_fit`
pub use Rattle.rtk_message.specs.FieldLaws.{fit-parts}
-- the clauses of `decodes_by_four`
pub use Rattle.rtk_message.proofs.AnyDecodedLemmas.{by_four, of_four, each_by_four}
-- the clause of `clocks_of_gps_lie_in_a_week`
pub use Rattle.rtk_message.proofs.AnyDecodedLemmas.{in_week}
-- three clauses of `sets_of_types`
pub use Rattle.rtk_message.proofs.SystemsLemmas.{accepts-type, takes-gps, takes-1012}
-- the clauses of `form_of_1074`
pub use Rattle.rtk_message.proofs.MsmLemmas.{table_of_1074, form_of_valid_1074, valid_1074_of_form, fault_of_1074}
-- the clause of `numbers_end`
pub use Rattle.rtk_message.proofs.NumberLemmas.{number-then}
