use Rattle.std.proofs.Common.{◌≡◌, ℕ, ◌<◌, ◌≤◌, List, length, slice_index_or}
use Rattle.rtk_obs.specs.AnyCode.{name_of}
use Rattle.rtk_obs.specs.declared.any_code.AnyCode.{AnyCode}
use Rattle.rtk_rinex.specs.Steps.MixedHeaderRead.{AreAllOf, IsGroup, code_name_at}
use Rattle.rtk_rinex.proofs.mixed_types_read.move_shown_codes.Given as goal

abbrev pub invariant-loop-i : goal.invariant-loop-i
invariant-loop-i l = record {
  all : AreAllOf l.system l.all;
  shown : (ds : List AnyCode) (k : ℕ) (d : AnyCode) → IsGroup l.system ds → k < length ds → k < l.i
      → ((j : ℕ) → j ≤ k → code_name_at l.doppler j l.text ≡ name_of (slice_index_or ds j d)) → slice_index_or l.all k d ≡ slice_index_or ds k d;
}
