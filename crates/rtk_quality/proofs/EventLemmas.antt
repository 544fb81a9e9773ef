-- Outages, and epochs at which several satellites slip.
use Rattle.std.proofs.Common.{◌≡◌, ◌&&◌, not, ◌++◌, cond, ℕ, Bool, true, false, List, [], ◌∷◌, Option, None, Some, inl, inr, refl, sym, ap, subst, ◌∙◌}
use Rattle.std.proofs.lemmas.Bool.{cases_Bool}
use Rattle.rtk_obs.specs.declared.time.Civil.{Civil}
use Rattle.rtk_obs.specs.Reading.{reading_of}
use Rattle.rtk_rinex.specs.Record.{EpochTableView}
use Rattle.rtk_tracking.specs.Passes.{Sighting, has_phase, last_phase, is_away, is_out, is_gap_of_file, begins_pass, absence_before, outage_before}
use Rattle.rtk_quality.specs.Largest.{list_of, AreLargest}
use Rattle.rtk_quality.specs.Moments.{together_in, moment_if_several, common_moments, size_of_moment}
use Rattle.rtk_quality.specs.Outages.{absence_between, absence_at}
use Rattle.rtk_quality.specs.SatellitePasses.{sums_at, passes_of}
use Rattle.rtk_quality.specs.Standing.{newest_pass, with_epoch}
use Rattle.rtk_quality.specs.Steps.Noted.{absence_after}
use Rattle.rtk_quality.specs.declared.largest.Largest.{Largest}
use Rattle.rtk_quality.specs.declared.moments.Together.{Together}
use Rattle.rtk_quality.specs.declared.moments.Moment.{Moment}
use Rattle.rtk_quality.specs.declared.outages.Absence.{Absence}
use Rattle.rtk_quality.specs.declared.pass_sums.PassSums.{PassSums}
use Rattle.rtk_quality.specs.declared.satellite_counts.PassCounts.{PassCounts}
use Rattle.rtk_quality.proofs.CountLemmas.{same-passes, last-more}

-- ---- outages

-- the end of a pass
abbrev end-of : Option PassCounts → Option Civil
end-of None = None
end-of (Some p) = Some p.until

abbrev reading-if : Option ℕ → Option Civil
reading-if None = None
reading-if (Some t) = Some (reading_of t)

abbrev absence-with : Option Civil → Civil → Option ℕ → Option Absence
absence-with None until ms = None
absence-with (Some from) until None = None
absence-with (Some from) until (Some ms) = Some (record { from = from; until = until; ms = ms })

end-with : (last : Option PassCounts) (begins : Bool) (reading : Civil) (sums : PassSums) → end-of (Some (with_epoch last begins reading sums)) ≡ Some reading
end-with None begins reading sums = refl
end-with (Some p) true reading sums = refl
end-with (Some p) false reading sums = refl

-- the last pass ends with the last phase
last-ends : (interval : Option ℕ) (before : List Sighting) → end-of (newest_pass (passes_of interval before)) ≡ reading-if (last_phase before)
last-ends interval [] = refl
last-ends interval (s ∷ before) =
    elim (cases_Bool (has_phase s.observed)) [
      | inl has ↦
          sym (ap (λ (o : Option PassCounts). end-of o) (last-more interval before s (newest_pass (passes_of interval before)) refl has))
          ∙ end-with (newest_pass (passes_of interval before)) (begins_pass interval before s) (reading_of s.time) (sums_at interval before s)
          ∙ sym (ap (λ (b : Bool). reading-if (cond b (Some s.time) (last_phase before))) has)
      | inr none ↦
          ap (λ (ps : List PassCounts). end-of (newest_pass ps)) (same-passes interval before s none) ∙ last-ends interval before
          ∙ sym (ap (λ (b : Bool). reading-if (cond b (Some s.time) (last_phase before))) none)
    ]

after-is : (last : Option PassCounts) (until : Civil) (ms : Option ℕ) → absence_after last until ms ≡ absence-with (end-of last) until ms
after-is None until ms = refl
after-is (Some p) until None = refl
after-is (Some p) until (Some ms) = refl

between-is : (last : Option ℕ) (t : ℕ) (ms : Option ℕ) → absence_between last t ms ≡ absence-with (reading-if last) (reading_of t) ms
between-is None t ms = refl
between-is (Some last) t None = refl
between-is (Some last) t (Some ms) = refl

-- the absence that ends with an epoch began with the end of the last pass
pub absence-is : (interval : Option ℕ) (before : List Sighting) (s : Sighting) (last : Option PassCounts) (until : Civil) (ms : Option ℕ)
    → last ≡ newest_pass (passes_of interval before) → until ≡ reading_of s.time → ms ≡ outage_before interval before s
    → absence_after last until ms ≡ absence_at interval before s
absence-is interval before s last until ms is_last is_until is =
    after-is last until ms ∙ ap (λ (o : Option PassCounts). absence-with (end-of o) until ms) is_last
    ∙ ap (λ (o : Option Civil). absence-with o until ms) (last-ends interval before)
    ∙ ap (λ (c : Civil). absence-with (reading-if (last_phase before)) c ms) is_until
    ∙ ap (λ (o : Option ℕ). absence-with (reading-if (last_phase before)) (reading_of s.time) o) is
    ∙ sym (between-is (last_phase before) s.time (outage_before interval before s))

between-none : (last : Option ℕ) (t : ℕ) → absence_between last t None ≡ None
between-none None t = refl
between-none (Some last) t = refl

-- without a phase no outage ends
pub no-absence : (interval : Option ℕ) (before : List Sighting) (s : Sighting) → has_phase s.observed ≡ false → None ≡ absence_at interval before s
no-absence interval before s none =
    sym (ap (λ (b : Bool). absence_between (last_phase before) s.time (cond (b && (ends interval before s)) (Some (absence_before interval (last_phase before) s.time)) None)) none
    ∙ between-none (last_phase before) s.time)
  where
    ends : Option ℕ → List Sighting → Sighting → Bool
    ends interval before s = not (is_away interval (last_phase before) s.time) && (is_out interval (last_phase before) s.time && not (is_gap_of_file before))

-- ---- moments

-- the moments, an epoch more
pub moments-noted : (interval : Option ℕ) (e : EpochTableView) (es : List EpochTableView) (time : ℕ) (together : Together) (moment : Option Moment) (old new : Largest Moment)
    → time ≡ e.time → together ≡ together_in interval es e.time e.rows → moment ≡ moment_if_several time together → AreLargest size_of_moment old (common_moments interval es)
    → ((all : List Moment) → AreLargest size_of_moment old all → AreLargest size_of_moment new (all ++ list_of moment))
    → AreLargest size_of_moment new (common_moments interval (e ∷ es))
moments-noted interval e es time together moment old new at are is was took =
    let here : moment ≡ moment_if_several e.time (together_in interval es e.time e.rows) =
    is ∙ ap (λ (t : ℕ). moment_if_several t together) at ∙ ap (λ (n : Together). moment_if_several e.time n) are in
    subst (λ (m : Option Moment). AreLargest size_of_moment new (common_moments interval es ++ list_of m)) here (took (common_moments interval es) was)
