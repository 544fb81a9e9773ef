-- One more closed epoch.
use Rattle.std.proofs.Common.{◌≡◌, ℕ, Bool, true, false, List, [], ◌∷◌, Option, None, Some, refl, ap, sym, ◌∙◌}
use Rattle.std.specs.Prelude.{is_some}
use Rattle.rtk_obs.specs.declared.any_code.AnyCode.{AnyCode}
use Rattle.rtk_obs.specs.declared.signal_cells.SignalEntry.{SignalEntry}
use Rattle.rtk_collect.specs.EpochSet.{EpochSetView}
use Rattle.rtk_frame.specs.Stream.{count_after}
use Rattle.rtk_rinex.specs.Header.{PositionView}
use Rattle.rtk_setup.specs.Setup.{SetupView}
use Rattle.rtk_convert.specs.File.{record_of, first_or, first_time, one_more_if_any, record_count}
use Rattle.rtk_convert.specs.Steps.ClosedText.{closing, closing_text, is_any}
use Rattle.rtk_convert.specs.LastPhases.{HasLastPhases}
use Rattle.rtk_convert.specs.ClosedEpochs.{ClosedEpochsView, HasClosed}

first-no : (o : Option ℕ) (e : ℕ) (text : List ℕ) → is_any text ≡ false → first_or o e text ≡ o
first-no (Some t) e text h = refl
first-no None e [] h = refl
first-no None e (x ∷ text) h = cc

first-yes : (o : Option ℕ) (e : ℕ) (text : List ℕ) → is_any text ≡ true → is_some (first_or o e text) ≡ true
first-yes (Some t) e text h = refl
first-yes None e [] h = cc
first-yes None e (x ∷ text) h = refl

count-no : (n : ℕ) (text : List ℕ) → is_any text ≡ false → one_more_if_any text n ≡ n
count-no n [] h = refl
count-no n (x ∷ text) h = cc

count-yes : (n : ℕ) (text : List ℕ) → is_any text ≡ true → one_more_if_any text n ≡ count_after n
count-yes n [] h = cc
count-yes n (x ∷ text) h = refl

-- an epoch without a record
pub follows-no : (old new : ClosedEpochsView) (doppler : Bool) (listed : List AnyCode) (e : EpochSetView SignalEntry) (below : List (EpochSetView SignalEntry)) → HasLastPhases new.tracks (e ∷ below) → new.is_header_out ≡ old.is_header_out
    → new.count ≡ old.count → is_any (record_of doppler listed e below) ≡ false → HasClosed old doppler listed below → HasClosed new doppler listed (e ∷ below)
unfolding first_time record_count
follows-no old new doppler listed e below phases out count none f = record {
  phases = phases;
  is_header_out = out ∙ f.is_header_out ∙ ap (λ (o : Option ℕ). is_some o) (sym (first-no (first_time doppler listed below) e.epoch (record_of doppler listed e below) none));
  count = count ∙ f.count ∙ sym (count-no (record_count doppler listed below) (record_of doppler listed e below) none);
}

-- one with a record
pub follows-yes : (old new : ClosedEpochsView) (doppler : Bool) (listed : List AnyCode) (e : EpochSetView SignalEntry) (below : List (EpochSetView SignalEntry)) → HasLastPhases new.tracks (e ∷ below) → new.is_header_out ≡ true
    → new.count ≡ count_after old.count → is_any (record_of doppler listed e below) ≡ true → HasClosed old doppler listed below → HasClosed new doppler listed (e ∷ below)
unfolding first_time record_count
follows-yes old new doppler listed e below phases out count some f = record {
  phases = phases;
  is_header_out = out ∙ sym (first-yes (first_time doppler listed below) e.epoch (record_of doppler listed e below) some);
  count = count ∙ ap count_after f.count ∙ sym (count-yes (record_count doppler listed below) (record_of doppler listed e below) some);
}

-- what the text of its record adds, by the header that is out
pub closing-is : (s : SetupView) (site : PositionView) (e : EpochSetView SignalEntry) (below : List (EpochSetView SignalEntry)) (time : ℕ) (out : Bool) (text : List ℕ) → time ≡ e.epoch
    → out ≡ is_some (first_time s.head.doppler s.head.listed below) → text ≡ record_of s.head.doppler s.head.listed e below → closing_text s site time out text ≡ closing s site e below
closing-is s site e below time out text timed known shown =
    ap (λ (t : ℕ). closing_text s site t out text) timed
    ∙ ap (λ (b : Bool). closing_text s site e.epoch b text) known
    ∙ ap (closing_text s site e.epoch (is_some (first_time s.head.doppler s.head.listed below))) shown
