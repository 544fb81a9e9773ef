-- The end of a conversion: the counts, and the last lines.
use Rattle.std.proofs.Common.{◌≡◌, ◌∙◌, ◌≤◌, ℕ, zero, suc, Bool, List, [], ◌∷◌, ◌++◌, Option, inl, inr, refl, ap, subst, arith}
use Rattle.std.specs.Prelude.{◌&&◌, not, codes, if◌then◌else◌}
use Rattle.rtk_message.specs.declared.system.System.{System}
use Rattle.rtk_message.specs.declared.system.System.TheVariants.{Gps, Glonass, Galileo, Beidou, Qzss, Sbas, Navic}
use Rattle.rtk_obs.specs.Carriers.{IsSlot}
use Rattle.rtk_obs.specs.SatelliteIndex.{letter_of}
use Rattle.rtk_obs.specs.declared.signal_cells.SignalEntry.{SignalEntry}
use Rattle.rtk_collect.specs.Accepted.{kept}
use Rattle.rtk_collect.specs.Arrival.{Arrival}
use Rattle.rtk_collect.specs.Collector.{CollectorView}
use Rattle.rtk_collect.specs.Signals.{signals}
use Rattle.rtk_frame.specs.Stream.{with_more, TakesPart}
use Rattle.rtk_setup.specs.declared.counts.Counts.{Counts}
use Rattle.rtk_convert.specs.declared.remarks.Remarks.{Remarks}
use Rattle.rtk_convert.specs.declared.systems.Systems.{Systems}
use Rattle.rtk_convert.specs.ClosedEpochs.{ClosedEpochsView}
use Rattle.rtk_convert.specs.File.{record_count}
use Rattle.rtk_convert.specs.FileOfArrivals.{kept_file, file_so_far}
use Rattle.rtk_convert.specs.Conversion.{HasRemarks}
use Rattle.rtk_convert.specs.Finish.{all_counts, missing_letter, missing_lines, unphased_lines, remark_lines, report_of}
use Rattle.rtk_convert.specs.FrameClass.{Found, arrivals}
use Rattle.rtk_convert.specs.Report.{lines, frame_counts, has_taken}
use Rattle.rtk_convert.specs.ReportText.{missing_line, slot_name, slot_names, slots_line, channels_text}
use Rattle.rtk_setup.specs.Counts.{count_lines}
use Rattle.rtk_setup.specs.Setup.{SetupView, is_of_gps, lists_system, cells_by}
use Rattle.rtk_convert.specs.Slots.{has_slot, is_without_channel, is_of_other_channel, any_tells}
use Rattle.rtk_convert.specs.Systems.{has_system}
use Rattle.rtk_convert.specs.Writing.{Written, written, WritesRest}
use Rattle.rtk_convert.specs.Steps.AddedMessage.{RepresentsEpochs}
use Rattle.rtk_convert.specs.Steps.Closing.{FinishesConversion, FinishesConversionInPart}
use Rattle.rtk_convert.specs.Steps.LastLines.{last_lines, missing_letter_by, missing_lines_by, unphased_lines_by, remark_lines_by}
use Rattle.rtk_convert.specs.Steps.WritingInPart.{WritesPartOfRest}
use Rattle.rtk_convert.proofs.AddLemmas.{epochs}
use Rattle.rtk_convert.proofs.ArriveLemmas.{state}
use Rattle.rtk_convert.proofs.WritingLemmas.{writes-text, part-text, part-none, part-all}

-- ---- the systems of which no message was taken

letter-same : (s : SetupView) (y : Systems) (found : List Found) → ((system : System) → has_system y system ≡ has_taken s system found) → (system : System) → missing_letter_by s y system ≡ missing_letter s found system
letter-same s y found h system =
    ap (λ (b : Bool). if (lists_system s.head.listed system && not b) then 32 ∷ letter_of system ∷ [] else []) (h system)

missing-same : (s : SetupView) (y : Systems) (found : List Found) → ((system : System) → has_system y system ≡ has_taken s system found) → missing_lines_by s y ≡ missing_lines s found
missing-same s y found h =
    let letter = letter-same s y found h in
    ap (λ (t : List ℕ). if is_of_gps s then [] else missing_line t)
    (ap (λ (t : List ℕ). t ++ missing_letter_by s y Glonass ++ missing_letter_by s y Galileo ++ missing_letter_by s y Beidou ++ missing_letter_by s y Qzss ++ missing_letter_by s y Sbas ++ missing_letter_by s y Navic) (letter Gps)
    ∙ ap (λ (t : List ℕ). missing_letter s found Gps ++ t ++ missing_letter_by s y Galileo ++ missing_letter_by s y Beidou ++ missing_letter_by s y Qzss ++ missing_letter_by s y Sbas ++ missing_letter_by s y Navic) (letter Glonass)
    ∙ ap (λ (t : List ℕ). missing_letter s found Gps ++ missing_letter s found Glonass ++ t ++ missing_letter_by s y Beidou ++ missing_letter_by s y Qzss ++ missing_letter_by s y Sbas ++ missing_letter_by s y Navic) (letter Galileo)
    ∙ ap (λ (t : List ℕ). missing_letter s found Gps ++ missing_letter s found Glonass ++ missing_letter s found Galileo ++ t ++ missing_letter_by s y Qzss ++ missing_letter_by s y Sbas ++ missing_letter_by s y Navic) (letter Beidou)
    ∙ ap (λ (t : List ℕ). missing_letter s found Gps ++ missing_letter s found Glonass ++ missing_letter s found Galileo ++ missing_letter s found Beidou ++ t ++ missing_letter_by s y Sbas ++ missing_letter_by s y Navic) (letter Qzss)
    ∙ ap (λ (t : List ℕ). missing_letter s found Gps ++ missing_letter s found Glonass ++ missing_letter s found Galileo ++ missing_letter s found Beidou ++ missing_letter s found Qzss ++ t ++ missing_letter_by s y Navic) (letter Sbas)
    ∙ ap (λ (t : List ℕ). missing_letter s found Gps ++ missing_letter s found Glonass ++ missing_letter s found Galileo ++ missing_letter s found Beidou ++ missing_letter s found Qzss ++ missing_letter s found Sbas ++ t) (letter Navic))

-- ---- the slots whose satellites have no phases

-- the same names, if two tests hold of the same slots
names-same : (p q : ℕ → Bool) → ((slot : ℕ) → IsSlot slot → p slot ≡ q slot) → (n : ℕ) → n ≤ 27 → slot_names p n ≡ slot_names q n
names-same p q h zero few = refl
names-same p q h (suc n) few =
    ap (λ (t : List ℕ). t ++ (if p (suc n) then slot_name (suc n) else [])) (names-same p q h n (omega arith))
    ∙ ap (λ (b : Bool). slot_names q n ++ (if b then slot_name (suc n) else [])) (h (suc n) (omega arith, omega arith))

-- so the lines of such slots are the same
pub channels-same : (b : Bool) (p q u v : ℕ → Bool) → ((slot : ℕ) → IsSlot slot → p slot ≡ u slot) → ((slot : ℕ) → IsSlot slot → q slot ≡ v slot)
    → (if b then channels_text p q else []) ≡ (if b then channels_text u v else [])
channels-same b p q u v h k =
    ap (λ (t : List ℕ). if b then slots_line (codes "other-channel") t ++ slots_line (codes "no-channel") (slot_names q 27) else []) (names-same p u h 27 (omega arith))
    ∙ ap (λ (t : List ℕ). if b then slots_line (codes "other-channel") (slot_names u 27) ++ slots_line (codes "no-channel") t else []) (names-same q v k 27 (omega arith))

unphased-same : (s : SetupView) (y : Remarks) (found : List Found) → HasRemarks s y found → unphased_lines_by s y ≡ unphased_lines s found
unphased-same s y found h =
    channels-same (lists_system s.head.listed Glonass) (has_slot y.other_channels) (has_slot y.no_channels)
    (λ slot. any_tells is_of_other_channel s slot found) (λ slot. any_tells is_without_channel s slot found) h.1 h.2

remarks-same : (s : SetupView) (y : Remarks) (found : List Found) → HasRemarks s y found → remark_lines_by s y ≡ remark_lines s found
remarks-same s y found h =
    ap (λ (t : List ℕ). t ++ missing_lines_by s y.systems) (unphased-same s y found h)
    ∙ ap (λ (t : List ℕ). unphased_lines s found ++ t) (missing-same s y.systems found h.0)

-- ---- the end

-- the rest of the file was written, with this count of records
abbrev pub EndsFile : SetupView → CollectorView SignalEntry → ClosedEpochsView → ℕ → Option (List ℕ) → Option (List ℕ) → Type 0
EndsFile s w c count o out = (before : List Arrival) → RepresentsEpochs s (epochs w c) before
    → (count ≡ record_count s.head.doppler s.head.listed (kept signals (cells_by s) s.window before)) × WritesRest o out (file_so_far s before) (kept_file s before)

-- it breaks off in the file
pub finish-part-file : {s : SetupView} {w : CollectorView SignalEntry} {c : ClosedEpochsView} {k : Counts} {y : Remarks} {b : Bool} {o : Written} {file : Option (List ℕ)} → ((before : List Arrival) → RepresentsEpochs s (epochs w c) before → WritesPartOfRest o.file file (file_so_far s before) (kept_file s before))
    → FinishesConversionInPart (state s w c k y b) o (written file o.report)
finish-part-file {s} {w} {c} {k} {y} {b} {o} {file} part = λ found rep. record {
  out = part (arrivals found) (record { kept = rep.kept; closed = rep.closed });
  log = part-none o.report (lines s found) (report_of s found) (remark_lines s found ++ count_lines (all_counts s found)) refl;
  counts_last = inl refl;
}

module _ {s : SetupView} {w : CollectorView SignalEntry} {c : ClosedEpochsView} {k k' : Counts} {y : Remarks} {b : Bool} {o : Written} where
  pub finishes : {count : ℕ} {o' : Written} → EndsFile s w c count o.file o'.file → k' ≡ record k { epochs = count } → o'.report ≡ with_more o.report (last_lines s y k')
      → FinishesConversion (state s w c k y b) k' o o'
  finishes {count} {o'} ends counts wrote = λ found rep.
      let t = ends (arrivals found) (record { kept = rep.kept; closed = rep.closed }) in
      let same : k' ≡ all_counts s found =
      counts ∙ ap (λ (x : Counts). record x { epochs = count }) rep.counts ∙ ap (λ (n : ℕ). record (frame_counts s found) { epochs = n }) t.0 in
      record {
        counts_are = same;
        out = t.1;
        log = writes-text o.report o'.report (lines s found) (report_of s found) (remark_lines s found ++ count_lines (all_counts s found)) refl
            (wrote ∙ ap (with_more o.report) (ap (λ (x : Counts). remark_lines_by s y ++ count_lines x) same ∙ ap (λ (t : List ℕ). t ++ count_lines (all_counts s found)) (remarks-same s y found rep.remarks)));
      }

  -- in the last lines
  pub finish-part-lines : {count : ℕ} {o' : Written} → EndsFile s w c count o.file o'.file → k' ≡ record k { epochs = count } → TakesPart o.report o'.report (last_lines s y k')
      → FinishesConversionInPart (state s w c k y b) o o'
  finish-part-lines {count} {o'} ends counts part = λ found rep.
      let t = ends (arrivals found) (record { kept = rep.kept; closed = rep.closed }) in
      let same : k' ≡ all_counts s found =
      counts ∙ ap (λ (x : Counts). record x { epochs = count }) rep.counts ∙ ap (λ (n : ℕ). record (frame_counts s found) { epochs = n }) t.0 in
      let text = ap (λ (x : Counts). remark_lines_by s y ++ count_lines x) same ∙ ap (λ (t : List ℕ). t ++ count_lines (all_counts s found)) (remarks-same s y found rep.remarks) in
      record {
        out = part-all o.file o'.file (file_so_far s (arrivals found)) (kept_file s (arrivals found)) t.1;
        log = part-text o.report o'.report (lines s found) (report_of s found) (remark_lines s found ++ count_lines (all_counts s found)) refl
            (subst (λ (x : List ℕ). TakesPart o.report o'.report x) text part);
        counts_last = inr t.1;
      }
