-- One frame: what the conversion represents after it, and what was written.
use Rattle.std.proofs.Common.{◌≡◌, ℕ, Bool, List, [], ◌∷◌, ◌++◌, Option, refl, ap, sym, ◌∙◌, inl}
use Rattle.std.specs.Prelude.{◌||◌}
use Rattle.rtk_message.specs.declared.any_fault.AnyFault.{AnyFault}
use Rattle.rtk_obs.specs.declared.signal_cells.SignalEntry.{SignalEntry}
use Rattle.rtk_obs.specs.Carriers.{IsSlot}
use Rattle.rtk_collect.specs.Arrival.{Arrival, message_of}
use Rattle.rtk_collect.specs.Collector.{CollectorView}
use Rattle.rtk_frame.specs.Stream.{with_more, TakesPart, count_after}
use Rattle.rtk_frame.proofs.PublicLaws.{with_more-nil}
use Rattle.rtk_convert.specs.declared.frame_class.FrameClass.TheVariants.{OtherMessage, Refused, Foreign, Dated}
use Rattle.rtk_setup.specs.declared.counts.Counts.{Counts}
use Rattle.rtk_convert.specs.declared.remarks.Remarks.{Remarks}
use Rattle.rtk_convert.specs.declared.systems.Systems.{Systems}
use Rattle.rtk_convert.specs.ClosedEpochs.{ClosedEpochsView}
use Rattle.rtk_convert.specs.Conversion.{ConversionView}
use Rattle.rtk_convert.specs.FileOfArrivals.{file_so_far}
use Rattle.rtk_convert.specs.FrameClass.{IsClassOfPayload, Found, arrivals}
use Rattle.rtk_convert.specs.Report.{arrival_class, brings, frame_lines, refused_line, lines, counted_as, one_frame_more, frame_counts, has_taken}
use Rattle.rtk_setup.specs.Setup.{SetupView, channels_of}
use Rattle.rtk_convert.specs.Slots.{has_slot, SatelliteTest, is_without_channel, is_of_other_channel, has_such_satellite, tells_slot, any_tells}
use Rattle.rtk_convert.specs.Systems.{has_system}
use Rattle.rtk_convert.specs.Writing.{Written, written}
use Rattle.rtk_convert.specs.Steps.AcceptedFrame.{AcceptsFrame, BreaksOffAtFrame}
use Rattle.rtk_convert.specs.Steps.AddedMessage.{AddsMessage, AddsMessageInPart}
use Rattle.rtk_convert.specs.Steps.Remarks.{PutsSuch, PutsSlots}
use Rattle.rtk_convert.proofs.OneTextLemmas.{one-arrived}
use Rattle.rtk_convert.proofs.WritingLemmas.{writes-none, writes-text, part-text, part-all}

abbrev pub state : SetupView → CollectorView SignalEntry → ClosedEpochsView → Counts → Remarks → Bool → ConversionView
state s w c k y b = record { setup = s; collector = w; closed_epochs = c; counts = k; remarks = y; stopped = b }

-- the sets of slots after one more message, by those before it
slots-more : (s : SetupView) (a : Arrival) (found : List Found) (test : SatelliteTest) (old mid new : List Bool) → new ≡ mid
    → PutsSuch (λ k. has_such_satellite test (channels_of s.head.glonass) k (message_of a)) old mid
    → ((slot : ℕ) → IsSlot slot → has_slot old slot ≡ any_tells test s slot found)
    → (slot : ℕ) → IsSlot slot → has_slot new slot ≡ (tells_slot test s slot (Dated a) || any_tells test s slot found)
slots-more s a found test old mid new same puts before = λ slot is.
    ap (λ (marks : List Bool). has_slot marks slot) same ∙ puts slot is
    ∙ ap (λ (b : Bool). has_such_satellite test (channels_of s.head.glonass) slot (message_of a) || b) (before slot is)

pub arrives-arrived : {s : SetupView} {w : CollectorView SignalEntry} {c : ClosedEpochsView} {new : ConversionView} {k k₁ : Counts} {y y₁ : Remarks} {b b₁ : Bool} {link : ℕ} (payload : List ℕ) {a : Arrival} {o o' : Written}
    → IsClassOfPayload s payload (Dated a) → k₁ ≡ one_frame_more k → PutsSlots (channels_of s.head.glonass) (message_of a) y y₁ → new.setup ≡ s
    → AddsMessage (state s w c k₁ y₁ b₁) link a new o o' → AcceptsFrame (state s w c k y b) link payload new o o'
arrives-arrived {s} {w} {c} {new} {k} {k₁} {y} {y₁} {b} {b₁} {link} payload {a} {o} {o'} comes frames slots same_setup takes = λ before rep.
    let t = takes (arrivals before) (record { kept = rep.kept; closed = rep.closed }) in
    let found : List Found = record { link = link; class = Dated a } ∷ before in (
      Dated a,
      comes,
      record {
        represents = record {
          kept = t.after.kept;
          closed = t.after.closed;
          counts = t.counts ∙ ap (counted_as (arrival_class s a (arrivals before))) (frames ∙ ap one_frame_more rep.counts) ∙ ap (λ (x : SetupView). frame_counts x found) (sym same_setup);
          remarks = (
            λ system. t.systems system
                ∙ ap (λ (b : Bool). brings s system (Dated a) (arrivals before) || b) (ap (λ (x : Systems). has_system x system) slots.systems ∙ rep.remarks.0 system)
                ∙ ap (λ (x : SetupView). has_taken x system found) (sym same_setup),
            λ slot is. slots-more s a before is_of_other_channel y.other_channels y₁.other_channels new.remarks.other_channels t.other_channels slots.other_channels rep.remarks.1 slot is
                ∙ ap (λ (x : SetupView). any_tells is_of_other_channel x slot found) (sym same_setup),
            λ slot is. slots-more s a before is_without_channel y.no_channels y₁.no_channels new.remarks.no_channels t.no_channels slots.no_channels rep.remarks.2 slot is
                ∙ ap (λ (x : SetupView). any_tells is_without_channel x slot found) (sym same_setup),
          );
        };
        writes = record { out = t.out; log = writes-text o.report o'.report (lines s before) (lines s found) (frame_lines s link (Dated a) (arrivals before)) refl t.log };
        one = one-arrived s link payload a before comes;
      },
    )

pub breaks-arrived : {s : SetupView} {w : CollectorView SignalEntry} {c : ClosedEpochsView} {k : Counts} {y : Remarks} {b : Bool} {link : ℕ} (payload : List ℕ) {a : Arrival} {o o' : Written}
    → IsClassOfPayload s payload (Dated a) → AddsMessageInPart (state s w c k y b) link a o o' → BreaksOffAtFrame (state s w c k y b) link payload o o'
breaks-arrived {s} {w} {c} {k} {y} {b} {link} payload {a} {o} {o'} comes takes = λ before rep.
    let t = takes (arrivals before) (record { kept = rep.kept; closed = rep.closed }) in (
      Dated a,
      comes,
      record {
        out = t.out;
        log = part-text o.report o'.report (lines s before) (lines s (record { link = link; class = Dated a } ∷ before)) (frame_lines s link (Dated a) (arrivals before)) refl t.log;
        one = one-arrived s link payload a before comes;
      },
    )

pub arrives-other : {s : SetupView} {w : CollectorView SignalEntry} {c : ClosedEpochsView} {k k' : Counts} {y : Remarks} {b b' : Bool} {link : ℕ} (payload : List ℕ) {o : Written} → IsClassOfPayload s payload OtherMessage
    → k' ≡ record (one_frame_more k) { other = count_after k.other } → AcceptsFrame (state s w c k y b) link payload (state s w c k' y b') o o
arrives-other {s} {w} {c} {k} {k'} {y} {b} {b'} {link} payload {o} comes counts = λ before rep. (
  OtherMessage,
  comes,
  record {
    represents = record { kept = rep.kept; closed = rep.closed; remarks = rep.remarks; counts = counts ∙ ap (λ (x : Counts). record (one_frame_more x) { other = count_after x.other }) rep.counts };
    writes = record { out = writes-none o.file _ _ refl; log = writes-text o.report o.report (lines s before) (lines s before ++ []) [] refl (sym (with_more-nil o.report)) };
    one = inl refl;
  },
)

pub arrives-foreign : {s : SetupView} {w : CollectorView SignalEntry} {c : ClosedEpochsView} {k k' : Counts} {y : Remarks} {b b' : Bool} {link : ℕ} (payload : List ℕ) {o : Written} → IsClassOfPayload s payload Foreign
    → k' ≡ record (one_frame_more k) { foreign = count_after k.foreign } → AcceptsFrame (state s w c k y b) link payload (state s w c k' y b') o o
arrives-foreign {s} {w} {c} {k} {k'} {y} {b} {b'} {link} payload {o} comes counts = λ before rep. (
  Foreign,
  comes,
  record {
    represents = record { kept = rep.kept; closed = rep.closed; remarks = rep.remarks; counts = counts ∙ ap (λ (x : Counts). record (one_frame_more x) { foreign = count_after x.foreign }) rep.counts };
    writes = record { out = writes-none o.file _ _ refl; log = writes-text o.report o.report (lines s before) (lines s before ++ []) [] refl (sym (with_more-nil o.report)) };
    one = inl refl;
  },
)

pub arrives-refused : {s : SetupView} {w : CollectorView SignalEntry} {c : ClosedEpochsView} {k k' : Counts} {y : Remarks} {b b' : Bool} {link : ℕ} (payload : List ℕ) {fault : AnyFault} {o : Written} {report : Option (List ℕ)} → IsClassOfPayload s payload (Refused fault)
    → k' ≡ record (one_frame_more k) { refused = count_after k.refused } → report ≡ with_more o.report (refused_line link fault) → AcceptsFrame (state s w c k y b) link payload (state s w c k' y b') o (written o.file report)
arrives-refused {s} {w} {c} {k} {k'} {y} {b} {b'} {link} payload {fault} {o} {report} comes counts wrote = λ before rep. (
  Refused fault,
  comes,
  record {
    represents = record { kept = rep.kept; closed = rep.closed; remarks = rep.remarks; counts = counts ∙ ap (λ (x : Counts). record (one_frame_more x) { refused = count_after x.refused }) rep.counts };
    writes = record { out = writes-none o.file _ _ refl; log = writes-text o.report report (lines s before) _ (refused_line link fault) refl wrote };
    one = inl refl;
  },
)

pub breaks-refused : {s : SetupView} {w : CollectorView SignalEntry} {c : ClosedEpochsView} {k : Counts} {y : Remarks} {b : Bool} {link : ℕ} (payload : List ℕ) {fault : AnyFault} {o : Written} {report : Option (List ℕ)} → IsClassOfPayload s payload (Refused fault)
    → TakesPart o.report report (refused_line link fault) → BreaksOffAtFrame (state s w c k y b) link payload o (written o.file report)
breaks-refused {s} {w} {c} {k} {y} {b} {link} payload {fault} {o} {report} comes part = λ before rep. (
  Refused fault,
  comes,
  record {
    out = part-all o.file o.file _ _ (writes-none o.file (file_so_far s (arrivals before)) (file_so_far s (arrivals before)) refl);
    log = part-text o.report report (lines s before) _ (refused_line link fault) refl part;
    one = inl refl;
  },
)

-- whether it has stopped is no part of what it represents
pub arrives-still : {s s' : SetupView} {w w' : CollectorView SignalEntry} {c c' : ClosedEpochsView} {k k' : Counts} {y y' : Remarks} {b b' d d' : Bool} {link : ℕ} (payload : List ℕ) {o o' : Written}
    → AcceptsFrame (state s w c k y b) link payload (state s' w' c' k' y' b') o o' → AcceptsFrame (state s w c k y d) link payload (state s' w' c' k' y' d') o o'
arrives-still {s} {s'} {w} {w'} {c} {c'} {k} {k'} {y} {y'} {b} {b'} {d} {d'} {link} payload {o} {o'} arrives = λ before rep.
    let t = arrives before (record { kept = rep.kept; closed = rep.closed; remarks = rep.remarks; counts = rep.counts }) in (
      t.0,
      t.1,
      record {
        represents = record { kept = t.2.represents.kept; closed = t.2.represents.closed; remarks = t.2.represents.remarks; counts = t.2.represents.counts };
        writes = t.2.writes;
        one = t.2.one;
      },
    )

pub breaks-still : {s : SetupView} {w : CollectorView SignalEntry} {c : ClosedEpochsView} {k : Counts} {y : Remarks} {b d : Bool} {link : ℕ} (payload : List ℕ) {o o' : Written}
    → BreaksOffAtFrame (state s w c k y b) link payload o o' → BreaksOffAtFrame (state s w c k y d) link payload o o'
breaks-still {s} {w} {c} {k} {y} {b} {d} {link} payload {o} {o'} breaks = λ before rep.
    let t = breaks before (record { kept = rep.kept; closed = rep.closed; remarks = rep.remarks; counts = rep.counts }) in (
      t.0,
      t.1,
      record { out = t.2.out; log = t.2.log; one = t.2.one },
    )
