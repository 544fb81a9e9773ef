use Rattle.std.proofs.Common.{◌≡◌, ◌∙◌, ◌++◌, ◌≤◌, ℕ, List, length, drop, true, ap, sym, subst, append_assoc, Option, Some, None}
use Rattle.std.specs.Option.{SomeIff}
use Rattle.rtk_rinex.specs.MixedHead.{GlonassView, TellsGlonass, has_glonass}
use Rattle.rtk_rinex.specs.MixedHeader.{slots_lines, biases_line, leap_line, glonass_lines}
use Rattle.rtk_rinex.specs.Steps.HeaderShown.{StartsWith}
use Rattle.rtk_rinex.specs.Steps.MixedHeaderRead.{Reads, ShowsSlots}
use Rattle.rtk_rinex.proofs.GlonassReadLemmas.{glonass_read}
use Rattle.rtk_rinex.proofs.mixed_header_check.read_glonass.Goals as goal

some_of : {T : Type 0} (r : Option T) (P : Type 0) (v : T) → SomeIff r P v → P → r ≡ Some v
some_of None P v h p = absurd (h p)
some_of (Some x) P v h p = ap Some h.1

abbrev told : goal.After-new → GlonassView
told c = record { channels = c.read_slots-channels.result; leap_seconds = c.read_leap_seconds-leap_seconds.result }

is : (c : goal.After-new) → c.new.result ≡ Some (told c)
is c = some_of c.new.result (c.read_leap_seconds-leap_seconds.result ≤ 99) (told c) c.new.ensures c.read_leap_seconds-leap_seconds.ensures.bound

in_row : (out s b l : List ℕ) → ((out ++ s) ++ b) ++ l ≡ out ++ ((s ++ b) ++ l)
in_row out s b l = simp append_assoc

pub returns-clause-written : goal.returns-clause-written
returns-clause-written c =
    c.put_leap_line.ensures.items
    ∙ ap (λ (x : List ℕ). x ++ leap_line c.read_leap_seconds-leap_seconds.result)
    (c.put_biases_line.ensures.items ∙ ap (λ (x : List ℕ). x ++ biases_line) c.put_slots_lines.ensures.items)
    ∙ in_row c.args.out.now.items (slots_lines c.read_slots-channels.result) biases_line (leap_line c.read_leap_seconds-leap_seconds.result)
    ∙ ap (λ (g : Option GlonassView). c.args.out.now.items ++ glonass_lines g) (sym (is c))

place_at : (text out read : List ℕ) (n : ℕ) → read ≡ drop n text → n ≡ length out → read ≡ drop (length out) text
place_at text out read n e f = e ∙ ap (λ (k : ℕ). drop k text) f

pub returns-clause-shown : goal.returns-clause-shown
returns-clause-shown c =
    let text : List ℕ = c.args.text.now in
    let out : List ℕ = c.args.out.now.items in
    let o1 : List ℕ = c.put_slots_lines.new.out.items in
    let o2 : List ℕ = c.put_biases_line.new.out.items in
    let has : has_glonass c.args.listed.now ≡ true = sym c.if-not-has_glonass.ensures in
    let slots : ShowsSlots (drop (length out) text) c.read_slots-channels.result =
    subst (λ (t : List ℕ). ShowsSlots t c.read_slots-channels.result) (place_at text out c.after.result.now c.len.result c.after.ensures c.len.ensures.value) c.read_slots-channels.ensures in
    let leap : (m : ℕ) → m ≤ 99 → StartsWith (leap_line m) (drop (length o2) text) → c.read_leap_seconds-leap_seconds.result ≡ m =
    λ m small line. c.read_leap_seconds-leap_seconds.ensures.shown m small
    (line.0, place_at text o2 c.after-2.result.now c.len-2.result c.after-2.ensures c.len-2.ensures.value ∙ line.1) in
    subst (λ (r : Option GlonassView). Reads {V = Option GlonassView} (TellsGlonass c.args.listed.now) (λ g. g ≡ r) glonass_lines (drop (length out) text) r) (sym (is c))
    (glonass_read text out o1 o2 c.args.listed.now c.read_slots-channels.result c.read_leap_seconds-leap_seconds.result has slots c.put_slots_lines.ensures.items c.put_biases_line.ensures.items leap)
