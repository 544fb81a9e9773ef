-- The lines of GLONASS are read back.
use Rattle.std.proofs.Common.{◌≡◌, ℕ, ◌≤◌, List, ◌++◌, length, drop, decimal, codes, arith, refl, sym, ◌∙◌, ap, append_assoc, true, false, ℤ, Option, Some, None}
use Rattle.std.proofs.lemmas.Fmt.{length-decimal-le}
use Rattle.rtk_obs.specs.declared.any_code.AnyCode.{AnyCode}
use Rattle.rtk_obs.specs.Carriers.{AreChannels}
use Rattle.rtk_rinex.specs.Columns.{right}
use Rattle.rtk_rinex.specs.MixedHead.{GlonassView, IsGlonassView, has_glonass, TellsGlonass}
use Rattle.rtk_rinex.specs.MixedHeader.{slots_lines, biases_line, leap_line, glonass_lines}
use Rattle.rtk_rinex.specs.Steps.HeaderShown.{StartsWith, number_at}
use Rattle.rtk_rinex.specs.Steps.MixedHeaderRead.{Reads, ShowsSlots}
use Rattle.rtk_rinex.proofs.DigitsLemmas.{take-exact, digits_from-right, length-right}
use Rattle.rtk_rinex.proofs.HeaderShownLemmas.{line_rest, line_is}
use Rattle.rtk_rinex.proofs.MixedPartsLemmas.{of_leap, whole_biases}
use Rattle.rtk_rinex.proofs.SlotsLinesLemmas.{slots_read, whole_slots}
use Rattle.rtk_rinex.proofs.TextPartLemmas.{reads_then, reads_fixed, reads_line, reads_at, reads_from}

pub leap_is : (text more : List ℕ) (n : ℕ) → n ≤ 99 → text ≡ leap_line n ++ more → number_at 0 6 text ≡ n
leap_is text more n h e =
    let a : List ℕ = right 6 (decimal n) in
    let rest : List ℕ = line_rest a (codes "LEAP SECONDS") more in
    let r : text ≡ a ++ rest = e ∙ line_is a (codes "LEAP SECONDS") more in
    let digits = length-decimal-le 6 n (omega arith) (omega arith) (omega arith) in
    rw (r, take-exact 6 a rest (length-right 6 (decimal n) digits)) (digits_from-right 6 n (omega arith))

abbrev told : List (Option ℤ) → ℕ → GlonassView
told ks n = record { channels = ks; leap_seconds = n }

same_told : (g : GlonassView) (ks : List (Option ℤ)) (n : ℕ) → g.channels ≡ ks → g.leap_seconds ≡ n → g ≡ told ks n
same_told g ks n e f = rw (sym e, sym f) refl

view_read : (text out o1 o2 : List ℕ) (ks : List (Option ℤ)) (n : ℕ) → ShowsSlots (drop (length out) text) ks → o1 ≡ out ++ slots_lines ks → o2 ≡ o1 ++ biases_line
    → ((m : ℕ) → m ≤ 99 → StartsWith (leap_line m) (drop (length o2) text) → n ≡ m)
    → Reads {V = GlonassView} IsGlonassView (λ g. g ≡ told ks n) (λ g. slots_lines g.channels ++ (biases_line ++ leap_line g.leap_seconds)) (drop (length out) text) (told ks n)
view_read text out o1 o2 ks n slots put1 put2 leap =
    let V : Type 0 = GlonassView in
    let v : V = told ks n in
    let Mid : V → Type 0 = λ g. IsGlonassView g × (g.channels ≡ ks) in
    let End : V → Type 0 = λ g. g ≡ v in
    let first : Reads IsGlonassView Mid (λ g. slots_lines g.channels) (drop (length out) text) v =
    reads_from (λ g. IsGlonassView g × AreChannels g.channels) (λ g. IsGlonassView g × (g.channels ≡ ks)) IsGlonassView Mid (λ g. slots_lines g.channels) (drop (length out) text) v (λ g h. (h, h.channels)) (λ g h k. k)
    (reads_at (λ g. g.channels) AreChannels (λ us. us ≡ ks) IsGlonassView slots_lines (drop (length out) text) v (slots_read ks (drop (length out) text) slots)) in
    let last : Reads Mid End (λ g. leap_line g.leap_seconds) (drop (length o2) text) v =
    reads_line Mid End (λ g. right 6 (decimal g.leap_seconds)) (λ g. codes "LEAP SECONDS") (drop (length o2) text) v (λ g h. of_leap g.leap_seconds h.0.leap_seconds) (λ g h starts.
    let is = leap g.leap_seconds h.0.leap_seconds starts in
    (ap leap_line is, same_told g ks n h.1 (sym is))) in
    reads_then IsGlonassView Mid End (λ g. slots_lines g.channels) (λ g. biases_line ++ leap_line g.leap_seconds) text out o1 v (λ g h. whole_slots g.channels h.channels) put1 first
    (reads_then Mid Mid End (λ g. biases_line) (λ g. leap_line g.leap_seconds) text o1 o2 v (λ g h. whole_biases) put2 (reads_fixed Mid biases_line (drop (length o1) text) v) last)

pub glonass_read : (text out o1 o2 : List ℕ) (listed : List AnyCode) (ks : List (Option ℤ)) (n : ℕ) → has_glonass listed ≡ true → ShowsSlots (drop (length out) text) ks
    → o1 ≡ out ++ slots_lines ks → o2 ≡ o1 ++ biases_line → ((m : ℕ) → m ≤ 99 → StartsWith (leap_line m) (drop (length o2) text) → n ≡ m)
    → Reads {V = Option GlonassView} (TellsGlonass listed) (λ g. g ≡ Some (told ks n)) glonass_lines (drop (length out) text) (Some (told ks n))
glonass_read text out o1 o2 listed ks n has slots put1 put2 leap None lines rest more h ok e t = absurd (let clash : true ≡ false = sym has ∙ h in cc)
glonass_read text out o1 o2 listed ks n has slots put1 put2 leap (Some g) lines rest more h ok e t =
    let r = view_read text out o1 o2 ks n slots put1 put2 leap g lines rest more h.1 ok (sym (append_assoc (slots_lines g.channels) biases_line (leap_line g.leap_seconds)) ∙ e) t in
    record {
      rest = r.rest;
      begins = append_assoc (slots_lines ks) biases_line (leap_line n) ∙ r.begins;
      whole = λ none. ((r.whole none).0, ap Some (r.whole none).1);
    }

pub glonass_none : (text : List ℕ) (listed : List AnyCode) → has_glonass listed ≡ false → Reads {V = Option GlonassView} (TellsGlonass listed) (λ g. g ≡ None) glonass_lines text None
glonass_none text listed has None lines rest more h ok e t = record { rest = more; begins = e; whole = λ none. (none, refl) }
glonass_none text listed has (Some g) lines rest more h ok e t = absurd (let clash : true ≡ false = sym h.0 ∙ has in cc)
