use Rattle.std.proofs.Common.{◌≡◌, ◌≤◌, ◌++◌, ◌∙◌, List, [], ℕ, refl, sym, ap, arith, length, length-append, drop, true, false, rules}
use Rattle.std.proofs.lemmas.List.{append-nil}
use Rattle.rtk_obs.specs.declared.any_code.AnyCode.{AnyCode}
use Rattle.rtk_rinex.specs.MixedHeader.{system_types_lines}
use Rattle.rtk_rinex.specs.Steps.MixedRoom.{codes_of_letter, types_line_count}
use Rattle.rtk_rinex.specs.Steps.MixedHeaderRead.{is_due}
use Rattle.rtk_rinex.proofs.MixedRoomLemmas.{types_room, more_lines, one_room}
use Rattle.rtk_rinex.proofs.mixed_types_read.read_system.Goals as goal

put : (c : goal.Else-is_err) → c.put_types_of.new.out.items ≡ c.args.out.now.items ++ system_types_lines c.args.doppler c.args.system c.read_group-codes.result.items
put c = c.put_types_of.ensures.items ∙ ap (λ (x : List AnyCode). c.args.out.now.items ++ system_types_lines c.args.doppler c.args.system x) c.as_slice-then-is_due.ensures.value

pub returns-else-is_err-clause-reads : goal.returns-else-is_err-clause-reads
returns-else-is_err-clause-reads c =
    let place : c.after-rest.result.now ≡ drop (length c.args.out.now.items) c.args.text.now = c.after-rest.ensures ∙ ap (λ (n : ℕ). drop n c.args.text.now) c.len.ensures.value in
    let added : c.try_extend_from_slice.new.self.items ≡ c.args.listed.now.items ++ c.as_slice-then-is_due-2.result.now = search rules in
    let due : is_due c.args.file c.args.system c.args.listed.now.items c.begins_with-begins.result ≡ true =
    sym (c.is_due.ensures ∙ ap (λ (x : List AnyCode). is_due c.args.file c.args.system x c.begins_with-begins.result) c.as_slice.ensures.value) ∙ c.if-is_due.true in
    record {
      codes = c.read_group-codes.result.items;
      listed = added ∙ ap (λ (x : List AnyCode). c.args.listed.now.items ++ x) c.as_slice-then-is_due-2.ensures.value;
      put = put c;
      begins = c.begins_with-begins.result;
      letter = rw place at c.begins_with-begins.ensures;
      due = λ e. rw place at c.read_group-codes.ensures.shown;
      none = λ e. absurd (cc);
    }

pub returns-else-is_err-clause-lines : goal.returns-else-is_err-clause-lines
returns-else-is_err-clause-lines c =
    let g : List AnyCode = c.read_group-codes.result.items in
    let few = c.read_group-codes.ensures.few in
    let count = c.read_group-codes.ensures.shown.group.count in
    let room = types_room c.args.doppler c.args.system g (omega (arith, count)) in
    let size = ap length (put c) ∙ length-append c.args.out.now.items (system_types_lines c.args.doppler c.args.system g) in
    let more : types_line_count c.args.doppler (length g) ≤ types_line_count c.args.doppler (codes_of_letter c.args.system) = more_lines c.args.doppler (length g) (codes_of_letter c.args.system) few in
    omega (arith, size, room, more)

pub returns-else-is_err-clause-room : goal.returns-else-is_err-clause-room
returns-else-is_err-clause-room c =
    let g : List AnyCode = c.read_group-codes.result.items in
    let count = c.read_group-codes.ensures.shown.group.count in
    let room = types_room c.args.doppler c.args.system g (omega (arith, count)) in
    let lines = one_room c.args.doppler (length g) (omega (arith, count)) in
    let size = ap length (put c) ∙ length-append c.args.out.now.items (system_types_lines c.args.doppler c.args.system g) in
    omega (arith, size, room, lines)

pub returns-else-is_due-clause-reads : goal.returns-else-is_due-clause-reads
returns-else-is_due-clause-reads c =
    let place : c.after-rest.result.now ≡ drop (length c.args.out.now.items) c.args.text.now = c.after-rest.ensures ∙ ap (λ (n : ℕ). drop n c.args.text.now) c.len.ensures.value in
    let due : is_due c.args.file c.args.system c.args.listed.now.items c.begins_with-begins.result ≡ false =
    sym (c.is_due.ensures ∙ ap (λ (x : List AnyCode). is_due c.args.file c.args.system x c.begins_with-begins.result) c.as_slice.ensures.value) ∙ c.if-is_due.false in
    record {
      codes = [];
      listed = sym (append-nil c.args.listed.now.items);
      put = sym (append-nil c.args.out.now.items);
      begins = c.begins_with-begins.result;
      letter = rw place at c.begins_with-begins.ensures;
      due = λ e. absurd (cc);
      none = λ e. refl;
    }
