use Rattle.std.proofs.Common.{◌≡◌, ◌++◌, ◌∷◌, [], List, ℕ, ap, append_assoc}
use Rattle.rtk_commands.specs.ShownBySet.{any_line_of, any_message_text, any_unread_text}
use Rattle.rtk_commands.proofs.payload_line.put_reading.Goals as goal
use Rattle.rtk_commands.proofs.payload_line.put_reading.Goals.{in-Ok+in_ok-put_any_message_text-in-Ok, in-Err+in_ok-put_unread-in-Err}

-- the text of what the payload is read as, and the line feed
pub returns : goal.returns
returns c =
    let old : List ℕ = c.args.lines.now.items in
    elim c.match-reading.branch [
      | in-Ok+in_ok-put_any_message_text-in-Ok w ↦
          let text : List ℕ = any_message_text w.in-Ok.message in
          let is : any_line_of c.args.reading.now ≡ text ++ 10 ∷ [] = ap any_line_of w.in-Ok.is in
          let joined : (old ++ text) ++ 10 ∷ [] ≡ old ++ (text ++ 10 ∷ []) = append_assoc old text (10 ∷ []) in
          cc (c.in_ok-push.ensures.items, w.in_ok-put_any_message_text-in-Ok.ensures)
      | in-Err+in_ok-put_unread-in-Err w ↦
          let text : List ℕ = any_unread_text w.in-Err.fault in
          let is : any_line_of c.args.reading.now ≡ text ++ 10 ∷ [] = ap any_line_of w.in-Err.is in
          let joined : (old ++ text) ++ 10 ∷ [] ≡ old ++ (text ++ 10 ∷ []) = append_assoc old text (10 ∷ []) in
          cc (c.in_ok-push.ensures.items, w.in_ok-put_unread-in-Err.ensures)
    ]
