-- The line of an entry is told by its fields.
use Rattle.std.proofs.Common.{◌≡◌, ℕ, List, ◌∷◌, ◌++◌, codes, refl, sym, subst, ◌∙◌, inl, inr, append_assoc}
use Rattle.std.specs.Prelude.{Option, decimal}
use Rattle.gp_ploam.specs.declared.check.Mask.{Mask}
use Rattle.gp_machine.specs.declared.entry.Receipt.{Receipt}
use Rattle.gp_trace.specs.Text.{answer_text, event_text, line_of}
use Rattle.gp_lines.specs.Parts.{parts_of}
use Rattle.gp_lines.proofs.SplitLemmas.{body}
use Rattle.gp_json.specs.declared.slot.Slot.TheVariants as slots
use Rattle.gp_json.specs.Fields.{TellsParts}
use Rattle.gp_json.specs.Object.{TellsObject}
use Rattle.gp_entry_objects.specs.Held.{EventHolds, GrantHolds, IsSmall, ReplyHolds, SentHolds}
use Rattle.gp_entry_objects.specs.Told.{IsOfParts, IsToldByFields}
use Rattle.gp_entry_objects.proofs.SpaceLemmas.{number_is, number_whole}
use Rattle.gp_entry_objects.proofs.StepLemmas.{ToldAt, part_told}
use Rattle.gp_entry_objects.proofs.EventLemmas.{event_told}
use Rattle.gp_entry_objects.proofs.AnswerLemmas.{answer_told}

-- where there are fields, an object has them
has_them : (told : Mask) (text fields : List ℕ) → TellsParts told slots.Port (parts_of text) fields → (frames : Option ℕ) (said : List ℕ) → TellsObject told frames text said
    → IsOfParts told frames text said
has_them told text fields are frames said (inl by_fields) = by_fields
has_them told text fields are frames said (inr none) = absurd (none.0 fields are)

line_shape : (port number event answer : List ℕ)
    → (((((port ++ codes " ") ++ number) ++ codes " ") ++ event) ++ codes " = ") ++ answer ≡ port ++ 32 ∷ (number ++ 32 ∷ (event ++ (codes " = " ++ answer)))
line_shape port number event answer =
    append_assoc ((((port ++ codes " ") ++ number) ++ codes " ") ++ event) (codes " = ") answer
    ∙ append_assoc (((port ++ codes " ") ++ number) ++ codes " ") event (codes " = " ++ answer)
    ∙ append_assoc ((port ++ codes " ") ++ number) (codes " ") (event ++ (codes " = " ++ answer))
    ∙ append_assoc (port ++ codes " ") number (32 ∷ (event ++ (codes " = " ++ answer)))
    ∙ append_assoc port (codes " ") (number ++ 32 ∷ (event ++ (codes " = " ++ answer)))

body_told : (mask told : Mask) (r : Receipt) → IsSmall r.port → IsSmall r.number → EventHolds told r.entry.event → ReplyHolds r.entry.answer.reply
    → SentHolds mask told r.entry.answer.sent → GrantHolds r.entry.answer.grant → ToldAt told slots.Port (body mask r)
body_told mask told r port number event reply sent grant =
    let answer = answer_text mask r.entry.answer in
    let happened = event_text r.entry.event ++ (codes " = " ++ answer) in
    let third : ToldAt told slots.Event happened = event_told told answer (answer_told mask told r.entry.answer reply sent grant) r.entry.event event in
    let second : ToldAt told slots.Number (decimal r.number ++ 32 ∷ happened) =
    part_told told slots.Number (decimal r.number) (32 ∷ happened) _ (number_whole r.number) (number_is r.number number, refl) (inr (happened, refl, third)) in
    subst (ToldAt told slots.Port) (sym (line_shape (decimal r.port) (decimal r.number) (event_text r.entry.event) answer))
    (part_told told slots.Port (decimal r.port) (32 ∷ (decimal r.number ++ 32 ∷ happened)) _ (number_whole r.port) (number_is r.port port, refl) (inr (_, refl, second)))

pub line_told : (mask told : Mask) (r : Receipt) → IsSmall r.port → IsSmall r.number → EventHolds told r.entry.event → ReplyHolds r.entry.answer.reply
    → SentHolds mask told r.entry.answer.sent → GrantHolds r.entry.answer.grant → IsToldByFields told (line_of mask r)
unfolding line_of
line_told mask told r port number event reply sent grant =
    let told_so = body_told mask told r port number event reply sent grant in
    record { text = body mask r; ends = refl; fields = told_so.0; are = told_so.1; objects = has_them told (body mask r) told_so.0 told_so.1 }
