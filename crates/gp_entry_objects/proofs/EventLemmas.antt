-- What stands before an answer: each event is told by its fields.
use Rattle.std.proofs.Common.{◌≡◌, ℕ, true, List, [], ◌∷◌, ◌++◌, codes, refl, sym, subst, ◌∙◌, inr, append_assoc}
use Rattle.std.specs.Prelude.{decimal}
use Rattle.hex.specs.Hex.{encode_lower}
use Rattle.gp_ploam.specs.declared.check.Mask.{Mask}
use Rattle.gp_ploam.specs.declared.message.Serial.{Serial}
use Rattle.gp_serial.specs.Spelling.{text_of_serial}
use Rattle.gp_machine.specs.declared.event.Command.{Command}
use Rattle.gp_machine.specs.declared.event.Command.TheVariants as commands
use Rattle.gp_machine.specs.declared.event.Event.{Event}
use Rattle.gp_machine.specs.declared.event.Event.TheVariants as events
use Rattle.gp_trace.specs.Text.{command_text, event_text}
use Rattle.gp_json.specs.declared.slot.Slot.TheVariants as slots
use Rattle.gp_json.specs.Slots.{after_equals, after_event}
use Rattle.gp_entry_objects.specs.Held.{CommandHolds, EventHolds, IsCodeTold, IsSmall}
use Rattle.gp_entry_objects.proofs.SpaceLemmas.{code_whole, number_is, number_whole, serial_whole, word_whole}
use Rattle.gp_entry_objects.proofs.StepLemmas.{Behind, ToldAt, part_told}

module _ (told : Mask) (answer : List ℕ) (behind : ToldAt told slots.Reply answer) where
  -- the answer behind an event
  abbrev tail : List ℕ
  tail = codes " = " ++ answer

  equals : ToldAt told slots.Equals (codes "=" ++ 32 ∷ answer)
  unfolding after_equals
  equals = part_told told slots.Equals (codes "=") (32 ∷ answer) [] (word_whole (codes "=") refl) refl (inr (answer, refl, behind))

  ended : Behind told slots.Equals tail
  ended = inr (codes "=" ++ 32 ∷ answer, refl, equals)

  -- a serial number
  of_serial : (serial : Serial) → ToldAt told slots.Serial (text_of_serial serial ++ tail)
  of_serial serial = part_told told slots.Serial (text_of_serial serial) tail _ (serial_whole serial) refl ended

  -- an Alloc-ID behind one
  of_alloc : (alloc : ℕ) → IsSmall alloc → ToldAt told slots.Dealloc (decimal alloc ++ tail)
  of_alloc alloc small = part_told told slots.Dealloc (decimal alloc) tail _ (number_whole alloc) (number_is alloc small, refl) ended

  of_dealloc : (serial : Serial) (alloc : ℕ) → IsSmall alloc → ToldAt told slots.DeallocSerial (text_of_serial serial ++ 32 ∷ (decimal alloc ++ tail))
  of_dealloc serial alloc small =
      part_told told slots.DeallocSerial (text_of_serial serial) (32 ∷ (decimal alloc ++ tail)) _ (serial_whole serial) refl
      (inr (decimal alloc ++ tail, refl, of_alloc alloc small))

  dealloc_shape : (serial : Serial) (alloc : ℕ)
      → ((text_of_serial serial ++ codes " ") ++ decimal alloc) ++ tail ≡ text_of_serial serial ++ 32 ∷ (decimal alloc ++ tail)
  dealloc_shape serial alloc =
      append_assoc (text_of_serial serial ++ codes " ") (decimal alloc) tail ∙ append_assoc (text_of_serial serial) (codes " ") (decimal alloc ++ tail)

  command_told : (command : Command) → CommandHolds command → ToldAt told slots.Event (command_text command ++ tail)
  unfolding after_event
  command_told commands.Search holds = part_told told slots.Event (codes "search") tail _ (word_whole (codes "search") refl) refl ended
  command_told (commands.Alloc serial) holds =
      part_told told slots.Event (codes "alloc") (32 ∷ (text_of_serial serial ++ tail)) _ (word_whole (codes "alloc") refl) refl (inr (_, refl, of_serial serial))
  command_told (commands.Dealloc serial alloc) holds =
      part_told told slots.Event (codes "dealloc") (32 ∷ (((text_of_serial serial ++ codes " ") ++ decimal alloc) ++ tail)) _ (word_whole (codes "dealloc") refl) refl
      (inr (_, refl, subst (ToldAt told slots.DeallocSerial) (sym (dealloc_shape serial alloc)) (of_dealloc serial alloc holds)))
  command_told (commands.Deactivate serial) holds =
      part_told told slots.Event (codes "deactivate") (32 ∷ (text_of_serial serial ++ tail)) _ (word_whole (codes "deactivate") refl) refl (inr (_, refl, of_serial serial))
  command_told (commands.Disable serial) holds =
      part_told told slots.Event (codes "disable") (32 ∷ (text_of_serial serial ++ tail)) _ (word_whole (codes "disable") refl) refl (inr (_, refl, of_serial serial))
  command_told (commands.Enable serial) holds =
      part_told told slots.Event (codes "enable") (32 ∷ (text_of_serial serial ++ tail)) _ (word_whole (codes "enable") refl) refl (inr (_, refl, of_serial serial))
  command_told commands.EnableAll holds = part_told told slots.Event (codes "enable-all") tail _ (word_whole (codes "enable-all") refl) refl ended
  command_told (commands.Popup serial) holds =
      part_told told slots.Event (codes "popup") (32 ∷ (text_of_serial serial ++ tail)) _ (word_whole (codes "popup") refl) refl (inr (_, refl, of_serial serial))
  command_told commands.PopupAll holds = part_told told slots.Event (codes "popup-all") tail _ (word_whole (codes "popup-all") refl) refl ended
  command_told (commands.Show serial) holds =
      part_told told slots.Event (codes "show") (32 ∷ (text_of_serial serial ++ tail)) _ (word_whole (codes "show") refl) refl (inr (_, refl, of_serial serial))

  of_code : (octets : List ℕ) → (code : IsCodeTold true told octets) → ToldAt told slots.Code (encode_lower octets ++ tail)
  of_code octets code =
      part_told told slots.Code (encode_lower octets) tail _ (code_whole octets) (octets, code.message, code.fields, code.spelled, code.tells, code.shows, refl) ended

  of_burst : (at : ℕ) (octets : List ℕ) → IsSmall at → IsCodeTold true told octets
      → ToldAt told slots.At (decimal at ++ 32 ∷ (encode_lower octets ++ tail))
  of_burst at octets small code =
      part_told told slots.At (decimal at) (32 ∷ (encode_lower octets ++ tail)) _ (number_whole at) (number_is at small, refl) (inr (_, refl, of_code octets code))

  burst_shape : (at : ℕ) (octets : List ℕ) → ((decimal at ++ codes " ") ++ encode_lower octets) ++ tail ≡ decimal at ++ 32 ∷ (encode_lower octets ++ tail)
  burst_shape at octets = append_assoc (decimal at ++ codes " ") (encode_lower octets) tail ∙ append_assoc (decimal at) (codes " ") (encode_lower octets ++ tail)

  pub event_told : (event : Event) → EventHolds told event → ToldAt told slots.Event (event_text event ++ tail)
  unfolding after_event
  event_told events.Frame holds = part_told told slots.Event (codes "frame") tail _ (word_whole (codes "frame") refl) refl ended
  event_told (events.Burst at octets) holds =
      part_told told slots.Event (codes "burst") (32 ∷ (((decimal at ++ codes " ") ++ encode_lower octets) ++ tail)) _ (word_whole (codes "burst") refl) refl
      (inr (_, refl, subst (ToldAt told slots.At) (sym (burst_shape at octets)) (of_burst at octets holds.0 holds.1)))
  event_told (events.Command command) holds = command_told command holds
