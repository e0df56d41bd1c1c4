-- How long the texts of a trace are.
use Rattle.std.proofs.Common.{◌≡◌, ℕ, zero, suc, ◌+◌, ◌==◌, ◌/◌, ◌%◌, ◌≤◌, false, List, [], ◌∷◌, ◌++◌, length, take, drop, codes, inl, inr, arith, length-append, length-drop}
use Rattle.std.specs.Prelude.{decimal}
use Rattle.std.proofs.lemmas.Bool.{cases_Bool}
use Rattle.std.proofs.lemmas.List.{length-take-le}
use Rattle.std.specs.Fmt.{digits, digit_glyph, digits_onto}
use Rattle.hex.specs.Hex.{encode_lower, encode_upper, lower_digits, upper_digits}
use Rattle.hex.proofs.HexLemmas.{length-encode_with}
use Rattle.gp_ploam.specs.declared.message.Serial.{Serial}
use Rattle.gp_serial.specs.Spelling.{text_of_serial, has_vendor_code}
use Rattle.gp_machine.specs.declared.event.Command.{Command}
use Rattle.gp_machine.specs.declared.event.Command.TheVariants as commands
use Rattle.gp_machine.specs.declared.event.Event.{Event}
use Rattle.gp_machine.specs.declared.event.Event.TheVariants as events
use Rattle.gp_trace.specs.Reply.{numbered}
use Rattle.gp_trace.specs.Text.{of_unit, command_text, event_text}
use Rattle.gp_lines.specs.Told.{IsToldCommand, IsTold}

onto_short : (k n : ℕ) (behind : List ℕ) → length (digits_onto k 10 false n behind) ≤ k + length behind
onto_short zero n behind = omega arith
onto_short (suc k) n behind =
    elim (cases_Bool (n / 10 == 0)) [
      | inl last ↦ rw last (omega arith)
      | inr others ↦ rw others (omega (arith, onto_short k (n / 10) (digit_glyph false (n % 10) ∷ behind)))
    ]

-- a number has at most 64 digits
pub number_short : (number : ℕ) → length (decimal number) ≤ 64
unfolding digits
number_short number = let short = onto_short 64 number [] in omega (arith, short)

pub numbered_short : (word : List ℕ) (number : ℕ) → length (numbered word number) ≤ length word + 65
numbered_short word number =
    let all = length-append (word ++ codes " ") (decimal number) in
    let front = length-append word (codes " ") in
    omega (arith, all, front, number_short number)

pub serial_short : (serial : Serial) → length serial.0 ≡ 8 → length (text_of_serial serial) ≤ 16
unfolding text_of_serial
serial_short serial eight =
    elim (cases_Bool (has_vendor_code serial.0)) [
      | inl code ↦
          let all = length-append (take 4 serial.0) (encode_upper (drop 4 serial.0)) in
          let front = length-take-le 4 serial.0 (omega (arith, eight)) in
          let rest = length-drop 4 serial.0 in
          let back = length-encode_with upper_digits (drop 4 serial.0) in
          rw code (omega (arith, all, front, rest, back, eight))
      | inr other ↦ rw other (omega (arith, length-encode_with upper_digits serial.0, eight))
    ]

pub unit_short : (word : List ℕ) (serial : Serial) → length serial.0 ≡ 8 → length (of_unit word serial) ≤ length word + 17
unit_short word serial eight =
    let all = length-append (word ++ codes " ") (text_of_serial serial) in
    let front = length-append word (codes " ") in
    omega (arith, all, front, serial_short serial eight)

command_short : (command : Command) → IsToldCommand command → length (command_text command) ≤ 100
command_short commands.Search told = omega arith
command_short (commands.Alloc serial) told = let short = unit_short (codes "alloc") serial told.0 in omega (arith, short)
command_short (commands.Dealloc serial alloc) told =
    let short = unit_short (codes "dealloc") serial told.0.0 in
    let front = length-append (of_unit (codes "dealloc") serial) (codes " ") in
    let all = length-append (of_unit (codes "dealloc") serial ++ codes " ") (decimal alloc) in
    omega (arith, short, front, all, number_short alloc)
command_short (commands.Deactivate serial) told = let short = unit_short (codes "deactivate") serial told.0 in omega (arith, short)
command_short (commands.Disable serial) told = let short = unit_short (codes "disable") serial told.0 in omega (arith, short)
command_short (commands.Enable serial) told = let short = unit_short (codes "enable") serial told.0 in omega (arith, short)
command_short commands.EnableAll told = omega arith
command_short (commands.Popup serial) told = let short = unit_short (codes "popup") serial told.0 in omega (arith, short)
command_short commands.PopupAll told = omega arith
command_short (commands.Show serial) told = let short = unit_short (codes "show") serial told.0 in omega (arith, short)

pub event_short : (event : Event) → IsTold event → length (event_text event) ≤ 100
event_short events.Frame told = omega arith
event_short (events.Burst at octets) told =
    let front = numbered_short (codes "burst") at in
    let middle = length-append (numbered (codes "burst") at) (codes " ") in
    let all = length-append (numbered (codes "burst") at ++ codes " ") (encode_lower octets) in
    let code = length-encode_with lower_digits octets in
    omega (arith, front, middle, all, code, told.1.0)
event_short (events.Command command) told = command_short command told
