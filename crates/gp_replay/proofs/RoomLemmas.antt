-- How many entries the ports can still number, after turns that were taken.
use Rattle.std.proofs.Common.{◌≡◌, ℕ, ◌+◌, ◌<◌, ◌≤◌, ◌^◌, List, [], ◌∷◌, All, length, subst, arith, slice_get, slice_set, Some}
use Rattle.std.proofs.lemmas.List.Elements.{All-get_or, All-map, All-set, All-weaker}
use Rattle.std.proofs.lemmas.Option.{get_or_from_slice_get, slice_get_within}
use Rattle.gp_machine.specs.declared.config.PortConfig.{PortConfig}
use Rattle.gp_machine.specs.declared.entry.Receipt.{Receipt}
use Rattle.gp_replay.specs.declared.turn.Turn.{Turn}
use Rattle.gp_replay.specs.Chassis.{HasRoom, PlayState, opened_play}
use Rattle.gp_replay.specs.Play.{AreNumbered, TakesTurns}
use Rattle.gp_replay.proofs.RunLemmas.{as_many}

-- each of these numbers can be followed by so many more
abbrev pub Leave : ℕ → List ℕ → Type 0
Leave count next = All (λ n. n + count < 2 ^ 64) next

leave_fewer : (few many : ℕ) (next : List ℕ) → few ≤ many → Leave many next → Leave few next
leave_fewer few many next le = All-weaker (λ n. n + many < 2 ^ 64) (λ n. n + few < 2 ^ 64) (λ n h. omega (arith, h, le)) next

-- there is room for fewer, too
pub room_for_fewer : (few many : ℕ) (play : PlayState) → few ≤ many → HasRoom many play → HasRoom few play
room_for_fewer few many play le = leave_fewer few many play.next le

-- an entry takes the room of one
leave_after : (count number port : ℕ) (next : List ℕ) → slice_get next port ≡ Some number → Leave (1 + count) next → Leave count (slice_set next port (number + 1))
leave_after count number port next there room =
    let one : number + (1 + count) < 2 ^ 64 =
    subst (λ (n : ℕ). n + (1 + count) < 2 ^ 64) (get_or_from_slice_get next port number number there) (
    All-get_or (λ n. n + (1 + count) < 2 ^ 64) next port number (slice_get_within next port number there) room
    ) in
    let own : number + 1 + count < 2 ^ 64 = omega (arith, one) in
    All-set (λ n. n + count < 2 ^ 64) next port (number + 1) own (leave_fewer count (1 + count) next (omega arith) room)

-- entries take the room of one each
pub leave_after_all : (count : ℕ) (receipts : List Receipt) (old new : List ℕ) → AreNumbered old receipts new → Leave (length receipts + count) old → Leave count new
leave_after_all count [] old new numbers room = rw numbers (leave_fewer count (0 + count) old (omega arith) room)
leave_after_all count (r ∷ rs) old new numbers room =
    leave_after_all count rs (slice_set old r.port (r.number + 1)) new numbers.1 (
    leave_after (length rs + count) r.number r.port old numbers.0 (leave_fewer (1 + (length rs + count)) (length (r ∷ rs) + count) old (omega arith) room)
    )

pub room_left : (count many : ℕ) (old new : PlayState) (turns : List Turn) (receipts : List Receipt)
    → TakesTurns old turns receipts new → length turns + count ≤ many → HasRoom many old → HasRoom count new
room_left count many old new turns receipts taken le room =
    let each = as_many old new turns receipts taken in
    leave_after_all count receipts old.next new.next taken.numbers (leave_fewer (length receipts + count) many old.next (omega (arith, each, le)) room)

-- on a chassis that was just opened no entry has a number
pub opening_room : (count : ℕ) (ports : List PortConfig) (licences : ℕ) → count < 2 ^ 64 → HasRoom count (opened_play ports licences)
opening_room count ports licences h = All-map (λ n. n + count < 2 ^ 64) (λ (port : PortConfig). 0) ports (λ k d within. omega (arith, h))
