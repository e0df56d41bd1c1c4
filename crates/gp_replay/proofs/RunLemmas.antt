-- Turns on a chassis, one after the other: what their receipts tell, their moves, and their numbers.
use Rattle.std.proofs.Common.{◌≡◌, ℕ, ◌+◌, List, [], ◌∷◌, ◌++◌, length, map, refl, sym, ap, ◌∙◌, slice_set}
use Rattle.std.proofs.lemmas.Grind.{flat_map-append}
use Rattle.std.proofs.lemmas.List.{length-map, map-append}
use Rattle.gp_machine.specs.declared.entry.Receipt.{Receipt}
use Rattle.gp_chassis.specs.World.{ChassisWorld, Move, ChassisRun}
use Rattle.gp_replay.specs.declared.turn.Turn.{Turn}
use Rattle.gp_replay.specs.Chassis.{PlayState}
use Rattle.gp_replay.specs.Play.{AreNumbered, TakesTurns, all_moves, moves_told, turn_of}

-- moves, and then moves
run_append : (ms ns : List Move) (a b c : ChassisWorld) → ChassisRun ms a b → ChassisRun ns b c → ChassisRun (ms ++ ns) a c
run_append [] ns a b c h k = rw (← h) k
run_append (m ∷ ms) ns a b c h k = (h.0, h.1, run_append ms ns h.0 b c h.2 k)

numbers_append : (rs ss : List Receipt) (a b c : List ℕ) → AreNumbered a rs b → AreNumbered b ss c → AreNumbered a (rs ++ ss) c
numbers_append [] ss a b c h k = rw (← h) k
numbers_append (r ∷ rs) ss a b c h k = (h.0, numbers_append rs ss (slice_set a r.port (r.number + 1)) b c h.1 k)

pub no_turns : (a : PlayState) → TakesTurns a [] [] a
no_turns a = record { told = refl; run = refl; numbers = refl }

-- turns, and then turns
pub turns_append : (a b c : PlayState) (ts us : List Turn) (rs ss : List Receipt) → TakesTurns a ts rs b → TakesTurns b us ss c → TakesTurns a (ts ++ us) (rs ++ ss) c
turns_append a b c ts us rs ss h k = record {
  told = map-append turn_of rs ss ∙ ap (λ (l : List Turn). l ++ map turn_of ss) h.told ∙ ap (λ (l : List Turn). ts ++ l) k.told;
  run = rw (flat_map-append moves_told rs ss) (run_append (all_moves rs) (all_moves ss) a.world b.world c.world h.run k.run);
  numbers = numbers_append rs ss a.next b.next c.next h.numbers k.numbers;
}

-- each turn has its receipt
pub as_many : (a b : PlayState) (ts : List Turn) (rs : List Receipt) → TakesTurns a ts rs b → length rs ≡ length ts
as_many a b ts rs h = sym (length-map rs turn_of) ∙ ap (λ (l : List Turn). length l) h.told
