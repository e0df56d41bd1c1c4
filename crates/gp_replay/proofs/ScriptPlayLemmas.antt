-- What happens to a player, as a play of its script.
use Rattle.std.proofs.Common.{◌≡◌, ◌<◌, length, ℕ, true, false, List, [], ◌++◌, Result, Ok, Err, IsErrAnd, subst, refl, sym, ap, ◌∙◌, inl, inr, arith}
use Rattle.std.proofs.lemmas.List.{append-nil}
use Rattle.gp_machine.specs.declared.entry.Receipt.{Receipt}
use Rattle.gp_script.specs.declared.script.ScriptEvent.{ScriptEvent}
use Rattle.gp_script.specs.declared.script.ScriptEvent.TheVariants as events
use Rattle.gp_script.specs.Script.{ScriptView}
use Rattle.gp_script.specs.View.{NamesOneOf, NamesPort}
use Rattle.gp_stream.specs.declared.sink.WriteStopped.{WriteStopped}
use Rattle.gp_stream.specs.Sink.{SinkState, Takes, TakesPrefix, Finishes}
use Rattle.gp_stream.proofs.SinkLemmas.{gives_unstopped, takes_more, takes_prefix_after}
use Rattle.gp_trace.specs.Text.{trace_text}
use Rattle.gp_replay.specs.declared.fault.PlayFault.{PlayFault}
use Rattle.gp_replay.specs.declared.fault.PlayFault.TheVariants as faults
use Rattle.gp_replay.specs.Chassis.{opening_play}
use Rattle.gp_replay.specs.Laws.{EachPortRuns}
use Rattle.gp_replay.specs.Play.{TakesAllTurns, TakesSomeTurns, all_turns}
use Rattle.gp_replay.specs.Runs.{PortsRun}
use Rattle.gp_replay.specs.ScriptPlay.{Plays, PlaysPrefix, ByChassis, SomeByChassis, ends_of}
use Rattle.gp_replay.specs.Writing.{EndsPlay, Happening, LeavesScriptLines, LeavesScriptPrefix, PlaysOn, PlaysScript, Writes, WritesScript}
use Rattle.gp_replay.proofs.PlayLemmas.{not_both, or_kept, or_true}
use Rattle.gp_replay.proofs.TurnLemmas.{takes_all}

-- where there is no unit, an event names a port
pub names_port : (ports : ℕ) (event : ScriptEvent) → NamesOneOf ports 0 event → NamesPort ports event
names_port ports (events.Frames port count) h = h
names_port ports (events.Burst port at bytes) h = h
names_port ports (events.Command port command) h = h
names_port ports (events.Light unit lit) h = absurd (omega (arith, h))

-- what happens to a player from here on is a play of the script, or a part of one
pub record StandsFor {S : Type 0} (script : ScriptView) (start : S) (whole part : Happening S) : Type 0 where
  pub all : (receipts : List Receipt) (end : S) → whole start receipts end → (plays : Plays script receipts) × PortsRun script.ports receipts (ends_of script receipts plays)
  pub some : (receipts : List Receipt) (end : S) → part start receipts end → PlaysPrefix script receipts
  pub is_part : (receipts : List Receipt) (end : S) → whole start receipts end → part start receipts end

pub chassis_stands : EachPortRuns → (script : ScriptView) → script.units ≡ []
    → StandsFor script (opening_play script) (TakesAllTurns (all_turns script.events)) (TakesSomeTurns (all_turns script.events))
chassis_stands runs script none = record {
  all = λ rs end h. let plays : Plays script rs = ByChassis none (record { end = end; turns = h }) in (plays, runs script rs plays);
  some = λ rs end h. SomeByChassis none (record { end = end; turns = h });
  is_part = λ rs end h. takes_all (all_turns script.events) (opening_play script) end rs h;
}
