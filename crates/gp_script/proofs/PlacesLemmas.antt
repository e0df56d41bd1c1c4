-- The port or the unit that an event names.
use Rattle.std.proofs.Common.{ℕ, Result, IfOk}
use Rattle.std.proofs.lemmas.Result.{IfOk-weaker}
use Rattle.gp_script.specs.declared.script.ScriptEvent.{ScriptEvent}
use Rattle.gp_script.specs.declared.script.ScriptEvent.TheVariants.{Frames, Burst, Command, Light}
use Rattle.gp_script.specs.declared.walk.TableFault.{TableFault}
use Rattle.gp_script.specs.View.{NamesOneOf, NamesPort, NamesUnit}

one_of_ports : (ports units : ℕ) (event : ScriptEvent) → NamesPort ports event → NamesOneOf ports units event
one_of_ports ports units (Frames port count) within = within
one_of_ports ports units (Burst port at bytes) within = within
one_of_ports ports units (Command port command) within = within
one_of_ports ports units (Light unit lit) within = absurd within

one_of_units : (ports units : ℕ) (event : ScriptEvent) → NamesUnit units event → NamesOneOf ports units event
one_of_units ports units (Frames port count) within = absurd within
one_of_units ports units (Burst port at bytes) within = absurd within
one_of_units ports units (Command port command) within = absurd within
one_of_units ports units (Light unit lit) within = within

-- an event that names one of the ports names one of the ports and units
pub named_port : (ports units : ℕ) (read : Result ScriptEvent TableFault) → IfOk read (λ e. NamesPort ports e) → IfOk read (λ e. NamesOneOf ports units e)
named_port ports units read named = IfOk-weaker read (λ e. NamesPort ports e) (λ e. NamesOneOf ports units e) (one_of_ports ports units) named

-- and so does one that names one of the units
pub named_unit : (ports units : ℕ) (read : Result ScriptEvent TableFault) → IfOk read (λ e. NamesUnit units e) → IfOk read (λ e. NamesOneOf ports units e)
named_unit ports units read named = IfOk-weaker read (λ e. NamesUnit units e) (λ e. NamesOneOf ports units e) (one_of_units ports units) named
