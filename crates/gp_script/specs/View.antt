-- What the types of this crate show (this profile's own rule).
use Rattle.std.specs.Prelude.{ℕ, ◌<◌, option_map}
use Rattle.toml.specs.View.{items_view}
use Rattle.gp_script.specs.declared.script.Script.{Script}
use Rattle.gp_script.specs.declared.script.ScriptEvent.{ScriptEvent}
use Rattle.gp_script.specs.declared.script.ScriptEvent.TheVariants.{Frames, Burst, Command, Light}
use Rattle.gp_script.specs.declared.script.ScriptLosses.{ScriptLosses}
use Rattle.gp_script.specs.declared.ports.PortKeys.{PortKeys}
use Rattle.gp_script.specs.declared.ports.PortValues.{PortValues}
use Rattle.gp_script.specs.declared.top.Top.{Top}
use Rattle.gp_script.specs.declared.top.TopKeys.{TopKeys}
use Rattle.gp_script.specs.Port.{PortNumbers, PortShape}
use Rattle.gp_script.specs.Lose.{LossesView}
use Rattle.gp_script.specs.Script.{ScriptView, TopShape, TopView}

-- what is lost, without where it lies in memory
abbrev pub losses_view : ScriptLosses → LossesView
losses_view losses = record { copies = losses.copies.items; bursts = losses.bursts.items }

-- what a script says, without where it lies in memory
abbrev pub script_view : Script → ScriptView
script_view script = record {
  licences = script.licences;
  mask = script.mask;
  journal_limit = script.journal_limit;
  ports = script.ports.items;
  units = script.units.items;
  losses = losses_view script.losses;
  events = script.events.items;
}

-- the event names one of so many ports
abbrev pub NamesPort : ℕ → ScriptEvent → Type 0
NamesPort ports (Frames port count) = port < ports
NamesPort ports (Burst port at bytes) = port < ports
NamesPort ports (Command port command) = port < ports
NamesPort ports (Light unit lit) = ⊥

-- the event names one of so many units
abbrev pub NamesUnit : ℕ → ScriptEvent → Type 0
NamesUnit units (Frames port count) = ⊥
NamesUnit units (Burst port at bytes) = ⊥
NamesUnit units (Command port command) = ⊥
NamesUnit units (Light unit lit) = unit < units

-- the event names one of so many ports, or one of so many units
abbrev pub NamesOneOf : ℕ → ℕ → ScriptEvent → Type 0
NamesOneOf ports units (Frames port count) = port < ports
NamesOneOf ports units (Burst port at bytes) = port < ports
NamesOneOf ports units (Command port command) = port < ports
NamesOneOf ports units (Light unit lit) = unit < units

-- what stands at the keys of a port table, without where it lies in memory
abbrev pub port_keys_view : PortKeys → PortShape
port_keys_view keys = record {
  teqd = keys.teqd;
  max_units = keys.max_units;
  alloc_last = keys.alloc_last;
  cycles = keys.cycles;
  search_period = keys.search_period;
  quarantine = keys.quarantine;
  overhead = option_map (λ text. text.now) keys.overhead;
  admit = items_view keys.admit.now;
}

-- what stands at the keys of the top, without where it lies in memory
abbrev pub top_keys_view : TopKeys → TopShape
top_keys_view keys = record {
  licences = keys.licences;
  mask = keys.mask;
  journal_limit = keys.journal_limit;
  ports = items_view keys.ports.now;
  units = items_view keys.units.now;
  losses = items_view keys.losses.now;
  events = items_view keys.events.now;
}

-- what a port table says, without where it lies in memory
abbrev pub port_values_view : PortValues → PortNumbers
port_values_view values = record {
  teqd = values.teqd;
  overhead = values.overhead;
  max_units = values.max_units;
  alloc_last = values.alloc_last;
  cycles = values.cycles;
  search_period = values.search_period;
  quarantine = values.quarantine;
  admit = items_view values.admit.now;
}

-- what the top says, without where it lies in memory
abbrev pub top_view : Top → TopView
top_view top = record {
  licences = top.licences;
  mask = top.mask;
  journal_limit = top.journal_limit;
  port_count = top.port_count;
  unit_count = top.unit_count;
  ports = items_view top.ports.now;
  units = items_view top.units.now;
  losses = items_view top.losses.now;
  events = items_view top.events.now;
}
