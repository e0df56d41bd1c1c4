use Rattle.std.proofs.Common.{◌≡◌, ◌≤◌, drop, length, vec_len, vec_capacity, All}
use Rattle.toml.specs.View.{items_view}
use Rattle.gp_script.specs.Event.{events_from}
use Rattle.gp_script.specs.View.{NamesOneOf}
use Rattle.gp_script.proofs.EventsLemmas.{behind}
use Rattle.gp_script.proofs.events.events_of.Given as goal

abbrev pub invariant-tables : goal.invariant-tables
invariant-tables l = record {
  value : behind l.events.items (events_from l.value-index l.ports l.units l.mask (items_view (drop l.value-index l.tables))) ≡ events_from 0 l.ports l.units l.mask (items_view l.tables);
  names : All (λ e. NamesOneOf l.ports l.units e) l.events.items;
  count : vec_len l.events ≡ l.value-index;
  room : length l.tables ≤ vec_capacity l.events;
}
