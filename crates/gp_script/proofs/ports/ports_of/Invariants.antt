use Rattle.std.proofs.Common.{◌≡◌, ◌≤◌, [], drop, length, vec_len, vec_capacity, All, IsTrue}
use Rattle.toml.specs.View.{items_view}
use Rattle.gp_machine.specs.Config.{is_distinct, is_within_limits}
use Rattle.gp_script.specs.Port.{all_admitted, ports_from}
use Rattle.gp_script.specs.Admits.{Admits}
use Rattle.gp_script.proofs.ports.ports_of.Given as goal

abbrev pub invariant-tables : goal.invariant-tables
invariant-tables l = record {
  value : ports_from l.mask l.ports.items (items_view (drop l.value-index l.tables)) ≡ ports_from l.mask [] (items_view l.tables);
  count : vec_len l.ports ≡ l.value-index;
  room : length l.tables ≤ vec_capacity l.ports;
  limits : All (λ port. IsTrue (is_within_limits port)) l.ports.items;
  mask : All (λ port. port.mask ≡ l.mask) l.ports.items;
  once : IsTrue (is_distinct (all_admitted l.ports.items));
  admits : Admits l.admitted l.ports.items [];
}
