use Rattle.std.proofs.Common.{◌≡◌, ◌≤◌, [], drop, length, vec_len, vec_capacity, All, IsTrue}
use Rattle.toml.specs.View.{items_view}
use Rattle.gp_script.specs.Unit.{is_unit_within_limits, units_from}
use Rattle.gp_script.proofs.units.units_of.Given as goal

abbrev pub invariant-tables : goal.invariant-tables
invariant-tables l = record {
  value : units_from l.units.items (items_view (drop l.value-index l.tables)) ≡ units_from [] (items_view l.tables);
  count : vec_len l.units ≡ l.value-index;
  room : length l.tables ≤ vec_capacity l.units;
  limits : All (λ unit. IsTrue (is_unit_within_limits unit)) l.units.items;
}
