use Rattle.std.proofs.Common.{◌≡◌, ◌≤◌, [], ◌++◌, drop, length, vec_len, vec_capacity, IsTrue}
use Rattle.toml.specs.View.{items_view}
use Rattle.gp_machine.specs.Config.{is_distinct}
use Rattle.gp_script.specs.Port.{all_admitted, serials_from}
use Rattle.gp_script.specs.Admits.{Admits}
use Rattle.gp_script.proofs.ports.serials_of.Given as goal

abbrev pub invariant-texts : goal.invariant-texts
invariant-texts l = record {
  value : serials_from l.before l.serials.items (items_view (drop l.text-index l.texts)) ≡ serials_from l.before [] (items_view l.texts);
  count : vec_len l.serials ≡ l.text-index;
  room : length l.texts ≤ vec_capacity l.serials;
  distinct : IsTrue (is_distinct l.serials.items);
  once : IsTrue (is_distinct (all_admitted l.before ++ l.serials.items));
  admits : Admits l.admitted l.before l.serials.items;
}
