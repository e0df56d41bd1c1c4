use Rattle.std.proofs.Common.{◌≡◌, drop}
use Rattle.toml.specs.View.{items_view}
use Rattle.gp_script.specs.Lose.{losses_from, no_losses}
use Rattle.gp_script.specs.View.{losses_view}
use Rattle.gp_script.proofs.lose.losses_of.Given as goal

abbrev pub invariant-tables : goal.invariant-tables
invariant-tables l = record {
  value : losses_from l.value-index (losses_view l.losses) (items_view (drop l.value-index l.tables)) ≡ losses_from 0 no_losses (items_view l.tables);
  place : l.place ≡ l.value-index;
}
