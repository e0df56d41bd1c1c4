use Rattle.std.proofs.Common.{◌≡◌, ◌≤◌, take, length}
use Rattle.std.specs.Prelude.{vec_capacity}
use Rattle.gp_workers.proofs.opening.clone_configs.Given as goal

abbrev pub invariant-loop-config : goal.invariant-loop-config
invariant-loop-config l = record {
  clones : l.clones.items ≡ take l.config-index l.configs;
  room : length l.configs ≤ vec_capacity l.clones;
}
