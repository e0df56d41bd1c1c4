use Rattle.std.proofs.Common.{◌≡◌, true, List, length}
use Rattle.gp_waves.specs.declared.held.Due.{Due}
use Rattle.gp_waves.specs.Held.{AreDeclared, held_lanes}
use Rattle.gp_waves.specs.Drained.{Drained}
use Rattle.gp_waves.proofs.writing.Writing.drain_all.Given as goal

abbrev pub invariant-changes : goal.invariant-changes
invariant-changes l = record {
  dues : List Due;
  drained : Drained (λ _. true) l.fn.waves.held l.fn.self l.fn.out.items dues l.waves.held l.self l.out.items;
  many : length dues ≡ l._count;
  begun : l.self.begun ≡ true;
  declared : AreDeclared (held_lanes l.waves.held) l.self.dump.ports;
}
