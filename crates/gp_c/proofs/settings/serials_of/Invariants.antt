use Rattle.std.proofs.Common.{◌≡◌, ◌≤◌, length, map, take, vec_len}
use Rattle.std.specs.Prelude.{vec_capacity}
use Rattle.gp_c.specs.Settings as spec
use Rattle.gp_c.proofs.settings.serials_of.Given as goal

abbrev pub invariant-loop-serial : goal.invariant-loop-serial
invariant-loop-serial l = record {
  made : l.made.items ≡ map spec.serial_of (take l.serial-index l.serials);
  count : vec_len l.made ≡ l.serial-index;
  room : length l.serials ≤ vec_capacity l.made;
}
