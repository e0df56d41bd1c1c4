use Rattle.std.proofs.Common.{◌≡◌, ◌++◌}
use Rattle.std.specs.FinMap.{entries}
use Rattle.std.specs.List.{flat_map}
use Rattle.gp_summary.specs.Heard.{heard_unit_line}
use Rattle.gp_summary.proofs.heard.push_units.Given as goal

-- with the lines of the units that are left it is what it will be
abbrev pub invariant-loop-serial : goal.invariant-loop-serial
invariant-loop-serial l =
    l.out.items ++ flat_map (heard_unit_line l.form l.number l.watch l.census) l.serial-iterator
    ≡ l.fn.out.items ++ flat_map (heard_unit_line l.form l.number l.watch l.census) (entries l.units)
