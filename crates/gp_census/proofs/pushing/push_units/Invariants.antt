use Rattle.std.proofs.Common.{◌≡◌, ◌++◌}
use Rattle.std.specs.FinMap.{entries}
use Rattle.std.specs.List.{flat_map}
use Rattle.gp_census.specs.Text.{unit_line}
use Rattle.gp_census.proofs.pushing.push_units.Given as goal

-- with the lines of the units that are left it is what it will be
abbrev pub invariant-loop-serial : goal.invariant-loop-serial
invariant-loop-serial l =
    l.out.items ++ flat_map (unit_line l.form l.port l.watch) l.serial-iterator
    ≡ l.fn.out.items ++ flat_map (unit_line l.form l.port l.watch) (entries l.census.units)
