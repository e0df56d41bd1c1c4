use Rattle.std.proofs.Common.{sym, ap, ◌∙◌, rules}
use Rattle.gp_unit.specs.declared.row.Row.{Row}
use Rattle.gp_port.proofs.port_machine.PortMachine.command_disable.Goals as goal

pub remove_unit-requires : goal.remove_unit-requires
remove_unit-requires c =
    let known = rw c.in-Some.is at c.look_up.ensures.row in
    let has = sym known ∙ c.in-Some-row.is in
    (c.in-Some-row.row, has, sym (ap (λ (r : Row). r.onu) c.in-Some-row.row-is), (c.requires.sound.units.each c.args.serial c.in-Some-row.row has).fits)

pub returns : goal.returns
returns c = search rules
