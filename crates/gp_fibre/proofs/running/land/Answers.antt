use Rattle.std.proofs.Common.{◌≡◌, false, List, rules, subst}
use Rattle.gp_fibre.specs.Parts.{PortPuts}
use Rattle.gp_fibre.specs.Step.{FibreInput}
use Rattle.gp_fibre.proofs.Coming.{none_arrives, none_leaves}
use Rattle.gp_fibre.proofs.Parts.{puts_nothing}
use Rattle.gp_fibre.proofs.running.land.Goals as goal

pub returns-then-not-comes_in-clause-puts : goal.returns-then-not-comes_in-clause-puts
returns-then-not-comes_in-clause-puts g c =
    let unset : c.comes_in.result ≡ false = search rules in
    let world = c.args.fibre.now.world in
    let entries = c.args.entries.now.items in
    subst (λ (is : List FibreInput). PortPuts world is entries entries world)
    (none_arrives c.args.lost.now c.args.frame c.args.flights.now.flights (c.comes_in.ensures unset)) (puts_nothing world entries)

pub returns-then-not-comes_in-clause-left : goal.returns-then-not-comes_in-clause-left
returns-then-not-comes_in-clause-left g c =
    let unset : c.comes_in.result ≡ false = search rules in
    none_leaves c.args.frame c.args.flights.now.flights (c.comes_in.ensures unset)
