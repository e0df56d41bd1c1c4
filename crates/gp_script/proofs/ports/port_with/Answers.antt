use Rattle.std.proofs.Common.{rules, length, ap, ◌∙◌}
use Rattle.std.proofs.lemmas.Iterator.{YieldsList-from_slice}
use Rattle.std.proofs.lemmas.Iterator.Search.{position_from_yields_List}
use Rattle.std.specs.Option.{unwrap_or}
use Rattle.gp_ploam.specs.Serials.{is_among}
use Rattle.gp_machine.specs.declared.config.PortConfig.{PortConfig}
use Rattle.gp_script.proofs.PortLemmas.{position_or_end}
use Rattle.gp_script.proofs.ports.port_with.Goals as goal
use borrow.Author.Tests.{tests}

pub returns : goal.returns
returns c =
    c.unwrap_or.ensures
    ∙ ap (λ place. unwrap_or place (length c.args.ports.now)) (position_from_yields_List (λ (port : PortConfig). is_among c.args.serial.now port.admitted) _ _ _ c.position.ensures.ran (YieldsList-from_slice c.args.ports.now cc) (λ x b q k. search (rules, tests)))
    ∙ position_or_end (λ (port : PortConfig). is_among c.args.serial.now port.admitted) c.args.ports.now
