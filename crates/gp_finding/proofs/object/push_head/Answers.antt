use Rattle.gp_finding.proofs.object.push_head.Goals as goal

pub returns : goal.returns
returns c = rw (c.side_name.ensures, c.side_of.ensures, c.rule_name.ensures) at c.push_pieces.ensures
