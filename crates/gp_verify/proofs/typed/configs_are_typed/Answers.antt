use Rattle.std.proofs.lemmas.List.{take_all}
use Rattle.std.proofs.lemmas.List.Elements.{All-more}
use Rattle.gp_laws.specs.Messages.{IsTypedConfig}
use Rattle.gp_verify.proofs.typed.configs_are_typed.Goals as goal

pub loop-config-preserved : goal.loop-config-preserved
loop-config-preserved c =
    All-more IsTypedConfig c.args.configs.now c.loop-config.config-index c.config-item.result c.loop-config-test.true c.loop-config.invariant
    (rw (← c.config-item.is) c.config_is_typed.ensures)

pub returns : goal.returns
returns c = rw (take_all c.loop-config.config-index c.args.configs.now c.loop-config-test.false) at c.loop-config.invariant
