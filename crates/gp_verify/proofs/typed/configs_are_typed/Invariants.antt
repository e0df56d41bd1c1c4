use Rattle.std.proofs.Common.{All, take}
use Rattle.gp_laws.specs.Messages.{IsTypedConfig}
use Rattle.gp_verify.proofs.typed.configs_are_typed.Given as goal

abbrev pub invariant-loop-config : goal.invariant-loop-config
invariant-loop-config l = All IsTypedConfig (take l.config-index l.configs)
