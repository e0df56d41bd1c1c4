use Rattle.std.proofs.Common.{◌≤◌, arith}
use Rattle.std.proofs.lemmas.Bool.Decides.{nat_tests}
use Rattle.gp_verify.proofs.typed.config_is_typed.Goals as goal

pub returns : goal.returns
returns c =
    let within : c.args.config.now.alloc_last ≤ 4095 = grind (arith, nat_tests, c.requires) in
    record {
      overhead = c.fields_are_typed.ensures.overhead;
      delay = c.fields_are_typed.ensures.delay;
      allocs = within;
      serials = rw (c.as_slice.ensures) at c.serials_are_typed.ensures;
    }
