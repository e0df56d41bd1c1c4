use Rattle.std.proofs.Common.{ℕ, refl, rules}
use Rattle.gp_generate.specs.declared.mistake.TheConstants.{MISTAKES}
use Rattle.gp_generate.specs.Mistakes.{mistake_by}
use Rattle.gp_generate.specs.Tables.{twice_text, twice_if}
use Rattle.gp_generate.proofs.GrowingLemmas.{more}
use Rattle.gp_generate.proofs.tables.push_twice.Goals as goal

pub mistakes-preserved : goal.mistakes-preserved
mistakes-preserved c =
    more (twice_text MISTAKES c.args.seed) (λ (n : ℕ). twice_if (mistake_by MISTAKES c.args.seed n)) c.mistakes.number
    c.args.out.now.items c.mistakes.out.items c.push_twice_if.new.out.items refl c.mistakes.invariant (search rules)
