use Rattle.std.proofs.Common.{refl}
use Rattle.std.proofs.lemmas.Bool.{false≢true}
use Rattle.gp_accounts.proofs.reconciling.reconcile.Goals as goal

pub returns-then-are_accounted : goal.returns-then-are_accounted
returns-then-are_accounted g c = record { accounted = c.if-are_accounted.ensures.0 refl; mismatch = λ same all. cc; ended = λ same. cc }

pub returns : goal.returns
returns g c = record { accounted = tt; mismatch = λ same all. absurd (false≢true (c.if-are_accounted.ensures.1 all)); ended = λ same. cc }
