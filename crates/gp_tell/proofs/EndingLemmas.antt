-- What is handed on at a line feed.
use Rattle.std.proofs.Common.{◌≡◌, ℕ, Bool, List, ◌++◌, Result, Ok, Err, IsErrAnd, refl, sym, subst}
use Rattle.gp_stream.specs.Sink.{SinkState, Gives, TakesPrefix}
use Rattle.gp_stream.proofs.SinkLemmas.{takes_prefix_more}
use Rattle.gp_explain.specs.Telling.{Manner}
use Rattle.gp_tell.specs.declared.fault.TellFault.{TellFault}
use Rattle.gp_tell.specs.declared.fault.TellFault.TheVariants.{Write}
use Rattle.gp_tell.specs.Ending.{Ends, EndsLine}

-- the first of two pieces was not taken
pub gives_short : {W S T E F : Type 0} (Q : F → Type 0) (a b : SinkState W) (xs ys : List ℕ) (e : E) (r : Result T F) → IsErrAnd r Q → Gives {T = S} a b xs (Err e) → Gives a b (xs ++ ys) r
gives_short Q a b xs ys e (Ok x) is p = absurd is
gives_short Q a b xs ys e (Err f) is p = record {
  ok = tt;
  error = takes_prefix_more a b xs ys p.error;
  stopped = p.stopped;
  refused = λ h. (refl, (p.refused h).1);
  flushed = λ h. tt;
  room = p.room;
}

-- of what is told a prefix was written
pub ends_short : {W : Type 0} (long : Bool) (line said : List ℕ) (old new next : Manner) (before after : SinkState W) (r : Result (Unit {0}) TellFault) → IsErrAnd r (λ f. f ≡ Write)
    → Ends long line old said next → TakesPrefix before after said → EndsLine long line old new before after r
ends_short long line said old new next before after (Ok x) is ends part = absurd is
ends_short long line said old new next before after (Err f) is ends part =
    subst (λ (fault : TellFault). EndsLine long line old new before after (Err fault)) (sym is) (said, next, ends, part)
