-- What is told when a verification has ended.
use Rattle.std.proofs.Common.{◌≡◌, ℕ, List, ◌++◌, Option, Result, Ok, Err, IsErrAnd, refl, sym, subst, append_assoc}
use Rattle.gp_stream.specs.Sink.{SinkState, Gives}
use Rattle.gp_stream.proofs.SinkLemmas.{gives_more, takes_prefix_more}
use Rattle.gp_stream.specs.Source.{SourceState}
use Rattle.gp_explain.specs.declared.form.Form.{Form}
use Rattle.gp_replay.specs.declared.fault.RunFault.{RunFault}
use Rattle.gp_verify.specs.declared.outcome.CheckFault.{CheckFault}
use Rattle.gp_verify.specs.declared.outcome.CheckFault.TheVariants.{Script, Trace}
use Rattle.gp_verify.specs.declared.outcome.VerifyFault.{VerifyFault}
use Rattle.gp_verify.specs.Checking.{ChecksIn}
use Rattle.gp_verify.specs.Ending.{ChecksTold, Ends, as_checked}

-- the first of two pieces was not taken
pub gives_short : {W S T E F : Type 0} (Q : F → Type 0) (a b : SinkState W) (xs ys : List ℕ) (e : E) (r : Result T F) → IsErrAnd r Q → Gives {T = S} a b xs (Err e) → Gives a b (xs ++ ys) r
gives_short Q a b xs ys e (Ok x) is p = absurd is
gives_short Q a b xs ys e (Err f) is p = record {
  ok = tt;
  error = takes_prefix_more a b xs ys p.error;
  stopped = p.stopped;
  refused = λ h. (refl, (p.refused h).1);
  flushed = λ h. tt;
  room = p.room;
}

-- the first of three pieces was not taken
pub gives_shorter : {W S T E F : Type 0} (Q : F → Type 0) (a b : SinkState W) (xs ys zs : List ℕ) (e : E) (r : Result T F) → IsErrAnd r Q → Gives {T = S} a b xs (Err e)
    → Gives a b ((xs ++ ys) ++ zs) r
gives_shorter Q a b xs ys zs e r is p = subst (λ (l : List ℕ). Gives a b l r) (sym (append_assoc xs ys zs)) (gives_short Q a b xs (ys ++ zs) e r is p)

-- the second of three was not
pub gives_second : {W R S T D E F : Type 0} (Q : F → Type 0) (a b c : SinkState W) (xs ys zs : List ℕ) (x : R) (e : E) (r : Result T F) → IsErrAnd r Q
    → Gives {T = R} {E = D} a b xs (Ok x) → Gives {T = S} b c ys (Err e) → Gives a c ((xs ++ ys) ++ zs) r
gives_second {S = S} {E = E} Q a b c xs ys zs x e r is p q =
    let more : Gives {T = S} {E = E} a c (xs ++ ys) (Err e) = gives_more a b c xs ys x (Err e) p q in gives_short Q a c (xs ++ ys) zs e r is more

-- two pieces, the second of which is in two parts
pub gives_parts : {W R T D F : Type 0} (a b c : SinkState W) (xs ys zs : List ℕ) (x : R) (r : Result T F) → Gives {T = R} {E = D} a b xs (Ok x) → Gives b c (ys ++ zs) r
    → Gives a c ((xs ++ ys) ++ zs) r
gives_parts a b c xs ys zs x r p q = subst (λ (l : List ℕ). Gives a c l r) (sym (append_assoc xs ys zs)) (gives_more a b c xs (ys ++ zs) x r p q)

-- ---- a script and a trace

module _ {R T W : Type 0} (form : Form) (at_least : Option ℕ) (before after : SourceState R) (from to : SourceState T) (old mid : SinkState W) (found : Result ℕ CheckFault)
    (checked : ChecksIn form before after from to old mid found) where
  pub told_run : (lines : ℕ) (told : Result ℕ VerifyFault) (new : SinkState W) (answer : Result ℕ CheckFault) → found ≡ Ok lines → Ends form at_least (Ok lines) mid new told
      → answer ≡ as_checked told → ChecksTold form at_least before after from to old new answer
  told_run lines told new answer is ends same = record {
    found = Ok lines;
    mid = mid;
    checked = subst (λ (f : Result ℕ CheckFault). ChecksIn form before after from to old mid f) is checked;
    ended = (told, ends, same);
  }

  pub told_fault : (fault : VerifyFault) (told : Result ℕ VerifyFault) (new : SinkState W) (answer : Result ℕ CheckFault) → found ≡ Err (Trace fault) → Ends form at_least (Err fault) mid new told
      → answer ≡ as_checked told → ChecksTold form at_least before after from to old new answer
  told_fault fault told new answer is ends same = record {
    found = Err (Trace fault);
    mid = mid;
    checked = subst (λ (f : Result ℕ CheckFault). ChecksIn form before after from to old mid f) is checked;
    ended = (told, ends, same);
  }

  pub told_script : (fault : RunFault) → found ≡ Err (Script fault) → ChecksTold form at_least before after from to old mid (Err (Script fault))
  told_script fault is = record {
    found = Err (Script fault);
    mid = mid;
    checked = subst (λ (f : Result ℕ CheckFault). ChecksIn form before after from to old mid f) is checked;
    ended = (refl, refl);
  }
