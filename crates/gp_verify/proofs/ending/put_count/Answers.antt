use Rattle.std.proofs.Common.{◌≡◌, List, ℕ, ◌++◌, decimal, subst, ◌∙◌}
use Rattle.gp_stream.specs.Sink.{Gives}
use Rattle.gp_stream.proofs.SinkLemmas.{gives_more}
use Rattle.gp_verify.proofs.EndingLemmas.{gives_second, gives_shorter}
use Rattle.gp_verify.proofs.ending.put_count.Goals as goal

pub returns-in_err-put : goal.returns-in_err-put
returns-in_err-put g c =
    gives_shorter _ _ _ c.args.before.now (decimal c.args.count) c.args.behind.now _ _ c.from_residual.ensures.1 c.in_err-put.ensures.gives

pub returns-in_err-put-2 : goal.returns-in_err-put-2
returns-in_err-put-2 g c =
    let digits : c.as_bytes.result.now ≡ decimal c.args.count = c.as_bytes.ensures.value ∙ c.format.ensures.text in
    subst (λ (l : List ℕ). Gives c.args.sink.now c.put-2.new.self ((c.args.before.now ++ l) ++ c.args.behind.now) c.from_residual-in_err-put-2.result) digits
    (gives_second _ _ _ _ c.args.before.now c.as_bytes.result.now c.args.behind.now _ _ _ c.from_residual-in_err-put-2.ensures.1 c.in_ok-put.ensures.gives c.in_err-put-2.ensures.gives)

pub returns : goal.returns
returns g c =
    let digits : c.as_bytes.result.now ≡ decimal c.args.count = c.as_bytes.ensures.value ∙ c.format.ensures.text in
    subst (λ (l : List ℕ). Gives c.args.sink.now c.put-3.new.self ((c.args.before.now ++ l) ++ c.args.behind.now) c.put-3.result) digits
    (gives_more _ _ _ (c.args.before.now ++ c.as_bytes.result.now) c.args.behind.now _ c.put-3.result
    (gives_more _ _ _ c.args.before.now c.as_bytes.result.now _ _ c.in_ok-put.ensures.gives c.in_ok-put-2.ensures.gives) c.put-3.ensures.gives)
