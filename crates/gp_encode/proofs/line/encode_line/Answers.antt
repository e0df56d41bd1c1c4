use Rattle.std.proofs.Common.{ℕ, List, [], ◌∷◌, ◌++◌, subst}
use Rattle.gp_stream.specs.Sink.{Takes}
use Rattle.gp_stream.proofs.SinkLemmas.{takes_more}
use Rattle.gp_encode.proofs.line.encode_line.Goals as goal

pub returns-clause-ok : goal.returns-clause-ok
returns-clause-ok g c =
    let written = rw c.unwrap.ensures at c.encode_to_slice.ensures.written in
    let digits = rw c.as_slice.ensures at written in (
      c.in_ok-code.code,
      c.in_ok-code.ensures,
      subst (λ (l : List ℕ). Takes c.args.sink.now c.write_whole.new.self (l ++ 10 ∷ [])) digits
          (takes_more c.args.sink.now c.put.new.self c.write_whole.new.self c.encode_to_slice.new.output (10 ∷ []) c.in_ok-put.ensures.gives.ok c.in_ok-write_whole.ensures.gives.ok),
    )
