use Rattle.std.proofs.Common.{ℕ, List, drop, ap, ◌∙◌}
use Rattle.std.proofs.lemmas.List.{take_rest}
use Rattle.gp_replay.proofs.line_buffer.LineBuffer.as_bytes.Goals as goal

pub returns : goal.returns
returns c = take_rest c.deref.result.now c.self.inside.start ∙ ap (λ (bytes : List ℕ). drop c.self.inside.start bytes) c.deref.ensures.value ∙ c.self.view_is
