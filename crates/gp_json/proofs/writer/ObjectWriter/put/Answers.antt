use Rattle.std.proofs.Common.{List, ℕ, ◌++◌, ap, ◌∙◌, rules}
use Rattle.gp_json.proofs.WriterLemmas.{gathered_more}
use Rattle.gp_json.proofs.writer.ObjectWriter.put.Goals as goal

pub returns : goal.returns
returns c =
    gathered_more c.self.inside.out.items c.self.inside.gathered c.args.text.now c.copy_from_slice.new.self c.self.inside.filled (search rules) c.copy_from_slice.ensures.after
    ∙ ap (λ (l : List ℕ). l ++ c.args.text.now) c.self.view_is
