use Rattle.std.proofs.Common.{◌≡◌, ◌||◌, Bool, List, ℕ, [], ◌∷◌, ◌++◌, ap, subst, sym, ◌∙◌, append_assoc}
use Rattle.gp_tally.specs.Counter.{IsCounting}
use Rattle.gp_tally.proofs.Lines.{ended}
use Rattle.gp_tally.proofs.counter.Counter.end.Goals as goal

pub invariant_of-self : goal.invariant_of-self
invariant_of-self c =
    let mask = c.self.inside.mask in
    let refused = c.self.inside.refused in
    let old = c.self.inside.taken.octets in
    let part = c.args.part.now in
    let line = c.count_whole-counted.new.line.items in
    let ports = c.count_whole-counted.new.tallies in
    let taken : c.note-2.new.self.octets ≡ old ++ (part ++ 10 ∷ []) = c.note-2.ensures ∙ ap (λ (t : List ℕ). t ++ 10 ∷ []) c.note.ensures ∙ append_assoc old part (10 ∷ []) in
    let done = ended mask old c.self.inside.line.items part line c.self.inside.tallies ports refused c.count_whole-counted.result c.self.invariant c.requires c.count_whole-counted.ensures.counted c.count_whole-counted.ensures.cleared in
    subst (λ (t : List ℕ). IsCounting (refused || c.is_err.result) mask t line ports) (sym taken)
    (subst (λ (b : Bool). IsCounting (refused || b) mask (old ++ (part ++ 10 ∷ [])) line ports) (sym c.is_err.ensures.value) done)
