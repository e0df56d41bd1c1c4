use Rattle.std.proofs.Common.{◌≡◌, ◌||◌, Bool, List, ℕ, [], ◌∷◌, ◌++◌, ap, subst, sym, ◌∙◌, append_assoc}
use Rattle.gp_ploam.specs.declared.check.Mask.{Mask}
use Rattle.gp_summed.specs.Hearing.{IsHearing}
use Rattle.gp_summed.proofs.HeardLines.{ended}
use Rattle.gp_summed.proofs.hearer.Hearer.end.Goals as goal

pub invariant_of-self : goal.invariant_of-self
invariant_of-self c =
    let mask = c.self.inside.listener.mask in
    let refused = c.self.inside.refused in
    let old = c.self.inside.taken.octets in
    let part = c.args.part.now in
    let line = c.hear_whole-heard.new.line.items in
    let heard = c.hear_whole-heard.new.listener in
    let taken : c.note-2.new.self.octets ≡ old ++ (part ++ 10 ∷ []) = c.note-2.ensures ∙ ap (λ (t : List ℕ). t ++ 10 ∷ []) c.note.ensures ∙ append_assoc old part (10 ∷ []) in
    let done = ended mask old c.self.inside.line.items part line c.self.inside.listener.ports heard.ports refused c.hear_whole-heard.result c.self.invariant c.requires c.hear_whole-heard.ensures.heard c.hear_whole-heard.ensures.cleared in
    subst (λ (m : Mask). IsHearing (refused || c.is_err.result) m c.note-2.new.self.octets line heard.ports) (sym c.hear_whole-heard.ensures.mask)
    (subst (λ (t : List ℕ). IsHearing (refused || c.is_err.result) mask t line heard.ports) (sym taken)
    (subst (λ (b : Bool). IsHearing (refused || b) mask (old ++ (part ++ 10 ∷ [])) line heard.ports) (sym c.is_err.ensures.value) done))
