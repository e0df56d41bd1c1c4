-- Draws one behind the other.
use Rattle.std.proofs.Common.{◌≡◌, ℕ, ◌+◌, sym, ap, ◌∙◌, add-one}
use Rattle.rand_pcg.specs.Lcg.{Lcg}
use Rattle.gp_generate.specs.declared.chance.Draw.{Draw}
use Rattle.gp_generate.specs.declared.chance.Drawn.{Drawn}
use Rattle.gp_generate.specs.Chance.{behind, chance_behind, draw_of, drawn_for}

-- the generator behind one draw more
pub behind_next : (seed : ℕ) (drawn : Drawn) (count : ℕ) (chance next : Lcg) → chance ≡ chance_behind seed drawn count → next ≡ behind chance
    → next ≡ chance_behind seed drawn (count + 1)
unfolding chance_behind
behind_next seed drawn count chance next is then =
    then ∙ ap behind is ∙ sym (ap (λ (n : ℕ). chance_behind seed drawn n) (add-one count))

-- what is drawn there
pub drawn_from : (seed : ℕ) (drawn : Drawn) (count : ℕ) (chance : Lcg) (draw : Draw) → chance ≡ chance_behind seed drawn count → draw ≡ draw_of chance
    → draw ≡ drawn_for seed drawn count
unfolding drawn_for
drawn_from seed drawn count chance draw is then = then ∙ ap draw_of is
