-- Texts of parts, one behind the other.
use Rattle.std.specs.Prelude.{is_some, nat_lt}
use Rattle.std.proofs.Common.{◌≡◌, ℕ, ◌+◌, ◌<◌, ◌≤◌, Bool, true, false, List, [], ◌∷◌, ◌++◌, Option, None, Some, max, if◌then◌else◌, codes, decimal, refl, sym, ap, subst, ◌∙◌, append-nil, arith}
use Rattle.std.proofs.lemmas.Bool.Decides.{nat_tests}
use Rattle.std.proofs.lemmas.Bool.{ltb-true}
use Rattle.std.proofs.lemmas.Grind.{flat_map-append}
use Rattle.std.specs.List.{flat_map}
use Rattle.gp_dump.specs.declared.change.Change.{Change}
use Rattle.gp_dump.specs.Text.{change_text}
use Rattle.gp_dump.specs.Dump.{AreParts, Continues, Part, is_declared, part_text, time_behind, time_text}
use Rattle.gp_dump.specs.Dump.Part.{At, Set}

-- nothing
pub continues_none : (ports : List (Option ℕ)) (from : Option ℕ) → Continues ports from [] from
continues_none ports from = record { parts = []; are = refl; is = refl }

parts_more : (ports : List (Option ℕ)) (from mid to : Option ℕ) (ps qs : List Part) → AreParts ports from ps mid → AreParts ports mid qs to
    → AreParts ports from (ps ++ qs) to
parts_more ports from mid to [] qs p q = subst (λ (m : Option ℕ). AreParts ports m qs to) p q
parts_more ports from mid to (At time ∷ ps) qs p q = (p.0, parts_more ports (Some time) mid to ps qs p.1 q)
parts_more ports from mid to (Set change ∷ ps) qs p q = (p.0, p.1, parts_more ports from mid to ps qs p.2 q)

-- one behind the other
pub continues_more : (ports : List (Option ℕ)) (from mid to : Option ℕ) (first rest : List ℕ) → Continues ports from first mid
    → Continues ports mid rest to → Continues ports from (first ++ rest) to
continues_more ports from mid to first rest p q = record {
  parts = p.parts ++ q.parts;
  are = parts_more ports from mid to p.parts q.parts p.are q.are;
  is = ap (λ (l : List ℕ). l ++ rest) p.is ∙ ap (λ (l : List ℕ). flat_map part_text p.parts ++ l) q.is ∙ sym (flat_map-append part_text p.parts q.parts);
}

-- a change behind a time that was written, by whether its time is behind that
put_behind : (ports : List (Option ℕ)) (last time : ℕ) (change : Change) (behind : Bool) → nat_lt last time ≡ behind → is_declared ports change ≡ true
    → Continues ports (Some last) ((if behind then codes "#" ++ decimal time ++ codes "\n" else []) ++ change_text change) (Some (max last time))
put_behind ports last time change true is declared =
    let less : last < time = ltb-true last time is in
    let greatest : max last time ≡ time = omega (arith, less) in
    record {
      parts = At time ∷ Set change ∷ [];
      are = (less, (refl, declared, ap (λ (n : ℕ). let t : Option ℕ = Some n in t) greatest));
      is = ap (λ (l : List ℕ). (codes "#" ++ decimal time ++ codes "\n") ++ l) (sym (append-nil (change_text change)));
    }
put_behind ports last time change false is declared =
    let less : time ≤ last = grind (arith, nat_tests) in
    let greatest : max last time ≡ last = omega (arith, less) in
    record {
      parts = Set change ∷ [];
      are = (refl, declared, ap (λ (n : ℕ). let t : Option ℕ = Some n in t) greatest);
      is = sym (append-nil (change_text change));
    }

-- a change of a variable that is declared
pub put_continues : (ports : List (Option ℕ)) (last : Option ℕ) (time : ℕ) (change : Change) → is_declared ports change ≡ true
    → Continues ports last (time_text last time ++ change_text change) (Some (time_behind last time))
put_continues ports None time change declared = record {
  parts = At time ∷ Set change ∷ [];
  are = (tt, (refl, declared, refl));
  is = ap (λ (l : List ℕ). (codes "#" ++ decimal time ++ codes "\n") ++ l) (sym (append-nil (change_text change)));
}
put_continues ports (Some last) time change declared = put_behind ports last time change (nat_lt last time) refl declared
