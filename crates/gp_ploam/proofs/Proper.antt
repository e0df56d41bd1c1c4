-- Whether a message is proper.
use Rattle.std.proofs.Common.{◌≡◌, ℕ, Bool, true, false, not, List, length, subst, Option, Some, None, IsTrue, refl}
use Rattle.std.specs.Option.{is_some, IfSome, IfNone}
use Rattle.gp_ploam.specs.Row.{Cell, Agrees}

-- no named row agrees with these octets
abbrev MatchesNone : {M : Type 0} → (M → List Cell) → (M → Type 0) → (M → Type 0) → List ℕ → Type 0
MatchesNone {M = M} row IsNamed IsFitting octets = (m : M) → IsNamed m → IsFitting m → Agrees (row m) octets → ⊥

-- exactly where no named message is found, an `Other` with these octets is proper
pub none_found : {M : Type 0} (row : M → List Cell) (IsNamed IsFitting : M → Type 0) (body octets other : List ℕ) (found : Option M) (is_none : Bool) →
    length body ≡ 10 → octets ≡ other →
    IfSome found IsNamed → IfSome found IsFitting → IfSome found (λ m. Agrees (row m) octets) → IfNone found (MatchesNone row IsNamed IsFitting octets) →
    is_some found ≡ not is_none →
    (IsTrue is_none → (length body ≡ 10) × MatchesNone row IsNamed IsFitting other) × ((length body ≡ 10) × MatchesNone row IsNamed IsFitting other → IsTrue is_none)
none_found row IsNamed IsFitting body octets other None true long e named fits agrees none h =
    ((λ _. (long, subst (MatchesNone row IsNamed IsFitting) e none)), (λ _. refl))
none_found row IsNamed IsFitting body octets other None false long e named fits agrees none h = absurd (cc)
none_found row IsNamed IsFitting body octets other (Some m) true long e named fits agrees none h = absurd (cc)
none_found row IsNamed IsFitting body octets other (Some m) false long e named fits agrees none h =
    ((λ no. absurd (cc)), (λ proper. absurd (proper.1 m named fits (subst (λ (bs : List ℕ). Agrees (row m) bs) e agrees))))
