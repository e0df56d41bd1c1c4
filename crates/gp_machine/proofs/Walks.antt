-- Ways through the tables.
use Rattle.std.proofs.Common.{◌≡◌, Bool, true, false, cond, ◌&&◌, not, List, [], ◌∷◌, Option, None, Some, refl, sym}
use Rattle.std.specs.FinMap.{get}
use Rattle.std.proofs.lemmas.Bool.{false≢true}
use Rattle.gp_ploam.specs.declared.message.Serial.{Serial}
use Rattle.gp_ploam.specs.Serials.{is_among}
use Rattle.gp_unit.specs.declared.row.Row.{Row}
use Rattle.gp_machine.specs.declared.refusal.Refusal.{Refusal}
use Rattle.gp_machine.specs.declared.refusal.Refusal.TheVariants.{NotAdmitted, NotActive}
use Rattle.gp_machine.specs.State.{PortState, HasRow}
use Rattle.gp_machine.specs.Responses.{Response, unless}
use Rattle.gp_machine.specs.Commands.{refuses, row_response, unit_response}

pub by_test : {A : Type 0} (P : A → Type 0) (b : Bool) (x y : A) → (b ≡ true → P x) → (b ≡ false → P y) → P (cond b x y)
by_test P true x y f g = f refl
by_test P false x y f g = g refl

pub not_false : (b : Bool) → not b ≡ false → b ≡ true
not_false true h = refl
not_false false h = absurd (false≢true (sym h))

pub both_true : (a b : Bool) → (a && b) ≡ true → (a ≡ true) × (b ≡ true)
both_true true b h = (refl, h)
both_true false b h = absurd (false≢true h)

-- no cause holds
abbrev pub NoneHolds : List (Bool × Refusal) → Type 0
NoneHolds [] = Unit {0}
NoneHolds ((holds, refusal) ∷ causes) = (holds ≡ false) × NoneHolds causes

-- what holds of each refusal, and of the response where no cause holds
pub by_causes : (P : Response → Type 0) (refuse : Refusal → Response) (causes : List (Bool × Refusal)) (response : Response) → ((refusal : Refusal) → P (refuse refusal)) → (NoneHolds causes → P response) → P (unless refuse causes response)
by_causes P refuse [] response refused done = done tt
by_causes P refuse ((holds, refusal) ∷ causes) response refused done =
    by_test P holds (refuse refusal) (unless refuse causes response) (λ is. refused refusal) (λ isnt. by_causes P refuse causes response refused (λ none. done (isnt, none)))

-- what holds of each refusal, and for an admitted unit by its row
pub by_unit : (P : Response → Type 0) (p : PortState) (s : Serial) (response : Option Row → Response) → ((refusal : Refusal) → P (refuses refusal))
    → (is_among s p.config.admitted ≡ true → (o : Option Row) → get p.rows s ≡ o → P (response o)) → P (unit_response p s response)
by_unit P p s response refused done = by_test P (not (is_among s p.config.admitted)) (refuses NotAdmitted) (response (get p.rows s)) (λ foreign. refused NotAdmitted) (λ none. done (not_false (is_among s p.config.admitted) none) (get p.rows s) refl)

-- and for an active one
pub by_active : (P : Response → Type 0) (p : PortState) (s : Serial) (response : Row → Response) → ((refusal : Refusal) → P (refuses refusal)) → ((row : Row) → HasRow p.rows s row → P (response row)) → P (unit_response p s (row_response response))
by_active P p s response refused done = by_unit P p s (row_response response) refused (λ admitted. by_row)
  where
    by_row : (o : Option Row) → get p.rows s ≡ o → P (row_response response o)
    by_row None is = refused NotActive
    by_row (Some row) is = done row is
