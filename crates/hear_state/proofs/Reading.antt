-- What the rows and the index say once they are written.
use Rattle.std.proofs.Common.{◌≡◌, ℕ, ◌==◌, zero, suc, ◌<◌, Bool, true, false, cond, List, [], ◌∷◌, length, map, get_or, Option, None, Some, inl, inr, refl, sym, ap, ◌∙◌, eq-eqb}
use Rattle.std.proofs.Math.ListN.{set}
use Rattle.std.proofs.lemmas.Bool.{cases_Bool, cases_eq, ne_eqb}
use Rattle.std.proofs.lemmas.List.{get_or-set_same, get_or-set_other}
use Rattle.std.specs.Option.{option_map}
use Rattle.std.specs.FinMap as fin
use Rattle.gp_ploam.specs.declared.message.Serial.{Serial}
use Rattle.gp_ploam.specs.Serials.{serial_cmp, same_serial}
use Rattle.gp_ploam.proofs.Serials.{by_cmp-same, serials_total, same_serial-true}
use Rattle.gp_table.specs.Values.{map_values}
use Rattle.gp_table.proofs.Values.{get-map_values}
use Rattle.hear_state.specs.declared.index.Followed.{Followed}
use Rattle.hear_state.specs.Index.{Followeds, changed, changed_at}
use Rattle.hear_state.specs.Kept.{followed_or}

module _ {X : Type 0} where
  -- a row that is written
  pub get-set : (xs : List X) (n : ℕ) (x d : X) (q : ℕ) → n < length xs → get_or (set xs n x) q d ≡ cond (q == n) x (get_or xs q d)
  get-set xs n x d q within = elim (cases_eq q n) [
    | inl same ↦ ap (λ k. get_or (set xs n x) k d) same ∙ get_or-set_same xs n x d within ∙ sym (ap (λ b. cond b x (get_or xs q d)) (eq-eqb q n same))
    | inr other ↦ get_or-set_other xs n q x d other ∙ sym (ap (λ b. cond b x (get_or xs q d)) (ne_eqb q n other))
  ]

  -- each row changed by a function
  pub get-map : (f : X → X) (xs : List X) (d e : X) (q : ℕ) → f d ≡ e → get_or (map f xs) q e ≡ f (get_or xs q d)
  get-map f [] d e q is = sym is
  get-map f (x ∷ xs) d e zero is = refl
  get-map f (x ∷ xs) d e (suc q) is = get-map f xs d e q is

module _ (m : Followeds) (others : Followed) where
  -- a serial number that is written
  pub read-put : (s : Serial) (f : Followed) (q : Serial) → followed_or (fin.get (fin.insert m s f) q) others ≡ cond (same_serial q s) f (followed_or (fin.get m q) others)
  read-put s f q =
      ap (λ (o : Option Followed). followed_or o others) (fin.get-insert serials_total m s f q)
      ∙ ap (λ b. followed_or (cond b (Some f) (fin.get m q)) others) (by_cmp-same q s)
      ∙ by_test (same_serial q s)
    where
      by_test : (b : Bool) → followed_or (cond b (Some f) (fin.get m q)) others ≡ cond b f (followed_or (fin.get m q) others)
      by_test true = refl
      by_test false = refl

  -- one that is followed is changed
  pub read-changed : (s : Serial) (change : Followed → Followed) (f : Followed) → fin.get m s ≡ Some f → (q : Serial)
      → followed_or (fin.get (changed m s change) q) others ≡ cond (same_serial q s) (change (followed_or (fin.get m q) others)) (followed_or (fin.get m q) others)
  read-changed s change f there q =
      ap (λ (o : Option Followed). followed_or (fin.get (changed_at m s change o) q) others) there
      ∙ read-put s (change f) q
      ∙ elim (cases_Bool (same_serial q s)) [
        | inl t ↦
            ap (λ b. cond b (change f) (followed_or (fin.get m q) others)) t
            ∙ sym (ap (λ (o : Option Followed). change (followed_or o others)) (ap (fin.get m) (same_serial-true q s t) ∙ there))
            ∙ sym (ap (λ b. cond b (change (followed_or (fin.get m q) others)) (followed_or (fin.get m q) others)) t)
        | inr f1 ↦
            ap (λ b. cond b (change f) (followed_or (fin.get m q) others)) f1
            ∙ sym (ap (λ b. cond b (change (followed_or (fin.get m q) others)) (followed_or (fin.get m q) others)) f1)
      ]

  -- one is changed where it is followed, and others are as it would leave them
  pub read-changed_any : (s : Serial) (change : Followed → Followed) → change others ≡ others → (q : Serial)
      → followed_or (fin.get (changed m s change) q) others ≡ cond (same_serial q s) (change (followed_or (fin.get m q) others)) (followed_or (fin.get m q) others)
  read-changed_any s change still q = by_followed (fin.get m s) refl
    where
      by_followed : (o : Option Followed) → fin.get m s ≡ o
          → followed_or (fin.get (changed m s change) q) others ≡ cond (same_serial q s) (change (followed_or (fin.get m q) others)) (followed_or (fin.get m q) others)
      by_followed (Some f) e = read-changed s change f e q
      by_followed None e =
          ap (λ (o : Option Followed). followed_or (fin.get (changed_at m s change o) q) others) e
          ∙ elim (cases_Bool (same_serial q s)) [
            | inl t ↦
                let none : fin.get m q ≡ None = ap (fin.get m) (same_serial-true q s t) ∙ e in
                ap (λ (o : Option Followed). followed_or o others) none ∙ sym still
                ∙ sym (ap (λ (o : Option Followed). change (followed_or o others)) none)
                ∙ sym (ap (λ b. cond b (change (followed_or (fin.get m q) others)) (followed_or (fin.get m q) others)) t)
            | inr f1 ↦ sym (ap (λ b. cond b (change (followed_or (fin.get m q) others)) (followed_or (fin.get m q) others)) f1)
          ]

  -- all are changed, and the others too
  pub read-each : (change : Followed → Followed) (q : Serial) → followed_or (fin.get (map_values change m) q) (change others) ≡ change (followed_or (fin.get m q) others)
  read-each change q = ap (λ (o : Option Followed). followed_or o (change others)) (get-map_values serial_cmp change m q) ∙ by_followed (fin.get m q)
    where
      by_followed : (o : Option Followed) → followed_or (option_map change o) (change others) ≡ change (followed_or o others)
      by_followed None = refl
      by_followed (Some f) = refl
