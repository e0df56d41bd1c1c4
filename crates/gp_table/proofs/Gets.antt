-- What a map by serial number answers after a value is put in or taken out.
use Rattle.std.proofs.Common.{◌≡◌, ◌+◌, true, false, cond, Option, None, Some, sym, ap, ◌∙◌, is_some, ◌⊎◌, inl, inr, subst}
use Rattle.std.proofs.lemmas.Bool.{cases_Bool}
use Rattle.std.specs.FinMap.{FinMap, get, insert, remove, len, get-insert, get-remove, len-insert, same_map}
use Rattle.gp_ploam.specs.declared.message.Serial.{Serial}
use Rattle.gp_ploam.specs.Serials.{serial_cmp, same_serial}
use Rattle.gp_ploam.proofs.Serials.{serials_total, serials_exact, by_cmp-same, same_serial-itself, same_serial-true}

module _ {X : Type 0} where
  pub get-insert_same : (m : FinMap serial_cmp X) (s : Serial) (x : X) → get (insert m s x) s ≡ Some x
  get-insert_same m s x = get-insert serials_total m s x s ∙ ap (λ b. cond b (Some x) (get m s)) (by_cmp-same s s ∙ same_serial-itself s)

  pub get-insert_other : (m : FinMap serial_cmp X) (s : Serial) (x : X) (q : Serial) → same_serial q s ≡ false → get (insert m s x) q ≡ get m q
  get-insert_other m s x q f = get-insert serials_total m s x q ∙ ap (λ b. cond b (Some x) (get m q)) (by_cmp-same q s ∙ f)

  pub get-remove_same : (m : FinMap serial_cmp X) (s : Serial) → get (remove m s) s ≡ None
  get-remove_same m s = get-remove serials_total m s s ∙ ap (λ b. cond b None (get m s)) (by_cmp-same s s ∙ same_serial-itself s)

  pub get-remove_other : (m : FinMap serial_cmp X) (s q : Serial) → same_serial q s ≡ false → get (remove m s) q ≡ get m q
  get-remove_other m s q f = get-remove serials_total m s q ∙ ap (λ b. cond b None (get m q)) (by_cmp-same q s ∙ f)

  pub len-insert_new : (m : FinMap serial_cmp X) (s : Serial) (x : X) → get m s ≡ None → len (insert m s x) ≡ len m + 1
  len-insert_new m s x none = len-insert serials_total m s x ∙ ap (λ (o : Option X). cond (is_some o) (len m) (len m + 1)) none

  pub same_value : (a b : X) → Some a ≡ Some b → a ≡ b
  same_value a b e = cc

  pub no_value : (a : X) → None ≡ Some a → ⊥
  no_value a e = cc

  -- what was taken out and is put in again
  insert-remove : (m : FinMap serial_cmp X) (s : Serial) (x : X) → get m s ≡ Some x → insert (remove m s) s x ≡ m
  insert-remove m s x has = same_map serials_total serials_exact _ _ (λ q. by_test q (cases_Bool (same_serial q s)))
    where
      by_test : (q : Serial) → (same_serial q s ≡ true) ⊎ (same_serial q s ≡ false) → get (insert (remove m s) s x) q ≡ get m q
      by_test q (inl t) = subst (λ (y : Serial). get (insert (remove m s) s x) y ≡ get m y) (sym (same_serial-true q s t)) (get-insert_same (remove m s) s x ∙ sym has)
      by_test q (inr f) = get-insert_other (remove m s) s x q f ∙ get-remove_other m s q f

  pub len-remove_known : (m : FinMap serial_cmp X) (s : Serial) (x : X) → get m s ≡ Some x → len (remove m s) + 1 ≡ len m
  len-remove_known m s x has = sym (len-insert_new (remove m s) s x (get-remove_same m s)) ∙ ap len (insert-remove m s x has)
