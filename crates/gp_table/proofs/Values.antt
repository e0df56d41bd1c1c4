-- A finite map with each value changed by a function.
use Rattle.std.proofs.Common.{◌≡◌, suc, cond, List, [], ◌∷◌, length, map, Some, refl, sym, ap, subst, ◌∙◌, ◌&&◌, true, false}
use Rattle.std.specs.Option.{option_map}
use Rattle.std.specs.declared.cmp.Ordering.{Ordering}
use Rattle.std.specs.Ordering.{eq_by_cmp, is_lt}
use Rattle.std.specs.Prelude.{T}
use Rattle.std.specs.FinMap.{FinMap, entries, entries_sorted, find, is_sorted, get, len, get-entries, len-entries, get-from_sorted, entries-from_sorted}
use Rattle.std.specs.FinMap.Entries.{below_all}
use Rattle.gp_table.specs.Values.{map_values}

module _ {K X Y : Type 0} (R : K → K → Ordering) (f : X → Y) where
  find-map : (q : K) (es : List (K × X)) → find R q (map (λ e. (e.0, f e.1)) es) ≡ option_map f (find R q es)
  find-map q [] = refl
  find-map q (e ∷ es) =
      ap (cond (eq_by_cmp R q e.0) (Some (f e.1))) (find-map q es)
      ∙ elim (eq_by_cmp R q e.0) as (λ b. cond b (Some (f e.1)) (option_map f (find R q es)) ≡ option_map f (cond b (Some e.1) (find R q es))) [ true ↦ refl | false ↦ refl ]

  below-map : (x : K) (es : List (K × X)) → below_all R x (map (λ e. (e.0, f e.1)) es) ≡ below_all R x es
  below-map x [] = refl
  below-map x (e ∷ es) = ap (λ b. is_lt (R x e.0) && b) (below-map x es)

  sorted-map : (es : List (K × X)) → is_sorted R (map (λ e. (e.0, f e.1)) es) ≡ is_sorted R es
  sorted-map [] = refl
  sorted-map (e ∷ es) = ap (λ b. b && is_sorted R (map (λ e. (e.0, f e.1)) es)) (below-map e.0 es) ∙ ap (λ b. below_all R e.0 es && b) (sorted-map es)

  length-map : (es : List (K × X)) → length {A = K × Y} (map (λ e. (e.0, f e.1)) es) ≡ length es
  length-map [] = refl
  length-map (e ∷ es) = ap suc (length-map es)

  sorted : (m : FinMap R X) → T (is_sorted R (map (λ e. (e.0, f e.1)) (entries m)))
  sorted m = subst T (sym (sorted-map (entries m))) (entries_sorted m)

  pub get-map_values : (m : FinMap R X) (q : K) → get (map_values f m) q ≡ option_map f (get m q)
  unfolding map_values
  get-map_values m q = get-from_sorted R (map (λ e. (e.0, f e.1)) (entries m)) q (sorted m) ∙ find-map q (entries m) ∙ ap (option_map f) (sym (get-entries m q))

  pub len-map_values : (m : FinMap R X) → len (map_values f m) ≡ len m
  unfolding map_values
  len-map_values m = len-entries (map_values f m) ∙ ap length (entries-from_sorted R (map (λ e. (e.0, f e.1)) (entries m)) (sorted m)) ∙ length-map (entries m) ∙ sym (len-entries m)
