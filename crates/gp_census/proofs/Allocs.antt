-- The Alloc-IDs that belong to an ONU-ID.
use Rattle.std.proofs.Common.{◌≡◌, ℕ, suc, ◌+◌, ◌==◌, Bool, true, false, cond, List, [], ◌∷◌, ◌++◌, append_assoc, refl, sym, ap, ◌∙◌, arith}
use Rattle.std.proofs.lemmas.Grind.{flat_map-append}
use Rattle.std.proofs.lemmas.List.{append-nil}
use Rattle.std.specs.FinMap.{get}
use Rattle.std.specs.List.{flat_map}
use Rattle.gp_observer.specs.Observer.{some_passes}
use Rattle.gp_observer.specs.Watch.{Watch}
use Rattle.gp_census.specs.Told.{allocs_below}
use Rattle.gp_census.specs.Text.{number_field, strung}

-- there is a number
abbrev pub is_any : List ℕ → Bool
is_any [] = false
is_any (number ∷ numbers) = true

-- one number more
pub strung_more : (first other xs : List ℕ) (n : ℕ) → strung first other xs ++ number_field (cond (is_any xs) other first) n ≡ strung first other (xs ++ n ∷ [])
strung_more first other [] n = sym (append-nil (number_field first n))
strung_more first other (x ∷ xs) n =
    append_assoc (number_field first x) (flat_map (number_field other) xs) (number_field other n)
    ∙ ap (λ ys. number_field first x ++ (flat_map (number_field other) xs ++ ys)) (sym (append-nil (number_field other n)))
    ∙ ap (λ ys. number_field first x ++ ys) (sym (flat_map-append (number_field other) xs (n ∷ [])))

any_more : (xs : List ℕ) (n : ℕ) → true ≡ is_any (xs ++ n ∷ [])
any_more [] n = refl
any_more (x ∷ xs) n = refl

-- whether an Alloc-ID belongs to an ONU-ID
abbrev pub belongs : Watch → ℕ → ℕ → Bool
belongs w onu alloc = some_passes (λ owner. owner == onu) (get w.seen.alloc alloc)

module _ (w : Watch) (onu : ℕ) where
  next : (n : ℕ) → suc n ≡ n + 1
  next n = omega arith

  pub allocs_none : [] ≡ allocs_below 0 w onu
  unfolding allocs_below
  allocs_none = refl

  allocs_next : (alloc : ℕ) → allocs_below alloc w onu ++ cond (belongs w onu alloc) (alloc ∷ []) [] ≡ allocs_below (alloc + 1) w onu
  unfolding allocs_below
  allocs_next alloc = ap (λ (n : ℕ). allocs_below n w onu) (next alloc)

  pub allocs_more : (alloc : ℕ) → belongs w onu alloc ≡ true → allocs_below alloc w onu ++ alloc ∷ [] ≡ allocs_below (alloc + 1) w onu
  allocs_more alloc is = sym (ap (λ b. allocs_below alloc w onu ++ cond b (alloc ∷ []) []) is) ∙ allocs_next alloc

  pub allocs_same : (alloc : ℕ) → belongs w onu alloc ≡ false → allocs_below alloc w onu ≡ allocs_below (alloc + 1) w onu
  allocs_same alloc is =
      sym (append-nil (allocs_below alloc w onu)) ∙ sym (ap (λ b. allocs_below alloc w onu ++ cond b (alloc ∷ []) []) is) ∙ allocs_next alloc

  -- what is written so far, and whether that is any
  pub record Written (first other old : List ℕ) (alloc : ℕ) (out : List ℕ) (some : Bool) : Type 0 where
    pub text : out ≡ old ++ strung first other (allocs_below alloc w onu)
    pub any : some ≡ is_any (allocs_below alloc w onu)

  pub written_none : (first other old : List ℕ) → Written first other old 0 old false
  written_none first other old =
      record {
        text = sym (append-nil old) ∙ ap (λ xs. old ++ strung first other xs) allocs_none;
        any = ap is_any allocs_none;
      }

  pub written_more : (first other old before : List ℕ) (alloc : ℕ) (out new : List ℕ) (some any : Bool) → Written first other old alloc out some
      → belongs w onu alloc ≡ true → before ≡ cond some other first → new ≡ out ++ number_field before alloc → any ≡ true
      → Written first other old (alloc + 1) new any
  written_more first other old before alloc out new some any so is chosen grown is_any_now =
      let xs = allocs_below alloc w onu in
      record {
        text =
            grown
            ∙ ap (λ b. out ++ number_field b alloc) chosen
            ∙ ap (λ o. o ++ number_field (cond some other first) alloc) so.text
            ∙ ap (λ b. (old ++ strung first other xs) ++ number_field (cond b other first) alloc) so.any
            ∙ append_assoc old (strung first other xs) (number_field (cond (is_any xs) other first) alloc)
            ∙ ap (λ ys. old ++ ys) (strung_more first other xs alloc)
            ∙ ap (λ ys. old ++ strung first other ys) (allocs_more alloc is);
        any = is_any_now ∙ any_more xs alloc ∙ ap is_any (allocs_more alloc is);
      }

  pub written_same : (first other old : List ℕ) (alloc : ℕ) (out new : List ℕ) (some any : Bool) → Written first other old alloc out some
      → belongs w onu alloc ≡ false → new ≡ out → any ≡ some → Written first other old (alloc + 1) new any
  written_same first other old alloc out new some any so is same same_any =
      record {
        text = same ∙ so.text ∙ ap (λ xs. old ++ strung first other xs) (allocs_same alloc is);
        any = same_any ∙ so.any ∙ ap is_any (allocs_same alloc is);
      }
