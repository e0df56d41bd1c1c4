-- Numbers that are lost, in order.
use Rattle.std.proofs.Common.{◌≡◌, ℕ, suc, ◌+◌, ◌<◌, ◌≤◌, ◌==◌, Bool, true, false, ◌||◌, not, cond, nat_lt, List, [], ◌∷◌, length, get_or, Some, None, is_some, refl, sym, ◌∙◌, arith, inl, inr, ◌⊎◌}
use Rattle.std.specs.List.{list_any, position, position_or_len}
use Rattle.std.specs.Ordering.{nat_cmp}
use Rattle.std.specs.List.Sorted.{IsNonDecreasing, IsPermutation, IsSorted}
use Rattle.std.proofs.lemmas.Bool.Decides.{nat_tests}
use Rattle.std.proofs.lemmas.Bool.{cases_lt}
use Rattle.std.proofs.lemmas.List.Elements.{All-from_get_or}
use Rattle.std.proofs.lemmas.List.Folds.{list_any_at, list_any_none}
use Rattle.std.proofs.lemmas.List.Sorted.{IsNonDecreasingBy-from_sort, list_any-IsPermutation}
use Rattle.gp_fibre.specs.Schedule.{is_lost}
use Rattle.gp_fibre.specs.LostNumbers.{IsInOrder, IsPlaceOf, stands_at}

pub put_in_order : (given ordered : List ℕ) → IsPermutation given ordered → IsSorted nat_cmp ordered → IsInOrder given ordered
put_in_order given ordered same sorted = record {
  ascending = IsNonDecreasingBy-from_sort (λ n. n) ordered sorted;
  same = λ n. sym (list_any-IsPermutation (λ m. m == n) given ordered same);
}

-- where it stands
pub found_at : (ordered : List ℕ) (number place : ℕ) → place < length ordered → get_or ordered place 0 ≡ number → IsPlaceOf ordered number place
found_at ordered number place within is =
    let lost : is_lost ordered number ≡ true = list_any_at (λ m. m == number) ordered place 0 within (grind (arith, nat_tests, is)) in
    let stands : stands_at ordered place number ≡ true = grind (arith, nat_tests, within, is) in
    lost ∙ sym stands

-- where it would stand
none_lost : (ordered : List ℕ) (number place : ℕ) → ((k : ℕ) → k < place → get_or ordered k 0 < number) → ((k : ℕ) → place ≤ k → k < length ordered → number < get_or ordered k 0)
    → is_lost ordered number ≡ false
none_lost ordered number place behind before = list_any_none (λ m. m == number) ordered (All-from_get_or (λ m. (m == number) ≡ false) ordered 0 (λ k within. by_place k within (cases_lt k place)))
  where
    by_place : (k : ℕ) → k < length ordered → (k < place) ⊎ (place ≤ k) → (get_or ordered k 0 == number) ≡ false
    by_place k within (inr from) = let low = before k from within in grind (arith, nat_tests, low)
    by_place k within (inl less) = let low = behind k less in grind (arith, nat_tests, low)

missing_at : (ordered : List ℕ) (number place : ℕ) → is_lost ordered number ≡ false → stands_at ordered place number ≡ false → IsPlaceOf ordered number place
missing_at ordered number place a b = a ∙ sym b

pub placed_at : (ordered : List ℕ) (number place : ℕ) → IsNonDecreasing ordered → ((k : ℕ) → k < place → get_or ordered k 0 < number)
    → ((k : ℕ) → place ≤ k → k < length ordered → number ≤ get_or ordered k 0) → IsPlaceOf ordered number place
placed_at ordered number place ascending behind before = by_stand (stands_at ordered place number) refl
  where
    by_stand : (stands : Bool) → stands_at ordered place number ≡ stands → IsPlaceOf ordered number place
    by_stand true is =
        let within : place < length ordered = grind (arith, nat_tests, is) in
        let same : get_or ordered place 0 ≡ number = grind (arith, nat_tests, is) in
        found_at ordered number place within same
    by_stand false is = missing_at ordered number place (none_lost ordered number place behind (λ k from within. above k from within)) is
      where
        above : (k : ℕ) → place ≤ k → k < length ordered → number < get_or ordered k 0
        above k from within =
            let here : place < length ordered = omega arith in
            let low = before place (omega arith) here in
            let up = ascending place k 0 from within in
            grind (arith, nat_tests, low, up, is, here)

-- a number that is lost has a first place, and no other has
some_within : (b : Bool) (i : ℕ) → is_some (cond b (Some i) None) ≡ b
some_within true i = refl
some_within false i = refl

one_more : (b : Bool) (i n : ℕ) (found : Bool) → nat_lt i n ≡ found → nat_lt (cond (not b) (1 + i) 0) (suc n) ≡ (b || found)
one_more true i n found is = grind (arith, nat_tests)
one_more false i n found is = grind (arith, nat_tests, is)

within_where_lost : (p : ℕ → Bool) (xs : List ℕ) → nat_lt (position_or_len p xs) (length xs) ≡ list_any p xs
within_where_lost p [] = refl
within_where_lost p (x ∷ xs) = one_more (p x) (position_or_len p xs) (length xs) (list_any p xs) (within_where_lost p xs)

pub first_where_lost : (number : ℕ) (given : List ℕ) → is_some (position (λ n. n == number) given) ≡ is_lost given number
first_where_lost number given = some_within _ _ ∙ within_where_lost (λ n. n == number) given
