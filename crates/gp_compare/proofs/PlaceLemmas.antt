-- A place behind octets, in parts.
use Rattle.std.specs.Prelude.{if◌then◌else◌}
use Rattle.std.proofs.Common.{◌≡◌, ◌≤◌, ◌<◌, ◌+◌, ◌^◌, ◌-◌, ℕ, Bool, min, List, [], ◌∷◌, ◌++◌, Some, None, refl, sym, ap, ◌∙◌, append_assoc, append-nil, take, drop, length, length-append, arith}
use Rattle.std.proofs.lemmas.List.{length-take, take_all, take_min}
use Rattle.std.proofs.Math.Seq.{take-append-add}
use Rattle.gp_flow.proofs.LineLemmas.{NoFeed, take_of-take}
use Rattle.gp_flow.proofs.PieceLemmas.{found_at, found_behind, none_found}
use Rattle.memchr.specs.Find.{IsFirstByte, is_byte}
use Rattle.gp_compare.specs.Place.{PlaceState, behind, behind_feed, behind_octet, behind_open, counted, max_shown}

pub behind_append : (p : PlaceState) (xs ys : List ℕ) → behind p (xs ++ ys) ≡ behind (behind p xs) ys
behind_append p [] ys = refl
behind_append p (b ∷ xs) ys = behind_append (behind_octet p b) xs ys

-- what holds of each place
pub record IsPlace (p : PlaceState) : Type 0 where
  pub short : length p.shown ≤ max_shown
  pub small : p.octets < 2 ^ 64

counted_small : (n : ℕ) → counted n < 2 ^ 64
counted_small n = omega arith

taken_short : (n : ℕ) (xs : List ℕ) → length (take n xs) ≤ n
taken_short n xs = rw length-take (omega arith)

is_open : (p : PlaceState) (xs : List ℕ) → IsPlace (behind_open p xs)
is_open p xs = record { short = taken_short max_shown (p.shown ++ xs); small = counted_small (p.octets + length xs) }

same_place : (f o p : ℕ) (s t : List ℕ) → o ≡ p → s ≡ t → ◌≡◌ {A = PlaceState} (record { feeds = f; octets = o; shown = s }) (record { feeds = f; octets = p; shown = t })
same_place f o p s t first second = rw (first, second) refl

open_nil : (p : PlaceState) → IsPlace p → behind_open p [] ≡ p
open_nil p h =
    let small : p.octets < 2 ^ 64 = h.small in
    same_place p.feeds _ p.octets _ p.shown (omega arith) (ap (take max_shown) (append-nil p.shown) ∙ take_all max_shown p.shown h.short)

counted_twice : (a m n : ℕ) → counted (counted (a + m) + n) ≡ counted (a + (m + n))
counted_twice a m n = omega arith

open_open : (p : PlaceState) (xs ys : List ℕ) → behind_open (behind_open p xs) ys ≡ behind_open p (xs ++ ys)
open_open p xs ys =
    same_place p.feeds _ _ _ _ (counted_twice p.octets (length xs) (length ys) ∙ ap (λ n. counted (p.octets + n)) (sym (length-append xs ys)))
    (take_of-take max_shown (p.shown ++ xs) ys ∙ ap (take max_shown) (append_assoc p.shown xs ys))

-- octets without a line feed
pub behind_part : (part : List ℕ) (p : PlaceState) → IsPlace p → NoFeed part → behind p part ≡ behind_open p part
behind_part [] p h free = sym (open_nil p h)
behind_part (b ∷ part) p h free =
    ap (λ (v : Bool). behind (if v then behind_feed p else behind_open p (b ∷ [])) part) free.0
    ∙ behind_part part (behind_open p (b ∷ [])) (is_open p (b ∷ [])) free.1 ∙ open_open p (b ∷ []) part

behind_feeds : (part : List ℕ) (p : PlaceState) → NoFeed part → (behind p part).feeds ≡ p.feeds
behind_feeds [] p free = refl
behind_feeds (b ∷ part) p free =
    ap (λ (v : Bool). (behind (if v then behind_feed p else behind_open p (b ∷ [])) part).feeds) free.0
    ∙ behind_feeds part (behind_open p (b ∷ [])) free.1

-- octets up to the first line feed
pub behind_line : (p : PlaceState) (rest : List ℕ) (k : ℕ) → IsFirstByte (is_byte 10) rest (Some k) → behind p rest ≡ behind (behind_feed p) (drop (k + 1) rest)
behind_line p rest k h =
    ap (behind p) (sym (found_at rest k h)) ∙ behind_append p (take k rest) (10 ∷ drop (k + 1) rest)
    ∙ ap (λ (f : ℕ). behind (record { feeds = counted (f + 1); octets = 0; shown = [] }) (drop (k + 1) rest)) (behind_feeds (take k rest) p (found_behind rest k h))

-- octets without one
pub behind_last : (p : PlaceState) (rest : List ℕ) → IsPlace p → IsFirstByte (is_byte 10) rest None → behind p rest ≡ behind_open p rest
behind_last p rest h none = behind_part rest p h (none_found rest none)

-- as many octets are appended as there is room for
pub shown_more : (s part : List ℕ) (count : ℕ) → length s ≤ max_shown → count ≡ min (length part) (max_shown - length s) → s ++ take count part ≡ take max_shown (s ++ part)
shown_more s part count short least =
    let all : length s + (max_shown - length s) ≡ max_shown = omega arith in
    let same : count ≡ min (max_shown - length s) (length part) = omega arith in
    ap (λ (l : List ℕ). s ++ l) (ap (λ (n : ℕ). take n part) same ∙ take_min (max_shown - length s) part)
    ∙ sym (take-append-add s part (max_shown - length s)) ∙ ap (λ (n : ℕ). take n (s ++ part)) all

pub opened : (f o p : ℕ) (s t part : List ℕ) → p ≡ counted (o + length part) → t ≡ take max_shown (s ++ part)
    → ◌≡◌ {A = PlaceState} (record { feeds = f; octets = p; shown = t }) (behind_open (record { feeds = f; octets = o; shown = s }) part)
opened f o p s t part first second = same_place f p _ t _ first second
