-- The numbers on a port, receipt by receipt.
use Rattle.std.proofs.Common.{◌≡◌, ◌≢◌, ◌<◌, ◌+◌, ◌==◌, ℕ, Bool, true, false, List, [], ◌∷◌, ◌++◌, length, map, take, drop, get_or, set, refl, sym, ap, subst, ◌∙◌, arith, inl, inr, append_assoc, length-append}
use Rattle.std.specs.Prelude.{Option, None, Some, filter, cond}
use Rattle.std.proofs.lemmas.List.{get_or_append_left, get_or-set_other, take-append-drop, map-append}
use Rattle.std.proofs.Math.Seq.{get_or-append_seam}
use Rattle.std.proofs.lemmas.List.Elements.{filter_more, filter-append}
use Rattle.std.proofs.lemmas.Bool.{cases_lt}
use Rattle.std.proofs.lemmas.Bool.Decides.{nat_tests, eqb_tells}
use Rattle.std.proofs.lemmas.Grind.{get_or-set_at}
use Rattle.gp_machine.specs.declared.entry.Receipt.{Receipt}
use Rattle.gp_accounts.specs.Accounted.{numbers_on, IsRising}

-- ---- numbers that rise

-- the last of the numbers, if there is one
abbrev pub IsLastOf : Option ℕ → List ℕ → Type 0
IsLastOf None numbers = numbers ≡ []
IsLastOf (Some last) numbers = (front : List ℕ) × (numbers ≡ front ++ last ∷ [])

pub rising_none : IsRising []
rising_none = record { steps = λ k l. absurd (omega (arith, l)) }

one_rises : (n : ℕ) → IsRising ([] ++ n ∷ [])
one_rises n = record { steps = λ k l. absurd (omega (arith, l)) }

more_rise : (front : List ℕ) (last n : ℕ) → IsRising (front ++ last ∷ []) → last < n → IsRising ((front ++ last ∷ []) ++ n ∷ [])
more_rise front last n h above =
    let ns : List ℕ = front ++ last ∷ [] in
    let whole : List ℕ = ns ++ n ∷ [] in
    let short : length ns ≡ length front + 1 = length-append front (last ∷ []) in
    let long : length whole ≡ length ns + 1 = length-append ns (n ∷ []) in
    record {
      steps = λ k l. elim (cases_lt (k + 1) (length ns)) [
        | inl within ↦
            let here : get_or whole k 0 ≡ get_or ns k 0 = get_or_append_left ns (n ∷ []) 0 k (omega (arith, within)) in
            let next : get_or whole (k + 1) 0 ≡ get_or ns (k + 1) 0 = get_or_append_left ns (n ∷ []) 0 (k + 1) within in
            omega (arith, here, next, h.steps k within)
        | inr past ↦
            let at : k ≡ length front = omega (arith, past, l, long, short) in
            let seam : k + 1 ≡ length ns = omega (arith, at, short) in
            let here : get_or whole k 0 ≡ last =
            get_or_append_left ns (n ∷ []) 0 k (omega (arith, at, short)) ∙ ap (λ (j : ℕ). get_or ns j 0) at ∙ get_or-append_seam front last [] 0 in
            let next : get_or whole (k + 1) 0 ≡ n = ap (λ (j : ℕ). get_or whole j 0) seam ∙ get_or-append_seam ns n [] 0 in
            omega (arith, here, next, above)
      ];
    }

-- a number more, above the last one
pub rising_push : (ns : List ℕ) (n : ℕ) (o : Option ℕ) → IsRising ns → IsLastOf o ns → ((before : ℕ) → o ≡ Some before → before < n) → IsRising (ns ++ n ∷ [])
rising_push ns n None h is above = subst (λ (w : List ℕ). IsRising (w ++ n ∷ [])) (sym is) (one_rises n)
rising_push ns n (Some last) h is above =
    subst (λ (w : List ℕ). IsRising (w ++ n ∷ [])) (sym is.1) (more_rise is.0 last n (subst IsRising is.1 h) (above last refl))

-- where numbers rise, the one after this is above it
next_above : (front rest : List ℕ) (last n : ℕ) → IsRising ((front ++ last ∷ []) ++ n ∷ rest) → last < n
next_above front rest last n h =
    let ns : List ℕ = front ++ last ∷ [] in
    let whole : List ℕ = ns ++ n ∷ rest in
    let k : ℕ = length front in
    let short : length ns ≡ k + 1 = length-append front (last ∷ []) in
    let long : length whole ≡ length ns + length (n ∷ rest) = length-append ns (n ∷ rest) in
    let here : get_or whole k 0 ≡ last = get_or_append_left ns (n ∷ rest) 0 k (omega (arith, short)) ∙ get_or-append_seam front last [] 0 in
    let next : get_or whole (k + 1) 0 ≡ n = ap (λ (j : ℕ). get_or whole j 0) (sym short) ∙ get_or-append_seam ns n rest 0 in
    omega (arith, here, next, h.steps k (omega (arith, short, long)))

-- ---- the numbers on a port

is_on : (port : ℕ) (r : Receipt) → r.port ≡ port → (r.port == port) ≡ true
is_on port r p = grind (arith, nat_tests)

isnt_on : (port : ℕ) (r : Receipt) → r.port ≢ port → (r.port == port) ≡ false
isnt_on port r p = grind (arith, nat_tests)

numbers_append : (port : ℕ) (xs ys : List Receipt) → numbers_on port (xs ++ ys) ≡ numbers_on port xs ++ numbers_on port ys
numbers_append port xs ys =
    let on : Receipt → Bool = λ r. r.port == port in
    ap (map (λ (r : Receipt). r.number)) (filter-append on xs ys) ∙ map-append (λ (r : Receipt). r.number) (filter on xs) (filter on ys)

-- a receipt more of the port has its number
pub numbers_yes : (rs : List Receipt) (i : ℕ) (d : Receipt) (port : ℕ) → i < length rs → (get_or rs i d).port ≡ port
    → numbers_on port (take (i + 1) rs) ≡ numbers_on port (take i rs) ++ (get_or rs i d).number ∷ []
numbers_yes rs i d port l p =
    let on : Receipt → Bool = λ r. r.port == port in
    let r : Receipt = get_or rs i d in
    let more : filter on (take (i + 1) rs) ≡ filter on (take i rs) ++ r ∷ [] =
    filter_more on rs i d l ∙ ap (λ (b : Bool). filter on (take i rs) ++ cond b (r ∷ []) []) (is_on port r p) in
    ap (map (λ (r : Receipt). r.number)) more ∙ map-append (λ (r : Receipt). r.number) (filter on (take i rs)) (r ∷ [])

append_nil : (xs : List Receipt) → xs ++ [] ≡ xs
append_nil [] = refl
append_nil (x ∷ xs) = ap (λ (w : List Receipt). x ∷ w) (append_nil xs)

-- one of another port has none
pub numbers_no : (rs : List Receipt) (i : ℕ) (d : Receipt) (port : ℕ) → i < length rs → (get_or rs i d).port ≢ port → numbers_on port (take (i + 1) rs) ≡ numbers_on port (take i rs)
numbers_no rs i d port l p =
    let on : Receipt → Bool = λ r. r.port == port in
    let r : Receipt = get_or rs i d in
    let same : filter on (take (i + 1) rs) ≡ filter on (take i rs) =
    filter_more on rs i d l ∙ ap (λ (b : Bool). filter on (take i rs) ++ cond b (r ∷ []) []) (isnt_on port r p) ∙ append_nil (filter on (take i rs)) in
    ap (map (λ (r : Receipt). r.number)) same

-- where the numbers rise, each is above the last one before it
pub next_rises : (rs : List Receipt) (i : ℕ) (d : Receipt) (port : ℕ) (o : Option ℕ) → i < length rs → (get_or rs i d).port ≡ port → IsLastOf o (numbers_on port (take i rs))
    → IsRising (numbers_on port rs) → (before : ℕ) → o ≡ Some before → before < (get_or rs i d).number
next_rises rs i d port o l p is h before some =
    let n : ℕ = (get_or rs i d).number in
    let rest : List ℕ = numbers_on port (drop (i + 1) rs) in
    let last = subst (λ (w : Option ℕ). IsLastOf w (numbers_on port (take i rs))) some is in
    let whole : numbers_on port rs ≡ (last.0 ++ before ∷ []) ++ n ∷ rest =
    ap (numbers_on port) (sym (take-append-drop (i + 1) rs)) ∙ numbers_append port (take (i + 1) rs) (drop (i + 1) rs)
    ∙ ap (λ (w : List ℕ). w ++ rest) (numbers_yes rs i d port l p) ∙ append_assoc (numbers_on port (take i rs)) (n ∷ []) rest
    ∙ ap (λ (w : List ℕ). w ++ n ∷ rest) last.1 in
    next_above last.0 rest before n (subst IsRising whole h)

-- ---- one receipt more

-- the numbers on each port go on rising, where the one more is above the last one on its port
pub rises_more : (rs : List Receipt) (i : ℕ) (d : Receipt) (o : Option ℕ) → i < length rs → IsLastOf o (numbers_on (get_or rs i d).port (take i rs))
    → ((before : ℕ) → o ≡ Some before → before < (get_or rs i d).number) → ((port : ℕ) → IsRising (numbers_on port (take i rs))) → (port : ℕ) → IsRising (numbers_on port (take (i + 1) rs))
rises_more rs i d o l is above rising port =
    elim (eqb_tells (get_or rs i d).port port) [
      | inl e ↦
          let last : IsLastOf o (numbers_on port (take i rs)) = subst (λ (p : ℕ). IsLastOf o (numbers_on p (take i rs))) e.1 is in
          subst IsRising (sym (numbers_yes rs i d port l e.1)) (rising_push (numbers_on port (take i rs)) (get_or rs i d).number o (rising port) last above)
      | inr e ↦ subst IsRising (sym (numbers_no rs i d port l e.1)) (rising port)
    ]

-- the last number on each port, where that of the one more is put in its port's place
pub last_more : (rs : List Receipt) (i : ℕ) (d : Receipt) (last : List (Option ℕ)) (p n : ℕ) → i < length rs → (get_or rs i d).port ≡ p → (get_or rs i d).number ≡ n → p < length last
    → ((port : ℕ) → port < 256 → IsLastOf (get_or last port None) (numbers_on port (take i rs)))
    → (port : ℕ) → port < 256 → IsLastOf (get_or (set last p (Some n)) port None) (numbers_on port (take (i + 1) rs))
last_more rs i d last p n l on is within h port low =
    elim (eqb_tells p port) [
      | inl e ↦
          let here : get_or (set last p (Some n)) port None ≡ Some n = get_or-set_at last p port (Some n) None (sym e.1) within in
          let more : numbers_on port (take (i + 1) rs) ≡ numbers_on port (take i rs) ++ n ∷ [] =
          numbers_yes rs i d port l (on ∙ e.1) ∙ ap (λ (m : ℕ). numbers_on port (take i rs) ++ m ∷ []) is in
          subst (λ (o : Option ℕ). IsLastOf o (numbers_on port (take (i + 1) rs))) (sym here) (numbers_on port (take i rs), more)
      | inr e ↦
          let there : get_or (set last p (Some n)) port None ≡ get_or last port None = get_or-set_other last p port (Some n) None (λ same. e.1 (sym same)) in
          subst (λ (o : Option ℕ). IsLastOf o (numbers_on port (take (i + 1) rs))) (sym there)
          (subst (IsLastOf (get_or last port None)) (sym (numbers_no rs i d port l (λ same. e.1 (sym on ∙ same)))) (h port low))
    ]
