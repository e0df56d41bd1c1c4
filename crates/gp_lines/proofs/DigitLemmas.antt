-- Digits, and the number that they write.
use Rattle.std.proofs.Common.{◌≡◌, ℕ, zero, suc, ◌+◌, ◌-◌, ◌*◌, ◌^◌, ◌<◌, ◌≤◌, Bool, true, false, not, ◌&&◌, cond, List, [], ◌∷◌, ◌++◌, take, drop, length, length-take, take-append-drop, Option, Ok, Err, refl, sym, ap, subst, ◌∙◌, ◌⊎◌, inl, inr, arith, ltb, get_or}
use Rattle.std.proofs.Math.Nat.{pow-le-pow_right}
use Rattle.std.proofs.lemmas.Bool.{cases_Bool, false≢true, lt-ltb, ltb-false}
use Rattle.std.proofs.lemmas.Bool.Decides.{leb_tells, nat_tests}
use Rattle.std.proofs.lemmas.Int.Digits.{digits_value-lt}
use Rattle.std.proofs.lemmas.List.{take_all, take_more, get_or-take, length-take-le}
use Rattle.std.proofs.lemmas.List.Folds.{list_all-append, list_all_at}
use Rattle.std.proofs.lemmas.List.Sums.{fails_before_first, prefix_len-le-length}
use Rattle.std.proofs.lemmas.Str.Parse.{digits_value-take-le}
use Rattle.std.specs.Char.{digit_value, is_ascii_digit}
use Rattle.std.specs.List.{list_all, position, position_or_len}
use Rattle.std.specs.Option.{unwrap_or}
use Rattle.std.specs.Str.Parse.{AllDigits, digits_value, digits_value_after}
use Rattle.gp_lines.specs.declared.fault.LineFault.{LineFault}
use Rattle.gp_lines.specs.declared.fault.LineFault.TheVariants as fault
use Rattle.gp_lines.specs.Leading.{is_other_than_zero}
use Rattle.gp_lines.specs.Reading.{number_in}
use Rattle.gp_lines.specs.Spelling.{SpellsNumber}
use Rattle.gp_lines.proofs.FieldLemmas.{own}
use Rattle.gp_lines.proofs.ReadLemmas.{number_back, number_err, number_none, number_under, number_over}

-- these are digits, and write this number
pub record AreDigits (text : List ℕ) (number : ℕ) : Type 0 where
  pub digits : AllDigits 10 text
  pub value : digits_value 10 text ≡ number

pub no_digits : AreDigits [] 0
no_digits = record { digits = tt; value = refl }

digits_push : (text : List ℕ) (octet : ℕ) → AllDigits 10 text → digit_value octet < 10 → AllDigits 10 (text ++ octet ∷ [])
digits_push [] octet all here = (here, tt)
digits_push (first ∷ text) octet all here = (all.0, digits_push text octet all.1 here)

value_push : (before : ℕ) (text : List ℕ) (octet : ℕ) → digits_value_after 10 before (text ++ octet ∷ []) ≡ digits_value_after 10 before text * 10 + digit_value octet
value_push before [] octet = refl
value_push before (first ∷ text) octet = value_push (before * 10 + digit_value first) text octet

digit_of : (octet : ℕ) → is_ascii_digit octet ≡ true → (digit_value octet ≡ octet - 48) × (octet - 48 < 10)
digit_of octet h = (grind (arith, nat_tests, h), grind (arith, nat_tests, h))

-- a digit more
pub digit_more : (text : List ℕ) (at number octet : ℕ) → at < length text → octet ≡ get_or text at 0 → is_ascii_digit octet ≡ true → AreDigits (take at text) number
    → AreDigits (take (at + 1) text) (number * 10 + (octet - 48))
digit_more text at number octet within is digit h =
    let d = digit_of octet digit in
    let more : take (at + 1) text ≡ take at text ++ octet ∷ [] = take_more text at 0 within ∙ ap (λ (o : ℕ). take at text ++ o ∷ []) (sym is) in
    let low : digit_value octet < 10 = omega (arith, d.0, d.1) in
    subst (λ (l : List ℕ). AreDigits l (number * 10 + (octet - 48))) (sym more) (record {
      digits = digits_push (take at text) octet h.digits low;
      value = value_push 0 (take at text) octet ∙ ap (λ (n : ℕ). n * 10 + digit_value octet) h.value ∙ ap (λ (n : ℕ). number * 10 + n) d.0;
    })

-- a text of digits alone
pub digits_alone : (text : List ℕ) (at number : ℕ) → 0 < length text → length text ≤ at → AreDigits (take at text) number → SpellsNumber text number
digits_alone text at number some whole h =
    let same : take at text ≡ text = take_all at text whole in
    let all : AreDigits text number = subst (λ (l : List ℕ). AreDigits l number) same h in
    ((some, all.digits), all.value)

-- so few digits leave room for one more
pub low_enough : (text : List ℕ) (at number : ℕ) → at < 19 → AreDigits (take at text) number → number < 1000000000000000000
low_enough text at number few h =
    let below : digits_value 10 (take at text) < 10 ^ length (take at text) = digits_value-lt 10 (take at text) h.digits in
    let short : length (take at text) ≤ 18 = let long = length-take at text in omega (arith, long, few) in
    let most : 10 ^ length (take at text) ≤ 1000000000000000000 = pow-le-pow_right (omega arith) short in
    omega (arith, below, most, h.value)

-- ---- what is read of digits

-- a number below 2 ^ 64
pub whole_number : (text : List ℕ) (number : ℕ) → number < 2 ^ 64 → SpellsNumber text number → Ok number ≡ number_in 0 18446744073709551615 text
whole_number text number fits spelled = sym (number_back 0 18446744073709551615 text number spelled (omega arith) (omega (arith, fits)))

no_numeral : (low high : ℕ) (text : List ℕ) → list_all is_ascii_digit text ≡ false → Err fault.Number ≡ number_in low high text
no_numeral low high text other = sym (number_none low high text (λ is. false≢true (sym other ∙ own.from text is.1)))

pub empty_number : (low high : ℕ) (text : List ℕ) → length text ≡ 0 → Err fault.Number ≡ number_in low high text
empty_number low high text none = sym (number_none low high text (λ is. let some = is.0 in omega (arith, some, none)))

-- an octet that is no digit
pub other_octet : (low high : ℕ) (text : List ℕ) (at octet : ℕ) → at < length text → octet ≡ get_or text at 0 → is_ascii_digit octet ≡ false
    → Err fault.Number ≡ number_in low high text
other_octet low high text at octet within is other =
    no_numeral low high text (list_all_at is_ascii_digit text at 0 within (ap is_ascii_digit (sym is) ∙ other))

-- a number of 2 ^ 64 or more, of which these are the first digits
over_number : (text : List ℕ) (k : ℕ) → AllDigits 10 text → 0 < length text → 18446744073709551615 < digits_value 10 (take k text)
    → Err fault.Range ≡ number_in 0 18446744073709551615 text
over_number text k all some great =
    let more : digits_value 10 (take k text) ≤ digits_value 10 text = digits_value-take-le 10 text k (omega arith) in
    sym (number_over 0 18446744073709551615 text (some, all) (omega (arith, more, great)))

digits_or_not : (text : List ℕ) (k : ℕ) → AllDigits 10 (take k text) → list_all is_ascii_digit text ≡ list_all is_ascii_digit (drop k text)
digits_or_not text k front =
    ap (list_all is_ascii_digit) (sym (take-append-drop k text)) ∙ list_all-append is_ascii_digit (take k text) (drop k text)
    ∙ ap (λ (b : Bool). b && list_all is_ascii_digit (drop k text)) (own.from (take k text) front)

pub great_number : (text : List ℕ) (k : ℕ) → 0 < length text → AllDigits 10 (take k text) → 18446744073709551615 < digits_value 10 (take k text)
    → Err (cond (list_all is_ascii_digit (drop k text)) fault.Range fault.Number) ≡ number_in 0 18446744073709551615 text
great_number text k some front great =
    elim (cases_Bool (list_all is_ascii_digit (drop k text))) [
      | inl all ↦ rw all (over_number text k (own.to text (digits_or_not text k front ∙ all)) some great)
      | inr other ↦ rw other (no_numeral 0 18446744073709551615 text (digits_or_not text k front ∙ other))
    ]

-- where a digit more makes it too great
pub great_behind : (text rest : List ℕ) (at number octet : ℕ) (f : LineFault) → at < length text → octet ≡ get_or text at 0 → is_ascii_digit octet ≡ true
    → AreDigits (take at text) number → (number * 10 + (octet - 48) < 2 ^ 64 → ⊥) → rest ≡ drop (at + 1) text
    → f ≡ cond (list_all is_ascii_digit rest) fault.Range fault.Number → Err f ≡ number_in 0 18446744073709551615 text
great_behind text rest at number octet f within is digit h great cut told =
    let more = digit_more text at number octet within is digit h in
    let over : 18446744073709551615 < digits_value 10 (take (at + 1) text) = elim (leb_tells (2 ^ 64) (number * 10 + (octet - 48))) [
      | inl above ↦ let least = above.1 in let value = more.value in omega (arith, least, value)
      | inr below ↦ absurd (great below.1)
    ] in
    ap (λ (g : LineFault). Err g) (told ∙ ap (λ (l : List ℕ). cond (list_all is_ascii_digit l) fault.Range fault.Number) cut)
    ∙ great_number text (at + 1) (omega (arith, within)) more.digits over

-- ---- a number within a range

pub number_outside : (low high : ℕ) (text : List ℕ) (number : ℕ) → SpellsNumber text number → (number < low) ⊎ (high < number)
    → Err fault.Range ≡ number_in low high text
number_outside low high text number spelled (inl under) = sym (number_under low high text spelled.0 (rw spelled.1 under))
number_outside low high text number spelled (inr over) = sym (number_over low high text spelled.0 (rw spelled.1 over))

-- a fault is that of each range
pub narrower_fault : (low high : ℕ) (text : List ℕ) (f : LineFault) → high < 2 ^ 64 → Err f ≡ number_in 0 18446744073709551615 text → Err f ≡ number_in low high text
narrower_fault low high text f fits h =
    elim (number_err 0 18446744073709551615 text f (sym h)) [
      | inl none ↦ ap (λ (g : LineFault). Err g) (sym none.0) ∙ sym (number_none low high text none.1)
      | inr (told, is, inl under) ↦ absurd (omega (arith, under))
      | inr (told, is, inr over) ↦ ap (λ (g : LineFault). Err g) (sym told) ∙ sym (number_over low high text is (omega (arith, over, fits)))
    ]

-- ---- zeros in front

one_zero : (low high : ℕ) (text : List ℕ) → 0 < length text → number_in low high text ≡ number_in low high (48 ∷ text)
unfolding number_in
one_zero low high text some = rw (lt-ltb 0 (length text) some, lt-ltb 0 (suc (length text)) (omega arith)) refl

pub zeros_leave : (low high : ℕ) (text : List ℕ) (n : ℕ) → n < length text → ((k : ℕ) → k < n → get_or text k 0 ≡ 48)
    → number_in low high (drop n text) ≡ number_in low high text
zeros_leave low high [] n within all = absurd (omega arith)
zeros_leave low high (octet ∷ text) zero within all = refl
zeros_leave low high (octet ∷ text) (suc n) within all =
    let behind : n < length text = omega (arith, within) in
    zeros_leave low high text n behind (λ k below. all (suc k) (omega (arith, below)))
    ∙ one_zero low high text (omega (arith, behind))
    ∙ ap (λ (o : ℕ). number_in low high (o ∷ text)) (sym (all 0 (omega arith)))

is_zero : (octet : ℕ) → is_other_than_zero octet ≡ false → octet ≡ 48
is_zero octet h = grind (arith, nat_tests, h)

place_or_end : (text : List ℕ) (last : ℕ) → length text ≡ last → unwrap_or (position is_other_than_zero text) last ≡ position_or_len is_other_than_zero text
place_or_end text last long =
    let most = prefix_len-le-length (λ (o : ℕ). not (is_other_than_zero o)) text in
    elim (cases_Bool (ltb (position_or_len is_other_than_zero text) (length text))) [
      | inl within ↦ rw within refl
      | inr without ↦ let far = ltb-false _ _ without in rw without (omega (arith, long, most, far))
    ]

zeros_here : (front : List ℕ) (last count : ℕ) (found : Option ℕ) → length front ≡ last → found ≡ position is_other_than_zero front → count ≡ unwrap_or found last
    → count ≡ position_or_len is_other_than_zero front
zeros_here front last count found long place value = value ∙ ap (λ (o : Option ℕ). unwrap_or o last) place ∙ place_or_end front last long

pub zeros_within : (front : List ℕ) (last count : ℕ) (found : Option ℕ) → length front ≡ last → found ≡ position is_other_than_zero front → count ≡ unwrap_or found last
    → count ≤ last
zeros_within front last count found long place value =
    let far = prefix_len-le-length (λ (o : ℕ). not (is_other_than_zero o)) front in
    let here = zeros_here front last count found long place value in omega (arith, far, here, long)

-- the last octet stays
pub without_zeros_same : (low high : ℕ) (text front rest : List ℕ) (last count : ℕ) (found : Option ℕ) → last < length text → front ≡ take last text
    → found ≡ position is_other_than_zero front → count ≡ unwrap_or found last → rest ≡ drop count text → number_in low high rest ≡ number_in low high text
without_zeros_same low high text front rest last count found within is place value cut =
    let long : length front ≡ last = ap length is ∙ length-take-le last text (omega (arith, within)) in
    let here : count ≡ position_or_len is_other_than_zero front = zeros_here front last count found long place value in
    let most : count ≤ last = zeros_within front last count found long place value in
    ap (number_in low high) cut
    ∙ zeros_leave low high text count (omega (arith, most, within)) (
    λ k below.
    let same : get_or front k 0 ≡ get_or text k 0 = ap (λ (l : List ℕ). get_or l k 0) is ∙ get_or-take last text k 0 (omega (arith, below, most)) in
    sym same ∙ is_zero (get_or front k 0) (fails_before_first is_other_than_zero front k 0 (omega (arith, below, here)))
    )
