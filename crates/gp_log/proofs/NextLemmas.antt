-- What is next in a text: a field, a word, a number.
use Rattle.std.proofs.Common.{◌≡◌, ℕ, suc, ◌==◌, ◌≤◌, true, false, List, [], ◌∷◌, ◌++◌, length, Ok, refl, sym, ap, ◌∙◌, ◌⊎◌, inl, inr, arith, length-append}
use Rattle.std.proofs.lemmas.Bool.{cases_Bool, false≢true}
use Rattle.std.proofs.lemmas.Bool.Decides.{nat_tests}
use Rattle.std.proofs.lemmas.List.Elements.{All-head, All-tail, All-weaker}
use Rattle.std.proofs.lemmas.List.Sums.{AllPass-from_list_all}
use Rattle.std.specs.List.{list_all}
use Rattle.std.specs.Str.{bytes_eq}
use Rattle.gp_lines.proofs.NumberLemmas.{word_told}
use Rattle.gp_lines.proofs.ReadLemmas.{number_back}
use Rattle.gp_log.specs.declared.fault.LogFault.TheVariants as fault
use Rattle.gp_log.specs.Fields.{Field, before, «from», is_separator, is_of_field, trimmed, next, is_parted, is_nothing, number_or, number_in}
use Rattle.gp_log.specs.Usual.{NumberBegins}
use Rattle.gp_log.proofs.DigitLemmas.{AreOfField, before_field, from_field, numeral_of_field}

-- ---- a field

is_field : (octet : ℕ) → is_of_field octet ≡ true → is_separator octet ≡ false
is_field octet h = grind (arith, nat_tests, h)

of_field : (word : List ℕ) → list_all is_of_field word ≡ true → AreOfField word
of_field word h = All-weaker (λ o. is_of_field o ≡ true) (λ o. is_separator o ≡ false) is_field word (AllPass-from_list_all is_of_field word h)

-- behind separators stands nothing, or a field
trimmed_told : (text : List ℕ) → (trimmed text ≡ []) ⊎ ((octet : ℕ) × (rest : List ℕ) × (trimmed text ≡ octet ∷ rest) × (is_separator octet ≡ false))
unfolding trimmed
trimmed_told [] = inl refl
trimmed_told (octet ∷ text) =
    elim (cases_Bool (is_separator octet)) [
      | inl parts ↦ rw parts (trimmed_told text)
      | inr field ↦ inr (octet, text, rw field refl, field)
    ]

none_next : (text : List ℕ) → trimmed text ≡ [] → next text ≡ ([], [])
unfolding next
none_next text none = rw none refl

some_next : (text rest : List ℕ) (octet : ℕ) → trimmed text ≡ octet ∷ rest → is_separator octet ≡ false
    → next text ≡ (octet ∷ before is_separator rest, «from» is_separator rest)
unfolding next
some_next text rest octet is field = rw is (rw field refl)

not_none : (n : ℕ) → (suc n == 0) ≡ false
not_none n = grind (arith, nat_tests)

pub over_told : (text : List ℕ) → (length (trimmed text) == 0) ≡ is_nothing (next text).0
over_told text =
    elim (trimmed_told text) [
      | inl none ↦ ap (λ (t : List ℕ). length t == 0) none ∙ sym (ap (λ (f : Field). is_nothing f.0) (none_next text none))
      | inr some ↦ ap (λ (t : List ℕ). length t == 0) some.2 ∙ not_none (length some.1) ∙ sym (ap (λ (f : Field). is_nothing f.0) (some_next text some.1 some.0 some.2 some.3))
    ]

-- no field, and nothing behind it
pub over_next : (text : List ℕ) → is_nothing (next text).0 ≡ true → next text ≡ ([], [])
over_next text over =
    elim (trimmed_told text) [
      | inl none ↦ none_next text none
      | inr some ↦ absurd (false≢true (sym (ap (λ (f : Field). is_nothing f.0) (some_next text some.1 some.0 some.2 some.3)) ∙ over))
    ]

field_next : (text word rest : List ℕ) → trimmed text ≡ word ++ rest → AreOfField word → is_parted rest ≡ true → next text ≡ (word, rest)
unfolding next
field_next text word rest is all parted = rw is (rw (before_field word rest all parted, from_field word rest all parted) refl)

-- ---- a word

pub word_next : (text word rest : List ℕ) → trimmed text ≡ word ++ rest → list_all is_of_field word ≡ true → is_parted rest ≡ true → next text ≡ (word, rest)
word_next text word rest is all parted = field_next text word rest is (of_field word all) parted

joined : (text : List ℕ) → text ≡ before is_separator text ++ «from» is_separator text
joined [] = refl
joined (octet ∷ text) =
    elim (cases_Bool (is_separator octet)) [
      | inl parts ↦ rw parts refl
      | inr field ↦ rw field (ap (λ (t : List ℕ). octet ∷ t) (joined text))
    ]

-- the text doesn't begin with it
pub no_word : (text word : List ℕ) → ((rest : List ℕ) → trimmed text ≡ word ++ rest → ⊥) → bytes_eq (next text).0 word ≡ false
unfolding next
no_word text word none =
    elim (word_told (next text).0 word) [
      | inl same ↦
          absurd (none («from» is_separator (trimmed text)) (joined (trimmed text) ∙ ap (λ (w : List ℕ). w ++ «from» is_separator (trimmed text)) same))
      | inr other ↦ other.0
    ]

before_behind : (word rest : List ℕ) → AreOfField word → before is_separator (word ++ rest) ≡ word ++ before is_separator rest
before_behind [] rest all = refl
before_behind (octet ∷ word) rest all =
    rw (All-head (λ (o : ℕ). is_separator o ≡ false) octet word all)
    (ap (λ (t : List ℕ). octet ∷ t) (before_behind word rest (All-tail (λ (o : ℕ). is_separator o ≡ false) octet word all)))

longer : (word rest : List ℕ) (octet : ℕ) → word ++ (octet ∷ rest) ≡ word → ⊥
longer word rest octet same =
    let all = ap length same in
    let long = length-append word (octet ∷ rest) in
    omega (arith, all, long)

first_octets : (text word rest : List ℕ) → trimmed text ≡ word ++ rest → AreOfField word → (next text).0 ≡ word ++ before is_separator rest
unfolding next
first_octets text word rest is all = ap (before is_separator) is ∙ before_behind word rest all

-- the field goes on behind it
pub word_goes_on : (text word rest : List ℕ) → trimmed text ≡ word ++ rest → list_all is_of_field word ≡ true → is_parted rest ≡ false
    → bytes_eq (next text).0 word ≡ false
word_goes_on text word [] is all parted = absurd (false≢true (sym parted))
word_goes_on text word (octet ∷ rest) is all parted =
    elim (word_told (next text).0 word) [
      | inl same ↦
          absurd (longer word (before is_separator rest) octet (
          ap (λ (t : List ℕ). word ++ t) (sym (rw parted refl)) ∙ sym (first_octets text word (octet ∷ rest) is (of_field word all)) ∙ same
          ))
      | inr other ↦ other.0
    ]

-- ---- a number

pub number_field : (text rest : List ℕ) (number : ℕ) (n : NumberBegins (trimmed text) number rest) → is_parted rest ≡ true → next text ≡ (n.digits, rest)
number_field text rest number n parted = field_next text n.digits rest n.apart (numeral_of_field n.digits n.spelled.0) parted

pub number_taken : (text rest : List ℕ) (number greatest : ℕ) → NumberBegins (trimmed text) number rest → is_parted rest ≡ true → number ≤ greatest
    → (number_in fault.Number greatest (next text).0 ≡ Ok number) × ((next text).1 ≡ rest)
number_taken text rest number greatest n parted most =
    let field = number_field text rest number n parted in (
      ap (λ (f : Field). number_in fault.Number greatest f.0) field
          ∙ ap (number_or fault.Number) (number_back 0 greatest n.digits number n.spelled (omega arith) most),
      ap (λ (f : Field). f.1) field,
    )
