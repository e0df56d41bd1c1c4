-- Numbers and words of a line that asks for something.
use Rattle.std.proofs.Common.{◌≡◌, ℕ, ◌≤◌, false, List, [], ◌∷◌, Result, Ok, Err, refl, sym, ap, subst, ◌∙◌, ◌⊎◌, inl, inr}
use Rattle.std.proofs.lemmas.Bool.{cases_Bool, false≢true}
use Rattle.std.proofs.lemmas.Slice.Eq.{bytes_eq-Decides}
use Rattle.std.specs.Str.{bytes_eq}
use Rattle.gp_lines.specs.declared.fault.LineFault.{LineFault}
use Rattle.gp_lines.specs.declared.fault.LineFault.TheVariants as fault
use Rattle.gp_lines.specs.Spelling.{SpellsNumber}
use Rattle.gp_lines.specs.Fault.{HasNumberFault}
use Rattle.gp_lines.specs.TurnFault.{HaveOneFault}
use Rattle.gp_lines.specs.Reading.{number_in, one_of, two_of}
use Rattle.gp_lines.specs.TurnReading.{one_number}
use Rattle.gp_lines.proofs.ReadLemmas.{err_same, IsNumberRead, number_ok, number_back, number_err, number_none, number_over, number_under}
use Rattle.gp_lines.proofs.SpellingLemmas.{step_ok, one_ok}

-- a word is this text, or it isn't
pub word_told : (word text : List ℕ) → (word ≡ text) ⊎ ((bytes_eq word text ≡ false) × (word ≡ text → ⊥))
word_told word text =
    elim (cases_Bool (bytes_eq word text)) [
      | inl same ↦ inl ((bytes_eq-Decides word text).0 same)
      | inr other ↦ inr (other, λ is. false≢true (sym other ∙ (bytes_eq-Decides word text).1 is))
    ]

pub word_fault : {A : Type 0} (f : LineFault) → f ≡ fault.Word → ◌≡◌ {A = Result A LineFault} (Err fault.Word) (Err f)
word_fault f is = ap (λ (g : LineFault). Err g) (sym is)

-- ---- a number

pub outside_told : (low high : ℕ) (text : List ℕ) (f : LineFault) → number_in low high text ≡ Err f → HasNumberFault low high text f
outside_told low high text f h =
    elim (number_err low high text f h) [
      | inl none ↦ subst (HasNumberFault low high text) none.0 none.1
      | inr out ↦ subst (HasNumberFault low high text) out.0 (out.1, out.2)
    ]

pub outside_again : (low high : ℕ) (text : List ℕ) (f : LineFault) → HasNumberFault low high text f → number_in low high text ≡ Err f
outside_again low high text fault.Word h = absurd h
outside_again low high text fault.Number h = number_none low high text h
outside_again low high text fault.Serial h = absurd h
outside_again low high text fault.Hex h = absurd h
outside_again low high text fault.Range (is, inl under) = number_under low high text is under
outside_again low high text fault.Range (is, inr over) = number_over low high text is over
outside_again low high text fault.Long h = absurd h
outside_again low high text fault.Space h = absurd h

-- two parts are missing
pub two_missing : (parts : List (List ℕ)) (f : LineFault) → two_of parts ≡ Err f → ◌≡◌ {A = Result (List ℕ × List ℕ) LineFault} (Err fault.Word) (Err f)
two_missing [] f h = h
two_missing (first ∷ []) f h = h
two_missing (first ∷ second ∷ []) f h = cc h
two_missing (first ∷ second ∷ third ∷ others) f h = h

-- ---- a number that stands alone

abbrev pub IsOneRead : ℕ → ℕ → List (List ℕ) → ℕ → Type 0
IsOneRead low high parts number = (digits : List ℕ) × (parts ≡ digits ∷ []) × IsNumberRead low high digits number

pub one_number_ok : (low high : ℕ) (parts : List (List ℕ)) (number : ℕ) → one_number low high parts ≡ Ok number → IsOneRead low high parts number
unfolding one_number
one_number_ok low high parts number h =
    let digits = step_ok (one_of parts) _ number h in
    (digits.0, one_ok parts digits.0 digits.1, number_ok low high digits.0 number digits.2)

pub one_number_back : (low high : ℕ) (digits : List ℕ) (number : ℕ) → SpellsNumber digits number → low ≤ number → number ≤ high
    → one_number low high (digits ∷ []) ≡ Ok number
unfolding one_number
one_number_back low high digits number spelled from to = number_back low high digits number spelled from to

pub one_fault : (low high : ℕ) (parts : List (List ℕ)) (f : LineFault) → one_number low high parts ≡ Err f → HaveOneFault low high parts f
unfolding one_number
one_fault low high [] f h = inl (λ d e. cc e, sym (err_same fault.Word f h))
one_fault low high (digits ∷ []) f h = inr (digits, refl, outside_told low high digits f h)
one_fault low high (first ∷ second ∷ others) f h = inl (λ d e. cc e, sym (err_same fault.Word f h))

one_missing : (low high : ℕ) (parts : List (List ℕ)) (f : LineFault) → ((digits : List ℕ) → parts ≡ digits ∷ [] → ⊥) → f ≡ fault.Word
    → one_number low high parts ≡ Err f
unfolding one_number
one_missing low high [] f none is = word_fault f is
one_missing low high (digits ∷ []) f none is = absurd (none digits refl)
one_missing low high (first ∷ second ∷ others) f none is = word_fault f is

one_outside : (low high : ℕ) (digits : List ℕ) (f : LineFault) → HasNumberFault low high digits f → one_number low high (digits ∷ []) ≡ Err f
unfolding one_number
one_outside low high digits f wrong = outside_again low high digits f wrong

pub one_refused : (low high : ℕ) (parts : List (List ℕ)) (f : LineFault) → HaveOneFault low high parts f → one_number low high parts ≡ Err f
one_refused low high parts f (inl missing) = one_missing low high parts f missing.0 missing.1
one_refused low high parts f (inr wrong) = ap (one_number low high) wrong.1 ∙ one_outside low high wrong.0 f wrong.2
