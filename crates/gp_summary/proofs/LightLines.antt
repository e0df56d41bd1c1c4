-- A line of light is one line, and none of a trace.
use Rattle.std.proofs.Common.{◌≡◌, ℕ, zero, suc, ◌==◌, ◌/◌, ◌%◌, ◌&&◌, Bool, true, false, List, [], ◌∷◌, ◌++◌, codes, refl, sym, ap, subst, ◌∙◌, inl, inr, arith, append_assoc, nat_lt}
use Rattle.std.specs.Prelude.{decimal, not}
use Rattle.std.specs.Fmt.{digits, digit_glyph, digits_onto}
use Rattle.std.specs.List.{All, list_all}
use Rattle.std.proofs.lemmas.Bool.{cases_Bool}
use Rattle.std.proofs.lemmas.Bool.Decides.{nat_tests}
use Rattle.std.proofs.lemmas.List.Elements.{All-append, All-cons, All-head, All-nil, All-tail, All-weaker}
use Rattle.std.proofs.lemmas.List.Sums.{AllPass-from_list_all}
use Rattle.gp_ploam.specs.declared.check.Mask.{Mask}
use Rattle.gp_lines.specs.Trace.{is_equals, is_feed}
use Rattle.gp_replay.specs.Lights.{light_line, light_word}
use Rattle.gp_tally.specs.Ports.{CountsLine, IsNoLine}
use Rattle.gp_tally.specs.Tally.{PortTally}
use Rattle.gp_tally.specs.Text.{IsOneLine, fed}

-- ---- what stands in it

-- no `=`, and no line feed
abbrev is_inner : ℕ → Bool
is_inner octet = not (is_equals octet) && not (is_feed octet)

abbrev AreInner : List ℕ → Type 0
AreInner text = All (λ octet. is_inner octet ≡ true) text

glyph_inner : (d : ℕ) → is_inner (digit_glyph false d) ≡ true
glyph_inner d =
    elim (cases_Bool (nat_lt d 10)) [
      | inl low ↦ rw low (grind (arith, nat_tests, low))
      | inr high ↦ rw high (grind (arith, nat_tests, high))
    ]

onto_inner : (k n : ℕ) (behind : List ℕ) → AreInner behind → AreInner (digits_onto k 10 false n behind)
onto_inner zero n behind h = h
onto_inner (suc k) n behind h =
    let more = All-cons (λ (o : ℕ). is_inner o ≡ true) (digit_glyph false (n % 10)) behind (glyph_inner (n % 10)) h in
    elim (cases_Bool (n / 10 == 0)) [
      | inl last ↦ rw last more
      | inr others ↦ rw others (onto_inner k (n / 10) (digit_glyph false (n % 10) ∷ behind) more)
    ]

number_inner : (number : ℕ) → AreInner (decimal number)
unfolding digits
number_inner number = onto_inner 64 number [] (All-nil (λ (o : ℕ). is_inner o ≡ true))

both_inner : (first second : List ℕ) → AreInner first → AreInner second → AreInner (first ++ second)
both_inner first second one other = All-append (λ (o : ℕ). is_inner o ≡ true) first second one other

word_inner : (word : List ℕ) → list_all is_inner word ≡ true → AreInner word
word_inner word h = AllPass-from_list_all is_inner word h

-- ---- the line, without its line feed

abbrev light_end : Bool → List ℕ
light_end true = codes " light"
light_end false = codes " dark"

abbrev pub light_body : ℕ → Bool → List ℕ
light_body unit lit = codes "unit " ++ (decimal unit ++ light_end lit)

end_inner : (lit : Bool) → AreInner (light_end lit)
end_inner true = word_inner (codes " light") refl
end_inner false = word_inner (codes " dark") refl

body_inner : (unit : ℕ) (lit : Bool) → AreInner (light_body unit lit)
body_inner unit lit =
    both_inner (codes "unit ") (decimal unit ++ light_end lit) (word_inner (codes "unit ") refl)
    (both_inner (decimal unit) (light_end lit) (number_inner unit) (end_inner lit))

word_fed : (lit : Bool) → light_word lit ≡ light_end lit ++ 10 ∷ []
word_fed true = refl
word_fed false = refl

pub light_fed : (unit : ℕ) (lit : Bool) → light_line unit lit ≡ fed (light_body unit lit)
light_fed unit lit =
    ap (λ (l : List ℕ). codes "unit " ++ l)
    (ap (λ (l : List ℕ). decimal unit ++ l) (word_fed lit) ∙ sym (append_assoc (decimal unit) (light_end lit) (10 ∷ [])))

no_feed_in : (octet : ℕ) → is_inner octet ≡ true → is_feed octet ≡ false
no_feed_in octet h = grind (arith, nat_tests, h)

pub light_one : (unit : ℕ) (lit : Bool) → IsOneLine (light_body unit lit)
light_one unit lit =
    All-weaker (λ (o : ℕ). is_inner o ≡ true) (λ (o : ℕ). is_feed o ≡ false) no_feed_in (light_body unit lit) (body_inner unit lit)

-- ---- it is no line of a trace

behind_inner : (first second : List ℕ) → AreInner (first ++ second) → AreInner second
behind_inner [] second h = h
behind_inner (octet ∷ first) second h = behind_inner first second (All-tail (λ (o : ℕ). is_inner o ≡ true) octet (first ++ second) h)

no_equals : (answer : List ℕ) → AreInner (codes " = " ++ answer) → ⊥
no_equals answer h =
    let behind : AreInner (61 ∷ 32 ∷ answer) = All-tail (λ (o : ℕ). is_inner o ≡ true) 32 (61 ∷ 32 ∷ answer) h in
    let no : is_inner 61 ≡ true = All-head (λ (o : ℕ). is_inner o ≡ true) 61 (32 ∷ answer) behind in
    cc no

pub light_is_none : (unit : ℕ) (lit : Bool) → IsNoLine (light_body unit lit)
light_is_none unit lit port number event answer split =
    let here : AreInner (split.head ++ codes " = " ++ answer) = subst AreInner split.apart (body_inner unit lit) in
    no_equals answer (behind_inner split.head (codes " = " ++ answer) (subst AreInner (append_assoc split.head (codes " = ") answer) here))

-- it counts for nothing
pub light_counts : (mask : Mask) (unit : ℕ) (lit : Bool) (old new : List PortTally) → CountsLine mask (light_body unit lit) old new → new ≡ old
light_counts mask unit lit old new (inl it) =
    absurd (light_is_none unit lit it.port it.tells.number it.tells.event it.tells.answer it.tells.split)
light_counts mask unit lit old new (inr none) = none.1
