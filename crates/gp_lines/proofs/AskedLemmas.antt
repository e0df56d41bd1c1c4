-- Lines that ask for something.
use Rattle.std.proofs.Common.{◌≡◌, ℕ, ◌==◌, ◌<◌, ◌≤◌, Bool, true, false, List, [], ◌∷◌, ◌++◌, length, Result, Ok, Err, codes, refl, sym, ap, subst, ◌∙◌, ◌⊎◌, inl, inr, arith, if◌then◌else◌}
use Rattle.std.proofs.lemmas.Bool.{cases_Bool, cases_lt, false≢true, le-leb}
use Rattle.std.proofs.lemmas.Bool.Decides.{nat_tests, leb_tells}
use Rattle.std.specs.Str.Parse.{IsNumeral, digits_value}
use Rattle.gp_ploam.specs.declared.check.Mask.{Mask}
use Rattle.gp_lines.specs.declared.fault.LineFault.{LineFault}
use Rattle.gp_lines.specs.declared.fault.LineFault.TheVariants as fault
use Rattle.gp_lines.specs.declared.turn.Asked.{Asked}
use Rattle.gp_lines.specs.declared.turn.Asked.TheVariants as asked
use Rattle.gp_lines.specs.declared.word.UnitWord.{UnitWord}
use Rattle.gp_lines.specs.declared.word.UnitWord.TheVariants as words
use Rattle.gp_lines.specs.Parts.{parts_of, has_space_too_many}
use Rattle.gp_lines.specs.Spelling.{SpellsNumber}
use Rattle.gp_lines.specs.Turn.{without_return, is_remark, SpellsPort, SpellsUnitWord, SpellsAsked, SpellsTurn, asked_of_unit, light_word, unit_word}
use Rattle.gp_lines.specs.Fault.{HasNumberFault}
use Rattle.gp_lines.specs.TurnFault.{HasPortFault, AskOfUnit, HaveUnitFault, HaveTurnFault, HaveTextFault, HasTurnFault}
use Rattle.gp_lines.specs.Reading.{number_in, two_of}
use Rattle.gp_lines.specs.TurnReading.{behind_turn, port_turn, unit_word_of, unit_turn, begun_turn, turn_of_parts, spaced_turn, asked_of, turn_of}
use Rattle.gp_lines.proofs.PartsLemmas.{parts_some}
use Rattle.gp_lines.proofs.FieldLemmas.{own}
use Rattle.gp_lines.proofs.ReadLemmas.{ok_same, err_same, number_ok, number_back, number_none}
use Rattle.gp_lines.proofs.SpellingLemmas.{step_ok, two_ok}
use Rattle.gp_lines.proofs.FaultLemmas.{step_err}
use Rattle.gp_lines.proofs.NumberLemmas.{word_told, word_fault, outside_told, outside_again, one_number_back, two_missing}
use Rattle.gp_lines.proofs.GrantLemmas.{first_same, rest_same, with_word, grant_again}
use Rattle.gp_lines.proofs.TurnLemmas.{Behind, behind_read, behind_tell, frames_again, until_again, behind_fault, behind_refused}
use Rattle.gp_lines.proofs.SpaceLemmas.{tell_well, frames_well, until_well, port_well, light_well, show_well}

-- ---- a unit

none_of_these : (word : List ℕ) → (word ≡ codes "light" → ⊥) → (word ≡ codes "dark" → ⊥) → (word ≡ codes "show" → ⊥) → (asks : UnitWord) → word ≡ unit_word asks → ⊥
none_of_these word light dark show words.Light = light
none_of_these word light dark show words.Dark = dark
none_of_these word light dark show words.Show = show

asks_told : (word : List ℕ) → ((asks : UnitWord) × (word ≡ unit_word asks) × (unit_word_of word ≡ Ok asks)) ⊎ (((asks : UnitWord) → word ≡ unit_word asks → ⊥) × (unit_word_of word ≡ Err fault.Word))
unfolding unit_word_of
asks_told word =
    elim (word_told word (codes "light")) [
      | inl light ↦ inl (words.Light, light, rw light refl)
      | inr other ↦
          elim (word_told word (codes "dark")) [
            | inl dark ↦ inl (words.Dark, dark, rw dark refl)
            | inr neither ↦
                elim (word_told word (codes "show")) [
                  | inl show ↦ inl (words.Show, show, rw show refl)
                  | inr none ↦ inr (none_of_these word other.1 neither.1 none.1, rw (other.0, neither.0, none.0) refl)
                ]
          ]
    ]

unit_spelled : (mask : Mask) (text : List ℕ) (unit : ℕ) (asks : UnitWord) → SpellsUnitWord (parts_of text) unit (unit_word asks) → SpellsAsked mask text (asked_of_unit unit asks)
unit_spelled mask text unit words.Light s = s
unit_spelled mask text unit words.Dark s = s
unit_spelled mask text unit words.Show s = s

-- what is read of a unit
unit_read : (mask : Mask) (parts : List (List ℕ)) (x : Asked) (text : List ℕ) → parts_of text ≡ codes "unit" ∷ parts → unit_turn parts ≡ Ok x → SpellsAsked mask text x
unfolding unit_turn
unit_read mask parts x text is h =
    let fields = step_ok (two_of parts) _ x h in
    elim (asks_told fields.0.1) [
      | inl asks ↦
          let unit = step_ok (number_in 0 1023 fields.0.0) _ x (rw asks.2 at fields.2) in
          let read = number_ok 0 1023 fields.0.0 unit.0 unit.1 in
          let both = two_ok parts fields.0 fields.1 in
          subst (SpellsAsked mask text) (ok_same _ x unit.2)
          (unit_spelled mask text unit.0 asks.0
          (fields.0.0, is ∙ ap (λ (ps : List (List ℕ)). codes "unit" ∷ ps) (both ∙ ap (λ (w : List ℕ). fields.0.0 ∷ w ∷ []) asks.1), read.0, read.2))
      | inr none ↦ cc (rw none.1 at fields.2)
    ]

unit_again : (mask : Mask) (digits : List ℕ) (unit : ℕ) (asks : UnitWord) → number_in 0 1023 digits ≡ Ok unit
    → turn_of_parts mask (codes "unit" ∷ digits ∷ unit_word asks ∷ []) ≡ Ok (asked_of_unit unit asks)
unfolding begun_turn unit_turn unit_word_of
unit_again mask digits unit words.Light h = rw h refl
unit_again mask digits unit words.Dark h = rw h refl
unit_again mask digits unit words.Show h = rw h refl

light_again : (mask : Mask) (digits : List ℕ) (unit : ℕ) (lit : Bool) → number_in 0 1023 digits ≡ Ok unit
    → turn_of_parts mask (codes "unit" ∷ digits ∷ light_word lit ∷ []) ≡ Ok (asked.Light unit lit)
light_again mask digits unit true h = unit_again mask digits unit words.Light h
light_again mask digits unit false h = unit_again mask digits unit words.Dark h

no_unit : (parts : List (List ℕ)) (f : LineFault) → two_of parts ≡ Err f → (digits : List ℕ) → AskOfUnit parts digits → ⊥
no_unit parts f h digits are = cc (sym h ∙ ap two_of are.1)

unit_fault : (parts : List (List ℕ)) (f : LineFault) → unit_turn parts ≡ Err f → HaveUnitFault parts f
unfolding unit_turn
unit_fault parts f h =
    elim (step_err (two_of parts) _ f h) [
      | inl wrong ↦ inl (no_unit parts f wrong, sym (err_same fault.Word f (two_missing parts f wrong)))
      | inr fields ↦
          let both = two_ok parts fields.0 fields.1 in
          elim (asks_told fields.0.1) [
            | inl asks ↦
                elim (step_err (number_in 0 1023 fields.0.0) _ f (rw asks.2 at fields.2)) [
                  | inl wrong ↦
                      inr (fields.0.0, (asks.0, both ∙ ap (λ (w : List ℕ). fields.0.0 ∷ w ∷ []) asks.1), outside_told 0 1023 fields.0.0 f wrong)
                  | inr unit ↦ cc unit.2
                ]
            | inr none ↦
                inl (
                  λ digits are. none.0 are.0 (first_same fields.0.1 (unit_word are.0) [] [] (rest_same fields.0.0 digits (fields.0.1 ∷ []) (unit_word are.0 ∷ []) (sym both ∙ are.1))),
                  sym (err_same fault.Word f (rw none.1 at fields.2)),
                )
          ]
    ]

-- parts that ask nothing of a unit
unit_missing : (parts : List (List ℕ)) (f : LineFault) → ((digits : List ℕ) → AskOfUnit parts digits → ⊥) → f ≡ fault.Word → unit_turn parts ≡ Err f
unfolding unit_turn
unit_missing [] f none is = word_fault f is
unit_missing (first ∷ []) f none is = word_fault f is
unit_missing (first ∷ second ∷ []) f none is =
    elim (asks_told second) [
      | inl asks ↦ absurd (none first (asks.0, ap (λ (w : List ℕ). first ∷ w ∷ []) asks.1))
      | inr other ↦ rw other.1 (word_fault f is)
    ]
unit_missing (first ∷ second ∷ third ∷ others) f none is = word_fault f is

unit_outside : (digits : List ℕ) (asks : UnitWord) (f : LineFault) → HasNumberFault 0 1023 digits f → unit_turn (digits ∷ unit_word asks ∷ []) ≡ Err f
unfolding unit_turn unit_word_of
unit_outside digits words.Light f wrong = rw (outside_again 0 1023 digits f wrong) refl
unit_outside digits words.Dark f wrong = rw (outside_again 0 1023 digits f wrong) refl
unit_outside digits words.Show f wrong = rw (outside_again 0 1023 digits f wrong) refl

unit_refused : (parts : List (List ℕ)) (f : LineFault) → HaveUnitFault parts f → unit_turn parts ≡ Err f
unit_refused parts f (inl missing) = unit_missing parts f missing.0 missing.1
unit_refused parts f (inr (digits, are, wrong)) = ap unit_turn are.1 ∙ unit_outside digits are.0 f wrong

-- ---- a port

port_asked : (mask : Mask) (text digits : List ℕ) (others : List (List ℕ)) (port : ℕ) (x : Asked) → parts_of text ≡ digits ∷ others → SpellsNumber digits port → port ≤ 15
    → Behind mask others port x → SpellsAsked mask text x
port_asked mask text digits others port asked.Nothing is spelled within b = absurd b
port_asked mask text digits others port (asked.Event on event) is spelled within b =
    (others, subst (λ (p : ℕ). SpellsPort (parts_of text) p others) (sym b.0) (digits, is, spelled, within), b.1)
port_asked mask text digits others port (asked.Frames on count) is spelled within b =
    (b.1, subst (λ (p : ℕ). SpellsPort (parts_of text) p (codes "frame" ∷ b.1 ∷ [])) (sym b.0) (digits, is ∙ ap (λ (ps : List (List ℕ)). digits ∷ ps) b.2, spelled, within), b.3, b.4, b.5)
port_asked mask text digits others port (asked.Until on grant most) is spelled within b =
    let asks = codes "until" ∷ (b.1 ++ b.2) in
    (b.1, b.2, subst (λ (p : ℕ). SpellsPort (parts_of text) p asks) (sym b.0) (digits, is ∙ ap (λ (ps : List (List ℕ)). digits ∷ ps) b.3, spelled, within), b.4, b.5)
port_asked mask text digits others port (asked.Light unit lit) is spelled within b = absurd b
port_asked mask text digits others port (asked.ShowUnit unit) is spelled within b = absurd b

port_read : (mask : Mask) (text digits : List ℕ) (others : List (List ℕ)) (x : Asked) → parts_of text ≡ digits ∷ others → port_turn mask digits others ≡ Ok x → SpellsAsked mask text x
unfolding port_turn
port_read mask text digits others x is h =
    let port = step_ok (number_in 0 15 digits) _ x h in
    let read = number_ok 0 15 digits port.0 port.1 in
    port_asked mask text digits others port.0 x is read.0 read.2 (behind_read mask port.0 others x port.2)

-- a number is no word of a unit
unit_no_number : (port : ℕ) → number_in 0 15 (codes "unit") ≡ Ok port → ⊥
unfolding number_in
unit_no_number port h = cc h

begun_told : (mask : Mask) (first : List ℕ) (parts : List (List ℕ)) → ((first ≡ codes "unit") × (begun_turn mask first parts ≡ unit_turn parts))
    ⊎ ((first ≡ codes "unit" → ⊥) × (begun_turn mask first parts ≡ port_turn mask first parts))
unfolding begun_turn
begun_told mask first parts =
    elim (word_told first (codes "unit")) [
      | inl unit ↦ inl (unit, rw unit refl)
      | inr other ↦ inr (other.1, rw other.0 refl)
    ]

port_found : (mask : Mask) (digits : List ℕ) (others : List (List ℕ)) (port : ℕ) (x : Asked) → number_in 0 15 digits ≡ Ok port → behind_turn mask port others ≡ Ok x
    → port_turn mask digits others ≡ Ok x
unfolding port_turn
port_found mask digits others port x is h = rw is h

port_again : (mask : Mask) (digits : List ℕ) (others : List (List ℕ)) (port : ℕ) (x : Asked) → number_in 0 15 digits ≡ Ok port → behind_turn mask port others ≡ Ok x
    → turn_of_parts mask (digits ∷ others) ≡ Ok x
port_again mask digits [] port x is h = cc h
port_again mask digits (word ∷ others) port x is h =
    elim (begun_told mask digits (word ∷ others)) [
      | inl unit ↦ absurd (unit_no_number port (sym (ap (number_in 0 15) unit.0) ∙ is))
      | inr other ↦ other.1 ∙ port_found mask digits (word ∷ others) port x is h
    ]

spelled_again : (mask : Mask) (text : List ℕ) (others : List (List ℕ)) (port : ℕ) (x : Asked) → SpellsPort (parts_of text) port others → behind_turn mask port others ≡ Ok x
    → turn_of_parts mask (parts_of text) ≡ Ok x
spelled_again mask text others port x p h =
    ap (turn_of_parts mask) p.1 ∙ port_again mask p.0 others port x (number_back 0 15 p.0 port p.2 (omega arith) p.3) h

-- ---- texts

abbrev pub IsTurn : Asked → Type 0
IsTurn asked.Nothing = ⊥
IsTurn _ = Unit {0}

pub text_again : (mask : Mask) (text : List ℕ) (x : Asked) → IsTurn x → SpellsAsked mask text x → turn_of_parts mask (parts_of text) ≡ Ok x
text_again mask text asked.Nothing turn s = absurd turn
text_again mask text (asked.Event port event) turn s = spelled_again mask text s.0 port (asked.Event port event) s.1 (behind_tell mask port s.0 event s.2)
text_again mask text (asked.Frames port count) turn s =
    spelled_again mask text (codes "frame" ∷ s.0 ∷ []) port (asked.Frames port count) s.1 (frames_again mask port s.0 count (one_number_back 1 1000000 s.0 count s.2 s.3 s.4))
text_again mask text (asked.Until port grant most) turn s =
    spelled_again mask text (codes "until" ∷ (s.0 ++ s.1)) port (asked.Until port grant most) s.2
    (until_again mask port (s.0 ++ s.1) (asked.Until port grant most) (grant_again port s.0 s.1 grant most s.3 s.4))
text_again mask text (asked.Light unit lit) turn s = ap (turn_of_parts mask) s.1 ∙ light_again mask s.0 unit lit (number_back 0 1023 s.0 unit s.2 (omega arith) s.3)
text_again mask text (asked.ShowUnit unit) turn s = ap (turn_of_parts mask) s.1 ∙ unit_again mask s.0 unit words.Show (number_back 0 1023 s.0 unit s.2 (omega arith) s.3)

begun_read : (mask : Mask) (text first : List ℕ) (parts : List (List ℕ)) (x : Asked) → parts_of text ≡ first ∷ parts → begun_turn mask first parts ≡ Ok x → SpellsAsked mask text x
begun_read mask text first parts x is h =
    elim (begun_told mask first parts) [
      | inl unit ↦ unit_read mask parts x text (is ∙ with_word first (codes "unit") parts unit.0) (sym unit.1 ∙ h)
      | inr other ↦ port_read mask text first parts x is (sym other.1 ∙ h)
    ]

parts_read : (mask : Mask) (text : List ℕ) (parts : List (List ℕ)) (x : Asked) → parts_of text ≡ parts → turn_of_parts mask parts ≡ Ok x → SpellsAsked mask text x
parts_read mask text [] x is h = cc h
parts_read mask text (first ∷ []) x is h = cc h
parts_read mask text (first ∷ second ∷ others) x is h = begun_read mask text first (second ∷ others) x is h

-- ---- remarks

hash_no_number : (rest : List ℕ) → IsNumeral 10 (35 ∷ rest) → ⊥
hash_no_number rest is = false≢true (own.from (35 ∷ rest) is.1)

hash_refused : (mask : Mask) (rest : List ℕ) (others : List (List ℕ)) (x : Asked) → turn_of_parts mask ((35 ∷ rest) ∷ others) ≡ Ok x → ⊥
unfolding begun_turn port_turn
hash_refused mask rest [] x h = cc h
hash_refused mask rest (next ∷ others) x h = cc (rw (number_none 0 15 (35 ∷ rest) (hash_no_number rest)) at h)

hash_parts : (rest : List ℕ) → (first : List ℕ) × (others : List (List ℕ)) × (parts_of (35 ∷ rest) ≡ (35 ∷ first) ∷ others)
unfolding parts_of
hash_parts rest = let some = parts_some rest in (some.0, some.1, rw some.2 refl)

is_hash : (octet : ℕ) → (octet == 35) ≡ true → octet ≡ 35
is_hash octet h = grind (arith, nat_tests, h)

remark_refused : (mask : Mask) (text : List ℕ) (x : Asked) → is_remark text ≡ true → turn_of_parts mask (parts_of text) ≡ Ok x → ⊥
unfolding parts_of
remark_refused mask [] x remark h = cc h
remark_refused mask (octet ∷ rest) x remark h =
    let parts = hash_parts rest in
    hash_refused mask parts.0 parts.1 x (ap (turn_of_parts mask) (sym parts.2 ∙ ap (λ (o : ℕ). parts_of (o ∷ rest)) (sym (is_hash octet remark))) ∙ h)

-- ---- spaces

-- a turn has no space too many
well_spaced : (mask : Mask) (text : List ℕ) (x : Asked) → turn_of_parts mask (parts_of text) ≡ Ok x → SpellsAsked mask text x → has_space_too_many (parts_of text) ≡ false
well_spaced mask text asked.Nothing h s = absurd (remark_refused mask text asked.Nothing s h)
well_spaced mask text (asked.Event port event) h s = port_well (parts_of text) s.0 port s.1 (tell_well mask s.0 event s.2)
well_spaced mask text (asked.Frames port count) h s = port_well (parts_of text) (codes "frame" ∷ s.0 ∷ []) port s.1 (frames_well s.0 count s.2)
well_spaced mask text (asked.Until port grant most) h s =
    port_well (parts_of text) (codes "until" ∷ (s.0 ++ s.1)) port s.2 (until_well s.0 s.1 grant most s.3 s.4)
well_spaced mask text (asked.Light unit lit) h s = rw s.1 (light_well s.0 unit lit s.2)
well_spaced mask text (asked.ShowUnit unit) h s = rw s.1 (show_well s.0 unit s.2)

spaced_ok : (mask : Mask) (parts : List (List ℕ)) (x : Asked) → spaced_turn mask parts ≡ Ok x → turn_of_parts mask parts ≡ Ok x
unfolding spaced_turn
spaced_ok mask parts x h =
    elim (cases_Bool (has_space_too_many parts)) [
      | inl spaced ↦ cc (rw spaced at h)
      | inr none ↦ rw none at h
    ]

pub spaced_again : (mask : Mask) (text : List ℕ) (x : Asked) → turn_of_parts mask (parts_of text) ≡ Ok x → spaced_turn mask (parts_of text) ≡ Ok x
unfolding spaced_turn
spaced_again mask text x h = rw (well_spaced mask text x h (parts_read mask text (parts_of text) x refl h)) h

pub spaced_refusal : (mask : Mask) (parts : List (List ℕ)) (f : LineFault) → turn_of_parts mask parts ≡ Err f
    → spaced_turn mask parts ≡ Err (if has_space_too_many parts then fault.Space else f)
unfolding spaced_turn
spaced_refusal mask parts f h =
    elim (cases_Bool (has_space_too_many parts)) [
      | inl spaced ↦ rw spaced refl
      | inr none ↦ rw none h
    ]

remark_read : (mask : Mask) (text : List ℕ) (x : Asked) → is_remark text ≡ true → ◌≡◌ {A = Result Asked LineFault} (Ok asked.Nothing) (Ok x) → SpellsAsked mask text x
remark_read mask text x remark h = subst (SpellsAsked mask text) (ok_same asked.Nothing x h) remark

asked_read : (mask : Mask) (text : List ℕ) (x : Asked) → asked_of mask text ≡ Ok x → SpellsAsked mask text x
asked_read mask text x h =
    elim (cases_Bool (is_remark text)) [
      | inl remark ↦ remark_read mask text x remark (rw remark at h)
      | inr other ↦ parts_read mask text (parts_of text) x refl (spaced_ok mask (parts_of text) x (rw other at h))
    ]

turn_again : (mask : Mask) (text : List ℕ) (x : Asked) → IsTurn x → SpellsAsked mask text x → asked_of mask text ≡ Ok x
turn_again mask text x turn s =
    elim (cases_Bool (is_remark text)) [
      | inl remark ↦ absurd (remark_refused mask text x remark (text_again mask text x turn s))
      | inr other ↦ rw other (spaced_again mask text x (text_again mask text x turn s))
    ]

asked_again : (mask : Mask) (text : List ℕ) (x : Asked) → SpellsAsked mask text x → asked_of mask text ≡ Ok x
asked_again mask text asked.Nothing s = rw s refl
asked_again mask text (asked.Event port event) s = turn_again mask text (asked.Event port event) tt s
asked_again mask text (asked.Frames port count) s = turn_again mask text (asked.Frames port count) tt s
asked_again mask text (asked.Until port grant most) s = turn_again mask text (asked.Until port grant most) tt s
asked_again mask text (asked.Light unit lit) s = turn_again mask text (asked.Light unit lit) tt s
asked_again mask text (asked.ShowUnit unit) s = turn_again mask text (asked.ShowUnit unit) tt s

-- ---- faults

port_fault : (mask : Mask) (digits : List ℕ) (others : List (List ℕ)) (f : LineFault) → port_turn mask digits others ≡ Err f → HasPortFault digits others f
unfolding port_turn
port_fault mask digits others f h =
    elim (step_err (number_in 0 15 digits) _ f h) [
      | inl wrong ↦ inl (outside_told 0 15 digits f wrong)
      | inr port ↦
          let read = number_ok 0 15 digits port.0 port.1 in
          inr ((read.0.0, omega (arith, read.0.1, read.2)), behind_fault mask port.0 others f port.2)
    ]

port_refused : (mask : Mask) (digits : List ℕ) (others : List (List ℕ)) (f : LineFault) → HasPortFault digits others f → port_turn mask digits others ≡ Err f
unfolding port_turn
port_refused mask digits others f (inl wrong) = rw (outside_again 0 15 digits f wrong) refl
port_refused mask digits others f (inr (port, wrong)) =
    let read = number_back 0 15 digits (digits_value 10 digits) (port.0, refl) (omega arith) port.1 in
    let refused : behind_turn mask (digits_value 10 digits) others ≡ Err f = behind_refused mask (digits_value 10 digits) others f wrong in
    rw read refused

parts_fault : (mask : Mask) (parts : List (List ℕ)) (f : LineFault) → (parts ≡ [] → ⊥) → turn_of_parts mask parts ≡ Err f → HaveTurnFault parts f
parts_fault mask [] f some h = absurd (some refl)
parts_fault mask (part ∷ []) f some h = inl (part, refl, sym (err_same fault.Word f h))
parts_fault mask (first ∷ second ∷ others) f some h =
    elim (begun_told mask first (second ∷ others)) [
      | inl unit ↦ inr (first, second, others, refl, inl (unit.0, unit_fault (second ∷ others) f (sym unit.1 ∙ h)))
      | inr other ↦ inr (first, second, others, refl, inr (other.0, port_fault mask first (second ∷ others) f (sym other.1 ∙ h)))
    ]

begun_refused : (mask : Mask) (first second : List ℕ) (others : List (List ℕ)) (f : LineFault)
    → ((first ≡ codes "unit") × HaveUnitFault (second ∷ others) f) ⊎ ((first ≡ codes "unit" → ⊥) × HasPortFault first (second ∷ others) f)
    → turn_of_parts mask (first ∷ second ∷ others) ≡ Err f
begun_refused mask first second others f (inl unit) =
    elim (begun_told mask first (second ∷ others)) [
      | inl is ↦ is.1 ∙ unit_refused (second ∷ others) f unit.1
      | inr other ↦ absurd (other.0 unit.0)
    ]
begun_refused mask first second others f (inr port) =
    elim (begun_told mask first (second ∷ others)) [
      | inl is ↦ absurd (port.0 is.0)
      | inr other ↦ other.1 ∙ port_refused mask first (second ∷ others) f port.1
    ]

parts_refused : (mask : Mask) (parts : List (List ℕ)) (f : LineFault) → HaveTurnFault parts f → turn_of_parts mask parts ≡ Err f
parts_refused mask parts f (inl (part, is, word)) = ap (turn_of_parts mask) is ∙ word_fault f word
parts_refused mask parts f (inr (first, second, others, is, wrong)) = ap (turn_of_parts mask) is ∙ begun_refused mask first second others f wrong

spaced_fault : (mask : Mask) (parts : List (List ℕ)) (f : LineFault) → (parts ≡ [] → ⊥) → spaced_turn mask parts ≡ Err f → HaveTextFault parts f
unfolding spaced_turn
spaced_fault mask parts f some h =
    elim (cases_Bool (has_space_too_many parts)) [
      | inl spaced ↦ inl (spaced, sym (err_same fault.Space f (rw spaced at h)))
      | inr none ↦ inr (none, parts_fault mask parts f some (rw none at h))
    ]

spaced_refused : (mask : Mask) (parts : List (List ℕ)) (f : LineFault) → HaveTextFault parts f → spaced_turn mask parts ≡ Err f
unfolding spaced_turn
spaced_refused mask parts f (inl (spaced, is)) = rw spaced (ap (λ (g : LineFault). Err g) (sym is))
spaced_refused mask parts f (inr (none, wrong)) = rw none (parts_refused mask parts f wrong)

some_parts : (text : List ℕ) → parts_of text ≡ [] → ⊥
some_parts text none = let some = parts_some text in cc (sym none ∙ some.2)

asked_fault : (mask : Mask) (text : List ℕ) (f : LineFault) → asked_of mask text ≡ Err f → (is_remark text ≡ false) × HaveTextFault (parts_of text) f
asked_fault mask text f h =
    elim (cases_Bool (is_remark text)) [
      | inl remark ↦ cc (rw remark at h)
      | inr other ↦ (other, spaced_fault mask (parts_of text) f (some_parts text) (rw other at h))
    ]

-- ---- lines

within_line : (mask : Mask) (line : List ℕ) → length line ≤ 4096 → turn_of mask line ≡ asked_of mask (without_return line)
within_line mask line within = rw (le-leb (length line) 4096 within) refl

too_long : (mask : Mask) (line : List ℕ) → 4096 < length line → turn_of mask line ≡ Err fault.Long
too_long mask line over =
    elim (leb_tells (length line) 4096) [
      | inl within ↦ absurd (omega (arith, over, within.1))
      | inr out ↦ rw out.0 refl
    ]

pub turn_read : (mask : Mask) (line : List ℕ) (x : Asked) → turn_of mask line ≡ Ok x → SpellsTurn mask line x
turn_read mask line x h =
    elim (cases_lt 4096 (length line)) [
      | inl over ↦ cc (sym (too_long mask line over) ∙ h)
      | inr within ↦ (within, asked_read mask (without_return line) x (sym (within_line mask line within) ∙ h))
    ]

pub turn_back : (mask : Mask) (line : List ℕ) (x : Asked) → SpellsTurn mask line x → turn_of mask line ≡ Ok x
turn_back mask line x s = within_line mask line s.0 ∙ asked_again mask (without_return line) x s.1

pub one_turn : (mask : Mask) (line : List ℕ) (first second : Asked) → SpellsTurn mask line first → SpellsTurn mask line second → first ≡ second
one_turn mask line first second one other = ok_same first second (sym (turn_back mask line first one) ∙ turn_back mask line second other)

pub turn_fault : (mask : Mask) (line : List ℕ) (f : LineFault) → turn_of mask line ≡ Err f → HasTurnFault line f
turn_fault mask line f h =
    elim (cases_lt 4096 (length line)) [
      | inl over ↦ inl (over, sym (err_same fault.Long f (sym (too_long mask line over) ∙ h)))
      | inr within ↦
          let wrong = asked_fault mask (without_return line) f (sym (within_line mask line within) ∙ h) in
          inr (within, wrong.0, wrong.1)
    ]

text_refused : (mask : Mask) (text : List ℕ) (f : LineFault) → is_remark text ≡ false → HaveTextFault (parts_of text) f → asked_of mask text ≡ Err f
text_refused mask text f other wrong = rw other (spaced_refused mask (parts_of text) f wrong)

pub turn_refused : (mask : Mask) (line : List ℕ) (f : LineFault) → HasTurnFault line f → turn_of mask line ≡ Err f
turn_refused mask line f (inl (over, is)) = too_long mask line over ∙ ap (λ (g : LineFault). Err g) (sym is)
turn_refused mask line f (inr (within, other, wrong)) = within_line mask line within ∙ text_refused mask (without_return line) f other wrong

-- ---- what the code reads

pub turn_cut : (mask : Mask) (text first rest : List ℕ) → parts_of text ≡ first ∷ parts_of rest → turn_of_parts mask (parts_of text) ≡ begun_turn mask first (parts_of rest)
turn_cut mask text first rest apart =
    let behind = parts_some rest in
    ap (turn_of_parts mask) apart ∙ ap (λ (parts : List (List ℕ)). turn_of_parts mask (first ∷ parts)) behind.2 ∙ ap (begun_turn mask first) (sym behind.2)

-- a carriage return at the end is dropped
pub return_dropped : (text : List ℕ) → without_return (text ++ codes "\r") ≡ text
return_dropped [] = refl
return_dropped (octet ∷ []) = refl
return_dropped (octet ∷ next ∷ rest) = ap (λ (t : List ℕ). octet ∷ t) (return_dropped (next ∷ rest))

is_return : (octet : ℕ) → (octet == 13) ≡ true → octet ∷ [] ≡ [] ++ codes "\r"
is_return octet h = let same : octet ≡ 13 = grind (arith, nat_tests, h) in ap (λ (o : ℕ). o ∷ []) same

-- with none there, nothing is
pub return_kept : (text : List ℕ) → ((front : List ℕ) → text ≡ front ++ codes "\r" → ⊥) → without_return text ≡ text
return_kept [] none = refl
return_kept (octet ∷ []) none =
    elim (cases_Bool (octet == 13)) [
      | inl same ↦ absurd (none [] (is_return octet same))
      | inr other ↦ rw other refl
    ]
return_kept (octet ∷ next ∷ rest) none =
    ap (λ (t : List ℕ). octet ∷ t) (return_kept (next ∷ rest) (λ front e. none (octet ∷ front) (ap (λ (t : List ℕ). octet ∷ t) e)))
