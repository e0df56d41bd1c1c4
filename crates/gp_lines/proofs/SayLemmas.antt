-- What a unit says, in the words of a line.
use Rattle.std.proofs.Common.{◌≡◌, ℕ, List, [], ◌∷◌, ◌++◌, Option, None, Some, Ok, Err, codes, refl, sym, ap, subst, ◌∙◌, ◌⊎◌, inl, inr, arith}
use Rattle.std.proofs.lemmas.Bool.{cases_Bool}
use Rattle.std.proofs.lemmas.Slice.Eq.{bytes_eq-Decides}
use Rattle.std.specs.Str.{bytes_eq}
use Rattle.std.specs.Str.Parse.{digits_value}
use Rattle.gp_ploam.specs.declared.check.Mask.{Mask}
use Rattle.gp_machine.specs.declared.event.Event.{Event}
use Rattle.gp_lines.specs.declared.fault.LineFault.{LineFault}
use Rattle.gp_lines.specs.declared.fault.LineFault.TheVariants as fault
use Rattle.gp_lines.specs.declared.say.OnuSaying.{OnuSaying}
use Rattle.gp_lines.specs.declared.say.OnuSaying.TheVariants as saying
use Rattle.gp_lines.specs.Parts.{parts_of}
use Rattle.gp_lines.specs.Reading.{number_in, serial_in}
use Rattle.gp_lines.specs.Fault.{IsSerial}
use Rattle.gp_lines.specs.Say.{SayForm, OfSerial, OfOnu, Ack, field_parts, saying_word, form_parts, SpellsField, SpellsForm}
use Rattle.gp_lines.specs.SayFault.{IsNumber, HasFieldFault, IsField, HasFormFault, HaveSayFault}
use Rattle.gp_lines.specs.SayReading.{named_of, onu_of, last_of, named_at, at_of, serial_fields, serial_form, onu_form, ack_form, worded_form, form_of, number_or, serial_said, onu_said, ack_said, said_of, form_said, say_event}
use Rattle.gp_lines.proofs.PartsLemmas.{parts_some}
use Rattle.gp_lines.proofs.ReadLemmas.{either, ok_same, err_same, number_ok, number_back, serial_ok, serial_back, serial_err, serial_none}
use Rattle.gp_lines.proofs.SpellingLemmas.{step_ok, joined}
use Rattle.gp_lines.proofs.FaultLemmas.{step_err}
use Rattle.gp_lines.proofs.NumberLemmas.{word_told, outside_told, outside_again}
use Rattle.gp_lines.proofs.GrantLemmas.{with_word}

-- ---- fields

named_ok : (word : List ℕ) (parts : List (List ℕ)) (named : List ℕ × List (List ℕ)) → named_of word parts ≡ Ok named → parts ≡ word ∷ named.0 ∷ named.1
named_ok word [] named h = cc h
named_ok word (first ∷ []) named h = cc h
named_ok word (first ∷ digits ∷ others) named h =
    elim (cases_Bool (bytes_eq first word)) [
      | inl same ↦
          joined first word (digits ∷ others) (named.0 ∷ named.1) ((bytes_eq-Decides first word).0 same)
          (ap (λ (n : List ℕ × List (List ℕ)). n.0 ∷ n.1) (ok_same (digits, others) named (rw same at h)))
      | inr other ↦ cc (rw other at h)
    ]

named_err : (word : List ℕ) (parts : List (List ℕ)) (f : LineFault) → named_of word parts ≡ Err f → fault.Word ≡ f
named_err word [] f h = err_same fault.Word f h
named_err word (first ∷ []) f h = err_same fault.Word f h
named_err word (first ∷ digits ∷ others) f h =
    elim (cases_Bool (bytes_eq first word)) [
      | inl same ↦ cc (rw same at h)
      | inr other ↦ err_same fault.Word f (rw other at h)
    ]

last_ok : (named : List ℕ × List (List ℕ)) (at : Option (List ℕ)) → last_of named ≡ Ok at → codes "at" ∷ named.0 ∷ named.1 ≡ field_parts (codes "at") at
last_ok (digits, []) at h = subst (λ (a : Option (List ℕ)). codes "at" ∷ digits ∷ [] ≡ field_parts (codes "at") a) (ok_same (Some digits) at h) refl
last_ok (digits, other ∷ others) at h = cc h

last_err : (named : List ℕ × List (List ℕ)) (f : LineFault) → last_of named ≡ Err f → fault.Word ≡ f
last_err (digits, []) f h = cc h
last_err (digits, other ∷ others) f h = err_same fault.Word f h

named_at_ok : (parts : List (List ℕ)) (at : Option (List ℕ)) → named_at parts ≡ Ok at → parts ≡ field_parts (codes "at") at
unfolding named_at
named_at_ok parts at h =
    let named = step_ok (named_of (codes "at") parts) _ at h in
    named_ok (codes "at") parts named.0 named.1 ∙ last_ok named.0 at named.2

named_at_err : (parts : List (List ℕ)) (f : LineFault) → named_at parts ≡ Err f → fault.Word ≡ f
unfolding named_at
named_at_err parts f h =
    elim (step_err (named_of (codes "at") parts) _ f h) [
      | inl wrong ↦ named_err (codes "at") parts f wrong
      | inr named ↦ last_err named.0 f named.2
    ]

named_at_back : (digits : List ℕ) → named_at (codes "at" ∷ digits ∷ []) ≡ Ok (Some digits)
unfolding named_at
named_at_back digits = refl

at_ok : (parts : List (List ℕ)) (at : Option (List ℕ)) → at_of parts ≡ Ok at → parts ≡ field_parts (codes "at") at
at_ok [] at h = subst (λ (a : Option (List ℕ)). [] ≡ field_parts (codes "at") a) (ok_same None at h) refl
at_ok (word ∷ others) at h = named_at_ok (word ∷ others) at h

at_err : (parts : List (List ℕ)) (f : LineFault) → at_of parts ≡ Err f → fault.Word ≡ f
at_err [] f h = cc h
at_err (word ∷ others) f h = named_at_err (word ∷ others) f h

at_back : (at : Option (List ℕ)) → at_of (field_parts (codes "at") at) ≡ Ok at
at_back None = refl
at_back (Some digits) = named_at_back digits

onu_ok : (parts : List (List ℕ)) → parts ≡ field_parts (codes "onu") (onu_of parts).0 ++ (onu_of parts).1
unfolding onu_of
onu_ok parts =
    elim (either (named_of (codes "onu") parts)) [
      | inl named ↦ rw named.1 (named_ok (codes "onu") parts named.0 named.1)
      | inr none ↦ rw none.1 refl
    ]

onu_back : (onu at : Option (List ℕ)) → onu_of (field_parts (codes "onu") onu ++ field_parts (codes "at") at) ≡ (onu, field_parts (codes "at") at)
unfolding onu_of
onu_back None None = refl
onu_back None (Some digits) = refl
onu_back (Some digits) at = refl

-- ---- the words

serial_form_ok : (behind : List (List ℕ)) (form : SayForm) → serial_form behind ≡ Ok form → codes "serial" ∷ behind ≡ form_parts form
unfolding serial_fields
serial_form_ok [] form h = cc h
serial_form_ok (serial ∷ rest) form h =
    let at = step_ok (at_of (onu_of rest).1) _ form h in
    subst (λ (f : SayForm). codes "serial" ∷ serial ∷ rest ≡ form_parts f) (ok_same _ form at.2)
    (ap (λ (ps : List (List ℕ)). codes "serial" ∷ serial ∷ ps)
    (onu_ok rest ∙ ap (λ (ps : List (List ℕ)). field_parts (codes "onu") (onu_of rest).0 ++ ps) (at_ok (onu_of rest).1 at.0 at.1)))

serial_form_err : (behind : List (List ℕ)) (f : LineFault) → serial_form behind ≡ Err f → fault.Word ≡ f
unfolding serial_fields
serial_form_err [] f h = err_same fault.Word f h
serial_form_err (serial ∷ rest) f h =
    elim (step_err (at_of (onu_of rest).1) _ f h) [
      | inl wrong ↦ at_err (onu_of rest).1 f wrong
      | inr at ↦ cc at.2
    ]

onu_form_ok : (says : OnuSaying) (behind : List (List ℕ)) (form : SayForm) → onu_form says behind ≡ Ok form → saying_word says ∷ behind ≡ form_parts form
unfolding onu_form
onu_form_ok says behind form h =
    let onu = step_ok (named_of (codes "onu") behind) _ form h in
    let at = step_ok (at_of onu.0.1) _ form onu.2 in
    subst (λ (f : SayForm). saying_word says ∷ behind ≡ form_parts f) (ok_same _ form at.2)
    (ap (λ (ps : List (List ℕ)). saying_word says ∷ ps)
    (named_ok (codes "onu") behind onu.0 onu.1 ∙ ap (λ (ps : List (List ℕ)). codes "onu" ∷ onu.0.0 ∷ ps) (at_ok onu.0.1 at.0 at.1)))

onu_form_err : (says : OnuSaying) (behind : List (List ℕ)) (f : LineFault) → onu_form says behind ≡ Err f → fault.Word ≡ f
unfolding onu_form
onu_form_err says behind f h =
    elim (step_err (named_of (codes "onu") behind) _ f h) [
      | inl wrong ↦ named_err (codes "onu") behind f wrong
      | inr onu ↦
          elim (step_err (at_of onu.0.1) _ f onu.2) [
            | inl wrong ↦ at_err onu.0.1 f wrong
            | inr at ↦ cc at.2
          ]
    ]

ack_form_ok : (behind : List (List ℕ)) (form : SayForm) → ack_form behind ≡ Ok form → codes "ack" ∷ behind ≡ form_parts form
unfolding ack_form
ack_form_ok behind form h =
    let onu = step_ok (named_of (codes "onu") behind) _ form h in
    let id = step_ok (named_of (codes "id") onu.0.1) _ form onu.2 in
    let at = step_ok (at_of id.0.1) _ form id.2 in
    subst (λ (f : SayForm). codes "ack" ∷ behind ≡ form_parts f) (ok_same _ form at.2)
    (ap (λ (ps : List (List ℕ)). codes "ack" ∷ ps)
    (named_ok (codes "onu") behind onu.0 onu.1 ∙ ap (λ (ps : List (List ℕ)). codes "onu" ∷ onu.0.0 ∷ ps)
    (named_ok (codes "id") onu.0.1 id.0 id.1 ∙ ap (λ (ps : List (List ℕ)). codes "id" ∷ id.0.0 ∷ ps) (at_ok id.0.1 at.0 at.1))))

ack_form_err : (behind : List (List ℕ)) (f : LineFault) → ack_form behind ≡ Err f → fault.Word ≡ f
unfolding ack_form
ack_form_err behind f h =
    elim (step_err (named_of (codes "onu") behind) _ f h) [
      | inl wrong ↦ named_err (codes "onu") behind f wrong
      | inr onu ↦
          elim (step_err (named_of (codes "id") onu.0.1) _ f onu.2) [
            | inl wrong ↦ named_err (codes "id") onu.0.1 f wrong
            | inr id ↦
                elim (step_err (at_of id.0.1) _ f id.2) [
                  | inl wrong ↦ at_err id.0.1 f wrong
                  | inr at ↦ cc at.2
                ]
          ]
    ]

-- by the first word
worded_told : (word : List ℕ) (behind : List (List ℕ))
    → ((word ≡ codes "serial") × (worded_form word behind ≡ serial_form behind))
    ⊎ ((says : OnuSaying) × (word ≡ saying_word says) × (worded_form word behind ≡ onu_form says behind))
    ⊎ ((word ≡ codes "ack") × (worded_form word behind ≡ ack_form behind))
    ⊎ (worded_form word behind ≡ Err fault.Word)
unfolding worded_form
worded_told word behind =
    elim (word_told word (codes "serial")) [
      | inl serial ↦ inl (serial, rw serial refl)
      | inr first ↦
          elim (word_told word (codes "gasp")) [
            | inl gasp ↦ inr (inl (saying.Gasp, gasp, rw gasp refl))
            | inr second ↦
                elim (word_told word (codes "none")) [
                  | inl none ↦ inr (inl (saying.Silence, none, rw none refl))
                  | inr third ↦
                      elim (word_told word (codes "ack")) [
                        | inl ack ↦ inr (inr (inl (ack, rw ack refl)))
                        | inr fourth ↦ inr (inr (inr (rw (first.0, second.0, third.0, fourth.0) refl)))
                      ]
                ]
          ]
    ]

form_ok : (parts : List (List ℕ)) (form : SayForm) → form_of parts ≡ Ok form → parts ≡ form_parts form
form_ok [] form h = cc h
form_ok (word ∷ behind) form h =
    elim (worded_told word behind) [
      | inl serial ↦ with_word word (codes "serial") behind serial.0 ∙ serial_form_ok behind form (sym serial.1 ∙ h)
      | inr (inl onu) ↦ with_word word (saying_word onu.0) behind onu.1 ∙ onu_form_ok onu.0 behind form (sym onu.2 ∙ h)
      | inr (inr (inl ack)) ↦ with_word word (codes "ack") behind ack.0 ∙ ack_form_ok behind form (sym ack.1 ∙ h)
      | inr (inr (inr other)) ↦ cc (sym other ∙ h)
    ]

form_err : (parts : List (List ℕ)) (f : LineFault) → form_of parts ≡ Err f → fault.Word ≡ f
form_err [] f h = err_same fault.Word f h
form_err (word ∷ behind) f h =
    elim (worded_told word behind) [
      | inl serial ↦ serial_form_err behind f (sym serial.1 ∙ h)
      | inr (inl onu) ↦ onu_form_err onu.0 behind f (sym onu.2 ∙ h)
      | inr (inr (inl ack)) ↦ ack_form_err behind f (sym ack.1 ∙ h)
      | inr (inr (inr other)) ↦ err_same fault.Word f (sym other ∙ h)
    ]

form_back : (form : SayForm) → form_of (form_parts form) ≡ Ok form
unfolding worded_form serial_fields onu_form ack_form
form_back (OfSerial serial onu at) = rw (onu_back onu at, at_back at) refl
form_back (OfOnu saying.Gasp onu at) = rw (at_back at) refl
form_back (OfOnu saying.Silence onu at) = rw (at_back at) refl
form_back (Ack onu id at) = rw (at_back at) refl

-- ---- numbers

or_ok : (meant high : ℕ) (digits : Option (List ℕ)) (number : ℕ) → number_or meant high digits ≡ Ok number → SpellsField meant high digits number
or_ok meant high None number h = sym (ok_same meant number h)
or_ok meant high (Some digits) number h = let read = number_ok 0 high digits number h in (read.0, read.2)

or_back : (meant high : ℕ) (digits : Option (List ℕ)) (number : ℕ) → SpellsField meant high digits number → number_or meant high digits ≡ Ok number
or_back meant high None number s = ap (λ (n : ℕ). Ok n) (sym s)
or_back meant high (Some digits) number s = number_back 0 high digits number s.0 (omega arith) s.1

or_wrong : (meant high : ℕ) (digits : Option (List ℕ)) (f : LineFault) → number_or meant high digits ≡ Err f → HasFieldFault high digits f
or_wrong meant high None f h = cc h
or_wrong meant high (Some digits) f h = outside_told 0 high digits f h

or_refused : (meant high : ℕ) (digits : Option (List ℕ)) (f : LineFault) → HasFieldFault high digits f → number_or meant high digits ≡ Err f
or_refused meant high None f h = absurd h
or_refused meant high (Some digits) f h = outside_again 0 high digits f h

is_right : (high : ℕ) (digits : List ℕ) (number : ℕ) → number_in 0 high digits ≡ Ok number → IsNumber high digits
is_right high digits number h = let read = number_ok 0 high digits number h in (read.0.0, omega (arith, read.0.1, read.2))

is_known : (high : ℕ) (digits : List ℕ) → IsNumber high digits → number_in 0 high digits ≡ Ok (digits_value 10 digits)
is_known high digits is = number_back 0 high digits (digits_value 10 digits) (is.0, refl) (omega arith) is.1

or_right : (meant high : ℕ) (digits : Option (List ℕ)) (number : ℕ) → number_or meant high digits ≡ Ok number → IsField high digits
or_right meant high None number h = tt
or_right meant high (Some digits) number h = is_right high digits number h

or_known : (meant high : ℕ) (digits : Option (List ℕ)) → IsField high digits → (number : ℕ) × (number_or meant high digits ≡ Ok number)
or_known meant high None is = (meant, refl)
or_known meant high (Some digits) is = (digits_value 10 digits, is_known high digits is)

-- ---- what is said

said_ok : (mask : Mask) (form : SayForm) (event : Event) → said_of mask form ≡ Ok event → SpellsForm mask form event
unfolding serial_said onu_said ack_said
said_ok mask (OfSerial text onu_text at_text) event h =
    let serial = step_ok (serial_in text) _ event h in
    let onu = step_ok (number_or 255 255 onu_text) _ event serial.2 in
    let at = step_ok (number_or 0 4294967295 at_text) _ event onu.2 in (
      serial.0,
      onu.0,
      at.0,
      serial_ok text serial.0 serial.1,
      or_ok 255 255 onu_text onu.0 onu.1,
      or_ok 0 4294967295 at_text at.0 at.1,
      sym (ok_same _ event at.2),
    )
said_ok mask (OfOnu says onu_text at_text) event h =
    let onu = step_ok (number_in 0 255 onu_text) _ event h in
    let at = step_ok (number_or 0 4294967295 at_text) _ event onu.2 in
    let read = number_ok 0 255 onu_text onu.0 onu.1 in
    (onu.0, at.0, (read.0, read.2), or_ok 0 4294967295 at_text at.0 at.1, sym (ok_same _ event at.2))
said_ok mask (Ack onu_text id_text at_text) event h =
    let onu = step_ok (number_in 0 255 onu_text) _ event h in
    let id = step_ok (number_in 0 255 id_text) _ event onu.2 in
    let at = step_ok (number_or 0 4294967295 at_text) _ event id.2 in
    let read = number_ok 0 255 onu_text onu.0 onu.1 in
    let known = number_ok 0 255 id_text id.0 id.1 in
    (onu.0, id.0, at.0, (read.0, read.2), (known.0, known.2), or_ok 0 4294967295 at_text at.0 at.1, sym (ok_same _ event at.2))

said_back : (mask : Mask) (form : SayForm) (event : Event) → SpellsForm mask form event → said_of mask form ≡ Ok event
unfolding serial_said onu_said ack_said
said_back mask (OfSerial text onu_text at_text) event (serial, onu, at, spelled, first, second, is) =
    rw (serial_back text serial spelled, or_back 255 255 onu_text onu first, or_back 0 4294967295 at_text at second) (ap (λ (e : Event). Ok e) (sym is))
said_back mask (OfOnu says onu_text at_text) event (onu, at, first, second, is) =
    rw (number_back 0 255 onu_text onu first.0 (omega arith) first.1, or_back 0 4294967295 at_text at second) (ap (λ (e : Event). Ok e) (sym is))
said_back mask (Ack onu_text id_text at_text) event (onu, id, at, first, second, third, is) =
    rw (number_back 0 255 onu_text onu first.0 (omega arith) first.1, number_back 0 255 id_text id second.0 (omega arith) second.1, or_back 0 4294967295 at_text at third)
    (ap (λ (e : Event). Ok e) (sym is))

said_err : (mask : Mask) (form : SayForm) (f : LineFault) → said_of mask form ≡ Err f → HasFormFault form f
unfolding serial_said onu_said ack_said
said_err mask (OfSerial text onu_text at_text) f h =
    elim (step_err (serial_in text) _ f h) [
      | inl wrong ↦ let told = serial_err text f wrong in inl (told.1, sym told.0)
      | inr serial ↦
          let is : IsSerial text = (serial.0, serial_ok text serial.0 serial.1) in
          elim (step_err (number_or 255 255 onu_text) _ f serial.2) [
            | inl wrong ↦ inr (inl (is, or_wrong 255 255 onu_text f wrong))
            | inr onu ↦
                elim (step_err (number_or 0 4294967295 at_text) _ f onu.2) [
                  | inl wrong ↦ inr (inr (is, or_right 255 255 onu_text onu.0 onu.1, or_wrong 0 4294967295 at_text f wrong))
                  | inr at ↦ cc at.2
                ]
          ]
    ]
said_err mask (OfOnu says onu_text at_text) f h =
    elim (step_err (number_in 0 255 onu_text) _ f h) [
      | inl wrong ↦ inl (outside_told 0 255 onu_text f wrong)
      | inr onu ↦
          elim (step_err (number_or 0 4294967295 at_text) _ f onu.2) [
            | inl wrong ↦ inr (is_right 255 onu_text onu.0 onu.1, or_wrong 0 4294967295 at_text f wrong)
            | inr at ↦ cc at.2
          ]
    ]
said_err mask (Ack onu_text id_text at_text) f h =
    elim (step_err (number_in 0 255 onu_text) _ f h) [
      | inl wrong ↦ inl (outside_told 0 255 onu_text f wrong)
      | inr onu ↦
          let first = is_right 255 onu_text onu.0 onu.1 in
          elim (step_err (number_in 0 255 id_text) _ f onu.2) [
            | inl wrong ↦ inr (inl (first, outside_told 0 255 id_text f wrong))
            | inr id ↦
                elim (step_err (number_or 0 4294967295 at_text) _ f id.2) [
                  | inl wrong ↦ inr (inr (first, is_right 255 id_text id.0 id.1, or_wrong 0 4294967295 at_text f wrong))
                  | inr at ↦ cc at.2
                ]
          ]
    ]

said_refused : (mask : Mask) (form : SayForm) (f : LineFault) → HasFormFault form f → said_of mask form ≡ Err f
unfolding serial_said onu_said ack_said
said_refused mask (OfSerial text onu_text at_text) f (inl (none, is)) = rw (serial_none text none) (ap (λ (g : LineFault). Err g) (sym is))
said_refused mask (OfSerial text onu_text at_text) f (inr (inl (is, wrong))) =
    rw (serial_back text is.0 is.1, or_refused 255 255 onu_text f wrong) refl
said_refused mask (OfSerial text onu_text at_text) f (inr (inr (is, right, wrong))) =
    rw (serial_back text is.0 is.1, (or_known 255 255 onu_text right).1, or_refused 0 4294967295 at_text f wrong) refl
said_refused mask (OfOnu says onu_text at_text) f (inl wrong) = rw (outside_again 0 255 onu_text f wrong) refl
said_refused mask (OfOnu says onu_text at_text) f (inr (right, wrong)) =
    rw (is_known 255 onu_text right, or_refused 0 4294967295 at_text f wrong) refl
said_refused mask (Ack onu_text id_text at_text) f (inl wrong) = rw (outside_again 0 255 onu_text f wrong) refl
said_refused mask (Ack onu_text id_text at_text) f (inr (inl (right, wrong))) =
    rw (is_known 255 onu_text right, outside_again 0 255 id_text f wrong) refl
said_refused mask (Ack onu_text id_text at_text) f (inr (inr (right, known, wrong))) =
    rw (is_known 255 onu_text right, is_known 255 id_text known, or_refused 0 4294967295 at_text f wrong) refl

-- ---- the parts behind `say`

pub say_ok : (mask : Mask) (parts : List (List ℕ)) (event : Event) → say_event mask parts ≡ Ok event
    → (form : SayForm) × (parts ≡ form_parts form) × SpellsForm mask form event
say_ok mask parts event h =
    elim (either (form_of parts)) [
      | inl form ↦ (form.0, form_ok parts form.0 form.1, said_ok mask form.0 event (rw form.1 at h))
      | inr wrong ↦ cc (rw wrong.1 at h)
    ]

pub say_back : (mask : Mask) (form : SayForm) (event : Event) → SpellsForm mask form event → say_event mask (form_parts form) ≡ Ok event
say_back mask form event s = ap (form_said mask) (form_back form) ∙ said_back mask form event s

no_form : (parts : List (List ℕ)) (f : LineFault) → form_of parts ≡ Err f → (form : SayForm) → parts ≡ form_parts form → ⊥
no_form parts f h form is = cc (sym h ∙ ap form_of is ∙ form_back form)

pub say_fault : (mask : Mask) (parts : List (List ℕ)) (f : LineFault) → say_event mask parts ≡ Err f → HaveSayFault parts f
say_fault mask parts f h =
    elim (either (form_of parts)) [
      | inl form ↦ inr (form.0, form_ok parts form.0 form.1, said_err mask form.0 f (rw form.1 at h))
      | inr wrong ↦ inl (no_form parts wrong.0 wrong.1, sym (form_err parts wrong.0 wrong.1 ∙ err_same wrong.0 f (rw wrong.1 at h)))
    ]

pub say_refused : (mask : Mask) (parts : List (List ℕ)) (f : LineFault) → HaveSayFault parts f → say_event mask parts ≡ Err f
say_refused mask parts f (inl (none, is)) =
    elim (either (form_of parts)) [
      | inl form ↦ absurd (none form.0 (form_ok parts form.0 form.1))
      | inr wrong ↦ ap (form_said mask) wrong.1 ∙ ap (λ (g : LineFault). Err g) (sym (form_err parts wrong.0 wrong.1) ∙ sym is)
    ]
say_refused mask parts f (inr (form, are, wrong)) =
    ap (say_event mask) are ∙ ap (form_said mask) (form_back form) ∙ said_refused mask form f wrong

-- ---- what the code reads

-- behind a space something stands
pub at_cut : (text : List ℕ) → at_of (parts_of text) ≡ named_at (parts_of text)
at_cut text = let some = parts_some text in ap at_of some.2 ∙ ap named_at (sym some.2)

pub last_more : (digits text : List ℕ) → last_of (digits, parts_of text) ≡ Err fault.Word
last_more digits text = let some = parts_some text in ap (λ (ps : List (List ℕ)). last_of (digits, ps)) some.2
