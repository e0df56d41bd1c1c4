-- What a port is asked for.
use Rattle.std.proofs.Common.{◌≡◌, ℕ, ◌≤◌, true, false, List, [], ◌∷◌, ◌++◌, Ok, Err, codes, refl, sym, ap, subst, ◌∙◌, ◌⊎◌, inl, inr}
use Rattle.std.specs.Str.{bytes_eq}
use Rattle.gp_machine.specs.declared.event.Event.{Event}
use Rattle.gp_ploam.specs.declared.check.Mask.{Mask}
use Rattle.gp_lines.specs.declared.fault.LineFault.{LineFault}
use Rattle.gp_lines.specs.declared.fault.LineFault.TheVariants as fault
use Rattle.gp_lines.specs.declared.turn.Asked.{Asked}
use Rattle.gp_lines.specs.declared.turn.Asked.TheVariants as asked
use Rattle.gp_lines.specs.Parts.{parts_of}
use Rattle.gp_lines.specs.Words.{event_word}
use Rattle.gp_lines.specs.Spelling.{SpellsNumber}
use Rattle.gp_lines.specs.Fault.{HavePartsFault}
use Rattle.gp_lines.specs.Turn.{SpellsGrant, SpellsBound, TellEvent}
use Rattle.gp_lines.specs.Say.{form_parts}
use Rattle.gp_lines.specs.SayFault.{HaveSayFault}
use Rattle.gp_lines.specs.SayReading.{say_event}
use Rattle.gp_lines.specs.TurnFault.{HaveOneFault, HaveGrantFault, AreOfFrames, AreOfUntil, AreOfSay, HaveBehindFault}
use Rattle.gp_lines.specs.Reading.{event_of_parts}
use Rattle.gp_lines.specs.TurnReading.{one_number, frames_turn, until_turn, event_turn, say_turn, worded_turn, behind_turn}
use Rattle.gp_lines.proofs.PartsLemmas.{parts_some}
use Rattle.gp_lines.proofs.ReadLemmas.{ok_same, err_same}
use Rattle.gp_lines.proofs.SpellingLemmas.{step_ok, joined, parts_read, parts_again}
use Rattle.gp_lines.proofs.SayLemmas.{say_ok, say_back, say_fault, say_refused}
use Rattle.gp_lines.proofs.FaultLemmas.{step_err, parts_fault, fault_again}
use Rattle.gp_lines.proofs.NumberLemmas.{word_told, word_fault, one_number_ok, one_fault, one_refused}
use Rattle.gp_lines.proofs.GrantLemmas.{first_same, rest_same, with_word, grant_read, nothing_fault, grant_fault, grant_refused}

-- what the parts behind a port ask for
abbrev pub Behind : Mask → List (List ℕ) → ℕ → Asked → Type 0
Behind mask parts port (asked.Event at event) = (at ≡ port) × TellEvent mask parts event
Behind mask parts port (asked.Frames at count) =
    (at ≡ port) × (digits : List ℕ) × (parts ≡ codes "frame" ∷ digits ∷ []) × SpellsNumber digits count × (1 ≤ count) × (count ≤ 1000000)
Behind mask parts port (asked.Until at grant most) =
    (at ≡ port) × (named behind : List (List ℕ)) × (parts ≡ codes "until" ∷ (named ++ behind)) × SpellsGrant named grant × SpellsBound behind most
Behind mask parts port _ = ⊥

abbrev IsOtherWord : List ℕ → Type 0
IsOtherWord word = (word ≡ codes "frame" → ⊥) × (word ≡ codes "until" → ⊥) × (word ≡ codes "say" → ⊥)

-- the first word behind a port
behind_told : (mask : Mask) (port : ℕ) (word next : List ℕ) (others : List (List ℕ))
    → ((word ≡ codes "frame") × (behind_turn mask port (word ∷ next ∷ others) ≡ frames_turn port (next ∷ others)))
    ⊎ ((word ≡ codes "until") × (behind_turn mask port (word ∷ next ∷ others) ≡ until_turn port (next ∷ others)))
    ⊎ ((word ≡ codes "say") × (behind_turn mask port (word ∷ next ∷ others) ≡ say_turn mask port (next ∷ others)))
    ⊎ (IsOtherWord word × (behind_turn mask port (word ∷ next ∷ others) ≡ event_turn port (word ∷ next ∷ others)))
unfolding worded_turn
behind_told mask port word next others =
    elim (word_told word (codes "frame")) [
      | inl frame ↦ inl (frame, rw frame refl)
      | inr other ↦
          elim (word_told word (codes "until")) [
            | inl until ↦ inr (inl (until, rw until refl))
            | inr neither ↦
                elim (word_told word (codes "say")) [
                  | inl say ↦ inr (inr (inl (say, rw say refl)))
                  | inr none ↦ inr (inr (inr ((other.1, neither.1, none.1), rw (other.0, neither.0, none.0) refl)))
                ]
          ]
    ]

-- ---- what is read is spelled so

event_read : (mask : Mask) (port : ℕ) (parts : List (List ℕ)) (x : Asked) → event_turn port parts ≡ Ok x → Behind mask parts port x
unfolding event_turn
event_read mask port parts x h =
    let event = step_ok (event_of_parts parts) _ x h in
    subst (Behind mask parts port) (ok_same _ x event.2) (refl, inl (parts_read parts event.0 event.1))

frames_read : (mask : Mask) (port : ℕ) (word : List ℕ) (parts : List (List ℕ)) (x : Asked) → word ≡ codes "frame" → frames_turn port parts ≡ Ok x → Behind mask (word ∷ parts) port x
unfolding frames_turn
frames_read mask port word parts x is h =
    let count = step_ok (one_number 1 1000000 parts) _ x h in
    let read = one_number_ok 1 1000000 parts count.0 count.1 in
    subst (Behind mask (word ∷ parts) port) (ok_same _ x count.2)
    (refl, read.0, joined word (codes "frame") parts _ is read.1, read.2.0, read.2.1, read.2.2)

until_read : (mask : Mask) (port : ℕ) (word : List ℕ) (parts : List (List ℕ)) (x : Asked) → word ≡ codes "until" → until_turn port parts ≡ Ok x → Behind mask (word ∷ parts) port x
until_read mask port word parts x is h =
    let u = grant_read port parts x h in
    subst (Behind mask (word ∷ parts) port) u.asked_is (refl, u.named, u.behind, joined word (codes "until") parts (u.named ++ u.behind) is u.parts_are, u.spelled, u.bound)

say_read : (mask : Mask) (port : ℕ) (word : List ℕ) (parts : List (List ℕ)) (x : Asked) → word ≡ codes "say" → say_turn mask port parts ≡ Ok x → Behind mask (word ∷ parts) port x
unfolding say_turn
say_read mask port word parts x is h =
    let event = step_ok (say_event mask parts) _ x h in
    let read = say_ok mask parts event.0 event.1 in
    subst (Behind mask (word ∷ parts) port) (ok_same _ x event.2)
    (refl, inr (read.0, joined word (codes "say") parts _ is read.1, read.2))

pub behind_read : (mask : Mask) (port : ℕ) (parts : List (List ℕ)) (x : Asked) → behind_turn mask port parts ≡ Ok x → Behind mask parts port x
behind_read mask port [] x h = cc h
behind_read mask port (word ∷ []) x h = event_read mask port (word ∷ []) x h
behind_read mask port (word ∷ next ∷ others) x h =
    elim (behind_told mask port word next others) [
      | inl frame ↦ frames_read mask port word (next ∷ others) x frame.0 (sym frame.1 ∙ h)
      | inr (inl until) ↦ until_read mask port word (next ∷ others) x until.0 (sym until.1 ∙ h)
      | inr (inr (inl say)) ↦ say_read mask port word (next ∷ others) x say.0 (sym say.1 ∙ h)
      | inr (inr (inr other)) ↦ event_read mask port (word ∷ next ∷ others) x (sym other.1 ∙ h)
    ]

-- ---- what is spelled so is read

frame_alone : (next : List ℕ) (others : List (List ℕ)) → event_of_parts (codes "frame" ∷ next ∷ others) ≡ Err fault.Word
unfolding event_word
frame_alone next others = refl

no_until : (others : List (List ℕ)) → event_of_parts (codes "until" ∷ others) ≡ Err fault.Word
unfolding event_word
no_until others = refl

no_say : (others : List (List ℕ)) → event_of_parts (codes "say" ∷ others) ≡ Err fault.Word
unfolding event_word
no_say others = refl

event_again : (port : ℕ) (parts : List (List ℕ)) (event : Event) → event_of_parts parts ≡ Ok event → event_turn port parts ≡ Ok (asked.Event port event)
unfolding event_turn
event_again port parts event h = rw h refl

behind_event : (mask : Mask) (port : ℕ) (parts : List (List ℕ)) (event : Event) → event_of_parts parts ≡ Ok event → behind_turn mask port parts ≡ Ok (asked.Event port event)
behind_event mask port [] event h = cc h
behind_event mask port (word ∷ []) event h = event_again port (word ∷ []) event h
behind_event mask port (word ∷ next ∷ others) event h =
    elim (behind_told mask port word next others) [
      | inl frame ↦ cc (sym h ∙ ap event_of_parts (with_word word (codes "frame") (next ∷ others) frame.0) ∙ frame_alone next others)
      | inr (inl until) ↦ cc (sym h ∙ ap event_of_parts (with_word word (codes "until") (next ∷ others) until.0) ∙ no_until (next ∷ others))
      | inr (inr (inl say)) ↦ cc (sym h ∙ ap event_of_parts (with_word word (codes "say") (next ∷ others) say.0) ∙ no_say (next ∷ others))
      | inr (inr (inr other)) ↦ other.1 ∙ event_again port (word ∷ next ∷ others) event h
    ]

say_again : (mask : Mask) (port : ℕ) (parts : List (List ℕ)) (event : Event) → say_event mask parts ≡ Ok event
    → behind_turn mask port (codes "say" ∷ parts) ≡ Ok (asked.Event port event)
unfolding worded_turn say_turn
say_again mask port [] event h = cc h
say_again mask port (next ∷ others) event h = rw h refl

-- however the event is told
pub behind_tell : (mask : Mask) (port : ℕ) (parts : List (List ℕ)) (event : Event) → TellEvent mask parts event → behind_turn mask port parts ≡ Ok (asked.Event port event)
behind_tell mask port parts event (inl told) = behind_event mask port parts event (parts_again parts event told)
behind_tell mask port parts event (inr (form, are, said)) =
    ap (behind_turn mask port) are ∙ say_again mask port (form_parts form) event (say_back mask form event said)

pub frames_again : (mask : Mask) (port : ℕ) (digits : List ℕ) (count : ℕ) → one_number 1 1000000 (digits ∷ []) ≡ Ok count
    → behind_turn mask port (codes "frame" ∷ digits ∷ []) ≡ Ok (asked.Frames port count)
unfolding worded_turn frames_turn
frames_again mask port digits count h = rw h refl

pub until_again : (mask : Mask) (port : ℕ) (parts : List (List ℕ)) (x : Asked) → until_turn port parts ≡ Ok x
    → behind_turn mask port (codes "until" ∷ parts) ≡ Ok x
unfolding worded_turn
until_again mask port [] x h = cc h
until_again mask port (next ∷ others) x h = h

-- ---- faults

event_fault : (port : ℕ) (parts : List (List ℕ)) (f : LineFault) → event_turn port parts ≡ Err f → HavePartsFault parts f
unfolding event_turn
event_fault port parts f h =
    elim (step_err (event_of_parts parts) _ f h) [
      | inl wrong ↦ parts_fault parts f wrong
      | inr event ↦ cc event.2
    ]

frames_fault : (port : ℕ) (parts : List (List ℕ)) (f : LineFault) → frames_turn port parts ≡ Err f → HaveOneFault 1 1000000 parts f
unfolding frames_turn
frames_fault port parts f h =
    elim (step_err (one_number 1 1000000 parts) _ f h) [
      | inl wrong ↦ one_fault 1 1000000 parts f wrong
      | inr count ↦ cc count.2
    ]

no_frames : (word : List ℕ) (parts others : List (List ℕ)) → (word ≡ codes "frame" → ⊥) → AreOfFrames (word ∷ parts) others → ⊥
no_frames word parts others none are = none (first_same word (codes "frame") parts others are.3)

alone_no_frames : (word : List ℕ) (others : List (List ℕ)) → AreOfFrames (word ∷ []) others → ⊥
alone_no_frames word others are = cc (rest_same word (codes "frame") [] others are.3 ∙ are.2)

say_fault_told : (mask : Mask) (port : ℕ) (parts : List (List ℕ)) (f : LineFault) → say_turn mask port parts ≡ Err f → HaveSayFault parts f
unfolding say_turn
say_fault_told mask port parts f h =
    elim (step_err (say_event mask parts) _ f h) [
      | inl wrong ↦ say_fault mask parts f wrong
      | inr event ↦ cc event.2
    ]

alone_no_say : (word : List ℕ) (others : List (List ℕ)) → AreOfSay (word ∷ []) others → ⊥
alone_no_say word others are = cc (rest_same word (codes "say") [] others are.3 ∙ are.2)

no_say_word : (word : List ℕ) (parts others : List (List ℕ)) → (word ≡ codes "say" → ⊥) → AreOfSay (word ∷ parts) others → ⊥
no_say_word word parts others none are = none (first_same word (codes "say") parts others are.3)

until_alone : (port : ℕ) → event_turn port (codes "until" ∷ []) ≡ Err fault.Word
unfolding event_turn event_word
until_alone port = refl

pub behind_fault : (mask : Mask) (port : ℕ) (parts : List (List ℕ)) (f : LineFault) → behind_turn mask port parts ≡ Err f → HaveBehindFault parts f
behind_fault mask port [] f h = inr (inr (inr (λ o are. cc are.3, λ o are. cc are, λ o are. cc are.3, parts_fault [] f (word_fault f (sym (err_same fault.Word f h))))))
behind_fault mask port (word ∷ []) f h =
    elim (word_told word (codes "until")) [
      | inl until ↦
          let is = err_same fault.Word f (sym (until_alone port) ∙ ap (event_turn port) (sym (with_word word (codes "until") [] until)) ∙ h) in
          inr (inl ([], with_word word (codes "until") [] until, nothing_fault f (sym is)))
      | inr other ↦
          inr (inr (inr (alone_no_frames word, λ o are. other.1 (first_same word (codes "until") [] o are), alone_no_say word, event_fault port (word ∷ []) f h)))
    ]
behind_fault mask port (word ∷ next ∷ others) f h =
    elim (behind_told mask port word next others) [
      | inl frame ↦
          inl (next ∷ others, (next, others, refl, with_word word (codes "frame") (next ∷ others) frame.0), frames_fault port (next ∷ others) f (sym frame.1 ∙ h))
      | inr (inl until) ↦
          inr (inl (next ∷ others, with_word word (codes "until") (next ∷ others) until.0, grant_fault port (next ∷ others) f (sym until.1 ∙ h)))
      | inr (inr (inl say)) ↦
          inr (inr (inl (next ∷ others, (next, others, refl, with_word word (codes "say") (next ∷ others) say.0), say_fault_told mask port (next ∷ others) f (sym say.1 ∙ h))))
      | inr (inr (inr other)) ↦
          inr (
          inr (
          inr (
            λ o. no_frames word (next ∷ others) o other.0.0,
            λ o are. other.0.1 (first_same word (codes "until") (next ∷ others) o are),
            λ o. no_say_word word (next ∷ others) o other.0.2,
            event_fault port (word ∷ next ∷ others) f (sym other.1 ∙ h),
          )
          )
          )
    ]

-- ---- faults are told

event_refused : (port : ℕ) (parts : List (List ℕ)) (f : LineFault) → HavePartsFault parts f → event_turn port parts ≡ Err f
unfolding event_turn
event_refused port parts f wrong = rw (fault_again parts f wrong) refl

frames_refused : (mask : Mask) (port : ℕ) (next : List ℕ) (others : List (List ℕ)) (f : LineFault) → HaveOneFault 1 1000000 (next ∷ others) f
    → behind_turn mask port (codes "frame" ∷ next ∷ others) ≡ Err f
unfolding worded_turn frames_turn
frames_refused mask port next others f wrong = rw (one_refused 1 1000000 (next ∷ others) f wrong) refl

until_refused : (mask : Mask) (port : ℕ) (others : List (List ℕ)) (f : LineFault) → HaveGrantFault others f → behind_turn mask port (codes "until" ∷ others) ≡ Err f
unfolding worded_turn
until_refused mask port [] f wrong = until_alone port ∙ word_fault f (sym (err_same fault.Word f (grant_refused port [] f wrong)))
until_refused mask port (next ∷ others) f wrong = grant_refused port (next ∷ others) f wrong

other_refused : (mask : Mask) (port : ℕ) (parts : List (List ℕ)) (f : LineFault) → ((others : List (List ℕ)) → AreOfFrames parts others → ⊥)
    → ((others : List (List ℕ)) → AreOfUntil parts others → ⊥) → ((others : List (List ℕ)) → AreOfSay parts others → ⊥)
    → HavePartsFault parts f → behind_turn mask port parts ≡ Err f
other_refused mask port [] f frames until say wrong = word_fault f (sym (err_same fault.Word f (fault_again [] f wrong)))
other_refused mask port (word ∷ []) f frames until say wrong = event_refused port (word ∷ []) f wrong
other_refused mask port (word ∷ next ∷ others) f frames until say wrong =
    elim (behind_told mask port word next others) [
      | inl frame ↦ absurd (frames (next ∷ others) (next, others, refl, with_word word (codes "frame") (next ∷ others) frame.0))
      | inr (inl is) ↦ absurd (until (next ∷ others) (with_word word (codes "until") (next ∷ others) is.0))
      | inr (inr (inl is)) ↦ absurd (say (next ∷ others) (next, others, refl, with_word word (codes "say") (next ∷ others) is.0))
      | inr (inr (inr other)) ↦ other.1 ∙ event_refused port (word ∷ next ∷ others) f wrong
    ]

frames_wrong : (mask : Mask) (port : ℕ) (parts others : List (List ℕ)) (f : LineFault) → AreOfFrames parts others → HaveOneFault 1 1000000 others f
    → behind_turn mask port parts ≡ Err f
frames_wrong mask port parts others f are wrong =
    ap (behind_turn mask port) (are.3 ∙ ap (λ (ps : List (List ℕ)). codes "frame" ∷ ps) are.2)
    ∙ frames_refused mask port are.0 are.1 f (subst (λ (ps : List (List ℕ)). HaveOneFault 1 1000000 ps f) are.2 wrong)

say_told : (mask : Mask) (port : ℕ) (next : List ℕ) (others : List (List ℕ)) (f : LineFault) → HaveSayFault (next ∷ others) f
    → behind_turn mask port (codes "say" ∷ next ∷ others) ≡ Err f
unfolding worded_turn say_turn
say_told mask port next others f wrong = rw (say_refused mask (next ∷ others) f wrong) refl

say_wrong : (mask : Mask) (port : ℕ) (parts others : List (List ℕ)) (f : LineFault) → AreOfSay parts others → HaveSayFault others f
    → behind_turn mask port parts ≡ Err f
say_wrong mask port parts others f are wrong =
    ap (behind_turn mask port) (are.3 ∙ ap (λ (ps : List (List ℕ)). codes "say" ∷ ps) are.2)
    ∙ say_told mask port are.0 are.1 f (subst (λ (ps : List (List ℕ)). HaveSayFault ps f) are.2 wrong)

pub behind_refused : (mask : Mask) (port : ℕ) (parts : List (List ℕ)) (f : LineFault) → HaveBehindFault parts f → behind_turn mask port parts ≡ Err f
behind_refused mask port parts f (inl (others, are, wrong)) = frames_wrong mask port parts others f are wrong
behind_refused mask port parts f (inr (inl (others, are, wrong))) = ap (behind_turn mask port) are ∙ until_refused mask port others f wrong
behind_refused mask port parts f (inr (inr (inl (others, are, wrong)))) = say_wrong mask port parts others f are wrong
behind_refused mask port parts f (inr (inr (inr (frames, until, say, wrong)))) = other_refused mask port parts f frames until say wrong

-- ---- what the code reads

behind_cut : (mask : Mask) (port : ℕ) (text word rest : List ℕ) → parts_of text ≡ word ∷ parts_of rest → behind_turn mask port (parts_of text) ≡ worded_turn mask port word (parts_of rest)
behind_cut mask port text word rest apart =
    let behind = parts_some rest in
    ap (behind_turn mask port) apart ∙ ap (λ (parts : List (List ℕ)). behind_turn mask port (word ∷ parts)) behind.2 ∙ ap (worded_turn mask port word) (sym behind.2)

pub frames_cut : (mask : Mask) (port : ℕ) (text word rest : List ℕ) → parts_of text ≡ word ∷ parts_of rest → bytes_eq word (codes "frame") ≡ true
    → behind_turn mask port (parts_of text) ≡ frames_turn port (parts_of rest)
unfolding worded_turn
frames_cut mask port text word rest apart frame = behind_cut mask port text word rest apart ∙ rw frame refl

pub until_cut : (mask : Mask) (port : ℕ) (text word rest : List ℕ) → parts_of text ≡ word ∷ parts_of rest → bytes_eq word (codes "frame") ≡ false → bytes_eq word (codes "until") ≡ true
    → behind_turn mask port (parts_of text) ≡ until_turn port (parts_of rest)
unfolding worded_turn
until_cut mask port text word rest apart other until = behind_cut mask port text word rest apart ∙ rw (other, until) refl

pub say_cut : (mask : Mask) (port : ℕ) (text word rest : List ℕ) → parts_of text ≡ word ∷ parts_of rest → bytes_eq word (codes "frame") ≡ false → bytes_eq word (codes "until") ≡ false → bytes_eq word (codes "say") ≡ true
    → behind_turn mask port (parts_of text) ≡ say_turn mask port (parts_of rest)
unfolding worded_turn
say_cut mask port text word rest apart frame until say = behind_cut mask port text word rest apart ∙ rw (frame, until, say) refl

pub event_cut : (mask : Mask) (port : ℕ) (text word rest : List ℕ) → parts_of text ≡ word ∷ parts_of rest → bytes_eq word (codes "frame") ≡ false → bytes_eq word (codes "until") ≡ false → bytes_eq word (codes "say") ≡ false
    → behind_turn mask port (parts_of text) ≡ event_turn port (parts_of text)
unfolding worded_turn
event_cut mask port text word rest apart frame until say =
    behind_cut mask port text word rest apart ∙ rw (frame, until, say) (ap (event_turn port) (sym apart))
