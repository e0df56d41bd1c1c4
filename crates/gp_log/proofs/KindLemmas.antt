-- A line of a trace is none of a log.
use Rattle.std.proofs.Common.{◌≡◌, ℕ, true, false, List, [], ◌∷◌, ◌++◌, None, Err, codes, refl, sym, ap, ◌∙◌, arith, append_assoc}
use Rattle.std.proofs.lemmas.Bool.Decides.{nat_tests}
use Rattle.std.proofs.lemmas.List.{append-nil}
use Rattle.std.proofs.lemmas.List.Elements.{All-weaker}
use Rattle.std.proofs.lemmas.List.Splits.{join_with_byte-slice_split}
use Rattle.std.proofs.lemmas.List.Sums.{AllPass-from_list_all}
use Rattle.std.specs.List.{list_all, join_with_byte}
use Rattle.std.specs.Str.Parse.{IsNumeral}
use Rattle.gp_ploam.specs.declared.message.Serial.{Serial}
use Rattle.gp_machine.specs.declared.event.Command.{Command}
use Rattle.gp_machine.specs.declared.event.Command.TheVariants as commands
use Rattle.gp_machine.specs.declared.event.Event.{Event}
use Rattle.gp_machine.specs.declared.event.Event.TheVariants as events
use Rattle.gp_lines.specs.Parts.{parts_of}
use Rattle.gp_lines.specs.Spelling.{SpellsUnit, SpellsCommand, SpellsParts}
use Rattle.gp_log.specs.declared.fault.LogFault.TheVariants as fault
use Rattle.gp_log.specs.Fields.{Field, next, is_separator, is_of_field, is_parted}
use Rattle.gp_log.specs.Says.{kind_of}
use Rattle.gp_log.specs.Log.{first_entry, third_entry, entry_in}
use Rattle.gp_log.specs.Line.{IsTraceLine}
use Rattle.gp_log.proofs.DigitLemmas.{AreOfField, next_field, next_behind, numeral_next}
use Rattle.gp_log.proofs.BackLemmas.{numeral_no_kind}

-- ---- the word of an event

-- it is a field, and none of the three words of a log
record IsOther (word : List ℕ) : Type 0 where
  cut : (rest : List ℕ) → is_parted rest ≡ true → next (32 ∷ (word ++ rest)) ≡ (word, rest)
  other : kind_of word ≡ None

is_field : (octet : ℕ) → is_of_field octet ≡ true → is_separator octet ≡ false
is_field octet h = grind (arith, nat_tests, h)

are_of_field : (word : List ℕ) → list_all is_of_field word ≡ true → AreOfField word
are_of_field word h = All-weaker (λ o. is_of_field o ≡ true) (λ o. is_separator o ≡ false) is_field word (AllPass-from_list_all is_of_field word h)

other_word : (octet : ℕ) (word : List ℕ) → list_all is_of_field (octet ∷ word) ≡ true → kind_of (octet ∷ word) ≡ None → IsOther (octet ∷ word)
other_word octet word h other = record {
  cut = λ rest parted. next_behind ((octet ∷ word) ++ rest) ∙ next_field octet word rest (are_of_field (octet ∷ word) h) parted;
  other = other;
}

-- the first of these parts is such a word
abbrev BeginWithOther : List (List ℕ) → Type 0
BeginWithOther parts = (word : List ℕ) × (others : List (List ℕ)) × (parts ≡ word ∷ others) × IsOther word

unit_begins : (octet : ℕ) (word : List ℕ) (parts : List (List ℕ)) (serial : Serial) → IsOther (octet ∷ word) → SpellsUnit (octet ∷ word) parts serial
    → BeginWithOther parts
unit_begins octet word parts serial is s = (octet ∷ word, s.0 ∷ [], s.1, is)

command_begins : (parts : List (List ℕ)) (command : Command) → SpellsCommand parts command → BeginWithOther parts
unfolding kind_of
command_begins parts commands.Search s = (codes "search", [], s, other_word 115 (codes "earch") refl refl)
command_begins parts (commands.Alloc serial) s = unit_begins 97 (codes "lloc") parts serial (other_word 97 (codes "lloc") refl refl) s
command_begins parts (commands.Dealloc serial alloc) s = (codes "dealloc", s.0 ∷ s.1 ∷ [], s.2, other_word 100 (codes "ealloc") refl refl)
command_begins parts (commands.Deactivate serial) s = unit_begins 100 (codes "eactivate") parts serial (other_word 100 (codes "eactivate") refl refl) s
command_begins parts (commands.Disable serial) s = unit_begins 100 (codes "isable") parts serial (other_word 100 (codes "isable") refl refl) s
command_begins parts (commands.Enable serial) s = unit_begins 101 (codes "nable") parts serial (other_word 101 (codes "nable") refl refl) s
command_begins parts commands.EnableAll s = (codes "enable-all", [], s, other_word 101 (codes "nable-all") refl refl)
command_begins parts (commands.Popup serial) s = unit_begins 112 (codes "opup") parts serial (other_word 112 (codes "opup") refl refl) s
command_begins parts commands.PopupAll s = (codes "popup-all", [], s, other_word 112 (codes "opup-all") refl refl)
command_begins parts (commands.Show serial) s = unit_begins 115 (codes "how") parts serial (other_word 115 (codes "how") refl refl) s

event_begins : (parts : List (List ℕ)) (event : Event) → SpellsParts parts event → BeginWithOther parts
unfolding kind_of
event_begins parts events.Frame s = (codes "frame", [], s, other_word 102 (codes "rame") refl refl)
event_begins parts (events.Burst at octets) s = (codes "burst", s.0 ∷ s.1 ∷ [], s.2, other_word 98 (codes "urst") refl refl)
event_begins parts (events.Command command) s = command_begins parts command s

-- ---- the line

text_joined : (text : List ℕ) → join_with_byte 32 (parts_of text) ≡ text
unfolding parts_of
text_joined text = join_with_byte-slice_split 32 text

-- what stands behind the first of some parts
abbrev behind_first : List (List ℕ) → List ℕ
behind_first [] = []
behind_first (part ∷ parts) = 32 ∷ join_with_byte 32 (part ∷ parts)

first_apart : (word : List ℕ) (others : List (List ℕ)) → join_with_byte 32 (word ∷ others) ≡ word ++ behind_first others
first_apart word [] = sym (append-nil word)
first_apart word (part ∷ others) = refl

parted_behind : (others : List (List ℕ)) (rest : List ℕ) → is_parted (behind_first others ++ (32 ∷ rest)) ≡ true
parted_behind [] rest = refl
parted_behind (part ∷ others) rest = refl

-- a line from its fields
abbrev fields : List ℕ → List ℕ → List ℕ → List ℕ → List ℕ
fields digits numeral word rest = digits ++ (32 ∷ (numeral ++ (32 ∷ (word ++ rest))))

head_apart : (head digits numeral word : List ℕ) (others : List (List ℕ)) → parts_of head ≡ digits ∷ numeral ∷ word ∷ others
    → head ≡ fields digits numeral word (behind_first others)
head_apart head digits numeral word others is =
    sym (text_joined head) ∙ ap (join_with_byte 32) is
    ∙ ap (λ (t : List ℕ). digits ++ (32 ∷ (numeral ++ (32 ∷ t)))) (first_apart word others)

third_refused : (digits numeral word rest : List ℕ) → IsOther word → is_parted rest ≡ true
    → third_entry digits numeral (kind_of (next (32 ∷ (word ++ rest))).0) (next (32 ∷ (word ++ rest))).1 ≡ Err fault.Word
third_refused digits numeral word rest is parted = rw (is.cut rest parted, is.other) refl

second_refused : (digits numeral word rest : List ℕ) → IsNumeral 10 numeral → IsOther word → is_parted rest ≡ true
    → first_entry (digits, 32 ∷ (numeral ++ (32 ∷ (word ++ rest)))) ≡ Err fault.Word
second_refused digits numeral word rest number is parted =
    let cut : next (32 ∷ (numeral ++ (32 ∷ (word ++ rest)))) ≡ (numeral, 32 ∷ (word ++ rest)) =
    next_behind (numeral ++ (32 ∷ (word ++ rest))) ∙ numeral_next numeral (32 ∷ (word ++ rest)) number refl in
    rw (cut, numeral_no_kind numeral number) (third_refused digits numeral word rest is parted)

fields_refused : (digits numeral word rest : List ℕ) → IsNumeral 10 digits → IsNumeral 10 numeral → IsOther word → is_parted rest ≡ true
    → entry_in (fields digits numeral word rest) ≡ Err fault.Word
fields_refused digits numeral word rest first second is parted =
    ap first_entry (numeral_next digits (32 ∷ (numeral ++ (32 ∷ (word ++ rest)))) first refl) ∙ second_refused digits numeral word rest second is parted

regrouped : (digits numeral word rest behind : List ℕ) → fields digits numeral word rest ++ behind ≡ fields digits numeral word (rest ++ behind)
regrouped digits numeral word rest behind = simp append_assoc

-- a line of a trace is two numbers, and the word of an event
record IsCut (text : List ℕ) : Type 0 where
  digits : List ℕ
  numeral : List ℕ
  word : List ℕ
  rest : List ℕ
  first : IsNumeral 10 digits
  second : IsNumeral 10 numeral
  other : IsOther word
  parted : is_parted rest ≡ true
  apart : text ≡ fields digits numeral word rest

trace_cut : (text : List ℕ) → IsTraceLine text → IsCut text
trace_cut text t =
    let split = t.4 in
    let told = split.told in
    let begins = event_begins told.2 t.2 told.8 in
    let behind = 32 ∷ 61 ∷ 32 ∷ t.3 in
    let head : split.head ≡ fields told.0 told.1 begins.0 (behind_first begins.1) =
    head_apart split.head told.0 told.1 begins.0 begins.1 (told.3 ∙ ap (λ (ps : List (List ℕ)). told.0 ∷ told.1 ∷ ps) begins.2) in
    let apart : text ≡ fields told.0 told.1 begins.0 (behind_first begins.1 ++ behind) =
    split.apart ∙ append_assoc split.head (codes " = ") t.3 ∙ ap (λ (h : List ℕ). h ++ behind) head
    ∙ regrouped told.0 told.1 begins.0 (behind_first begins.1) behind in
    record {
      digits = told.0;
      numeral = told.1;
      word = begins.0;
      rest = behind_first begins.1 ++ behind;
      first = told.4.0;
      second = told.6.0;
      other = begins.3;
      parted = parted_behind begins.1 (61 ∷ 32 ∷ t.3);
      apart = apart;
    }

-- it has none of the words of a log where they should stand
pub trace_refused : (text : List ℕ) → IsTraceLine text → entry_in text ≡ Err fault.Word
trace_refused text t =
    let c = trace_cut text t in
    ap entry_in c.apart ∙ fields_refused c.digits c.numeral c.word c.rest c.first c.second c.other c.parted

second_field : (digits numeral word rest : List ℕ) → IsNumeral 10 digits → IsNumeral 10 numeral
    → next (next (fields digits numeral word rest)).1 ≡ (numeral, 32 ∷ (word ++ rest))
second_field digits numeral word rest first second =
    ap (λ (f : Field). next f.1) (numeral_next digits (32 ∷ (numeral ++ (32 ∷ (word ++ rest)))) first refl)
    ∙ next_behind (numeral ++ (32 ∷ (word ++ rest))) ∙ numeral_next numeral (32 ∷ (word ++ rest)) second refl

-- the second field is none of these words
pub trace_second : (text : List ℕ) → IsTraceLine text → kind_of (next (next text).1).0 ≡ None
trace_second text t =
    let c = trace_cut text t in
    ap (λ (x : List ℕ). kind_of (next (next x).1).0) c.apart
    ∙ ap (λ (f : Field). kind_of f.0) (second_field c.digits c.numeral c.word c.rest c.first c.second)
    ∙ numeral_no_kind c.numeral c.second

-- the third one isn't either
pub trace_third : (text : List ℕ) → IsTraceLine text → kind_of (next (next (next text).1).1).0 ≡ None
trace_third text t =
    let c = trace_cut text t in
    ap (λ (x : List ℕ). kind_of (next (next (next x).1).1).0) c.apart
    ∙ ap (λ (f : Field). kind_of (next f.1).0) (second_field c.digits c.numeral c.word c.rest c.first c.second)
    ∙ ap (λ (f : Field). kind_of f.0) (c.other.cut c.rest c.parted) ∙ c.other.other
