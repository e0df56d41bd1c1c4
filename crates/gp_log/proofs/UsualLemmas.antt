-- Lines in their usual forms are read as any line is.
use Rattle.std.proofs.Common.{◌≡◌, ℕ, ◌-◌, ◌*◌, ◌<◌, ◌≤◌, ◌^◌, Bool, true, false, List, [], ◌∷◌, ◌++◌, length, take, drop, slice_index, Option, None, Some, Result, Ok, Err, codes, refl, sym, ap, subst, ◌∙◌, inl, inr, arith, append_assoc, ltb}
use Rattle.std.proofs.lemmas.Bool.{cases_Bool, false≢true, ltb-false}
use Rattle.std.proofs.lemmas.List.{take_rest}
use Rattle.std.proofs.lemmas.List.Elements.{All-tail, All-head, All-append, All-cons}
use Rattle.std.proofs.lemmas.List.Sums.{fails_before_first}
use Rattle.std.specs.List.{All, position, position_or_len}
use Rattle.std.specs.Result.{result_ok}
use Rattle.std.specs.Str.Parse.{IsNumeral}
use Rattle.gp_ranging.specs.declared.grant.Grant.TheVariants as grants
use Rattle.gp_machine.specs.declared.event.Event.{Event}
use Rattle.gp_machine.specs.declared.event.Event.TheVariants.{Frame}
use Rattle.gp_lines.specs.Leading.{NumberLeads}
use Rattle.gp_lines.specs.Spelling.{SpellsNumber, SpellsEvent}
use Rattle.gp_lines.specs.Turn.{is_remark}
use Rattle.gp_lines.specs.Trace.{is_equals}
use Rattle.gp_lines.proofs.LeadingLemmas.{frame_leads, line_cut}
use Rattle.gp_lines.proofs.ReadLemmas.{number_back}
use Rattle.gp_lines.proofs.SplitLemmas.{numeral_plain}
use Rattle.gp_log.specs.declared.fault.LogFault.{LogFault}
use Rattle.gp_log.specs.declared.fault.LogFault.TheVariants as fault
use Rattle.gp_log.specs.declared.line.LogLine.{LogLine}
use Rattle.gp_log.specs.declared.line.LogLine.TheVariants as line
use Rattle.gp_log.specs.declared.word.Kind.{Kind}
use Rattle.gp_log.specs.Fields.{Field, trimmed, next, is_separator, number_or, number_in}
use Rattle.gp_log.specs.Time.{frame_time}
use Rattle.gp_log.specs.Says.{kind_of, said_of, word_grant, next_grant}
use Rattle.gp_log.specs.Log.{entry_of, ported_entry, first_entry, entry_in}
use Rattle.gp_log.specs.Trace.{next_sent, next_granted, frame_said, frame_line, trace_line}
use Rattle.gp_log.specs.Line.{IsTraceLine, ReadsText}
use Rattle.gp_log.specs.Usual.{said_entry, ReadsEntry, ReadsTold, NumberBegins, Begins, KindLeads, TraceLeads, AreTold, Fronts}
use Rattle.gp_log.proofs.BackLemmas.{numeral_no_kind}
use Rattle.gp_log.proofs.DigitLemmas.{numeral_next}
use Rattle.gp_log.proofs.KindLemmas.{trace_second, trace_third}
use Rattle.gp_log.proofs.TimeLemmas.{frames_spelled}

-- ---- the front of a line

-- a text is its first octet and the rest
pub one_apart : (text : List ℕ) → 1 ≤ length text → text ≡ slice_index text 0 ∷ take (length text - 1) (drop 1 text)
one_apart [] some = absurd (omega (arith, some))
one_apart (octet ∷ text) some = ap (λ (t : List ℕ). octet ∷ t) (sym (take_rest (octet ∷ text) 1))

-- behind one separator stands what stands behind separators
next_past : (octet : ℕ) (text : List ℕ) → is_separator octet ≡ true → next (octet ∷ text) ≡ next text
unfolding next trimmed
next_past octet text parts = rw parts refl

-- the digits of a number that 64 bits hold
record NumberIs (digits : List ℕ) (number : ℕ) : Type 0 where
  spelled : SpellsNumber digits number
  fits : number < 2 ^ 64

digits_are : (text rest : List ℕ) (number : ℕ) (n : NumberBegins text number rest) → NumberIs n.digits number
digits_are text rest number n = record { spelled = n.spelled; fits = n.fits }

number_cut : (text rest : List ℕ) (number parting : ℕ) (n : NumberBegins text number (parting ∷ rest)) → is_separator parting ≡ true
    → next text ≡ (n.digits, parting ∷ rest)
number_cut text rest number parting n parts = ap next n.apart ∙ numeral_next n.digits (parting ∷ rest) n.spelled.0 parts

entry_told : (digits behind : List ℕ) (port frames : ℕ) (kind : Kind) → NumberIs digits frames → frames * frame_time < 2 ^ 64
    → entry_of port digits kind behind ≡ said_entry port (frames * frame_time) (said_of kind behind)
unfolding entry_of
entry_told digits behind port frames kind n short = rw (frames_spelled digits frames n.spelled n.fits short) refl

ported_told : (first digits behind : List ℕ) (port frames : ℕ) (kind : Kind) → NumberIs first port → port ≤ 15 → NumberIs digits frames → frames * frame_time < 2 ^ 64
    → ported_entry first digits kind behind ≡ said_entry port (frames * frame_time) (said_of kind behind)
unfolding ported_entry
ported_told first digits behind port frames kind p near n short =
    let read : number_in fault.Number 15 first ≡ Ok port = ap (number_or fault.Number) (number_back 0 15 first port p.spelled (omega arith) near) in
    rw read (entry_told digits behind port frames kind n short)

some_none : (kind : Kind) (o : Option Kind) → o ≡ Some kind → o ≡ None → ⊥
some_none kind o some none = cc (sym none ∙ some)

-- a number alone: the word stands second
second_logged : (text rest : List ℕ) (frames parting : ℕ) → Begins text frames parting rest → (kind : Kind) (behind : List ℕ) → KindLeads rest kind behind
    → frames * frame_time < 2 ^ 64 → ReadsEntry text (said_entry 0 (frames * frame_time) (said_of kind behind))
second_logged text rest frames parting b kind behind k short =
    let first = number_cut text rest frames parting b.begun b.parted in
    let second : next (parting ∷ rest) ≡ (k.word, behind) = next_past parting rest b.parted ∙ k.cut in
    let named : kind_of (next (next text).1).0 ≡ Some kind = ap (λ (f : Field). kind_of (next f.1).0) first ∙ ap (λ (f : Field). kind_of f.0) second ∙ k.named in
    let read : entry_in text ≡ entry_of 0 b.begun.digits kind behind = ap first_entry first ∙ rw (second, k.named) refl in (
      λ t. some_none kind (kind_of (next (next text).1).0) named (trace_second text t),
      sym (read ∙ entry_told b.begun.digits behind 0 frames kind (digits_are text (parting ∷ rest) frames b.begun) short),
    )

pub one_front : (text rest : List ℕ) (frames parting : ℕ) → Begins text frames parting rest → Fronts text 0 frames false rest
one_front text rest frames parting b = record {
  logged = second_logged text rest frames parting b;
  traced = λ no. absurd (false≢true no);
}

-- a port and a number: the word stands third
third_logged : (text middle rest : List ℕ) (port frames parting next_parting : ℕ) → Begins text port parting middle → Begins middle frames next_parting rest → port ≤ 15
    → (kind : Kind) (behind : List ℕ) → KindLeads rest kind behind → frames * frame_time < 2 ^ 64
    → ReadsEntry text (said_entry port (frames * frame_time) (said_of kind behind))
third_logged text middle rest port frames parting next_parting b m near kind behind k short =
    let first = number_cut text middle port parting b.begun b.parted in
    let second : next (parting ∷ middle) ≡ (m.begun.digits, next_parting ∷ rest) =
    next_past parting middle b.parted ∙ number_cut middle rest frames next_parting m.begun m.parted in
    let third : next (next_parting ∷ rest) ≡ (k.word, behind) = next_past next_parting rest m.parted ∙ k.cut in
    let named : kind_of (next (next (next text).1).1).0 ≡ Some kind =
    ap (λ (f : Field). kind_of (next (next f.1).1).0) first ∙ ap (λ (f : Field). kind_of (next f.1).0) second ∙ ap (λ (f : Field). kind_of f.0) third ∙ k.named in
    let read : entry_in text ≡ ported_entry b.begun.digits m.begun.digits kind behind =
    ap first_entry first ∙ rw (second, numeral_no_kind m.begun.digits m.begun.spelled.0) (rw (third, k.named) refl) in (
      λ t. some_none kind (kind_of (next (next (next text).1).1).0) named (trace_third text t),
      sym (
          read
          ∙ ported_told b.begun.digits m.begun.digits behind port frames kind (digits_are text (parting ∷ middle) port b.begun) near
          (digits_are middle (next_parting ∷ rest) frames m.begun) short
          ),
    )

spaced : (text rest : List ℕ) (number parting : ℕ) → NumberBegins text number (parting ∷ rest) → parting ≡ 32 → NumberLeads text number rest
spaced text rest number parting n space = record {
  digits = n.digits;
  spelled = n.spelled;
  fits = n.fits;
  apart = n.apart ∙ ap (λ (o : ℕ). n.digits ++ (o ∷ rest)) space;
}

pub two_fronts : (text middle rest : List ℕ) (port frames parting next_parting : ℕ) (is_traced : Bool) → Begins text port parting middle
    → Begins middle frames next_parting rest → port ≤ 15 → (is_traced ≡ true → (parting ≡ 32) × (next_parting ≡ 32)) → Fronts text port frames is_traced rest
two_fronts text middle rest port frames parting next_parting is_traced b m near spaces = record {
  logged = third_logged text middle rest port frames parting next_parting b m near;
  traced = λ is. record {
    near = near;
    number = frames;
    middle = middle;
    first = spaced text middle port parting b.begun (spaces is).0;
    second = spaced middle rest frames next_parting m.begun (spaces is).1;
  };
}

-- a number in front of an octet that parts
pub begun : (text rest : List ℕ) (number : ℕ) → NumberBegins text number rest → 1 ≤ length rest → is_separator (slice_index rest 0) ≡ true
    → Begins text number (slice_index rest 0) (take (length rest - 1) (drop 1 rest))
begun text rest number n some parts = record {
  begun = subst (NumberBegins text number) (one_apart rest some) n;
  parted = parts;
}

-- ---- a line of a trace

pub behind_space : (text behind fields : List ℕ) (number : ℕ) → NumberBegins text number behind → behind ≡ codes " " ++ fields → NumberLeads text number fields
behind_space text behind fields number n is = record {
  digits = n.digits;
  spelled = n.spelled;
  fits = n.fits;
  apart = n.apart ∙ ap (λ (t : List ℕ). n.digits ++ t) is;
}

pub told_text : (text : List ℕ) (read : Result LogLine LogFault) → is_remark text ≡ false → ReadsTold text read → ReadsText text read
told_text text read other (inl trace) = inr (inl (other, trace))
told_text text read other (inr entry) = inr (inr (other, entry.0, entry.1))

pub traced_read : (text told answer : List ℕ) (port : ℕ) (event : Event) (read : Result LogLine LogFault) → TraceLeads text port told → AreTold told event answer
    → read ≡ trace_line port event answer → ReadsTold text read
traced_read text told answer port event read t e is =
    inl (record {
      port = port;
      number = t.number;
      event = event;
      answer = answer;
      split = line_cut text t.middle told (codes " = " ++ answer) answer port t.number event t.first t.second e refl t.near;
      told = is;
    })

pub frame_told : (told answer : List ℕ) → told ≡ codes "frame = " ++ answer → AreTold told Frame answer
frame_told told answer is = frame_leads told (codes " = " ++ answer) is

pub read_ok : {A E : Type 0} (r : Result A E) (x : A) → result_ok r ≡ Some x → r ≡ Ok x
read_ok (Ok y) x h = cc h
read_ok (Err e) x h = absurd (cc h)

pub event_told : (text front back told answer : List ℕ) (event : Event) → text ≡ front ++ back → front ≡ told ++ codes " " → back ≡ codes "= " ++ answer
    → SpellsEvent told event → AreTold text event answer
event_told text front back told answer event whole before behind spells = record {
  words = told;
  told = spells;
  apart = whole ∙ ap (λ (f : List ℕ). f ++ back) before ∙ ap (λ (b : List ℕ). (told ++ codes " ") ++ b) behind ∙ append_assoc told (codes " ") (codes "= " ++ answer);
}

-- the octets of this word
pub search_word : (word : List ℕ) → length word ≡ 6 → slice_index word 0 ≡ 115 → slice_index word 1 ≡ 101 → slice_index word 2 ≡ 97 → slice_index word 3 ≡ 114
    → slice_index word 4 ≡ 99 → slice_index word 5 ≡ 104 → word ≡ codes "search"
search_word [] long one two three four five six = absurd (omega (arith, long))
search_word (a ∷ []) long one two three four five six = absurd (omega (arith, long))
search_word (a ∷ b ∷ []) long one two three four five six = absurd (omega (arith, long))
search_word (a ∷ b ∷ c ∷ []) long one two three four five six = absurd (omega (arith, long))
search_word (a ∷ b ∷ c ∷ d ∷ []) long one two three four five six = absurd (omega (arith, long))
search_word (a ∷ b ∷ c ∷ d ∷ e ∷ []) long one two three four five six = absurd (omega (arith, long))
search_word (a ∷ b ∷ c ∷ d ∷ e ∷ f ∷ []) long one two three four five six = rw (one, two, three, four, five, six) refl
search_word (a ∷ b ∷ c ∷ d ∷ e ∷ f ∷ g ∷ word) long one two three four five six = absurd (omega (arith, long))

-- the word of a search window
pub searched : (text word rest : List ℕ) → next text ≡ (word, rest) → word ≡ codes "search" → next_grant text ≡ Ok (grants.Search, rest)
unfolding word_grant
searched text word rest is same = rw (is, same) refl

bare : (port : ℕ) → frame_said port [] ≡ Ok (line.Trace port true None None)
unfolding frame_said next_sent next_granted next trimmed
bare port = refl

-- nothing behind the reply
pub bare_frame : (port : ℕ) (answer rest : List ℕ) → next answer ≡ (codes "ok", rest) → length rest < 1 → frame_line port answer ≡ Ok (line.Trace port true None None)
bare_frame port answer [] is none = rw is (bare port)
bare_frame port answer (octet ∷ rest) is none = absurd (omega (arith, none))

-- ---- no line of a trace

abbrev NoEquals : List ℕ → Type 0
NoEquals text = All (λ octet. is_equals octet ≡ false) text

none_equals : (text : List ℕ) → None ≡ position is_equals text → NoEquals text
none_equals text none =
    elim (cases_Bool (ltb (position_or_len is_equals text) (length text))) [
      | inl within ↦ absurd (cc (rw within at none))
      | inr without ↦
          let far = ltb-false _ _ without in
          λ k d below. fails_before_first is_equals text k d (omega (arith, far, below))
    ]

numeral_equals : (digits : List ℕ) → IsNumeral 10 digits → NoEquals digits
numeral_equals digits is = λ k d within. (numeral_plain digits is k d within).1

has_one : (head answer : List ℕ) → NoEquals (head ++ (32 ∷ 61 ∷ 32 ∷ answer)) → ⊥
has_one [] answer all =
    let second = All-tail (λ (o : ℕ). is_equals o ≡ false) 32 (61 ∷ 32 ∷ answer) all in
    false≢true (sym (All-head (λ (o : ℕ). is_equals o ≡ false) 61 (32 ∷ answer) second))
has_one (octet ∷ head) answer all = has_one head answer (All-tail (λ (o : ℕ). is_equals o ≡ false) octet (head ++ (32 ∷ 61 ∷ 32 ∷ answer)) all)

leads_equals : (text rest : List ℕ) (number : ℕ) → NumberLeads text number rest → NoEquals rest → NoEquals text
leads_equals text rest number n none =
    subst NoEquals (sym n.apart) (
    All-append (λ (o : ℕ). is_equals o ≡ false) n.digits (32 ∷ rest) (numeral_equals n.digits n.spelled.0)
    (All-cons (λ (o : ℕ). is_equals o ≡ false) 32 rest refl none)
    )

-- without `=` there is none
pub no_trace_line : (text told : List ℕ) (port : ℕ) → TraceLeads text port told → None ≡ position is_equals told → IsTraceLine text → ⊥
no_trace_line text told port t none is =
    let all = leads_equals text t.middle port t.first (leads_equals t.middle told t.number t.second (none_equals told none)) in
    let split = is.4 in
    let apart : text ≡ split.head ++ (32 ∷ 61 ∷ 32 ∷ is.3) = split.apart ∙ append_assoc split.head (codes " = ") is.3 in
    has_one split.head is.3 (subst NoEquals apart all)
