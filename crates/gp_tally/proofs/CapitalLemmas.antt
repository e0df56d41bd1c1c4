-- The capitals in the text of an answer: there are none before those of an alarm.
use Rattle.std.proofs.Common.{◌≡◌, ℕ, zero, suc, ◌<◌, ◌==◌, ◌/◌, ◌%◌, Bool, true, false, List, [], ◌∷◌, ◌++◌, length, slice_index, Option, None, Some, codes, refl, ap, ◌∙◌, inl, inr, arith, nat_lt, length-append}
use Rattle.std.specs.Prelude.{decimal, not, position}
use Rattle.std.proofs.lemmas.Bool.{cases_Bool, cases_lt, le-ltb, lt-ltb}
use Rattle.std.proofs.lemmas.Bool.Decides.{nat_tests}
use Rattle.std.proofs.lemmas.List.{get_or_past}
use Rattle.std.proofs.lemmas.List.Elements.{All-weaker, All-append, All-cons, All-head, All-nil, All-tail}
use Rattle.std.proofs.lemmas.List.Sums.{AllPass-from_list_all}
use Rattle.std.proofs.Math.Seq.{drop-append_seam}
use Rattle.std.specs.Char.{is_ascii_uppercase}
use Rattle.std.specs.Fmt.{digits, digit_glyph, digits_onto}
use Rattle.std.specs.FinMap.{entries}
use Rattle.std.specs.List.{All, list_all, flat_map, position_or_len}
use Rattle.hex.specs.Hex.{encode_with, encode_lower, lower_digits}
use Rattle.gp_ploam.specs.declared.check.Mask.{Mask}
use Rattle.gp_ploam.specs.declared.message.Down.{Down}
use Rattle.gp_ploam.specs.Down.{code_of_down}
use Rattle.gp_ploam.specs.Mask.{mask_value}
use Rattle.gp_ranging.specs.declared.grant.Grant.{Grant}
use Rattle.gp_ranging.specs.declared.grant.Grant.TheVariants as grants
use Rattle.gp_unit.specs.declared.row.Phase.{Phase}
use Rattle.gp_unit.specs.declared.row.Phase.TheVariants.{Ranging, Operating}
use Rattle.gp_unit.specs.declared.row.Row.{Row}
use Rattle.gp_machine.specs.declared.refusal.Refusal.{Refusal}
use Rattle.gp_machine.specs.declared.refusal.Refusal.TheVariants.{Stray}
use Rattle.gp_machine.specs.declared.reply.Reply.{Reply}
use Rattle.gp_machine.specs.declared.reply.Reply.TheVariants as replies
use Rattle.gp_machine.specs.Refusals.{refusal_name, refusal_number}
use Rattle.gp_trace.specs.Reply.{numbered, leaving_text, alloc_text, next_alloc_text, allocs_text, phase_text, row_text, reply_text}
use Rattle.gp_trace.specs.Text.{sent_text, grant_text}
use Rattle.gp_tally.specs.Told.{from_capital, from_place}

-- ---- texts without a capital

abbrev pub is_low : ℕ → Bool
is_low octet = not (is_ascii_uppercase octet)

abbrev pub Low : List ℕ → Type 0
Low text = All (λ octet. is_ascii_uppercase octet ≡ false) text

low_is : (octet : ℕ) → is_low octet ≡ true → is_ascii_uppercase octet ≡ false
low_is octet h =
    elim (cases_Bool (is_ascii_uppercase octet)) [
      | inl capital ↦ cc (rw capital at h)
      | inr other ↦ other
    ]

pub word_low : (word : List ℕ) → list_all is_low word ≡ true → Low word
word_low word h = All-weaker (λ o. is_low o ≡ true) (λ o. is_ascii_uppercase o ≡ false) low_is word (AllPass-from_list_all is_low word h)

pub both_low : (first second : List ℕ) → Low first → Low second → Low (first ++ second)
both_low first second one other = All-append (λ (o : ℕ). is_ascii_uppercase o ≡ false) first second one other

none_low : Low []
none_low = All-nil (λ (o : ℕ). is_ascii_uppercase o ≡ false)

-- ---- numbers and octets

glyph_low : (d : ℕ) → is_ascii_uppercase (digit_glyph false d) ≡ false
glyph_low d =
    elim (cases_Bool (nat_lt d 10)) [
      | inl few ↦ rw few (grind (arith, nat_tests))
      | inr many ↦ rw many (grind (arith, nat_tests))
    ]

onto_low : (k n : ℕ) (behind : List ℕ) → Low behind → Low (digits_onto k 10 false n behind)
onto_low zero n behind h = h
onto_low (suc k) n behind h =
    let more = All-cons (λ (o : ℕ). is_ascii_uppercase o ≡ false) (digit_glyph false (n % 10)) behind (glyph_low (n % 10)) h in
    elim (cases_Bool (n / 10 == 0)) [
      | inl last ↦ rw last more
      | inr others ↦ rw others (onto_low k (n / 10) (digit_glyph false (n % 10) ∷ behind) more)
    ]

number_low : (number : ℕ) → Low (decimal number)
unfolding digits
number_low number = onto_low 64 number [] none_low

entry_low : (table : List ℕ) (k : ℕ) → Low table → is_ascii_uppercase (slice_index table k) ≡ false
entry_low table k all =
    elim (cases_lt k (length table)) [
      | inl within ↦ all k 0 within
      | inr past ↦ rw (get_or_past table k 0 past) refl
    ]

hex_low : (table octets : List ℕ) → Low table → Low (encode_with table octets)
unfolding encode_with
hex_low table [] all = none_low
hex_low table (octet ∷ octets) all =
    All-cons (λ (o : ℕ). is_ascii_uppercase o ≡ false) (slice_index table (octet / 16)) (slice_index table (octet % 16) ∷ encode_with table octets) (entry_low table (octet / 16) all)
    (All-cons (λ (o : ℕ). is_ascii_uppercase o ≡ false) (slice_index table (octet % 16)) (encode_with table octets) (entry_low table (octet % 16) all) (hex_low table octets all))

code_low : (octets : List ℕ) → Low (encode_lower octets)
code_low octets = hex_low lower_digits octets (word_low lower_digits refl)

-- ---- a reply

numbered_low : (word : List ℕ) (number : ℕ) → list_all is_low word ≡ true → Low (numbered word number)
numbered_low word number h =
    both_low (word ++ codes " ") (decimal number) (both_low word (codes " ") (word_low word h) (word_low (codes " ") refl)) (number_low number)

-- a text, a closed text and a text
joined_low : (first word second : List ℕ) → Low first → list_all is_low word ≡ true → Low second → Low ((first ++ word) ++ second)
joined_low first word second one h other = both_low (first ++ word) second (both_low first word one (word_low word h)) other

name_low : (refusal : Refusal) → list_all is_low (refusal_name refusal) ≡ true
name_low Stray = refl
name_low _ = refl

leaving_low : (leaving : Bool) → Low (leaving_text leaving)
leaving_low true = word_low (codes "!") refl
leaving_low false = none_low

alloc_low : (alloc : ℕ × Bool) → Low (alloc_text alloc)
alloc_low alloc = both_low (decimal alloc.0) (leaving_text alloc.1) (number_low alloc.0) (leaving_low alloc.1)

more_low : (allocs : List (ℕ × Bool)) → Low (flat_map next_alloc_text allocs)
more_low [] = none_low
more_low (alloc ∷ allocs) =
    both_low (next_alloc_text alloc) (flat_map next_alloc_text allocs) (both_low (codes ",") (alloc_text alloc) (word_low (codes ",") refl) (alloc_low alloc)) (more_low allocs)

allocs_low : (allocs : List (ℕ × Bool)) → Low (allocs_text allocs)
allocs_low [] = word_low (codes "-") refl
allocs_low (alloc ∷ allocs) = both_low (alloc_text alloc) (flat_map next_alloc_text allocs) (alloc_low alloc) (more_low allocs)

phase_low : (phase : Phase) → Low (phase_text phase)
phase_low (Ranging attempts seen) = numbered_low (codes "ranging") attempts refl
phase_low (Operating eqd dark garbled) = numbered_low (codes "operating") eqd refl

row_low : (row : Row) → Low (row_text row)
row_low row =
    joined_low ((numbered (codes "unit") row.onu ++ codes " ") ++ phase_text row.phase) (codes " allocs ") (allocs_text (entries row.allocs))
    (joined_low (numbered (codes "unit") row.onu) (codes " ") (phase_text row.phase) (numbered_low (codes "unit") row.onu refl) refl (phase_low row.phase))
    refl (allocs_low (entries row.allocs))

reply_low : (reply : Reply) → Low (reply_text reply)
reply_low replies.Ticked = word_low (codes "ok") refl
reply_low (replies.Refused refusal) =
    joined_low (numbered (codes "refused") (refusal_number refusal)) (codes " ") (refusal_name refusal)
    (numbered_low (codes "refused") (refusal_number refusal) refl) refl (word_low (refusal_name refusal) (name_low refusal))
reply_low replies.Searching = word_low (codes "searching") refl
reply_low (replies.Found onu) = numbered_low (codes "found") onu refl
reply_low (replies.Again onu) = numbered_low (codes "again") onu refl
reply_low (replies.Repeat onu) = numbered_low (codes "repeat") onu refl
reply_low (replies.Restarted onu) = numbered_low (codes "restarted") onu refl
reply_low replies.DisabledSeen = word_low (codes "disabled-seen") refl
reply_low (replies.Ranged onu eqd) =
    joined_low (numbered (codes "ranged") onu) (codes " ") (decimal eqd) (numbered_low (codes "ranged") onu refl) refl (number_low eqd)
reply_low (replies.TooFar onu) = numbered_low (codes "too-far") onu refl
reply_low (replies.StillRanging onu) = numbered_low (codes "still-ranging") onu refl
reply_low (replies.Alive onu) = numbered_low (codes "alive") onu refl
reply_low (replies.Acked alloc) = numbered_low (codes "acked") alloc refl
reply_low (replies.Gasp onu) = numbered_low (codes "gasp") onu refl
reply_low (replies.Allocated alloc) = numbered_low (codes "allocated") alloc refl
reply_low (replies.Releasing alloc) = numbered_low (codes "releasing") alloc refl
reply_low (replies.Deactivated onu) = numbered_low (codes "deactivated") onu refl
reply_low replies.Disabled = word_low (codes "disabled") refl
reply_low replies.Enabled = word_low (codes "enabled") refl
reply_low replies.EnabledAll = word_low (codes "enabled-all") refl
reply_low (replies.PoppedUp onu) = numbered_low (codes "popped-up") onu refl
reply_low (replies.PoppedUpAll count) = numbered_low (codes "popped-up-all") count refl
reply_low (replies.Shown row) = row_low row

-- ---- what stands between a reply and an alarm

sent_low : (mask : Mask) (sent : Option Down) → Low (sent_text mask sent)
sent_low mask None = none_low
sent_low mask (Some message) =
    let code = code_of_down message (mask_value mask) in both_low (codes " sent ") (encode_lower code) (word_low (codes " sent ") refl) (code_low code)

grant_low : (grant : Option Grant) → Low (grant_text grant)
grant_low None = none_low
grant_low (Some grants.Search) = word_low (codes " grant search") refl
grant_low (Some (grants.Range onu)) = numbered_low (codes " grant range") onu refl
grant_low (Some (grants.Poll onu)) = numbered_low (codes " grant poll") onu refl

-- all that stands before an alarm
pub front_low : (mask : Mask) (reply : Reply) (sent : Option Down) (grant : Option Grant) → Low (reply_text reply ++ sent_text mask sent ++ grant_text grant)
front_low mask reply sent grant =
    both_low (reply_text reply ++ sent_text mask sent) (grant_text grant) (both_low (reply_text reply) (sent_text mask sent) (reply_low reply) (sent_low mask sent)) (grant_low grant)

-- ---- the first capital

abbrev place : List ℕ → ℕ
place text = position_or_len is_ascii_uppercase text

place_behind : (front : List ℕ) (capital : ℕ) (rest : List ℕ) → Low front → is_ascii_uppercase capital ≡ true → place (front ++ (capital ∷ rest)) ≡ length front
place_behind [] capital rest low is = rw is refl
place_behind (octet ∷ front) capital rest low is =
    let first = All-head (λ (o : ℕ). is_ascii_uppercase o ≡ false) octet front low in
    let others = place_behind front capital rest (All-tail (λ (o : ℕ). is_ascii_uppercase o ≡ false) octet front low) is in
    rw first (omega (arith, others))

place_none : (text : List ℕ) → Low text → place text ≡ length text
place_none [] low = refl
place_none (octet ∷ text) low =
    let first = All-head (λ (o : ℕ). is_ascii_uppercase o ≡ false) octet text low in
    let others = place_none text (All-tail (λ (o : ℕ). is_ascii_uppercase o ≡ false) octet text low) in
    rw first (omega (arith, others))

-- what stands from there on
pub from_none : (text : List ℕ) → Low text → from_capital text ≡ []
unfolding from_capital
from_none text low =
    let none : position is_ascii_uppercase text ≡ None = let all = place_none text low in rw (le-ltb (place text) (length text) (omega (arith, all))) refl in
    ap (from_place text) none

abbrev pub begins_high : List ℕ → Bool
begins_high [] = false
begins_high (octet ∷ octets) = is_ascii_uppercase octet

pub from_first : (front text : List ℕ) → Low front → begins_high text ≡ true → from_capital (front ++ text) ≡ text
unfolding from_capital
from_first front [] low high = cc high
from_first front (capital ∷ rest) low high =
    let whole = front ++ (capital ∷ rest) in
    let here = place_behind front capital rest low high in
    let long = length-append front (capital ∷ rest) in
    let within : place whole < length whole = omega (arith, here, long) in
    let some : position is_ascii_uppercase whole ≡ Some (length front) = rw (lt-ltb (place whole) (length whole) within) (ap (λ (n : ℕ). Some n) here) in
    ap (from_place whole) some ∙ drop-append_seam front (capital ∷ rest)
