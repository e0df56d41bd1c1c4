-- A line of a log that is written is one: it isn't too long, and is neither a remark nor a line of a trace.
use Rattle.std.proofs.Common.{◌≡◌, ℕ, ◌*◌, ◌%◌, ◌/◌, ◌==◌, ◌&&◌, ◌<◌, ◌≤◌, ◌^◌, Bool, true, false, List, [], ◌∷◌, ◌++◌, length, Option, None, Some, Ok, codes, refl, sym, ap, subst, ◌∙◌, inr, arith, append_assoc, length-append}
use Rattle.std.specs.Prelude.{decimal, not}
use Rattle.std.proofs.lemmas.Bool.{false≢true}
use Rattle.std.proofs.lemmas.Bool.Decides.{nat_tests}
use Rattle.std.proofs.lemmas.Fmt.{decimal_is_IsNumeral}
use Rattle.std.proofs.lemmas.List.Elements.{All-head, All-tail, All-weaker, All-append, All-cons, All-nil}
use Rattle.std.proofs.lemmas.List.Sums.{AllPass-from_list_all}
use Rattle.std.specs.Char.{is_ascii_digit}
use Rattle.std.specs.List.{All, list_all}
use Rattle.std.specs.Str.Parse.{IsNumeral}
use Rattle.hex.specs.Hex.{encode_with, encode_lower, hex_digit_value, lower_digits}
use Rattle.hex.proofs.HexLemmas.{length-encode_with}
use Rattle.gp_ranging.specs.declared.grant.Grant.{Grant}
use Rattle.gp_ranging.specs.declared.grant.Grant.TheVariants as grants
use Rattle.gp_lines.specs.Turn.{is_remark, without_return}
use Rattle.gp_lines.proofs.LengthLemmas.{number_short}
use Rattle.gp_log.specs.declared.line.LogLine.TheVariants as line
use Rattle.gp_log.specs.declared.said.Said.{Said}
use Rattle.gp_log.specs.declared.said.Said.TheVariants as said
use Rattle.gp_log.specs.Time.{frame_time}
use Rattle.gp_log.specs.Log.{entry_in}
use Rattle.gp_log.specs.Line.{without_order_mark, text_of, IsTraceLine, ReadsText, Reads}
use Rattle.gp_log.specs.Text.{delay_text, grant_text, said_text, entry_text, IsDelay, IsOctetGrant, CanBeSaid, CanBeWritten}
use Rattle.gp_log.proofs.DigitLemmas.{numeral_digits, AreSmall, high_digit, low_digit, high_told, low_told}
use Rattle.gp_log.proofs.BackLemmas.{parts, entry_back}

-- ---- neither `=` nor a carriage return

abbrev is_clean : ℕ → Bool
is_clean octet = not (octet == 61) && not (octet == 13)

abbrev Clean : List ℕ → Type 0
Clean text = All (λ octet. is_clean octet ≡ true) text

word_clean : (word : List ℕ) → list_all is_clean word ≡ true → Clean word
word_clean word h = AllPass-from_list_all is_clean word h

both_clean : (first second : List ℕ) → Clean first → Clean second → Clean (first ++ second)
both_clean first second one other = All-append (λ (o : ℕ). is_clean o ≡ true) first second one other

digit_clean : (octet : ℕ) → is_ascii_digit octet ≡ true → is_clean octet ≡ true
digit_clean octet h = grind (arith, nat_tests, h)

hex_clean : (octet value : ℕ) → hex_digit_value octet ≡ Some value → is_clean octet ≡ true
hex_clean octet value h = grind (arith, nat_tests, h)

number_clean : (number : ℕ) → number < 2 ^ 64 → Clean (decimal number)
number_clean number small =
    All-weaker (λ o. is_ascii_digit o ≡ true) (λ o. is_clean o ≡ true) digit_clean (decimal number)
    (numeral_digits (decimal number) (decimal_is_IsNumeral number small).0)

code_clean : (octets : List ℕ) → AreSmall octets → Clean (encode_lower octets)
unfolding encode_with
code_clean [] all = All-nil (λ (o : ℕ). is_clean o ≡ true)
code_clean (octet ∷ octets) all =
    let small = All-head (λ (o : ℕ). o < 256) octet octets all in
    All-cons (λ (o : ℕ). is_clean o ≡ true) (high_digit octet) (low_digit octet ∷ encode_lower octets) (hex_clean (high_digit octet) (octet / 16) (high_told octet small))
    (All-cons (λ (o : ℕ). is_clean o ≡ true) (low_digit octet) (encode_lower octets) (hex_clean (low_digit octet) (octet % 16) (low_told octet))
    (code_clean octets (All-tail (λ (o : ℕ). o < 256) octet octets all)))

grant_clean : (grant : Grant) → IsOctetGrant grant → Clean (grant_text grant)
grant_clean grants.Search can = word_clean (codes "grant search") refl
grant_clean (grants.Range onu) can = both_clean (codes "grant range ") (decimal onu) (word_clean (codes "grant range ") refl) (number_clean onu (omega (arith, can)))
grant_clean (grants.Poll onu) can = both_clean (codes "grant poll ") (decimal onu) (word_clean (codes "grant poll ") refl) (number_clean onu (omega (arith, can)))

delay_clean : (delay : Option ℕ) → IsDelay delay → Clean (delay_text delay)
delay_clean None can = All-nil (λ (o : ℕ). is_clean o ≡ true)
delay_clean (Some delay) can = both_clean (codes " ") (decimal delay) (word_clean (codes " ") refl) (number_clean delay (omega (arith, can)))

said_clean : (x : Said) → CanBeSaid x → Clean (said_text x)
said_clean (said.Down octets) can = both_clean (codes "down ") (encode_lower octets) (word_clean (codes "down ") refl) (code_clean octets can.1)
said_clean (said.Up octets delay) can =
    both_clean (codes "up " ++ encode_lower octets) (delay_text delay)
    (both_clean (codes "up ") (encode_lower octets) (word_clean (codes "up ") refl) (code_clean octets can.0.1)) (delay_clean delay can.1)
said_clean (said.Grant grant) can = grant_clean grant can

-- a line, from its parts
abbrev joined : List ℕ → List ℕ → List ℕ → List ℕ
joined first second third = first ++ (32 ∷ (second ++ (32 ∷ third)))

joined_clean : (first second third : List ℕ) → Clean first → Clean second → Clean third → Clean (joined first second third)
joined_clean first second third one two three =
    both_clean first (32 ∷ (second ++ (32 ∷ third))) one
    (All-cons (λ (o : ℕ). is_clean o ≡ true) 32 (second ++ (32 ∷ third)) refl
    (both_clean second (32 ∷ third) two (All-cons (λ (o : ℕ). is_clean o ≡ true) 32 third refl three)))

-- ---- no line of a trace

not_equals : is_clean 61 ≡ true → ⊥
not_equals h = false≢true h

no_equals : (head answer : List ℕ) → Clean (head ++ (32 ∷ 61 ∷ 32 ∷ answer)) → ⊥
no_equals [] answer all =
    not_equals (All-head (λ (o : ℕ). is_clean o ≡ true) 61 (32 ∷ answer) (All-tail (λ (o : ℕ). is_clean o ≡ true) 32 (61 ∷ 32 ∷ answer) all))
no_equals (octet ∷ head) answer all = no_equals head answer (All-tail (λ (o : ℕ). is_clean o ≡ true) octet (head ++ (32 ∷ 61 ∷ 32 ∷ answer)) all)

no_trace : (text : List ℕ) → Clean text → IsTraceLine text → ⊥
no_trace text clean t =
    let split = t.4 in
    let apart : text ≡ split.head ++ (32 ∷ 61 ∷ 32 ∷ t.3) = split.apart ∙ append_assoc split.head (codes " = ") t.3 in
    no_equals split.head t.3 (subst Clean apart clean)

-- ---- the text of the line

pub return_kept : (text : List ℕ) → All (λ octet. (octet == 13) ≡ false) text → without_return text ≡ text
return_kept [] h = refl
return_kept (octet ∷ []) h = rw (All-head (λ (o : ℕ). (o == 13) ≡ false) octet [] h) refl
return_kept (octet ∷ next ∷ rest) h =
    ap (λ (t : List ℕ). octet ∷ t) (return_kept (next ∷ rest) (All-tail (λ (o : ℕ). (o == 13) ≡ false) octet (next ∷ rest) h))

not_return : (octet : ℕ) → is_clean octet ≡ true → (octet == 13) ≡ false
not_return octet h = grind (arith, nat_tests, h)

clean_kept : (text : List ℕ) → Clean text → without_return text ≡ text
clean_kept text clean = return_kept text (All-weaker (λ o. is_clean o ≡ true) (λ o. (o == 13) ≡ false) not_return text clean)

not_mark : (octet : ℕ) → is_ascii_digit octet ≡ true → (octet == 239) ≡ false
not_mark octet h = grind (arith, nat_tests, h)

mark_kept : (octet : ℕ) (text : List ℕ) → is_ascii_digit octet ≡ true → without_order_mark (octet ∷ text) ≡ octet ∷ text
mark_kept octet [] h = refl
mark_kept octet (second ∷ []) h = refl
mark_kept octet (second ∷ third ∷ text) h = rw (not_mark octet h) refl

no_remark : (octet : ℕ) → is_ascii_digit octet ≡ true → (octet == 35) ≡ false
no_remark octet h = grind (arith, nat_tests, h)

-- what begins with a number is no remark, and has no mark in front
pub record Begun (text : List ℕ) : Type 0 where
  pub same : without_order_mark text ≡ text
  pub other : is_remark text ≡ false

pub begun : (number : List ℕ) (text : List ℕ) → IsNumeral 10 number → Begun (number ++ text)
begun [] text is = let some = is.0 in absurd (omega (arith, some))
begun (octet ∷ number) text is =
    let digit = All-head (λ (o : ℕ). is_ascii_digit o ≡ true) octet number (numeral_digits (octet ∷ number) is) in
    record { same = mark_kept octet (number ++ text) digit; other = no_remark octet digit }

-- ---- its length

grant_short : (grant : Grant) → length (grant_text grant) ≤ 100
grant_short grants.Search = omega arith
grant_short (grants.Range onu) = let all = length-append (codes "grant range ") (decimal onu) in let short = number_short onu in omega (arith, all, short)
grant_short (grants.Poll onu) = let all = length-append (codes "grant poll ") (decimal onu) in let short = number_short onu in omega (arith, all, short)

delay_short : (delay : Option ℕ) → length (delay_text delay) ≤ 65
delay_short None = omega arith
delay_short (Some delay) = let all = length-append (codes " ") (decimal delay) in let short = number_short delay in omega (arith, all, short)

said_short : (x : Said) → CanBeSaid x → length (said_text x) ≤ 100
said_short (said.Down octets) can =
    let all = length-append (codes "down ") (encode_lower octets) in
    let code = length-encode_with lower_digits octets in
    let count = can.0 in omega (arith, all, code, count)
said_short (said.Up octets delay) can =
    let front = length-append (codes "up ") (encode_lower octets) in
    let all = length-append (codes "up " ++ encode_lower octets) (delay_text delay) in
    let code = length-encode_with lower_digits octets in
    let short = delay_short delay in
    let count = can.0.0 in omega (arith, front, all, code, short, count)
said_short (said.Grant grant) can = grant_short grant

joined_short : (first second third : List ℕ) → length first ≤ 64 → length second ≤ 64 → length third ≤ 100 → length (joined first second third) ≤ 4096
joined_short first second third one two three =
    let front = length-append first (32 ∷ (second ++ (32 ∷ third))) in
    let back = length-append second (32 ∷ third) in
    omega (arith, front, back, one, two, three)

-- ---- the line

joined_back : (port frames : ℕ) (x : Said) → CanBeWritten port frames x
    → Reads (joined (decimal port) (decimal frames) (said_text x)) (Ok (line.Log port (frames * frame_time) x))
joined_back port frames x can =
    let text = joined (decimal port) (decimal frames) (said_text x) in
    let near = can.near in
    let short = can.fits in
    let on : port < 2 ^ 64 = omega (arith, near) in
    let small : frames < 2 ^ 64 = omega (arith, short) in
    let clean = joined_clean (decimal port) (decimal frames) (said_text x) (number_clean port on) (number_clean frames small) (said_clean x can.can) in
    let head = begun (decimal port) (32 ∷ (decimal frames ++ (32 ∷ said_text x))) (decimal_is_IsNumeral port on).0 in
    let same : text_of text ≡ text = ap without_return head.same ∙ clean_kept text clean in
    inr (
      joined_short (decimal port) (decimal frames) (said_text x) (number_short port) (number_short frames) (said_short x can.can),
      subst (λ (t : List ℕ). ReadsText t (Ok (line.Log port (frames * frame_time) x))) (sym same)
          (inr (inr (head.other, no_trace text clean, sym (entry_back port frames x can) ∙ ap entry_in (parts port frames x)))),
    )

pub line_back : (port frames : ℕ) (x : Said) → CanBeWritten port frames x → Reads (entry_text port frames x) (Ok (line.Log port (frames * frame_time) x))
line_back port frames x can =
    subst (λ (t : List ℕ). Reads t (Ok (line.Log port (frames * frame_time) x))) (sym (parts port frames x)) (joined_back port frames x can)
