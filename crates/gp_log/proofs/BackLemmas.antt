-- A line of a log that is written is read back.
use Rattle.std.proofs.Common.{◌≡◌, ℕ, ◌*◌, ◌<◌, ◌≤◌, ◌^◌, ◌==◌, true, false, List, [], ◌∷◌, ◌++◌, length, Option, None, Some, Ok, codes, refl, ap, ◌∙◌, arith, append_assoc}
use Rattle.std.specs.Prelude.{decimal}
use Rattle.std.proofs.lemmas.Bool.Decides.{nat_tests}
use Rattle.std.proofs.lemmas.Fmt.{decimal_is_IsNumeral}
use Rattle.std.proofs.lemmas.List.Elements.{All-head}
use Rattle.std.specs.Char.{is_ascii_digit, to_ascii_lowercase}
use Rattle.std.specs.List.{All}
use Rattle.std.specs.Str.Parse.{IsNumeral}
use Rattle.hex.specs.Hex.{encode_lower}
use Rattle.gp_ranging.specs.declared.grant.Grant.{Grant}
use Rattle.gp_ranging.specs.declared.grant.Grant.TheVariants as grants
use Rattle.gp_log.specs.declared.fault.LogFault.TheVariants as fault
use Rattle.gp_log.specs.declared.line.LogLine.TheVariants as line
use Rattle.gp_log.specs.declared.said.Said.{Said}
use Rattle.gp_log.specs.declared.said.Said.TheVariants as said
use Rattle.gp_log.specs.declared.word.Kind.{Kind}
use Rattle.gp_log.specs.declared.word.Kind.TheVariants as kinds
use Rattle.gp_log.specs.Fields.{next, trimmed}
use Rattle.gp_log.specs.Time.{frame_time}
use Rattle.gp_log.specs.Says.{kind_of, delay_of, down_said, up_said, next_onu, word_grant, grant_said, said_of}
use Rattle.gp_log.specs.Log.{entry_of, ported_entry, first_entry, third_entry, entry_in}
use Rattle.gp_log.specs.Text.{delay_text, grant_text, said_text, entry_text, IsDelay, IsOctetGrant, CanBeSaid, CanBeWritten}
use Rattle.gp_log.proofs.DigitLemmas.{numeral_digits, next_behind, number_next, number_last, number_read, number_something, code_next, code_last}
use Rattle.gp_log.proofs.TimeLemmas.{frames_read}

-- ---- what was said

-- the words tell it
record Told (text : List ℕ) (x : Said) : Type 0 where
  kind : Kind
  word : List ℕ
  rest : List ℕ
  cut : next (32 ∷ text) ≡ (word, rest)
  named : kind_of word ≡ Some kind
  told : said_of kind rest ≡ Ok x

nothing_behind : trimmed [] ≡ []
unfolding trimmed
nothing_behind = refl

no_field : next [] ≡ ([], [])
unfolding next trimmed
no_field = refl

down_cut : (text : List ℕ) → next (32 ∷ (codes "down " ++ text)) ≡ (codes "down", 32 ∷ text)
unfolding next trimmed
down_cut text = refl

up_cut : (text : List ℕ) → next (32 ∷ (codes "up " ++ text)) ≡ (codes "up", 32 ∷ text)
unfolding next trimmed
up_cut text = refl

grant_cut : (text : List ℕ) → next (32 ∷ (codes "grant " ++ text)) ≡ (codes "grant", 32 ∷ text)
unfolding next trimmed
grant_cut text = refl

range_cut : (text : List ℕ) → next (32 ∷ (codes "range " ++ text)) ≡ (codes "range", 32 ∷ text)
unfolding next trimmed
range_cut text = refl

poll_cut : (text : List ℕ) → next (32 ∷ (codes "poll " ++ text)) ≡ (codes "poll", 32 ∷ text)
unfolding next trimmed
poll_cut text = refl

search_cut : next (32 ∷ codes "search") ≡ (codes "search", [])
unfolding next trimmed
search_cut = refl

named_down : kind_of (codes "down") ≡ Some kinds.Down
unfolding kind_of
named_down = refl

named_up : kind_of (codes "up") ≡ Some kinds.Up
unfolding kind_of
named_up = refl

named_grant : kind_of (codes "grant") ≡ Some kinds.Grant
unfolding kind_of
named_grant = refl

down_read : (octets : List ℕ) → length octets ≡ 13 → All (λ octet. octet < 256) octets → down_said (32 ∷ encode_lower octets) ≡ Ok (said.Down octets)
unfolding down_said
down_read octets long all = rw (code_last octets long all, nothing_behind) refl

delay_next : (delay : ℕ) → delay < 2 ^ 32 → next (32 ∷ decimal delay) ≡ (decimal delay, [])
delay_next delay small = next_behind (decimal delay) ∙ number_last delay (omega (arith, small))

delay_read : (delay : ℕ) → delay < 2 ^ 32 → delay_of (decimal delay) ≡ Ok (Some delay)
delay_read delay small =
    rw (number_something delay (omega (arith, small)), number_read fault.Number 4294967295 delay (omega (arith, small)) (omega (arith, small))) refl

up_read : (octets : List ℕ) (delay : Option ℕ) → length octets ≡ 13 → All (λ octet. octet < 256) octets → IsDelay delay
    → up_said (32 ∷ (encode_lower octets ++ delay_text delay)) ≡ Ok (said.Up octets delay)
unfolding up_said
up_read octets None long all small = rw (code_next octets [] long all refl, no_field, nothing_behind) refl
up_read octets (Some delay) long all small =
    rw (code_next octets (32 ∷ decimal delay) long all refl, delay_next delay small, delay_read delay small, nothing_behind) refl

onu_read : (onu : ℕ) → onu < 256 → next_onu (32 ∷ decimal onu) ≡ Ok (onu, [])
unfolding next_onu
onu_read onu small =
    rw (next_behind (decimal onu) ∙ number_last onu (omega (arith, small)), number_read fault.Number 255 onu (omega (arith, small)) (omega (arith, small))) refl

search_read : grant_said (32 ∷ codes "search") ≡ Ok (said.Grant grants.Search)
unfolding grant_said word_grant
search_read = rw (search_cut, nothing_behind) refl

range_read : (onu : ℕ) → onu < 256 → grant_said (32 ∷ (codes "range " ++ decimal onu)) ≡ Ok (said.Grant (grants.Range onu))
unfolding grant_said word_grant
range_read onu small = rw (range_cut (decimal onu), onu_read onu small, nothing_behind) refl

poll_read : (onu : ℕ) → onu < 256 → grant_said (32 ∷ (codes "poll " ++ decimal onu)) ≡ Ok (said.Grant (grants.Poll onu))
unfolding grant_said word_grant
poll_read onu small = rw (poll_cut (decimal onu), onu_read onu small, nothing_behind) refl

grant_told : (grant : Grant) → IsOctetGrant grant → Told (grant_text grant) (said.Grant grant)
grant_told grants.Search can =
    record { kind = kinds.Grant; word = codes "grant"; rest = 32 ∷ codes "search"; cut = grant_cut (codes "search"); named = named_grant; told = search_read }
grant_told (grants.Range onu) can =
    record {
      kind = kinds.Grant;
      word = codes "grant";
      rest = 32 ∷ (codes "range " ++ decimal onu);
      cut = grant_cut (codes "range " ++ decimal onu);
      named = named_grant;
      told = range_read onu can;
    }
grant_told (grants.Poll onu) can =
    record {
      kind = kinds.Grant;
      word = codes "grant";
      rest = 32 ∷ (codes "poll " ++ decimal onu);
      cut = grant_cut (codes "poll " ++ decimal onu);
      named = named_grant;
      told = poll_read onu can;
    }

said_told : (x : Said) → CanBeSaid x → Told (said_text x) x
said_told (said.Down octets) can =
    record { kind = kinds.Down; word = codes "down"; rest = 32 ∷ encode_lower octets; cut = down_cut (encode_lower octets); named = named_down; told = down_read octets can.0 can.1 }
said_told (said.Up octets delay) can =
    record {
      kind = kinds.Up;
      word = codes "up";
      rest = 32 ∷ (encode_lower octets ++ delay_text delay);
      cut = ap (λ (t : List ℕ). next (32 ∷ t)) (append_assoc (codes "up ") (encode_lower octets) (delay_text delay)) ∙ up_cut (encode_lower octets ++ delay_text delay);
      named = named_up;
      told = up_read octets delay can.0.0 can.0.1 can.1;
    }
said_told (said.Grant grant) can = grant_told grant can

-- ---- the line

digit_no_letter : (octet letter : ℕ) → is_ascii_digit octet ≡ true → is_ascii_digit letter ≡ false → (to_ascii_lowercase octet == letter) ≡ false
digit_no_letter octet letter digit other = grind (arith, nat_tests, digit, other)

-- a number is none of the words
pub numeral_no_kind : (text : List ℕ) → IsNumeral 10 text → kind_of text ≡ None
unfolding kind_of
numeral_no_kind [] is = absurd (omega (arith, is.0))
numeral_no_kind (octet ∷ text) is =
    let digit = All-head (λ (o : ℕ). is_ascii_digit o ≡ true) octet text (numeral_digits (octet ∷ text) is) in
    rw (digit_no_letter octet 100 digit refl, digit_no_letter octet 117 digit refl, digit_no_letter octet 103 digit refl) refl

entry_told : (port frames : ℕ) (kind : Kind) (rest : List ℕ) (x : Said) → port ≤ 15 → frames < 2 ^ 64 → frames * frame_time < 2 ^ 64 → said_of kind rest ≡ Ok x
    → ported_entry (decimal port) (decimal frames) kind rest ≡ Ok (line.Log port (frames * frame_time) x)
unfolding ported_entry entry_of
entry_told port frames kind rest x near small short told =
    rw (number_read fault.Number 15 port (omega (arith, near)) near, frames_read frames small short, told) refl

third_told : (port frames : ℕ) (text : List ℕ) (x : Said) → port ≤ 15 → frames < 2 ^ 64 → frames * frame_time < 2 ^ 64 → Told text x
    → third_entry (decimal port) (decimal frames) (kind_of (next (32 ∷ text)).0) (next (32 ∷ text)).1 ≡ Ok (line.Log port (frames * frame_time) x)
third_told port frames text x near small short t =
    rw (t.cut, t.named) (entry_told port frames t.kind t.rest x near small short t.told)

pub parts : (port frames : ℕ) (x : Said) → entry_text port frames x ≡ decimal port ++ (32 ∷ (decimal frames ++ (32 ∷ said_text x)))
unfolding entry_text
parts port frames x = simp append_assoc

second_told : (port frames : ℕ) (text : List ℕ) (x : Said) → port ≤ 15 → frames < 2 ^ 64 → frames * frame_time < 2 ^ 64 → Told text x
    → first_entry (decimal port, 32 ∷ (decimal frames ++ (32 ∷ text))) ≡ Ok (line.Log port (frames * frame_time) x)
second_told port frames text x near small short t =
    let cut : next (32 ∷ (decimal frames ++ (32 ∷ text))) ≡ (decimal frames, 32 ∷ text) =
    next_behind (decimal frames ++ (32 ∷ text)) ∙ number_next frames (32 ∷ text) small refl in
    rw (cut, numeral_no_kind (decimal frames) (decimal_is_IsNumeral frames small).0) (third_told port frames text x near small short t)

pub entry_back : (port frames : ℕ) (x : Said) → CanBeWritten port frames x → entry_in (entry_text port frames x) ≡ Ok (line.Log port (frames * frame_time) x)
entry_back port frames x can =
    let near = can.near in
    let short = can.fits in
    let small : frames < 2 ^ 64 = omega (arith, short) in
    let cut : next (entry_text port frames x) ≡ (decimal port, 32 ∷ (decimal frames ++ (32 ∷ said_text x))) =
    ap next (parts port frames x) ∙ number_next port (32 ∷ (decimal frames ++ (32 ∷ said_text x))) (omega (arith, near)) refl in
    ap first_entry cut ∙ second_told port frames (said_text x) x near small short (said_told x can.can)
