-- What is written of a trace, read back.
use Rattle.std.proofs.Common.{◌≡◌, ℕ, ◌%◌, ◌/◌, ◌==◌, ◌<◌, ◌^◌, Bool, true, false, List, [], ◌∷◌, ◌++◌, Option, None, Some, codes, refl, sym, ap, subst, ◌∙◌, arith, append_assoc}
use Rattle.std.specs.Prelude.{decimal, not, slice_set}
use Rattle.std.proofs.lemmas.Bool.Decides.{nat_tests}
use Rattle.std.proofs.lemmas.Fmt.{decimal_is_IsNumeral}
use Rattle.std.proofs.lemmas.List.{append-nil}
use Rattle.std.proofs.lemmas.List.Elements.{All-head, All-tail, All-weaker, All-append, All-cons, All-nil}
use Rattle.std.proofs.lemmas.List.Sums.{AllPass-from_list_all}
use Rattle.std.specs.Char.{is_ascii_digit}
use Rattle.std.specs.List.{All, list_all}
use Rattle.hex.specs.Hex.{encode_with, encode_lower, hex_digit_value}
use Rattle.gp_ranging.specs.declared.grant.Grant.{Grant}
use Rattle.gp_ranging.specs.declared.grant.Grant.TheVariants as grants
use Rattle.gp_flow.specs.Lines.{lines_of, with_feeds}
use Rattle.gp_flow.proofs.LineLemmas.{NoFeed, NoFeeds, lines_fed}
use Rattle.gp_log.specs.declared.line.LogLine.{LogLine}
use Rattle.gp_log.specs.declared.said.Said.{Said}
use Rattle.gp_log.specs.declared.said.Said.TheVariants as said
use Rattle.gp_log.specs.Text.{delay_text, grant_text, said_text, entry_text, IsDelay, IsOctetGrant, CanBeSaid, CanBeWritten}
use Rattle.gp_log.proofs.DigitLemmas.{numeral_digits, AreSmall, high_digit, low_digit, high_told, low_told}
use Rattle.gp_log.proofs.BackLemmas.{parts}
use Rattle.gp_log.proofs.WholeLemmas.{line_back}
use Rattle.gp_transcribe.specs.Entries.{CanBeLogged, Transcribes, said_line}
use Rattle.gp_transcribe.specs.Outcome.{AreTranscribed}
use Rattle.gp_transcribe.specs.Back.{AreRead, TraceSays, TraceSaysAll, entries_at, entry_at}

-- ---- a line of a log has no line feed

abbrev is_inside : ℕ → Bool
is_inside octet = not (octet == 10)

abbrev Inside : List ℕ → Type 0
Inside text = All (λ octet. is_inside octet ≡ true) text

word_inside : (word : List ℕ) → list_all is_inside word ≡ true → Inside word
word_inside word h = AllPass-from_list_all is_inside word h

both_inside : (first second : List ℕ) → Inside first → Inside second → Inside (first ++ second)
both_inside first second one other = All-append (λ (o : ℕ). is_inside o ≡ true) first second one other

digit_inside : (octet : ℕ) → is_ascii_digit octet ≡ true → is_inside octet ≡ true
digit_inside octet h = grind (arith, nat_tests, h)

hex_inside : (octet value : ℕ) → hex_digit_value octet ≡ Some value → is_inside octet ≡ true
hex_inside octet value h = grind (arith, nat_tests, h)

number_inside : (number : ℕ) → number < 2 ^ 64 → Inside (decimal number)
number_inside number small =
    All-weaker (λ o. is_ascii_digit o ≡ true) (λ o. is_inside o ≡ true) digit_inside (decimal number)
    (numeral_digits (decimal number) (decimal_is_IsNumeral number small).0)

code_inside : (octets : List ℕ) → AreSmall octets → Inside (encode_lower octets)
unfolding encode_with
code_inside [] all = All-nil (λ (o : ℕ). is_inside o ≡ true)
code_inside (octet ∷ octets) all =
    let small = All-head (λ (o : ℕ). o < 256) octet octets all in
    All-cons (λ (o : ℕ). is_inside o ≡ true) (high_digit octet) (low_digit octet ∷ encode_lower octets) (hex_inside (high_digit octet) (octet / 16) (high_told octet small))
    (All-cons (λ (o : ℕ). is_inside o ≡ true) (low_digit octet) (encode_lower octets) (hex_inside (low_digit octet) (octet % 16) (low_told octet))
    (code_inside octets (All-tail (λ (o : ℕ). o < 256) octet octets all)))

onu_inside : (onu : ℕ) → onu < 256 → Inside (decimal onu)
onu_inside onu small = number_inside onu (omega (arith, small))

grant_inside : (grant : Grant) → IsOctetGrant grant → Inside (grant_text grant)
grant_inside grants.Search h = word_inside (codes "grant search") refl
grant_inside (grants.Range onu) h = both_inside (codes "grant range ") (decimal onu) (word_inside (codes "grant range ") refl) (onu_inside onu h)
grant_inside (grants.Poll onu) h = both_inside (codes "grant poll ") (decimal onu) (word_inside (codes "grant poll ") refl) (onu_inside onu h)

delay_inside : (delay : Option ℕ) → IsDelay delay → Inside (delay_text delay)
delay_inside None h = All-nil (λ (o : ℕ). is_inside o ≡ true)
delay_inside (Some delay) h = both_inside (codes " ") (decimal delay) (word_inside (codes " ") refl) (number_inside delay (omega (arith, h)))

said_inside : (x : Said) → CanBeSaid x → Inside (said_text x)
said_inside (said.Down octets) h = both_inside (codes "down ") (encode_lower octets) (word_inside (codes "down ") refl) (code_inside octets h.1)
said_inside (said.Up octets delay) h =
    both_inside (codes "up ") (encode_lower octets ++ delay_text delay) (word_inside (codes "up ") refl)
    (both_inside (encode_lower octets) (delay_text delay) (code_inside octets h.0.1) (delay_inside delay h.1))
said_inside (said.Grant grant) h = grant_inside grant h

spaced_inside : (text : List ℕ) → Inside text → Inside (32 ∷ text)
spaced_inside text h = All-cons (λ (o : ℕ). is_inside o ≡ true) 32 text refl h

entry_inside : (port frames : ℕ) (x : Said) → CanBeWritten port frames x → Inside (entry_text port frames x)
entry_inside port frames x can =
    let near = can.near in
    let fits = can.fits in
    let small : frames < 2 ^ 64 = omega (arith, fits) in
    let low : port < 2 ^ 64 = omega (arith, near) in
    subst Inside (sym (parts port frames x))
    (both_inside (decimal port) (32 ∷ (decimal frames ++ (32 ∷ said_text x))) (number_inside port low)
    (spaced_inside (decimal frames ++ (32 ∷ said_text x))
    (both_inside (decimal frames) (32 ∷ said_text x) (number_inside frames small) (spaced_inside (said_text x) (said_inside x can.can)))))

no_feed : (octet : ℕ) → is_inside octet ≡ true → (octet == 10) ≡ false
no_feed octet h = grind (arith, nat_tests, h)

unfed : (text : List ℕ) → Inside text → NoFeed text
unfed [] h = tt
unfed (octet ∷ text) h =
    (no_feed octet (All-head (λ (o : ℕ). is_inside o ≡ true) octet text h), unfed text (All-tail (λ (o : ℕ). is_inside o ≡ true) octet text h))

-- ---- lines one after another

fed_more : (first second : List (List ℕ)) → with_feeds (first ++ second) ≡ with_feeds first ++ with_feeds second
fed_more [] second = refl
fed_more (text ∷ texts) second =
    ap (λ (l : List ℕ). (text ++ 10 ∷ []) ++ l) (fed_more texts second) ∙ sym (append_assoc (text ++ 10 ∷ []) (with_feeds texts) (with_feeds second))

unfed_more : (first second : List (List ℕ)) → NoFeeds first → NoFeeds second → NoFeeds (first ++ second)
unfed_more [] second one other = other
unfed_more (text ∷ texts) second one other = (one.0, unfed_more texts second one.1 other)

read_more : (first second : List (List ℕ)) (entries others : List LogLine) → AreRead first entries → AreRead second others → AreRead (first ++ second) (entries ++ others)
read_more [] second [] others one other = other
read_more [] second (entry ∷ entries) others one other = absurd one
read_more (text ∷ texts) second [] others one other = absurd one
read_more (text ∷ texts) second (entry ∷ entries) others one other = (one.0, read_more texts second entries others one.1 other)

-- these octets are lines that are read as this
record ReadBack (octets : List ℕ) (entries : List LogLine) : Type 0 where
  pub texts : List (List ℕ)
  pub fed : octets ≡ with_feeds texts
  pub unfed : NoFeeds texts
  pub read : AreRead texts entries

both_back : (first second : List ℕ) (entries others : List LogLine) → ReadBack first entries → ReadBack second others → ReadBack (first ++ second) (entries ++ others)
both_back first second entries others one other = record {
  texts = one.texts ++ other.texts;
  fed = ap (λ (l : List ℕ). l ++ second) one.fed ∙ ap (λ (l : List ℕ). with_feeds one.texts ++ l) other.fed ∙ sym (fed_more one.texts other.texts);
  unfed = unfed_more one.texts other.texts one.unfed other.unfed;
  read = read_more one.texts other.texts entries others one.read other.read;
}

none_back : ReadBack [] []
none_back = record { texts = []; fed = refl; unfed = tt; read = tt }

said_back : (port frames : ℕ) (x : Option Said) → CanBeLogged port frames x → ReadBack (said_line port frames x) (entry_at port frames x)
said_back port frames None can = none_back
said_back port frames (Some x) can = record {
  texts = entry_text port frames x ∷ [];
  fed = sym (append-nil (entry_text port frames x ++ codes "\n"));
  unfed = (unfed (entry_text port frames x) (entry_inside port frames x can), tt);
  read = (line_back port frames x can, tt);
}

-- ---- the lines of a trace

-- a line, and what is written of it
record LineBack (old text octets new : List ℕ) : Type 0 where
  pub entries : List LogLine
  pub says : TraceSays old text entries new
  pub back : ReadBack octets entries

line_written : (old text octets new : List ℕ) → Transcribes old text octets new → LineBack old text octets new
line_written old text octets new t = record {
  entries = entries_at t.port t.frames t.first t.second;
  says = record {
    port = t.port;
    is_frame = t.is_frame;
    first = t.first;
    second = t.second;
    read = t.read;
    says = ap (λ (n : ℕ). entries_at t.port n t.first t.second) t.counted;
    next = subst (λ (n : ℕ). new ≡ slice_set old t.port n) t.counted t.next;
  };
  back = subst (λ (l : List ℕ). ReadBack l (entries_at t.port t.frames t.first t.second)) (sym t.written)
      (both_back (said_line t.port t.frames t.first) (said_line t.port t.frames t.second) (entry_at t.port t.frames t.first) (entry_at t.port t.frames t.second)
      (said_back t.port t.frames t.first t.can.0) (said_back t.port t.frames t.second t.can.1));
}

record LinesBack (frames : List ℕ) (texts : List (List ℕ)) (octets : List ℕ) : Type 0 where
  pub entries : List LogLine
  pub says : TraceSaysAll frames texts entries
  pub back : ReadBack octets entries

lines_written : (frames : List ℕ) (texts : List (List ℕ)) (octets : List ℕ) → AreTranscribed frames texts octets → LinesBack frames texts octets
lines_written frames [] octets h = record { entries = []; says = refl; back = subst (λ (l : List ℕ). ReadBack l []) (sym h) none_back }
lines_written frames (text ∷ texts) octets h =
    let line = line_written frames text h.0 h.2 h.3 in
    let rest = lines_written h.2 texts h.1 h.4 in
    record {
      entries = line.entries ++ rest.entries;
      says = (line.entries, rest.entries, h.2, line.says, rest.says, refl);
      back = subst (λ (l : List ℕ). ReadBack l (line.entries ++ rest.entries)) (sym h.5) (both_back h.0 h.1 line.entries rest.entries line.back rest.back);
    }

pub trace_read_back : (frames : List ℕ) (texts : List (List ℕ)) (octets : List ℕ) → AreTranscribed frames texts octets
    → (entries : List LogLine) × TraceSaysAll frames texts entries × AreRead (lines_of octets) entries
trace_read_back frames texts octets h =
    let all = lines_written frames texts octets h in
    let same : lines_of octets ≡ all.back.texts = ap lines_of all.back.fed ∙ lines_fed all.back.texts all.back.unfed in
    (all.entries, all.says, subst (λ (l : List (List ℕ)). AreRead l all.entries) (sym same) all.back.read)
