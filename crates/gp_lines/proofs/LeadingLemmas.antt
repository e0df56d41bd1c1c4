-- What a text begins with, and the lines and turns that are read by it.
use Rattle.std.proofs.Common.{◌≡◌, ℕ, suc, ◌+◌, ◌-◌, ◌<◌, ◌≤◌, List, [], ◌∷◌, ◌++◌, take, drop, length, codes, Ok, refl, sym, ap, ◌∙◌, arith, append_assoc, get_or, take-append-drop, drop-cons, add-one, ◌^◌, inl}
use Rattle.std.proofs.lemmas.List.{append-nil, length-take-le, take_rest}
use Rattle.std.proofs.lemmas.List.Splits.{slice_split_at}
use Rattle.std.specs.List.{All}
use Rattle.gp_machine.specs.declared.event.Event.{Event}
use Rattle.gp_machine.specs.declared.event.Event.TheVariants.{Frame, Burst}
use Rattle.gp_ploam.specs.declared.check.Mask.{Mask}
use Rattle.gp_lines.specs.declared.turn.Asked.TheVariants as asked
use Rattle.gp_lines.specs.Leading.{NumberLeads, EventLeads}
use Rattle.gp_lines.specs.Parts.{is_space, parts_of}
use Rattle.gp_lines.specs.Reading.{code_in}
use Rattle.gp_lines.specs.Trace.{SplitsLine}
use Rattle.gp_lines.specs.TurnReading.{turn_of_parts}
use Rattle.gp_lines.proofs.DigitLemmas.{AreDigits}
use Rattle.gp_lines.proofs.SplitLemmas.{head_parts, numeral_plain}
use Rattle.gp_lines.proofs.AskedLemmas.{text_again}
use Rattle.gp_lines.proofs.ReadLemmas.{code_ok}
use Rattle.gp_lines.proofs.TextLemmas.{IsPlain, hex_are_plain}
use Rattle.gp_lines.proofs.ToldLemmas.{unspaced, event_told, two_parts, burst_parts}

-- a space behind them
pub digits_end : (text : List ℕ) (at number octet : ℕ) → at < length text → 0 < at → octet ≡ get_or text at 0 → octet ≡ 32 → number < 2 ^ 64 → AreDigits (take at text) number
    → NumberLeads text number (take (length text - (at + 1)) (drop (at + 1) text))
digits_end text at number octet within some is space fits h =
    let behind : drop at text ≡ 32 ∷ drop (at + 1) text = rw add-one (drop-cons text at 0 within ∙ ap (λ (o : ℕ). o ∷ drop (suc at) text) (sym is ∙ space)) in
    let rest : take (length text - (at + 1)) (drop (at + 1) text) ≡ drop (at + 1) text = take_rest text (at + 1) in
    let long : length (take at text) ≡ at = length-take-le at text (omega arith) in
    record {
      digits = take at text;
      spelled = ((omega arith, h.digits), h.value);
      fits = fits;
      apart = sym (take-append-drop at text) ∙ ap (λ (l : List ℕ). take at text ++ l) (behind ∙ ap (λ (l : List ℕ). 32 ∷ l) (sym rest));
    }

pub frame_leads : (text rest : List ℕ) → text ≡ codes "frame" ++ rest → EventLeads text Frame rest
frame_leads text rest is = record { words = codes "frame"; told = event_told Frame tt; apart = is }

pub joined : (count : ℕ) (text front back : List ℕ) → front ≡ take count text → back ≡ drop count text → text ≡ front ++ back
joined count text front back first last = sym (rw (first, last) (take-append-drop count text))

pub burst_leads : (text fields behind digits rest octets : List ℕ) (at : ℕ) → text ≡ codes "burst " ++ fields → NumberLeads fields at behind
    → behind ≡ digits ++ rest → code_in digits ≡ Ok octets → at < 2 ^ 32 → EventLeads text (Burst at octets) rest
burst_leads text fields behind digits rest octets at is n cut read below =
    let code = code_ok digits octets read in
    let parts = two_parts n.digits digits (numeral_plain n.digits n.spelled.0) (hex_are_plain digits octets code.0) in
    let whole : text ≡ codes "burst " ++ (n.digits ++ (codes " " ++ (digits ++ rest))) =
    is ∙ ap (λ (l : List ℕ). codes "burst " ++ l) (n.apart ∙ ap (λ (l : List ℕ). n.digits ++ (codes " " ++ l)) cut) in
    record {
      words = codes "burst " ++ ((n.digits ++ codes " ") ++ digits);
      told = (
        n.digits,
        digits,
        burst_parts ((n.digits ++ codes " ") ++ digits) ∙ ap (λ (ps : List (List ℕ)). codes "burst" ∷ ps) parts,
        n.spelled,
        below,
        code,
      );
      apart = whole ∙ sym (simp append_assoc);
    }

-- two numbers, an event, and an answer
pub line_cut : (text behind told rest answer : List ℕ) (port number : ℕ) (event : Event) → NumberLeads text port behind
    → NumberLeads behind number told → EventLeads told event rest → rest ≡ codes " = " ++ answer → port ≤ 15 → SplitsLine text port number event answer
line_cut text behind told rest answer port number event first second e is low =
    let apart = head_parts first.digits second.digits e.words (numeral_plain first.digits first.spelled.0) (numeral_plain second.digits second.spelled.0) in
    let whole : text ≡ first.digits ++ (codes " " ++ (second.digits ++ (codes " " ++ (e.words ++ (codes " = " ++ answer))))) =
    first.apart ∙ ap (λ (l : List ℕ). first.digits ++ (codes " " ++ l)) (
    second.apart ∙ ap (λ (l : List ℕ). second.digits ++ (codes " " ++ l)) (e.apart ∙ ap (λ (l : List ℕ). e.words ++ l) is)
    ) in
    record {
      head = (((first.digits ++ codes " ") ++ second.digits) ++ codes " ") ++ e.words;
      apart = whole ∙ sym (simp append_assoc);
      told = (first.digits, second.digits, parts_of e.words, apart, first.spelled, low, second.spelled, second.fits, e.told);
    }

port_parts : (first rest : List ℕ) → All IsPlain first → parts_of (first ++ (codes " " ++ rest)) ≡ first ∷ parts_of rest
unfolding parts_of
port_parts first rest plain = slice_split_at is_space first 32 rest (unspaced first plain) refl

-- a port, an event, and nothing else
pub turn_whole : (mask : Mask) (text told rest : List ℕ) (port : ℕ) (event : Event) → NumberLeads text port told → EventLeads told event rest → length rest ≡ 0 → port ≤ 15
    → turn_of_parts mask (parts_of text) ≡ Ok (asked.Event port event)
turn_whole mask text told [] port event n e none low =
    let apart : parts_of text ≡ n.digits ∷ parts_of e.words =
    ap parts_of (n.apart ∙ ap (λ (l : List ℕ). n.digits ++ (codes " " ++ l)) (e.apart ∙ append-nil e.words))
    ∙ port_parts n.digits e.words (numeral_plain n.digits n.spelled.0) in
    text_again mask text (asked.Event port event) tt (parts_of e.words, (n.digits, apart, n.spelled, low), inl e.told)
turn_whole mask text told (octet ∷ rest) port event n e none low = absurd (omega arith)
