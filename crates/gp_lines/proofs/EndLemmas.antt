-- The line feed that ends a line of a trace.
use Rattle.std.proofs.Common.{◌≡◌, ℕ, true, false, List, ◌++◌, length, take, codes, refl, sym, ap, ◌∙◌, arith, length-append}
use Rattle.std.specs.Prelude.{decimal}
use Rattle.std.proofs.lemmas.Bool.Decides.{nat_tests}
use Rattle.std.proofs.lemmas.List.{take_at}
use Rattle.std.proofs.lemmas.List.Elements.{All-weaker, All-same}
use Rattle.std.specs.List.{All}
use Rattle.gp_ploam.specs.declared.check.Mask.{Mask}
use Rattle.gp_machine.specs.declared.entry.Receipt.{Receipt}
use Rattle.gp_trace.specs.Text.{event_text, answer_text, line_of}
use Rattle.gp_lines.specs.Trace.{is_feed}
use Rattle.gp_lines.proofs.FeedLemmas.{is_inside, Inside, joined_inside, number_inside, event_inside, answer_inside}
use Rattle.gp_lines.proofs.SplitLemmas.{body}

no_feed : (octet : ℕ) → is_inside octet ≡ true → is_feed octet ≡ false
no_feed octet h = grind (arith, nat_tests, h)

body_inside : (mask : Mask) (r : Receipt) → Inside (body mask r)
body_inside mask r =
    let event = event_text r.entry.event in
    let two = joined_inside (decimal r.port) (codes " ") (decimal r.number) (number_inside r.port) refl (number_inside r.number) in
    let three = joined_inside ((decimal r.port ++ codes " ") ++ decimal r.number) (codes " ") event two refl (event_inside r.entry.event) in
    joined_inside ((((decimal r.port ++ codes " ") ++ decimal r.number) ++ codes " ") ++ event) (codes " = ") (answer_text mask r.entry.answer) three refl
    (answer_inside mask r.entry.answer)

same_front : (first second : List ℕ) → first ++ codes "\n" ≡ second ++ codes "\n" → second ≡ first
same_front first second same =
    let one = length-append first (codes "\n") in
    let other = length-append second (codes "\n") in
    let long = ap length same in
    let equal : length first ≡ length second = omega (arith, one, other, long) in
    sym (take_at second (codes "\n") (length second) refl) ∙ ap (take (length second)) (sym same) ∙ take_at first (codes "\n") (length second) equal

pub ended : (mask : Mask) (r : Receipt) → (text : List ℕ) × (line_of mask r ≡ text ++ codes "\n")
unfolding line_of
ended mask r = (body mask r, refl)

pub ended_once : (mask : Mask) (r : Receipt) (text : List ℕ) → line_of mask r ≡ text ++ codes "\n" → All (λ octet. is_feed octet ≡ false) text
unfolding line_of
ended_once mask r text is =
    All-same (λ (o : ℕ). is_feed o ≡ false) text (body mask r) (same_front (body mask r) text is)
    (All-weaker (λ o. is_inside o ≡ true) (λ o. is_feed o ≡ false) no_feed (body mask r) (body_inside mask r))
