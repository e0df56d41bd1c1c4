-- A line of a trace is read as what its entry says.
use Rattle.std.proofs.Common.{◌≡◌, ℕ, ◌==◌, ◌<◌, ◌≤◌, ◌^◌, true, false, List, ◌++◌, length, Ok, codes, refl, sym, ap, subst, ◌∙◌, inl, inr, arith, append_assoc, length-append}
use Rattle.std.specs.Prelude.{decimal}
use Rattle.std.proofs.lemmas.Bool.Decides.{nat_tests}
use Rattle.std.proofs.lemmas.Fmt.{decimal_is_IsNumeral}
use Rattle.std.proofs.lemmas.List.{append_cancel_right}
use Rattle.std.proofs.lemmas.List.Elements.{All-weaker}
use Rattle.gp_ploam.specs.declared.check.Mask.{Mask}
use Rattle.gp_machine.specs.declared.answer.Answer.{Answer}
use Rattle.gp_machine.specs.declared.entry.Receipt.{Receipt}
use Rattle.gp_machine.specs.declared.event.Event.{Event}
use Rattle.gp_machine.specs.declared.event.Event.TheVariants as events
use Rattle.gp_trace.specs.Text.{event_text, answer_text, line_of}
use Rattle.gp_lines.specs.Short.{IsShortAnswer}
use Rattle.gp_lines.specs.Told.{IsTold}
use Rattle.gp_lines.specs.Trace.{SplitsLine}
use Rattle.gp_lines.specs.Turn.{without_return}
use Rattle.gp_lines.proofs.FeedLemmas.{is_inside, Inside, joined_inside, number_inside, event_inside, answer_inside}
use Rattle.gp_lines.proofs.ShortLemmas.{line_short}
use Rattle.gp_lines.proofs.SplitLemmas.{body, line_split}
use Rattle.gp_log.specs.Trace.{trace_line}
use Rattle.gp_log.specs.Line.{text_of, ReadsText, Reads}
use Rattle.gp_log.specs.Told.{Answers, entry_says}
use Rattle.gp_log.proofs.FrameLemmas.{frame_told}
use Rattle.gp_log.proofs.WholeLemmas.{Begun, begun, return_kept}

line_told : (mask : Mask) (port : ℕ) (event : Event) (answer : Answer) → Answers mask event answer
    → trace_line port event (answer_text mask answer) ≡ Ok (entry_says mask port event answer)
line_told mask port events.Frame answer told = frame_told mask port answer told
line_told mask port (events.Burst at octets) answer told = refl
line_told mask port (events.Command command) answer told = refl

no_return : (octet : ℕ) → is_inside octet ≡ true → (octet == 13) ≡ false
no_return octet h = grind (arith, nat_tests, h)

body_inside : (mask : Mask) (r : Receipt) → Inside (body mask r)
body_inside mask r =
    let event = event_text r.entry.event in
    let two = joined_inside (decimal r.port) (codes " ") (decimal r.number) (number_inside r.port) refl (number_inside r.number) in
    let three = joined_inside ((decimal r.port ++ codes " ") ++ decimal r.number) (codes " ") event two refl (event_inside r.entry.event) in
    joined_inside ((((decimal r.port ++ codes " ") ++ decimal r.number) ++ codes " ") ++ event) (codes " = ") (answer_text mask r.entry.answer) three refl
    (answer_inside mask r.entry.answer)

body_kept : (mask : Mask) (r : Receipt) → without_return (body mask r) ≡ body mask r
body_kept mask r = return_kept (body mask r) (All-weaker (λ o. is_inside o ≡ true) (λ o. (o == 13) ≡ false) no_return (body mask r) (body_inside mask r))

-- what stands behind the port
abbrev behind : Mask → Receipt → List ℕ
behind mask r =
    codes " " ++ (decimal r.number ++ (codes " " ++ (event_text r.entry.event ++ (codes " = " ++ answer_text mask r.entry.answer))))

apart : (mask : Mask) (r : Receipt) → body mask r ≡ decimal r.port ++ behind mask r
apart mask r = simp append_assoc

body_begun : (mask : Mask) (r : Receipt) → r.port < 2 ^ 64 → Begun (body mask r)
body_begun mask r small = subst Begun (sym (apart mask r)) (begun (decimal r.port) (behind mask r) (decimal_is_IsNumeral r.port small).0)

line_body : (mask : Mask) (r : Receipt) → line_of mask r ≡ body mask r ++ codes "\n"
unfolding line_of
line_body mask r = refl

body_split : (mask : Mask) (r : Receipt) → r.port ≤ 15 → r.number < 2 ^ 64 → IsTold r.entry.event
    → SplitsLine (body mask r) r.port r.number r.entry.event (answer_text mask r.entry.answer)
body_split mask r near small told =
    let split = line_split mask r near small told in
    let same : split.0 ≡ body mask r = append_cancel_right split.0 (body mask r) (codes "\n") (sym split.1 ∙ line_body mask r) in
    subst (λ (t : List ℕ). SplitsLine t r.port r.number r.entry.event (answer_text mask r.entry.answer)) same split.2

body_read : (mask : Mask) (r : Receipt) → r.port ≤ 15 → r.number < 2 ^ 64 → IsTold r.entry.event → Answers mask r.entry.event r.entry.answer
    → ReadsText (text_of (body mask r)) (Ok (entry_says mask r.port r.entry.event r.entry.answer))
body_read mask r near small told answers =
    let head = body_begun mask r (omega (arith, near)) in
    let same : text_of (body mask r) ≡ body mask r = ap without_return head.same ∙ body_kept mask r in
    subst (λ (t : List ℕ). ReadsText t (Ok (entry_says mask r.port r.entry.event r.entry.answer))) (sym same)
    (inr (inl (
      head.other,
      record {
        port = r.port;
        number = r.number;
        event = r.entry.event;
        answer = answer_text mask r.entry.answer;
        split = body_split mask r near small told;
        told = sym (line_told mask r.port r.entry.event r.entry.answer answers);
      },
    )))

body_short : (mask : Mask) (r : Receipt) → length (line_of mask r) ≤ 4096 → length (body mask r) ≤ 4096
body_short mask r short =
    let long = ap length (line_body mask r) in
    let all = length-append (body mask r) (codes "\n") in
    omega (arith, long, all, short)

pub traced_told : (mask : Mask) (r : Receipt) → r.port ≤ 15 → r.number < 2 ^ 64 → IsTold r.entry.event → IsShortAnswer r.entry.answer
    → Answers mask r.entry.event r.entry.answer
    → (text : List ℕ) × (line_of mask r ≡ text ++ codes "\n") × Reads text (Ok (entry_says mask r.port r.entry.event r.entry.answer))
traced_told mask r near small told short answers =
    (body mask r, line_body mask r, inr (body_short mask r (line_short mask r told short), body_read mask r near small told answers))
