-- The parts of a line of a trace, as they are spelled, and the first that two lines differ in (this profile's own
-- rule).
use Rattle.std.specs.Prelude.{ℕ, Bool, true, false, not, List, [], ◌∷◌, Option, None, Some, codes, if◌then◌else◌}
use Rattle.std.specs.Option.{option_copied}
use Rattle.std.specs.Str.{bytes_eq}
use Rattle.gp_decode.specs.LineText.{behind}
use Rattle.gp_differ.specs.declared.difference.Difference.{Difference}
use Rattle.gp_differ.specs.declared.difference.Difference.TheVariants.{Port, Number, Event, Reply, Sent, Grant, Alarm}
use Rattle.gp_differ.specs.declared.parts.LineParts.{LineParts}

-- a text that is cut at its head, where a word stands there, and else behind its first octet, as the rest is cut
abbrev pub cut_here : Option (List ℕ) → ℕ → List ℕ × Option (List ℕ) → List ℕ × Option (List ℕ)
cut_here (Some rest) octet later = ([], Some rest)
cut_here None octet later = (octet ∷ later.0, later.1)

-- a text that is cut at the first place of a word: what stands before it, and what stands behind it, if it is there
abbrev pub cut_at : List ℕ → List ℕ → List ℕ × Option (List ℕ)
cut_at word [] = ([], None)
cut_at word (octet ∷ text) = cut_here (behind word (octet ∷ text)) octet (cut_at word text)

-- a text, empty where there is none
abbrev pub or_empty : Option (List ℕ) → List ℕ
or_empty None = []
or_empty (Some text) = text

-- what a line spells of an entry: its port, its number on that port, what happened, what the port replied, the code
-- that was sent, the grant and the alarm, each of these three if the line has one
pub record Spelled : Type 0 where
  pub port : List ℕ
  pub number : List ℕ
  pub event : List ℕ
  pub reply : List ℕ
  pub sent : Option (List ℕ)
  pub grant : Option (List ℕ)
  pub alarm : Option (List ℕ)

-- what stands before the first ` = ` of a line, and what stands behind it
abbrev pub head_in : List ℕ → List ℕ
head_in text = (cut_at (codes " = ") text).0

abbrev pub answer_in : List ℕ → List ℕ
answer_in text = or_empty (cut_at (codes " = ") text).1

-- an answer without its alarm, and without its grant too
abbrev pub unalarmed : List ℕ → List ℕ
unalarmed text = (cut_at (codes " alarm ") (answer_in text)).0

abbrev pub ungranted : List ℕ → List ℕ
ungranted text = (cut_at (codes " grant ") (unalarmed text)).0

-- what stands behind a port
abbrev pub behind_port : List ℕ → List ℕ
behind_port text = or_empty (cut_at (codes " ") (head_in text)).1

-- the parts of a line
abbrev pub spelled : List ℕ → Spelled
spelled text =
    record {
      port = (cut_at (codes " ") (head_in text)).0;
      number = (cut_at (codes " ") (behind_port text)).0;
      event = or_empty (cut_at (codes " ") (behind_port text)).1;
      reply = (cut_at (codes " sent ") (ungranted text)).0;
      sent = (cut_at (codes " sent ") (ungranted text)).1;
      grant = (cut_at (codes " grant ") (unalarmed text)).1;
      alarm = (cut_at (codes " alarm ") (answer_in text)).1;
    }

-- the same, as the program holds it
abbrev pub view_of : LineParts → Spelled
view_of parts =
    record {
      port = parts.port.now;
      number = parts.number.now;
      event = parts.event.now;
      reply = parts.reply.now;
      sent = option_copied parts.sent;
      grant = option_copied parts.grant;
      alarm = option_copied parts.alarm;
    }

-- two texts are the same, or neither is there
abbrev pub are_same : Option (List ℕ) → Option (List ℕ) → Bool
are_same None None = true
are_same None (Some second) = false
are_same (Some first) None = false
are_same (Some first) (Some second) = bytes_eq first second

-- the first part of the answer that differs: the alarm, where no other does
abbrev pub first_of_answer : Spelled → Spelled → Difference
first_of_answer given said =
    if not (bytes_eq given.reply said.reply) then Reply
    else if not (are_same given.sent said.sent) then Sent
    else if not (are_same given.grant said.grant) then Grant
    else Alarm

-- the first part that differs
abbrev pub first_other : Spelled → Spelled → Difference
first_other given said =
    if not (bytes_eq given.port said.port) then Port
    else if not (bytes_eq given.number said.number) then Number
    else if not (bytes_eq given.event said.event) then Event
    else first_of_answer given said
