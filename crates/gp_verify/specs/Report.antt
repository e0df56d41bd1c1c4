-- What is told of the line that can't be (this profile's own rule).
use Rattle.std.specs.Prelude.{◌≡◌, ℕ, ◌-◌, ◌==◌, Bool, false, if◌then◌else◌, List, [], ◌∷◌, ◌++◌, Option, None, Some, codes, decimal, drop, length, position, take}
use Rattle.std.specs.List.{starts_with}
use Rattle.std.specs.Result.{result_ok}
use Rattle.gp_ploam.specs.declared.check.Mask.{Mask}
use Rattle.gp_differ.specs.NoLine.{why_no_line}
use Rattle.gp_differ.specs.Reasons.{IsReason}
use Rattle.gp_explain.specs.declared.form.Form.{Form}
use Rattle.gp_explain.specs.declared.form.Form.TheVariants.{Plain, Words, Json}
use Rattle.gp_explain.specs.Telling.{Manner, TellsOneLine as TellsBy, no_frames}
use Rattle.gp_lines.specs.Parts.{parts_of}
use Rattle.gp_lines.specs.Reading.{number_in}
use Rattle.gp_lines.specs.Spelling.{last_port}
use Rattle.gp_lines.specs.Trace.{is_equals}
use Rattle.gp_replay.specs.Chassis.{PlayState, copies_owed}
use Rattle.gp_verify.specs.declared.verdict.Verdict.{Verdict}
use Rattle.gp_verify.specs.declared.verdict.Verdict.TheVariants as verdict
use Rattle.gp_verify.specs.Object.{both_object, line_object}
use Rattle.gp_verify.specs.Verdicts.{VerifyState}

-- ---- what the machine says

-- a text from this place on
abbrev pub from_place : Option ℕ → List ℕ → List ℕ
from_place None text = []
from_place (Some place) text = drop place text

-- the answer that a line tells, with the `=` before it
abbrev pub told_answer : List ℕ → List ℕ
told_answer line = from_place (position is_equals line) line

abbrev pub begins_with : List ℕ → List ℕ → Bool
begins_with text word = starts_with (λ a b. a == b) text word

-- where the machine picked a number: that any other free one would do
abbrev pub free_choice : List ℕ → Option (List ℕ)
free_choice answer =
    if begins_with answer (codes "= found ") then Some (codes "any free ONU-ID would do")
    else if begins_with answer (codes "= allocated ") then Some (codes "any free Alloc-ID would do")
    else None

-- what the machine said, without its line feed
abbrev pub without_feed : List ℕ → List ℕ
without_feed said = take (length said - 1) said

-- ---- why it is not the line that the machine says

-- the port that a line begins with
abbrev pub port_of_parts : List (List ℕ) → Option ℕ
port_of_parts [] = None
port_of_parts (digits ∷ parts) = result_ok (number_in 0 last_port digits)

abbrev pub port_of : List ℕ → Option ℕ
port_of line = port_of_parts (parts_of line)

-- how many copies of messages are still owed behind what the machine said
abbrev pub left_at : PlayState → Option ℕ → ℕ
left_at play None = 0
left_at play (Some port) = copies_owed play port

abbrev pub left_behind : VerifyState → ℕ
left_behind state = left_at state.play (port_of state.said)

-- the first part that differs, and what is owed there
abbrev pub Explains : VerifyState → List ℕ → List ℕ → Type 0
Explains state text reason = IsReason state.mask (left_behind state) text (without_feed state.said) reason

-- the script's last port, where a line tells of one behind it
abbrev pub why_no_port : VerifyState → List ℕ
why_no_port state = codes "the port: the last of the script is " ++ decimal (length state.play.next - 1)

-- ---- lines

-- how a line is told in words: as `oltctl explain` tells one
abbrev pub in_words : Mask → Manner
in_words mask = record { mask = mask; form = Words; timed = false; frames = no_frames }

-- a line in words, with its line feed
abbrev pub IsInWords : Mask → List ℕ → List ℕ → Type 0
IsInWords mask text shown = (next : Manner) × TellsBy (in_words mask) text shown next

-- a line as it is, with its line feed
abbrev pub as_it_is : List ℕ → List ℕ
as_it_is text = text ++ codes "\n"

-- a line behind its number; it comes as it is shown, with its line feed
abbrev pub numbered_line : ℕ → List ℕ → List ℕ
numbered_line line shown = codes "line " ++ decimal line ++ codes ": " ++ shown

-- a line of its own, where there is one
abbrev pub line_if : Option (List ℕ) → List ℕ
line_if None = []
line_if (Some text) = as_it_is text

-- what the machine says in a line's place; it comes as it is shown, with its line feed
abbrev pub told_instead : List ℕ → List ℕ → List ℕ
told_instead machine said = codes "machine: " ++ machine ++ line_if (free_choice (told_answer said))

-- why it is not the line
abbrev pub why_line : List ℕ → List ℕ
why_line reason = codes "why: " ++ reason ++ codes "\n"

-- a line and the reason
abbrev pub line_alone : ℕ → List ℕ → List ℕ → List ℕ
line_alone line shown reason = numbered_line line shown ++ why_line reason

-- both lines, as they are shown, and the reason
abbrev pub both_lines : ℕ → List ℕ → List ℕ → List ℕ → List ℕ → List ℕ
both_lines line shown machine said reason =
    numbered_line line shown ++ told_instead machine said ++ why_line reason

-- ---- what is told

-- of a line in whose place the machine says nothing, for this reason, by the form
abbrev pub TellsLine : Form → Verdict → ℕ → VerifyState → List ℕ → List ℕ → List ℕ → Type 0
TellsLine Plain verdict line state text reason told = told ≡ line_alone line (as_it_is text) reason
TellsLine Words verdict line state text reason told =
    (shown : List ℕ) × IsInWords state.mask text shown × (told ≡ line_alone line shown reason)
TellsLine Json verdict line state text reason told = told ≡ line_object verdict line text reason

-- of a line in whose place it says another, for this reason, by the form
abbrev pub TellsFor : Form → Verdict → ℕ → VerifyState → List ℕ → List ℕ → List ℕ → Type 0
TellsFor Plain verdict line state text reason told =
    told ≡ both_lines line (as_it_is text) state.said state.said reason
TellsFor Words verdict line state text reason told =
    (shown : List ℕ) × (machine : List ℕ) × IsInWords state.mask text shown
    × IsInWords state.mask (without_feed state.said) machine
    × (told ≡ both_lines line shown machine state.said reason)
TellsFor Json verdict line state text reason told =
    told ≡ both_object verdict line text (without_feed state.said) (free_choice (told_answer state.said)) reason

-- with the reason
abbrev pub TellsBoth : Form → Verdict → ℕ → VerifyState → List ℕ → List ℕ → Type 0
TellsBoth form verdict line state text told =
    (reason : List ℕ) × Explains state text reason × TellsFor form verdict line state text reason told

-- of one that follows nothing is told; of one that is too long nothing either, since it was not kept
abbrev pub Reports : Form → Verdict → ℕ → VerifyState → List ℕ → List ℕ → Type 0
Reports form verdict.Follows line state text told = told ≡ []
Reports form verdict.NotALine line state text told =
    TellsLine form verdict.NotALine line state text (why_no_line text) told
Reports form verdict.NoPort line state text told =
    TellsLine form verdict.NoPort line state text (why_no_port state) told
Reports form verdict.WrongNumber line state text told = TellsBoth form verdict.WrongNumber line state text told
Reports form verdict.NotAStep line state text told = TellsBoth form verdict.NotAStep line state text told
Reports form verdict.TooLong line state text told = told ≡ []

-- by the verdict that ended a verification, if one did
abbrev pub ReportsAt : Form → Option Verdict → ℕ → VerifyState → List ℕ → List ℕ → Type 0
ReportsAt form None line state text told = told ≡ []
ReportsAt form (Some verdict) line state text told = Reports form verdict line state text told
