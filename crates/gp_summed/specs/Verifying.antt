-- A verification whose entries are counted (this profile's own rule).
use Rattle.std.specs.Prelude.{◌≡◌, ℕ, ◌-◌, ◌⊎◌, Bool, is_some, List, [], ◌++◌, Option, None, Some, Result, Ok, Err, IfOk, IfSome, codes, length, map}
use Rattle.std.specs.declared.alloc.AllocError.{AllocError}
use Rattle.std.specs.declared.alloc.Global.{Global}
use Rattle.std.specs.declared.vec.Vec.{Vec}
use Rattle.gp_ploam.specs.declared.check.Mask.{Mask}
use Rattle.gp_machine.specs.declared.entry.Receipt.{Receipt}
use Rattle.gp_explain.specs.declared.form.Form.{Form}
use Rattle.gp_explain.specs.declared.form.Form.TheVariants as forms
use Rattle.gp_flow.specs.declared.fault.Unanswered.TheVariants as unanswered
use Rattle.gp_flow.specs.declared.fault.LinesFault.TheVariants.{Line}
use Rattle.gp_flow.specs.Lines.{Speech, WholeLines, with_feeds}
use Rattle.gp_stream.specs.Source.{SourceState}
use Rattle.gp_trace.specs.Text.{trace_text}
use Rattle.gp_script.specs.Script.{ScriptView, script_of}
use Rattle.gp_replay.specs.Chassis.{PlayState, opening_play}
use Rattle.gp_replay.specs.Outcome.{ReadsBy}
use Rattle.gp_replay.specs.Play.{TakesTurns, turn_of}
use Rattle.gp_tally.specs.Counter.{CounterState}
use Rattle.gp_summary.specs.declared.form.SummaryForm.{SummaryForm}
use Rattle.gp_summary.specs.declared.form.SummaryForm.TheVariants.{Text, Json}
use Rattle.gp_summary.specs.Summary.{SaysCounted}
use Rattle.gp_summary.specs.Text.{number_field}
use Rattle.gp_verify.specs.declared.outcome.CheckFault.{CheckFault}
use Rattle.gp_verify.specs.declared.outcome.CheckFault.TheVariants.{Script, Trace}
use Rattle.gp_verify.specs.Checking.{opened_by}
use Rattle.gp_verify.specs.Ending.{as_checked, was_read}
use Rattle.gp_verify.specs.Outcome.{IsRefused, IsRun, IsUnended}
use Rattle.gp_verify.specs.declared.outcome.VerifyFault.{VerifyFault}
use Rattle.gp_verify.specs.declared.outcome.VerifyFault.TheVariants.{Refused, Unended, Lines}
use Rattle.gp_verify.specs.declared.verdict.Verdict.{Verdict}
use Rattle.gp_verify.specs.declared.verdict.Verdict.TheVariants as verdict
use Rattle.gp_verify.specs.Following as following
use Rattle.gp_verify.specs.Verdicts.{VerifyState}

-- ---- what is counted

-- where it stands: the verifier, and the counter of its entries
pub record CountingVerifyState : Type 0 where
  pub verify : VerifyState
  pub counter : CounterState

-- the octets are the lines of the entries by which this play leads from there to here
pub record IsPlayed (mask : Mask) (start end : PlayState) (taken : List ℕ) : Type 0 where
  pub receipts : List Receipt
  pub turns : TakesTurns start (map turn_of receipts) receipts end
  pub text : taken ≡ trace_text mask receipts

-- the line of the entry that is made, by what is said of the line that asks for it; no entry is made of what names no
-- event or no port
abbrev pub said_by : Verdict → List ℕ → List ℕ
said_by verdict.Follows said = said
said_by verdict.WrongNumber said = said
said_by verdict.NotAStep said = said
said_by verdict.NotALine said = []
said_by verdict.NoPort said = []
said_by verdict.TooLong said = []

-- what is counted of a line that is judged, by the verdict that ends the verification there, if one does: all of a line
-- that follows; in the place of any other the line of the entry that is made
abbrev pub counted_of : Option Verdict → List ℕ → List ℕ → List ℕ
counted_of None text said = text ++ codes "\n"
counted_of (Some why) text said = said_by why said

-- what was counted with a line, by what ended the verification before: nothing behind its end, nor of a line that is
-- too long
abbrev pub CountsFrom : Option Verdict → CountingVerifyState → Option (List ℕ) → CountingVerifyState → Type 0
CountsFrom (Some why) old line new = new.counter.taken ≡ old.counter.taken
CountsFrom None old None new = new.counter.taken ≡ old.counter.taken
CountsFrom None old (Some text) new =
    new.counter.taken ≡ old.counter.taken ++ counted_of new.verify.ended text new.verify.said

-- a line is judged and told of as it is without counting, and that is counted of it
pub record Counts (old : CountingVerifyState) (line : Option (List ℕ)) (told : List ℕ)
    (new : CountingVerifyState) : Type 0 where
  pub follows : following.Follows old.verify line told new.verify
  pub counted : CountsFrom old.verify.ended old line new

-- why no more lines can be taken: as without counting
abbrev pub IsFull : CountingVerifyState → Option (List ℕ) → Type 0
IsFull old line = following.IsFull old.verify line

abbrev pub JudgesCounting : Speech CountingVerifyState
JudgesCounting = WholeLines IsFull Counts

-- it has ended
abbrev pub is_over : CountingVerifyState → Bool
is_over state = is_some state.verify.ended

-- what was found of a text, and what was counted of it: of a run the whole text; of one without its last line feed the
-- same with it; of one in which a line can't be the lines before that one, and then what is counted in its place
abbrev pub CountsText : {R : Type 0} → VerifyState → VerifyState → SourceState R → SourceState R → Result ℕ VerifyFault
    → List ℕ → Type 0
CountsText old end from to (Ok lines) taken = (run : IsRun old from to lines) × (taken ≡ run.text)
CountsText old end from to (Err (Unended line)) taken =
    (unended : IsUnended old from to line) × (taken ≡ unended.text ++ codes "\n")
CountsText old end from to (Err (Refused line why)) taken =
    (told : List ℕ) × (refused : IsRefused old end from to line why told)
    × (taken ≡ with_feeds refused.before ++ said_by why end.said)
CountsText old end from to (Err (Lines fault)) taken = Unit {0}

-- ---- what is told of it

abbrev pub summary_form : Form → SummaryForm
summary_form forms.Json = Json
summary_form forms.Plain = Text
summary_form forms.Words = Text

-- up to which line a trace is told of that is no run, and whether the machine's own line in the place of the next one
-- is told of too
abbrev pub reach : SummaryForm → ℕ → List ℕ
reach Text line = number_field (codes "up to line ") line ++ codes "\n"
reach Json line = number_field (codes "{\"up_to\":") line ++ codes ",\"machine\":false}\n"

abbrev pub reach_machine : SummaryForm → ℕ → List ℕ
reach_machine Text line = number_field (codes "up to line ") line ++ codes ", then the machine's own\n"
reach_machine Json line = number_field (codes "{\"up_to\":") line ++ codes ",\"machine\":true}\n"

abbrev pub reach_refused : SummaryForm → ℕ → Verdict → List ℕ
reach_refused form line verdict.WrongNumber = reach_machine form (line - 1)
reach_refused form line verdict.NotAStep = reach_machine form (line - 1)
reach_refused form line verdict.Follows = reach form (line - 1)
reach_refused form line verdict.NotALine = reach form (line - 1)
reach_refused form line verdict.NoPort = reach form (line - 1)
reach_refused form line verdict.TooLong = reach form (line - 1)

-- of a run nothing
abbrev pub reach_text : SummaryForm → Result ℕ VerifyFault → List ℕ
reach_text form (Ok lines) = []
reach_text form (Err (Refused line why)) = reach_refused form line why
reach_text form (Err (Unended line)) = reach form line
reach_text form (Err (Lines fault)) = []

-- a play from this start to this end was counted, and the text tells how far the trace is a run, what was counted, and
-- how so many ports, their units and the licences stand at the end
pub record TellsPlay (form : SummaryForm) (mask : Mask) (start end : PlayState) (count licences : ℕ)
    (found : Result ℕ VerifyFault) (taken text : List ℕ) : Type 0 where
  pub played : IsPlayed mask start end taken
  pub summary : List ℕ
  pub says : SaysCounted form mask taken end.world.ports count end.world.free licences summary
  pub text_is : text ≡ reach_text form found ++ summary

-- a trace was verified on the chassis that the script opens, its entries were counted, and the text tells of these and
-- of the play where the verification ended
pub record TellsSums {T : Type 0} (form : Form) (script : ScriptView) (from to : SourceState T)
    (found : Result ℕ VerifyFault) (text : List ℕ) : Type 0 where
  pub end : VerifyState
  pub taken : List ℕ
  pub counts : CountsText (opened_by form script) end from to found taken
  pub play : TellsPlay (summary_form form) script.mask (opening_play script) end.play (length script.ports)
      script.licences found taken text

-- what became of ports and units in a trace that was judged so is told, where it was read, and only there
pub record AreUnits {T : Type 0} (form : Form) (script : ScriptView) (from to : SourceState T)
    (found : Result ℕ VerifyFault) (units : Option (Result (Vec ℕ Global) AllocError)) : Type 0 where
  pub there : is_some units ≡ was_read found
  pub tell : IfSome units (λ told. IfOk told (λ text. TellsSums form script from to found text.items))

-- the same where a script was read first: what was found is answered, but for a write that failed then
pub record AreUnitsOf {R T : Type 0} (form : Form) (before after : SourceState R) (from to : SourceState T)
    (answer : Result ℕ CheckFault) (units : Option (Result (Vec ℕ Global) AllocError)) : Type 0 where
  pub script : ScriptView
  pub read : ReadsBy script_of before after (Ok script)
  pub found : Result ℕ VerifyFault
  pub answered : (answer ≡ as_checked found) ⊎ (answer ≡ Err (Trace (Lines (Line unanswered.Write))))
  pub units_are : AreUnits form script from to found units

-- where no script was read nothing is told
abbrev pub SumsCheck : {R T : Type 0} → Form → SourceState R → SourceState R → SourceState T → SourceState T
    → Result ℕ CheckFault → Option (Result (Vec ℕ Global) AllocError) → Type 0
SumsCheck form before after from to (Err (Script fault)) units = units ≡ None
SumsCheck form before after from to (Err (Trace fault)) units =
    AreUnitsOf form before after from to (Err (Trace fault)) units
SumsCheck form before after from to (Ok lines) units = AreUnitsOf form before after from to (Ok lines) units
