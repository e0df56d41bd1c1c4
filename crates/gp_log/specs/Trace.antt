-- What a line of a trace says on the fibre (this profile's own rule).
use Rattle.std.specs.Prelude.{ℕ, Bool, true, false, ◌||◌, List, Option, None, Some, Result, Ok, Err, if◌then◌else◌, codes}
use Rattle.std.specs.Str.{bytes_eq}
use Rattle.gp_machine.specs.declared.event.Event.{Event}
use Rattle.gp_machine.specs.declared.event.Event.TheVariants as events
use Rattle.gp_log.specs.declared.fault.LogFault.{LogFault}
use Rattle.gp_log.specs.declared.fault.LogFault.TheVariants as fault
use Rattle.gp_log.specs.declared.line.LogLine.{LogLine}
use Rattle.gp_log.specs.declared.line.LogLine.TheVariants as line
use Rattle.gp_log.specs.declared.said.Said.{Said}
use Rattle.gp_log.specs.declared.said.Said.TheVariants as said
use Rattle.gp_log.specs.Fields.{◌>>=◌, next, is_nothing}
use Rattle.gp_log.specs.Code.{next_code}
use Rattle.gp_log.specs.Says.{next_grant}

abbrev pub MaybeSaid : Type 0
MaybeSaid = Option Said × List ℕ

-- the message behind `sent`, if that is next in a text, and what stands behind it
unfoldable pub next_sent : List ℕ → Result MaybeSaid LogFault
next_sent text =
    if bytes_eq (next text).0 (codes "sent") then (do
      code ← next_code (next text).1
      Ok (Some (said.Down code.0), code.1))
    else Ok (None, text)

-- the grant behind `grant`, if that is next in a text, and what stands behind it
unfoldable pub next_granted : List ℕ → Result MaybeSaid LogFault
next_granted text =
    if bytes_eq (next text).0 (codes "grant") then (do
      grant ← next_grant (next text).1
      Ok (Some (said.Grant grant.0), grant.1))
    else Ok (None, text)

-- at the end of an answer stands nothing more, or an alarm, which isn't said on the fibre
abbrev pub is_end : List ℕ → Bool
is_end word = is_nothing word || bytes_eq word (codes "alarm")

-- what is said in a frame that is answered with `ok` and what stands behind that: what was sent, then what was granted
unfoldable pub frame_said : ℕ → List ℕ → Result LogLine LogFault
frame_said port text = do
  sent ← next_sent text
  granted ← next_granted sent.1
  if is_end (next granted.1).0 then Ok (line.Trace port true sent.0 granted.0) else Err fault.Word

abbrev pub frame_line : ℕ → List ℕ → Result LogLine LogFault
frame_line port answer =
    if bytes_eq (next answer).0 (codes "ok") then frame_said port (next answer).1 else Err fault.Word

-- a burst came up with its delay, a command says nothing
abbrev pub trace_line : ℕ → Event → List ℕ → Result LogLine LogFault
trace_line port events.Frame answer = frame_line port answer
trace_line port (events.Burst at octets) answer = Ok (line.Trace port false (Some (said.Up octets (Some at))) None)
trace_line port (events.Command command) answer = Ok (line.Trace port false None None)
