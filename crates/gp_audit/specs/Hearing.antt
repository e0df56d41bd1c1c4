-- What is told of something that is heard, and what is known of its port then (this profile's own rule).
use Rattle.std.specs.Prelude.{ℕ, Bool, true, false, not, ◌&&◌, ◌||◌, if◌then◌else◌, nat_lt, List, [], ◌∷◌, ◌++◌, map, filter, slice_index_or, slice_set, Option, None, Some, Result, Ok, Err}
use Rattle.gp_ploam.specs.declared.message.Serial.{Serial}
use Rattle.gp_observer.specs.declared.rule.Rule.{Rule}
use Rattle.gp_observer.specs.Heard.{Heard, HeardDown, HeardUp, HeardGrant, breaks, watch_after}
use Rattle.gp_observer.specs.Watch.{Watch, can_follow}
use Rattle.gp_watch.specs.Heard.{followed_down, followed_up}
use Rattle.gp_log.specs.declared.fault.LogFault.{LogFault}
use Rattle.gp_log.specs.declared.line.LogLine.{LogLine}
use Rattle.gp_log.specs.declared.line.LogLine.TheVariants as line
use Rattle.gp_log.specs.declared.said.Said.{Said}
use Rattle.gp_finding.specs.declared.error.LineError.TheVariants as errors
use Rattle.gp_finding.specs.declared.push.Place.{Place}
use Rattle.gp_finding.specs.Hearing.{heard_in}
use Rattle.gp_audit.specs.declared.options.AuditOptions.{AuditOptions}
use Rattle.gp_audit.specs.Notice.{Notice, Finding, Fault, settings_at}
use Rattle.gp_census.specs.Census.{Census, noted}
use Rattle.gp_audit.specs.Judging.{judged_after}
use Rattle.gp_audit.specs.Port.{PortState, one_more, port_begun, time_after}
use Rattle.gp_audit.specs.RuleSet.{is_told}

-- ---- what is heard

-- the rules that it breaks on a port, of those that are told
abbrev pub told_rules : AuditOptions → ℕ → Watch → Heard → List Rule
told_rules options port watch heard =
    filter (is_told options.told heard) (breaks (settings_at options port) watch heard)

-- a finding for each of these rules
abbrev pub findings_of : Watch → Place → Said → List Rule → List Notice
findings_of watch place said rules = map (λ rule. Finding watch place said rule) rules

-- the serial number that is followed from now on, if there is one
abbrev pub followed_in : Heard → Option Serial
followed_in (HeardDown message) = followed_down message
followed_in (HeardUp message delay) = followed_up message
followed_in (HeardGrant grant) = None

abbrev pub is_past : Watch → Option Serial → Bool
is_past watch None = false
is_past watch (Some serial) = not (can_follow watch serial)

-- it has a serial number that can't be followed
abbrev pub overfills : Watch → Heard → Bool
overfills watch heard = is_past watch (followed_in heard)

-- which is told once of a port
abbrev pub full_told : ℕ → Bool → Bool → List Notice
full_told line before overfills = if overfills && not before then Fault line errors.Full ∷ [] else []

-- what is told of it: the rules that it breaks by what is known before it, and that its serial number can't be followed
abbrev pub heard_told : AuditOptions → Place → PortState → Said → Heard → List Notice
heard_told options place port said heard =
    findings_of port.watch place said (told_rules options place.port port.watch heard)
    ++ full_told place.line port.full (overfills port.watch heard)

-- what was counted then, where that is told at the end
abbrev pub census_after : Bool → PortState → Heard → Census
census_after false port heard = port.census
census_after true port heard = noted port.census port.watch heard port.time

-- what is known of the units then
abbrev pub port_noted : AuditOptions → PortState → Heard → PortState
port_noted options port heard =
    record port {
      watch = watch_after port.watch heard;
      heard = one_more port.heard;
      judged = judged_after options.told port.watch heard port.judged;
      census = census_after options.units port heard;
    }

-- what is known then
abbrev pub port_after : AuditOptions → PortState → Heard → PortState
port_after options port heard =
    record port {
      watch = watch_after port.watch heard;
      full = port.full || overfills port.watch heard;
      heard = one_more port.heard;
      judged = judged_after options.told port.watch heard port.judged;
      census = census_after options.units port heard;
    }

-- ---- what is said on a line

-- codes are read under the mask
abbrev pub said_told : AuditOptions → Place → PortState → Said → List Notice
said_told options place port said = heard_told options place port said (heard_in options.mask said)

abbrev pub port_behind : AuditOptions → PortState → Said → PortState
port_behind options port said = port_after options port (heard_in options.mask said)

-- maybe something is said
abbrev pub maybe_told : AuditOptions → Place → PortState → Option Said → List Notice
maybe_told options place port None = []
maybe_told options place port (Some said) = said_told options place port said

abbrev pub port_maybe : AuditOptions → PortState → Option Said → PortState
port_maybe options port None = port
port_maybe options port (Some said) = port_behind options port said

-- a line of a trace: what it says, one behind the other
abbrev pub trace_told : AuditOptions → Place → PortState → Option Said → Option Said → List Notice
trace_told options place port first second =
    maybe_told options place port first ++ maybe_told options place (port_maybe options port first) second

abbrev pub port_traced : AuditOptions → PortState → Option Said → Option Said → PortState
port_traced options port first second = port_maybe options (port_maybe options port first) second

-- the port behind an event of a trace
abbrev pub port_ticked : PortState → Bool → PortState
port_ticked port is_frame = record port { time = time_after is_frame port.time }

-- a line of a log: nothing is heard where its time is before the port's
abbrev pub log_told : AuditOptions → Place → PortState → ℕ → Said → List Notice
log_told options place port time said =
    if nat_lt time port.time then Fault place.line errors.Time ∷ []
    else said_told options place (record port { time = time }) said

abbrev pub port_logged : AuditOptions → PortState → ℕ → Said → PortState
port_logged options port time said =
    if nat_lt time port.time then port else port_behind options (record port { time = time }) said

-- ---- a line that was read

-- what is known of a port
abbrev pub port_at : AuditOptions → List PortState → ℕ → PortState
port_at options ports port = slice_index_or ports port (port_begun options.midway)

-- what is told of a line with this number, by what was read of it and what is known of the ports
abbrev pub told_of : AuditOptions → List PortState → ℕ → Result LogLine LogFault → List Notice
told_of options ports number (Ok line.Remark) = []
told_of options ports number (Ok (line.Log port time said)) =
    log_told options (record { line = number; port = port }) (port_at options ports port) time said
told_of options ports number (Ok (line.Trace port is_frame first second)) =
    trace_told options (record { line = number; port = port }) (port_ticked (port_at options ports port) is_frame) first
    second
told_of options ports number (Err fault) = Fault number (errors.Log fault) ∷ []

-- what is known of the ports then
abbrev pub ports_after : AuditOptions → List PortState → Result LogLine LogFault → List PortState
ports_after options ports (Ok line.Remark) = ports
ports_after options ports (Ok (line.Log port time said)) =
    slice_set ports port (port_logged options (port_at options ports port) time said)
ports_after options ports (Ok (line.Trace port is_frame first second)) =
    slice_set ports port (port_traced options (port_ticked (port_at options ports port) is_frame) first second)
ports_after options ports (Err fault) = ports
