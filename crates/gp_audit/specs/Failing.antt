-- Why hearing may fail, by what is known before it (this profile's own rule): memory is wanted for a serial number that
-- is new, and no more than so many asks of one are counted. Where what is heard is told too, no more findings and errors
-- are counted than 64 bits hold.
use Rattle.std.specs.Prelude.{◌≡◌, ◌≤◌, ◌⊎◌, ◌+◌, ◌^◌, ℕ, Bool, true, false, nat_lt, List, Option, None, Some, Result, Ok, Err}
use Rattle.gp_observer.specs.Heard.{Heard, HeardDown, HeardUp, HeardGrant}
use Rattle.gp_observer.specs.Watch.{Watch}
use Rattle.gp_ploam.specs.declared.message.Serial.{Serial}
use Rattle.gp_watch.specs.declared.fault.WatchFault.{WatchFault}
use Rattle.gp_watch.specs.declared.fault.WatchFault.TheVariants.{OutOfMemory, Full}
use Rattle.gp_watch.specs.Heard.{IsCounted, IsNew, followed_by_copy, followed_up}
use Rattle.gp_log.specs.declared.fault.LogFault.{LogFault}
use Rattle.gp_log.specs.declared.line.LogLine.{LogLine}
use Rattle.gp_log.specs.declared.line.LogLine.TheVariants as line
use Rattle.gp_log.specs.declared.said.Said.{Said}
use Rattle.gp_finding.specs.declared.error.AuditSum.{AuditSum}
use Rattle.gp_finding.specs.Hearing.{heard_in}
use Rattle.gp_census.specs.Census.{IsNewTo, Sightings, counted_by}
use Rattle.gp_audit.specs.declared.options.AuditOptions.{AuditOptions}
use Rattle.gp_audit.specs.Hearing.{port_at, port_maybe, port_ticked}
use Rattle.gp_audit.specs.Notice.{Notice, errors_among, findings_among}
use Rattle.gp_audit.specs.Port.{PortState}

-- units are counted, and of the one that is to be counted nothing was yet
abbrev pub IsNewUnit : Bool → Watch → Sightings → Heard → Type 0
IsNewUnit false watch units heard = ⊥
IsNewUnit true watch units heard = IsNewTo watch units (counted_by watch heard)

-- the serial number that this has followed from now on, if any: a copy that tells its message no more has none
abbrev pub followed_new : Watch → Heard → Option Serial
followed_new watch (HeardDown None) = None
followed_new watch (HeardDown (Some message)) = followed_by_copy watch message
followed_new watch (HeardUp message delay) = followed_up message
followed_new watch (HeardGrant grant) = None

-- the serial number that asks, if one does
abbrev pub asking_in : Heard → Option Serial
asking_in (HeardUp message delay) = followed_up message
asking_in heard = None

-- why hearing this on a port may fail
abbrev pub HeardFails : AuditOptions → PortState → Heard → WatchFault → Type 0
HeardFails options port heard OutOfMemory =
    IsNew port.watch (followed_new port.watch heard) ⊎ IsNewUnit options.units port.watch port.census.units heard
HeardFails options port heard Full = IsCounted port.watch (asking_in heard)

-- why hearing what is said may
abbrev pub SaidFails : AuditOptions → PortState → Said → WatchFault → Type 0
SaidFails options port said fault = HeardFails options port (heard_in options.mask said) fault

-- the same, if something is said
abbrev pub MaybeFails : AuditOptions → PortState → Option Said → WatchFault → Type 0
MaybeFails options port None fault = ⊥
MaybeFails options port (Some said) fault = SaidFails options port said fault

-- of a line of a trace, which may say two things: by the first, or by the second behind it
abbrev pub TraceFails : AuditOptions → PortState → Option Said → Option Said → WatchFault → Type 0
TraceFails options port first second fault =
    MaybeFails options port first fault ⊎ MaybeFails options (port_maybe options port first) second fault

-- of a line of a log, unless its time is before the port's
abbrev pub LogFails : AuditOptions → PortState → ℕ → Said → WatchFault → Type 0
LogFails options port time said fault = (nat_lt time port.time ≡ false) × SaidFails options port said fault

-- of a line, by what was read of it and what is known of the ports: never of a remark, or of a text that is no line
abbrev pub LineFails : AuditOptions → List PortState → Result LogLine LogFault → WatchFault → Type 0
LineFails options ports (Ok line.Remark) fault = ⊥
LineFails options ports (Ok (line.Log port time said)) fault =
    LogFails options (port_at options ports port) time said fault
LineFails options ports (Ok (line.Trace port is_frame first second)) fault =
    TraceFails options (port_ticked (port_at options ports port) is_frame) first second fault
LineFails options ports (Err read) fault = ⊥

-- 64 bits can't count the findings, or the errors, of a sum and these behind it
abbrev pub Overcounts : AuditSum → List Notice → Type 0
Overcounts sum notices =
    (2 ^ 64 ≤ sum.findings + findings_among notices) ⊎ (2 ^ 64 ≤ sum.errors + errors_among notices)
