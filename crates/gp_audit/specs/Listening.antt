-- What is known of the ports by the lines of a log of which nothing is told (this profile's own rule).
use Rattle.std.specs.Prelude.{◌≡◌, ℕ, true, false, List, replicate, Result}
use Rattle.gp_ploam.specs.declared.check.Mask.{Mask}
use Rattle.gp_machine.specs.Config.{max_ports}
use Rattle.gp_log.specs.declared.fault.LogFault.{LogFault}
use Rattle.gp_log.specs.declared.line.LogLine.{LogLine}
use Rattle.gp_log.specs.Line.{Reads}
use Rattle.gp_watch.specs.declared.fault.WatchFault.{WatchFault}
use Rattle.gp_audit.specs.declared.options.AuditForm.TheVariants.{Text}
use Rattle.gp_audit.specs.declared.options.AuditOptions.{AuditOptions}
use Rattle.gp_audit.specs.Hearing.{ports_after}
use Rattle.gp_audit.specs.Port.{PortState, port_begun}
use Rattle.gp_audit.specs.RuleSet.{each_rule}
use Rattle.gp_audit.specs.Failing.{LineFails}

-- a listener: the mask of the codes, and what is known of each port
pub record ListenerState : Type 0 where
  pub mask : Mask
  pub ports : List PortState

-- what it hears by: units are counted, and no finding is told
abbrev pub listening : Mask → AuditOptions
listening mask =
    record {
      mask = mask;
      teqd = replicate max_ports 0;
      drift = 0;
      midway = false;
      told = record { terminal = false; units = false; rules = each_rule false };
      form = Text;
      units = true;
    }

-- nothing was heard on any port
abbrev pub none_heard : List PortState
none_heard = replicate max_ports (port_begun false)

-- a line is heard as an audit hears it, by what is read of it
pub record HearsLine (mask : Mask) (line : List ℕ) (old new : List PortState) : Type 0 where
  pub read : Result LogLine LogFault
  pub reads : Reads line read
  pub heard : new ≡ ports_after (listening mask) old read

-- why hearing a line may fail, by what is read of it
pub record FailsOnLine (mask : Mask) (line : List ℕ) (old : List PortState) (fault : WatchFault) : Type 0 where
  pub read : Result LogLine LogFault
  pub reads : Reads line read
  pub fails : LineFails (listening mask) old read fault
