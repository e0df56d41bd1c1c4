-- What is told when a log has ended: what was counted of its units, where that is wanted, and the sum (this profile's
-- own rule).
use Rattle.std.specs.Prelude.{ℕ, zero, suc, Bool, true, false, List, [], ◌++◌, if◌then◌else◌}
use Rattle.gp_machine.specs.Config.{max_ports}
use Rattle.gp_census.specs.declared.pushing.CensusForm.{CensusForm}
use Rattle.gp_census.specs.declared.pushing.CensusForm.TheVariants as censuses
use Rattle.gp_census.specs.Text.{told_census}
use Rattle.gp_finding.specs.Told.{told_sum}
use Rattle.gp_audit.specs.declared.options.AuditForm.{AuditForm}
use Rattle.gp_audit.specs.declared.options.AuditForm.TheVariants as forms
use Rattle.gp_audit.specs.declared.options.AuditOptions.{AuditOptions}
use Rattle.gp_audit.specs.Audit.{AuditState}
use Rattle.gp_audit.specs.Hearing.{port_at}
use Rattle.gp_audit.specs.Notice.{finding_form}
use Rattle.gp_audit.specs.Port.{PortState, is_silent}

-- how units are told
abbrev pub census_form : AuditForm → CensusForm
census_form forms.Text = censuses.Text
census_form forms.Words = censuses.Text
census_form forms.Json = censuses.Json

-- the units of a port, where something was heard
abbrev pub units_of : AuditOptions → ℕ → PortState → List ℕ
units_of options number port =
    if is_silent port then [] else told_census (census_form options.form) number port.watch port.census

-- those of the first ports
abbrev pub first_units : AuditOptions → List PortState → ℕ → List ℕ
first_units options ports zero = []
first_units options ports (suc number) =
    first_units options ports number ++ units_of options number (port_at options ports number)

-- those of all ports, where that is wanted
abbrev pub units_text : Bool → AuditOptions → List PortState → List ℕ
units_text false options ports = []
units_text true options ports = first_units options ports max_ports

-- what is told at the end
abbrev pub end_text : AuditState → List ℕ
end_text state =
    units_text state.options.units state.options state.ports
    ++ told_sum (finding_form state.options.form) state.sum
