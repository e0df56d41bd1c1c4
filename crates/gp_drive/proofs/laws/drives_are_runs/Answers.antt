use Rattle.gp_drive.proofs.RunsLemmas.{chassis_drives, fibre_drives}
use Rattle.gp_drive.proofs.laws.drives_are_runs.Goals as goal

pub returns-clause-chassis : goal.returns-clause-chassis
returns-clause-chassis c = chassis_drives c.each_port_runs.ensures

pub returns-clause-fibre : goal.returns-clause-fibre
returns-clause-fibre c = fibre_drives
