-- What a unit is, as it is shown (G.984.3, clause 10).
use Rattle.gp_onu.specs.declared.status.UnitStatus.{UnitStatus}
use Rattle.gp_onu.specs.Stage.{eqd_of, onu_id_of, state_of}
use Rattle.gp_onu.specs.Table.{UnitState}

-- its state, what it has in it, and whether light reaches it
abbrev pub status_of : UnitState → UnitStatus
status_of unit =
    record {
      state = state_of unit.stage;
      onu = onu_id_of unit.stage;
      eqd = eqd_of unit.stage;
      is_lit = unit.lit;
    }
