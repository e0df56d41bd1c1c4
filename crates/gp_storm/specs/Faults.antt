-- Which fault of a storm the fault of a loop is, and which fault of a run that is (this profile's own rule).
use Rattle.std.specs.Prelude.{}
use Rattle.gp_chassis.specs.declared.fault.ApplyFault.{ApplyFault}
use Rattle.gp_chassis.specs.declared.fault.ApplyFault.TheVariants as applies
use Rattle.gp_replay.specs.declared.fault.RunFault.{RunFault}
use Rattle.gp_replay.specs.declared.fault.RunFault.TheVariants as runs
use Rattle.gp_storm.specs.declared.fault.PlanFault.{PlanFault}
use Rattle.gp_storm.specs.declared.fault.PlanFault.TheVariants as plans
use Rattle.gp_storm.specs.declared.fault.StormFault.{StormFault}
use Rattle.gp_storm.specs.declared.fault.StormFault.TheVariants as storms

-- why a loop ended, told of the threads of a storm
abbrev pub plan_fault_of : ApplyFault → PlanFault
plan_fault_of applies.NoPort = plans.NoPort
plan_fault_of applies.OutOfMemory = plans.OutOfMemory
plan_fault_of applies.JournalFull = plans.JournalFull

-- why the threads did not serve all, told of a storm
abbrev pub storm_fault_of : PlanFault → StormFault
storm_fault_of plans.NoPort = storms.NoPort
storm_fault_of plans.JournalFull = storms.JournalFull
storm_fault_of plans.OutOfMemory = storms.OutOfMemory
storm_fault_of plans.Mismatch = storms.Mismatch

-- of a script that was read, the limits are kept and each event names a port, so where a storm tells otherwise its
-- threads were told something else
abbrev pub fault_of_storm : StormFault → RunFault
fault_of_storm storms.Limit = runs.Mismatch
fault_of_storm storms.NoPort = runs.Mismatch
fault_of_storm storms.JournalFull = runs.JournalFull
fault_of_storm storms.OutOfMemory = runs.OutOfMemory
fault_of_storm storms.Mismatch = runs.Mismatch

-- the fault is one of the storm itself, and not one of its input or its output
abbrev pub IsOfStorm : RunFault → Type 0
IsOfStorm runs.OutOfMemory = Unit {0}
IsOfStorm runs.Mismatch = Unit {0}
IsOfStorm runs.JournalFull = Unit {0}
IsOfStorm _ = ⊥
