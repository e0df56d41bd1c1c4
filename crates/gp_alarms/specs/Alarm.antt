-- The printed names of alarms (G.984.3, clause 11, without the unit's index).
use Rattle.std.specs.Prelude.{ℕ, List, codes}
use Rattle.gp_alarms.specs.declared.alarm.AlarmKind.{AlarmKind}
use Rattle.gp_alarms.specs.declared.alarm.AlarmKind.TheVariants.{Los, Loam, Loa, Suf, Df, Dg}

-- the alarm's name
abbrev pub alarm_name : AlarmKind → List ℕ
alarm_name Los = codes "LOS"
alarm_name Loam = codes "LOAM"
alarm_name Loa = codes "LOA"
alarm_name Suf = codes "SUF"
alarm_name Df = codes "DF"
alarm_name Dg = codes "DG"
