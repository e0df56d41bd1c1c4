use Rattle.std.proofs.Common.{◌≡◌, Ok}
use Rattle.gp_stream.specs.Sink.{Takes}
use Rattle.gp_generate.specs.declared.mistake.TheConstants.{MISTAKES}
use Rattle.gp_generate.specs.declared.scene.TheConstants.{ORDERS, SAYINGS, SCENES}
use Rattle.gp_generate.specs.Course.{course_behind}
use Rattle.gp_generate.specs.Script as spec
use Rattle.gp_generate.proofs.generating.put_events.Given as goal

abbrev pub invariant-events : goal.invariant-events
invariant-events g l =
    Takes l.fn.sink l.sink (spec.events_text MISTAKES SCENES SAYINGS ORDERS l.plan l.number)
    × (l.course ≡ course_behind SCENES l.plan l.number)
    × spec.StopsBy l.fn.sink l.sink (Ok (tt {0}))
