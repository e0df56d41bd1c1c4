use Rattle.std.proofs.Common.{ℕ, Ok, rules, subst, arith}
use Rattle.gp_stream.specs.Sink.{Takes, TakesPrefix}
use Rattle.gp_stream.proofs.SinkLemmas.{takes_nothing}
use Rattle.gp_generate.specs.declared.event.Event.{Event}
use Rattle.gp_generate.specs.declared.mistake.TheConstants.{MISTAKES}
use Rattle.gp_generate.specs.declared.scene.TheConstants.{ORDERS, SAYINGS, SCENES}
use Rattle.gp_generate.specs.Script.{event_at, events_text, told}
use Rattle.gp_generate.proofs.GrowingLemmas.{breaks_piece, takes_piece}
use Rattle.gp_generate.proofs.ScriptLemmas.{course_more, event_there, events_step, stops, stops_more, stops_none, stops_out}
use Rattle.gp_generate.proofs.generating.put_events.Goals as goal

pub events-init : goal.events-init
unfolding events_text
events-init g c = (takes_nothing c.args.sink.now, c.begin-course.ensures, stops_none c.args.sink.now)

pub returns-in_err-put_told-clause-stops : goal.returns-in_err-put_told-clause-stops
returns-in_err-put_told-clause-stops g c =
    stops_out c.args.sink.now c.events.sink c.put_told.new.sink (tt {0}) _ c.from_residual.result c.events.invariant.2 c.in_err-put_told.ensures.stops c.from_residual.ensures.1

pub returns-in_err-put_told-clause-hands : goal.returns-in_err-put_told-clause-hands
returns-in_err-put_told-clause-hands g c =
    let plan = c.args.plan.now in
    let event = event_there SCENES SAYINGS ORDERS plan c.events.number c.events.course c.next_event-event.result c.events.invariant.1 c.next_event-event.ensures.event in
    stops _ _ _ _ _ c.from_residual.ensures.1
    (breaks_piece (events_text MISTAKES SCENES SAYINGS ORDERS plan) (λ (n : ℕ). told MISTAKES plan n (event_at SCENES SAYINGS ORDERS plan n))
    (events_step MISTAKES SCENES SAYINGS ORDERS plan) c.events.number plan.events c.args.sink.now c.events.sink c.put_told.new.sink
    (search (arith, rules)) c.events.invariant.0
    (subst (λ (e : Event). TakesPrefix c.events.sink c.put_told.new.sink (told MISTAKES plan c.events.number e)) event c.in_err-put_told.ensures.hands.error))

pub events-preserved : goal.events-preserved
events-preserved g c =
    let plan = c.args.plan.now in
    let event = event_there SCENES SAYINGS ORDERS plan c.events.number c.events.course c.next_event-event.result c.events.invariant.1 c.next_event-event.ensures.event in (
      takes_piece (events_text MISTAKES SCENES SAYINGS ORDERS plan) (λ (n : ℕ). told MISTAKES plan n (event_at SCENES SAYINGS ORDERS plan n)) c.events.number
          c.args.sink.now c.events.sink c.put_told.new.sink (events_step MISTAKES SCENES SAYINGS ORDERS plan c.events.number) c.events.invariant.0
          (subst (λ (e : Event). Takes c.events.sink c.put_told.new.sink (told MISTAKES plan c.events.number e)) event c.in_ok-put_told.ensures.hands.ok),
      course_more SCENES plan c.events.number c.events.course c.next_event-event.new.self c.events.invariant.1 c.next_event-event.ensures.course,
      stops_more c.args.sink.now c.events.sink c.put_told.new.sink (tt {0}) (Ok (tt {0})) c.events.invariant.2 c.in_ok-put_told.ensures.stops,
    )
