use Rattle.gp_stream.proofs.SinkLemmas.{takes_prefix_more}
use Rattle.gp_generate.specs.Script.{script_text}
use Rattle.gp_generate.proofs.ScriptLemmas.{hands_more, stops, stops_more}
use Rattle.gp_generate.proofs.generating.put_script.Goals as goal

pub returns-in_err-put_head-clause-hands : goal.returns-in_err-put_head-clause-hands
unfolding script_text
returns-in_err-put_head-clause-hands g c =
    stops _ _ _ _ _ c.from_residual.ensures.1 (takes_prefix_more _ _ _ _ c.in_err-put_head.ensures.hands.error)

pub returns-clause-hands : goal.returns-clause-hands
unfolding script_text
returns-clause-hands g c = hands_more _ _ _ _ _ _ c.in_ok-put_head.ensures.hands.ok c.put_events.ensures.hands

pub returns-clause-stops : goal.returns-clause-stops
returns-clause-stops g c = stops_more _ _ _ _ _ c.in_ok-put_head.ensures.stops c.put_events.ensures.stops
