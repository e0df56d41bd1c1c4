use Rattle.std.proofs.Common.{ap, length, ◌∙◌}
use Rattle.std.specs.String.{string_bytes}
use Rattle.gp_script.specs.View.{script_view}
use Rattle.gp_storm.specs.Plan.{frame_count}
use Rattle.gp_storm.proofs.TotalsLemmas.{totals_told}
use Rattle.gp_storm.proofs.storming.storm_of.Goals as goal

pub returns-clause-totals : goal.returns-clause-totals
returns-clause-totals g c =
    let counted = c.in_ok-counted.ensures in
    totals_told c.args.form (script_view c.args.script) counted.ending.journals c.in_ok-counted.counted.totals c.in_ok-counted.counted.licences (string_bytes c.in_ok-text_of.field-0)
    counted.ending.ending counted.licences (counted.frames ∙ ap frame_count c.in_ok-plan.ensures.frames)
    (counted.commands ∙ ap length c.in_ok-plan.ensures.commands) c.in_ok-text_of.ensures
