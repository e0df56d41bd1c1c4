use Rattle.gp_script.specs.View.{script_view}
use Rattle.gp_summary.proofs.Sums.{plain_answered}
use Rattle.gp_summary.proofs.playing.play_summed.Goals as goal

pub returns : goal.returns
returns g c =
    plain_answered c.args.form (script_view c.args.script) (λ s. s.counting) (λ s. s.ended.played) (λ s. s.ended.summary) _ c.sum_on.ensures
