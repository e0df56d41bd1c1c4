use Rattle.gp_picture.proofs.OutcomeLemmas.{drawn_as, unbegun, unread_as}
use Rattle.gp_picture.proofs.running.draw_trace_with.Goals as goal

pub returns-in_err-drawer : goal.returns-in_err-drawer
returns-in_err-drawer g c = unbegun c.args.layout c.args.options.now.frames c.args.options.now.mask c.args.source.now c.args.sink.now _ c.from_residual.ensures.1

pub returns-in_err-run_lines : goal.returns-in_err-run_lines
returns-in_err-run_lines g c =
    unread_as _ _ _ _ _ _ _ _ c.in_ok-drawer.drawer c.run_lines.new.work _ c.in_ok-drawer.ensures c.from_residual-in_err-run_lines.ensures.1 c.in_err-run_lines.ensures

pub returns : goal.returns
returns g c =
    drawn_as _ _ _ _ _ _ _ _ _ c.in_ok-drawer.drawer c.run_lines.new.work _ c.in_ok-drawer.ensures c.in_ok-run_lines.ensures.ok c.finish.ensures
