use Rattle.oltctl.proofs.Runs.{told_by}
use Rattle.oltctl.proofs.checking.tell_from.Goals as goal

pub returns : goal.returns
returns g c =
    told_by c.args.manner c.args.path.now c.args.reader _ c.new-source.result c.tell_script.new.source c.args.sink.now c.tell_script.new.sink c.tell_script.result
    c.new-source.ensures c.tell_script.ensures
