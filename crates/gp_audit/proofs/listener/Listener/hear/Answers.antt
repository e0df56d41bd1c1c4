use Rattle.gp_audit.proofs.ReadLemmas.{read_near}
use Rattle.gp_audit.proofs.listener.Listener.hear.Goals as goal

pub listen-requires : goal.listen-requires
listen-requires c = read_near c.args.text.now c.read_line-read.result c.read_line-read.ensures
