use Rattle.gp_watch.specs.Heard.{heard_of}
use Rattle.gp_audit.specs.Book.{TellsNotices}
use Rattle.gp_audit.specs.RuleSet.{is_told}
use Rattle.gp_audit.proofs.FindingLemmas.{found}
use Rattle.gp_audit.proofs.port.Port.tell_broken.Given as goal

-- those so far are told
abbrev pub invariant-loop-at : goal.invariant-loop-at
invariant-loop-at l = TellsNotices l.options (found (is_told l.options.told (heard_of l.heard)) l.self.watch l.place l.said l.rules l.at) l.fn.book l.book
