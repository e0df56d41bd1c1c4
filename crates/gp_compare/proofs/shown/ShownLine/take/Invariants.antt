use Rattle.std.proofs.Common.{◌≡◌, drop}
use Rattle.gp_compare.specs.Shown.{show, shown_view}
use Rattle.gp_compare.proofs.shown.ShownLine.take.Given as goal

abbrev pub invariant-octets : goal.invariant-octets
invariant-octets l = show (shown_view l.self) (drop l.octet-index l.octets) ≡ show (shown_view l.fn.self) l.octets
