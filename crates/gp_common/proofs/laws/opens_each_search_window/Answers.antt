use Rattle.gp_common.proofs.Searching.{each_searches}
use Rattle.gp_common.proofs.laws.opens_each_search_window.Goals as goal

pub returns : goal.returns
returns c = each_searches
