-- The decisions of an acquisition.
use Rattle.std.proofs.Common.{[], ◌∷◌, refl, ap}
use Rattle.gp_ranging.specs.declared.grant.Grant.TheVariants.{Search}
use Rattle.gp_common.specs.declared.decision.Decision.TheVariants.{Ask}
use Rattle.gp_common.specs.Laws.{OpensEachSearchWindow}

-- with as many situations as search windows are left, each decision searches
pub each_searches : OpensEachSearchWindow
each_searches [] = (refl, refl)
each_searches (now ∷ later) = (ap (λ ds. Ask Search ∷ ds) (each_searches later).0, (each_searches later).1)
