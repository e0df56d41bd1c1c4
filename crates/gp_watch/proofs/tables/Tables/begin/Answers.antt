use Rattle.std.proofs.Common.{rules, refl}
use Rattle.gp_watch.proofs.Places.{map_of-none, map_of-nothing}
use Rattle.gp_watch.proofs.Numbers.{numbers_are}
use Rattle.gp_watch.proofs.tables.Tables.begin.Goals as goal

pub returns : goal.returns
returns c =
    rw (c.in_ok-holders.ensures.items_if_clones_equal (λ y clone. search rules), c.in_ok-delays.ensures.items_if_clones_equal (λ y clone. search rules), c.in_ok-owners.ensures, c.new.ensures)
    (numbers_are _ _ _ _ _ _ _ _ _ _ (map_of-none 256) refl (map_of-none 256) (map_of-nothing c.in_ok-answers.answers.items c.in_ok-answers.ensures.none) refl)
