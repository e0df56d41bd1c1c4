use Rattle.std.proofs.Common.{◌≡◌, ◌≤◌, ◌+◌, ◌-◌, ◌++◌, length, min, take, rules, ap, ◌∙◌}
use Rattle.gp_compare.specs.Place.{behind_open, counted, max_shown}
use Rattle.gp_compare.proofs.PlaceLemmas.{opened, shown_more}
use Rattle.gp_compare.proofs.place.Place.pass_open.Goals as goal

pub returns-clause-place : goal.returns-clause-place
returns-clause-place c =
    let s = c.self.inside.shown.items in
    let part = c.args.part.now in
    let count = c.min-count.result in
    let short : length s ≤ max_shown = search rules in
    let sum : c.saturating_add-self-inside.result ≡ counted (c.self.inside.octets + length part) = search rules in
    let least : count ≡ min (length part) (max_shown - length s) = search rules in
    let items : c.extend_from_slice.new.self.items ≡ s ++ take count part = search rules in
    opened _ _ _ s _ part sum (items ∙ shown_more s part count short least) ∙ ap (λ p. behind_open p part) c.self.view_is
