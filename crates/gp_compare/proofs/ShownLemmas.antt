-- What is shown of octets, in parts.
use Rattle.std.proofs.Common.{◌≡◌, ◌≢◌, ℕ, List, [], ◌∷◌, ◌++◌, refl}
use Rattle.gp_compare.specs.declared.shown.LineEnd.{LineEnd}
use Rattle.gp_compare.specs.declared.shown.LineEnd.TheVariants.{Feed, Text, More}
use Rattle.gp_compare.specs.Shown.{Shown, show, show_next}

pub show_append : (s : Shown) (xs ys : List ℕ) → show s (xs ++ ys) ≡ show (show s xs) ys
show_append s [] ys = refl
show_append s (b ∷ xs) ys = show_append (show_next s b) xs ys

-- nothing more is shown of a line that is whole
whole_by : (end : LineEnd) (octets xs : List ℕ) → end ≢ Text → show (record { octets = octets; end = end }) xs ≡ record { octets = octets; end = end }
whole_by end octets [] h = refl
whole_by Feed octets (b ∷ xs) h = whole_by Feed octets xs h
whole_by Text octets (b ∷ xs) h = absurd (h refl)
whole_by More octets (b ∷ xs) h = whole_by More octets xs h

pub show_whole : (s : Shown) (xs : List ℕ) → s.end ≢ Text → show s xs ≡ s
show_whole s xs h = whole_by s.end s.octets xs h
