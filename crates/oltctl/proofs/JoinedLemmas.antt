-- Words with an octet between each two.
use Rattle.std.proofs.Common.{◌≡◌, ℕ, List, [], ◌∷◌, ◌++◌, Bor, map, sym, ap, ◌∙◌}
use Rattle.std.proofs.lemmas.List.{append-nil}
use Rattle.std.specs.List.{flat_map, join_with_byte}

-- the first word, and the others behind an octet each
pub join_first : (c : ℕ) (first : List ℕ) (others : List (Bor (List ℕ)))
    → first ++ flat_map (λ (word : Bor (List ℕ)). c ∷ word.now) others ≡ join_with_byte c (first ∷ map (λ (word : Bor (List ℕ)). word.now) others)
join_first c first [] = append-nil first
join_first c first (word ∷ others) = ap (λ (l : List ℕ). first ++ c ∷ l) (join_first c word.now others)

-- the text of words, in its steps
pub joined_by : (c : ℕ) (words : List (Bor (List ℕ))) (first : Bor (List ℕ)) (others : List (Bor (List ℕ))) (begun whole : List ℕ) → words ≡ first ∷ others → begun ≡ first.now
    → whole ≡ begun ++ flat_map (λ (word : Bor (List ℕ)). c ∷ word.now) others → whole ≡ join_with_byte c (map (λ (word : Bor (List ℕ)). word.now) words)
joined_by c words first others begun whole are is all =
    all ∙ ap (λ (l : List ℕ). l ++ flat_map (λ (word : Bor (List ℕ)). c ∷ word.now) others) is ∙ join_first c first.now others
    ∙ ap (λ (ws : List (Bor (List ℕ))). join_with_byte c (map (λ (word : Bor (List ℕ)). word.now) ws)) (sym are)
