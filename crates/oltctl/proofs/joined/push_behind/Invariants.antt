use Rattle.std.proofs.Common.{◌≡◌, ◌∷◌, ◌++◌, take}
use Rattle.std.specs.List.{flat_map}
use Rattle.oltctl.proofs.joined.push_behind.Given as goal

abbrev pub invariant-words : goal.invariant-words
invariant-words l = l.text.items ≡ l.initial.text.items ++ flat_map (λ word. l.separator ∷ word.now) (take l.word-index l.words)
