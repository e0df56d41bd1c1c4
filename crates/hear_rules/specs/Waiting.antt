-- The queue of `copies` forgets nobody: who waits for a copy is in it, once, and who leaves it before its third copy is
-- told (this profile's own rule).
use Rattle.std.specs.Prelude.{◌≡◌, ◌≤◌, ℕ, true, false, List, [], ◌∷◌}
use Rattle.gp_observer.specs.Heard.{Heard}
use Rattle.hear_rules.specs.declared.rule.Verdict.TheVariants.{Broken}
use Rattle.hear_rules.specs.Rules.{Settings}
use Rattle.hear_rules.specs.Copies.{Subject, OfNothing, same_subject, is_open, overdue, copies}
use Rattle.hear_rules.specs.Notes.{Notes, notes_whole, notes_midway, waits, judged_subjects, notes_after}

-- each subject of which a copy may still come waits
abbrev pub AllWait : Notes → ℕ → Type 0
AllWait notes now =
    (subject : Subject)
    → same_subject subject OfNothing ≡ false
    → is_open (notes.sendings subject) ≡ true
    → overdue notes.sendings now subject ≡ false
    → waits notes.waiting subject ≡ true

-- none waits twice
abbrev pub NoneTwice : List Subject → Type 0
NoneTwice [] = Unit {0}
NoneTwice (subject ∷ others) = (waits others subject ≡ false) × NoneTwice others

-- so it is at the beginning of a log, and stays so with all that is heard, in no earlier frame; who waits, of whom a copy
-- is still to come, waits on, or is told now
pub record WaitingForgetsNobody : Type 0 where
  pub whole : (now : ℕ) → AllWait notes_whole now × NoneTwice notes_whole.waiting
  pub midway : (begun now : ℕ) → AllWait (notes_midway begun) now × NoneTwice (notes_midway begun).waiting
  pub all : (settings : Settings) (notes : Notes) (before now : ℕ) (heard : Heard)
      → before ≤ now
      → AllWait notes before
      → AllWait (notes_after settings notes now heard) now
  pub once : (settings : Settings) (notes : Notes) (now : ℕ) (heard : Heard)
      → NoneTwice notes.waiting
      → NoneTwice (notes_after settings notes now heard).waiting
  pub told : (settings : Settings) (notes : Notes) (now : ℕ) (heard : Heard) (subject : Subject)
      → waits notes.waiting subject ≡ true
      → is_open (notes.sendings subject) ≡ true
      → waits (notes_after settings notes now heard).waiting subject ≡ false
      → (copies notes.sendings now heard subject ≡ Broken)
      × (waits (judged_subjects notes.sendings notes.waiting now heard) subject ≡ true)
