-- What is told of octets that come in any pieces (this profile's own rule).
use Rattle.std.specs.Prelude.{◌≡◌, ◌==◌, ◌<◌, ◌≤◌, ◌⊎◌, ℕ, nat_le, if◌then◌else◌, List, [], ◌∷◌, ◌++◌, length}
use Rattle.gp_flow.specs.Lines.{ended_lines, longest_line}
use Rattle.gp_explain.specs.Telling.{Manner, TellsOneLine}

-- an octet before an open line, unless lines end before that one
abbrev pub onto_open : ℕ → List (List ℕ) → List ℕ → List ℕ
onto_open b [] text = b ∷ text
onto_open b (line ∷ lines) text = text

-- what stands behind the last line feed
abbrev pub open_line : List ℕ → List ℕ
open_line [] = []
open_line (b ∷ bytes) = if b == 10 then open_line bytes else onto_open b (ended_lines bytes) (open_line bytes)

-- what is told of a line: it stays as it is if it is too long to be looked at
abbrev pub TellsLine : Manner → List ℕ → List ℕ → Manner → Type 0
TellsLine old line said new =
    ((length line ≤ longest_line) × TellsOneLine old line said new)
    ⊎ ((longest_line < length line) × (said ≡ line ++ 10 ∷ []) × (new ≡ old))

-- lines are told one after another
abbrev pub TellsLines : Manner → List (List ℕ) → List ℕ → Manner → Type 0
TellsLines old [] said new = (said ≡ []) × (new ≡ old)
TellsLines old (line ∷ lines) said new =
    (first rest : List ℕ) × (next : Manner) × TellsLine old line first next × TellsLines next lines rest new
    × (said ≡ first ++ rest)

-- what is told of a line before its line feed comes: nothing, unless it is too long to be looked at
abbrev pub told_open : List ℕ → List ℕ
told_open line = if nat_le (length line) longest_line then [] else line

-- from the old manner, to all these octets, all that is told of them, to the new manner: each line is told at its line
-- feed
pub record TellsOctets (old : Manner) (octets said : List ℕ) (new : Manner) : Type 0 where
  pub lines : List ℕ
  pub told : TellsLines old (ended_lines octets) lines new
  pub all : said ≡ lines ++ told_open (open_line octets)
