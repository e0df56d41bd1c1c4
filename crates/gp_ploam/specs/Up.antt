-- The messages of a unit, and the rows of their codes (G.984.3, clause 9).
use Rattle.std.specs.Prelude.{ℕ, ◌≡◌, ◌*◌, ◌+◌, ◌/◌, ◌%◌, ◌≤◌, List, [], ◌∷◌, ◌++◌, length, map, replicate, slice_index}
use Rattle.gp_ploam.specs.declared.message.Up.{Up}
use Rattle.gp_ploam.specs.declared.message.Up.TheVariants.{SerialNumber, DyingGasp, NoMessage, Acknowledge, Other}
use Rattle.gp_ploam.specs.Row.{Cell, Is, Free, Agrees, Reads, written, with_check}

-- the table of codes: octet 1, the identifier, and octets 3 to 12
abbrev pub up_row : Up → List Cell
up_row (SerialNumber onu serial random flags) =
    Is onu ∷ Is 1 ∷ map Is serial.0 ++ Is (random / 16) ∷ Is (random % 16 * 16 + flags) ∷ []
up_row (DyingGasp onu) = Is onu ∷ Is 3 ∷ replicate 10 (Free 0)
up_row (NoMessage onu) = Is onu ∷ Is 4 ∷ replicate 10 (Free 0)
up_row (Acknowledge onu id copy) = Is onu ∷ Is 9 ∷ Is id ∷ map Is copy
up_row (Other id octet1 body) = Is octet1 ∷ Is id ∷ map Is body

-- each list has its length, and each number has room in its row; that one of a whole octet is at most 255 is its Rust
-- type
abbrev pub IsFittingUp : Up → Type 0
IsFittingUp (SerialNumber onu serial random flags) = (length serial.0 ≡ 8) × (random ≤ 4095) × (flags ≤ 15)
IsFittingUp (DyingGasp onu) = Unit {0}
IsFittingUp (NoMessage onu) = Unit {0}
IsFittingUp (Acknowledge onu id copy) = length copy ≡ 9
IsFittingUp (Other id octet1 body) = length body ≡ 10

-- every message but `Other` has a row of its own
abbrev pub IsNamedUp : Up → Type 0
IsNamedUp (Other id octet1 body) = ⊥
IsNamedUp _ = Unit {0}

-- no named row agrees with these twelve octets
abbrev pub MatchesNoNamedUp : List ℕ → Type 0
MatchesNoNamedUp octets =
    (message : Up) → IsNamedUp message → IsFittingUp message → Agrees (up_row message) octets → ⊥

-- a message that its own code stands for: its fields fit, and an `Other` has the octets of no named message
abbrev pub IsProperUp : Up → Type 0
IsProperUp (Other id octet1 body) = (length body ≡ 10) × MatchesNoNamedUp (octet1 ∷ id ∷ body)
IsProperUp message = IsFittingUp message

-- the thirteen octets of a message
abbrev pub code_of_up : Up → ℕ → List ℕ
code_of_up message mask = with_check (written (up_row message)) mask

-- a code is read as this message
abbrev pub ReadsUp : List ℕ → ℕ → Up → Type 0
ReadsUp = Reads up_row IsProperUp

-- octet 1 of a message's code
abbrev pub octet1_of : Up → ℕ
octet1_of message = slice_index (written (up_row message)) 0
