-- What a reader finds in its ring (this profile's own rule).
use Rattle.std.specs.Prelude.{ℕ, ◌≡◌, List, ◌++◌, ◌∷◌, map}
use mathlib.Core.List.{IsPrefix}
use Rattle.gp_machine.specs.declared.entry.Receipt.{Receipt}
use Rattle.gp_workers.specs.declared.reader.RingItem.{RingItem}
use Rattle.gp_workers.specs.declared.reader.RingItem.TheVariants.{Burst, End}
use Rattle.gp_workers.specs.Asked.{Extends, bursts_on}

-- a burst as it stands in a ring
abbrev pub in_ring : ℕ × List ℕ → RingItem
in_ring burst = Burst burst.0 burst.1

-- bursts, an end, and whatever else is put after it
abbrev pub up_to_end : List (ℕ × List ℕ) → List RingItem → List RingItem
up_to_end bursts rest = map in_ring bursts ++ End ∷ rest

-- the receipts grew by those of bursts on this port, whichever they are
pub record GrowsByBursts (old new : List Receipt) (port : ℕ) : Type 0 where
  pub served : List (ℕ × List ℕ)
  pub grown : Extends old new (bursts_on port served)

-- some of the bursts are served, and the others are known to be ahead in the ring
pub record Midway
    (old now : List Receipt) (port : ℕ) (bursts : List (ℕ × List ℕ)) (rest ahead : List RingItem) : Type 0 where
  pub served : List (ℕ × List ℕ)
  pub left : List (ℕ × List ℕ)
  pub split : bursts ≡ served ++ left
  pub prefix : IsPrefix (up_to_end left rest) ahead
  pub sofar : Extends old now (bursts_on port served)
