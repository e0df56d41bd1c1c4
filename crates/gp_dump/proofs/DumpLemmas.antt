-- What is declared.
use Rattle.std.proofs.Common.{◌≡◌, ℕ, ◌<◌, subst}
use Rattle.gp_dump.specs.declared.change.PortChange.{PortChange}
use Rattle.gp_dump.specs.declared.change.UnitChange.{UnitChange}
use Rattle.gp_dump.specs.declared.change.Change.{Change}
use Rattle.gp_dump.specs.declared.change.Change.TheVariants as change
use Rattle.gp_dump.specs.Dump.{port_of}

-- the port of a change
pub port_near : (c : Change) (number : ℕ) (what : PortChange) → port_of c < 16 → c ≡ change.Port number what → number < 16
port_near c number what near is = subst (λ (x : Change). port_of x < 16) is near

pub unit_near : (c : Change) (number lane : ℕ) (what : UnitChange) → port_of c < 16 → c ≡ change.Unit number lane what → number < 16
unit_near c number lane what near is = subst (λ (x : Change). port_of x < 16) is near
