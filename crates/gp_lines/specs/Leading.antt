-- What a text begins with (this profile's own rule).
-- Inside: no public contract cites this.
use Rattle.std.specs.Prelude.{◌≡◌, ℕ, ◌<◌, ◌^◌, ◌==◌, Bool, not, List, ◌++◌, codes}
use Rattle.gp_machine.specs.declared.event.Event.{Event}
use Rattle.gp_lines.specs.Spelling.{SpellsNumber, SpellsEvent}

-- the digit zero
abbrev pub is_zero : ℕ → Bool
is_zero octet = octet == 48

-- an octet that isn't the digit zero
abbrev pub is_other_than_zero : ℕ → Bool
is_other_than_zero octet = not (octet == 48)

-- the text begins with this number, and behind it and a space stands the rest
pub record NumberLeads (text : List ℕ) (number : ℕ) (rest : List ℕ) : Type 0 where
  pub digits : List ℕ
  pub spelled : SpellsNumber digits number
  pub fits : number < 2 ^ 64
  pub apart : text ≡ digits ++ (codes " " ++ rest)

-- the text begins with the words of this event, and behind them stands the rest
pub record EventLeads (text : List ℕ) (event : Event) (rest : List ℕ) : Type 0 where
  pub words : List ℕ
  pub told : SpellsEvent words event
  pub apart : text ≡ words ++ rest
