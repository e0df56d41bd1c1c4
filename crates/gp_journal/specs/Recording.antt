-- A step of a port that its journal records (this profile's own rule).
use Rattle.std.specs.Prelude.{ℕ, ◌≡◌, ◌++◌, ◌∷◌, [], List, Option}
use Rattle.std.specs.Option.{ForSome}
use Rattle.gp_ploam.specs.Down.{IsProperDown}
use Rattle.gp_machine.specs.declared.entry.Entry.{Entry}
use Rattle.gp_machine.specs.declared.event.Event.{Event}
use Rattle.gp_machine.specs.State.{PortState}
use Rattle.gp_machine.specs.Sound.{IsSound}
use Rattle.gp_machine.specs.Run.{IsStep, entry_outcome}
use Rattle.gp_port.specs.Numbers.{GrantsWish}

-- the port makes one step with these licences, which leaves so many of them, and the entries have its entry behind
-- them; it hands out the wished number where that is free
pub record Records
    (before after : List Entry) (old new : PortState) (purse : ℕ) (event : Event) (wished : Option ℕ) (rest : ℕ)
    : Type 0 where
  pub entry : Entry
  pub purse_in : entry.purse_in ≡ purse
  pub event_is : entry.event ≡ event
  pub purse_out : entry.purse_out ≡ rest
  pub step : IsStep old entry new
  pub sound : IsSound new
  -- what is sent can be encoded
  pub proper : ForSome entry.answer.sent IsProperDown
  pub grants : GrantsWish purse old event wished (entry_outcome entry new)
  pub after_is : after ≡ before ++ entry ∷ []
