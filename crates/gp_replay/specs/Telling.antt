-- Taking a turn and telling its line (this profile's own rule).
use Rattle.std.specs.Prelude.{◌≡◌, ℕ, List, [], ◌∷◌, Option}
use Rattle.std.specs.Option.{ForSome}
use Rattle.gp_ploam.specs.declared.check.Mask.{Mask}
use Rattle.gp_ploam.specs.Down.{IsProperDown}
use Rattle.gp_ranging.specs.declared.grant.Grant.{Grant}
use Rattle.gp_stream.specs.Sink.{SinkState}
use Rattle.gp_machine.specs.declared.entry.Receipt.{Receipt}
use Rattle.gp_chassis.specs.Core.{GrantsTurn}
use Rattle.gp_trace.specs.Text.{line_of}
use Rattle.gp_replay.specs.declared.told.EntryWritten.{EntryWritten}
use Rattle.gp_replay.specs.declared.turn.Turn.{Turn}
use Rattle.gp_replay.specs.Chassis.{PlayState}
use Rattle.gp_replay.specs.Play.{TakesAllTurns, TakesTurns}
use Rattle.gp_replay.specs.Playing.{TellsEntries}
use Rattle.gp_replay.specs.Writing.{Writes}

-- the turn is taken, with the wished number where it is free and one is handed out; what it sends has a code; the line
-- is that of its receipt, and what is told is the receipt's
pub record TellsTurn
    (mask : Mask) (old : PlayState) (turn : Turn) (wished : Option ℕ) (told : EntryWritten) (line : List ℕ)
    (new : PlayState) : Type 0 where
  pub receipt : Receipt
  pub taken : TakesTurns old (turn ∷ []) (receipt ∷ []) new
  pub proper : ForSome receipt.entry.answer.sent IsProperDown
  pub grants : GrantsTurn old.world new.world turn.port turn.event wished receipt.entry
  pub line_is : line ≡ line_of mask receipt
  pub number_is : told.number ≡ receipt.number
  pub grant_is : told.grant ≡ receipt.entry.answer.grant

-- the turn is taken and its line written, and this grant is its entry's, if one is made. Inside: no public contract
-- cites this
pub record WritesTurn {W : Type 0}
    (mask : Mask) (turn : Turn) (made : Option Grant) (old new : PlayState) (before after : SinkState W) : Type 0 where
  pub receipt : Receipt
  pub grant_is : made ≡ receipt.entry.answer.grant
  pub written : Writes mask (TellsEntries (receipt.entry ∷ []) (TakesAllTurns (turn ∷ []))) old new before after
