-- What is said of a line (this profile's own rule).
use Rattle.std.specs.Prelude.{◌≡◌, ◌≢◌, ◌↔◌, ◌<◌, ◌≤◌, ℕ, List, [], ◌∷◌, ◌++◌, Option, None, Some, codes, length, slice_get}
use Rattle.gp_ploam.specs.declared.check.Mask.{Mask}
use Rattle.gp_machine.specs.declared.config.PortConfig.{PortConfig}
use Rattle.gp_machine.specs.declared.entry.Receipt.{Receipt}
use Rattle.gp_machine.specs.declared.event.Event.{Event}
use Rattle.gp_chassis.specs.Core.{GrantsTurn}
use Rattle.gp_explain.specs.declared.form.Form.{Form}
use Rattle.gp_explain.specs.declared.form.Form.TheVariants.{Plain}
use Rattle.gp_trace.specs.Text.{line_of}
use Rattle.gp_lines.specs.Picks.{Picks}
use Rattle.gp_lines.specs.Trace.{SplitsLine}
use Rattle.gp_replay.specs.Chassis.{PlayState, opened_play}
use Rattle.gp_replay.specs.Play.{TakesTurns, turn_of}
use Rattle.gp_verify.specs.declared.verdict.Verdict.{Verdict}
use Rattle.gp_verify.specs.declared.verdict.Verdict.TheVariants as verdict
use Rattle.gp_verify.specs.Tells.{TellsAlone, TellsNothing}

-- what a line of a trace tells of an entry, whatever its answer says
pub record PartsOf (text : List ℕ) : Type 0 where
  pub port : ℕ
  pub number : ℕ
  pub event : Event
  pub answer : List ℕ
  pub split : SplitsLine text port number event answer

-- the line tells of a port that is not there
pub record NamesNoPort (old : PlayState) (text : List ℕ) : Type 0 where
  pub parts : PartsOf text
  pub past : length old.next ≤ parts.port

-- what the machine says in a line's place: the line of the entry that it makes for the line's event, with the number
-- that the line's answer names, where it hands out one and that one is free
pub record SaysInstead (mask : Mask) (old : PlayState) (port : ℕ) (event : Event) (answer said : List ℕ) : Type 0 where
  pub receipt : Receipt
  pub end : PlayState
  pub taken : TakesTurns old (record { port = port; event = event } ∷ []) (receipt ∷ []) end
  pub wished : Option ℕ
  pub wish : (number : ℕ) → (wished ≡ Some number) ↔ Picks answer number
  pub granted : GrantsTurn old.world end.world port event wished receipt.entry
  pub line : said ≡ line_of mask receipt

-- the line's number is not the next one of its port
pub record NamesOtherNumber (mask : Mask) (old : PlayState) (text said : List ℕ) : Type 0 where
  pub parts : PartsOf text
  pub there : parts.port < length old.next
  pub other : slice_get old.next parts.port ≢ Some parts.number
  pub says : SaysInstead mask old parts.port parts.event parts.answer said

-- the line's number is the next one of its port, and the machine gives another line
pub record IsNoStep (mask : Mask) (old : PlayState) (text said : List ℕ) : Type 0 where
  pub parts : PartsOf text
  pub number : slice_get old.next parts.port ≡ Some parts.number
  pub says : SaysInstead mask old parts.port parts.event parts.answer said

-- a line that follows tells of a turn, and of no other, and leaves the play that the turn leaves; any other line
-- tells of no turn that may be taken there, for one of four reasons. `said` is what the machine says in the place of
-- such a line.
abbrev pub Judges : Verdict → Mask → PlayState → List ℕ → PlayState → List ℕ → Type 0
Judges verdict.Follows mask old text new said = TellsAlone mask old text new
Judges verdict.NotALine mask old text new said = TellsNothing mask old text × (PartsOf text → ⊥)
Judges verdict.NoPort mask old text new said = TellsNothing mask old text × NamesNoPort old text
Judges verdict.WrongNumber mask old text new said = TellsNothing mask old text × NamesOtherNumber mask old text said
Judges verdict.NotAStep mask old text new said = TellsNothing mask old text × IsNoStep mask old text said
Judges verdict.TooLong mask old text new said = ⊥

-- the play goes on by one entry, and the machine says its line
pub record MovesOn (mask : Mask) (old new : PlayState) (said : List ℕ) : Type 0 where
  pub receipt : Receipt
  pub taken : TakesTurns old (turn_of receipt ∷ []) (receipt ∷ []) new
  pub line : said ≡ line_of mask receipt

-- what a line does to the play, by what is said of it: one that follows is the line of the entry by which it goes on;
-- in the place of another that names an event and a port the machine's own entry stands; any other changes nothing
abbrev pub Moves : Verdict → Mask → List ℕ → PlayState → PlayState → List ℕ → Type 0
Moves verdict.Follows mask text old new said = MovesOn mask old new said × (said ≡ text ++ codes "\n")
Moves verdict.WrongNumber mask text old new said = MovesOn mask old new said
Moves verdict.NotAStep mask text old new said = MovesOn mask old new said
Moves verdict.NotALine mask text old new said = new ≡ old
Moves verdict.NoPort mask text old new said = new ≡ old
Moves verdict.TooLong mask text old new said = new ≡ old

-- the most lines that are judged
abbrev pub most_lines : ℕ
most_lines = 18446744073709551615

-- where a verification stands: the mask of the codes, the form in which the line that can't be is told, the play that
-- the lines so far tell of, how many lines were judged, the line that the machine said last, and the verdict that ended
-- it
pub record VerifyState : Type 0 where
  pub mask : Mask
  pub form : Form
  pub play : PlayState
  pub lines : ℕ
  pub said : List ℕ
  pub ended : Option Verdict

-- before the first line, where the line that can't be is to be told in this form
abbrev pub opened_in : Form → Mask → List PortConfig → ℕ → VerifyState
opened_in form mask ports licences =
    record { mask = mask; form = form; play = opened_play ports licences; lines = 0; said = []; ended = None }

-- the same, where it is to be told as it is
abbrev pub opened_verify : Mask → List PortConfig → ℕ → VerifyState
opened_verify mask ports licences = opened_in Plain mask ports licences

-- a verdict other than that the line follows ends it
abbrev pub ending : Verdict → Option Verdict
ending verdict.Follows = None
ending verdict.NotALine = Some verdict.NotALine
ending verdict.NoPort = Some verdict.NoPort
ending verdict.WrongNumber = Some verdict.WrongNumber
ending verdict.NotAStep = Some verdict.NotAStep
ending verdict.TooLong = Some verdict.TooLong
