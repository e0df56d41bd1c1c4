-- A teller, and what the writer below it has (this profile's own rule).
use Rattle.std.specs.Prelude.{◌≡◌, ◌<◌, ◌≤◌, ℕ, Bool, true, false, List, [], ◌++◌, length, take, Option, None, Some, Result, Err, OnOk, IfErr}
use Rattle.std.specs.Io.KnownBytes.{Appends}
use Rattle.gp_flow.specs.Lines.{longest_line}
use Rattle.gp_stream.specs.Sink.{SinkState}
use Rattle.gp_explain.specs.Telling.{Manner}
use Rattle.gp_tell.specs.declared.fault.TellFault.{TellFault}
use Rattle.gp_tell.specs.declared.fault.TellFault.TheVariants.{Write}
use Rattle.gp_tell.specs.Octets.{TellsOctets, open_line}

-- a teller over a writer
pub record TellerState (W : Type 0) : Type 0 where
  -- all octets that it took
  pub taken : List ℕ
  -- what the next line is told by
  pub manner : Manner
  -- the writer below, and what was told and is not yet written
  pub below : SinkState W
  -- why it tells no more, if it doesn't
  pub fault : Option TellFault

-- a writer that held this now holds all that is told of the octets too, and nothing else
pub record HasAll (began : Manner) (octets : List ℕ) (first now : Option (List ℕ)) : Type 0 where
  pub said : List ℕ
  pub manner : Manner
  pub told : TellsOctets began octets said manner
  pub written : Appends first now said

-- a writer that held this now holds a prefix of what is told of the octets too, and nothing else
pub record HasPrefix (began : Manner) (octets : List ℕ) (first now : Option (List ℕ)) : Type 0 where
  pub said : List ℕ
  pub manner : Manner
  pub told : TellsOctets began octets said manner
  pub written : (count : ℕ) × Appends first now (take count said)

-- all that was told was written out, with this answer
pub record Finishes {W : Type 0} (began : Manner) (first : Option (List ℕ)) (old new : TellerState W)
    (answer : Result (Unit {0}) TellFault) : Type 0 where
  pub taken : new.taken ≡ old.taken
  -- the writer got all of it
  pub ok : OnOk answer (HasAll began new.taken first new.below.held × (new.fault ≡ None))
  -- or a prefix of it
  pub error : IfErr answer (λ fault. HasPrefix began new.taken first new.below.held × (new.fault ≡ Some fault))
  -- while it tells, only a write that failed is a fault
  pub unwritten : old.fault ≡ None → IfErr answer (λ fault. fault ≡ Write)
  -- once it tells no more, nothing is written
  pub refused : (fault : TellFault) → old.fault ≡ Some fault → (answer ≡ Err fault) × (new ≡ old)

-- ---- what stands inside

-- a writer that held this has, with what is gathered, all this
pub record Holds {W : Type 0} (first : Option (List ℕ)) (below : SinkState W) (said : List ℕ) : Type 0 where
  pub written : List ℕ
  pub appended : Appends first below.held written
  pub rest : said ≡ written ++ below.gathered

-- the line of which no line feed came is kept, unless it is too long
abbrev pub Keeps : Bool → List ℕ → List ℕ → Type 0
Keeps false line taken = (line ≡ open_line taken) × (length line ≤ longest_line)
Keeps true line taken = (line ≡ []) × (longest_line < length (open_line taken))

-- all is told of what was taken
pub record Runs {W : Type 0} (began : Manner) (first : Option (List ℕ)) (taken : List ℕ) (manner : Manner)
    (below : SinkState W) (long : Bool) (line : List ℕ) : Type 0 where
  pub said : List ℕ
  pub told : TellsOctets began taken said manner
  pub holds : Holds first below said
  pub running : below.stopped ≡ false
  pub kept : Keeps long line taken

abbrev pub TellsBy : {W : Type 0} → Option TellFault → Manner → Option (List ℕ) → List ℕ → Manner → SinkState W → Bool
    → List ℕ → Type 0
TellsBy None began first taken manner below long line = Runs began first taken manner below long line
TellsBy (Some fault) began first taken manner below long line = HasPrefix began taken first below.held

-- what was taken is told, or was up to a fault
abbrev pub IsTelling : {W : Type 0} → Manner → Option (List ℕ) → TellerState W → Bool → List ℕ → Type 0
IsTelling began first state long line =
    TellsBy state.fault began first state.taken state.manner state.below long line
