-- The lines of an input, and what answering each of them means (this profile's own rule).
use Rattle.std.specs.Prelude.{◌≡◌, ◌↔◌, ◌⊎◌, take, IfOk, IfErr, IsTrue, ◌==◌, if◌then◌else◌, nat_le, ℕ, Bool, true, false, List, [], ◌∷◌, ◌++◌, length, map, Option, None, Some, Result, Ok, Err, OnOk}
use Rattle.std.specs.Io.KnownBytes.{Appends, Consumes}
use Rattle.gp_flow.specs.declared.fault.Unanswered.{Unanswered}
use Rattle.gp_flow.specs.declared.fault.LinesFault.{LinesFault}
use Rattle.gp_flow.specs.declared.fault.Unanswered.TheVariants.{Write, OutOfMemory, Full}
use Rattle.gp_flow.specs.declared.lines.LinesEnd.{LinesEnd}
use Rattle.gp_flow.specs.declared.lines.LinesEnd.TheVariants.{Whole, Open, Over}
use Rattle.std.specs.List.{flat_map}
use Rattle.gp_flow.specs.declared.fault.LinesFault.TheVariants.{Read, Line}
use Rattle.gp_stream.specs.Sink.{SinkState, KeepsNothing, Takes, TakesPrefix}
use Rattle.gp_stream.specs.Source.{SourceState, ReadsWhole}

-- an octet at the head of the first of these lines, if there is one
abbrev pub onto_first : ℕ → List (List ℕ) → List (List ℕ)
onto_first b [] = []
onto_first b (line ∷ lines) = (b ∷ line) ∷ lines

-- the lines that a line feed ends, each without it
abbrev pub ended_lines : List ℕ → List (List ℕ)
ended_lines [] = []
ended_lines (b ∷ bytes) = if b == 10 then [] ∷ ended_lines bytes else onto_first b (ended_lines bytes)

-- an octet at the head of the first of these lines, or a line of its own
abbrev pub onto_line : ℕ → List (List ℕ) → List (List ℕ)
onto_line b [] = (b ∷ []) ∷ []
onto_line b (line ∷ lines) = (b ∷ line) ∷ lines

-- all lines: those that a line feed ends, and what stands behind the last line feed, if anything does
abbrev pub lines_of : List ℕ → List (List ℕ)
lines_of [] = []
lines_of (b ∷ bytes) = if b == 10 then [] ∷ lines_of bytes else onto_line b (lines_of bytes)

-- these lines, with a line feed behind each
abbrev pub with_feeds : List (List ℕ) → List ℕ
with_feeds lines = flat_map (λ (line : List ℕ). line ++ 10 ∷ []) lines

-- the most octets of a line that is handed on
abbrev pub longest_line : ℕ
longest_line = 4096

-- the most lines that can be counted in 64 bits
abbrev pub most_lines : ℕ
most_lines = 18446744073709551615

-- what is handed on of a line: nothing of one that is longer than the limit
abbrev pub handed : ℕ → List ℕ → Option (List ℕ)
handed limit line = if nat_le (length line) limit then Some line else None

-- what may be said to a line
pub record Speech (S : Type 0) : Type 1 where
  -- from this state, to this line, these octets, to that state
  pub says : S → Option (List ℕ) → List ℕ → S → Type 0
  -- the same where a fault came before the line was answered to its end
  pub begins : S → Option (List ℕ) → List ℕ → S → Type 0
  -- why the work can take no more, at this line, from this state
  pub full : S → Option (List ℕ) → Type 0

-- a speech in which a line is answered whole or not at all, by why the work can take no more
abbrev pub WholeLines : {S : Type 0} → (S → Option (List ℕ) → Type 0)
    → (S → Option (List ℕ) → List ℕ → S → Type 0) → Speech S
WholeLines full says = record { says = says; begins = λ old line said new. ⊥; full = full }

-- from the old state, to these lines in their order, all these octets are said, to the new state
abbrev pub DoesAll : {S : Type 0} → Speech S → S → List (Option (List ℕ)) → List ℕ → S → Type 0
DoesAll does old [] said new = (said ≡ []) × (new ≡ old)
DoesAll does old (line ∷ lines) said new =
    (first : List ℕ) × (rest : List ℕ) × (next : _) × does.says old line first next × DoesAll does next lines rest new
    × (said ≡ first ++ rest)

-- to these lines in their order all these octets are said, but to the last of them maybe only a beginning
abbrev pub DoesSome : {S : Type 0} → Speech S → S → List (Option (List ℕ)) → List ℕ → Type 0
DoesSome does old [] said = said ≡ []
DoesSome does old (line ∷ lines) said =
    ((first : List ℕ) × (rest : List ℕ) × (next : _) × does.says old line first next × DoesSome does next lines rest
    × (said ≡ first ++ rest))
    ⊎ ((lines ≡ []) × (next : _) × does.begins old line said next)

-- the answer tells that the writer stopped
abbrev pub tells_stopped : {T : Type 0} → Result T Unanswered → Bool
tells_stopped (Ok _) = false
tells_stopped (Err Write) = true
tells_stopped (Err OutOfMemory) = false
tells_stopped (Err Full) = false

-- what is left of octets where a fault came: of a failed write the writer took a prefix; any other left all of them
-- handed in
abbrev pub HandsIn : {W : Type 0} → Unanswered → SinkState W → SinkState W → List ℕ → Type 0
HandsIn Write before after said = TakesPrefix before after said
HandsIn OutOfMemory before after said = Takes before after said
HandsIn Full before after said = Takes before after said

-- what is said to a line, or a beginning of it, or nothing, was said when this fault came
pub data Starts {S W : Type 0} (does : Speech S) (line : Option (List ℕ)) (fault : Unanswered) (old : S)
    (before after : SinkState W) : Type 0 where
  NotBegun : HandsIn fault before after [] → Starts does line fault old before after
  AllSaid : (said : List ℕ) (next : S) → does.says old line said next → HandsIn fault before after said
      → Starts does line fault old before after
  PartSaid : (said : List ℕ) (next : S) → does.begins old line said next → HandsIn fault before after said
      → Starts does line fault old before after

-- a line was answered
pub record Answers {S W T : Type 0} (does : Speech S) (line : Option (List ℕ)) (old new : S)
    (before after : SinkState W) (answer : Result T Unanswered) : Type 0 where
  -- all that is said to it was handed in
  pub ok : OnOk answer ((said : List ℕ) × does.says old line said new × Takes before after said)
  pub error : IfErr answer (λ fault. Starts does line fault old before after)
  -- that the work can take no more is answered only where this is why
  pub full : answer ≡ Err Full → does.full old line
  -- whatever was written was flushed
  pub flushed : before.flushed ≡ true → tells_stopped answer ≡ false → after.flushed ≡ true
  pub stopped : before.stopped ≡ false → after.stopped ≡ tells_stopped answer

-- only the first of these lines were answered when this fault came, the last of them maybe in part
pub record StopsWithin {S W : Type 0} (does : Speech S) (lines : List (Option (List ℕ))) (fault : Unanswered) (old : S)
    (before after : SinkState W) : Type 0 where
  -- the lines that were begun
  pub begun : List (Option (List ℕ))
  -- the others
  pub others : List (Option (List ℕ))
  pub all : begun ++ others ≡ lines
  -- what is said to those that were begun
  pub said : List ℕ
  pub spoken : DoesSome does old begun said
  pub written : HandsIn fault before after said

-- at one of these lines the work can take no more
pub record FullAt {S : Type 0} (does : Speech S) (lines : List (Option (List ℕ))) (old : S) : Type 0 where
  -- the lines before it, which were answered, and what was said to them
  pub answered : List (Option (List ℕ))
  pub said : List ℕ
  -- the state behind them
  pub next : S
  pub spoken : DoesAll does old answered said next
  -- the line
  pub line : Option (List ℕ)
  -- the others
  pub others : List (Option (List ℕ))
  pub all : answered ++ line ∷ others ≡ lines
  pub why : does.full next line

-- lines were answered in their order, up to the first fault
pub record AnswersAll {S W T : Type 0} (does : Speech S) (lines : List (Option (List ℕ))) (old new : S)
    (before after : SinkState W) (answer : Result T Unanswered) : Type 0 where
  pub ok : OnOk answer ((said : List ℕ) × DoesAll does old lines said new × Takes before after said)
  pub error : IfErr answer (λ fault. StopsWithin does lines fault old before after)
  pub full : answer ≡ Err Full → FullAt does lines old
  pub flushed : before.flushed ≡ true → tells_stopped answer ≡ false → after.flushed ≡ true
  pub stopped : before.stopped ≡ false → after.stopped ≡ tells_stopped answer

-- the whole input was read, and each of its lines was answered; it is told whether the last line had its line feed
pub record ServesAll {S R W : Type 0} (does : Speech S) (limit : ℕ) (whole : Bool) (from to : SourceState R)
    (old new : S) (before after : SinkState W) : Type 0 where
  -- the input
  pub bytes : List ℕ
  pub read : ReadsWhole from to bytes
  pub feeds : IsTrue whole ↔ (bytes ≡ with_feeds (lines_of bytes))
  -- what is said to its lines
  pub said : List ℕ
  pub spoken : DoesAll does old (map (handed limit) (lines_of bytes)) said new
  -- the writer got all of it, and keeps nothing back
  pub written : Appends before.held after.held (before.gathered ++ said)
  pub kept : KeepsNothing after

-- bytes came, and each line among them was answered that a line feed ends
pub record ServesEnded {S R W : Type 0} (does : Speech S) (limit : ℕ) (from to : SourceState R)
    (old new : S) (before after : SinkState W) : Type 0 where
  pub bytes : List ℕ
  pub read : Consumes from.remaining to.remaining bytes
  pub said : List ℕ
  pub spoken : DoesAll does old (map (handed limit) (ended_lines bytes)) said new
  -- the writer got all of it, and keeps nothing back
  pub written : Appends before.held after.held (before.gathered ++ said)
  pub kept : KeepsNothing after

-- the end of an input, by whether the last line had its line feed
abbrev pub end_of_input : Bool → LinesEnd
end_of_input true = Whole
end_of_input false = Open

-- the input was read to its end, or until the work was over
abbrev pub ServesTo : {S R W : Type 0} → Speech S → (S → Bool) → ℕ → LinesEnd → SourceState R → SourceState R → S → S
    → SinkState W → SinkState W → Type 0
ServesTo does over limit Whole from to old new before after = ServesAll does limit true from to old new before after
ServesTo does over limit Open from to old new before after = ServesAll does limit false from to old new before after
ServesTo does over limit Over from to old new before after =
    ServesEnded does limit from to old new before after × (over new ≡ true)

-- the writer got all of what was gathered and of the octets, keeps nothing back, and the sink has not stopped
pub record GetsAll {W : Type 0} (before after : SinkState W) (said : List ℕ) : Type 0 where
  pub written : Appends before.held after.held (before.gathered ++ said)
  pub kept : KeepsNothing after
  pub unstopped : after.stopped ≡ false

-- the writer got a prefix of what was gathered and of the octets, and nothing else
pub record GetsPrefix {W : Type 0} (before after : SinkState W) (said : List ℕ) : Type 0 where
  pub count : ℕ
  pub written : Appends before.held after.held (take count (before.gathered ++ said))

-- what the writer got where a fault came: after a failed write a prefix; after any other all, or a prefix where it
-- could not be written, and then the sink has stopped
abbrev pub Leaves : {W : Type 0} → Unanswered → SinkState W → SinkState W → List ℕ → Type 0
Leaves Write before after said = GetsPrefix before after said
Leaves OutOfMemory before after said =
    GetsAll before after said ⊎ (GetsPrefix before after said × (after.stopped ≡ true))
Leaves Full before after said = GetsAll before after said ⊎ (GetsPrefix before after said × (after.stopped ≡ true))

-- bytes came, and the first lines among them were answered, the last of these maybe in part
pub record ServesSome {S R W : Type 0} (leaves : SinkState W → SinkState W → List ℕ → Type 0) (does : Speech S)
    (limit : ℕ) (from to : SourceState R) (old : S) (before after : SinkState W) : Type 0 where
  pub bytes : List ℕ
  pub read : Consumes from.remaining to.remaining bytes
  -- the lines that were begun
  pub begun : List (Option (List ℕ))
  -- the others
  pub others : List (Option (List ℕ))
  pub all : begun ++ others ≡ map (handed limit) (lines_of bytes)
  -- what is said to those that were begun
  pub said : List ℕ
  pub spoken : DoesSome does old begun said
  pub written : leaves before after said

-- bytes came, and at one of their lines the work can take no more
pub record ServesFull {S R : Type 0} (does : Speech S) (limit : ℕ) (from to : SourceState R) (old : S) : Type 0 where
  pub bytes : List ℕ
  pub read : Consumes from.remaining to.remaining bytes
  pub at : FullAt does (map (handed limit) (lines_of bytes)) old

-- whether the sink has stopped, by the answer, if it had not before. A fault other than a failed write is told also
-- where the writing out behind it failed (`Leaves`).
abbrev pub Stops : {T : Type 0} → Result T LinesFault → Bool → Type 0
Stops (Ok _) stopped = stopped ≡ false
Stops (Err Read) stopped = stopped ≡ false
Stops (Err (Line Write)) stopped = stopped ≡ true
Stops (Err (Line OutOfMemory)) stopped = Unit {0}
Stops (Err (Line Full)) stopped = Unit {0}

-- the lines of an input were answered in their order, up to the first fault, which leaves this
pub record ServesUpTo {S R W : Type 0} (leaves : Unanswered → SinkState W → SinkState W → List ℕ → Type 0)
    (does : Speech S) (over : S → Bool) (limit : ℕ) (from to : SourceState R) (old new : S) (before after : SinkState W)
    (answer : Result LinesEnd LinesFault) : Type 0 where
  pub ok : IfOk answer (λ end. ServesTo does over limit end from to old new before after)
  pub read : answer ≡ Err Read → ServesEnded does limit from to old new before after
  pub fault : (fault : Unanswered) → answer ≡ Err (Line fault)
      → ServesSome (leaves fault) does limit from to old before after
  -- that the work can take no more is answered only where one of the lines is why
  pub full : answer ≡ Err (Line Full) → ServesFull does limit from to old
  -- a failed read is always answered
  pub tells_read : from.failed ≡ false → to.failed ≡ true → answer ≡ Err Read
  -- and only it and the bound of reads are
  pub failed : answer ≡ Err Read → (to.failed ≡ true) ⊎ (to.left ≡ 0)
  pub stopped : before.stopped ≡ false → Stops answer after.stopped

-- the lines of an input were answered in their order, up to the first fault; where that is no failed write, the answers
-- that were made by then are written out
abbrev pub Serves : {S R W : Type 0} → Speech S → (S → Bool) → ℕ → SourceState R → SourceState R → S → S
    → SinkState W → SinkState W → Result LinesEnd LinesFault → Type 0
Serves does over limit from to old new before after answer =
    ServesUpTo Leaves does over limit from to old new before after answer
