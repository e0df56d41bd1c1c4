-- What is told of a file that may be a script (this profile's own rule).
use Rattle.std.specs.Prelude.{◌≡◌, ◌≤◌, ◌⊎◌, ℕ, Bool, true, false, List, [], ◌∷◌, ◌++◌, ◌==◌, if◌then◌else◌, codes, decimal, length, Option, Some, None, Result, Ok, Err, IfOk}
use Rattle.gp_stream.specs.Sink.{SinkState, WritesWhole}
use Rattle.gp_stream.specs.Source.{SourceState, ReadsWhole, ReadsTooMuch, max_bytes}
use Rattle.gp_script.specs.declared.mistake.Mistake.{Mistake}
use Rattle.gp_script.specs.Fault.{mistake_view}
use Rattle.gp_script.specs.Mistake.{MistakeView}
use Rattle.gp_script.specs.Script.{ScriptView, script_or_mistake, storm_script_or_mistake}
use Rattle.gp_check.specs.declared.fault.ScriptCheckFault.{ScriptCheckFault}
use Rattle.gp_check.specs.declared.fault.ScriptCheckFault.TheVariants as ends
use Rattle.gp_check.specs.declared.checking.Purpose.{Purpose}
use Rattle.gp_check.specs.declared.checking.Purpose.TheVariants as purposes
use Rattle.gp_check.specs.declared.found.Found.{Found}
use Rattle.gp_check.specs.declared.found.Found.TheVariants as found
use Rattle.gp_check.specs.Lines.{line_of_mistake}
use Rattle.gp_check.specs.Words.{placed_text}

-- what is counted, of one and of any other number of them
abbrev pub plural : ℕ → List ℕ → List ℕ
plural count what = if count == 1 then what else what ++ codes "s"

-- how many there are
abbrev pub count_text : ℕ → List ℕ → List ℕ
count_text count what = decimal count ++ codes " " ++ plural count what

-- what is told of a file, but for its name
abbrev pub found_text : Found → List ℕ
found_text (found.Script ports units events) =
    count_text ports (codes "port") ++ codes ", " ++ count_text units (codes "unit") ++ codes ", "
    ++ count_text events (codes "event")
found_text found.Unread = codes "can't be read"
found_text found.TooLong = codes "more than 1048576 bytes"
found_text (found.Wrong mistake line) = placed_text mistake line

-- the line of a file
abbrev pub line_of : List ℕ → Found → List ℕ
line_of name found = name ++ codes ": " ++ found_text found ++ 10 ∷ []

-- the file is a script
abbrev pub is_script : Found → Bool
is_script (found.Script ports units events) = true
is_script found.Unread = false
is_script found.TooLong = false
is_script (found.Wrong mistake line) = false

-- what bytes say, by what the script is for
abbrev pub said_by : Purpose → List ℕ → Result ScriptView MistakeView
said_by purposes.Replay bytes = script_or_mistake bytes
said_by purposes.Storm bytes = storm_script_or_mistake bytes

-- the bytes say a script for this with so many ports, units and events
pub record SaysScript (purpose : Purpose) (bytes : List ℕ) (ports units events : ℕ) : Type 0 where
  pub script : ScriptView
  pub says : said_by purpose bytes ≡ Ok script
  pub ports_are : ports ≡ length script.ports
  pub units_are : units ≡ length script.units
  pub events_are : events ≡ length script.events

-- the bytes say no script for this but have this mistake, which stands in this line, where one is known
pub record HasMistake (purpose : Purpose) (bytes : List ℕ) (mistake : Mistake) (line : Option ℕ) : Type 0 where
  pub says : said_by purpose bytes ≡ Err (mistake_view mistake)
  pub stands : line ≡ line_of_mistake bytes (mistake_view mistake)

-- what was found is what bytes say: a script, or a mistake
abbrev pub IsOfBytes : Purpose → List ℕ → Found → Type 0
IsOfBytes purpose bytes (found.Script ports units events) = SaysScript purpose bytes ports units events
IsOfBytes purpose bytes found.Unread = ⊥
IsOfBytes purpose bytes found.TooLong = ⊥
IsOfBytes purpose bytes (found.Wrong mistake line) = HasMistake purpose bytes mistake line

-- what is told of bytes alone: nothing of a script, else what was found
pub record Places (purpose : Purpose) (bytes : List ℕ) (told : Option (List ℕ)) : Type 0 where
  pub found : Found
  pub is : IsOfBytes purpose bytes found
  pub tells : told ≡ (if is_script found then None else Some (found_text found))

-- the source was read to its end without a failed read, it is not too long, and this is what its bytes say; which bytes
-- came is said of a reader that tells its bytes
pub record IsOfSource {R : Type 0} (purpose : Purpose) (before after : SourceState R) (found : Found) : Type 0 where
  pub bytes : List ℕ
  pub read : ReadsWhole before after bytes
  pub short : length bytes ≤ max_bytes
  pub says : IsOfBytes purpose bytes found

-- what was found in a source
abbrev pub IsFound : {R : Type 0} → Purpose → SourceState R → SourceState R → Found → Type 0
IsFound purpose before after found.Unread = (after.failed ≡ true) ⊎ (after.left ≡ 0)
IsFound purpose before after found.TooLong = ReadsTooMuch max_bytes before after
IsFound purpose before after said = IsOfSource purpose before after said

-- something was found in a source and told by its line: all of the line went to the sink, or a prefix of it where
-- writing stopped, and the answer is whether it is a script
pub record ChecksSource {R W : Type 0} (name : List ℕ) (before after : SourceState R) (old new : SinkState W)
    (answer : Result Bool ScriptCheckFault) : Type 0 where
  pub found : Found
  pub is : IsFound purposes.Replay before after found
  pub writes : WritesWhole old new (line_of name found) answer
  pub tells : IfOk answer (λ told. told ≡ is_script found)

-- how checking a source ends, by its answer: where memory ran out nothing was written
abbrev pub Checks : {R W : Type 0} → List ℕ → SourceState R → SourceState R → SinkState W → SinkState W
    → Result Bool ScriptCheckFault → Type 0
Checks name before after old new (Ok answer) = ChecksSource name before after old new (Ok answer)
Checks name before after old new (Err ends.Write) = ChecksSource name before after old new (Err ends.Write)
Checks name before after old new (Err ends.OutOfMemory) = new ≡ old
