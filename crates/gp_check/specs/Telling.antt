-- What is told of a source, and where (this profile's own rule).
use Rattle.std.specs.Prelude.{◌≡◌, ℕ, Bool, true, false, List, [], Result, Ok, Err, if◌then◌else◌, ◌&&◌, string_bytes}
use Rattle.gp_stream.specs.Sink.{SinkState, WritesWhole}
use Rattle.gp_stream.specs.Source.{SourceState}
use Rattle.gp_check.specs.declared.fault.ScriptCheckFault.{ScriptCheckFault}
use Rattle.gp_check.specs.declared.fault.ScriptCheckFault.TheVariants as ends
use Rattle.gp_check.specs.declared.found.Found.{Found}
use Rattle.gp_check.specs.declared.found.Found.TheVariants as founds
use Rattle.gp_check.specs.declared.source.CheckManner.{CheckManner}
use Rattle.gp_check.specs.declared.source.CheckedSource.{CheckedSource}
use Rattle.gp_check.specs.declared.source.CheckedSource.TheVariants as told
use Rattle.gp_check.specs.Check.{IsFound, is_script, line_of}
use Rattle.gp_check.specs.Object.{object_of}

-- nothing is told of what was found: of a script where that is not wanted
abbrev pub is_passed_over : CheckManner → Found → Bool
is_passed_over manner found = is_script found && manner.quiet

-- what is told of it: an object, or its line
abbrev pub text_of : CheckManner → List ℕ → Found → List ℕ
text_of manner name found = if manner.json then object_of name found else line_of name found

-- what was found in a source that was read is told: of a script all of it goes to the sink or nothing is told, of
-- another an object does, or its line is handed back and nothing goes there; a prefix where writing stopped
abbrev pub TellsFound : {W : Type 0} → CheckManner → List ℕ → Found → SinkState W → SinkState W
    → Result CheckedSource ScriptCheckFault → Type 0
TellsFound manner name found old new (Ok told.Script) =
    (is_script found ≡ true)
    × (manner.quiet ≡ true → new ≡ old)
    × (manner.quiet ≡ false → WritesWhole {E = ScriptCheckFault} old new (text_of manner name found) (Ok (tt {0})))
TellsFound manner name found old new (Ok told.NoScript) =
    (is_script found ≡ false) × (manner.json ≡ true)
    × WritesWhole {E = ScriptCheckFault} old new (text_of manner name found) (Ok (tt {0}))
TellsFound manner name found old new (Ok (told.Wrong line)) =
    (is_script found ≡ false) × (manner.json ≡ false) × (string_bytes line ≡ text_of manner name found) × (new ≡ old)
TellsFound manner name found old new (Ok told.Unread) = ⊥
TellsFound manner name found old new (Err ends.OutOfMemory) = new ≡ old
TellsFound manner name found old new (Err ends.Write) =
    (is_passed_over manner found ≡ false)
    × WritesWhole {T = Unit {0}} old new (text_of manner name found) (Err ends.Write)

-- something was found in a source that was read to its end, and it is told
pub record TellsRead {R W : Type 0} (manner : CheckManner) (name : List ℕ) (before after : SourceState R)
    (old new : SinkState W) (answer : Result CheckedSource ScriptCheckFault) : Type 0 where
  pub found : Found
  pub is : IsFound manner.purpose before after found
  pub tells : TellsFound manner name found old new answer

-- how a source is told of, by the answer: where memory ran out nothing was written
abbrev pub TellsSource : {R W : Type 0} → CheckManner → List ℕ → SourceState R → SourceState R
    → SinkState W → SinkState W
    → Result CheckedSource ScriptCheckFault → Type 0
TellsSource manner name before after old new (Ok told.Unread) =
    IsFound manner.purpose before after founds.Unread × (new ≡ old)
TellsSource manner name before after old new (Err ends.OutOfMemory) = new ≡ old
TellsSource manner name before after old new answer = TellsRead manner name before after old new answer
