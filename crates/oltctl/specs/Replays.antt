-- What a replay or a storm found in its input (this profile's own rule).
use Rattle.std.specs.Prelude.{◌≡◌, ℕ, Bool, true, false, List, Option, Result, Ok, Err}
use Rattle.gp_check.specs.declared.checking.Purpose.{Purpose}
use Rattle.gp_check.specs.declared.found.Found.{Found}
use Rattle.gp_check.specs.declared.source.CheckedSource.{CheckedSource}
use Rattle.gp_check.specs.declared.source.CheckedSource.TheVariants as told
use Rattle.gp_check.specs.Check.{IsFound, is_script}
use Rattle.gp_script.specs.declared.fault.ScriptFault.{ScriptFault}
use Rattle.gp_script.specs.Script.{ScriptView}
use Rattle.gp_stream.specs.Source.{SourceState, ReadsTooMuch, max_bytes, max_reads}
use Rattle.gp_replay.specs.Outcome.{ReadsBy}
use Rattle.gp_explain.specs.declared.form.Form.{Form}
use Rattle.gp_verify.specs.declared.outcome.CheckFault.{CheckFault}
use Rattle.gp_verify.specs.Checking.{ChecksScript}

-- where a source over a reader stands, from which nothing was read yet
abbrev pub unread : {R : Type 0} → R → Option (List ℕ) → SourceState R
unread reader remaining = record { reader = reader; remaining = remaining; left = max_reads; failed = false }

-- all that a reader had to give, where it tells its bytes, is read as this, by what bytes say
abbrev pub IsReadBy : {R : Type 0} → (List ℕ → Result ScriptView ScriptFault) → R → Option (List ℕ)
    → Result ScriptView ScriptFault
    → Type 0
IsReadBy {R = R} says_of reader remaining answer =
    (after : SourceState R) × ReadsBy says_of (unread reader remaining) after answer

-- a reader had more to give than a script may have
abbrev pub IsTooLong : {R : Type 0} → R → Option (List ℕ) → Type 0
IsTooLong {R = R} reader remaining = (after : SourceState R) × ReadsTooMuch max_bytes (unread reader remaining) after

-- where an endless source over a reader stands, from which nothing was read yet
abbrev pub unread_endless : {R : Type 0} → R → Option (List ℕ) → SourceState R
unread_endless reader remaining =
    record { reader = reader; remaining = remaining; left = 18446744073709551615; failed = false }

-- a trace that one reader had to give was verified against the script that another had to give, and this was told of
-- it in this form; or the output took no more of what is told at the end
abbrev pub IsCheckedBy : {S T : Type 0} → Form → S → Option (List ℕ) → T → Option (List ℕ) → Result ℕ CheckFault
    → Type 0
IsCheckedBy {S = S} {T = T} form script of_script trace of_trace answer =
    (after : SourceState S) × (to : SourceState T) × (told : List ℕ)
    × ChecksScript form (unread script of_script) after (unread_endless trace of_trace) to told answer

-- what was told of a file is that it is a script
abbrev pub is_told_script : CheckedSource → Bool
is_told_script told.Script = true
is_told_script told.NoScript = false
is_told_script (told.Wrong line) = false
is_told_script told.Unread = false

-- something was found in what a reader had to give, and what is told of it is whether that is a script for this
pub record IsToldBy {R : Type 0} (purpose : Purpose) (reader : R) (remaining : Option (List ℕ)) (answer : CheckedSource)
    : Type 0 where
  pub after : SourceState R
  pub found : Found
  pub is : IsFound purpose (unread reader remaining) after found
  pub tells : is_told_script answer ≡ is_script found
