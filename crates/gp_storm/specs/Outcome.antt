-- What the storm of a script leaves (this profile's own rule).
use Rattle.std.specs.Prelude.{◌≡◌, ℕ, true, false, List, [], Ok, Err}
use Rattle.gp_stream.specs.Sink.{SinkState, Takes, TakesPrefix}
use Rattle.gp_script.specs.Script.{ScriptView}
use Rattle.gp_replay.specs.declared.fault.RunFault.TheVariants as runs
use Rattle.gp_replay.specs.Outcome.{RunAnswer}
use Rattle.gp_storm.specs.declared.form.TotalsForm.{TotalsForm}
use Rattle.gp_storm.specs.declared.form.TotalsForm.TheVariants.{Lines}
use Rattle.gp_storm.specs.Totals.{AreTotalsIn}

-- the totals of a chassis of the script's ports were handed to the sink, and all that it had is written out
pub record WritesTotals {W : Type 0} (form : TotalsForm) (script : ScriptView) (old new : SinkState W) : Type 0 where
  pub text : List ℕ
  pub totals : AreTotalsIn form script text
  pub written : Takes old new text
  pub finished : new.gathered ≡ []
  pub unstopped : new.stopped ≡ false

-- the writer got no more than a prefix of what was gathered before and of such totals
pub record LeavesTotalsPrefix {W : Type 0} (form : TotalsForm) (script : ScriptView) (old new : SinkState W)
    : Type 0 where
  pub text : List ℕ
  pub totals : AreTotalsIn form script text
  pub written : TakesPrefix old new text
  pub stopped : new.stopped ≡ true

-- what a storm leaves of a script that it has read: its totals in this form; or, where a write failed, a prefix of
-- them; else nothing is written
abbrev pub LeavesStormIn : {W : Type 0} → TotalsForm → SinkState W → SinkState W → RunAnswer → ScriptView → Type 0
LeavesStormIn form old new (Ok value) script = WritesTotals form script old new
LeavesStormIn form old new (Err runs.Write) script = LeavesTotalsPrefix form script old new
LeavesStormIn form old new (Err runs.OutOfMemory) script = new ≡ old
LeavesStormIn form old new (Err runs.Mismatch) script = new ≡ old
LeavesStormIn form old new (Err runs.JournalFull) script = new ≡ old
LeavesStormIn form old new (Err _) script = ⊥

-- the same of totals that are lines
abbrev pub LeavesStorm : {W : Type 0} → SinkState W → SinkState W → RunAnswer → ScriptView → Type 0
LeavesStorm old new answer script = LeavesStormIn Lines old new answer script
