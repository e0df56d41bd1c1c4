-- How a storm ends, from how its script was read and run.
use Rattle.std.proofs.Common.{◌≡◌, Ok, Err, IsErrAnd, subst, refl, sym, inr}
use Rattle.gp_stream.specs.Source.{SourceState}
use Rattle.gp_stream.specs.Sink.{SinkState}
use Rattle.gp_script.specs.Script.{ScriptView, storm_script_of}
use Rattle.gp_replay.specs.declared.fault.RunFault.{RunFault}
use Rattle.gp_replay.specs.declared.fault.RunFault.TheVariants as runs
use Rattle.gp_replay.specs.Outcome.{ReadsBy, RunAnswer, RunEnds}
use Rattle.gp_storm.specs.Faults.{IsOfStorm}
use Rattle.gp_storm.specs.declared.form.TotalsForm.{TotalsForm}
use Rattle.gp_storm.specs.Outcome.{LeavesStormIn, LeavesTotalsPrefix}

-- what an answer is told to be
told_of : {R W : Type 0} (form : TotalsForm) (before after : SourceState R) (old new : SinkState W) (fault : RunFault) (r : RunAnswer) → IsErrAnd r (λ f. f ≡ fault)
    → RunEnds storm_script_of (LeavesStormIn form old new) before after old new (Err fault) → RunEnds storm_script_of (LeavesStormIn form old new) before after old new r
told_of form before after old new fault (Ok v) told p = absurd told
told_of form before after old new fault (Err f) told p =
    subst (λ (o : RunFault). RunEnds storm_script_of (LeavesStormIn form old new) before after old new (Err o)) (sym told) p

-- the storm itself failed
pub storm_failed : {R W : Type 0} (form : TotalsForm) (before after : SourceState R) (old : SinkState W) (script : ScriptView) (fault : RunFault) (r : RunAnswer)
    → ReadsBy storm_script_of before after (Ok script) → IsOfStorm fault → IsErrAnd r (λ f. f ≡ fault)
    → RunEnds storm_script_of (LeavesStormIn form old old) before after old old r
storm_failed form before after old script fault r input own told = told_of form before after old old fault r told (by_fault fault own)
  where
    by_fault : (f : RunFault) → IsOfStorm f → RunEnds storm_script_of (LeavesStormIn form old old) before after old old (Err f)
    by_fault runs.OutOfMemory own = inr (record { script = script; input = input; held = refl })
    by_fault runs.Mismatch own = record { script = script; input = input; held = refl }
    by_fault runs.JournalFull own = record { script = script; input = input; held = refl }
    by_fault runs.Read own = absurd own
    by_fault runs.TooLong own = absurd own
    by_fault (runs.Script f) own = absurd own
    by_fault runs.Write own = absurd own

-- its totals were not all written
pub storm_unwritten : {R W : Type 0} (form : TotalsForm) (before after : SourceState R) (old new : SinkState W) (script : ScriptView) (r : RunAnswer)
    → ReadsBy storm_script_of before after (Ok script) → LeavesTotalsPrefix form script old new → IsErrAnd r (λ f. f ≡ runs.Write)
    → RunEnds storm_script_of (LeavesStormIn form old new) before after old new r
storm_unwritten form before after old new script r input left told =
    told_of form before after old new runs.Write r told (record { script = script; input = input; held = left })
