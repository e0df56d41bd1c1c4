-- What a teller leaves to its writer, and what it took below a writer that counts.
use Rattle.std.proofs.Common.{◌≡◌, ◌<◌, ℕ, List, [], length, take, true, Option, None, Some, Result, Ok, Err, IfErr, OnErr, OnOk, refl, subst, sym, ap, ◌∙◌}
use Rattle.std.specs.Io.KnownBytes.{Appends, Keeps}
use Rattle.gp_explain.specs.Telling.{Manner}
use Rattle.gp_tell.specs.declared.fault.TellFault.{TellFault}
use Rattle.gp_tell.specs.declared.fault.TellFault.TheVariants.{Write}
use Rattle.gp_tell.specs.Teller.{Finishes, HasAll, HasPrefix, TellerState}
use Rattle.std.specs.declared.alloc.AllocError.{AllocError}
use Rattle.std.specs.declared.alloc.Global.{Global}
use Rattle.std.specs.declared.vec.Vec.{Vec}
use Rattle.gp_ploam.specs.declared.check.Mask.{Mask}
use Rattle.gp_explain.specs.declared.fault.ExplainFault.{ExplainFault}
use Rattle.gp_script.specs.Script.{ScriptView}
use Rattle.gp_stream.specs.Sink.{SinkState}
use Rattle.gp_stream.proofs.SinkLemmas.{prefix_kept}
use Rattle.gp_stream.specs.Source.{SourceState}
use Rattle.gp_replay.specs.declared.fault.PlayFault.{PlayFault}
use Rattle.gp_replay.specs.Lights.{TellsScript}
use Rattle.gp_drive.specs.declared.driven.Driven.{Driven}
use Rattle.gp_drive.specs.declared.fault.DriveFault.{DriveFault}
use Rattle.gp_drive.specs.Outcome.{DrivesScriptIn}
use Rattle.gp_drive.specs.declared.manner.DriveManner.{DriveManner}
use Rattle.gp_tally.specs.Counter.{CounterState}
use Rattle.gp_tally.specs.Counting.{CountingState}
use Rattle.gp_summary.specs.declared.form.SummaryForm.{SummaryForm}
use Rattle.gp_summary.specs.Summary.{IsFresh}
use Rattle.gp_summary.specs.Told.{TellsSummed}
use Rattle.gp_summed.specs.declared.codes.HeardCodes.{HeardCodes}
use Rattle.gp_summed.specs.declared.driving.DriveEnded.{DriveEnded}
use Rattle.gp_summed.specs.Driving.{DrivesSummed}
use Rattle.gp_summed.specs.Explaining.{ExplainsSummed, HasCodes}
use Rattle.gp_with_units.specs.declared.explaining.ToldTrace.{ToldTrace}
use Rattle.gp_with_units.specs.Behind.{TellsThen, stopped_by}
use Rattle.gp_with_units.specs.Driving.{DrivesTold, drive_ended_by}
use Rattle.gp_with_units.specs.Explaining.{ExplainsWithUnits, SumsTrace, trace_ended_by}
use Rattle.gp_with_units.specs.Playing.{PlaysTold, SumsPlay, play_ended_by}
use Rattle.gp_with_units.specs.Telling.{TellsDrive, TellsPlay}

ok_err : (done : Unit {0}) (fault : TellFault) → Ok done ≡ Err fault → ⊥
ok_err done fault h = cc

err_same : (x y : Result (Unit {0}) TellFault) (one other : TellFault) → x ≡ Err one → y ≡ Err other → x ≡ y → one ≡ other
err_same x y one other h k same = cc

-- a teller that wrote out all has no fault
faultless : (had : Option TellFault) → ((fault : TellFault) → had ≡ Some fault → ⊥) → had ≡ None
faultless None h = refl
faultless (Some fault) h = absurd (h fault refl)

stopped_for : (had : Option TellFault) (fault : TellFault) → (had ≡ None → fault ≡ Write) → ((other : TellFault) → had ≡ Some other → fault ≡ other) → fault ≡ stopped_by had
stopped_for None fault unwritten refused = unwritten refl
stopped_for (Some other) fault unwritten refused = refused other refl

pub has_all : {W : Type 0} (began : Manner) (first held : Option (List ℕ)) (old new : TellerState W) (answer : Result (Unit {0}) TellFault)
    → Finishes began first old new answer → held ≡ new.below.held → OnOk answer ((old.fault ≡ None) × HasAll began old.taken first held)
has_all began first held old new (Ok done) p is = (
  faultless old.fault (λ fault some. ok_err done fault (p.refused fault some).0),
  subst (λ (o : List ℕ). HasAll began o first held) p.taken (subst (λ (h : Option (List ℕ)). HasAll began new.taken first h) (sym is) p.ok.0),
)
has_all began first held old new (Err fault) p is = tt

pub has_prefix : {W : Type 0} (began : Manner) (first held : Option (List ℕ)) (old new : TellerState W) (answer : Result (Unit {0}) TellFault)
    → Finishes began first old new answer → held ≡ new.below.held → IfErr answer (λ fault. (fault ≡ stopped_by old.fault) × HasPrefix began old.taken first held)
has_prefix began first held old new (Ok done) p is = tt
has_prefix began first held old new (Err fault) p is = (
  stopped_for old.fault fault p.unwritten (λ other some. err_same (Err fault) (Err other) fault other refl refl (p.refused other some).0),
  subst (λ (o : List ℕ). HasPrefix began o first held) p.taken (subst (λ (h : Option (List ℕ)). HasPrefix began new.taken first h) (sym is) p.error.0),
)

-- where a flush fails behind a text, all of it was written
pub text_part : {T E : Type 0} (answer : Result T E) (a b d : Option (List ℕ)) (text : List ℕ) → 0 < length text → Appends a b text → Keeps b d
    → OnErr answer ((0 < length text) × (count : ℕ) × Appends a d (take count text))
text_part (Ok done) a b d text some p q = tt
text_part (Err fault) a b d text some p q =
    let part = prefix_kept a b d text p q in (some, part.0, part.1)

-- what it took is what was counted
pub took_counted : (held : Option (List ℕ)) (taken counted : List ℕ) → held ≡ Some [] → Appends held (Some taken) counted → taken ≡ counted
took_counted held taken counted is passed = subst (λ (h : Option (List ℕ)). Appends h (Some taken) counted) is passed

pub passed_back : {W : Type 0} (contents : W → Option (List ℕ)) (counting : CountingState W) (parts : W × CounterState) (old : Option (List ℕ))
    → parts ≡ (counting.inner, counting.counter) → Appends old (contents counting.inner) counting.counter.taken → Appends old (contents parts.0) counting.counter.taken
passed_back {W = W} contents counting parts old is passed =
    subst (λ (p : W × CounterState). Appends old (contents p.0) counting.counter.taken) (sym is) passed

-- what was told and counted, by the teller and the counter that were given back
module _ {W : Type 0} (counting : CountingState (TellerState W)) (parts : TellerState W × CounterState)
    (is : parts ≡ (counting.inner, counting.counter)) (took : counting.inner.taken ≡ counting.counter.taken) where
  pub plays_told : (form : SummaryForm) (manner : Manner) (script : ScriptView) (played : Result (Unit {0}) PlayFault) (summary : Result (Vec ℕ Global) AllocError)
      (old new : Option (List ℕ)) (answer : Result (Unit {0}) PlayFault) → TellsSummed true form script counting played summary
      → TellsThen manner parts.0 (SumsPlay played summary) (λ fault. play_ended_by fault played) old new answer → PlaysTold W form manner script old new answer
  plays_told form manner script played summary old new answer plays tells = record {
    counting = counting;
    played = played;
    summary = summary;
    plays = plays;
    took = took;
    tells = subst (λ (p : TellerState W × CounterState). TellsThen manner p.0 (SumsPlay played summary) (λ fault. play_ended_by fault played) old new answer) is tells;
  }

  pub explains_told : {R : Type 0} (form : SummaryForm) (manner : Manner) (mask : Mask) (from to : SourceState R) (lines : Result ℕ ExplainFault)
      (summary : Result (Vec ℕ Global) AllocError) (codes : Result HeardCodes AllocError) (old new : Option (List ℕ)) (told : ToldTrace) → manner.mask ≡ mask
      → ExplainsSummed form mask from to counting lines summary → HasCodes mask counting.counter.taken codes
      → TellsThen manner parts.0 (SumsTrace lines codes summary) (λ fault. trace_ended_by fault lines) old new told → ExplainsWithUnits R W form manner from to old new told
  explains_told form manner mask from to lines summary codes old new told under explains heard tells = record {
    counting = counting;
    lines = lines;
    summary = summary;
    codes = codes;
    explains = subst (λ (m : Mask). ExplainsSummed form m from to counting lines summary) (sym under) explains;
    heard = subst (λ (m : Mask). HasCodes m counting.counter.taken codes) (sym under) heard;
    took = took;
    tells = subst (λ (p : TellerState W × CounterState). TellsThen manner p.0 (SumsTrace lines codes summary) (λ fault. trace_ended_by fault lines) old new told) is tells;
  }

  pub drives_told : {T : Type 0} (form : SummaryForm) (told : Manner) (manner : DriveManner) (script : ScriptView) (from to : SourceState T) (ended : DriveEnded)
      (old new : Option (List ℕ)) (answer : DriveEnded) → DrivesSummed form manner script from to counting ended.driven ended.summary
      → TellsThen told parts.0 (λ before behind end. (behind ≡ before) × (end ≡ ended)) (λ fault. drive_ended_by fault ended) old new answer
      → DrivesTold T W form told manner script from to old new answer
  drives_told form told manner script from to ended old new answer drives tells = record {
    counting = counting;
    ended = ended;
    drives = drives;
    took = took;
    tells = subst (λ (p : TellerState W × CounterState). TellsThen told p.0 (λ before behind end. (behind ≡ before) × (end ≡ ended)) (λ fault. drive_ended_by fault ended) old new answer) is tells;
  }

-- what a teller took and told with nothing behind it, by the teller that was given back
module _ {W : Type 0} (before after : SinkState (TellerState W)) (teller : TellerState W) (is : teller ≡ after.writer) (fresh : IsFresh before)
    (held : Some teller.taken ≡ after.held) where
  tells_by : {A : Type 0} (manner : Manner) (ended : TellFault → A) (done : A) (old new : Option (List ℕ)) (answer : A)
      → TellsThen manner teller (λ mid behind end. (behind ≡ mid) × (end ≡ done)) ended old new answer
      → TellsThen manner after.writer (λ mid behind end. (behind ≡ mid) × (end ≡ done)) ended old new answer
  tells_by manner ended done old new answer tells =
      subst (λ (t : TellerState W). TellsThen manner t (λ mid behind end. (behind ≡ mid) × (end ≡ done)) ended old new answer) is tells

  took : after.held ≡ Some after.writer.taken
  took = sym held ∙ ap (λ (t : TellerState W). Some t.taken) is

  pub tells_play : (manner : Manner) (script : ScriptView) (played : Result (Unit {0}) PlayFault) (old new : Option (List ℕ)) (answer : Result (Unit {0}) PlayFault)
      → TellsScript true script before after played
      → TellsThen manner teller (λ mid behind end. (behind ≡ mid) × (end ≡ played)) (λ fault. play_ended_by fault played) old new answer
      → TellsPlay W manner script old new answer
  tells_play manner script played old new answer plays tells = record {
    before = before;
    after = after;
    fresh = fresh;
    played = played;
    plays = plays;
    held = took;
    tells = tells_by manner (λ fault. play_ended_by fault played) played old new answer tells;
  }

  pub tells_drive : {T : Type 0} (told : Manner) (manner : DriveManner) (script : ScriptView) (from to : SourceState T) (driven : Result Driven DriveFault)
      (ended : DriveEnded) (old new : Option (List ℕ)) (answer : DriveEnded) → ended ≡ record { driven = driven; summary = None }
      → DrivesScriptIn manner driven from to before after script
      → TellsThen told teller (λ mid behind end. (behind ≡ mid) × (end ≡ ended)) (λ fault. drive_ended_by fault ended) old new answer
      → TellsDrive T W told manner script from to old new answer
  tells_drive told manner script from to driven ended old new answer so drives tells = record {
    before = before;
    after = after;
    fresh = fresh;
    driven = driven;
    drives = drives;
    held = took;
    tells = subst (λ (e : DriveEnded). TellsThen told after.writer (λ mid behind end. (behind ≡ mid) × (end ≡ e)) (λ fault. drive_ended_by fault e) old new answer) so
        (tells_by told (λ fault. drive_ended_by fault ended) ended old new answer tells);
  }
