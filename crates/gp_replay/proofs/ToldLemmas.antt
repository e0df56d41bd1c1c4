-- How the telling of a script ends, by what was told of it and how its sink was left.
use Rattle.std.proofs.Common.{◌≡◌, ◌<◌, length, ℕ, Bool, true, false, List, [], ◌++◌, Result, Ok, Err, IsErrAnd, subst, refl, sym, ap, ◌∙◌, inl, inr, arith}
use Rattle.std.specs.Io.KnownBytes.{Appends}
use Rattle.std.proofs.lemmas.List.{append-nil}
use Rattle.gp_machine.specs.declared.entry.Entry.{Entry}
use Rattle.gp_machine.specs.declared.entry.Receipt.{Receipt}
use Rattle.gp_fibre.specs.Schedule.{WorldState}
use Rattle.gp_script.specs.declared.script.ScriptEvent.{ScriptEvent}
use Rattle.gp_script.specs.declared.script.ScriptEvent.TheVariants as events
use Rattle.gp_script.specs.Lose.{LossesView}
use Rattle.gp_script.specs.Script.{ScriptView}
use Rattle.gp_stream.specs.declared.sink.WriteStopped.{WriteStopped}
use Rattle.gp_stream.specs.Sink.{SinkState, Takes, TakesPrefix, Finishes}
use Rattle.gp_stream.proofs.SinkLemmas.{gives_unstopped, takes_more, takes_prefix_after}
use Rattle.gp_trace.specs.Text.{trace_text}
use Rattle.gp_replay.specs.declared.fault.PlayFault.{PlayFault}
use Rattle.gp_replay.specs.declared.fault.PlayFault.TheVariants as faults
use Rattle.gp_replay.specs.Chassis.{opening_play}
use Rattle.gp_replay.specs.Laws.{EachPortRuns}
use Rattle.gp_replay.specs.Lights.{IsTold, IsToldInPart, LeavesTold, LeavesToldLines, LeavesToldPrefix, Saying, Says, SomeToldByChassis, SomeToldByFibre, TellsAll, TellsOn, TellsScript, TellsSome, ToldByChassis, ToldByFibre, WritesTold}
use Rattle.gp_replay.specs.Opening.{OpensFibre}
use Rattle.gp_replay.specs.Playing.{LossyPlay, chassis_playing, fibre_playing}
use Rattle.gp_replay.specs.Play.{turns_of}
use Rattle.gp_replay.specs.Runs.{PortsRun}
use Rattle.gp_replay.specs.ScriptPlay.{Plays, PlaysPrefix, ends_of}
use Rattle.gp_replay.specs.WorldPlay.{WorldTakes, WorldTakesAll}
use Rattle.gp_replay.specs.WorldWriting.{Numbered, WorldTakesPart, WorldTakesPrefix}
use Rattle.gp_replay.specs.Writing.{EndsPlay, LeavesScript, LeavesScriptLines, LeavesScriptPrefix, PlaysScript, WritesScript}
use Rattle.gp_replay.proofs.LightLemmas.{WholeIsPart, told_all_some, told_plays, told_some_plays, unlit_some, unlit_text}
use Rattle.gp_replay.proofs.PlayLemmas.{not_both, or_kept, or_true}
use Rattle.gp_replay.proofs.PlayingLemmas.{chassis_all, chassis_some, fibre_all, fibre_some}
use Rattle.gp_replay.proofs.ScriptPlayLemmas.{chassis_stands}
use Rattle.gp_replay.proofs.TurnLemmas.{takes_all}
use Rattle.gp_replay.proofs.WorldLemmas.{numbered_as}
use Rattle.gp_replay.proofs.WorldPlayLemmas.{world_stands}

-- what is told from here on is told of the script, or of a part of it
pub record SaysFor {S : Type 0} (lights : Bool) (script : ScriptView) (start : S) (whole part : Saying S) : Type 0 where
  pub all : (receipts : List Receipt) (text : List ℕ) (end : S) → whole start receipts text end
      → IsTold lights script receipts text × ((plays : Plays script receipts) × PortsRun script.ports receipts (ends_of script receipts plays))
  pub some : (receipts : List Receipt) (text : List ℕ) (end : S) → part start receipts text end → IsToldInPart lights script receipts text × PlaysPrefix script receipts
  pub is_part : (receipts : List Receipt) (text : List ℕ) (end : S) → whole start receipts text end → part start receipts text end

-- ---- on a chassis

chassis_part : WholeIsPart chassis_playing
chassis_part e a b rs h = takes_all (turns_of e) a b rs h

pub chassis_says : EachPortRuns → (lights : Bool) (script : ScriptView) → script.units ≡ []
    → SaysFor lights script (opening_play script) (TellsAll lights script.mask chassis_playing script.events) (TellsSome lights script.mask chassis_playing script.events)
chassis_says runs lights script none =
    let stands = chassis_stands runs script none in
    let start = opening_play script in record {
      all = λ rs t end h. (
        ToldByChassis none end h,
        stands.all rs end (chassis_all script.events start end rs (told_plays lights script.mask chassis_playing script.events start end rs t h)),
      );
      some = λ rs t end h. (
        SomeToldByChassis none end h,
        stands.some rs end (chassis_some script.events start end rs (told_some_plays lights script.mask chassis_playing chassis_part script.events start end rs t h)),
      );
      is_part = λ rs t end h. told_all_some lights script.mask chassis_playing script.events start end rs t h;
    }

-- ---- on a fibre

part_of_event : (losses : LossesView) (e : ScriptEvent) (a b : WorldState) (xs : List Entry) → WorldTakes losses e a xs b → WorldTakesPart losses e a xs b
part_of_event losses (events.Frames port count) a b xs t = (count, omega arith, t)
part_of_event losses (events.Burst port at bytes) a b xs t = inr t
part_of_event losses (events.Command port command) a b xs t = inr t
part_of_event losses (events.Light unit lit) a b xs t = inr t

fibre_part : WholeIsPart fibre_playing
fibre_part e a b rs h = record {
  happened = numbered_as (WorldTakes a.losses e) (WorldTakesPart a.losses e) (λ u v xs t. part_of_event a.losses e u v xs t) a.play b.play rs h.happened;
  losses = h.losses;
}

pub fibre_says : (lights : Bool) (script : ScriptView) (start : LossyPlay) → 0 < length script.units → OpensFibre script start
    → SaysFor lights script start (TellsAll lights script.mask fibre_playing script.events) (TellsSome lights script.mask fibre_playing script.events)
fibre_says lights script start some opens =
    let stands = world_stands script opens.config start.play some opens.one_port opens.world opens.next in record {
      all = λ rs t end h. (
        ToldByFibre some start opens end h,
        stands.all rs end.play (subst (λ (l : LossesView). Numbered (WorldTakesAll l script.events) start.play rs end.play) opens.losses
            (fibre_all script.events start end rs (told_plays lights script.mask fibre_playing script.events start end rs t h)).happened),
      );
      some = λ rs t end h. (
        SomeToldByFibre some start opens end h,
        stands.some rs end.play (subst (λ (l : LossesView). Numbered (WorldTakesPrefix l script.events) start.play rs end.play) opens.losses
            (fibre_some script.events start end rs (told_some_plays lights script.mask fibre_playing fibre_part script.events start end rs t h)).happened),
      );
      is_part = λ rs t end h. told_all_some lights script.mask fibre_playing script.events start end rs t h;
    }

-- ---- the end

-- all was told, and all was written out
whole_told : {S W : Type 0} (lights : Bool) (script : ScriptView) (T P : Saying S) (start b : S) (x y z : SinkState W) (u : Unit {0}) → SaysFor lights script start T P
    → Says T start b x y → Finishes {E = PlayFault} y z (Ok u) → WritesTold lights script x z
whole_told lights script T P start b x y z u says w f =
    let all = takes_more x y z _ _ w.lines f.gives.ok in
    let text : x.gathered ++ w.text ≡ all.written =
    ap (λ (l : List ℕ). x.gathered ++ l) (sym (append-nil w.text)) ∙ all.rest ∙ ap (λ (l : List ℕ). all.written ++ l) f.empty ∙ append-nil all.written in
    let told = says.all w.receipts w.text b w.told in
    record {
      receipts = w.receipts;
      text = w.text;
      told = told.0;
      plays = told.1.0;
      runs = told.1.1;
      written = rw text all.appended;
      finished = f.empty;
      unstopped = gives_unstopped y z [] (Ok u) f.gives;
    }

-- a part was told, and all of its text was written out
part_told : {S W : Type 0} (lights : Bool) (script : ScriptView) (T P : Saying S) (start b : S) (x y z : SinkState W) (u : Unit {0}) → SaysFor lights script start T P
    → Says P start b x y → Finishes {E = WriteStopped} y z (Ok u) → LeavesToldLines lights script x z
part_told lights script T P start b x y z u says w f =
    let told = says.some w.receipts w.text b w.told in record {
      receipts = w.receipts;
      text = w.text;
      told = told.0;
      plays = told.1;
      lines = subst (λ (l : List ℕ). Takes x z l) (append-nil w.text) (takes_more x y z _ _ w.lines f.gives.ok);
      finished = f.empty;
      unstopped = gives_unstopped y z [] (Ok u) f.gives;
    }

-- a part was told, and its text was not all written
part_untold : {S W : Type 0} (lights : Bool) (script : ScriptView) (T P : Saying S) (start b : S) (x y z : SinkState W) → SaysFor lights script start T P
    → Says P start b x y → TakesPrefix y z [] → z.stopped ≡ true → LeavesToldPrefix lights script x z
part_untold lights script T P start b x y z says w f stopped =
    let told = says.some w.receipts w.text b w.told in record {
      receipts = w.receipts;
      text = w.text;
      told = told.0;
      plays = told.1;
      written = subst (λ (l : List ℕ). TakesPrefix x z l) (append-nil w.text) (takes_prefix_after x y z _ _ w.lines f);
      stopped = stopped;
    }

-- the writing out ends it
ends_told : {S W : Type 0} (lights : Bool) (script : ScriptView) (T P : Saying S) (start b : S) (x y z : SinkState W) (v : Unit {0}) (answer : Result (Unit {0}) PlayFault)
    → SaysFor lights script start T P → TellsOn {T = Unit {0}} T P start b x y (Ok v) → EndsPlay y z (Ok v) answer → TellsScript lights script x z answer
ends_told lights script T P start b x y z v (Ok u) says p e = record {
  ok = whole_told lights script T P start b x y z u says p.ok e.0;
  fault = tt;
  refused = λ h. let none = e.0.gives.refused (or_kept x.stopped y.stopped false p.stopped h) in (none.0, none.1 ∙ p.refused h);
  flushed = λ f n. e.0.gives.flushed (p.flushed f refl);
}
ends_told lights script T P start b x y z v (Err f) says p e =
    let whole = p.ok in
    let stopped = or_true y.stopped z.stopped e.0.gives.stopped in
    let part : Says P start b x y =
    record { receipts = whole.receipts; text = whole.text; told = says.is_part whole.receipts whole.text b whole.told; lines = whole.lines } in
    let left : LeavesToldPrefix lights script x z = part_untold lights script T P start b x y z says part e.0.gives.error stopped in
    subst (λ (o : PlayFault). TellsScript {T = Unit {0}} lights script x z (Err o)) (sym e.1) (record {
      ok = tt;
      fault = left;
      refused = λ h. (refl, (e.0.gives.refused (or_kept x.stopped y.stopped false p.stopped h)).1 ∙ p.refused h);
      flushed = λ g n. not_both z.stopped stopped n;
    })

-- memory was refused, and what was told is written out
ends_unfilled : {S W : Type 0} (lights : Bool) (script : ScriptView) (T P : Saying S) (start b : S) (x y z : SinkState W) (written : Result (Unit {0}) WriteStopped)
    → SaysFor lights script start T P → 0 < length script.units → TellsOn {T = Unit {0}} T P start b x y (Err faults.OutOfMemory) → Finishes y z written
    → TellsScript {T = Unit {0}} lights script x z (Err faults.OutOfMemory)
ends_unfilled lights script T P start b x y z (Ok u) says some p f = record {
  ok = tt;
  fault = inr (some, inl (part_told lights script T P start p.fault.0 x y z u says p.fault.1 f));
  refused = λ h. (refl, (f.gives.refused (or_kept x.stopped y.stopped false p.stopped h)).1 ∙ p.refused h);
  flushed = λ g n. f.gives.flushed (p.flushed g refl);
}
ends_unfilled lights script T P start b x y z (Err s) says some p f =
    let stopped = or_true y.stopped z.stopped f.gives.stopped in record {
      ok = tt;
      fault = inr (some, inr (part_untold lights script T P start p.fault.0 x y z says p.fault.1 f.gives.error stopped));
      refused = λ h. (refl, (f.gives.refused (or_kept x.stopped y.stopped false p.stopped h)).1 ∙ p.refused h);
      flushed = λ g n. not_both z.stopped stopped n;
    }

-- a write failed
ends_unwritten : {S W : Type 0} (lights : Bool) (script : ScriptView) (T P : Saying S) (start b : S) (x y : SinkState W) → SaysFor lights script start T P
    → TellsOn {T = Unit {0}} T P start b x y (Err faults.Write) → TellsScript {T = Unit {0}} lights script x y (Err faults.Write)
ends_unwritten lights script T P start b x y says p =
    let left = p.fault in
    let told = says.some left.receipts left.text left.end left.told in
    let stopped = or_true x.stopped y.stopped p.stopped in record {
      ok = tt;
      fault = record { receipts = left.receipts; text = left.text; told = told.0; plays = told.1; written = left.lines; stopped = stopped };
      refused = λ h. (refl, p.refused h);
      flushed = λ g n. not_both y.stopped stopped n;
    }

pub tell_ends : {S W : Type 0} (lights : Bool) (script : ScriptView) (T P : Saying S) (start b : S) (x y z : SinkState W) (told answer : Result (Unit {0}) PlayFault)
    → SaysFor lights script start T P → (told ≡ Err faults.OutOfMemory → 0 < length script.units) → TellsOn T P start b x y told → EndsPlay y z told answer
    → TellsScript lights script x z answer
tell_ends lights script T P start b x y z (Ok v) answer says some p e = ends_told lights script T P start b x y z v answer says p e
tell_ends lights script T P start b x y z (Err faults.OutOfMemory) answer says some p e =
    subst (λ (r : Result (Unit {0}) PlayFault). TellsScript lights script x z r) (sym e.0) (ends_unfilled lights script T P start b x y z e.1 says (some refl) p e.2)
tell_ends {W = W} lights script T P start b x y z (Err faults.Write) answer says some p e =
    subst (λ (r : Result (Unit {0}) PlayFault). TellsScript lights script x z r) (sym e.0)
    (subst (λ (s : SinkState W). TellsScript {T = Unit {0}} lights script x s (Err faults.Write)) (sym e.1) (ends_unwritten lights script T P start b x y says p))

-- memory was refused before the telling began
pub tell_refused : {W T : Type 0} (lights : Bool) (script : ScriptView) (x : SinkState W) (r : Result T PlayFault) → IsErrAnd r (λ o. o ≡ faults.OutOfMemory)
    → TellsScript lights script x x r
tell_refused lights script x (Ok v) told = absurd told
tell_refused {T = T} lights script x (Err f) told = subst (λ (o : PlayFault). TellsScript {T = T} lights script x x (Err o)) (sym told) (record {
  ok = tt;
  fault = inl refl;
  refused = λ h. (refl, refl);
  flushed = λ g n. g;
})

-- ---- without lights

pub plain_text : (script : ScriptView) (rs : List Receipt) (t : List ℕ) → IsTold false script rs t → t ≡ trace_text script.mask rs
plain_text script rs t (ToldByChassis none end h) = unlit_text script.mask chassis_playing script.events (opening_play script) end rs t h
plain_text script rs t (ToldByFibre some start opens end h) = unlit_text script.mask fibre_playing script.events start end rs t h

plain_some : (script : ScriptView) (rs : List Receipt) (t : List ℕ) → IsToldInPart false script rs t → t ≡ trace_text script.mask rs
plain_some script rs t (SomeToldByChassis none end h) = unlit_some script.mask chassis_playing script.events (opening_play script) end rs t h
plain_some script rs t (SomeToldByFibre some start opens end h) = unlit_some script.mask fibre_playing script.events start end rs t h

plain_written : {W : Type 0} (script : ScriptView) (x z : SinkState W) → WritesTold false script x z → WritesScript script x z
plain_written script x z w = record {
  receipts = w.receipts;
  plays = w.plays;
  runs = w.runs;
  written = subst (λ (l : List ℕ). Appends x.held z.held (x.gathered ++ l)) (plain_text script w.receipts w.text w.told) w.written;
  finished = w.finished;
  unstopped = w.unstopped;
}

plain_prefix : {W : Type 0} (script : ScriptView) (x z : SinkState W) → LeavesToldPrefix false script x z → LeavesScriptPrefix script x z
plain_prefix script x z w = record {
  receipts = w.receipts;
  plays = w.plays;
  written = subst (λ (l : List ℕ). TakesPrefix x z l) (plain_some script w.receipts w.text w.told) w.written;
  stopped = w.stopped;
}

plain_lines : {W : Type 0} (script : ScriptView) (x z : SinkState W) → LeavesToldLines false script x z → LeavesScriptLines script x z
plain_lines script x z w = record {
  receipts = w.receipts;
  plays = w.plays;
  lines = subst (λ (l : List ℕ). Takes x z l) (plain_some script w.receipts w.text w.told) w.lines;
  finished = w.finished;
  unstopped = w.unstopped;
}

pub plain_left : {W : Type 0} (fault : PlayFault) (script : ScriptView) (x z : SinkState W) → LeavesTold fault false script x z → LeavesScript fault script x z
plain_left faults.OutOfMemory script x z (inl same) = inl same
plain_left faults.OutOfMemory script x z (inr (some, inl lines)) = inr (some, inl (plain_lines script x z lines))
plain_left faults.OutOfMemory script x z (inr (some, inr prefix)) = inr (some, inr (plain_prefix script x z prefix))
plain_left faults.Write script x z prefix = plain_prefix script x z prefix

pub plain_script : {W T : Type 0} (script : ScriptView) (x z : SinkState W) (r : Result T PlayFault) → TellsScript false script x z r → PlaysScript script x z r
plain_script script x z (Ok v) p = record { ok = plain_written script x z p.ok; fault = tt; refused = p.refused; flushed = p.flushed }
plain_script script x z (Err f) p = record { ok = tt; fault = plain_left f script x z p.fault; refused = p.refused; flushed = p.flushed }
