-- What a play leaves, and what a summary tells of it.
use Rattle.std.proofs.Common.{◌≡◌, ◌<◌, All, Bool, false, length, map, ℕ, zero, List, [], ◌∷◌, ◌++◌, Option, Some, Result, Ok, Err, IfOk, subst, refl, sym, ap, ◌∙◌}
use Rattle.std.specs.Io.KnownBytes.{Appends}
use Rattle.std.proofs.lemmas.List.{append-nil, length-map}
use Rattle.std.specs.declared.alloc.AllocError.{AllocError}
use Rattle.std.specs.declared.alloc.Global.{Global}
use Rattle.std.specs.declared.vec.Vec.{Vec}
use Rattle.gp_ploam.specs.declared.check.Mask.{Mask}
use Rattle.gp_machine.specs.declared.config.PortConfig.{PortConfig}
use Rattle.gp_machine.specs.declared.entry.Receipt.{Receipt}
use Rattle.gp_machine.specs.State.{PortState}
use Rattle.gp_fibre.specs.Schedule.{WorldState}
use Rattle.gp_fibre.specs.Forgetting.{WorldForgets}
use Rattle.gp_fibre.proofs.Frames.{frames_are_runs}
use Rattle.gp_fibre.proofs.Remembering.{world_forgets_none}
use Rattle.gp_fibre.proofs.Steps.{port_runs, runs_in_parts}
use Rattle.gp_script.specs.Lose.{LossesView}
use Rattle.gp_script.specs.Script.{ScriptView}
use Rattle.gp_script.specs.View.{NamesOneOf}
use Rattle.gp_stream.specs.Sink.{SinkState, Finishes}
use Rattle.gp_stream.proofs.SinkLemmas.{takes_more}
use Rattle.gp_replay.specs.declared.fault.PlayFault.{PlayFault}
use Rattle.gp_replay.specs.declared.fault.PlayFault.TheVariants as faults
use Rattle.gp_replay.specs.Chassis.{opening_play}
use Rattle.gp_replay.specs.Laws.{EachPortRuns}
use Rattle.gp_replay.specs.Play.{TakesAllTurns, all_turns}
use Rattle.gp_replay.specs.Runs.{PortsRun}
use Rattle.gp_replay.specs.ScriptPlay.{Plays, ByChassis, ByFibre, ends_of}
use Rattle.gp_replay.specs.WorldPlay.{WorldPlays, WorldTakesAll, opening_fibre, receipts_from}
use Rattle.gp_replay.specs.WorldWriting.{FibrePlay, Numbered}
use Rattle.gp_replay.specs.Lights.{IsTold, Saying, Says, TellsAll, TellsOn, ToldByChassis, ToldByFibre}
use Rattle.gp_replay.specs.Opening.{OpensFibre}
use Rattle.gp_replay.specs.Playing.{LossyPlay, chassis_playing, fibre_playing}
use Rattle.gp_replay.specs.Writing.{EndsPlay, Happening}
use Rattle.gp_replay.proofs.LightLemmas.{told_plays}
use Rattle.gp_replay.proofs.PlayingLemmas.{chassis_all, fibre_all}
use Rattle.gp_replay.proofs.ToldLemmas.{plain_script, plain_text}
use Rattle.gp_replay.proofs.WorldRunLemmas.{world_runs}
use Rattle.gp_tally.specs.Counting.{CountingState}
use Rattle.gp_tally.specs.Text.{AreTallies}
use Rattle.gp_summary.specs.declared.form.SummaryForm.{SummaryForm}
use Rattle.gp_summary.specs.Summary.{IsFresh, IsSummaryOf, PlaysSummed, SaysCounted, free_after}
use Rattle.gp_summary.specs.Told.{IsSummaryOfTold, TellsSummed}
use Rattle.gp_summary.proofs.ToldCounts.{told_counted}

-- ---- plays

-- what happens from here on to the end plays the script, and leaves these ports and so many licences
pub record Leaves {S : Type 0} (script : ScriptView) (start : S) (whole : Happening S) (ports : S → List PortState) (free : S → ℕ) : Type 0 where
  pub all : (receipts : List Receipt) (end : S) → whole start receipts end
      → (plays : Plays script receipts) × PortsRun script.ports receipts (ends_of script receipts plays)
      × (ends_of script receipts plays ≡ ports end) × (free_after script receipts plays ≡ free end)

-- where there is no unit, events name ports
pub chassis_names : (script : ScriptView) → script.units ≡ [] → All (NamesOneOf (length script.ports) (length script.units)) script.events
    → All (NamesOneOf (length (map (λ (port : PortConfig). zero) script.ports)) 0) script.events
chassis_names script none named =
    subst (λ (n : ℕ). All (NamesOneOf n 0) script.events) (sym (length-map script.ports (λ (port : PortConfig). zero)))
    (subst (λ (n : ℕ). All (NamesOneOf (length script.ports) n) script.events) (ap length none) named)

pub chassis_leaves : EachPortRuns → (script : ScriptView) → script.units ≡ []
    → Leaves script (opening_play script) (TakesAllTurns (all_turns script.events)) (λ p. p.world.ports) (λ p. p.world.free)
chassis_leaves runs script none = record {
  all = λ rs end h. let plays : Plays script rs = ByChassis none (record { end = end; turns = h }) in (plays, runs script rs plays, refl, refl);
}

pub fibre_leaves : (script : ScriptView) (config : PortConfig) (player : FibrePlay) → 0 < length script.units → script.ports ≡ config ∷ []
    → player.world ≡ opening_fibre script config → player.next ≡ 0
    → Leaves script player (Numbered (WorldTakesAll script.losses script.events)) (λ p. p.world.fibre.port ∷ []) (λ p. p.world.fibre.free)
fibre_leaves script config player some port world next = record {
  all = λ rs end n.
      let done = n.happened (opening_fibre script config) opened in
      let told = n.receipts_are ∙ ap (λ (k : ℕ). receipts_from k n.entries) next in
      let plays : WorldPlays script rs = record { config = config; one_port = port; entries = n.entries; end = done.0; takes = done.1; receipts_are = told } in
      (ByFibre some plays, world_runs frames_are_runs runs_in_parts port_runs script rs plays, ap (λ (p : PortState). p ∷ []) (sym done.2.fibre.port), sym done.2.fibre.free);
}
  where
    opened : WorldForgets (opening_fibre script config) player.world
    opened = subst (λ (w : WorldState). WorldForgets (opening_fibre script config) w) (sym world) (world_forgets_none (opening_fibre script config))

-- what is told from here on to the end is all that is told of the script, and leaves these ports and so many licences
pub record LeavesSaid {S : Type 0} (lights : Bool) (script : ScriptView) (start : S) (whole : Saying S) (ports : S → List PortState) (free : S → ℕ) : Type 0 where
  pub all : (receipts : List Receipt) (text : List ℕ) (end : S) → whole start receipts text end
      → IsTold lights script receipts text
      × ((plays : Plays script receipts) × PortsRun script.ports receipts (ends_of script receipts plays)
      × (ends_of script receipts plays ≡ ports end) × (free_after script receipts plays ≡ free end))

pub chassis_leaves_said : EachPortRuns → (lights : Bool) (script : ScriptView) → script.units ≡ []
    → LeavesSaid lights script (opening_play script) (TellsAll lights script.mask chassis_playing script.events) (λ p. p.world.ports) (λ p. p.world.free)
chassis_leaves_said runs lights script none = record {
  all = λ rs text end h. (
    ToldByChassis none end h,
    (chassis_leaves runs script none).all rs end
        (chassis_all script.events (opening_play script) end rs (told_plays lights script.mask chassis_playing script.events (opening_play script) end rs text h)),
  );
}

pub fibre_leaves_said : (lights : Bool) (script : ScriptView) (start : LossyPlay) → 0 < length script.units → OpensFibre script start
    → LeavesSaid lights script start (TellsAll lights script.mask fibre_playing script.events) (λ p. p.play.world.fibre.port ∷ []) (λ p. p.play.world.fibre.free)
fibre_leaves_said lights script start some opens = record {
  all = λ rs text end h. (
    ToldByFibre some start opens end h,
    (fibre_leaves script opens.config start.play some opens.one_port opens.world opens.next).all rs end.play
        (subst (λ (l : LossesView). Numbered (WorldTakesAll l script.events) start.play rs end.play) opens.losses
        (fibre_all script.events start end rs (told_plays lights script.mask fibre_playing script.events start end rs text h)).happened),
  );
}

-- ---- a summary

-- a writer that held nothing took what it holds now
appended : (before after : Option (List ℕ)) (taken written : List ℕ) → before ≡ Some [] → after ≡ Some taken → Appends before after written → taken ≡ written
appended before after taken written none is h =
    subst (λ (o : Option (List ℕ)). Appends (Some []) o written) is (subst (λ (o : Option (List ℕ)). Appends o after written) none h)

-- all that is told was taken
whole_taken : {S W : Type 0} (T : Saying S) (start end : S) (x y z : SinkState W) (u : Unit {0}) (taken : List ℕ) → IsFresh x
    → (w : Says T start end x y) → Finishes {E = PlayFault} y z (Ok u) → z.held ≡ Some taken → taken ≡ w.text
whole_taken T start end x y z u taken fresh w f is =
    let all = takes_more x y z _ _ w.lines f.gives.ok in
    let text : x.gathered ++ w.text ≡ all.written =
    ap (λ (l : List ℕ). x.gathered ++ l) (sym (append-nil w.text)) ∙ all.rest ∙ ap (λ (l : List ℕ). all.written ++ l) f.empty ∙ append-nil all.written in
    appended x.held z.held taken all.written fresh.0 is all.appended ∙ sym text ∙ ap (λ (l : List ℕ). l ++ w.text) fresh.1

summary_told : {S W : Type 0} (lights : Bool) (form : SummaryForm) (script : ScriptView) (T P : Saying S) (start end : S) (ports : S → List PortState) (free : S → ℕ)
    (x y z : SinkState (CountingState W)) (told ended : Result (Unit {0}) PlayFault) (text : List ℕ)
    → LeavesSaid lights script start T ports free → IsFresh x → TellsOn T P start end x y told → EndsPlay y z told ended → ended ≡ Ok tt
    → z.held ≡ Some z.writer.counter.taken
    → SaysCounted form script.mask z.writer.counter.taken (ports end) (length script.ports) (free end) script.licences text
    → IsSummaryOfTold lights form script z text
summary_told lights form script T P start end ports free x y z (Ok v) (Ok u) text leaves fresh p e done is says =
    let w = p.ok in
    let all = leaves.all w.receipts w.text end w.told in
    let left = all.1 in
    let taken = whole_taken T start end x y z u z.writer.counter.taken fresh w e.0 is in
    let said : SaysCounted form script.mask z.writer.counter.taken (ends_of script w.receipts left.0) (length script.ports) (free_after script w.receipts left.0)
    script.licences text = subst (λ (n : ℕ). SaysCounted form script.mask z.writer.counter.taken (ends_of script w.receipts left.0) (length script.ports) n script.licences text) (sym left.3)
    (subst (λ (s : List PortState). SaysCounted form script.mask z.writer.counter.taken s (length script.ports) (free end) script.licences text) (sym left.2) says) in
    record {
      receipts = w.receipts;
      said = w.text;
      told = all.0;
      plays = left.0;
      runs = left.1;
      taken = taken;
      says = said;
      entries = λ limits. told_counted lights script w.receipts w.text said.tallies all.0 limits
          (subst (λ (t : List ℕ). AreTallies script.mask t said.tallies) taken said.counted);
    }
summary_told lights form script T P start end ports free x y z (Ok v) (Err fault) text leaves fresh p e done is says = cc done
summary_told lights form script T P start end ports free x y z (Err faults.OutOfMemory) ended text leaves fresh p e done is says = cc (sym e.0 ∙ done)
summary_told lights form script T P start end ports free x y z (Err faults.Write) ended text leaves fresh p e done is says = cc (sym e.0 ∙ done)

-- the same of an answer that may fail
pub summary_answered : {S W : Type 0} (lights : Bool) (form : SummaryForm) (script : ScriptView) (T P : Saying S) (start end : S) (ports : S → List PortState) (free : S → ℕ)
    (x y z : SinkState (CountingState W)) (told ended : Result (Unit {0}) PlayFault) (r : Result (Vec ℕ Global) AllocError) (mask : Mask) (count : ℕ)
    → LeavesSaid lights script start T ports free → IsFresh x → TellsOn T P start end x y told → EndsPlay y z told ended
    → mask ≡ script.mask → count ≡ length script.ports → z.held ≡ Some z.writer.counter.taken
    → IfOk r (λ text. SaysCounted form mask z.writer.counter.taken (ports end) count (free end) script.licences text.items)
    → ended ≡ Ok tt → IfOk r (λ text. IsSummaryOfTold lights form script z text.items)
summary_answered lights form script T P start end ports free x y z told ended (Ok text) mask count leaves fresh p e masked counted is says done =
    summary_told lights form script T P start end ports free x y z told ended text.items leaves fresh p e done is (rw (masked, counted) at says)
summary_answered lights form script T P start end ports free x y z told ended (Err f) mask count leaves fresh p e masked counted is says done = tt

-- ---- without lights

plain_summary : {W : Type 0} (form : SummaryForm) (script : ScriptView) (z : SinkState (CountingState W)) (text : List ℕ) → IsSummaryOfTold false form script z text
    → IsSummaryOf form script z text
plain_summary form script z text s =
    let trace = s.taken ∙ plain_text script s.receipts s.said s.told in
    record {
      receipts = s.receipts;
      plays = s.plays;
      runs = s.runs;
      trace = trace;
      says = s.says;
      entries = s.entries;
    }

plain_answer : {W : Type 0} (form : SummaryForm) (script : ScriptView) (z : SinkState (CountingState W)) (r : Result (Vec ℕ Global) AllocError)
    → IfOk r (λ text. IsSummaryOfTold false form script z text.items) → IfOk r (λ text. IsSummaryOf form script z text.items)
plain_answer form script z (Ok text) s = plain_summary form script z text.items s
plain_answer form script z (Err f) s = tt

plain_summed : {W : Type 0} (form : SummaryForm) (script : ScriptView) (counting : CountingState W) (played : Result (Unit {0}) PlayFault)
    (summary : Result (Vec ℕ Global) AllocError) → TellsSummed false form script counting played summary → PlaysSummed form script counting played summary
plain_summed form script counting played summary s = record {
  before = s.before;
  after = s.after;
  fresh = s.fresh;
  summed = record {
    plays = plain_script script s.before s.after played s.summed.tells;
    tells = λ ok. plain_answer form script s.after summary (s.summed.sums ok);
  };
  writer = s.writer;
  held = s.held;
}

-- of an answer that may fail
pub plain_answered : {A W : Type 0} (form : SummaryForm) (script : ScriptView) (counting : A → CountingState W) (played : A → Result (Unit {0}) PlayFault)
    (summary : A → Result (Vec ℕ Global) AllocError) (r : Result A AllocError) → IfOk r (λ a. TellsSummed false form script (counting a) (played a) (summary a))
    → IfOk r (λ a. PlaysSummed form script (counting a) (played a) (summary a))
plain_answered form script counting played summary (Ok a) s = plain_summed form script (counting a) (played a) (summary a) s
plain_answered form script counting played summary (Err f) s = tt
