-- Answers to a line, by how what it asks for was played.
use Rattle.std.proofs.Common.{◌≡◌, ◌≤◌, ◌||◌, ℕ, ◌+◌, ◌-◌, Bool, true, false, List, ◌++◌, Option, None, Some, Result, Ok, Err, refl, subst, ap, ◌∙◌, arith}
use Rattle.gp_flow.specs.declared.fault.Unanswered.{Unanswered}
use Rattle.gp_flow.specs.declared.fault.Unanswered.TheVariants.{Write}
use Rattle.gp_flow.specs.Lines.{Answers, Speech}
use Rattle.gp_flow.specs.Lines.Starts.{AllSaid, PartSaid}
use Rattle.gp_flow.proofs.AnswerLemmas.{answers_as}
use Rattle.gp_lines.specs.declared.turn.Asked.{Asked}
use Rattle.gp_lines.specs.TurnReading.{turn_of}
use Rattle.gp_stream.specs.declared.sink.WriteStopped.{WriteStopped}
use Rattle.gp_ploam.specs.declared.check.Mask.{Mask}
use Rattle.gp_stream.specs.Sink.{SinkState}
use Rattle.gp_stream.proofs.SinkLemmas.{takes_more, takes_prefix_after}
use Rattle.gp_replay.specs.declared.fault.PlayFault.{PlayFault}
use Rattle.gp_replay.specs.declared.fault.PlayFault.TheVariants as faults
use Rattle.gp_replay.specs.Playing.{Playing}
use Rattle.gp_replay.specs.Writing.{HandsIn, Happening, PlaysOn}
use Rattle.gp_trace.specs.Text.{trace_text}
use Rattle.gp_drive.specs.declared.fault.TurnFault.{TurnFault}
use Rattle.gp_drive.specs.Drive.{DriveState, IsFull, Says, answering, driving, ending, errors_of, line_fault, most_lines, playing_of, refusing}
use Rattle.gp_drive.specs.Shown.{shown_of}
use Rattle.gp_drive.specs.Turns.{PlaysTo, PlaysTurnPart, cost_of, missing_in}

stops : {P : Type 0} → true ≡ false → P
stops e = absurd (cc)

-- all that is said to a line was put in
pub answered : {S W A B : Type 0} (does : Speech S) (line : Option (List ℕ)) (old new : S) (x y : SinkState W) (said : List ℕ) (u : A) (v : B) → does.says old line said new
    → HandsIn {E = WriteStopped} x y said (Ok u) → Answers does line old new x y (Ok v)
answered does line old new x y said u v d h = record {
  ok = (said, d, h.ok);
  error = tt;
  full = λ e. absurd (cc);
  flushed = λ f unstopped. h.flushed f;
  stopped = λ s. h.stopped ∙ ap (λ (b : Bool). b || false) s;
}

-- a write failed in it
pub unanswered : {S W A B : Type 0} (does : Speech S) (line : Option (List ℕ)) (old new next : S) (x y : SinkState W) (said : List ℕ) (e : WriteStopped) → does.says old line said next
    → HandsIn {T = A} x y said (Err e) → Answers {T = B} does line old new x y (Err Write)
unanswered does line old new next x y said e d h = record {
  ok = tt;
  error = AllSaid said next d h.error;
  full = λ e. absurd (cc);
  flushed = λ f unstopped. stops unstopped;
  stopped = λ s. h.stopped ∙ ap (λ (b : Bool). b || true) s;
}

-- ---- a turn

-- all of a turn was played and told
abbrev pub tells : {S W A : Type 0} → Playing S → Asked → Option TurnFault → DriveState S → S → SinkState W → SinkState W → A → Type 0
tells playing turn fault old end x y u =
    PlaysOn old.mask (PlaysTo playing turn fault) (PlaysTurnPart playing turn) old.player end x y (Ok u)

-- the same of a sink that is the same
pub plays_into : {S W A : Type 0} (mask : Mask) (T P : Happening S) (a b : S) (x y z : SinkState W) (r : Result A PlayFault) → y ≡ z
    → PlaysOn mask T P a b x y r → PlaysOn mask T P a b x z r
plays_into mask T P a b x y z r same p = subst (λ s. PlaysOn mask T P a b x s r) same p

pub hands_from : {W T E : Type 0} (x y z : SinkState W) (bytes : List ℕ) (r : Result T E) → x ≡ y → HandsIn x z bytes r → HandsIn y z bytes r
hands_from x y z bytes r same h = subst (λ s. HandsIn s z bytes r) same h

pub played : {S W A B C : Type 0} (playing : Playing S) (turn : Asked) (fault : Option TurnFault) (old new : DriveState S) (x y z : SinkState W) (u : A) (w : C) (v : B)
    → new.mask ≡ old.mask → new.done ≡ old.done → new.lights ≡ old.lights → new.lines ≡ old.lines + 1 → new.errors ≡ old.errors + errors_of fault → new.left + cost_of turn ≡ old.left
    → tells playing turn fault old new.player x y u
    → HandsIn {E = WriteStopped} y z (shown_of old.lights playing turn new.player ++ ending old.done (old.lines + 1) fault) (Ok w)
    → Answers (playing_of playing turn) None old new x z (Ok v)
played playing turn fault old new x y z u w v mask done lights lines errors left p h = record {
  ok = (
    trace_text old.mask p.ok.receipts ++ (shown_of old.lights playing turn new.player ++ ending old.done (old.lines + 1) fault),
    (
      fault,
      record { receipts = p.ok.receipts; played = p.ok.happened; said_is = refl; mask = mask; done = done; lights = lights; lines = lines; errors = errors; left = left },
    ),
    takes_more x y z _ _ p.ok.lines h.ok,
  );
  error = tt;
  full = λ e. absurd (cc);
  flushed = λ f unstopped. h.flushed (p.flushed f refl);
  stopped = λ s. h.stopped ∙ ap (λ (b : Bool). b || false) (p.stopped ∙ ap (λ (b : Bool). b || false) s);
}

-- it was, but a write failed in what ends the answer
pub unended : {S W A B C : Type 0} (playing : Playing S) (turn : Asked) (fault : Option TurnFault) (old new : DriveState S) (end : S) (x y z : SinkState W) (u : A) (e : WriteStopped)
    → cost_of turn ≤ old.left
    → tells playing turn fault old end x y u → HandsIn {T = C} y z (shown_of old.lights playing turn end ++ ending old.done (old.lines + 1) fault) (Err e)
    → Answers {T = B} (playing_of playing turn) None old new x z (Err Write)
unended playing turn fault old new end x y z u e enough p h =
    let is : (old.left - cost_of turn) + cost_of turn ≡ old.left = omega (arith, enough) in
    let next : DriveState _ = record old { player = end; lines = old.lines + 1; errors = old.errors + errors_of fault; left = old.left - cost_of turn } in
    record {
      ok = tt;
      error = AllSaid (trace_text old.mask p.ok.receipts ++ (shown_of old.lights playing turn end ++ ending old.done (old.lines + 1) fault)) next
          (fault, record { receipts = p.ok.receipts; played = p.ok.happened; said_is = refl; mask = refl; done = refl; lights = refl; lines = refl; errors = refl; left = is })
          (takes_prefix_after x y z _ _ p.ok.lines h.error);
      full = λ e. absurd (cc);
      flushed = λ f unstopped. stops unstopped;
      stopped = λ s. h.stopped ∙ ap (λ (b : Bool). b || true) (p.stopped ∙ ap (λ (b : Bool). b || false) s);
    }

pub unplayed : {S W A B : Type 0} (playing : Playing S) (turn : Asked) (old new : DriveState S) (end : S) (x y : SinkState W) (fault : PlayFault)
    → PlaysOn {T = A} old.mask (PlaysTo playing turn None) (PlaysTurnPart playing turn) old.player end x y (Err fault)
    → Answers {T = B} (playing_of playing turn) None old new x y (Err (line_fault fault))
unplayed playing turn old new end x y faults.OutOfMemory p =
    let w = p.fault.1 in
    record {
      ok = tt;
      error = PartSaid (trace_text old.mask w.receipts) (record old { player = p.fault.0 }) (record { receipts = w.receipts; played = w.happened; said_is = refl }) w.lines;
      full = λ e. absurd (cc);
      flushed = λ f unstopped. p.flushed f refl;
      stopped = λ s. p.stopped ∙ ap (λ (b : Bool). b || false) s;
    }
unplayed playing turn old new end x y faults.Write p =
    let w = p.fault in
    record {
      ok = tt;
      error = PartSaid (trace_text old.mask w.receipts) (record old { player = w.end }) (record { receipts = w.receipts; played = w.happened; said_is = refl }) w.lines;
      full = λ e. absurd (cc);
      flushed = λ f unstopped. stops unstopped;
      stopped = λ s. p.stopped ∙ ap (λ (b : Bool). b || true) s;
    }

-- ---- what was read from a line

-- what it asks for is not there
pub answers_missing : {S W T : Type 0} (playing : Playing S) (turn : Asked) (fault : TurnFault) (old new : DriveState S) (x y : SinkState W) (r : Result T Unanswered)
    → missing_in (playing.ports old.player) (playing.units old.player) turn ≡ Some fault → Answers (refusing fault) None old new x y r
    → Answers (answering playing turn) None old new x y r
answers_missing playing turn fault old new x y r missing p =
    answers_as (refusing fault) (answering playing turn) None None old new x y r
    (λ said next h. rw missing h) (λ said next none. absurd none) (λ h. rw missing h) p

-- it is there
pub answers_there : {S W T : Type 0} (playing : Playing S) (turn : Asked) (old new : DriveState S) (x y : SinkState W) (r : Result T Unanswered)
    → missing_in (playing.ports old.player) (playing.units old.player) turn ≡ None → Answers (playing_of playing turn) None old new x y r
    → Answers (answering playing turn) None old new x y r
answers_there playing turn old new x y r there p =
    answers_as (playing_of playing turn) (answering playing turn) None None old new x y r (λ said next h. rw there h) (λ said next h. h) (λ h. rw there h) p

-- ---- lines

pub answers_long : {S W T : Type 0} (playing : Playing S) (fault : TurnFault) (line : Option (List ℕ)) (old new : DriveState S) (x y : SinkState W) (r : Result T Unanswered)
    → ((said : List ℕ) (next : DriveState S) → (refusing fault).says old None said next → Says playing old line said next)
    → (old.lines ≡ most_lines → IsFull playing old line)
    → Answers (refusing fault) None old new x y r → Answers (driving playing) line old new x y r
answers_long playing fault line old new x y r whole why p =
    answers_as (refusing fault) (driving playing) None line old new x y r whole (λ said next none. absurd none) why p

pub answers_asked : {S W T : Type 0} (playing : Playing S) (turn : Asked) (text : List ℕ) (old new : DriveState S) (x y : SinkState W) (r : Result T Unanswered)
    → turn_of old.mask text ≡ Ok turn → Answers (answering playing turn) None old new x y r → Answers (driving playing) (Some text) old new x y r
answers_asked playing turn text old new x y r is p =
    answers_as (answering playing turn) (driving playing) None (Some text) old new x y r (λ said next h. rw is h) (λ said next h. (turn, is, h)) (λ h. rw is h) p
