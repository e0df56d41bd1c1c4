-- An input, piece by piece.
use Rattle.std.specs.Prelude.{map, ◌↔◌, IsTrue}
use Rattle.std.proofs.Common.{◌≡◌, ◌<◌, ◌||◌, ◌⊎◌, inl, inr, ℕ, Bool, true, false, List, [], ◌++◌, Option, Result, Ok, Err, refl, sym, ap, ◌∙◌, subst, append-nil, append_assoc, take, length, arith}
use Rattle.std.proofs.Math.Seq.{take-append_seam}
use Rattle.std.specs.Io.KnownBytes.{Appends, Consumes, Keeps, IsAtEnd}
use Rattle.std.proofs.KnownBytes.{Consumes-nil, Consumes-trans, Consumes-kept}
use Rattle.gp_flow.specs.declared.fault.Unanswered.{Unanswered}
use Rattle.gp_flow.specs.declared.fault.Unanswered.TheVariants.{Write, OutOfMemory, Full}
use Rattle.gp_flow.specs.declared.lines.LinesEnd.TheVariants.{Over}
use Rattle.gp_flow.specs.declared.fault.LinesFault.{LinesFault}
use Rattle.gp_flow.specs.declared.fault.LinesFault.TheVariants.{Read, Line}
use Rattle.gp_stream.specs.declared.sink.WriteStopped.{WriteStopped}
use Rattle.gp_stream.specs.Sink.{SinkState, KeepsNothing, Takes, TakesPrefix, Finishes}
use Rattle.gp_stream.proofs.SinkLemmas.{gives_unstopped, takes_more, takes_prefix_after}
use Rattle.gp_stream.specs.Source.{SourceState}
use Rattle.gp_flow.specs.Lines.{Speech, DoesAll, AnswersAll, FullAt, GetsAll, GetsPrefix, HandsIn, Leaves, handed, lines_of, Serves, ServesAll, ServesEnded, ServesSome, ServesTo, Stops, end_of_input, tells_stopped}
use Rattle.gp_flow.specs.Gathering.{Gathered, ServesGathered, WritesOut}
use Rattle.gp_flow.specs.declared.lines.LinesEnd.{LinesEnd}
use Rattle.gp_flow.specs.Lines.{with_feeds}
use Rattle.gp_flow.specs.OpenLine.{OpenLine, fed_lines, fed_text, last_line}
use Rattle.gp_flow.proofs.LineLemmas.{fed_lines-append, fed_text-append, fed_ended, fed_all, fed_whole}
use Rattle.gp_flow.proofs.AnswerLemmas.{answers_more, finish_answers, full_before}

-- where nothing is gathered any more, the writer got everything
written_all : {W : Type 0} (before after : SinkState W) (said : List ℕ) → Takes before after said → after.gathered ≡ [] → Appends before.held after.held (before.gathered ++ said)
written_all before after said p none =
    let all : before.gathered ++ said ≡ p.written = p.rest ∙ ap (λ l. p.written ++ l) none ∙ append-nil p.written in
    subst (Appends before.held after.held) (sym all) p.appended

gets_prefix : {W : Type 0} (before after : SinkState W) (said : List ℕ) → TakesPrefix before after said → GetsPrefix before after said
gets_prefix before after said p =
    let prefix : take (length p.written) (before.gathered ++ said) ≡ p.written = ap (take (length p.written)) p.rest ∙ take-append_seam p.written p.unwritten in
    record { count = length p.written; written = subst (Appends before.held after.held) (sym prefix) p.appended }

-- ---- where a fault came

line_same : (e f : Unanswered) (answer : Result LinesEnd LinesFault) → answer ≡ Err (Line e) → answer ≡ Err (Line f) → e ≡ f
line_same e f answer p q = cc

line_err : (T : Type 0) (e : Unanswered) → ◌≡◌ {A = Result LinesEnd LinesFault} (Err (Line e)) (Err (Line Full)) → ◌≡◌ {A = Result T Unanswered} (Err e) (Err Full)
line_err T e same = cc

by_fault : (P : Unanswered → Type 0) (e f : Unanswered) (answer : Result LinesEnd LinesFault) → answer ≡ Err (Line e) → P e → answer ≡ Err (Line f) → P f
by_fault P e f answer is h same = subst P (line_same e f answer is same) h

gathered : {W : Type 0} (T : Type 0) (e : Unanswered) (before after : SinkState W) (said : List ℕ) → HandsIn e before after said
    → (tells_stopped {T = T} (Err e) ≡ false → after.flushed ≡ true) → Gathered e before after said
gathered T Write before after said h flushed = h
gathered T OutOfMemory before after said h flushed = (h, flushed refl)
gathered T Full before after said h flushed = (h, flushed refl)

stops : (T : Type 0) (e : Unanswered) (stopped : Bool) → stopped ≡ tells_stopped {T = T} (Err e) → Stops {T = LinesEnd} (Err (Line e)) stopped
stops T Write stopped h = h
stops T OutOfMemory stopped h = tt
stops T Full stopped h = tt

-- bytes came, and what they are in lines was answered so far
pub record Reading {S R W : Type 0} (does : Speech S) (limit : ℕ) (line : OpenLine) (from now : SourceState R) (old mid : S) (before between : SinkState W) : Type 0 where
  pub bytes : List ℕ
  pub came : Consumes from.remaining now.remaining bytes
  pub answers : AnswersAll {T = Unit {0}} does (fed_lines limit [] bytes) old mid before between (Ok tt)
  pub line_is : line ≡ record { text = fed_text limit [] bytes; limit = limit }
  pub kept : KeepsNothing between
  pub unfailed : from.failed ≡ false → now.failed ≡ false

pub reading_start : {S R W T : Type 0} (does : Speech S) (limit : ℕ) (line : OpenLine) (from : SourceState R) (old : S) (before between : SinkState W) (x : T)
    → line ≡ record { text = []; limit = limit } → before.flushed ≡ true → Finishes {E = WriteStopped} before between (Ok x) → Reading does limit line from from old old before between
reading_start does limit line from old before between x none flushed p = record {
  bytes = [];
  came = Consumes-nil from.remaining;
  answers = finish_answers does old before between x tt p;
  line_is = none;
  kept = (p.empty, p.gives.flushed flushed);
  unfailed = λ f. f;
}

-- the end of an input
to_the_end : {S R W : Type 0} (does : Speech S) (over : S → Bool) (limit : ℕ) (whole : Bool) (from to : SourceState R) (old new : S) (before after : SinkState W)
    → ServesAll does limit whole from to old new before after → ServesTo does over limit (end_of_input whole) from to old new before after
to_the_end does over limit true from to old new before after p = p
to_the_end does over limit false from to old new before after p = p

module _ {S R W : Type 0} (does : Speech S) (limit : ℕ) (line : OpenLine) (from now : SourceState R) (old mid : S) (before between : SinkState W)
    (p : Reading does limit line from now old mid before between) where
  -- what the open line makes of more bytes, by the bytes before it
  more_lines : (more : List ℕ) → fed_lines line.limit line.text more ≡ fed_lines limit (fed_text limit [] p.bytes) more
  more_lines more = ap (λ (l : OpenLine). fed_lines l.limit l.text more) p.line_is

  -- a piece more
  pub reading_step : {T : Type 0} (more : List ℕ) (next : OpenLine) (to : SourceState R) (new : S) (after : SinkState W) (x : T)
      → Consumes now.remaining to.remaining more → to.failed ≡ (now.failed || false)
      → AnswersAll does (fed_lines line.limit line.text more) mid new between after (Ok x)
      → next ≡ record { text = fed_text line.limit line.text more; limit = line.limit } → KeepsNothing after
      → Reading does limit next from to old new before after
  reading_step more next to new after x came ok answers next_is kept = record {
    bytes = p.bytes ++ more;
    came = Consumes-trans _ _ _ p.bytes more p.came came;
    answers = rw (fed_lines-append limit [] p.bytes more) (answers_more does _ _ old mid new before between after tt (Ok tt) p.answers
        (subst (λ l. AnswersAll {T = Unit {0}} does l mid new between after (Ok tt)) (more_lines more) (record { ok = answers.ok; error = tt; full = λ e. absurd (cc); flushed = answers.flushed; stopped = answers.stopped })));
    line_is = next_is ∙ ap (λ (l : OpenLine). let o : OpenLine = record { text = fed_text l.limit l.text more; limit = l.limit } in o) p.line_is
        ∙ ap (λ (t : List ℕ). let o : OpenLine = record { text = t; limit = limit } in o) (sym (fed_text-append limit [] p.bytes more));
    kept = kept;
    unfailed = λ f. ok ∙ ap (λ v. v || false) (p.unfailed f);
  }

  serves_ended : (to : SourceState R) → Consumes from.remaining to.remaining p.bytes → ServesEnded does limit from to old mid before between
  serves_ended to came = record {
    bytes = p.bytes;
    read = came;
    said = p.answers.ok.0;
    spoken = subst (λ l. DoesAll does old l p.answers.ok.0 mid) (fed_ended limit p.bytes) p.answers.ok.1;
    written = written_all before between p.answers.ok.0 p.answers.ok.2 p.kept.0;
    kept = p.kept;
  }

  -- the work is over
  pub serves_over : (over : S → Bool) → over mid ≡ true → ServesGathered does over limit from now old mid before between (Ok Over)
  serves_over over is = record {
    ok = (serves_ended now p.came, is);
    read = λ e. absurd (cc);
    fault = λ fault e. absurd (cc);
    full = λ e. absurd (cc);
    tells_read = λ f t. absurd (let no : now.failed ≡ false = p.unfailed f in cc);
    failed = λ e. absurd (cc);
    stopped = p.answers.stopped;
  }

  -- a read failed, or no read is left
  pub serves_read : (over : S → Bool) (to : SourceState R) → Keeps now.remaining to.remaining → (to.failed ≡ true) ⊎ (to.left ≡ 0) → ServesGathered does over limit from to old mid before between (Err Read)
  serves_read over to kept why = record {
    ok = tt;
    read = λ _. serves_ended to (Consumes-kept _ _ _ p.bytes p.came kept);
    fault = λ fault e. absurd (cc);
    full = λ e. absurd (cc);
    tells_read = λ _ _. refl;
    failed = λ _. why;
    stopped = p.answers.stopped;
  }

  -- a fault in a piece more, or at the last line
  serves_fault : {T : Type 0} (over : S → Bool) (more : List ℕ) (to : SourceState R) (begun others : List (Option (List ℕ))) (new other : S) (after : SinkState W) (e : Unanswered)
      → Consumes now.remaining to.remaining more → to.failed ≡ (now.failed || false)
      → fed_lines limit [] p.bytes ++ begun ++ others ≡ map (handed limit) (lines_of (p.bytes ++ more))
      → AnswersAll {T = T} does begun mid new between after (Err e) → ServesGathered does over limit from to old other before after (Err (Line e))
  serves_fault {T = T} over more to begun others new other after e came ok all answers =
      let sofar = answers_more does (fed_lines limit [] p.bytes) begun old mid new before between after tt (Err e) p.answers answers in
      let within = sofar.error in record {
        ok = tt;
        read = λ e. absurd (cc);
        fault = λ fault same. by_fault (λ (f : Unanswered). ServesSome (Gathered f) does limit from to old before after) e fault (Err (Line e)) refl (record {
          bytes = p.bytes ++ more;
          read = Consumes-trans _ _ _ p.bytes more p.came came;
          begun = within.begun;
          others = within.others ++ others;
          all = sym (append_assoc within.begun within.others others) ∙ ap (λ l. l ++ others) within.all ∙ all;
          said = within.said;
          spoken = within.spoken;
          written = gathered T e before after within.said within.written (answers.flushed p.kept.1);
        }) same;
        full = λ same. record {
          bytes = p.bytes ++ more;
          read = Consumes-trans _ _ _ p.bytes more p.came came;
          at = subst (λ l. FullAt does l old) all (full_before does (fed_lines limit [] p.bytes ++ begun) others old (sofar.full (line_err T e same)));
        };
        tells_read = λ f t. absurd (let no : to.failed ≡ false = ok ∙ ap (λ v. v || false) (p.unfailed f) in cc);
        failed = λ e. absurd (cc);
        stopped = λ s. stops T e after.stopped (sofar.stopped s);
      }

  pub serves_piece_fault : {T : Type 0} (over : S → Bool) (more : List ℕ) (to : SourceState R) (new other : S) (after : SinkState W) (e : Unanswered)
      → Consumes now.remaining to.remaining more → to.failed ≡ (now.failed || false)
      → AnswersAll {T = T} does (fed_lines line.limit line.text more) mid new between after (Err e) → ServesGathered does over limit from to old other before after (Err (Line e))
  serves_piece_fault {T = T} over more to new other after e came ok answers =
      let tail = last_line limit (fed_text limit [] (p.bytes ++ more)) in
      let lines = fed_lines limit (fed_text limit [] p.bytes) more in
      let all : fed_lines limit [] p.bytes ++ lines ++ tail ≡ map (handed limit) (lines_of (p.bytes ++ more)) =
      ap (λ l. l ++ tail) (sym (fed_lines-append limit [] p.bytes more)) ∙ fed_all limit (p.bytes ++ more) in
      serves_fault over more to lines tail new other after e came ok all (subst (λ l. AnswersAll {T = T} does l mid new between after (Err e)) (more_lines more) answers)

  -- nothing is open at the end where the bytes end at a line feed, and only there
  text_feeds : (line.text ≡ []) ↔ (p.bytes ≡ with_feeds (lines_of p.bytes))
  text_feeds =
      let same : line.text ≡ fed_text limit [] p.bytes = ap (λ (l : OpenLine). l.text) p.line_is in
      let fed = fed_whole limit p.bytes in
      (λ e. fed.0 (sym same ∙ e), λ e. same ∙ fed.1 e)

  -- the line that is open at the end, by the bytes before it
  last_is : last_line line.limit line.text ≡ last_line limit (fed_text limit [] p.bytes)
  last_is = ap (λ (l : OpenLine). last_line l.limit l.text) p.line_is

  pub serves_last_fault : {T : Type 0} (over : S → Bool) (none : List ℕ) (to : SourceState R) (new other : S) (after : SinkState W) (e : Unanswered)
      → none ≡ [] → Consumes now.remaining to.remaining none → to.failed ≡ (now.failed || false)
      → AnswersAll {T = T} does (last_line line.limit line.text) mid new between after (Err e) → ServesGathered does over limit from to old other before after (Err (Line e))
  serves_last_fault {T = T} over none to new other after e empty came ok answers =
      let lines = last_line limit (fed_text limit [] p.bytes) in
      let all : fed_lines limit [] p.bytes ++ lines ++ [] ≡ map (handed limit) (lines_of (p.bytes ++ [])) =
      append-nil (fed_lines limit [] p.bytes ++ lines) ∙ fed_all limit p.bytes ∙ ap (λ l. map (handed limit) (lines_of l)) (sym (append-nil p.bytes)) in
      serves_fault over [] to lines [] new other after e (subst (Consumes now.remaining to.remaining) empty came) ok all
      (subst (λ l. AnswersAll {T = T} does l mid new between after (Err e)) last_is answers)

  -- the end of the input
  pub serves_end : {T : Type 0} (over : S → Bool) (whole : Bool) (none : List ℕ) (to : SourceState R) (new : S) (after : SinkState W) (x : T)
      → IsTrue whole ↔ (line.text ≡ []) → none ≡ [] → Consumes now.remaining to.remaining none → IsAtEnd to.remaining → now.failed ≡ false → to.failed ≡ (now.failed || false)
      → AnswersAll does (last_line line.limit line.text) mid new between after (Ok x) → KeepsNothing after → ServesGathered does over limit from to old new before after (Ok (end_of_input whole))
  serves_end over whole none to new after x feeds empty came end known ok answers kept =
      let lines = subst (λ l. AnswersAll does l mid new between after (Ok x)) last_is answers in
      let all = answers_more does _ _ old mid new before between after tt (Ok x) p.answers lines in
      let unfailed : to.failed ≡ false = ok ∙ ap (λ v. v || false) known in record {
        ok = to_the_end does over limit whole from to old new before after (record {
          bytes = p.bytes;
          feeds = (λ t. text_feeds.0 (feeds.0 t), λ t. feeds.1 (text_feeds.1 t));
          read = record {
            consumed = subst (Consumes from.remaining to.remaining) (append-nil p.bytes) (Consumes-trans _ _ _ p.bytes [] p.came (subst (Consumes now.remaining to.remaining) empty came));
            end = end;
            unfailed = unfailed;
          };
          said = all.ok.0;
          spoken = subst (λ l. DoesAll does old l all.ok.0 new) (fed_all limit p.bytes) all.ok.1;
          written = written_all before after all.ok.0 all.ok.2 kept.0;
          kept = kept;
        });
        read = λ e. absurd (cc);
        fault = λ fault e. absurd (cc);
        full = λ e. absurd (cc);
        tells_read = λ f t. absurd (cc);
        failed = λ e. absurd (cc);
        stopped = all.stopped;
      }

-- before the first read
unbegun : {S R W : Type 0} (does : Speech S) (over : S → Bool) (limit : ℕ) (from : SourceState R) (old other : S) (before after : SinkState W) (e : Unanswered)
    → (e ≡ Full → ⊥) → Gathered e before after [] → (before.stopped ≡ false → Stops {T = LinesEnd} (Err (Line e)) after.stopped)
    → ServesGathered does over limit from from old other before after (Err (Line e))
unbegun does over limit from old other before after e other_fault g stopped = record {
  ok = tt;
  read = λ e. absurd (cc);
  fault = λ fault same. by_fault (λ (f : Unanswered). ServesSome (Gathered f) does limit from from old before after) e fault (Err (Line e)) refl (record {
    bytes = [];
    read = Consumes-nil from.remaining;
    begun = [];
    others = [];
    all = refl;
    said = [];
    spoken = refl;
    written = g;
  }) same;
  full = λ same. absurd (other_fault (line_same e Full (Err (Line e)) refl same));
  tells_read = λ f t. absurd (cc);
  failed = λ e. absurd (cc);
  stopped = stopped;
}

pub serves_start_fault : {S R W T : Type 0} (does : Speech S) (over : S → Bool) (limit : ℕ) (from : SourceState R) (old other : S) (before after : SinkState W) (e : WriteStopped)
    → Finishes {T = T} before after (Err e) → ServesGathered does over limit from from old other before after (Err (Line Write))
serves_start_fault does over limit from old other before after e p =
    unbegun does over limit from old other before after Write (λ e. absurd (cc)) p.gives.error (λ s. p.gives.stopped ∙ ap (λ v. v || true) s)

-- no memory for the line
pub serves_no_memory : {S R W T : Type 0} (does : Speech S) (over : S → Bool) (limit : ℕ) (from : SourceState R) (old : S) (before after : SinkState W) (x : T)
    → before.flushed ≡ true → Finishes {E = WriteStopped} before after (Ok x) → ServesGathered does over limit from from old old before after (Err (Line OutOfMemory))
serves_no_memory does over limit from old before after x flushed p =
    unbegun does over limit from old old before after OutOfMemory (λ e. absurd (cc)) (p.gives.ok, p.gives.flushed flushed) (λ s. tt)

-- no read may be made
pub no_read : (b : Bool) (left : ℕ) (failed : Bool) → IsTrue b ↔ ((0 < left) × (failed ≡ false)) → b ≡ false → (failed ≡ true) ⊎ (left ≡ 0)
no_read b left true p e = inl refl
no_read b left false p e = inr (grind arith)

pub failed_read : (a b : Bool) → a ≡ (b || true) → a ≡ true
failed_read a true e = e
failed_read a false e = e

-- ---- what is gathered is written out

or_true : (b : Bool) → (b || true) ≡ true
or_true true = refl
or_true false = refl

-- all of it, or a prefix, and then the sink has stopped
all_out : {W : Type 0} (before between after : SinkState W) (said : List ℕ) (written : Result (Unit {0}) WriteStopped) → Takes before between said → between.flushed ≡ true
    → Finishes between after written → GetsAll before after said ⊎ (GetsPrefix before after said × (after.stopped ≡ true))
all_out before between after said (Ok x) took flushed p =
    let all : Takes before after said = subst (Takes before after) (append-nil said) (takes_more before between after said [] took p.gives.ok) in
    inl (record {
      written = written_all before after said all p.empty;
      kept = (p.empty, p.gives.flushed flushed);
      unstopped = gives_unstopped between after [] (Ok x) p.gives;
    })
all_out before between after said (Err e) took flushed p =
    let some : TakesPrefix before after said = subst (TakesPrefix before after) (append-nil said) (takes_prefix_after before between after said [] took p.gives.error) in
    inr (gets_prefix before after said some, p.gives.stopped ∙ or_true between.stopped)

written_out : {W : Type 0} (e : Unanswered) (before between after : SinkState W) (said : List ℕ) (written : Result (Unit {0}) WriteStopped) → Gathered e before between said
    → WritesOut e between after written → Leaves e before after said
written_out Write before between after said written g same =
    subst (λ s. GetsPrefix before s said) (sym same) (gets_prefix before between said g)
written_out OutOfMemory before between after said written g out = all_out before between after said written g.0 g.1 out
written_out Full before between after said written g out = all_out before between after said written g.0 g.1 out

stops_out : {W : Type 0} (e : Unanswered) (between after : SinkState W) (written : Result (Unit {0}) WriteStopped) → WritesOut e between after written
    → Stops {T = LinesEnd} (Err (Line e)) between.stopped → Stops {T = LinesEnd} (Err (Line e)) after.stopped
stops_out Write between after written same h = ap (λ s. s.stopped) same ∙ h
stops_out OutOfMemory between after written out h = tt
stops_out Full between after written out h = tt

module _ {S R W : Type 0} (does : Speech S) (over : S → Bool) (limit : ℕ) (from to : SourceState R) (old new : S) (before between : SinkState W) where
  pub served_end : (end : LinesEnd) → ServesGathered does over limit from to old new before between (Ok end) → Serves does over limit from to old new before between (Ok end)
  served_end end s =
      record { ok = s.ok; read = s.read; fault = λ fault e. absurd (cc); full = λ e. absurd (cc); tells_read = s.tells_read; failed = s.failed; stopped = s.stopped }

  pub served_read : ServesGathered does over limit from to old new before between (Err Read) → Serves does over limit from to old new before between (Err Read)
  served_read s =
      record { ok = s.ok; read = s.read; fault = λ fault e. absurd (cc); full = λ e. absurd (cc); tells_read = s.tells_read; failed = s.failed; stopped = s.stopped }

  pub served_fault : (e : Unanswered) (after : SinkState W) (written : Result (Unit {0}) WriteStopped) → ServesGathered does over limit from to old new before between (Err (Line e))
      → WritesOut e between after written → Serves does over limit from to old new before after (Err (Line e))
  served_fault e after written s out =
      let some = s.fault e refl in record {
        ok = tt;
        read = λ e. absurd (cc);
        fault = λ fault same. by_fault (λ (f : Unanswered). ServesSome (Leaves f) does limit from to old before after) e fault (Err (Line e)) refl (record {
          bytes = some.bytes;
          read = some.read;
          begun = some.begun;
          others = some.others;
          all = some.all;
          said = some.said;
          spoken = some.spoken;
          written = written_out e before between after some.said written some.written out;
        }) same;
        full = s.full;
        tells_read = s.tells_read;
        failed = s.failed;
        stopped = λ h. stops_out e between after written out (s.stopped h);
      }
