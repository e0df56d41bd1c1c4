-- Lines answered one after another.
use Rattle.std.proofs.Common.{◌≡◌, inl, inr, ◌||◌, ℕ, true, false, List, [], ◌∷◌, ◌++◌, Option, Result, Ok, Err, refl, sym, ap, ◌∙◌, subst, append_assoc, append-nil}
use Rattle.gp_flow.specs.declared.fault.Unanswered.{Unanswered}
use Rattle.gp_flow.specs.declared.fault.Unanswered.TheVariants.{Write, OutOfMemory, Full}
use Rattle.gp_stream.specs.declared.sink.WriteStopped.{WriteStopped}
use Rattle.gp_stream.specs.Sink.{SinkState, Puts, Finishes, Takes}
use Rattle.gp_flow.specs.Lines.{Speech, WholeLines, DoesAll, DoesSome, FullAt, HandsIn, Starts, StopsWithin, Answers, AnswersAll}
use Rattle.gp_flow.specs.Lines.Starts.{NotBegun, AllSaid, PartSaid}
use Rattle.gp_stream.proofs.SinkLemmas.{takes_nothing, takes_more, takes_prefix_after}

-- lines, and then lines
pub does_more : {S : Type 0} (does : Speech S) (old mid new : S) (xs ys : List (Option (List ℕ))) (said more : List ℕ)
    → DoesAll does old xs said mid → DoesAll does mid ys more new → DoesAll does old (xs ++ ys) (said ++ more) new
does_more does old mid new [] ys said more p q =
    subst (λ l. DoesAll does old ys (l ++ more) new) (sym p.0) (subst (λ s. DoesAll does s ys more new) p.1 q)
does_more does old mid new (x ∷ xs) ys said more p q =
    (p.0, p.1 ++ more, p.2, p.3, does_more does p.2 mid new xs ys p.1 more p.4 q, ap (λ l. l ++ more) p.5 ∙ append_assoc p.0 p.1 more)

-- one line
pub does_one : {S : Type 0} (does : Speech S) (old new : S) (line : Option (List ℕ)) (said : List ℕ) → does.says old line said new → DoesAll does old (line ∷ []) said new
does_one does old new line said p = (said, [], new, p, (refl, refl), sym (append-nil said))

-- lines, and then lines of which the last was maybe only begun
pub does_some_more : {S : Type 0} (does : Speech S) (old mid : S) (xs ys : List (Option (List ℕ))) (said more : List ℕ)
    → DoesAll does old xs said mid → DoesSome does mid ys more → DoesSome does old (xs ++ ys) (said ++ more)
does_some_more does old mid [] ys said more p q =
    subst (λ l. DoesSome does old ys (l ++ more)) (sym p.0) (subst (λ s. DoesSome does s ys more) p.1 q)
does_some_more does old mid (x ∷ xs) ys said more p q =
    inl (p.0, p.1 ++ more, p.2, p.3, does_some_more does p.2 mid xs ys p.1 more p.4 q, ap (λ l. l ++ more) p.5 ∙ append_assoc p.0 p.1 more)

-- octets, and then what a fault left of more
hands_after : {W : Type 0} (e : Unanswered) (a b c : SinkState W) (xs ys : List ℕ) → Takes a b xs → HandsIn e b c ys → HandsIn e a c (xs ++ ys)
hands_after Write a b c xs ys p q = takes_prefix_after a b c xs ys p q
hands_after OutOfMemory a b c xs ys p q = takes_more a b c xs ys p q
hands_after Full a b c xs ys p q = takes_more a b c xs ys p q

-- one line, or a beginning of it
one_begun : {S W : Type 0} (does : Speech S) (line : Option (List ℕ)) (e : Unanswered) (old : S) (before after : SinkState W)
    → Starts does line e old before after → StopsWithin does (line ∷ []) e old before after
one_begun does line e old before after (NotBegun written) =
    record { begun = []; others = line ∷ []; all = refl; said = []; spoken = refl; written = written }
one_begun does line e old before after (AllSaid said next p written) =
    record { begun = line ∷ []; others = []; all = refl; said = said; spoken = inl (said, [], next, p, refl, sym (append-nil said)); written = written }
one_begun does line e old before after (PartSaid said next p written) =
    record { begun = line ∷ []; others = []; all = refl; said = said; spoken = inr (refl, next, p); written = written }

-- at a line alone the work can take no more
full_one : {S : Type 0} (does : Speech S) (line : Option (List ℕ)) (old : S) → does.full old line → FullAt does (line ∷ []) old
full_one does line old why = record { answered = []; said = []; next = old; spoken = (refl, refl); line = line; others = []; all = refl; why = why }

-- lines, and then lines at one of which it can take no more
full_behind : {S : Type 0} (does : Speech S) (xs ys : List (Option (List ℕ))) (old mid : S) (said : List ℕ) → DoesAll does old xs said mid → FullAt does ys mid
    → FullAt does (xs ++ ys) old
full_behind does xs ys old mid said p q = record {
  answered = xs ++ q.answered;
  said = said ++ q.said;
  next = q.next;
  spoken = does_more does old mid q.next xs q.answered said q.said p q.spoken;
  line = q.line;
  others = q.others;
  all = append_assoc xs q.answered (q.line ∷ q.others) ∙ ap (λ l. xs ++ l) q.all;
  why = q.why;
}

-- it doesn't matter which lines would have followed
pub full_before : {S : Type 0} (does : Speech S) (xs ys : List (Option (List ℕ))) (old : S) → FullAt does xs old → FullAt does (xs ++ ys) old
full_before does xs ys old p = record {
  answered = p.answered;
  said = p.said;
  next = p.next;
  spoken = p.spoken;
  line = p.line;
  others = p.others ++ ys;
  all = sym (append_assoc p.answered (p.line ∷ p.others) ys) ∙ ap (λ l. l ++ ys) p.all;
  why = p.why;
}

-- an answer to one line is an answer to a list of one
pub answers_one : {S W T : Type 0} (does : Speech S) (line : Option (List ℕ)) (old new : S) (before after : SinkState W) (r : Result T Unanswered)
    → Answers does line old new before after r → AnswersAll does (line ∷ []) old new before after r
answers_one does line old new before after (Ok x) p = record {
  ok = (p.ok.0, does_one does old new line p.ok.0 p.ok.1, p.ok.2);
  error = tt;
  full = λ e. absurd (cc);
  flushed = p.flushed;
  stopped = p.stopped;
}
answers_one does line old new before after (Err e) p = record {
  ok = tt;
  error = one_begun does line e old before after p.error;
  full = λ same. full_one does line old (p.full same);
  flushed = p.flushed;
  stopped = p.stopped;
}

-- no line
pub answers_none : {S W T : Type 0} (does : Speech S) (old : S) (before : SinkState W) (x : T) → AnswersAll does [] old old before before (Ok x)
answers_none does old before x = record { ok = ([], (refl, refl), takes_nothing before); error = tt; full = λ e. absurd (cc); flushed = λ f unstopped. f; stopped = λ s. s }

-- lines, and then lines
pub answers_more : {S W T U : Type 0} (does : Speech S) (xs ys : List (Option (List ℕ))) (old mid new : S) (before between after : SinkState W) (x : T) (r : Result U Unanswered)
    → AnswersAll does xs old mid before between (Ok x) → AnswersAll does ys mid new between after r → AnswersAll does (xs ++ ys) old new before after r
answers_more does xs ys old mid new before between after x (Ok y) p q = record {
  ok = (p.ok.0 ++ q.ok.0, does_more does old mid new xs ys p.ok.0 q.ok.0 p.ok.1 q.ok.1, takes_more before between after p.ok.0 q.ok.0 p.ok.2 q.ok.2);
  error = tt;
  full = λ e. absurd (cc);
  flushed = λ f unstopped. q.flushed (p.flushed f refl) unstopped;
  stopped = λ s. q.stopped (p.stopped s);
}
answers_more does xs ys old mid new before between after x (Err e) p q = record {
  ok = tt;
  error = record {
    begun = xs ++ q.error.begun;
    others = q.error.others;
    all = append_assoc xs q.error.begun q.error.others ∙ ap (λ l. xs ++ l) q.error.all;
    said = p.ok.0 ++ q.error.said;
    spoken = does_some_more does old mid xs q.error.begun p.ok.0 q.error.said p.ok.1 q.error.spoken;
    written = hands_after e before between after p.ok.0 q.error.said p.ok.2 q.error.written;
  };
  full = λ same. full_behind does xs ys old mid p.ok.0 p.ok.1 (q.full same);
  flushed = λ f unstopped. q.flushed (p.flushed f refl) unstopped;
  stopped = λ s. q.stopped (p.stopped s);
}

err_same : (T U : Type 0) (e f : Unanswered) → ◌≡◌ {A = Result U Unanswered} (Err e) (Err f) → ◌≡◌ {A = Result T Unanswered} (Err e) (Err f)
err_same T U e f same = cc

-- where a fault comes, it doesn't matter which lines would have followed
pub answers_stopped : {S W T U : Type 0} (does : Speech S) (xs ys : List (Option (List ℕ))) (old new other : S) (before after : SinkState W) (e : Unanswered)
    → AnswersAll {T = T} does xs old new before after (Err e) → AnswersAll {T = U} does (xs ++ ys) old other before after (Err e)
answers_stopped {T = T} {U = U} does xs ys old new other before after e p = record {
  ok = tt;
  error = record {
    begun = p.error.begun;
    others = p.error.others ++ ys;
    all = sym (append_assoc p.error.begun p.error.others ys) ∙ ap (λ l. l ++ ys) p.error.all;
    said = p.error.said;
    spoken = p.error.spoken;
    written = p.error.written;
  };
  full = λ same. full_before does xs ys old (p.full (err_same T U e Full same));
  flushed = p.flushed;
  stopped = p.stopped;
}

stops : {P : Type 0} → true ≡ false → P
stops e = absurd (cc)

-- writing out what is gathered answers no line
pub finish_answers : {S W T U : Type 0} (does : Speech S) (old : S) (before after : SinkState W) (x : T) (y : U) → Finishes {E = WriteStopped} before after (Ok x)
    → AnswersAll does [] old old before after (Ok y)
finish_answers does old before after x y p = record {
  ok = ([], (refl, refl), p.gives.ok);
  error = tt;
  full = λ e. absurd (cc);
  flushed = λ f unstopped. p.gives.flushed f;
  stopped = λ s. p.gives.stopped ∙ ap (λ v. v || false) s;
}

pub finish_stopped : {S W T U : Type 0} (does : Speech S) (old : S) (before after : SinkState W) (e : WriteStopped) → Finishes {T = T} before after (Err e)
    → AnswersAll {T = U} does [] old old before after (Err Write)
finish_stopped does old before after e p = record {
  ok = tt;
  error = record { begun = []; others = []; all = refl; said = []; spoken = refl; written = p.gives.error };
  full = λ e. absurd (cc);
  flushed = λ f unstopped. stops unstopped;
  stopped = λ s. p.gives.stopped ∙ ap (λ v. v || true) s;
}

-- no more lines can be taken
pub no_room : {S W U : Type 0} (does : Speech S) (line : Option (List ℕ)) (old new : S) (before : SinkState W) → does.full old line
    → Answers {T = U} does line old new before before (Err Full)
no_room does line old new before why = record {
  ok = tt;
  error = NotBegun (takes_nothing before);
  full = λ e. why;
  flushed = λ f unstopped. f;
  stopped = λ s. s;
}

-- ---- for what answers a line: all that it says is put in at once

pub put_answers : {S W T U : Type 0} (does : Speech S) (line : Option (List ℕ)) (old new : S) (before after : SinkState W) (said : List ℕ) (x : T) (y : U) → does.says old line said new
    → Puts {E = WriteStopped} before after said (Ok x) → Answers does line old new before after (Ok y)
put_answers does line old new before after said x y d p = record {
  ok = (said, d, p.gives.ok);
  error = tt;
  full = λ e. absurd (cc);
  flushed = λ f unstopped. p.gives.flushed f;
  stopped = λ s. p.gives.stopped ∙ ap (λ v. v || false) s;
}

pub put_stopped : {S W T U : Type 0} (does : Speech S) (line : Option (List ℕ)) (old new next : S) (before after : SinkState W) (said : List ℕ) (e : WriteStopped) → does.says old line said next
    → Puts {T = T} before after said (Err e) → Answers {T = U} does line old new before after (Err Write)
put_stopped does line old new next before after said e d p = record {
  ok = tt;
  error = AllSaid said next d p.gives.error;
  full = λ e. absurd (cc);
  flushed = λ f unstopped. stops unstopped;
  stopped = λ s. p.gives.stopped ∙ ap (λ v. v || true) s;
}

-- nothing was put in, for want of memory
pub no_memory : {S W U : Type 0} (does : Speech S) (line : Option (List ℕ)) (old new : S) (before : SinkState W) → Answers {T = U} does line old new before before (Err OutOfMemory)
no_memory does line old new before = record {
  ok = tt;
  error = NotBegun (takes_nothing before);
  full = λ e. absurd (cc);
  flushed = λ f unstopped. f;
  stopped = λ s. s;
}

-- nothing is said
pub silent_answers : {S W U : Type 0} (does : Speech S) (line : Option (List ℕ)) (old new : S) (before : SinkState W) (y : U) → does.says old line [] new
    → Answers does line old new before before (Ok y)
silent_answers does line old new before y d = record { ok = ([], d, takes_nothing before); error = tt; full = λ e. absurd (cc); flushed = λ f unstopped. f; stopped = λ s. s }

-- ---- the answer of one speech is that of another

starts_as : {S W : Type 0} (f g : Speech S) (l m : Option (List ℕ)) (e : Unanswered) (old : S) (before after : SinkState W)
    → ((said : List ℕ) (next : S) → f.says old l said next → g.says old m said next)
    → ((said : List ℕ) (next : S) → f.begins old l said next → g.begins old m said next)
    → Starts f l e old before after → Starts g m e old before after
starts_as f g l m e old before after whole part (NotBegun written) = NotBegun written
starts_as f g l m e old before after whole part (AllSaid said next h written) = AllSaid said next (whole said next h) written
starts_as f g l m e old before after whole part (PartSaid said next h written) = PartSaid said next (part said next h) written

pub answers_as : {S W T : Type 0} (f g : Speech S) (l m : Option (List ℕ)) (old new : S) (before after : SinkState W) (r : Result T Unanswered)
    → ((said : List ℕ) (next : S) → f.says old l said next → g.says old m said next)
    → ((said : List ℕ) (next : S) → f.begins old l said next → g.begins old m said next)
    → (f.full old l → g.full old m)
    → Answers f l old new before after r → Answers g m old new before after r
answers_as f g l m old new before after (Ok v) whole part why p =
    record { ok = (p.ok.0, whole p.ok.0 new p.ok.1, p.ok.2); error = tt; full = λ e. absurd (cc); flushed = p.flushed; stopped = p.stopped }
answers_as f g l m old new before after (Err e) whole part why p =
    record { ok = tt; error = starts_as f g l m e old before after whole part p.error; full = λ same. why (p.full same); flushed = p.flushed; stopped = p.stopped }

-- where lines are answered whole or not at all, each that was begun was answered
pub all_of_some : {S : Type 0} (full : S → Option (List ℕ) → Type 0) (says : S → Option (List ℕ) → List ℕ → S → Type 0) (old : S) (lines : List (Option (List ℕ))) (said : List ℕ)
    → DoesSome (WholeLines full says) old lines said → (next : S) × DoesAll (WholeLines full says) old lines said next
all_of_some full says old [] said p = (old, (p, refl))
all_of_some full says old (line ∷ lines) said (inl p) =
    let rest = all_of_some full says p.2 lines p.1 p.4 in
    (rest.0, (p.0, p.1, p.2, p.3, rest.1, p.5))
all_of_some full says old (line ∷ lines) said (inr p) = absurd p.2
