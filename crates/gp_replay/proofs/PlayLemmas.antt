-- What is played and written in parts, one after the other, and how a whole play ends.
use Rattle.std.proofs.Common.{◌≡◌, ◌||◌, ℕ, Bool, true, false, List, [], ◌∷◌, ◌++◌, Result, Ok, Err, IsErrAnd, subst, refl, sym, ap, ◌∙◌}
use Rattle.std.proofs.lemmas.Grind.{flat_map-append}
use Rattle.std.proofs.lemmas.List.{append-nil}
use Rattle.gp_ploam.specs.declared.check.Mask.{Mask}
use Rattle.gp_machine.specs.declared.entry.Receipt.{Receipt}
use Rattle.gp_stream.specs.Sink.{SinkState, Gives}
use Rattle.gp_stream.proofs.SinkLemmas.{takes_nothing, takes_more, takes_prefix_after, takes_prefix_more}
use Rattle.gp_trace.specs.Text.{line_of, trace_text}
use Rattle.gp_replay.specs.declared.fault.PlayFault.{PlayFault}
use Rattle.gp_replay.specs.declared.fault.PlayFault.TheVariants as faults
use Rattle.gp_replay.specs.Writing.{HandsIn, Happening, LeavesBy, PlaysOn, Writes, WritesPrefix}

-- one after the other is the whole
abbrev pub Joins : {S : Type 0} → Happening S → Happening S → Happening S → Type 0
Joins {S = S} T U V = (a b c : S) (rs ss : List Receipt) → T a rs b → U b ss c → V a (rs ++ ss) c

writes_on : {S W : Type 0} (mask : Mask) (T U V : Happening S) → Joins T U V → (a b c : S) (x y z : SinkState W)
    → Writes mask T a b x y → Writes mask U b c y z → Writes mask V a c x z
writes_on mask T U V joins a b c x y z p q = record {
  receipts = p.receipts ++ q.receipts;
  happened = joins a b c p.receipts q.receipts p.happened q.happened;
  lines = rw (flat_map-append (line_of mask) p.receipts q.receipts) (takes_more x y z _ _ p.lines q.lines);
}

prefix_on : {S W : Type 0} (mask : Mask) (T U V : Happening S) → Joins T U V → (a b : S) (x y z : SinkState W)
    → Writes mask T a b x y → WritesPrefix mask U b y z → WritesPrefix mask V a x z
prefix_on mask T U V joins a b x y z p q = record {
  receipts = p.receipts ++ q.receipts;
  end = q.end;
  happened = joins a b q.end p.receipts q.receipts p.happened q.happened;
  lines = rw (flat_map-append (line_of mask) p.receipts q.receipts) (takes_prefix_after x y z _ _ p.lines q.lines);
}

leaves_on : {S W : Type 0} (mask : Mask) (T U V : Happening S) → Joins T U V → (a b : S) (x y z : SinkState W)
    → Writes mask T a b x y → (fault : PlayFault) → LeavesBy fault mask U b y z → LeavesBy fault mask V a x z
leaves_on mask T U V joins a b x y z p faults.OutOfMemory q = (q.0, writes_on mask T U V joins a b q.0 x y z p q.1)
leaves_on mask T U V joins a b x y z p faults.Write q = prefix_on mask T U V joins a b x y z p q

-- ---- in the midst of a play

-- this was played so far, and no write failed in it
pub record Stands {S W : Type 0} (mask : Mask) (happens : Happening S) (old new : S) (before after : SinkState W) : Type 0 where
  pub written : Writes mask happens old new before after
  pub stopped : after.stopped ≡ before.stopped
  pub refused : before.stopped ≡ true → after.writer ≡ before.writer
  pub flushed : before.flushed ≡ true → after.flushed ≡ true

or_false : (a b : Bool) → b ≡ (a || false) → b ≡ a
or_false false b e = e
or_false true b e = e

to_or_false : (a b : Bool) → b ≡ a → b ≡ (a || false)
to_or_false false b e = e
to_or_false true b e = e

pub or_true : (a b : Bool) → b ≡ (a || true) → b ≡ true
or_true false b e = e
or_true true b e = e

pub not_both : {P : Type 0} (b : Bool) → b ≡ true → b ≡ false → P
not_both true p q = let bad : true ≡ false = q in absurd (cc)
not_both false p q = let bad : false ≡ true = p in absurd (cc)

pub or_kept : (a b c : Bool) → b ≡ (a || c) → a ≡ true → b ≡ true
or_kept true b c e h = e
or_kept false b c e h = not_both false h refl

or_same : (a b c error : Bool) → b ≡ a → c ≡ (b || error) → c ≡ (a || error)
or_same a b c error e f = f ∙ ap (λ o. o || error) e

pub stands_at_first : {S W : Type 0} (mask : Mask) (T : Happening S) (a : S) (x : SinkState W) → T a [] a → Stands mask T a a x x
stands_at_first mask T a x h = record {
  written = record { receipts = []; happened = h; lines = takes_nothing x };
  stopped = refl;
  refused = λ s. refl;
  flushed = λ f. f;
}

-- more was played
pub stands_on : {S W A : Type 0} (mask : Mask) (T U V P : Happening S) → Joins T U V → (a b c : S) (x y z : SinkState W) (v : A)
    → Stands mask T a b x y → PlaysOn mask U P b c y z (Ok v) → Stands mask V a c x z
stands_on mask T U V P joins a b c x y z v s p = record {
  written = writes_on mask T U V joins a b c x y z s.written p.ok;
  stopped = or_false y.stopped z.stopped p.stopped ∙ s.stopped;
  refused = λ h. p.refused (s.stopped ∙ h) ∙ s.refused h;
  flushed = λ f. p.flushed (s.flushed f) refl;
}

-- all was played
pub stands_whole : {S W A : Type 0} (mask : Mask) (T P : Happening S) (a b : S) (x y : SinkState W) (v : A)
    → Stands mask T a b x y → PlaysOn mask T P a b x y (Ok v)
stands_whole mask T P a b x y v s = record {
  ok = s.written;
  fault = tt;
  stopped = to_or_false x.stopped y.stopped s.stopped;
  refused = s.refused;
  flushed = λ f n. s.flushed f;
}

-- the same fault, of another part
stops_by : {S W A B : Type 0} (mask : Mask) (T U V X P : Happening S) → Joins T U V → (a b c : S) (x y z : SinkState W) (e : PlayFault)
    → Stands mask T a b x y → PlaysOn {T = A} mask X U b c y z (Err e) → PlaysOn {T = B} mask P V a c x z (Err e)
stops_by mask T U V X P joins a b c x y z faults.OutOfMemory s p = record {
  ok = tt;
  fault = leaves_on mask T U V joins a b x y z s.written faults.OutOfMemory p.fault;
  stopped = or_same x.stopped y.stopped z.stopped false s.stopped p.stopped;
  refused = λ h. p.refused (s.stopped ∙ h) ∙ s.refused h;
  flushed = λ f n. p.flushed (s.flushed f) n;
}
stops_by mask T U V X P joins a b c x y z faults.Write s p = record {
  ok = tt;
  fault = leaves_on mask T U V joins a b x y z s.written faults.Write p.fault;
  stopped = or_same x.stopped y.stopped z.stopped true s.stopped p.stopped;
  refused = λ h. p.refused (s.stopped ∙ h) ∙ s.refused h;
  flushed = λ f n. p.flushed (s.flushed f) n;
}

-- a part of more was played, up to a fault, which is answered
pub stops_on : {S W A B : Type 0} (mask : Mask) (T U V X P : Happening S) → Joins T U V → (a b c : S) (x y z : SinkState W) (e : PlayFault)
    (r : Result B PlayFault) → Stands mask T a b x y → PlaysOn {T = A} mask X U b c y z (Err e) → IsErrAnd r (λ o. o ≡ e)
    → PlaysOn mask P V a c x z r
stops_on mask T U V X P joins a b c x y z e (Ok v) s p told = absurd told
stops_on {B = B} mask T U V X P joins a b c x y z e (Err f) s p told =
    subst (λ (o : PlayFault). PlaysOn {T = B} mask P V a c x z (Err o)) (sym told) (stops_by mask T U V X P joins a b c x y z e s p)

-- ---- one thing that happens

-- bytes that are put in at once are handed in
pub hands_in : {W T E : Type 0} (x y : SinkState W) (bytes : List ℕ) (r : Result T E) → Gives x y bytes r → HandsIn x y bytes r
hands_in x y bytes r g = record { ok = g.ok; error = g.error; stopped = g.stopped; refused = λ h. (g.refused h).1; flushed = g.flushed }

-- ---- what is handed in in pieces

stopped_still : (a b : Bool) → b ≡ (a || false) → a ≡ true → b ≡ true
stopped_still false b e h = absurd (let bad : false ≡ true = h in cc)
stopped_still true b e h = e

stopped_more : (a b c error : Bool) → b ≡ (a || false) → c ≡ (b || error) → c ≡ (a || error)
stopped_more false b c error p q = q ∙ ap (λ (o : Bool). o || error) p
stopped_more true b c error p q = q ∙ ap (λ (o : Bool). o || error) p

-- nothing
pub hands_nothing : {W A E : Type 0} (x : SinkState W) (v : A) → HandsIn {E = E} x x [] (Ok v)
hands_nothing x v = record {
  ok = takes_nothing x;
  error = tt;
  stopped = to_or_false x.stopped x.stopped refl;
  refused = λ s. refl;
  flushed = λ f. f;
}

-- a piece, and then more
pub hands_more : {W A B E F : Type 0} (x y z : SinkState W) (first rest : List ℕ) (u : A) (r : Result B F) → HandsIn {E = E} x y first (Ok u) → HandsIn y z rest r
    → HandsIn x z (first ++ rest) r
hands_more x y z first rest u (Ok v) p q = record {
  ok = takes_more x y z first rest p.ok q.ok;
  error = tt;
  stopped = stopped_more x.stopped y.stopped z.stopped false p.stopped q.stopped;
  refused = λ s. q.refused (stopped_still x.stopped y.stopped p.stopped s) ∙ p.refused s;
  flushed = λ f. q.flushed (p.flushed f);
}
hands_more x y z first rest u (Err e) p q = record {
  ok = tt;
  error = takes_prefix_after x y z first rest p.ok q.error;
  stopped = stopped_more x.stopped y.stopped z.stopped true p.stopped q.stopped;
  refused = λ s. q.refused (stopped_still x.stopped y.stopped p.stopped s) ∙ p.refused s;
  flushed = λ f. tt;
}

-- a piece that was not put in, and so no more
pub hands_stopped : {W A B E F : Type 0} (x y : SinkState W) (first rest : List ℕ) (e : E) (r : Result B F) (P : F → Type 0) → HandsIn {T = A} x y first (Err e) → IsErrAnd r P
    → HandsIn x y (first ++ rest) r
hands_stopped x y first rest e (Ok v) P p told = absurd told
hands_stopped x y first rest e (Err f) P p told = record {
  ok = tt;
  error = takes_prefix_more x y first rest p.error;
  stopped = p.stopped;
  refused = p.refused;
  flushed = λ f. tt;
}

-- it happened, and its lines were handed in
pub plays_lines : {S W A B E : Type 0} (mask : Mask) (T P : Happening S) (a b : S) (rs : List Receipt) (x y : SinkState W) (u : B) (v : A)
    → T a rs b → HandsIn {T = B} {E = E} x y (trace_text mask rs) (Ok u) → PlaysOn mask T P a b x y (Ok v)
plays_lines mask T P a b rs x y u v h w = record {
  ok = record { receipts = rs; happened = h; lines = w.ok };
  fault = tt;
  stopped = w.stopped;
  refused = w.refused;
  flushed = λ f n. w.flushed f;
}

-- it happened, and it has no line
pub plays_silent : {S W A : Type 0} (mask : Mask) (T P : Happening S) (a b : S) (x : SinkState W) (v : A) → T a [] b → PlaysOn mask T P a b x x (Ok v)
plays_silent mask T P a b x v h = record {
  ok = record { receipts = []; happened = h; lines = takes_nothing x };
  fault = tt;
  stopped = to_or_false x.stopped x.stopped refl;
  refused = λ s. refl;
  flushed = λ f n. f;
}

-- it happened, and its lines were not all written
pub stops_in_lines : {S W A B E : Type 0} (mask : Mask) (T P : Happening S) (a b c : S) (rs : List Receipt) (x y : SinkState W) (e : E)
    (r : Result A PlayFault) → P a rs b → HandsIn {T = B} {E = E} x y (trace_text mask rs) (Err e) → IsErrAnd r (λ o. o ≡ faults.Write)
    → PlaysOn mask T P a c x y r
stops_in_lines mask T P a b c rs x y e (Ok v) h w told = absurd told
stops_in_lines {A = A} mask T P a b c rs x y e (Err f) h w told = subst (λ (o : PlayFault). PlaysOn {T = A} mask T P a c x y (Err o)) (sym told) (record {
  ok = tt;
  fault = record { receipts = rs; end = b; happened = h; lines = w.error };
  stopped = w.stopped;
  refused = w.refused;
  flushed = λ f n. not_both true refl n;
})

-- memory was refused before anything happened
pub stops_at_first : {S W A : Type 0} (mask : Mask) (T P : Happening S) (a c : S) (x : SinkState W) (r : Result A PlayFault) → P a [] a
    → IsErrAnd r (λ o. o ≡ faults.OutOfMemory) → PlaysOn mask T P a c x x r
stops_at_first mask T P a c x (Ok v) h told = absurd told
stops_at_first {A = A} mask T P a c x (Err f) h told = subst (λ (o : PlayFault). PlaysOn {T = A} mask T P a c x x (Err o)) (sym told) (record {
  ok = tt;
  fault = (a, record { receipts = []; happened = h; lines = takes_nothing x });
  stopped = to_or_false x.stopped x.stopped refl;
  refused = λ s. refl;
  flushed = λ f n. f;
})

-- one line is the text of one receipt
pub one_line : {W T E : Type 0} (mask : Mask) (receipt : Receipt) (x y : SinkState W) (r : Result T E) → HandsIn x y (line_of mask receipt) r
    → HandsIn x y (trace_text mask (receipt ∷ [])) r
one_line mask receipt x y r w = subst (λ (l : List ℕ). HandsIn x y l r) (sym (append-nil (line_of mask receipt))) w
