-- Events that are told, one after the other, with the light that comes and goes.
use Rattle.std.proofs.Common.{◌≡◌, ◌<◌, ◌||◌, ℕ, ◌+◌, Bool, true, false, List, [], ◌∷◌, ◌++◌, Result, Ok, Err, IsErrAnd, length, take, drop, get_or, subst, refl, sym, ap, ◌∙◌, inl, inr, append_assoc}
use Rattle.std.proofs.lemmas.Grind.{flat_map-append}
use Rattle.std.proofs.lemmas.List.{append-nil, take_more, take-append-drop}
use Rattle.gp_ploam.specs.declared.check.Mask.{Mask}
use Rattle.gp_machine.specs.declared.entry.Receipt.{Receipt}
use Rattle.gp_script.specs.declared.script.ScriptEvent.{ScriptEvent}
use Rattle.gp_script.specs.declared.script.ScriptEvent.TheVariants as events
use Rattle.gp_stream.specs.declared.sink.WriteStopped.{WriteStopped}
use Rattle.gp_stream.specs.Sink.{SinkState}
use Rattle.gp_stream.proofs.SinkLemmas.{takes_nothing, takes_more, takes_prefix_after}
use Rattle.gp_trace.specs.Text.{line_of, trace_text}
use Rattle.gp_replay.specs.declared.fault.PlayFault.{PlayFault}
use Rattle.gp_replay.specs.declared.fault.PlayFault.TheVariants as faults
use Rattle.gp_replay.specs.Lights.{Entries, IsTraceWithLights, LeavesSaid, LightLine, Saying, Says, SaysPrefix, TellsAll, TellsEvent, TellsOn, TellsPart, TellsSome, ToldPart, entries_of, light_behind, light_of, lights_of, part_text, parts_text}
use Rattle.gp_replay.specs.Playing.{Playing, PlaysAll, PlaysSome}
use Rattle.gp_replay.specs.Writing.{HandsIn, PlaysOn}
use Rattle.gp_replay.proofs.PlayLemmas.{not_both}

-- ---- what is said in parts, one after the other

-- one after the other is the whole
abbrev pub SaysJoin : {S : Type 0} → Saying S → Saying S → Saying S → Type 0
SaysJoin {S = S} T U V = (a b c : S) (rs ss : List Receipt) (t u : List ℕ) → T a rs t b → U b ss u c → V a (rs ++ ss) (t ++ u) c

says_on : {S W : Type 0} (T U V : Saying S) → SaysJoin T U V → (a b c : S) (x y z : SinkState W) → Says T a b x y → Says U b c y z → Says V a c x z
says_on T U V joins a b c x y z p q = record {
  receipts = p.receipts ++ q.receipts;
  text = p.text ++ q.text;
  told = joins a b c p.receipts q.receipts p.text q.text p.told q.told;
  lines = takes_more x y z p.text q.text p.lines q.lines;
}

says_prefix_on : {S W : Type 0} (T U V : Saying S) → SaysJoin T U V → (a b : S) (x y z : SinkState W) → Says T a b x y → SaysPrefix U b y z → SaysPrefix V a x z
says_prefix_on T U V joins a b x y z p q = record {
  receipts = p.receipts ++ q.receipts;
  text = p.text ++ q.text;
  end = q.end;
  told = joins a b q.end p.receipts q.receipts p.text q.text p.told q.told;
  lines = takes_prefix_after x y z p.text q.text p.lines q.lines;
}

leaves_said_on : {S W : Type 0} (T U V : Saying S) → SaysJoin T U V → (a b : S) (x y z : SinkState W) → Says T a b x y → (fault : PlayFault) → LeavesSaid fault U b y z
    → LeavesSaid fault V a x z
leaves_said_on T U V joins a b x y z p faults.OutOfMemory q = (q.0, says_on T U V joins a b q.0 x y z p q.1)
leaves_said_on T U V joins a b x y z p faults.Write q = says_prefix_on T U V joins a b x y z p q

-- this was told so far, and no write failed in it
pub record StandsSaid {S W : Type 0} (tells : Saying S) (old new : S) (before after : SinkState W) : Type 0 where
  pub said : Says tells old new before after
  pub stopped : after.stopped ≡ before.stopped
  pub refused : before.stopped ≡ true → after.writer ≡ before.writer
  pub flushed : before.flushed ≡ true → after.flushed ≡ true

or_false : (a b : Bool) → b ≡ (a || false) → b ≡ a
or_false false b e = e
or_false true b e = e

to_or_false : (a b : Bool) → b ≡ a → b ≡ (a || false)
to_or_false false b e = e
to_or_false true b e = e

or_same : (a b c error : Bool) → b ≡ a → c ≡ (b || error) → c ≡ (a || error)
or_same a b c error e f = f ∙ ap (λ o. o || error) e

pub said_at_first : {S W : Type 0} (T : Saying S) (a : S) (x : SinkState W) → T a [] [] a → StandsSaid T a a x x
said_at_first T a x h = record {
  said = record { receipts = []; text = []; told = h; lines = takes_nothing x };
  stopped = refl;
  refused = λ s. refl;
  flushed = λ f. f;
}

-- more was told
pub said_on : {S W A : Type 0} (T U V P : Saying S) → SaysJoin T U V → (a b c : S) (x y z : SinkState W) (v : A) → StandsSaid T a b x y → TellsOn U P b c y z (Ok v)
    → StandsSaid V a c x z
said_on T U V P joins a b c x y z v s p = record {
  said = says_on T U V joins a b c x y z s.said p.ok;
  stopped = or_false y.stopped z.stopped p.stopped ∙ s.stopped;
  refused = λ h. p.refused (s.stopped ∙ h) ∙ s.refused h;
  flushed = λ f. p.flushed (s.flushed f) refl;
}

-- all was told
pub said_whole : {S W A : Type 0} (T P : Saying S) (a b : S) (x y : SinkState W) (v : A) → StandsSaid T a b x y → TellsOn T P a b x y (Ok v)
said_whole T P a b x y v s = record {
  ok = s.said;
  fault = tt;
  stopped = to_or_false x.stopped y.stopped s.stopped;
  refused = s.refused;
  flushed = λ f n. s.flushed f;
}

-- the same fault, of another part
said_stops_by : {S W A B : Type 0} (T U V X P : Saying S) → SaysJoin T U V → (a b c : S) (x y z : SinkState W) (e : PlayFault) → StandsSaid T a b x y
    → TellsOn {T = A} X U b c y z (Err e) → TellsOn {T = B} P V a c x z (Err e)
said_stops_by T U V X P joins a b c x y z faults.OutOfMemory s p = record {
  ok = tt;
  fault = leaves_said_on T U V joins a b x y z s.said faults.OutOfMemory p.fault;
  stopped = or_same x.stopped y.stopped z.stopped false s.stopped p.stopped;
  refused = λ h. p.refused (s.stopped ∙ h) ∙ s.refused h;
  flushed = λ f n. p.flushed (s.flushed f) n;
}
said_stops_by T U V X P joins a b c x y z faults.Write s p = record {
  ok = tt;
  fault = leaves_said_on T U V joins a b x y z s.said faults.Write p.fault;
  stopped = or_same x.stopped y.stopped z.stopped true s.stopped p.stopped;
  refused = λ h. p.refused (s.stopped ∙ h) ∙ s.refused h;
  flushed = λ f n. p.flushed (s.flushed f) n;
}

-- a part of more was told, up to a fault, which is answered
pub said_stops_on : {S W A B : Type 0} (T U V X P : Saying S) → SaysJoin T U V → (a b c : S) (x y z : SinkState W) (e : PlayFault) (r : Result B PlayFault)
    → StandsSaid T a b x y → TellsOn {T = A} X U b c y z (Err e) → IsErrAnd r (λ o. o ≡ e) → TellsOn P V a c x z r
said_stops_on T U V X P joins a b c x y z e (Ok v) s p told = absurd told
said_stops_on {B = B} T U V X P joins a b c x y z e (Err f) s p told =
    subst (λ (o : PlayFault). TellsOn {T = B} P V a c x z (Err o)) (sym told) (said_stops_by T U V X P joins a b c x y z e s p)

-- ---- one event

-- it was played, and what stands behind its lines was put
pub event_told : {S W A B C : Type 0} (lights : Bool) (mask : Mask) (p : Playing S) (e : ScriptEvent) (a b : S) (x y z : SinkState W) (u : A) (v : B) (w : C)
    → PlaysOn mask (p.whole e) (p.part e) a b x y (Ok u) → HandsIn {E = WriteStopped} y z (light_behind lights e) (Ok v)
    → TellsOn (TellsEvent lights mask p e) (TellsPart lights mask p e) a b x z (Ok w)
event_told lights mask p e a b x y z u v w played h = record {
  ok = record {
    receipts = played.ok.receipts;
    text = trace_text mask played.ok.receipts ++ light_behind lights e;
    told = (played.ok.happened, refl);
    lines = takes_more x y z _ _ played.ok.lines h.ok;
  };
  fault = tt;
  stopped = or_same x.stopped y.stopped z.stopped false (or_false x.stopped y.stopped played.stopped) h.stopped;
  refused = λ s. h.refused (or_false x.stopped y.stopped played.stopped ∙ s) ∙ played.refused s;
  flushed = λ f n. h.flushed (played.flushed f refl);
}

-- it was played, and of what stands behind its lines not all was put
pub event_cut : {S W A B C : Type 0} (lights : Bool) (mask : Mask) (p : Playing S) (e : ScriptEvent) (a b c : S) (x y z : SinkState W) (u : A) (fault : WriteStopped)
    (r : Result C PlayFault) → PlaysOn mask (p.whole e) (p.part e) a b x y (Ok u) → HandsIn {T = B} y z (light_behind lights e) (Err fault) → IsErrAnd r (λ o. o ≡ faults.Write)
    → TellsOn (TellsEvent lights mask p e) (TellsPart lights mask p e) a c x z r
event_cut lights mask p e a b c x y z u fault (Ok v) played h told = absurd told
event_cut {C = C} lights mask p e a b c x y z u fault (Err f) played h told =
    subst (λ (o : PlayFault). TellsOn {T = C} (TellsEvent lights mask p e) (TellsPart lights mask p e) a c x z (Err o)) (sym told) (record {
      ok = tt;
      fault = record {
        receipts = played.ok.receipts;
        text = trace_text mask played.ok.receipts ++ light_behind lights e;
        end = b;
        told = inl (played.ok.happened, refl);
        lines = takes_prefix_after x y z _ _ played.ok.lines h.error;
      };
      stopped = or_same x.stopped y.stopped z.stopped true (or_false x.stopped y.stopped played.stopped) h.stopped;
      refused = λ s. h.refused (or_false x.stopped y.stopped played.stopped ∙ s) ∙ played.refused s;
      flushed = λ f n. not_both true refl n;
    })

-- it was played in part, up to a fault
event_part : {S W A B : Type 0} (lights : Bool) (mask : Mask) (p : Playing S) (e : ScriptEvent) (a b : S) (x y : SinkState W) (f : PlayFault)
    → PlaysOn {T = A} mask (p.whole e) (p.part e) a b x y (Err f) → TellsOn {T = B} (TellsEvent lights mask p e) (TellsPart lights mask p e) a b x y (Err f)
event_part lights mask p e a b x y faults.OutOfMemory played =
    let w = played.fault.1 in record {
      ok = tt;
      fault = (played.fault.0, record { receipts = w.receipts; text = trace_text mask w.receipts; told = inr (w.happened, refl); lines = w.lines });
      stopped = played.stopped;
      refused = played.refused;
      flushed = played.flushed;
    }
event_part lights mask p e a b x y faults.Write played =
    let w = played.fault in record {
      ok = tt;
      fault = record { receipts = w.receipts; text = trace_text mask w.receipts; end = w.end; told = inr (w.happened, refl); lines = w.lines };
      stopped = played.stopped;
      refused = played.refused;
      flushed = played.flushed;
    }

pub event_unplayed : {S W A B : Type 0} (lights : Bool) (mask : Mask) (p : Playing S) (e : ScriptEvent) (a b : S) (x y : SinkState W) (f : PlayFault) (r : Result B PlayFault)
    → PlaysOn {T = A} mask (p.whole e) (p.part e) a b x y (Err f) → IsErrAnd r (λ o. o ≡ f)
    → TellsOn (TellsEvent lights mask p e) (TellsPart lights mask p e) a b x y r
event_unplayed lights mask p e a b x y f (Ok v) played told = absurd told
event_unplayed {B = B} lights mask p e a b x y f (Err g) played told =
    subst (λ (o : PlayFault). TellsOn {T = B} (TellsEvent lights mask p e) (TellsPart lights mask p e) a b x y (Err o)) (sym told) (event_part lights mask p e a b x y f played)

-- ---- events

told_append : {S : Type 0} (lights : Bool) (mask : Mask) (p : Playing S) (us vs : List ScriptEvent)
    → SaysJoin (TellsAll lights mask p us) (TellsAll lights mask p vs) (TellsAll lights mask p (us ++ vs))
told_append lights mask p [] vs a b c rs ss t u h k =
    subst (λ (l : List ℕ). TellsAll lights mask p vs a (rs ++ ss) (l ++ u) c) (sym h.2)
    (subst (λ (l : List Receipt). TellsAll lights mask p vs a (l ++ ss) u c) (sym h.1) (subst (λ s. TellsAll lights mask p vs s ss u c) h.0 k))
told_append lights mask p (e ∷ us) vs a b c rs ss t u h k = (
  h.0,
  h.1,
  h.2 ++ ss,
  h.3,
  h.4 ++ u,
  h.5,
  told_append lights mask p us vs h.0 b c h.2 ss h.4 u h.6 k,
  ap (λ (l : List Receipt). l ++ ss) h.7 ∙ append_assoc h.1 h.2 ss,
  ap (λ (l : List ℕ). l ++ u) h.8 ∙ append_assoc h.3 h.4 u,
)

told_one : {S : Type 0} (lights : Bool) (mask : Mask) (p : Playing S) (e : ScriptEvent) (a b : S) (rs : List Receipt) (t : List ℕ) → TellsEvent lights mask p e a rs t b
    → TellsAll lights mask p (e ∷ []) a rs t b
told_one lights mask p e a b rs t h = (b, rs, [], t, [], h, (refl, refl, refl), sym (append-nil rs), sym (append-nil t))

-- one event more
pub told_more : {S : Type 0} (lights : Bool) (mask : Mask) (p : Playing S) (es : List ScriptEvent) (i : ℕ) (d : ScriptEvent) → i < length es
    → SaysJoin (TellsAll lights mask p (take i es)) (TellsEvent lights mask p (get_or es i d)) (TellsAll lights mask p (take (i + 1) es))
told_more lights mask p es i d h a b c rs ss t u x y =
    subst (λ (l : List ScriptEvent). TellsAll lights mask p l a (rs ++ ss) (t ++ u) c) (sym (take_more es i d h))
    (told_append lights mask p (take i es) (get_or es i d ∷ []) a b c rs ss t u x (told_one lights mask p (get_or es i d) b c ss u y))

told_after : {S : Type 0} (lights : Bool) (mask : Mask) (p : Playing S) (us : List ScriptEvent) (e : ScriptEvent) (vs : List ScriptEvent)
    → SaysJoin (TellsAll lights mask p us) (TellsPart lights mask p e) (TellsSome lights mask p (us ++ e ∷ vs))
told_after lights mask p [] e vs a b c rs ss t u h k =
    inl (subst (λ (l : List ℕ). TellsPart lights mask p e a (rs ++ ss) (l ++ u) c) (sym h.2)
    (subst (λ (l : List Receipt). TellsPart lights mask p e a (l ++ ss) u c) (sym h.1) (subst (λ s. TellsPart lights mask p e s ss u c) h.0 k)))
told_after lights mask p (o ∷ us) e vs a b c rs ss t u h k = inr (
  h.0,
  h.1,
  h.2 ++ ss,
  h.3,
  h.4 ++ u,
  h.5,
  told_after lights mask p us e vs h.0 b c h.2 ss h.4 u h.6 k,
  ap (λ (l : List Receipt). l ++ ss) h.7 ∙ append_assoc h.1 h.2 ss,
  ap (λ (l : List ℕ). l ++ u) h.8 ∙ append_assoc h.3 h.4 u,
)

split_at : (es : List ScriptEvent) (i : ℕ) (d : ScriptEvent) → i < length es → es ≡ take i es ++ get_or es i d ∷ drop (i + 1) es
split_at es i d h =
    sym (take-append-drop (i + 1) es) ∙ ap (λ (l : List ScriptEvent). l ++ drop (i + 1) es) (take_more es i d h)
    ∙ append_assoc (take i es) (get_or es i d ∷ []) (drop (i + 1) es)

-- events, and the next one in part
pub told_some_more : {S : Type 0} (lights : Bool) (mask : Mask) (p : Playing S) (es : List ScriptEvent) (i : ℕ) (d : ScriptEvent) → i < length es
    → SaysJoin (TellsAll lights mask p (take i es)) (TellsPart lights mask p (get_or es i d)) (TellsSome lights mask p es)
told_some_more lights mask p es i d h a b c rs ss t u x y =
    subst (λ (l : List ScriptEvent). TellsSome lights mask p l a (rs ++ ss) (t ++ u) c) (sym (split_at es i d h))
    (told_after lights mask p (take i es) (get_or es i d) (drop (i + 1) es) a b c rs ss t u x y)

-- all events are some of them
pub told_all_some : {S : Type 0} (lights : Bool) (mask : Mask) (p : Playing S) (es : List ScriptEvent) (a b : S) (rs : List Receipt) (t : List ℕ)
    → TellsAll lights mask p es a rs t b → TellsSome lights mask p es a rs t b
told_all_some lights mask p [] a b rs t h = h
told_all_some lights mask p (e ∷ es) a b rs t h = inr (h.0, h.1, h.2, h.3, h.4, h.5, told_all_some lights mask p es h.0 b h.2 h.4 h.6, h.7, h.8)

-- ---- what is told is played

pub told_plays : {S : Type 0} (lights : Bool) (mask : Mask) (p : Playing S) (es : List ScriptEvent) (a b : S) (rs : List Receipt) (t : List ℕ)
    → TellsAll lights mask p es a rs t b → PlaysAll p es a rs b
told_plays lights mask p [] a b rs t h = (h.0, h.1)
told_plays lights mask p (e ∷ es) a b rs t h = (h.0, h.1, h.2, h.5.0, told_plays lights mask p es h.0 b h.2 h.4 h.6, h.7)

-- an event that is played is played in part, where that is so of all
abbrev pub WholeIsPart : {S : Type 0} → Playing S → Type 0
WholeIsPart {S = S} p = (e : ScriptEvent) (a b : S) (rs : List Receipt) → p.whole e a rs b → p.part e a rs b

pub told_some_plays : {S : Type 0} (lights : Bool) (mask : Mask) (p : Playing S) → WholeIsPart p → (es : List ScriptEvent) (a b : S) (rs : List Receipt) (t : List ℕ)
    → TellsSome lights mask p es a rs t b → PlaysSome p es a rs b
told_some_plays lights mask p part [] a b rs t h = (h.0, h.1)
told_some_plays lights mask p part (e ∷ es) a b rs t (inl (inl h)) = inl (part e a b rs h.0)
told_some_plays lights mask p part (e ∷ es) a b rs t (inl (inr h)) = inl h.0
told_some_plays lights mask p part (e ∷ es) a b rs t (inr h) =
    inr (h.0, h.1, h.2, h.5.0, told_some_plays lights mask p part es h.0 b h.2 h.4 h.6, h.7)

no_light : (e : ScriptEvent) → light_behind false e ≡ []
no_light (events.Frames port count) = refl
no_light (events.Burst port at bytes) = refl
no_light (events.Command port command) = refl
no_light (events.Light unit lit) = refl

unlit_event : {S : Type 0} (mask : Mask) (p : Playing S) (e : ScriptEvent) (a b : S) (rs : List Receipt) (t : List ℕ) → TellsEvent false mask p e a rs t b → t ≡ trace_text mask rs
unlit_event mask p e a b rs t h = h.1 ∙ ap (λ (l : List ℕ). trace_text mask rs ++ l) (no_light e) ∙ append-nil (trace_text mask rs)

joined_texts : (mask : Mask) (first rest all : List Receipt) (said behind text : List ℕ) → said ≡ trace_text mask first → behind ≡ trace_text mask rest → all ≡ first ++ rest
    → text ≡ said ++ behind → text ≡ trace_text mask all
joined_texts mask first rest all said behind text p q is_all is_text =
    is_text ∙ ap (λ (l : List ℕ). l ++ behind) p ∙ ap (λ (l : List ℕ). trace_text mask first ++ l) q ∙ sym (flat_map-append (line_of mask) first rest)
    ∙ ap (λ (l : List Receipt). trace_text mask l) (sym is_all)

-- without lights the text is the trace
pub unlit_text : {S : Type 0} (mask : Mask) (p : Playing S) (es : List ScriptEvent) (a b : S) (rs : List Receipt) (t : List ℕ) → TellsAll false mask p es a rs t b
    → t ≡ trace_text mask rs
unlit_text mask p [] a b rs t h = h.2 ∙ ap (λ (l : List Receipt). trace_text mask l) (sym h.1)
unlit_text mask p (e ∷ es) a b rs t h =
    joined_texts mask h.1 h.2 rs h.3 h.4 t (unlit_event mask p e a h.0 h.1 h.3 h.5) (unlit_text mask p es h.0 b h.2 h.4 h.6) h.7 h.8

pub unlit_some : {S : Type 0} (mask : Mask) (p : Playing S) (es : List ScriptEvent) (a b : S) (rs : List Receipt) (t : List ℕ) → TellsSome false mask p es a rs t b
    → t ≡ trace_text mask rs
unlit_some mask p [] a b rs t h = h.2 ∙ ap (λ (l : List Receipt). trace_text mask l) (sym h.1)
unlit_some mask p (e ∷ es) a b rs t (inl (inl h)) = unlit_event mask p e a b rs t h
unlit_some mask p (e ∷ es) a b rs t (inl (inr h)) = h.1
unlit_some mask p (e ∷ es) a b rs t (inr h) =
    joined_texts mask h.1 h.2 rs h.3 h.4 t (unlit_event mask p e a h.0 h.1 h.3 h.5) (unlit_some mask p es h.0 b h.2 h.4 h.6) h.7 h.8

-- ---- the lights between

abbrev light_parts : ScriptEvent → List ToldPart
light_parts (events.Frames port count) = []
light_parts (events.Burst port at bytes) = []
light_parts (events.Command port command) = []
light_parts (events.Light unit lit) = LightLine unit lit ∷ []

light_parts_text : (mask : Mask) (e : ScriptEvent) → light_behind true e ≡ parts_text mask (light_parts e)
light_parts_text mask (events.Frames port count) = refl
light_parts_text mask (events.Burst port at bytes) = refl
light_parts_text mask (events.Command port command) = refl
light_parts_text mask (events.Light unit lit) = sym (append-nil (part_text mask (LightLine unit lit)))

light_parts_entries : (e : ScriptEvent) (parts : List ToldPart) → entries_of (light_parts e ++ parts) ≡ entries_of parts
light_parts_entries (events.Frames port count) parts = refl
light_parts_entries (events.Burst port at bytes) parts = refl
light_parts_entries (events.Command port command) parts = refl
light_parts_entries (events.Light unit lit) parts = refl

light_parts_lights : (e : ScriptEvent) (parts : List ToldPart) → lights_of (light_parts e ++ parts) ≡ light_of e ++ lights_of parts
light_parts_lights (events.Frames port count) parts = refl
light_parts_lights (events.Burst port at bytes) parts = refl
light_parts_lights (events.Command port command) parts = refl
light_parts_lights (events.Light unit lit) parts = refl

parts_joined : (mask : Mask) (xs ys : List ToldPart) → parts_text mask (xs ++ ys) ≡ parts_text mask xs ++ parts_text mask ys
parts_joined mask [] ys = refl
parts_joined mask (x ∷ xs) ys =
    ap (λ (l : List ℕ). part_text mask x ++ l) (parts_joined mask xs ys) ∙ sym (append_assoc (part_text mask x) (parts_text mask xs) (parts_text mask ys))

pub told_with_lights : {S : Type 0} (mask : Mask) (p : Playing S) (es : List ScriptEvent) (a b : S) (rs : List Receipt) (t : List ℕ) → TellsAll true mask p es a rs t b
    → IsTraceWithLights mask es rs t
told_with_lights mask p [] a b rs t h = record { parts = []; text_is = h.2; entries = sym h.1; lights = refl }
told_with_lights mask p (e ∷ es) a b rs t h =
    let rest = told_with_lights mask p es h.0 b h.2 h.4 h.6 in
    let behind = light_parts e ++ rest.parts in
    let said : h.3 ≡ trace_text mask h.1 ++ parts_text mask (light_parts e) = h.5.1 ∙ ap (λ (l : List ℕ). trace_text mask h.1 ++ l) (light_parts_text mask e) in
    record {
      parts = Entries h.1 ∷ behind;
      text_is = h.8 ∙ ap (λ (l : List ℕ). l ++ h.4) said ∙ append_assoc (trace_text mask h.1) (parts_text mask (light_parts e)) h.4
          ∙ ap (λ (l : List ℕ). trace_text mask h.1 ++ (parts_text mask (light_parts e) ++ l)) rest.text_is
          ∙ ap (λ (l : List ℕ). trace_text mask h.1 ++ l) (sym (parts_joined mask (light_parts e) rest.parts));
      entries = ap (λ (l : List Receipt). h.1 ++ l) (light_parts_entries e rest.parts ∙ rest.entries) ∙ sym h.7;
      lights = light_parts_lights e rest.parts ∙ ap (λ (l : List (ℕ × Bool)). light_of e ++ l) rest.lights;
    }
