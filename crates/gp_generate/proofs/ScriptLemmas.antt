-- A script that is handed over part by part.
use Rattle.std.proofs.Common.{◌≡◌, ◌||◌, Bool, ℕ, ◌+◌, suc, List, [], ◌++◌, Result, Ok, Err, IsErrAnd, refl, sym, subst, ap, ◌∙◌, add-one}
use Rattle.std.proofs.lemmas.List.{append-nil}
use Rattle.std.proofs.Math.Bool.{or-false}
use Rattle.gp_stream.specs.Sink.{SinkState, Takes, TakesPrefix}
use Rattle.gp_stream.proofs.SinkLemmas.{takes_more, takes_prefix_after}
use Rattle.gp_generate.specs.declared.event.Event.{Event}
use Rattle.gp_generate.specs.declared.mistake.Mistake.{Mistake}
use Rattle.gp_generate.specs.declared.plan.Wish.{Wish}
use Rattle.gp_generate.specs.declared.scene.Scene.{Scene}
use Rattle.gp_generate.specs.declared.step.Order.{Order}
use Rattle.gp_generate.specs.declared.step.Words.{Words}
use Rattle.gp_generate.specs.Course.{CourseState, course_behind, course_next, event_next}
use Rattle.gp_generate.specs.declared.generating.GenerateFault.{GenerateFault}
use Rattle.gp_generate.specs.Script.{HandsOver, StopsBy, is_write, event_at, events_text, told}

-- an error whose prefix was handed over
pub stops : {W T F : Type 0} (Q : F → Type 0) (a c : SinkState W) (text : List ℕ) (r : Result T F) → IsErrAnd r Q → TakesPrefix a c text
    → HandsOver a c text r
stops Q a c text (Ok x) is p = absurd is
stops Q a c text (Err e) is p = record { ok = tt; error = p }

-- how one part behind another leaves the sink
pub stops_more : {W T F : Type 0} (a b c : SinkState W) (x : T) (r : Result F GenerateFault) → StopsBy a b (Ok x) → StopsBy b c r → StopsBy a c r
stops_more a b c x r p q =
    let same = p.stopped ∙ or-false a.stopped in
    record {
      stopped = q.stopped ∙ ap (λ (s : Bool). s || is_write r) same;
      refused = λ is. q.refused (same ∙ is) ∙ p.refused is;
      flushed = λ is. q.flushed (p.flushed is);
    }

-- and where that part ends in an error, which is told on
pub stops_out : {W T F G : Type 0} (a b c : SinkState W) (x : T) (e : GenerateFault) (r : Result F GenerateFault) → StopsBy a b (Ok x) → StopsBy {T = G} b c (Err e)
    → IsErrAnd r (λ f. f ≡ e) → StopsBy a c r
stops_out a b c x e (Ok y) p q told = absurd told
stops_out {F = F} a b c x e (Err f) p q told =
    stops_more a b c x (Err f) p (subst (λ (y : GenerateFault). StopsBy {T = F} b c (Err y)) (sym told) (record { stopped = q.stopped; refused = q.refused; flushed = λ is. tt }))

-- nothing was handed over
pub stops_none : {W : Type 0} (a : SinkState W) → StopsBy {T = Unit {0}} a a (Ok (tt {0}))
stops_none a = record { stopped = sym (or-false a.stopped); refused = λ is. refl; flushed = λ is. is }

-- one part behind another
pub hands_more : {W T F : Type 0} (a b c : SinkState W) (xs ys : List ℕ) (r : Result T F) → Takes a b xs → HandsOver b c ys r
    → HandsOver a c (xs ++ ys) r
hands_more a b c xs ys (Ok x) p q = record { ok = takes_more a b c xs ys p q.ok; error = tt }
hands_more a b c xs ys (Err e) p q = record { ok = tt; error = takes_prefix_after a b c xs ys p q.error }

-- a text, and a prefix of nothing more
pub prefix_of_whole : {W : Type 0} (a b c : SinkState W) (xs : List ℕ) → Takes a b xs → TakesPrefix b c [] → TakesPrefix a c xs
prefix_of_whole a b c xs p q =
    subst (λ (l : List ℕ). TakesPrefix a c l) (append-nil xs) (takes_prefix_after a b c xs [] p q)

-- one event more
pub events_step : (mistakes : List Mistake) (scenes : List Scene) (sayings : List Words) (orders : List Order) (plan : Wish) (number : ℕ)
    → events_text mistakes scenes sayings orders plan (suc number)
    ≡ events_text mistakes scenes sayings orders plan number ++ told mistakes plan number (event_at scenes sayings orders plan number)
unfolding events_text
events_step mistakes scenes sayings orders plan number = refl

-- the course behind it
pub course_more : (scenes : List Scene) (plan : Wish) (number : ℕ) (course next : CourseState) → course ≡ course_behind scenes plan number
    → next ≡ course_next scenes plan course → next ≡ course_behind scenes plan (number + 1)
unfolding course_behind
course_more scenes plan number course next is then =
    then ∙ ap (λ (c : CourseState). course_next scenes plan c) is ∙ sym (ap (λ (n : ℕ). course_behind scenes plan n) (add-one number))

-- the event there
pub event_there : (scenes : List Scene) (sayings : List Words) (orders : List Order) (plan : Wish) (number : ℕ) (course : CourseState) (event : Event)
    → course ≡ course_behind scenes plan number → event ≡ event_next scenes sayings orders plan course
    → event ≡ event_at scenes sayings orders plan number
unfolding event_at
event_there scenes sayings orders plan number course event is then =
    then ∙ ap (λ (c : CourseState). event_next scenes sayings orders plan c) is
