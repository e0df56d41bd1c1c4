-- A frame of a run, put together from its parts, and runs of many frames.
use Rattle.std.proofs.Common.{◌≡◌, ℕ, zero, suc, ◌+◌, ◌-◌, ◌/◌, ◌<◌, ◌≤◌, List, [], ◌∷◌, ◌++◌, length, drop, Option, None, Some, refl, sym, ap, subst, ◌∙◌, arith, append_assoc}
use Rattle.std.specs.Prelude.{min, All, not}
use Rattle.std.proofs.lemmas.List.{append-nil, length-append, length-drop}
use Rattle.std.proofs.lemmas.List.FromFn.{length-map-range_with_len}
use Rattle.std.proofs.lemmas.List.Elements.{All-nil, All-cons, All-head, All-tail, All-append, All-weaker, All-filter, All-same}
use Rattle.gp_ranging.specs.declared.grant.Grant.{Grant}
use Rattle.gp_machine.specs.declared.entry.Entry.{Entry}
use Rattle.gp_machine.specs.declared.event.Event.TheVariants as event
use Rattle.gp_onu.specs.declared.limits.TheConstants.{FRAME_BIT_TIMES}
use Rattle.gp_fibre.specs.declared.fault.WorldFault.{WorldFault}
use Rattle.gp_fibre.specs.declared.flight.Flight.{Flight}
use Rattle.gp_fibre.specs.declared.sent_burst.SentBurst.{SentBurst}
use Rattle.gp_fibre.specs.declared.world_step.WorldStep.TheVariants as steps
use Rattle.gp_fibre.specs.World.{FibreUnit, FibreWorld, Forgotten}
use Rattle.gp_fibre.specs.Flights.{AreKept}
use Rattle.gp_fibre.specs.Forgetting.{first_to_come}
use Rattle.gp_fibre.specs.Step.{FibreInput, Whole, PortTakes, world_after_frame}
use Rattle.gp_fibre.specs.Parts.{Asks, Comes, PortPuts, UnitsTake}
use Rattle.gp_fibre.specs.Schedule.{WorldState, FrameRuns, FramesRun, PutsFrame, IsRunFault, StopsShort, arrivals, flights_of, flights_after, inputs_of_copy, inputs_of_grant, is_due}
use Rattle.gp_fibre.proofs.Parts.{takes_both}

-- ---- what a port asks

few_grants : (grant units : ℕ) (issued : Option Grant) → length (inputs_of_grant grant units issued) ≤ units
few_grants grant units None = omega arith
few_grants grant units (Some g) = let many = length-map-range_with_len (λ unit. Whole (steps.Give grant unit)) 0 units in omega arith

pub asked : (lost : List ℕ) (old sent mid new : FibreWorld) (copy grant : ℕ) (entry : Entry) (before after : List Entry) → PortTakes old event.Frame entry sent → copy ≡ length old.copies
    → grant ≡ length old.grants
    → UnitsTake sent (inputs_of_copy lost copy (length sent.units) entry.answer.sent) mid → UnitsTake mid (inputs_of_grant grant (length mid.units) entry.answer.grant) new
    → mid.bursts ≡ sent.bursts → after ≡ before ++ entry ∷ [] → Asks lost old before after new
asked lost old sent mid new copy grant entry before after port is_copy is_grant first second silent is =
    let units : length sent.units ≡ length old.units = ap (λ (us : List FibreUnit). length us) port.units in
    let copied : inputs_of_copy lost copy (length sent.units) entry.answer.sent ≡ inputs_of_copy lost (length old.copies) (length old.units) entry.answer.sent =
    ap (λ (n : ℕ). inputs_of_copy lost n (length sent.units) entry.answer.sent) is_copy ∙ ap (λ (n : ℕ). inputs_of_copy lost (length old.copies) n entry.answer.sent) units in
    let granted : inputs_of_grant grant (length mid.units) entry.answer.grant ≡ inputs_of_grant (length old.grants) (length old.units) entry.answer.grant =
    ap (λ (n : ℕ). inputs_of_grant n (length mid.units) entry.answer.grant) is_grant ∙ ap (λ (n : ℕ). inputs_of_grant (length old.grants) n entry.answer.grant) (first.many ∙ units) in
    record {
      entry = entry;
      sent = sent;
      port = port;
      reaches = takes_both sent mid new (inputs_of_copy lost (length old.copies) (length old.units) entry.answer.sent) (inputs_of_grant (length old.grants) (length old.units) entry.answer.grant)
          (subst (λ (is : List FibreInput). UnitsTake sent is mid) copied first) (subst (λ (is : List FibreInput). UnitsTake mid is new) granted second);
      most =
          let same : length mid.bursts ≡ length old.bursts = ap (λ (bs : List SentBurst). length bs) (silent ∙ port.bursts) in
          let few = few_grants grant (length mid.units) entry.answer.grant in
          let many = first.many in
          let most = second.most in
          omega arith;
      after_is = is;
    }

pub asks_bursts : (lost : List ℕ) (old : FibreWorld) (before after : List Entry) (new : FibreWorld) → Asks lost old before after new
    → (length old.bursts ≤ length new.bursts) × (length new.bursts ≤ length old.bursts + length old.units)
asks_bursts lost old before after new asks =
    let same : length asks.sent.bursts ≡ length old.bursts = ap (λ (bs : List SentBurst). length bs) asks.port.bursts in
    let least = asks.reaches.more in
    (omega arith, asks.most)

-- ---- bursts that will come

length-flights_of : (frame number : ℕ) (bs : List SentBurst) → length (flights_of frame number bs) ≡ length bs
length-flights_of frame number [] = refl
length-flights_of frame number (b ∷ bs) = ap suc (length-flights_of frame (number + 1) bs)

pub answered_length : (frame from : ℕ) (flights after : List Flight) (bs : List SentBurst) → after ≡ flights ++ flights_of frame from (drop from bs)
    → length after ≡ length flights + (length bs - from)
answered_length frame from flights after bs is =
    ap (λ (fs : List Flight). length fs) is
    ∙ length-append flights (flights_of frame from (drop from bs))
    ∙ ap (λ (n : ℕ). length flights + n) (length-flights_of frame from (drop from bs) ∙ length-drop from bs)

abbrev pub AreBetween : ℕ → ℕ → List Flight → Type 0
AreBetween low bound flights = All (λ (f : Flight). (low ≤ f.number) × (f.number < bound)) flights

numbers_of : (frame from low bound : ℕ) (bs : List SentBurst) → low ≤ from → from + length bs ≤ bound → AreBetween low bound (flights_of frame from bs)
numbers_of frame from low bound [] first last = All-nil (λ (f : Flight). (low ≤ f.number) × (f.number < bound))
numbers_of frame from low bound (b ∷ bs) first last =
    All-cons (λ (f : Flight). (low ≤ f.number) × (f.number < bound)) (record { number = from; due = frame + b.at / FRAME_BIT_TIMES }) (flights_of frame (from + 1) bs)
    (first, omega arith) (numbers_of frame (from + 1) low bound bs (omega arith) (omega arith))

-- those that were kept, and those that were answered since
pub answered_kept : (frame : ℕ) (old new : FibreWorld) (flights after : List Flight) → AreKept old flights → new.forgotten ≡ old.forgotten → length old.bursts ≤ length new.bursts
    → Comes frame old flights new after → AreKept new after
answered_kept frame old new flights after kept same more is =
    let from = length old.bursts in
    let low = new.forgotten.bursts in
    let bound = length new.bursts in
    let first : low ≡ old.forgotten.bursts = ap (λ (f : Forgotten). f.bursts) same in
    let within = kept.within in
    let long = length-drop from new.bursts in
    record {
      within = omega arith;
      each = All-same (λ (f : Flight). (low ≤ f.number) × (f.number < bound)) after (flights ++ flights_of frame from (drop from new.bursts)) is
          (All-append (λ (f : Flight). (low ≤ f.number) × (f.number < bound)) flights (flights_of frame from (drop from new.bursts))
          (All-weaker (λ (f : Flight). (old.forgotten.bursts ≤ f.number) × (f.number < from)) (λ (f : Flight). (low ≤ f.number) × (f.number < bound))
          (λ f h. let a = h.0 in let b = h.1 in (omega arith, omega arith)) flights kept.each)
          (numbers_of frame from low bound (drop from new.bursts) (omega arith) (omega arith)));
    }

-- those that are left, in a world with the same bursts
pub left_kept : (frame : ℕ) (old new : FibreWorld) (flights after : List Flight) → AreKept old flights → new.forgotten ≡ old.forgotten → new.bursts ≡ old.bursts → after ≡ flights_after frame flights
    → AreKept new after
left_kept frame old new flights after kept same bursts is =
    let low = old.forgotten.bursts in
    let bound = length old.bursts in
    let first : new.forgotten.bursts ≡ low = ap (λ (f : Forgotten). f.bursts) same in
    let last : length new.bursts ≡ bound = ap (λ (bs : List SentBurst). length bs) bursts in
    let within = kept.within in
    record {
      within = omega arith;
      each = All-same (λ (f : Flight). (new.forgotten.bursts ≤ f.number) × (f.number < length new.bursts)) after (flights_after frame flights) is
          (All-weaker (λ (f : Flight). (low ≤ f.number) × (f.number < bound)) (λ (f : Flight). (new.forgotten.bursts ≤ f.number) × (f.number < length new.bursts))
          (λ f h. let a = h.0 in let b = h.1 in (omega arith, omega arith)) (flights_after frame flights)
          (All-filter (λ f. not (is_due frame f)) (λ (f : Flight). (low ≤ f.number) × (f.number < bound)) flights kept.each));
    }

-- none leaves, in a world with as many bursts or more
pub still_kept : (old new : FibreWorld) (flights : List Flight) → AreKept old flights → new.forgotten ≡ old.forgotten → length old.bursts ≤ length new.bursts → AreKept new flights
still_kept old new flights kept same more =
    let first : new.forgotten.bursts ≡ old.forgotten.bursts = ap (λ (f : Forgotten). f.bursts) same in
    let within = kept.within in
    record {
      within = omega arith;
      each = All-weaker (λ (f : Flight). (old.forgotten.bursts ≤ f.number) × (f.number < length old.bursts)) (λ (f : Flight). (new.forgotten.bursts ≤ f.number) × (f.number < length new.bursts))
          (λ f h. let a = h.0 in let b = h.1 in (omega arith, omega arith)) flights kept.each;
    }

-- ---- the first that is still to come

pub first_at_most : (first : ℕ) (flights : List Flight) → first_to_come first flights ≤ first
first_at_most first [] = omega arith
first_at_most first (f ∷ fs) = let rest = first_at_most (min first f.number) fs in omega arith

pub first_at_least : (low bound first : ℕ) (flights : List Flight) → low ≤ first → AreBetween low bound flights → low ≤ first_to_come first flights
first_at_least low bound first [] above all = above
first_at_least low bound first (f ∷ fs) above all =
    let P : Flight → Type 0 = λ x. (low ≤ x.number) × (x.number < bound) in
    let here = All-head P f fs all in
    let one = here.0 in
    first_at_least low bound (min first f.number) fs (omega arith) (All-tail P f fs all)

pub first_of_all : (first : ℕ) (flights : List Flight) → All (λ (f : Flight). first_to_come first flights ≤ f.number) flights
first_of_all first [] = All-nil (λ (f : Flight). first ≤ f.number)
first_of_all first (f ∷ fs) =
    let least = first_to_come (min first f.number) fs in
    let below = first_at_most (min first f.number) fs in
    All-cons (λ (x : Flight). least ≤ x.number) f fs (omega arith) (first_of_all (min first f.number) fs)

-- those that are still to come are kept where all before the first of them are forgotten, or fewer
pub still_to_come : (old new : FibreWorld) (flights : List Flight) → AreKept old flights → length new.bursts ≡ length old.bursts
    → new.forgotten.bursts ≤ first_to_come (length old.bursts) flights → AreKept new flights
still_to_come old new flights kept many few =
    let bound = length old.bursts in
    let low = new.forgotten.bursts in
    let first = first_at_most bound flights in
    record {
      within = omega arith;
      each = λ k d at.
          let least = first_of_all bound flights k d at in
          let was = kept.each k d at in
          let high = was.1 in
          (omega arith, omega arith);
    }

-- ---- a frame

pub played : (lost_copies lost_bursts : List ℕ) (old new : WorldState) (before mid after : List Entry) (answered arrived : FibreWorld) (flights : List Flight)
    → Asks lost_copies old.fibre before mid answered
    → flights ≡ old.flights ++ flights_of old.frames (length old.fibre.bursts) (drop (length old.fibre.bursts) answered.bursts)
    → PortPuts answered (arrivals lost_bursts old.frames flights) mid after arrived
    → new.fibre ≡ world_after_frame arrived → new.licences ≡ old.licences → new.frames ≡ old.frames + 1 → new.flights ≡ flights_after old.frames flights
    → PutsFrame lost_copies lost_bursts old before after new
played lost_copies lost_bursts old new before mid after answered arrived flights asks in_flight puts ends licences frames left =
    record {
      more = asks.entry ∷ puts.more;
      runs = record {
        entry = asks.entry;
        more = puts.more;
        sent = asks.sent;
        answered = answered;
        arrived = arrived;
        port = (asks.entry, refl, asks.port);
        reaches = asks.reaches.run;
        flights = flights;
        in_flight = in_flight;
        arrives = puts.run;
        entries_are = refl;
        ends = ends;
        licences = licences;
        frames = frames;
        left = left;
      };
      after_is = puts.after_is ∙ ap (λ (es : List Entry). es ++ puts.more) asks.after_is ∙ append_assoc before (asks.entry ∷ []) puts.more;
    }

-- ---- many frames

frames_push : (lc lb : List ℕ) (count : ℕ) (a b c : WorldState) (es more : List Entry) → FramesRun lc lb count a es b → FrameRuns lc lb b more c → FramesRun lc lb (suc count) a (es ++ more) c
frames_push lc lb zero a b c es more run frame =
    let none : es ≡ [] = run.1 in
    subst (λ (xs : List Entry). FramesRun lc lb 1 a (xs ++ more) c) (sym none)
    (c, more, [], subst (λ (w : WorldState). FrameRuns lc lb w more c) run.0 frame, (refl, refl), sym (append-nil more))
frames_push lc lb (suc count) a b c es more run frame = (
  run.0,
  run.1,
  run.2 ++ more,
  run.3,
  frames_push lc lb count run.0 b c run.2 more run.4 frame,
  ap (λ (xs : List Entry). xs ++ more) run.5 ∙ append_assoc run.1 run.2 more,
)

pub frames_more : (lc lb : List ℕ) (count : ℕ) (a b c : WorldState) (before after : List Entry) → FramesRun lc lb count a before b → PutsFrame lc lb b before after c
    → FramesRun lc lb (count + 1) a after c
frames_more lc lb count a b c before after run puts =
    let next : suc count ≡ count + 1 = omega arith in
    subst (λ (n : ℕ). FramesRun lc lb n a after c) next
    (subst (λ (xs : List Entry). FramesRun lc lb (suc count) a xs c) (sym puts.after_is) (frames_push lc lb count a b c before puts.more run puts.runs))

pub stops : (lc lb : List ℕ) (frames count : ℕ) (a b c : WorldState) (entries : List Entry) (fault : WorldFault) → count < frames → FramesRun lc lb count a entries b → c ≡ b → IsRunFault b fault
    → StopsShort lc lb frames a fault c
stops lc lb frames count a b c entries fault fewer run same why =
    record {
      count = count;
      entries = entries;
      fewer = fewer;
      run = subst (λ (w : WorldState). FramesRun lc lb count a entries w) (sym same) run;
      why = subst (λ (w : WorldState). IsRunFault w fault) (sym same) why;
    }
