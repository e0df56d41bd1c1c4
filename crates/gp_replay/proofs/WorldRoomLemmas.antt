-- How many frames and other events a fibre can still take, after some that it took.
use Rattle.std.proofs.Common.{◌≡◌, ℕ, zero, suc, ◌+◌, ◌*◌, ◌-◌, ◌<◌, ◌≤◌, ◌^◌, Bool, true, false, List, [], ◌∷◌, ◌++◌, length, drop, Option, None, Some, cond, inl, inr, refl, ap, subst, ◌∙◌, arith}
use Rattle.std.specs.Prelude.{◌&&◌, not, if◌then◌else◌}
use Rattle.std.specs.List.{filter}
use Rattle.std.specs.Option.{option_to_list}
use Rattle.std.proofs.Math.Nat.{suc-mul}
use Rattle.std.proofs.lemmas.List.{length-set, length-append, length-drop, length-map}
use Rattle.std.proofs.lemmas.List.FromFn.{length-map-range_with_len}
use Rattle.std.proofs.lemmas.List.Filters.{length-filter_both}
use Rattle.gp_ploam.specs.declared.message.Down.{Down}
use Rattle.gp_ranging.specs.declared.grant.Grant.{Grant}
use Rattle.gp_machine.specs.declared.entry.Entry.{Entry}
use Rattle.gp_machine.specs.declared.entry.Receipt.{Receipt}
use Rattle.gp_fibre.specs.declared.flight.Flight.{Flight}
use Rattle.gp_fibre.specs.declared.fault.WorldFault.{WorldFault}
use Rattle.gp_fibre.specs.declared.fault.WorldFault.TheVariants.{OutOfMemory}
use Rattle.gp_fibre.specs.declared.sent_burst.SentBurst.{SentBurst}
use Rattle.gp_fibre.specs.declared.world_step.WorldStep.{WorldStep}
use Rattle.gp_fibre.specs.declared.world_step.WorldStep.TheVariants as steps
use Rattle.gp_fibre.specs.World.{FibreUnit, FibreWorld}
use Rattle.gp_fibre.specs.Forgetting.{WorldForgets}
use Rattle.gp_fibre.proofs.Remembering.{world_forgets_none}
use Rattle.gp_fibre.specs.Step.{FibreInput, Whole, PortPart, UnitsPart, FibreStep, UnitChanges, unit_granted, burst_answered}
use Rattle.gp_fibre.specs.Run.{FibreRun}
use Rattle.gp_fibre.specs.Schedule.{WorldState, FrameRuns, FramesRun, StopsShort, arrivals, deliveries, grants_given, inputs_of_copy, inputs_of_grant, is_due, is_lost, flights_after, flights_of}
use Rattle.gp_script.specs.declared.script.ScriptEvent.{ScriptEvent}
use Rattle.gp_script.specs.declared.script.ScriptEvent.TheVariants as events
use Rattle.gp_script.specs.Lose.{LossesView}
use Rattle.gp_replay.specs.WorldPlay.{TakesStep, WorldTakes}
use Rattle.gp_replay.specs.Playing.{count_of}
use Rattle.gp_replay.specs.WorldWriting.{FibrePlay, HasFibreRoom, Numbered, max_entries_each}

length-flights_of : (frame number : ℕ) (bs : List SentBurst) → length (flights_of frame number bs) ≡ length bs
length-flights_of frame number [] = refl
length-flights_of frame number (b ∷ bs) = ap suc (length-flights_of frame (number + 1) bs)

-- how many bursts are in flight after a frame's answers
launched_length : (frame from : ℕ) (flights after : List Flight) (bs : List SentBurst) → after ≡ flights ++ flights_of frame from (drop from bs)
    → length after ≡ length flights + (length bs - from)
launched_length frame from flights after bs is =
    ap (λ (fs : List Flight). length fs) is
    ∙ length-append flights (flights_of frame from (drop from bs))
    ∙ ap (λ (n : ℕ). length flights + n) (length-flights_of frame from (drop from bs) ∙ length-drop from bs)

-- ---- a step

-- a step gives an entry at most, and a burst more at most; the units are as many as before
record Bounds (old new : FibreWorld) (entries inputs : ℕ) : Type 0 where
  entries_few : entries ≤ inputs
  bursts_few : length new.bursts ≤ length old.bursts + inputs
  units_same : length new.units ≡ length old.units

one_at_most : {A : Type 0} (o : Option A) → length (option_to_list o) ≤ 1
one_at_most None = omega arith
one_at_most (Some x) = omega arith

changes_one : (w v : FibreWorld) (place : ℕ) (change : FibreUnit → FibreUnit) (g : Option Entry) → UnitChanges w place change v → Bounds w v (length (option_to_list g)) 1
changes_one w v place change g c = record {
  entries_few = one_at_most g;
  bursts_few = let same : length v.bursts ≡ length w.bursts = ap (λ (x : FibreWorld). length x.bursts) c.rest in omega arith;
  units_same = ap (λ (us : List FibreUnit). length us) c.units.after ∙ length-set w.units place (change c.units.unit);
}

port_one : (w v : FibreWorld) (g : Option Entry) → v.bursts ≡ w.bursts → length v.units ≡ length w.units → Bounds w v (length (option_to_list g)) 1
port_one w v g bursts units = record {
  entries_few = one_at_most g;
  bursts_few = let same : length v.bursts ≡ length w.bursts = ap (λ (bs : List SentBurst). length bs) bursts in omega arith;
  units_same = units;
}

step_bounds : (w : FibreWorld) (i : FibreInput) (g : Option Entry) (v : FibreWorld) → FibreStep w i g v → Bounds w v (length (option_to_list g)) 1
step_bounds w (Whole steps.Frame) g v s =
    port_one w v g (ap (λ (x : FibreWorld). x.bursts) s.4 ∙ s.3.bursts)
    (ap (λ (x : FibreWorld). length x.units) s.4 ∙ length-map s.1.units _ ∙ ap (λ (us : List FibreUnit). length us) s.3.units)
step_bounds w (Whole (steps.Command c)) g v s = port_one w v g s.2.bursts (ap (λ (us : List FibreUnit). length us) s.2.units)
step_bounds w (Whole (steps.Deliver copy place)) g v s = changes_one w v place _ g s.3
step_bounds w (Whole (steps.Give grant place)) g v s =
    let asked : Grant = s.0 in
    let o = burst_answered asked s.3.units.unit in
    let few = one_at_most o in
    let many : length v.bursts ≡ length w.bursts + length (option_to_list o) = ap (λ (bs : List SentBurst). length bs) s.3.answer ∙ length-append w.bursts (option_to_list o) in
    record {
      entries_few = one_at_most g;
      bursts_few = omega arith;
      units_same = ap (λ (us : List FibreUnit). length us) s.3.units.after ∙ length-set w.units place (unit_granted asked s.3.units.unit);
    }
step_bounds w (Whole (steps.Arrive burst)) g v s = port_one w v g s.4.bursts (ap (λ (us : List FibreUnit). length us) s.4.units)
step_bounds w (Whole (steps.Bytes at bytes)) g v s = port_one w v g s.2.bursts (ap (λ (us : List FibreUnit). length us) s.2.units)
step_bounds w (Whole (steps.Light place)) g v s = changes_one w v place _ g s.1
step_bounds w (Whole (steps.Dark place)) g v s = changes_one w v place _ g s.1
step_bounds w PortPart g v s = port_one w v g s.2.bursts (ap (λ (us : List FibreUnit). length us) s.2.units)
step_bounds w UnitsPart g v s =
    port_one w v g (ap (λ (x : FibreWorld). x.bursts) s.1) (ap (λ (x : FibreWorld). length x.units) s.1 ∙ length-map w.units _)

run_bounds : (w : FibreWorld) (is : List FibreInput) (es : List Entry) (v : FibreWorld) → FibreRun w is es v → Bounds w v (length es) (length is)
run_bounds w [] es v r =
    let bursts : length v.bursts ≡ length w.bursts = ap (λ (x : FibreWorld). length x.bursts) r.0 in
    let none : length es ≡ 0 = ap (λ (l : List Entry). length l) r.1 in
    record { entries_few = omega arith; bursts_few = omega arith; units_same = ap (λ (x : FibreWorld). length x.units) r.0 }
run_bounds w (i ∷ is) es v r =
    let first = step_bounds w i r.1 r.0 r.3 in
    let rest = run_bounds r.0 is r.2 v r.4 in
    let many : length es ≡ length (option_to_list r.1) + length r.2 = ap (λ (l : List Entry). length l) r.5 ∙ length-append (option_to_list r.1) r.2 in
    let a = first.entries_few in
    let b = rest.entries_few in
    let c = first.bursts_few in
    let d = rest.bursts_few in
    record { entries_few = omega arith; bursts_few = omega arith; units_same = rest.units_same ∙ first.units_same }

-- ---- a frame of a run

many_deliveries : (copy units : ℕ) → length (deliveries copy units) ≡ units
many_deliveries copy units = length-map-range_with_len (λ unit. Whole (steps.Deliver copy unit)) 0 units

few_unless : (lost : Bool) (copy units : ℕ) → length (if lost then [] else deliveries copy units) ≤ units
few_unless true copy units = omega arith
few_unless false copy units = omega (arith, many_deliveries copy units)

few_of_copy : (lost : List ℕ) (copy units : ℕ) (sent : Option Down) → length (inputs_of_copy lost copy units sent) ≤ units
few_of_copy lost copy units None = omega arith
few_of_copy lost copy units (Some m) = few_unless (is_lost lost copy) copy units

few_of_grant : (grant units : ℕ) (issued : Option Grant) → length (inputs_of_grant grant units issued) ≤ units
few_of_grant grant units None = omega arith
few_of_grant grant units (Some g) =
    let many : length (grants_given grant units) ≡ units = length-map-range_with_len (λ unit. Whole (steps.Give grant unit)) 0 units in
    omega (arith, many)

-- what passes two tests passes the first
fewer : (p q : Flight → Bool) (fs : List Flight) → length (filter (λ f. p f && q f) fs) ≤ length (filter p fs)
fewer p q [] = omega arith
fewer p q (f ∷ fs) = one_more (p f) (q f) (filter (λ f. p f && q f) fs) (filter p fs) (fewer p q fs)
  where
    one_more : (a b : Bool) (few many : List Flight) → length few ≤ length many → length (cond (a && b) (f ∷ few) few) ≤ length (cond a (f ∷ many) many)
    one_more true true few many h = omega (arith, h)
    one_more true false few many h = omega (arith, h)
    one_more false b few many h = h

-- each burst comes or is still to come, and not both
come_or_stay : (lost : List ℕ) (frame : ℕ) (flights : List Flight) → length (arrivals lost frame flights) + length (flights_after frame flights) ≤ length flights
come_or_stay lost frame flights =
    let come : length (arrivals lost frame flights) ≡ length (filter (λ f. is_due frame f && not (is_lost lost f.number)) flights) = length-map (filter (λ f. is_due frame f && not (is_lost lost f.number)) flights) _ in
    let few = fewer (λ f. is_due frame f) (λ f. not (is_lost lost f.number)) flights in
    let both = length-filter_both (λ f. is_due frame f) (λ f. not (is_due frame f)) (λ f. refl) flights in
    omega (arith, come, few, both)

-- so many frames, of so many units: the entries and the bursts that are still to come
record FewComes (old new : WorldState) (entries count : ℕ) : Type 0 where
  entries_few : entries + length new.flights ≤ length old.flights + count * (1 + 2 * length old.fibre.units)
  units_same : length new.fibre.units ≡ length old.fibre.units
  frames : new.frames ≤ old.frames + count

frame_comes : (lc lb : List ℕ) (old new : WorldState) (entries : List Entry) → FrameRuns lc lb old entries new → FewComes old new (length entries) 1
frame_comes lc lb old new entries f =
    let units = length old.fibre.units in
    let copied = inputs_of_copy lc (length old.fibre.copies) units f.entry.answer.sent in
    let granted = inputs_of_grant (length old.fibre.grants) units f.entry.answer.grant in
    let a = few_of_copy lc (length old.fibre.copies) units f.entry.answer.sent in
    let b = few_of_grant (length old.fibre.grants) units f.entry.answer.grant in
    let both : length (copied ++ granted) ≡ length copied + length granted = length-append copied granted in
    let port = step_bounds old.fibre PortPart (Some f.entry) f.sent f.port in
    let same_bursts : length f.sent.bursts ≡ length old.fibre.bursts = ap (λ (bs : List SentBurst). length bs) f.port.2.bursts in
    let asks = run_bounds f.sent (copied ++ granted) [] f.answered f.reaches in
    let bursts = asks.bursts_few in
    let launched : length f.flights ≡ length old.flights + (length f.answered.bursts - length old.fibre.bursts) =
    launched_length old.frames (length old.fibre.bursts) old.flights f.flights f.answered.bursts f.in_flight in
    let come = run_bounds f.answered (arrivals lb old.frames f.flights) f.more f.arrived f.arrives in
    let more = come.entries_few in
    let each = come_or_stay lb old.frames f.flights in
    let left : length new.flights ≡ length (flights_after old.frames f.flights) = ap (λ (fs : List Flight). length fs) f.left in
    let many : length entries ≡ suc (length f.more) = ap (λ (l : List Entry). length l) f.entries_are in
    record {
      entries_few = omega arith;
      units_same = ap (λ (x : FibreWorld). length x.units) f.ends ∙ length-map f.arrived.units _ ∙ come.units_same ∙ asks.units_same ∙ port.units_same;
      frames = let e = f.frames in omega arith;
    }

frames_come : (lc lb : List ℕ) (count : ℕ) (old new : WorldState) (entries : List Entry) → FramesRun lc lb count old entries new → FewComes old new (length entries) count
frames_come lc lb zero old new entries run =
    let flights : length new.flights ≡ length old.flights = ap (λ (w : WorldState). length w.flights) run.0 in
    let none : length entries ≡ 0 = ap (λ (l : List Entry). length l) run.1 in
    let frames : new.frames ≡ old.frames = ap (λ (w : WorldState). w.frames) run.0 in
    record { entries_few = omega arith; units_same = ap (λ (w : WorldState). length w.fibre.units) run.0; frames = omega arith }
frames_come lc lb (suc count) old new entries run =
    let first = frame_comes lc lb old run.0 run.1 run.3 in
    let rest = frames_come lc lb count run.0 new run.2 run.4 in
    let many : length entries ≡ length run.1 + length run.2 = ap (λ (l : List Entry). length l) run.5 ∙ length-append run.1 run.2 in
    let a = first.entries_few in
    let b : length run.2 + length new.flights ≤ length run.0.flights + count * (1 + 2 * length old.fibre.units) =
    subst (λ (n : ℕ). length run.2 + length new.flights ≤ length run.0.flights + count * (1 + 2 * n)) first.units_same rest.entries_few in
    let c = first.frames in
    let d = rest.frames in
    let unit = 1 + 2 * length old.fibre.units in
    let product = suc-mul count unit in
    record { entries_few = omega arith; units_same = rest.units_same ∙ first.units_same; frames = omega arith }

-- also where something is forgotten then
few_forget : (old after new : WorldState) (entries count : ℕ) → FewComes old after entries count → WorldForgets after new → FewComes old new entries count
few_forget old after new entries count come f =
    let flights : length new.flights ≡ length after.flights = ap (λ (fs : List Flight). length fs) f.flights in
    let few = come.entries_few in
    let made = come.frames in
    let same : new.frames ≡ after.frames = f.frames in
    record {
      entries_few = omega arith;
      units_same = ap (λ (us : List FibreUnit). length us) f.fibre.units ∙ come.units_same;
      frames = omega arith;
    }

-- ---- room

pub frames_limit : (lc lb : List ℕ) (count : ℕ) (old : FibrePlay) (fault : WorldFault) (new : WorldState) → HasFibreRoom count old → StopsShort lc lb count old.world fault new → fault ≡ OutOfMemory
frames_limit lc lb count old fault new room stops = elim stops.why [
  | inl memory ↦ memory
  | inr (limit, full) ↦
      let made = (frames_come lc lb stops.count old.world new stops.entries stops.run).frames in
      let fewer = stops.fewer in
      let within = room.frames in
      absurd (omega arith)
]

-- the product grows with a factor
at_most : (n a b : ℕ) → a ≤ b → n * a ≤ b * n
at_most zero a b h = omega arith
at_most (suc n) a b h = let rest = at_most n a b h in let product = suc-mul n a in omega arith

-- the entries of so many frames can be numbered
pub entries_fit : (lc lb : List ℕ) (count next : ℕ) (old : FibrePlay) (new : WorldState) (entries : List Entry) → next ≡ old.next → HasFibreRoom count old → FramesRun lc lb count old.world entries new
    → next + length entries < 2 ^ 64
entries_fit lc lb count next old new entries same room run =
    let come = (frames_come lc lb count old.world new entries run).entries_few in
    let a = room.numbers in
    let c = room.few in
    let units = length old.world.fibre.units in
    let each : count * (1 + 2 * units) ≤ max_entries_each * count = at_most count (1 + 2 * units) max_entries_each (omega arith) in
    omega arith

-- there is room for fewer, too
pub room_for_fewer : (few many : ℕ) (play : FibrePlay) → few ≤ many → HasFibreRoom many play → HasFibreRoom few play
room_for_fewer few many play le room =
    let a = room.frames in
    let b = room.numbers in
    record { frames = omega arith; numbers = omega arith; few = room.few }

-- what comes of so many frames takes their room
room_after : (count many rest : ℕ) (old new : FibrePlay) (entries : ℕ) → FewComes old.world new.world entries count → new.next ≡ old.next + entries → count + rest ≤ many
    → HasFibreRoom many old → HasFibreRoom rest new
room_after count many rest old new entries come next le room =
    let a = room.frames in
    let b = room.numbers in
    let c = room.few in
    let units = length old.world.fibre.units in
    let each : count * (1 + 2 * units) ≤ max_entries_each * count = at_most count (1 + 2 * units) max_entries_each (omega arith) in
    let d = come.entries_few in
    let e = come.frames in
    record { frames = omega arith; numbers = omega arith; few = let same = come.units_same in omega arith }

pub room_after_frames : (lc lb : List ℕ) (count many rest : ℕ) (old new : FibrePlay) (rs : List Receipt) → Numbered (FramesRun lc lb count) old rs new
    → count + rest ≤ many → HasFibreRoom many old → HasFibreRoom rest new
room_after_frames lc lb count many rest old new rs n le room =
    let done = n.happened old.world (world_forgets_none old.world) in
    room_after count many rest old new (length n.entries) (few_forget old.world done.0 new.world (length n.entries) count (frames_come lc lb count old.world done.0 n.entries done.1) done.2) n.next le room

-- an event of the script
step_comes : (step : WorldStep) (old new : WorldState) (entries : List Entry) → TakesStep step old entries new → new.frames ≡ old.frames → new.flights ≡ old.flights → FewComes old new (length entries) 1
step_comes step old new entries t frames flights =
    let bounds = step_bounds old.fibre (Whole step) t.0 new.fibre t.1.made in
    let few = bounds.entries_few in
    let many : length entries ≡ length (option_to_list t.0) = ap (λ (l : List Entry). length l) t.2 in
    let same : length new.flights ≡ length old.flights = ap (λ (fs : List Flight). length fs) flights in
    record { entries_few = omega arith; units_same = bounds.units_same; frames = omega arith }

event_comes : (losses : LossesView) (event : ScriptEvent) (old new : WorldState) (entries : List Entry) → WorldTakes losses event old entries new → FewComes old new (length entries) (count_of event)
event_comes losses (events.Frames port count) old new entries t = frames_come losses.copies losses.bursts count old new entries t
event_comes losses (events.Burst port at bytes) old new entries t = step_comes (steps.Bytes at bytes) old new entries t t.1.frames t.1.flights
event_comes losses (events.Command port command) old new entries t = step_comes (steps.Command command) old new entries t t.1.frames t.1.flights
event_comes losses (events.Light unit true) old new entries t = step_comes (steps.Light unit) old new entries t t.1.frames t.1.flights
event_comes losses (events.Light unit false) old new entries t = step_comes (steps.Dark unit) old new entries t t.1.frames t.1.flights

numbered_comes : (losses : LossesView) (event : ScriptEvent) (old new : FibrePlay) (rs : List Receipt) (n : Numbered (WorldTakes losses event) old rs new)
    → FewComes old.world new.world (length n.entries) (count_of event)
numbered_comes losses event old new rs n =
    let done = n.happened old.world (world_forgets_none old.world) in
    few_forget old.world done.0 new.world (length n.entries) (count_of event) (event_comes losses event old.world done.0 n.entries done.1) done.2

pub units_after_event : (losses : LossesView) (event : ScriptEvent) (old new : FibrePlay) (rs : List Receipt) → Numbered (WorldTakes losses event) old rs new
    → length new.world.fibre.units ≡ length old.world.fibre.units
units_after_event losses event old new rs n = (numbered_comes losses event old new rs n).units_same

pub room_after_event : (losses : LossesView) (event : ScriptEvent) (many rest : ℕ) (old new : FibrePlay) (rs : List Receipt)
    → Numbered (WorldTakes losses event) old rs new → count_of event + rest ≤ many → HasFibreRoom many old → HasFibreRoom rest new
room_after_event losses event many rest old new rs n le room =
    room_after (count_of event) many rest old new (length n.entries) (numbered_comes losses event old new rs n) n.next le room
