-- The parts of a frame of a run, one input after the other.
use Rattle.std.proofs.Common.{◌≡◌, ℕ, zero, suc, ◌+◌, ◌-◌, ◌/◌, ◌<◌, ◌≤◌, get_or, Bool, true, false, cond, List, [], ◌∷◌, ◌++◌, length, take, drop, Option, None, Some, refl, sym, ap, subst, ◌∙◌, arith, append_assoc, Vec, Global}
use Rattle.std.specs.Prelude.{◌&&◌, All, not, map, set, slice_get, slice_set}
use Rattle.std.proofs.lemmas.Option.{slice_get_within, get_or_from_slice_get}
use Rattle.std.proofs.lemmas.List.Elements.{All-nil, All-cons, All-append, All-same, filter-append}
use Rattle.std.specs.List.{filter}
use Rattle.std.specs.Option.{option_map, option_to_list}
use Rattle.std.proofs.lemmas.List.{append-nil, length-set, set-get_or, length-append, take_at, take_all, take-take, take_more, length-drop, length-take-le, get_or-drop, map-append}
use Rattle.std.proofs.Math.Seq.{set-append_seam}
use Rattle.std.proofs.lemmas.List.FromFn.{map-range_with_len_more}
use Rattle.gp_ploam.specs.declared.message.Down.{Down}
use Rattle.gp_ploam.specs.declared.message.Up.{Up}
use Rattle.gp_ploam.specs.Mask.{mask_value}
use Rattle.gp_ploam.specs.Down.{code_of_down}
use Rattle.gp_ploam.specs.Up.{code_of_up}
use Rattle.gp_ranging.specs.declared.grant.Grant.{Grant}
use Rattle.gp_ranging.specs.declared.grant.Grant.TheVariants.{Poll}
use Rattle.gp_onu.specs.Noticing.{is_asked}
use Rattle.gp_onu.specs.Table.{Hears, UnitState, unit_after}
use Rattle.gp_machine.specs.declared.entry.Entry.{Entry}
use Rattle.gp_machine.specs.declared.event.Event.TheVariants as event
use Rattle.gp_onu.specs.declared.limits.TheConstants.{FRAME_BIT_TIMES}
use Rattle.gp_fibre.specs.declared.flight.Flight.{Flight}
use Rattle.gp_fibre.specs.declared.sent_burst.SentBurst.{SentBurst}
use Rattle.gp_fibre.specs.declared.world_step.WorldStep.TheVariants as steps
use Rattle.gp_fibre.specs.World.{FibreUnit, FibreWorld, Forgotten, kept_at}
use Rattle.gp_fibre.specs.Step.{FibreInput, Whole, FibreStep, PortTakes, UnitChanges, UnitAnswers, burst_answered, burst_with, unit_granted, unit_hearing}
use Rattle.gp_fibre.specs.Run.{FibreRun}
use Rattle.gp_fibre.specs.Fibre.{FibreStand}
use Rattle.gp_fibre.specs.Flights.{AreInReach, FlightsState}
use Rattle.gp_fibre.specs.Parts.{Comes, PortPuts, UnitsTake}
use Rattle.gp_fibre.specs.UnitStore.{IsNextOf, is_asked_at, onu_id_meant}
use Rattle.gp_fibre.specs.Schedule.{IsProperEntry, arrivals, deliveries, flights_of, grants_given, is_due, is_lost}
use Rattle.gp_fibre.specs.Room.{KeepsCounts, TakesEventRoom}
use Rattle.gp_fibre.proofs.Asking.{IsLeft, deaf_to_others, unasked}
use Rattle.gp_fibre.proofs.Steps.{one_step, runs_in_parts}
use Rattle.gp_fibre.proofs.StoredUnits.{asked_within}

pub run_more : (a b c : FibreWorld) (is : List FibreInput) (es : List Entry) (i : FibreInput) (g : Option Entry) → FibreRun a is es b → FibreStep b i g c
    → FibreRun a (is ++ i ∷ []) (es ++ option_to_list g) c
run_more a b c is es i g run step = runs_in_parts a b c is (i ∷ []) es (option_to_list g) run (one_step b i g c step)

pub takes_nothing : (a : FibreWorld) → UnitsTake a [] a
takes_nothing a =
    record {
      run = (refl, refl);
      port = refl;
      free = refl;
      copies = refl;
      grants = refl;
      forgotten = refl;
      many = refl;
      prefix = take_all (length a.bursts) a.bursts (omega arith);
      more = omega arith;
      most = omega arith;
    }

-- two parts, one after the other
pub takes_both : (a b c : FibreWorld) (is more : List FibreInput) → UnitsTake a is b → UnitsTake b more c → UnitsTake a (is ++ more) c
takes_both a b c is more x y =
    record {
      run = runs_in_parts a b c is more [] [] x.run y.run;
      port = y.port ∙ x.port;
      free = y.free ∙ x.free;
      copies = y.copies ∙ x.copies;
      grants = y.grants ∙ x.grants;
      forgotten = y.forgotten ∙ x.forgotten;
      many = y.many ∙ x.many;
      prefix = prefix_of;
      more = let p = x.more in let q = y.more in omega arith;
      most = let p = x.most in let q = y.most in omega (arith, length-append is more);
    }
  where
    prefix_of : take (length a.bursts) c.bursts ≡ a.bursts
    prefix_of =
        let low = x.more in
        sym (take-take (length a.bursts) (length b.bursts) c.bursts low) ∙ ap (λ (bs : List SentBurst). take (length a.bursts) bs) y.prefix ∙ x.prefix

-- one unit hears a copy
heard_one : (a b : FibreWorld) (copy place : ℕ) (m : Down) → kept_at a.forgotten.copies a.copies copy ≡ Some m → UnitChanges a place (unit_hearing m) b → UnitsTake a (Whole (steps.Deliver copy place) ∷ []) b
heard_one a b copy place m sent changes =
    record {
      run = one_step a (Whole (steps.Deliver copy place)) None b (m, refl, sent, changes);
      port = ap (λ (w : FibreWorld). w.port) changes.rest;
      free = ap (λ (w : FibreWorld). w.free) changes.rest;
      copies = ap (λ (w : FibreWorld). w.copies) changes.rest;
      grants = ap (λ (w : FibreWorld). w.grants) changes.rest;
      forgotten = ap (λ (w : FibreWorld). w.forgotten) changes.rest;
      many = ap (λ (us : List FibreUnit). length us) changes.units.after ∙ length-set a.units place (unit_hearing m changes.units.unit);
      prefix = ap (λ (w : FibreWorld). take (length a.bursts) w.bursts) changes.rest ∙ take_all (length a.bursts) a.bursts (omega arith);
      more = let same = ap (λ (w : FibreWorld). length w.bursts) changes.rest in omega arith;
      most = let same = ap (λ (w : FibreWorld). length w.bursts) changes.rest in omega arith;
    }

at_most_one : (o : Option SentBurst) → length (option_to_list o) ≤ 1
at_most_one None = omega arith
at_most_one (Some b) = omega arith

-- one unit takes a grant
granted_one : (a b : FibreWorld) (grant place : ℕ) (issued : Grant) → kept_at a.forgotten.grants a.grants grant ≡ Some issued → UnitAnswers a place issued b → UnitsTake a (Whole (steps.Give grant place) ∷ []) b
granted_one a b grant place issued there answers =
    let o = burst_answered issued answers.units.unit in
    let few = at_most_one o in
    let many : length b.bursts ≡ length a.bursts + length (option_to_list o) = ap (λ (bs : List SentBurst). length bs) answers.answer ∙ length-append a.bursts (option_to_list o) in
    record {
      run = one_step a (Whole (steps.Give grant place)) None b (issued, refl, there, answers);
      port = ap (λ (w : FibreWorld). w.port) answers.rest;
      free = ap (λ (w : FibreWorld). w.free) answers.rest;
      copies = ap (λ (w : FibreWorld). w.copies) answers.rest;
      grants = ap (λ (w : FibreWorld). w.grants) answers.rest;
      forgotten = ap (λ (w : FibreWorld). w.forgotten) answers.rest;
      many = ap (λ (us : List FibreUnit). length us) answers.units.after ∙ length-set a.units place _;
      prefix = ap (λ (bs : List SentBurst). take (length a.bursts) bs) answers.answer ∙ take_at a.bursts (option_to_list o) (length a.bursts) refl;
      more = omega arith;
      most = omega arith;
    }

pub heard_more : (a b c : FibreWorld) (copy place : ℕ) (m : Down) → kept_at a.forgotten.copies a.copies copy ≡ Some m → UnitsTake a (deliveries copy place) b → UnitChanges b place (unit_hearing m) c
    → UnitsTake a (deliveries copy (place + 1)) c
heard_more a b c copy place m sent so_far changes =
    subst (λ (is : List FibreInput). UnitsTake a is c) (sym (map-range_with_len_more (λ unit. Whole (steps.Deliver copy unit)) 0 place place (omega arith)))
    (takes_both a b c (deliveries copy place) (Whole (steps.Deliver copy place) ∷ []) so_far
    (heard_one b c copy place m (ap (λ (f : Forgotten). kept_at f.copies b.copies copy) so_far.forgotten ∙ ap (λ (cs : List Down). kept_at a.forgotten.copies cs copy) so_far.copies ∙ sent) changes))

pub granted_more : (a b c : FibreWorld) (grant place : ℕ) (issued : Grant) → kept_at a.forgotten.grants a.grants grant ≡ Some issued → UnitsTake a (grants_given grant place) b → UnitAnswers b place issued c
    → UnitsTake a (grants_given grant (place + 1)) c
granted_more a b c grant place issued there so_far answers =
    subst (λ (is : List FibreInput). UnitsTake a is c) (sym (map-range_with_len_more (λ unit. Whole (steps.Give grant unit)) 0 place place (omega arith)))
    (takes_both a b c (grants_given grant place) (Whole (steps.Give grant place) ∷ []) so_far
    (granted_one b c grant place issued (ap (λ (f : Forgotten). kept_at f.grants b.grants grant) so_far.forgotten ∙ ap (λ (gs : List Grant). kept_at a.forgotten.grants gs grant) so_far.grants ∙ there) answers))

-- ---- units that a grant does not ask

found_unit : (units : List FibreUnit) (asked : Grant) (place : ℕ) → place < length units
    → (u : FibreUnit) × (slice_get units place ≡ Some u) × (is_asked_at units asked place ≡ is_asked asked u.state)
found_unit [] asked place low = absurd (omega arith)
found_unit (x ∷ xs) asked zero low = (x, refl, refl)
found_unit (x ∷ xs) asked (suc place) low = found_unit xs asked place (omega arith)

-- it is the same after the grant
left_alone : (w : FibreWorld) (place : ℕ) (asked : Grant) → place < length w.units → is_asked_at w.units asked place ≡ false → UnitAnswers w place asked w
left_alone w place asked low isnt =
    let found = found_unit w.units asked place low in
    let u : FibreUnit = found.0 in
    let left : IsLeft u.state asked u.random = unasked u.state.serial u.state.mask u.state.lit u.state.stage asked u.random (sym found.2 ∙ isnt) in
    let same : unit_granted asked u ≡ u = ap (λ (s : UnitState). let v : FibreUnit = record u { state = s } in v) left.0 in
    let silent : burst_answered asked u ≡ None =
    ap (λ (o : Option Up). option_map (λ octets. burst_with u.delay octets) (option_map (λ m. code_of_up m (mask_value u.state.mask)) o)) left.1 in
    let again : slice_set w.units place u ≡ w.units =
    ap (λ (v : FibreUnit). slice_set w.units place v) (sym (get_or_from_slice_get w.units place u u found.1)) ∙ set-get_or w.units place u in
    record {
      units = record { unit = u; there = found.1; after = sym (ap (λ (v : FibreUnit). slice_set w.units place v) same ∙ again) };
      answer = sym (append-nil w.bursts) ∙ ap (λ (o : Option SentBurst). w.bursts ++ option_to_list o) (sym silent);
      rest = refl;
    }

module _ (a b : FibreWorld) (grant first : ℕ) (issued : Grant) (there : kept_at a.forgotten.grants a.grants grant ≡ Some issued) (so_far : UnitsTake a (grants_given grant first) b) where
  passed : (count : ℕ) → first + count ≤ length b.units → ((place : ℕ) → first ≤ place → place < first + count → is_asked_at b.units issued place ≡ false)
      → UnitsTake a (grants_given grant (first + count)) b
  passed zero few none = let same : first ≡ first + 0 = omega arith in subst (λ (n : ℕ). UnitsTake a (grants_given grant n) b) same so_far
  passed (suc count) few none =
      let next : (first + count) + 1 ≡ first + suc count = omega arith in
      let isnt : is_asked_at b.units issued (first + count) ≡ false = none (first + count) (omega arith) (omega arith) in
      let before = passed count (omega arith) (λ place from low. none place from (omega arith)) in
      subst (λ (n : ℕ). UnitsTake a (grants_given grant n) b) next (granted_more a b b grant (first + count) issued there before (left_alone b (first + count) issued (omega arith) isnt))

  -- the units up to this one are passed over
  pub passed_over : (last : ℕ) → first ≤ last → last ≤ length b.units → ((place : ℕ) → first ≤ place → place < last → is_asked_at b.units issued place ≡ false)
      → UnitsTake a (grants_given grant last) b
  passed_over last from few none =
      let same : first + (last - first) ≡ last = omega arith in
      subst (λ (n : ℕ). UnitsTake a (grants_given grant n) b) same (passed (last - first) (omega arith) (λ place low high. none place low (omega arith)))

-- ---- units that a copy is not meant for

-- the message is meant for an ONU-ID that the unit at this place does not have
abbrev IsMeantForOthers : List FibreUnit → Down → ℕ → Type 0
IsMeantForOthers units message place = (onu : ℕ) × (onu_id_meant message ≡ Some onu) × (is_asked_at units (Poll onu) place ≡ false)

-- so are all units from a place on up to the next one, or up to the end
abbrev pub SkipsOthers : List FibreUnit → Down → ℕ → Option ℕ → Type 0
SkipsOthers units message first None = (place : ℕ) → first ≤ place → place < length units → IsMeantForOthers units message place
SkipsOthers units message first (Some next) =
    (first ≤ next) × (next < length units) × ((place : ℕ) → first ≤ place → place < next → IsMeantForOthers units message place)

module _ (units : List FibreUnit) (message : Down) (first : ℕ) where
  next_of : (onu_id next : Option ℕ) → onu_id_meant message ≡ onu_id → IsNextOf units onu_id first next → SkipsOthers units message first next
  next_of (Some onu) None meant is = λ place from low. (onu, meant, is place from)
  next_of (Some onu) (Some next) meant is = (is.0, asked_within units (Poll onu) next is.1, λ place from before. (onu, meant, is.2 place from before))
  next_of None None meant is = λ place from low. absurd (omega arith)
  next_of None (Some next) meant is = let same = is.0 in (omega arith, is.1, λ place from before. absurd (omega arith))

  pub skips_others : (next : Option ℕ) → IsNextOf units (onu_id_meant message) first next → SkipsOthers units message first next
  skips_others next is = next_of (onu_id_meant message) next refl is

left_deaf : (w : FibreWorld) (place : ℕ) (message : Down) → place < length w.units → IsMeantForOthers w.units message place → UnitChanges w place (unit_hearing message) w
left_deaf w place message low others =
    let found = found_unit w.units (Poll others.0) place low in
    let u : FibreUnit = found.0 in
    let code = code_of_down message (mask_value u.state.mask) in
    let deaf : unit_after u.state (Hears code message) ≡ u.state =
    deaf_to_others u.state.serial u.state.mask u.state.lit u.state.stage code message others.0 others.1 (sym found.2 ∙ others.2) in
    let same : unit_hearing message u ≡ u = ap (λ (s : UnitState). let v : FibreUnit = record u { state = s } in v) deaf in
    let again : slice_set w.units place u ≡ w.units =
    ap (λ (v : FibreUnit). slice_set w.units place v) (sym (get_or_from_slice_get w.units place u u found.1)) ∙ set-get_or w.units place u in
    record {
      units = record { unit = u; there = found.1; after = sym (ap (λ (v : FibreUnit). slice_set w.units place v) same ∙ again) };
      rest = refl;
    }

module _ (a b : FibreWorld) (copy first : ℕ) (message : Down) (there : kept_at a.forgotten.copies a.copies copy ≡ Some message) (so_far : UnitsTake a (deliveries copy first) b) where
  unheard : (count : ℕ) → first + count ≤ length b.units → ((place : ℕ) → first ≤ place → place < first + count → IsMeantForOthers b.units message place)
      → UnitsTake a (deliveries copy (first + count)) b
  unheard zero few others = let same : first ≡ first + 0 = omega arith in subst (λ (n : ℕ). UnitsTake a (deliveries copy n) b) same so_far
  unheard (suc count) few others =
      let next : (first + count) + 1 ≡ first + suc count = omega arith in
      let other : IsMeantForOthers b.units message (first + count) = others (first + count) (omega arith) (omega arith) in
      let before = unheard count (omega arith) (λ place from low. others place from (omega arith)) in
      subst (λ (n : ℕ). UnitsTake a (deliveries copy n) b) next (heard_more a b b copy (first + count) message there before (left_deaf b (first + count) message (omega arith) other))

  -- the units up to this one are passed over
  pub copy_passes : (last : ℕ) → first ≤ last → last ≤ length b.units → ((place : ℕ) → first ≤ place → place < last → IsMeantForOthers b.units message place)
      → UnitsTake a (deliveries copy last) b
  copy_passes last from few others =
      let same : first + (last - first) ≡ last = omega arith in
      subst (λ (n : ℕ). UnitsTake a (deliveries copy n) b) same (unheard (last - first) (omega arith) (λ place low high. others place low (omega arith)))

-- what the loop over the units that a copy is meant for keeps
pub record HeardSoFar (copy : ℕ) (old new : FibreStand) (first : ℕ) : Type 0 where
  pub takes : UnitsTake old.world (deliveries copy first) new.world
  pub rest : new ≡ record old { world = new.world }
  pub bursts : new.world.bursts ≡ old.world.bursts
  pub within : first ≤ length old.world.units

-- what the loop over the units that a grant asks keeps
pub record AskedSoFar (frame grant : ℕ) (old new : FibreStand) (before after : FlightsState) (first : ℕ) : Type 0 where
  pub takes : UnitsTake old.world (grants_given grant first) new.world
  pub rest : new ≡ record old { world = new.world; bursts_room = new.bursts_room }
  pub room : old.bursts_room ≤ new.bursts_room + first
  pub comes : Comes frame old.world before.flights new.world after.flights
  pub reach : AreInReach frame after.flights
  pub flights_room : before.room ≤ after.room + first
  pub within : first ≤ length old.world.units

-- ---- bursts that will come

flights_push : (frame number last : ℕ) (bs : List SentBurst) (b : SentBurst) → number + length bs ≡ last
    → flights_of frame number (bs ++ b ∷ []) ≡ flights_of frame number bs ++ record { number = last; due = frame + b.at / FRAME_BIT_TIMES } ∷ []
flights_push frame number last [] b e =
    let same : number ≡ last = omega arith in
    ap (λ (n : ℕ). let f : Flight = record { number = n; due = frame + b.at / FRAME_BIT_TIMES } in f ∷ []) same
flights_push frame number last (x ∷ xs) b e =
    ap (λ (fs : List Flight). let f : Flight = record { number = number; due = frame + x.at / FRAME_BIT_TIMES } in f ∷ fs) (flights_push frame (number + 1) last xs b (omega arith))

pub flights_more : (frame from number : ℕ) (bs : List SentBurst) (b : SentBurst) → from ≤ number → slice_get bs number ≡ Some b
    → flights_of frame from (take ((number + 1) - from) (drop from bs))
    ≡ flights_of frame from (take (number - from) (drop from bs)) ++ record { number = number; due = frame + b.at / FRAME_BIT_TIMES } ∷ []
flights_more frame from number bs b low there =
    let k = number - from in
    let xs = drop from bs in
    let within = slice_get_within bs number b there in
    let long = length-drop from bs in
    let in_xs : number - from < length xs = omega arith in
    let next : (number + 1) - from ≡ (number - from) + 1 = omega arith in
    let at : from + (number - from) ≡ number = omega arith in
    let read : get_or xs (number - from) b ≡ b = get_or-drop from bs (number - from) b ∙ ap (λ (n : ℕ). get_or bs n b) at ∙ get_or_from_slice_get bs number b b there in
    let short = length-take-le (number - from) xs (omega arith) in
    ap (λ (n : ℕ). flights_of frame from (take n xs)) next
    ∙ ap (flights_of frame from) (take_more xs (number - from) b in_xs ∙ ap (λ (x : SentBurst). take (number - from) xs ++ x ∷ []) read)
    ∙ flights_push frame from number (take (number - from) xs) b (omega arith)

pub flights_all : (frame from number : ℕ) (bs : List SentBurst) → number ≡ length bs → flights_of frame from (take (number - from) (drop from bs)) ≡ flights_of frame from (drop from bs)
flights_all frame from number bs e = let long = length-drop from bs in ap (flights_of frame from) (take_all (number - from) (drop from bs) (omega arith))

-- ---- bursts that come

pub puts_both : (a b c : FibreWorld) (is more : List FibreInput) (before mid after : List Entry) → PortPuts a is before mid b → PortPuts b more mid after c → PortPuts a (is ++ more) before after c
puts_both a b c is more before mid after x y =
    record {
      more = x.more ++ y.more;
      run = runs_in_parts a b c is more x.more y.more x.run y.run;
      after_is = y.after_is ∙ ap (λ (es : List Entry). es ++ y.more) x.after_is ∙ append_assoc before x.more y.more;
      bursts = y.bursts ∙ x.bursts;
      forgotten = y.forgotten ∙ x.forgotten;
    }

pub puts_nothing : (a : FibreWorld) (entries : List Entry) → PortPuts a [] entries entries a
puts_nothing a entries = record { more = []; run = (refl, refl); after_is = sym (append-nil entries); bursts = refl; forgotten = refl }

pub puts_one : (a b : FibreWorld) (number : ℕ) (burst : SentBurst) (entry : Entry) (before after : List Entry) → kept_at a.forgotten.bursts a.bursts number ≡ Some burst
    → PortTakes a (event.Burst burst.at burst.bytes) entry b → after ≡ before ++ entry ∷ [] → PortPuts a (Whole (steps.Arrive number) ∷ []) before after b
puts_one a b number burst entry before after there takes is =
    record { more = entry ∷ []; run = one_step a (Whole (steps.Arrive number)) (Some entry) b (entry, burst, refl, there, takes); after_is = is; bursts = takes.bursts; forgotten = takes.forgotten }

arrivals_append : (lost : List ℕ) (frame : ℕ) (xs ys : List Flight) → arrivals lost frame (xs ++ ys) ≡ arrivals lost frame xs ++ arrivals lost frame ys
arrivals_append lost frame xs ys =
    let kept : Flight → Bool = λ f. is_due frame f && not (is_lost lost f.number) in
    let input : Flight → FibreInput = λ f. Whole (steps.Arrive f.number) in
    ap (map input) (filter-append kept xs ys) ∙ map-append input (filter kept xs) (filter kept ys)

pub puts_more : (a b c : FibreWorld) (lost : List ℕ) (frame place : ℕ) (flights : List Flight) (flight : Flight) (before mid after : List Entry)
    → slice_get flights place ≡ Some flight
    → PortPuts a (arrivals lost frame (take place flights)) before mid b → PortPuts b (arrivals lost frame (flight ∷ [])) mid after c
    → PortPuts a (arrivals lost frame (take (place + 1) flights)) before after c
puts_more a b c lost frame place flights flight before mid after there x y =
    let low = slice_get_within flights place flight there in
    let next : take (place + 1) flights ≡ take place flights ++ flight ∷ [] =
    take_more flights place flight low ∙ ap (λ (f : Flight). take place flights ++ f ∷ []) (get_or_from_slice_get flights place flight flight there) in
    subst (λ (is : List FibreInput). PortPuts a is before after c)
    (sym (ap (arrivals lost frame) next ∙ arrivals_append lost frame (take place flights) (flight ∷ [])))
    (puts_both a b c (arrivals lost frame (take place flights)) (arrivals lost frame (flight ∷ [])) before mid after x y)

-- a burst that comes, and is not lost
pub arrives_one : (lost : List ℕ) (frame : ℕ) (flight : Flight) → is_due frame flight ≡ true → is_lost lost flight.number ≡ false
    → arrivals lost frame (flight ∷ []) ≡ Whole (steps.Arrive flight.number) ∷ []
arrives_one lost frame flight due kept =
    let test : is_due frame flight && not (is_lost lost flight.number) ≡ true = ap (λ b. b && not (is_lost lost flight.number)) due ∙ ap not kept in
    let input : Flight → FibreInput = λ f. Whole (steps.Arrive f.number) in
    ap (λ b. map input (cond b (flight ∷ []) [])) test

-- what the loop over the bursts to come keeps
pub record ArrivesSoFar (old new : FibreStand) (before after : Vec Entry Global) (lost : List ℕ) (frame : ℕ) (flights : List Flight) (place : ℕ) : Type 0 where
  pub puts : PortPuts old.world (arrivals lost frame (take place flights)) before.items after.items new.world
  pub counts : KeepsCounts old new
  pub room : TakesEventRoom place old new before after
  pub proper : All IsProperEntry after.items

-- an entry that is put behind the others, and then written over
pub written_last : (before pushed : List Entry) (blank entry : Entry) (place : ℕ) → pushed ≡ before ++ blank ∷ [] → place ≡ length before
    → set pushed place entry ≡ before ++ entry ∷ []
written_last before pushed blank entry place is_pushed is_place =
    ap (λ (es : List Entry). set es place entry) is_pushed
    ∙ ap (λ (n : ℕ). set (before ++ blank ∷ []) n entry) is_place
    ∙ set-append_seam before blank [] entry

-- an entry that is proper was put behind others that are
pub proper_push : (before after : List Entry) (entry : Entry) → after ≡ before ++ entry ∷ [] → All IsProperEntry before → IsProperEntry entry → All IsProperEntry after
proper_push before after entry is them it =
    All-same IsProperEntry after (before ++ entry ∷ []) is (All-append IsProperEntry before (entry ∷ []) them (All-cons IsProperEntry entry [] it (All-nil IsProperEntry)))
