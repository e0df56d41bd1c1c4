-- Everybody is served, from the search on.
use Rattle.std.proofs.Common.{◌≡◌, ℕ, zero, suc, ◌≤◌, true, List, [], ◌∷◌, length, map, None, refl, ap, subst, ◌∙◌, arith}
use Rattle.std.specs.Prelude.{All, get_or, nat_le, replicate}
use Rattle.std.specs.List.{list_all}
use Rattle.std.proofs.lemmas.Bool.{leb-true}
use Rattle.std.proofs.lemmas.List.Elements.{All-cons, All-nil, All-head, All-tail}
use Rattle.gp_licence.specs.Limits.{max_licences}
use Rattle.gp_ploam.specs.OnuIds.{onu_ids}
use Rattle.gp_pools.specs.Limits.{first_alloc_id, last_alloc_id, max_quarantine}
use Rattle.gp_serial.specs.Admitted.{max_on_a_port}
use Rattle.gp_machine.specs.declared.config.PortConfig.{PortConfig}
use Rattle.gp_machine.specs.declared.entry.Entry.{Entry}
use Rattle.gp_machine.specs.declared.event.Command.TheVariants as command
use Rattle.gp_machine.specs.declared.event.Event.TheVariants as event
use Rattle.gp_machine.specs.Config.{is_between, is_distinct, is_within_limits, max_cycles, max_search_period}
use Rattle.gp_machine.specs.Run.{entry_outcome}
use Rattle.gp_machine.specs.Sound.{IsSound}
use Rattle.gp_machine.specs.OneStep.{HearsOneThing, KeepsSound}
use Rattle.gp_machine.proofs.Walks.{both_true}
use Rattle.gp_laws.specs.Runs.{EveryStateIsSound}
use Rattle.gp_onu.specs.Limits.{max_delay, max_random_delay, max_simulated_units}
use Rattle.gp_fibre.specs.declared.unit_plan.UnitPlan.{UnitPlan}
use Rattle.gp_fibre.specs.World.{FibreUnit, is_plan_within_limits, is_world_within_limits, planned_unit}
use Rattle.gp_fibre.specs.Step.{PortTakes}
use Rattle.gp_fibre.specs.Schedule.{opening_state}
use Rattle.gp_success.specs.Served.{EverybodyIsServed, IsInReach, ServesWithin, frames_to_serve}
use Rattle.gp_ploam.specs.declared.check.Mask.{Mask}
use Rattle.gp_onu.specs.declared.stage.Stage.TheVariants.{Standby as stand_by}
use Rattle.gp_success.proofs.LinkedUnits.{OnFibre, unit_of}
use Rattle.gp_machine.specs.declared.event.Event.{Event}
use Rattle.gp_machine.specs.declared.reply.Reply.TheVariants.{Searching}
use Rattle.gp_machine.specs.State.{PortState, opening_of}
use Rattle.gp_machine.specs.Changes.{StepResult, Wants}
use Rattle.gp_machine.specs.Responses.{Response, replies, step_result_with}
use Rattle.gp_machine.specs.Step.{Step}
use Rattle.gp_success.proofs.Reading.{RoundTrip}
use Rattle.gp_success.proofs.Everybody.{Going, IsFit, serves_all}

-- ---- the search that begins it

record IsSearched (p : PortState) (e : Entry) (q : PortState) : Type 0 where
  state : q ≡ record p { wanted = true }
  purse : e.purse_out ≡ e.purse_in

searched : (c : PortConfig) (e : Entry) (q : PortState) → e.event ≡ event.Command command.Search → Step e.purse_in (opening_of c) e.event (entry_outcome e q) → IsSearched (opening_of c) e q
searched c e q is step =
    let s = (subst (λ (x : Event). Step e.purse_in (opening_of c) x (entry_outcome e q)) is step).1 in
    let says : s.response ≡ replies Searching (Wants true ∷ []) = s.said in
    let outcome = s.is ∙ ap (λ (d : Response). step_result_with e.purse_in (opening_of c) None d s.picked) says in
    record { state = ap (λ (x : StepResult). x.state) outcome; purse = ap (λ (x : StepResult). x.purse) outcome }

-- ---- the limits

record Limited (c : PortConfig) (plans : List UnitPlan) : Type 0 where
  some : 1 ≤ c.cycles
  few : c.cycles ≤ 10
  numbers : c.max_units ≤ 254
  short : list_all is_plan_within_limits plans ≡ true

limits : (c : PortConfig) (licences : ℕ) (plans : List UnitPlan) → is_world_within_limits c licences plans ≡ true → Limited c plans
limits c licences plans h =
    let a = both_true _ (list_all is_plan_within_limits plans) h in
    let b = both_true _ (nat_le (length plans) max_simulated_units) a.0 in
    let d = both_true (is_within_limits c) (nat_le licences max_licences) b.0 in
    let g = both_true _ (is_distinct c.admitted) d.0 in
    let i = both_true _ (nat_le (length c.admitted) max_on_a_port) g.0 in
    let j = both_true _ (nat_le c.quarantine max_quarantine) i.0 in
    let l = both_true _ (nat_le c.search_period max_search_period) j.0 in
    let o = both_true _ (is_between 1 max_cycles c.cycles) l.0 in
    let q = both_true (is_between 1 onu_ids c.max_units) (is_between first_alloc_id last_alloc_id c.alloc_last) o.0 in
    let k = both_true (nat_le 1 c.cycles) (nat_le c.cycles max_cycles) o.1 in
    let r = both_true (nat_le 1 c.max_units) (nat_le c.max_units onu_ids) q.0 in
    record { some = leb-true 1 c.cycles k.0; few = leb-true c.cycles 10 k.1; numbers = leb-true c.max_units 254 r.1; short = a.1 }

fit_all : (c : PortConfig) (ps : List UnitPlan) → All (IsInReach c) ps → list_all is_plan_within_limits ps ≡ true → All (IsFit c) ps
fit_all c [] each short = All-nil (IsFit c)
fit_all c (p ∷ ps) each short =
    let here = All-head (IsInReach c) p ps each in
    let both = both_true (is_plan_within_limits p) (list_all is_plan_within_limits ps) short in
    let limits = both_true (nat_le p.delay max_delay) (nat_le p.random max_random_delay) both.0 in
    let below = here.near in
    All-cons (IsFit c) p ps
    (record { admitted = here.admitted; near = omega arith; reach = here.reach; long = here.long; short = leb-true p.random 4095 limits.1 })
    (fit_all c ps (All-tail (IsInReach c) p ps each) both.1)

abbrev units_standing : Mask → List UnitPlan → List FibreUnit
units_standing mask ps =
    map (unit_of mask) (map (λ (p : UnitPlan). let x : OnFibre = record { serial = p.serial; delay = p.delay; random = p.random; stage = stand_by } in x) ps)

abbrev zeros : ℕ → List ℕ
zeros k = replicate k 0

none_cools : (k n : ℕ) → get_or (zeros k) n 0 ≡ 0
none_cools zero zero = refl
none_cools zero (suc n) = refl
none_cools (suc k) zero = refl
none_cools (suc k) (suc n) = none_cools k n

pub everybody_is_served : HearsOneThing → RoundTrip → KeepsSound → EveryStateIsSound → EverybodyIsServed
everybody_is_served one trip keeps sound_all c licences plans given first last count entries easy steps_to run enough = by_cycles c.cycles refl
  where
    are : Limited c plans
    are = limits c licences plans easy.within

    entry : Entry
    entry = steps_to.made.0

    takes : PortTakes (opening_state c licences plans).fibre (event.Command command.Search) entry first.fibre
    takes = steps_to.made.2

    is : IsSearched (opening_of c) entry first.fibre.port
    is = searched c entry first.fibre.port takes.event_is takes.step

    sound : IsSound first.fibre.port
    sound = keeps entry.purse_in (opening_of c) entry.event (entry_outcome entry first.fibre.port) (sound_all c (opening_of c) ([], refl)) takes.step

    bound : ℕ
    bound = frames_to_serve c (length plans)

    by_cycles : (n : ℕ) → c.cycles ≡ n → ServesWithin c plans bound count first entries last
    by_cycles zero none = absurd (let a = are.some in omega arith)
    by_cycles (suc n) cycles =
        let few = are.few in
        let numbers = are.numbers in
        let fewer = easy.numbers in
        let free = takes.free in
        let purse = is.purse in
        serves_all c plans licences one trip keeps easy.distinct easy.licensed easy.numbers (omega arith) (fit_all c plans easy.each are.short) easy.windows count bound first last entries
        (Going.wanted
        (record {
          timer = 0;
          cooling = replicate onu_ids 0;
          cool = none_cools onu_ids;
          cycles = n;
          is_cycles = cycles;
          port_is = is.state;
          units_is = takes.units ∙ same_units plans;
          free_is = omega arith;
          quiet = steps_to.flights;
          sound = sound;
          measure = omega arith;
          soon = omega arith;
        }))
        enough run
      where
        same_units : (ps : List UnitPlan) → map (planned_unit c.mask) ps ≡ units_standing c.mask ps
        same_units [] = refl
        same_units (p ∷ ps) = ap (λ (us : List FibreUnit). planned_unit c.mask p ∷ us) (same_units ps)
