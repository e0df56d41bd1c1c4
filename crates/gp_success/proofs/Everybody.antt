-- Any number of units: the phases between two frames, what holds in each, and that a measure falls in every frame.
use Rattle.std.proofs.Common.{◌≡◌, ℕ, zero, suc, ◌+◌, ◌-◌, ◌*◌, ◌/◌, ◌<◌, ◌≤◌, ◌==◌, Bool, true, false, cond, List, [], ◌∷◌, ◌++◌, map, drop, length, Option, None, Some, ◌⊎◌, inl, inr, refl, sym, ap, subst, ◌∙◌, arith, append_assoc, mul-suc}
use Rattle.std.specs.Prelude.{All, Contains, get_or, replicate, slice_get}
use Rattle.std.specs.FinMap.{empty, get, insert, len, get-empty, len-empty}
use Rattle.std.proofs.lemmas.Bool.{cases_Bool, ne_eqb, eqb-true, eqb-false, le-ltb}
use Rattle.std.proofs.lemmas.List.{append-nil, length-map}
use Rattle.std.proofs.lemmas.List.Elements.{All-cons, All-nil, All-head, All-tail, All-weaker}
use Rattle.gp_ploam.specs.declared.message.Serial.{Serial}
use Rattle.gp_ploam.specs.declared.message.Down.{Down}
use Rattle.gp_ploam.specs.declared.message.Down.TheVariants.{NoMessage, RangingTime, UpstreamOverhead}
use Rattle.gp_ploam.specs.declared.message.Up.{Up}
use Rattle.gp_ploam.specs.declared.message.Up.TheVariants.{SerialNumber as serial_number}
use Rattle.gp_ploam.specs.Mask.{mask_value}
use Rattle.gp_ploam.specs.Up.{code_of_up}
use Rattle.gp_ploam.specs.Serials.{serial_cmp, is_among, same_serial}
use Rattle.gp_volley.specs.Copies.{all_copies, first_of}
use Rattle.gp_ranging.specs.declared.grant.Grant.TheVariants.{Search, Range}
use Rattle.gp_ranging.specs.Delay.{equalization_delay}
use Rattle.gp_common.specs.declared.common.Common.{Common}
use Rattle.gp_common.specs.declared.common.Common.TheVariants.{Standby, Acquisition, Measuring}
use Rattle.gp_unit.specs.declared.row.Row.{Row}
use Rattle.gp_unit.specs.Rows.{new_row, row_measured}
use Rattle.gp_machine.specs.declared.event.Event.TheVariants as event
use Rattle.gp_machine.specs.Changes.{StepResult}
use Rattle.gp_machine.specs.Responses.{Response, step_result_with}
use Rattle.gp_machine.proofs.Units.{has_it, has_put, len-known, one_row}
use Rattle.gp_machine.specs.declared.config.PortConfig.{PortConfig}
use Rattle.gp_machine.specs.declared.entry.Entry.{Entry}
use Rattle.gp_machine.specs.Config.{is_distinct}
use Rattle.gp_machine.specs.Sound.{IsSound}
use Rattle.gp_machine.specs.State.{PortState, Rows, HasRow, Ranges}
use Rattle.gp_machine.specs.Run.{IsStep, entry_outcome}
use Rattle.gp_machine.specs.OneStep.{HearsOneThing, KeepsSound}
use Rattle.gp_onu.specs.Limits.{frame_bit_times}
use Rattle.gp_onu.specs.declared.stage.Stage.{Stage}
use Rattle.gp_onu.specs.declared.stage.Stage.TheVariants.{SerialNumber}
use Rattle.gp_onu.specs.declared.stage.Stage.TheVariants.{Standby as stand_by}
use Rattle.gp_onu.specs.Table.{Frame}
use Rattle.gp_fibre.specs.declared.flight.Flight.{Flight}
use Rattle.gp_fibre.specs.declared.sent_burst.SentBurst.{SentBurst}
use Rattle.gp_fibre.specs.declared.unit_plan.UnitPlan.{UnitPlan}
use Rattle.gp_fibre.specs.World.{FibreUnit, FibreWorld}
use Rattle.gp_fibre.specs.Step.{PortTakes, burst_with, unit_hearing, unit_taking, world_after_frame}
use Rattle.gp_fibre.specs.Schedule.{WorldState, FrameRuns, FramesRun, arrivals, flights_after, flights_of}
use Rattle.gp_fibre.specs.Run.{FibreRun}
use Rattle.gp_fibre.proofs.Frames.{frames_are_runs}
use Rattle.gp_fibre.proofs.Steps.{run_keeps}
use Rattle.gp_success.proofs.ActivePorts.{port_at, cooled, window_of}
use Rattle.gp_success.proofs.AllUnits.{units_hearing, answers_given}
use Rattle.gp_success.proofs.LinkedUnits.{OnFibre, AllDiffer, AreApart, AreOwed, IsBacked, IsLinked, Pending, count_new, flight_of, later_than, plan_of, total_by, unit_of, weight_of}
use Rattle.gp_success.proofs.Ports.{Makes, burst_step, frame_begins, measured, range_goes_on, range_opens, range_opens_first, search_closes, search_goes_on, search_opens, acquiring_sends, measuring_sends}
use Rattle.gp_success.proofs.Frames.{FrameParts, at_seam, frame_parts}
use Rattle.gp_success.specs.Served.{AreAllServed, IsServed, ServesWithin, plan_of_unit}
use Rattle.gp_success.proofs.Settling.{Settled, settled, comes_later, comes_now, nothing_comes, one_flight}
use Rattle.gp_success.proofs.Reading.{RoundTrip, finds_it, no_row}
use Rattle.gp_success.proofs.Hearing.{counts}
use Rattle.gp_success.proofs.AllUnits.{unit_at}
use Rattle.gp_success.proofs.Counting.{total_put}
use Rattle.gp_success.proofs.Links.{all_hear}
use Rattle.gp_success.proofs.Measuring.{Operating, all_operate, all_stay, as_new, link_measured, one_answers, some_ranges}
use Rattle.gp_success.proofs.Searching.{IsSearching}
use Rattle.gp_success.proofs.Landing.{IsPending, HasRoom, land, left_flights, later_differ}
use Rattle.gp_success.proofs.Turning.{Answer, sends, none_untold, all_tick, all_answer}

-- ---- soundness

pub sound_after : KeepsSound → (old new : WorldState) (entries : List Entry) → FrameRuns [] [] old entries new → IsSound old.fibre.port → IsSound new.fibre.port
sound_after keeps old new entries frame sound =
    let run = frames_are_runs [] [] 1 old new (entries ++ []) (new, entries, [], frame, (refl, refl), refl) in
    run_keeps (λ (w : FibreWorld). IsSound w.port)
    (record {
      port = λ w v event entry t h. keeps entry.purse_in w.port entry.event (entry_outcome entry v.port) h t.step;
      unit = λ w place input u there from h. h;
      bursts = λ w more h. h;
      frame = λ w h. h;
    }) old.fibre run.0 (entries ++ []) new.fibre run.1 sound

pub apart_of : (p : PortState) (rows : Rows) → p.rows ≡ rows → IsSound p → AreApart rows
apart_of p rows is sound =
    subst (λ (x : Rows). AreApart x) is
    (record {
      apart = λ s t row its a b e. sound.units.apart s t row its a b (inl e);
      low = λ s row has. let each = sound.units.each s row has in each.fits.low;
    })

-- ---- units that differ in their stages alone

pub same_totals : (g : Option Row → ℕ) (rows : Rows) (xs ys : List OnFibre) → map plan_of ys ≡ map plan_of xs → total_by g rows ys ≡ total_by g rows xs
same_totals g rows [] [] is = refl
same_totals g rows [] (y ∷ ys) is = absurd (no is)
  where
    no : plan_of y ∷ map plan_of ys ≡ [] → ⊥
    no e = cc
same_totals g rows (x ∷ xs) [] is = absurd (no is)
  where
    no : [] ≡ plan_of x ∷ map plan_of xs → ⊥
    no e = cc
same_totals g rows (x ∷ xs) (y ∷ ys) is =
    let one = heads is in
    let first : g (get rows y.serial) ≡ g (get rows x.serial) = ap (λ (p : UnitPlan). g (get rows p.serial)) one.0 in
    let rest = same_totals g rows xs ys one.1 in
    omega arith
  where
    heads : plan_of y ∷ map plan_of ys ≡ plan_of x ∷ map plan_of xs → (plan_of y ≡ plan_of x) × (map plan_of ys ≡ map plan_of xs)
    heads e = (cc, cc)

pub serials_are : (xs : List OnFibre) → map (λ (x : OnFibre). x.serial) xs ≡ map (λ (p : UnitPlan). p.serial) (map plan_of xs)
serials_are [] = refl
serials_are (x ∷ xs) = ap (λ (ss : List Serial). x.serial ∷ ss) (serials_are xs)

-- what is asked of a unit
pub record IsFit (c : PortConfig) (p : UnitPlan) : Type 0 where
  pub admitted : is_among p.serial c.admitted ≡ true
  pub near : p.delay / frame_bit_times ≤ 2
  pub reach : p.delay ≤ c.teqd
  pub long : length p.serial.0 ≡ 8
  pub short : p.random ≤ 4095

cools : (cooling : List ℕ) → ((n : ℕ) → get_or cooling n 0 ≡ 0) → (n : ℕ) → get_or (cooled cooling) n 0 ≡ 0
cools [] cool n = refl_none n
  where
    refl_none : (n : ℕ) → get_or (cooled []) n 0 ≡ 0
    refl_none zero = refl
    refl_none (suc n) = refl
cools (x ∷ xs) cool zero = let none = cool 0 in omega arith
cools (x ∷ xs) cool (suc n) = cools xs (λ k. cool (suc k)) n

module _ (c : PortConfig) (plans : List UnitPlan) (licences : ℕ) (one : HearsOneThing) (trip : RoundTrip) (keeps : KeepsSound)
    (distinct : is_distinct (map (λ (p : UnitPlan). p.serial) plans) ≡ true) (licensed : length plans ≤ licences) (numbered : length plans ≤ c.max_units) (few : length plans ≤ 254) (fits : All (IsFit c) plans) where
  abbrev These : List OnFibre → Type 0
  These xs = map plan_of xs ≡ plans

  pub distinct_of : (xs : List OnFibre) → These xs → is_distinct (map (λ (x : OnFibre). x.serial) xs) ≡ true
  distinct_of xs is = ap is_distinct (serials_are xs ∙ ap (λ (ps : List UnitPlan). map (λ (p : UnitPlan). p.serial) ps) is) ∙ distinct

  pub many_of : (xs : List OnFibre) → These xs → length xs ≡ length plans
  many_of xs is = sym (length-map xs plan_of) ∙ ap (λ (ps : List UnitPlan). length ps) is

  -- a burst that is to come, for these units
  abbrev Comes : ℕ → (xs : List OnFibre) → These xs → List SentBurst → Rows → Pending → Type 0
  Comes frames xs these = IsPending c frames one trip xs licences (distinct_of xs these) (let n = many_of xs these in omega arith) (let n = many_of xs these in omega arith) (let n = many_of xs these in omega arith)

  -- ---- what a frame sends, if anything

  pub record MayHear (rows : Rows) (owed : List Down) (frames : ℕ) (xs : List OnFibre) : Type 0 where
    pub ys : List OnFibre
    pub untold : List Down
    pub hear : units_hearing (first_of owed) (map (unit_of c.mask) xs) ≡ map (unit_of c.mask) ys
    pub plans_are : map plan_of ys ≡ map plan_of xs
    pub owed_is : AreOwed (drop 1 owed) untold
    pub backed : (m : Down) → Contains (drop 1 owed) m → IsBacked rows m
    pub linked : All (IsLinked c rows untold frames) ys

  pub may_hear : (rows : Rows) (owed ms : List Down) (frames : ℕ) (xs : List OnFibre) → AreApart rows → AreOwed owed ms → ((m : Down) → Contains owed m → IsBacked rows m) → All (IsLinked c rows ms frames) xs → MayHear rows owed frames xs
  may_hear rows [] ms frames xs apart owes backed linked =
      record { ys = xs; untold = ms; hear = refl; plans_are = refl; owed_is = owes; backed = backed; linked = linked }
  may_hear rows (m ∷ rest) ms frames xs apart owes backed linked =
      let s = sends m rest ms owes in
      let h = all_hear c rows apart frames m ms s.untold xs (backed m (0, omega arith, refl)) s.tells linked in
      record {
        ys = h.ys;
        untold = s.untold;
        hear = h.hear;
        plans_are = h.plans;
        owed_is = s.owed_is;
        backed = λ n has. backed n (suc has.0, let low = has.1 in omega arith, has.2);
        linked = h.linked;
      }

  -- each row is of one of these units
  abbrev pub Mine : Rows → List OnFibre → Type 0
  Mine rows xs = (t : Serial) (q : Row) → HasRow rows t q → is_among t (map (λ (x : OnFibre). x.serial) xs) ≡ true

  mine_still : (rows : Rows) (xs ys : List OnFibre) → map plan_of ys ≡ map plan_of xs → Mine rows xs → Mine rows ys
  mine_still rows xs ys is mine t q has =
      ap (λ (ss : List Serial). is_among t ss) (serials_are ys ∙ ap (λ (ps : List UnitPlan). map (λ (p : UnitPlan). p.serial) ps) is ∙ sym (serials_are xs)) ∙ mine t q has

  -- ---- the phases

  -- a search window is open
  pub record Searching (w : WorldState) (m : ℕ) : Type 0 where
    pub timer : ℕ
    pub cooling : List ℕ
    pub cool : (n : ℕ) → get_or cooling n 0 ≡ 0
    pub cycles : ℕ
    pub left : ℕ
    pub rows : Rows
    pub seen : Bool
    pub owed : List Down
    pub untold : List Down
    pub xs : List OnFibre
    pub these : These xs
    pub pending : List Pending
    pub frames : ℕ
    pub port_is : w.fibre.port ≡ port_at c rows (Acquisition cycles) false timer (Some (window_of Search (suc left) seen)) owed cooling
    pub units_is : w.fibre.units ≡ map (unit_of c.mask) xs
    pub searching : IsSearching c frames xs licences cycles (total_by weight_of rows xs + length owed) rows owed untold w.fibre.free
    pub flights_is : w.flights ≡ map flight_of pending
    pub comes : All (Comes frames xs these w.fibre.bursts rows) pending
    pub differ : AllDiffer pending
    pub due : All (λ (p : Pending). (w.frames ≤ p.due) × (p.due + 2 ≤ w.frames + suc left)) pending
    pub room : HasRoom c frames one trip xs licences (distinct_of xs these) (let n = many_of xs these in omega arith) (let n = many_of xs these in omega arith) (let n = many_of xs these in omega arith) cycles rows (length pending)
    pub sound : IsSound w.fibre.port
    pub measure : m ≡ 4 * cycles + suc left + total_by weight_of rows xs + length owed
    pub soon : frames + m ≤ 79000

  -- no window is open and no burst is to come: copies are sent, or the port decides
  pub record Between (w : WorldState) (m : ℕ) : Type 0 where
    pub timer : ℕ
    pub cooling : List ℕ
    pub cool : (n : ℕ) → get_or cooling n 0 ≡ 0
    pub common : Common
    pub cycles : ℕ
    pub common_is : (common ≡ Acquisition cycles) ⊎ ((common ≡ Measuring) × (cycles ≡ 0))
    pub rows : Rows
    pub owed : List Down
    pub untold : List Down
    pub xs : List OnFibre
    pub these : These xs
    pub frames : ℕ
    pub port_is : w.fibre.port ≡ port_at c rows common false timer None owed cooling
    pub units_is : w.fibre.units ≡ map (unit_of c.mask) xs
    pub linked : All (IsLinked c rows untold frames) xs
    pub owed_is : AreOwed owed untold
    pub backed : (m : Down) → Contains owed m → IsBacked rows m
    pub licensed_is : w.fibre.free + len rows ≡ licences
    pub known : len rows + total_by count_new rows xs ≡ length xs
    pub few_new : total_by count_new rows xs ≤ 63 * cycles
    pub mine : Mine rows xs
    pub quiet : w.flights ≡ []
    pub sound : IsSound w.fibre.port
    pub measure : m ≡ 4 * cycles + total_by weight_of rows xs + length owed
    pub soon : frames + m ≤ 79000

  none_pending : (w : WorldState) (ps : List Pending) → All (λ (p : Pending). (w.frames ≤ p.due) × (p.due + 2 ≤ w.frames + 1)) ps → ps ≡ []
  none_pending w [] all = refl
  none_pending w (p ∷ ps) all = absurd (let h = All-head (λ (p : Pending). (w.frames ≤ p.due) × (p.due + 2 ≤ w.frames + 1)) p ps all in let a = h.0 in let b = h.1 in omega arith)

  length-drop1 : (owed : List Down) → length (drop 1 owed) ≤ length owed
  length-drop1 [] = omega arith
  length-drop1 (m ∷ ms) = omega arith

  -- the search window closes: no burst is to come any more
  pub search_ends : (old new : WorldState) (entries : List Entry) (m : ℕ) → FrameRuns [] [] old entries new → (h : Searching old m) → h.left ≡ 0 → (n : ℕ) × (n < m) × Between new n
  search_ends old new entries m frame h last =
      let parts = frame_parts old new entries frame in
      let at = h.port_is ∙ ap (λ (k : ℕ). port_at c h.rows (Acquisition h.cycles) false h.timer (Some (window_of Search (suc k) h.seen)) h.owed h.cooling) last in
      let st = subst (λ (p : PortState). IsStep p parts.entry parts.sent.port) at parts.takes.step in
      let it = search_closes c h.rows h.timer h.cooling parts.entry parts.sent.port parts.takes.event_is h.cycles h.seen h.owed st in
      let hear = may_hear h.rows h.owed h.untold h.frames h.xs (apart_of old.fibre.port h.rows (ap (λ (p : PortState). p.rows) h.port_is) h.sound) h.searching.owed_is h.searching.backed h.searching.linked in
      let x = settled old new parts (first_of h.owed) None _ (map (unit_of c.mask) h.xs) h.units_is it in
      let none : h.pending ≡ [] = none_pending old h.pending (subst (λ (k : ℕ). All (λ (p : Pending). (old.frames ≤ p.due) × (p.due + 2 ≤ old.frames + suc k)) h.pending) last h.due) in
      let no_flights : old.flights ++ [] ≡ [] = append-nil old.flights ∙ h.flights_is ∙ ap (λ (ps : List Pending). map flight_of ps) none in
      let ends = nothing_comes old new _ _ _ _ no_flights x in
      let after : new.fibre ≡ world_after_frame x.answered = x.ends ∙ ap (λ (v : FibreWorld). world_after_frame v) ends.0 in
      let measure = h.measure in
      let soon = h.soon in
      let tick = all_tick c h.rows hear.untold h.frames hear.ys (omega arith) hear.linked in
      let weights = same_totals weight_of h.rows h.xs tick.ys (tick.plans ∙ hear.plans_are) in
      let news = same_totals count_new h.rows h.xs tick.ys (tick.plans ∙ hear.plans_are) in
      let these : These tick.ys = tick.plans ∙ hear.plans_are ∙ h.these in
      let many = many_of h.xs h.these in
      let many_now = many_of tick.ys these in
      let known = h.searching.known in
      let fewer = length-drop1 h.owed in
      let free : new.fibre.free ≡ old.fibre.free = ap (λ (v : FibreWorld). v.free) after ∙ x.free_is in
      let all = h.searching.licensed in (
        4 * h.cycles + total_by weight_of h.rows tick.ys + length (drop 1 h.owed),
        omega arith,
        record {
          timer = h.timer;
          cooling = cooled h.cooling;
          cool = cools h.cooling h.cool;
          common = Acquisition h.cycles;
          cycles = h.cycles;
          common_is = inl refl;
          rows = h.rows;
          owed = drop 1 h.owed;
          untold = hear.untold;
          xs = tick.ys;
          these = these;
          frames = h.frames + 1;
          port_is = ap (λ (v : FibreWorld). v.port) after ∙ x.port_is;
          units_is =
              ap (λ (v : FibreWorld). v.units) after
              ∙ ap (λ (us : List FibreUnit). map (unit_taking Frame) us) (x.units_is ∙ hear.hear)
              ∙ tick.tick;
          linked = tick.linked;
          owed_is = hear.owed_is;
          backed = hear.backed;
          licensed_is = omega arith;
          known = omega arith;
          few_new = no_new (total_by count_new h.rows tick.ys) news (subst (λ (ps : List Pending). (total_by count_new h.rows h.xs ≤ length ps) ⊎ (total_by count_new h.rows h.xs ≤ 63 * h.cycles)) none h.room);
          mine = mine_still h.rows h.xs tick.ys (tick.plans ∙ hear.plans_are) h.searching.mine;
          quiet = ends.1;
          sound = sound_after keeps old new entries frame h.sound;
          measure = refl;
          soon = omega arith;
        },
      )
    where
      no_new : (n : ℕ) → n ≡ total_by count_new h.rows h.xs → (total_by count_new h.rows h.xs ≤ 0) ⊎ (total_by count_new h.rows h.xs ≤ 63 * h.cycles) → n ≤ 63 * h.cycles
      no_new n is (inl none) = omega arith
      no_new n is (inr low) = omega arith

  -- ---- a frame in which the search window stays open

  -- the same burst, for the same units in other stages
  comes_still : (frames later : ℕ) (xs ys : List OnFibre) (these : These xs) (those : These ys) (bursts : List SentBurst) (rows : Rows) (p : Pending) → Comes frames xs these bursts rows p → Comes later ys those bursts rows p
  comes_still frames later xs ys these those bursts rows p h =
      record {
        burst = h.burst;
        none = h.none;
        among =
            ap (λ (ss : List Serial). is_among p.serial ss) (serials_are ys ∙ ap (λ (ps : List UnitPlan). map (λ (q : UnitPlan). q.serial) ps) (those ∙ sym these) ∙ sym (serials_are xs))
            ∙ h.among;
        admitted = h.admitted;
        long = h.long;
        short = h.short;
      }

  -- the search window is open once the units have heard and answered: the bursts that are due come
  pub landing : (old new : WorldState) (entries : List Entry) (m timer cycles left : ℕ) (cooling : List ℕ) (rows : Rows) (seen : Bool) (owed untold : List Down) (ys : List OnFibre) (these : These ys) (pending : List Pending) (bs : List SentBurst)
      (fs : List Flight) (frames : ℕ)
      → FrameRuns [] [] old entries new
      → ((n : ℕ) → get_or cooling n 0 ≡ 0)
      → (x : Settled old new (port_at c rows (Acquisition cycles) false timer (Some (window_of Search (suc left) seen)) owed cooling) (map (unit_of c.mask) ys) bs fs)
      → fs ≡ map flight_of pending
      → IsSearching c frames ys licences cycles (total_by weight_of rows ys + length owed) rows owed untold old.fibre.free
      → All (Comes frames ys these bs rows) pending
      → AllDiffer pending
      → All (λ (p : Pending). (old.frames ≤ p.due) × (p.due + 1 ≤ old.frames + suc left)) pending
      → ((total_by count_new rows ys ≤ length pending) ⊎ (total_by count_new rows ys ≤ 63 * cycles))
      → IsSound old.fibre.port
      → 4 * cycles + suc left + total_by weight_of rows ys + length owed < m
      → frames + m ≤ 79000
      → (n : ℕ) × (n < m) × Searching new n
  landing old new entries m timer cycles left cooling rows seen owed untold ys these pending bs fs frames frame cool x fs_are h comes differ due room sound less soon =
      let n = many_of ys these in
      let run = subst (λ (gs : List Flight). FibreRun x.answered (arrivals [] old.frames gs) x.more x.arrived) fs_are x.arrives in
      let r = land c frames one trip ys licences (distinct_of ys these) (omega arith) (omega arith) (omega arith) old.frames (total_by weight_of rows ys + length owed) cycles timer (suc left) cooling pending [] x.answered x.arrived x.more rows seen owed untold
      cool run x.port_is
      (subst (λ (k : ℕ). IsSearching c frames ys licences cycles (total_by weight_of rows ys + length owed) rows owed untold k) (sym x.free_is) h)
      (subst (λ (zs : List SentBurst). All (Comes frames ys these zs rows) pending) (sym x.bursts_is) comes)
      (All-nil (Comes frames ys these x.answered.bursts rows)) differ (All-nil _)
      (subst (λ (k : ℕ). (total_by count_new rows ys ≤ k) ⊎ (total_by count_new rows ys ≤ 63 * cycles)) (let none : length pending ≡ 0 + length pending = omega arith in none) room) in
      let tick = all_tick c r.rows r.untold frames ys (omega arith) r.searching.linked in
      let those : These tick.ys = tick.plans ∙ these in
      let weights = same_totals weight_of r.rows ys tick.ys tick.plans in
      let news = same_totals count_new r.rows ys tick.ys tick.plans in
      let n_now = many_of tick.ys those in
      let weighs = r.searching.weighs in
      let known = r.searching.known in
      let roomy = r.searching.room in
      let next = x.frames in (
        4 * cycles + suc left + total_by weight_of r.rows tick.ys + length r.owed,
        omega arith,
        record {
          timer = timer;
          cooling = cooling;
          cool = cool;
          cycles = cycles;
          left = left;
          rows = r.rows;
          seen = r.seen;
          owed = r.owed;
          untold = r.untold;
          xs = tick.ys;
          these = those;
          pending = later_than old.frames pending;
          frames = frames + 1;
          port_is = ap (λ (v : FibreWorld). v.port) x.ends ∙ r.port_is;
          units_is =
              ap (λ (v : FibreWorld). v.units) x.ends
              ∙ ap (λ (us : List FibreUnit). map (unit_taking Frame) us) (r.units_is ∙ x.units_is)
              ∙ tick.tick;
          searching =
              subst (λ (w : FibreWorld). IsSearching c (frames + 1) tick.ys licences cycles (total_by weight_of r.rows tick.ys + length r.owed) r.rows r.owed r.untold w.free) (sym x.ends)
              (record {
                linked = tick.linked;
                owed_is = r.searching.owed_is;
                backed = r.searching.backed;
                licensed = r.searching.licensed;
                known = omega arith;
                weighs = refl;
                mine = mine_still r.rows ys tick.ys tick.plans r.searching.mine;
                room = omega arith;
              });
          flights_is = x.left ∙ ap (λ (gs : List Flight). flights_after old.frames gs) fs_are ∙ left_flights old.frames pending;
          comes =
              All-weaker (Comes frames ys these x.arrived.bursts r.rows) (Comes (frames + 1) tick.ys those new.fibre.bursts r.rows)
              (λ p here.
              subst (λ (w : FibreWorld). Comes (frames + 1) tick.ys those w.bursts r.rows p) (sym x.ends) (comes_still frames (frames + 1) ys tick.ys these those x.arrived.bursts r.rows p here)) (later_than old.frames pending) r.later_are;
          differ = later_differ old.frames pending differ;
          due = due_later next pending due;
          room = room_now (total_by count_new r.rows tick.ys) news r.room;
          sound = sound_after keeps old new entries frame sound;
          measure = refl;
          soon = omega arith;
        },
      )
    where
      room_now : (n : ℕ) {k : ℕ} {l : ℕ} → n ≡ k → (k ≤ 0 + l) ⊎ (k ≤ 63 * cycles) → (n ≤ l) ⊎ (n ≤ 63 * cycles)
      room_now n is (inl a) = inl (omega arith)
      room_now n is (inr a) = inr (omega arith)

      due_later : new.frames ≡ old.frames + 1 → (ps : List Pending) → All (λ (p : Pending). (old.frames ≤ p.due) × (p.due + 1 ≤ old.frames + suc left)) ps
          → All (λ (p : Pending). (new.frames ≤ p.due) × (p.due + 2 ≤ new.frames + suc left)) (later_than old.frames ps)
      due_later next [] all = All-nil (λ (p : Pending). (new.frames ≤ p.due) × (p.due + 2 ≤ new.frames + suc left))
      due_later next (p ∷ ps) all = by (due_later next ps (All-tail (λ (q : Pending). (old.frames ≤ q.due) × (q.due + 1 ≤ old.frames + suc left)) p ps all)) (p.due == old.frames) refl
        where
          by : All (λ (q : Pending). (new.frames ≤ q.due) × (q.due + 2 ≤ new.frames + suc left)) (later_than old.frames ps) → (b : Bool) → p.due == old.frames ≡ b
              → All (λ (q : Pending). (new.frames ≤ q.due) × (q.due + 2 ≤ new.frames + suc left)) (later_than old.frames (p ∷ ps))
          by rest true is = rw is rest
          by rest false is =
              let h = All-head (λ (q : Pending). (old.frames ≤ q.due) × (q.due + 1 ≤ old.frames + suc left)) p ps all in
              let a = h.0 in
              let e = h.1 in
              let out = eqb-false p.due old.frames is in
              rw is (All-cons (λ (q : Pending). (new.frames ≤ q.due) × (q.due + 2 ≤ new.frames + suc left)) p (later_than old.frames ps) (omega arith, omega arith) rest)

  -- the window goes on
  pub search_goes : (old new : WorldState) (entries : List Entry) (m l : ℕ) → FrameRuns [] [] old entries new → (h : Searching old m) → h.left ≡ suc l → (n : ℕ) × (n < m) × Searching new n
  search_goes old new entries m l frame h more =
      let parts = frame_parts old new entries frame in
      let at = h.port_is ∙ ap (λ (k : ℕ). port_at c h.rows (Acquisition h.cycles) false h.timer (Some (window_of Search (suc k) h.seen)) h.owed h.cooling) more in
      let st = subst (λ (p : PortState). IsStep p parts.entry parts.sent.port) at parts.takes.step in
      let it = search_goes_on c h.rows h.timer h.cooling parts.entry parts.sent.port parts.takes.event_is h.cycles (suc (suc l)) h.seen h.owed (ne_eqb (suc (suc l)) 1 (λ e. omega arith)) st in
      let less : suc (suc l) - 1 ≡ suc l = omega arith in
      let after = port_at c h.rows (Acquisition h.cycles) false h.timer (Some (window_of Search (suc l) h.seen)) (drop 1 h.owed) (cooled h.cooling) in
      let it_is : Makes parts.entry parts.sent.port parts.entry.purse_in (first_of h.owed) None after =
      subst (λ (k : ℕ). Makes parts.entry parts.sent.port parts.entry.purse_in (first_of h.owed) None (port_at c h.rows (Acquisition h.cycles) false h.timer (Some (window_of Search k h.seen)) (drop 1 h.owed) (cooled h.cooling))) less it in
      let hear = may_hear h.rows h.owed h.untold h.frames h.xs (apart_of old.fibre.port h.rows (ap (λ (p : PortState). p.rows) h.port_is) h.sound) h.searching.owed_is h.searching.backed h.searching.linked in
      let x = settled old new parts (first_of h.owed) None after (map (unit_of c.mask) h.xs) h.units_is it_is in
      let these : These hear.ys = hear.plans_are ∙ h.these in
      let weights = same_totals weight_of h.rows h.xs hear.ys hear.plans_are in
      let news = same_totals count_new h.rows h.xs hear.ys hear.plans_are in
      let many = many_of h.xs h.these in
      let many_now = many_of hear.ys these in
      let known = h.searching.known in
      let all = h.searching.licensed in
      let room = h.searching.room in
      let fewer = length-drop1 h.owed in
      let measure = h.measure in
      let soon = h.soon in
      let y : Settled old new after (map (unit_of c.mask) hear.ys) (old.fibre.bursts ++ []) (old.flights ++ []) = subst (λ (us : List FibreUnit). Settled old new after us (old.fibre.bursts ++ []) (old.flights ++ [])) hear.hear x in
      landing old new entries m h.timer h.cycles l (cooled h.cooling) h.rows h.seen (drop 1 h.owed) hear.untold hear.ys these h.pending (old.fibre.bursts ++ []) (old.flights ++ []) h.frames frame (cools h.cooling h.cool) y
      (append-nil old.flights ∙ h.flights_is)
      (record {
        linked = hear.linked;
        owed_is = hear.owed_is;
        backed = hear.backed;
        licensed = all;
        known = omega arith;
        weighs = refl;
        mine = mine_still h.rows h.xs hear.ys hear.plans_are h.searching.mine;
        room = omega arith;
      })
      (All-weaker (Comes h.frames h.xs h.these old.fibre.bursts h.rows) (Comes h.frames hear.ys these (old.fibre.bursts ++ []) h.rows)
      (λ p here.
      subst (λ (bs : List SentBurst). Comes h.frames hear.ys these bs h.rows p) (sym (append-nil old.fibre.bursts)) (comes_still h.frames h.frames h.xs hear.ys h.these these old.fibre.bursts h.rows p here)) h.pending h.comes)
      h.differ
      (All-weaker (λ (p : Pending). (old.frames ≤ p.due) × (p.due + 2 ≤ old.frames + suc h.left)) (λ (p : Pending). (old.frames ≤ p.due) × (p.due + 1 ≤ old.frames + suc l))
      (λ p here. (here.0, let b = here.1 in omega arith)) h.pending h.due)
      (room_now (total_by count_new h.rows hear.ys) news h.room)
      h.sound (omega arith) (omega arith)
    where
      room_now : (n : ℕ) → n ≡ total_by count_new h.rows h.xs → (total_by count_new h.rows h.xs ≤ length h.pending) ⊎ (total_by count_new h.rows h.xs ≤ 63 * h.cycles) → (n ≤ length h.pending) ⊎ (n ≤ 63 * h.cycles)
      room_now n is (inl a) = inl (omega arith)
      room_now n is (inr a) = inr (omega arith)

  -- a search window opens, and the units that have no row answer
  pub search_starts : (old new : WorldState) (entries : List Entry) (m k : ℕ) → FrameRuns [] [] old entries new → (h : Between old m) → h.owed ≡ [] → h.cycles ≡ suc k → (n : ℕ) × (n < m) × Searching new n
  search_starts old new entries m k frame h none some = by h.common_is
    where
      by : (h.common ≡ Acquisition h.cycles) ⊎ ((h.common ≡ Measuring) × (h.cycles ≡ 0)) → (n : ℕ) × (n < m) × Searching new n
      by (inr other) = absurd (let zero_cycles = other.1 in omega arith)
      by (inl is) =
          let parts = frame_parts old new entries frame in
          let at = h.port_is
          ∙ ap (λ (x : Common). port_at c h.rows x false h.timer None h.owed h.cooling) is
          ∙ ap (λ (n : ℕ). port_at c h.rows (Acquisition n) false h.timer None h.owed h.cooling) some
          ∙ ap (λ (ms : List Down). port_at c h.rows (Acquisition (suc k)) false h.timer None ms h.cooling) none in
          let st = subst (λ (p : PortState). IsStep p parts.entry parts.sent.port) at parts.takes.step in
          let it = search_opens c h.rows h.timer h.cooling parts.entry parts.sent.port parts.takes.event_is k st in
          let told = none_untold h.owed h.untold none h.owed_is in
          let linked : All (IsLinked c h.rows [] h.frames) h.xs = subst (λ (ms : List Down). All (IsLinked c h.rows ms h.frames) h.xs) told h.linked in
          let said = all_answer c h.rows old.frames h.frames h.xs old.fibre.bursts (distinct_of h.xs h.these) linked in
          let x = settled old new parts None (Some Search) _ (map (unit_of c.mask) h.xs) h.units_is it in
          let after = port_at c h.rows (Acquisition k) false h.timer (Some (window_of Search 3 false)) [] (cooled h.cooling) in
          let bs = old.fibre.bursts ++ answers_given (Some Search) (map (unit_of c.mask) h.xs) in
          let fs = old.flights ++ flights_of old.frames (length old.fibre.bursts) (answers_given (Some Search) (map (unit_of c.mask) h.xs)) in
          let y : Settled old new after (map (unit_of c.mask) h.xs) bs fs = subst (λ (us : List FibreUnit). Settled old new after us bs fs) said.stay x in
          let owed_none : length h.owed ≡ 0 = ap (λ (ms : List Down). length ms) none in
          let few_new = h.few_new in
          let measure = h.measure in
          let soon = h.soon in
          landing old new entries m h.timer k 2 (cooled h.cooling) h.rows false [] [] h.xs h.these said.ps bs fs h.frames frame (cools h.cooling h.cool) y
          (ap (λ (gs : List Flight). gs ++ flights_of old.frames (length old.fibre.bursts) (answers_given (Some Search) (map (unit_of c.mask) h.xs))) h.quiet ∙ said.flights)
          (record {
            linked = linked;
            owed_is = record { begun = NoMessage; left = 0; few = omega arith; are = refl };
            backed = λ n has. absurd (let low = has.1 in omega arith);
            licensed = h.licensed_is;
            known = h.known;
            weighs = refl;
            mine = h.mine;
            room = omega arith;
          })
          (All-weaker (Answer c h.rows old.frames bs h.xs) (Comes h.frames h.xs h.these bs h.rows) (λ p a. comes_of bs p a (fit_of p a)) said.ps said.answers)
          said.differ
          (All-weaker (Answer c h.rows old.frames bs h.xs) (λ (p : Pending). (old.frames ≤ p.due) × (p.due + 1 ≤ old.frames + 3))
          (λ p a. let due = a.due in let fit = fit_of p a in let near = fit.near in (omega arith, omega arith)) said.ps said.answers)
          (inl said.many)
          h.sound (omega arith) (omega arith)
        where
          fit_of : (p : Pending) {bs : List SentBurst} → Answer c h.rows old.frames bs h.xs p → IsFit c (record { serial = p.serial; delay = p.delay; random = p.random })
          fit_of p a =
              let from = subst (λ (ps : List UnitPlan). Contains ps (record { serial = p.serial; delay = p.delay; random = p.random })) h.these a.from in
              subst (λ (q : UnitPlan). IsFit c q) from.2 (fits from.0 (record { serial = p.serial; delay = p.delay; random = p.random }) from.1)

          comes_of : (bs : List SentBurst) (p : Pending) → Answer c h.rows old.frames bs h.xs p → IsFit c (record { serial = p.serial; delay = p.delay; random = p.random }) → Comes h.frames h.xs h.these bs h.rows p
          comes_of bs p a fit =
              record { burst = a.burst; none = a.none; among = a.among; admitted = fit.admitted; long = fit.long; short = fit.short }

  -- ---- a frame in which a copy is sent, and no window is open

  pub between_sends : (old new : WorldState) (entries : List Entry) (m : ℕ) (copy : Down) (rest : List Down) → FrameRuns [] [] old entries new → (h : Between old m) → h.owed ≡ copy ∷ rest → (n : ℕ) × (n < m) × Between new n
  between_sends old new entries m copy rest frame h some =
      let parts = frame_parts old new entries frame in
      let at = h.port_is ∙ ap (λ (ms : List Down). port_at c h.rows h.common false h.timer None ms h.cooling) some in
      let st = subst (λ (p : PortState). IsStep p parts.entry parts.sent.port) at parts.takes.step in
      let it = sent_by parts h.common st h.common_is in
      let owes = subst (λ (ms : List Down). AreOwed ms h.untold) some h.owed_is in
      let backs = subst (λ (ms : List Down). (n : Down) → Contains ms n → IsBacked h.rows n) some h.backed in
      let hear = may_hear h.rows (copy ∷ rest) h.untold h.frames h.xs (apart_of old.fibre.port h.rows (ap (λ (p : PortState). p.rows) h.port_is) h.sound) owes backs h.linked in
      let x = settled old new parts (Some copy) None _ (map (unit_of c.mask) h.xs) h.units_is it in
      let no_flights : old.flights ++ [] ≡ [] = append-nil old.flights ∙ h.quiet in
      let ends = nothing_comes old new _ _ _ _ no_flights x in
      let after : new.fibre ≡ world_after_frame x.answered = x.ends ∙ ap (λ (v : FibreWorld). world_after_frame v) ends.0 in
      let measure = h.measure in
      let soon = h.soon in
      let long : length h.owed ≡ suc (length rest) = ap (λ (ms : List Down). length ms) some in
      let tick = all_tick c h.rows hear.untold h.frames hear.ys (omega arith) hear.linked in
      let weights = same_totals weight_of h.rows h.xs tick.ys (tick.plans ∙ hear.plans_are) in
      let news = same_totals count_new h.rows h.xs tick.ys (tick.plans ∙ hear.plans_are) in
      let these : These tick.ys = tick.plans ∙ hear.plans_are ∙ h.these in
      let many = many_of h.xs h.these in
      let many_now = many_of tick.ys these in
      let known = h.known in
      let low = h.few_new in
      let free : new.fibre.free ≡ old.fibre.free = ap (λ (v : FibreWorld). v.free) after ∙ x.free_is in
      let all = h.licensed_is in (
        4 * h.cycles + total_by weight_of h.rows tick.ys + length rest,
        omega arith,
        record {
          timer = h.timer;
          cooling = cooled h.cooling;
          cool = cools h.cooling h.cool;
          common = h.common;
          cycles = h.cycles;
          common_is = h.common_is;
          rows = h.rows;
          owed = rest;
          untold = hear.untold;
          xs = tick.ys;
          these = these;
          frames = h.frames + 1;
          port_is = ap (λ (v : FibreWorld). v.port) after ∙ x.port_is;
          units_is =
              ap (λ (v : FibreWorld). v.units) after
              ∙ ap (λ (us : List FibreUnit). map (unit_taking Frame) us) (x.units_is ∙ hear.hear)
              ∙ tick.tick;
          linked = tick.linked;
          owed_is = hear.owed_is;
          backed = hear.backed;
          licensed_is = omega arith;
          known = omega arith;
          few_new = omega arith;
          mine = mine_still h.rows h.xs tick.ys (tick.plans ∙ hear.plans_are) h.mine;
          quiet = ends.1;
          sound = sound_after keeps old new entries frame h.sound;
          measure = refl;
          soon = omega arith;
        },
      )
    where
      sent_by : (parts : FrameParts old new) (common : Common) → IsStep (port_at c h.rows common false h.timer None (copy ∷ rest) h.cooling) parts.entry parts.sent.port → (common ≡ Acquisition h.cycles) ⊎ ((common ≡ Measuring) × (h.cycles ≡ 0))
          → Makes parts.entry parts.sent.port parts.entry.purse_in (Some copy) None (port_at c h.rows common false h.timer None rest (cooled h.cooling))
      sent_by parts common st (inl is) =
          subst (λ (x : Common). Makes parts.entry parts.sent.port parts.entry.purse_in (Some copy) None (port_at c h.rows x false h.timer None rest (cooled h.cooling))) (sym is)
          (acquiring_sends c h.rows h.timer h.cooling parts.entry parts.sent.port parts.takes.event_is h.cycles copy rest
          (subst (λ (x : Common). IsStep (port_at c h.rows x false h.timer None (copy ∷ rest) h.cooling) parts.entry parts.sent.port) is st))
      sent_by parts common st (inr is) =
          subst (λ (x : Common). Makes parts.entry parts.sent.port parts.entry.purse_in (Some copy) None (port_at c h.rows x false h.timer None rest (cooled h.cooling))) (sym is.0)
          (measuring_sends c h.rows h.timer h.cooling parts.entry parts.sent.port parts.takes.event_is copy rest
          (subst (λ (x : Common). IsStep (port_at c h.rows x false h.timer None (copy ∷ rest) h.cooling) parts.entry parts.sent.port) is.0 st))

  -- ---- a ranging window

  -- the burst of the unit that is asked is to come
  pub record RangesOne (w : WorldState) (m : ℕ) : Type 0 where
    pub timer : ℕ
    pub cooling : List ℕ
    pub cool : (n : ℕ) → get_or cooling n 0 ≡ 0
    pub left : ℕ
    pub rows : Rows
    pub xs : List OnFibre
    pub these : These xs
    pub frames : ℕ
    pub serial : Serial
    pub onu : ℕ
    pub delay : ℕ
    pub number : ℕ
    pub due : ℕ
    pub port_is : w.fibre.port ≡ port_at c rows Measuring false timer (Some (window_of (Range onu) (suc left) false)) [] cooling
    pub units_is : w.fibre.units ≡ map (unit_of c.mask) xs
    pub linked : All (IsLinked c rows [] frames) xs
    pub licensed_is : w.fibre.free + len rows ≡ licences
    pub known : len rows + total_by count_new rows xs ≡ length xs
    pub none_new : total_by count_new rows xs ≤ 0
    pub mine : Mine rows xs
    pub its : HasRow rows serial (new_row onu)
    pub delays : All (λ (p : UnitPlan). same_serial serial p.serial ≡ true → p.delay ≡ delay) plans
    pub reach : delay ≤ c.teqd
    pub long : length serial.0 ≡ 8
    pub flights_is : w.flights ≡ one_flight number due
    pub burst : slice_get w.fibre.bursts number ≡ Some (burst_with delay (code_of_up (serial_number onu serial 0 0) (mask_value c.mask)))
    pub later : w.frames ≤ due
    pub within : due + 2 ≤ w.frames + suc left
    pub sound : IsSound w.fibre.port
    pub measure : w.frames + m + 6 ≡ due + 4 + total_by weight_of rows xs
    pub soon : frames + m ≤ 79000

  -- what holds of plans holds of the units
  of_plans : (P : UnitPlan → Type 0) (xs : List OnFibre) → All P (map plan_of xs) → All (λ (x : OnFibre). P (plan_of x)) xs
  of_plans P [] all = All-nil (λ (x : OnFibre). P (plan_of x))
  of_plans P (x ∷ xs) all = All-cons (λ (x : OnFibre). P (plan_of x)) x xs (All-head P (plan_of x) (map plan_of xs) all) (of_plans P xs (All-tail P (plan_of x) (map plan_of xs) all))

  onto_plans : (P : UnitPlan → Type 0) (xs : List OnFibre) → All (λ (x : OnFibre). P (plan_of x)) xs → All P (map plan_of xs)
  onto_plans P [] all = All-nil P
  onto_plans P (x ∷ xs) all = All-cons P (plan_of x) (map plan_of xs) (All-head (λ (x : OnFibre). P (plan_of x)) x xs all) (onto_plans P xs (All-tail (λ (x : OnFibre). P (plan_of x)) x xs all))

  -- the port measures the unit that is asked
  pub measures_one : (s : Serial) (onu d : ℕ) (rows : Rows) (t left : ℕ) (cooling : List ℕ) (a b : FibreWorld) (e : Entry) → AreApart rows → HasRow rows s (new_row onu) → length s.0 ≡ 8 → d ≤ c.teqd
      → a.port ≡ port_at c rows Measuring false t (Some (window_of (Range onu) left false)) [] cooling
      → PortTakes a (event.Burst d (code_of_up (serial_number onu s 0 0) (mask_value c.mask))) e b
      → (b.port ≡ port_at c (insert rows s (row_measured (new_row onu) (c.teqd - d))) Measuring false t None (all_copies (RangingTime onu (c.teqd - d))) cooling) × (b.free ≡ a.free)
  measures_one s onu d rows t left cooling a b e apart has long reach port takes =
      let p = port_at c rows Measuring false t (Some (window_of (Range onu) left false)) [] cooling in
      let m : Up = serial_number onu s 0 0 in
      let step = subst (λ (x : PortState). IsStep x e b.port) port takes.step in
      let reads = trip m (mask_value c.mask) (long, omega arith, omega arith) in
      let x = burst_step one p d (code_of_up m (mask_value c.mask)) m e b.port takes.event_is reads step in
      let it = finds_it rows s (new_row onu) has
      (λ y q its same.
      let is = sym (apart.apart s y (new_row onu) q has its (sym same)) in (is, one_row (new_row onu) q (sym has ∙ ap (λ (z : Serial). get rows z) (sym is) ∙ its))) in
      let near : equalization_delay c.teqd d ≡ Some (c.teqd - d) = ap (λ (z : Bool). cond z None (Some (c.teqd - d))) (le-ltb c.teqd d reach) in
      let says = measured e.purse_in p d (window_of (Range onu) left false) s (new_row onu) 0 refl refl it near refl in
      let outcome = x.outcome ∙ ap (λ (y : Response). step_result_with e.purse_in p None y x.picked) says in
      let purse : e.purse_out ≡ e.purse_in = ap (λ (y : StepResult). y.purse) outcome in
      let law = takes.free in
      (ap (λ (y : StepResult). y.state) outcome, omega arith)

  -- after a frame: the burst is still to come, or the unit is measured
  pub data Ranged (new : WorldState) (m : ℕ) : Type 0 where
    waits : (n : ℕ) → n < m → RangesOne new n → Ranged new m
    is_measured : (n : ℕ) → n < m → Between new n → Ranged new m

  pub ranging_lands : (old new : WorldState) (entries : List Entry) (m timer left : ℕ) (cooling : List ℕ) (rows : Rows) (xs : List OnFibre) (these : These xs) (frames : ℕ) (s : Serial) (onu d number due : ℕ) (bs : List SentBurst) (fs : List Flight)
      → FrameRuns [] [] old entries new
      → ((n : ℕ) → get_or cooling n 0 ≡ 0)
      → (x : Settled old new (port_at c rows Measuring false timer (Some (window_of (Range onu) (suc left) false)) [] cooling) (map (unit_of c.mask) xs) bs fs)
      → fs ≡ one_flight number due
      → slice_get bs number ≡ Some (burst_with d (code_of_up (serial_number onu s 0 0) (mask_value c.mask)))
      → AreApart rows
      → All (IsLinked c rows [] frames) xs
      → old.fibre.free + len rows ≡ licences
      → len rows + total_by count_new rows xs ≡ length xs
      → total_by count_new rows xs ≤ 0
      → Mine rows xs
      → HasRow rows s (new_row onu)
      → All (λ (p : UnitPlan). same_serial s p.serial ≡ true → p.delay ≡ d) plans
      → d ≤ c.teqd → length s.0 ≡ 8
      → old.frames ≤ due → due + 1 ≤ old.frames + suc left
      → due + 4 + total_by weight_of rows xs ≤ old.frames + m + 6
      → frames + m ≤ 79000 → 1 ≤ m
      → IsSound old.fibre.port
      → Ranged new m
  ranging_lands old new entries m timer left cooling rows xs these frames s onu d number due bs fs frame cool x fs_are burst apart linked free known none_new mine its delays reach long later within enough soon some sound =
      by (cases_Bool (due == old.frames))
    where
      among : is_among s (map (λ (x : OnFibre). x.serial) xs) ≡ true
      among = mine s (new_row onu) its

      by : (due == old.frames ≡ true) ⊎ (due == old.frames ≡ false) → Ranged new m
      by (inr out) =
          let differ = eqb-false due old.frames out in
          let comes = comes_later old new _ _ bs fs number due fs_are (omega arith) x in
          let after : new.fibre ≡ world_after_frame x.answered = x.ends ∙ ap (λ (v : FibreWorld). world_after_frame v) comes.0 in
          let tick = all_tick c rows [] frames xs (omega arith) linked in
          let weights = same_totals weight_of rows xs tick.ys tick.plans in
          let news = same_totals count_new rows xs tick.ys tick.plans in
          let those : These tick.ys = tick.plans ∙ these in
          let many = many_of xs these in
          let many_now = many_of tick.ys those in
          let next = x.frames in
          let free_now : new.fibre.free ≡ old.fibre.free = ap (λ (v : FibreWorld). v.free) after ∙ x.free_is in
          let heavy = weighs_some in
          Ranged.waits (due + 4 + total_by weight_of rows tick.ys - (new.frames + 6)) (omega arith)
          (record {
            timer = timer;
            cooling = cooling;
            cool = cool;
            left = left;
            rows = rows;
            xs = tick.ys;
            these = those;
            frames = frames + 1;
            serial = s;
            onu = onu;
            delay = d;
            number = number;
            due = due;
            port_is = ap (λ (v : FibreWorld). v.port) after ∙ x.port_is;
            units_is = ap (λ (v : FibreWorld). v.units) after ∙ ap (λ (us : List FibreUnit). map (unit_taking Frame) us) x.units_is ∙ tick.tick;
            linked = tick.linked;
            licensed_is = omega arith;
            known = omega arith;
            none_new = omega arith;
            mine = mine_still rows xs tick.ys tick.plans mine;
            its = its;
            delays = delays;
            reach = reach;
            long = long;
            flights_is = comes.1;
            burst = ap (λ (v : FibreWorld). slice_get v.bursts number) after ∙ ap (λ (zs : List SentBurst). slice_get zs number) x.bursts_is ∙ burst;
            later = omega arith;
            within = omega arith;
            sound = sound_after keeps old new entries frame sound;
            measure = omega arith;
            soon = omega arith;
          })
        where
          weighs_some : 6 ≤ total_by weight_of rows xs
          weighs_some = let t = total_put weight_of rows s (row_measured (new_row onu) 0) xs (distinct_of xs these) among in let w : weight_of (get rows s) ≡ 6 = ap weight_of its in omega arith
      by (inl is) =
          let now = eqb-true due old.frames is in
          let comes = comes_now old new _ _ bs fs number due (burst_with d (code_of_up (serial_number onu s 0 0) (mask_value c.mask))) fs_are now burst x in
          let row = row_measured (new_row onu) (c.teqd - d) in
          let put = insert rows s row in
          let it = measures_one s onu d rows timer (suc left) cooling x.answered x.arrived comes.entry apart its long reach x.port_is comes.takes in
          let tied : All (IsLinked c put (RangingTime onu (c.teqd - d) ∷ []) frames) xs = all_measured in
          let tick = all_tick c put (RangingTime onu (c.teqd - d) ∷ []) frames xs (omega arith) tied in
          let weights = same_totals weight_of put xs tick.ys tick.plans in
          let news = same_totals count_new put xs tick.ys tick.plans in
          let put_weights = total_put weight_of rows s row xs (distinct_of xs these) among in
          let put_news = total_put count_new rows s row xs (distinct_of xs these) among in
          let was : weight_of (get rows s) ≡ 6 = ap weight_of its in
          let had : count_new (get rows s) ≡ 0 = ap count_new its in
          let those : These tick.ys = tick.plans ∙ these in
          let many = many_of xs these in
          let many_now = many_of tick.ys those in
          let same_len = len-known rows s (new_row onu) row its in
          let free_now : new.fibre.free ≡ old.fibre.free = ap (λ (v : FibreWorld). v.free) x.ends ∙ it.1 ∙ x.free_is in
          Ranged.is_measured (4 * 0 + total_by weight_of put tick.ys + 3) (omega arith)
          (record {
            timer = timer;
            cooling = cooling;
            cool = cool;
            common = Measuring;
            cycles = 0;
            common_is = inr (refl, refl);
            rows = put;
            owed = all_copies (RangingTime onu (c.teqd - d));
            untold = RangingTime onu (c.teqd - d) ∷ [];
            xs = tick.ys;
            these = those;
            frames = frames + 1;
            port_is = ap (λ (v : FibreWorld). v.port) x.ends ∙ it.0;
            units_is = ap (λ (v : FibreWorld). v.units) x.ends ∙ ap (λ (us : List FibreUnit). map (unit_taking Frame) us) (comes.takes.units ∙ x.units_is) ∙ tick.tick;
            linked = tick.linked;
            owed_is = record { begun = NoMessage; left = 0; few = omega arith; are = refl };
            backed = λ n owes. IsBacked.tells s row (c.teqd - d) (one_of n owes) (has_it rows s row) refl;
            licensed_is = omega arith;
            known = omega arith;
            few_new = omega arith;
            mine = mine_still put xs tick.ys tick.plans (λ t q has. mine_all t q (has_put rows s row t q has));
            quiet = comes.left;
            sound = sound_after keeps old new entries frame sound;
            measure = refl;
            soon = omega arith;
          })
        where
          one_of : (n : Down) → Contains (all_copies (RangingTime onu (c.teqd - d))) n → n ≡ RangingTime onu (c.teqd - d)
          one_of n (zero, low, is) = sym is
          one_of n (suc zero, low, is) = sym is
          one_of n (suc (suc zero), low, is) = sym is
          one_of n (suc (suc (suc i)), low, is) = absurd (omega arith)

          mine_all : (t : Serial) (q : Row) → ((t ≡ s) × (row_measured (new_row onu) (c.teqd - d) ≡ q)) ⊎ ((same_serial t s ≡ false) × HasRow rows t q) → is_among t (map (λ (x : OnFibre). x.serial) xs) ≡ true
          mine_all t q (inl is) = ap (λ (y : Serial). is_among y (map (λ (x : OnFibre). x.serial) xs)) is.0 ∙ among
          mine_all t q (inr is) = mine t q is.1

          all_measured : All (IsLinked c (insert rows s (row_measured (new_row onu) (c.teqd - d))) (RangingTime onu (c.teqd - d) ∷ []) frames) xs
          all_measured = both xs linked (of_plans (λ (p : UnitPlan). same_serial s p.serial ≡ true → p.delay ≡ d) xs (subst (λ (ps : List UnitPlan). All (λ (p : UnitPlan). same_serial s p.serial ≡ true → p.delay ≡ d) ps) (sym these) delays))
            where
              After : OnFibre → Type 0
              After = IsLinked c (insert rows s (row_measured (new_row onu) (c.teqd - d))) (RangingTime onu (c.teqd - d) ∷ []) frames

              both : (ys : List OnFibre) → All (IsLinked c rows [] frames) ys → All (λ (y : OnFibre). same_serial s y.serial ≡ true → y.delay ≡ d) ys → All After ys
              both [] a b = All-nil After
              both (y ∷ ys) a b =
                  All-cons After y ys
                  (link_measured c rows apart frames s onu its y d (All-head (λ (y : OnFibre). same_serial s y.serial ≡ true → y.delay ≡ d) y ys b) (All-head (IsLinked c rows [] frames) y ys a))
                  (both ys (All-tail (IsLinked c rows [] frames) y ys a) (All-tail (λ (y : OnFibre). same_serial s y.serial ≡ true → y.delay ≡ d) y ys b))

  -- the ranging window goes on
  pub ranging_goes : (old new : WorldState) (entries : List Entry) (m : ℕ) → FrameRuns [] [] old entries new → (h : RangesOne old m) → Ranged new m
  ranging_goes old new entries m frame h = by h.left refl
    where
      by : (l : ℕ) → h.left ≡ l → Ranged new m
      by zero is = absurd (let a = h.later in let b = h.within in omega arith)
      by (suc l) is =
          let parts = frame_parts old new entries frame in
          let at = h.port_is ∙ ap (λ (k : ℕ). port_at c h.rows Measuring false h.timer (Some (window_of (Range h.onu) (suc k) false)) [] h.cooling) is in
          let st = subst (λ (p : PortState). IsStep p parts.entry parts.sent.port) at parts.takes.step in
          let it = range_goes_on c h.rows h.timer h.cooling parts.entry parts.sent.port parts.takes.event_is h.onu (suc (suc l)) false (ne_eqb (suc (suc l)) 1 (λ e. omega arith)) st in
          let less : suc (suc l) - 1 ≡ suc l = omega arith in
          let after = port_at c h.rows Measuring false h.timer (Some (window_of (Range h.onu) (suc l) false)) [] (cooled h.cooling) in
          let it_is : Makes parts.entry parts.sent.port parts.entry.purse_in None None after =
          subst (λ (k : ℕ). Makes parts.entry parts.sent.port parts.entry.purse_in None None (port_at c h.rows Measuring false h.timer (Some (window_of (Range h.onu) k false)) [] (cooled h.cooling))) less it in
          let x = settled old new parts None None after (map (unit_of c.mask) h.xs) h.units_is it_is in
          let a = h.later in
          let b = h.within in
          let e = h.measure in
          let k = h.soon in
          ranging_lands old new entries m h.timer l (cooled h.cooling) h.rows h.xs h.these h.frames h.serial h.onu h.delay h.number h.due (old.fibre.bursts ++ []) (old.flights ++ []) frame (cools h.cooling h.cool) x
          (append-nil old.flights ∙ h.flights_is) (ap (λ (zs : List SentBurst). slice_get zs h.number) (append-nil old.fibre.bursts) ∙ h.burst)
          (apart_of old.fibre.port h.rows (ap (λ (p : PortState). p.rows) h.port_is) h.sound) h.linked h.licensed_is h.known h.none_new h.mine h.its h.delays h.reach h.long h.later (omega arith) (omega arith) h.soon
          some h.sound
        where
          some : 1 ≤ m
          some =
              let t = total_put weight_of h.rows h.serial (row_measured (new_row h.onu) 0) h.xs (distinct_of h.xs h.these) (h.mine h.serial (new_row h.onu) h.its) in
              let w : weight_of (get h.rows h.serial) ≡ 6 = ap weight_of h.its in
              let e = h.measure in
              let a = h.later in
              omega arith

  -- a ranging window opens
  pub ranging_starts : (old new : WorldState) (entries : List Entry) (m : ℕ) → FrameRuns [] [] old entries new → (h : Between old m) → h.owed ≡ [] → h.cycles ≡ 0 → 1 ≤ m → Ranged new m
  ranging_starts old new entries m frame h none no_cycles some = opened (by h.common h.common_is at)
    where
      parts : FrameParts old new
      parts = frame_parts old new entries frame

      told : h.untold ≡ []
      told = none_untold h.owed h.untold none h.owed_is

      linked : All (IsLinked c h.rows [] h.frames) h.xs
      linked = subst (λ (ms : List Down). All (IsLinked c h.rows ms h.frames) h.xs) told h.linked

      owes_none : length h.owed ≡ 0
      owes_none = ap (λ (ms : List Down). length ms) none

      one_ranges : (s : Serial) × (onu : ℕ) × HasRow h.rows s (new_row onu)
      one_ranges = some_ranges c h.rows h.frames h.xs (let e = h.measure in let z = owes_none in omega arith) (let f = h.few_new in omega arith) linked

      ranges : Ranges h.rows one_ranges.1
      ranges = (one_ranges.0, new_row one_ranges.1, one_ranges.2, refl, refl)

      at : IsStep (port_at c h.rows h.common false h.timer None [] h.cooling) parts.entry parts.sent.port
      at = subst (λ (p : PortState). IsStep p parts.entry parts.sent.port) (h.port_is ∙ ap (λ (ms : List Down). port_at c h.rows h.common false h.timer None ms h.cooling) none) parts.takes.step

      Opens : Type 0
      Opens = (least : ℕ) × Ranges h.rows least × Makes parts.entry parts.sent.port parts.entry.purse_in None (Some (Range least)) (port_at c h.rows Measuring false h.timer (Some (window_of (Range least) 3 false)) [] (cooled h.cooling))

      by : (common : Common) → (common ≡ Acquisition h.cycles) ⊎ ((common ≡ Measuring) × (h.cycles ≡ 0)) → IsStep (port_at c h.rows common false h.timer None [] h.cooling) parts.entry parts.sent.port → Opens
      by common (inl is) st =
          range_opens_first c h.rows h.timer h.cooling parts.entry parts.sent.port parts.takes.event_is one_ranges.1 ranges
          (subst (λ (x : Common). IsStep (port_at c h.rows x false h.timer None [] h.cooling) parts.entry parts.sent.port) (is ∙ ap (λ (n : ℕ). Acquisition n) no_cycles) st)
      by common (inr is) st =
          range_opens c h.rows h.timer h.cooling parts.entry parts.sent.port parts.takes.event_is one_ranges.1 ranges
          (subst (λ (x : Common). IsStep (port_at c h.rows x false h.timer None [] h.cooling) parts.entry parts.sent.port) is.0 st)

      opened : Opens → Ranged new m
      opened o =
          let apart = apart_of old.fibre.port h.rows (ap (λ (p : PortState). p.rows) h.port_is) h.sound in
          let s = o.1.0 in
          let row = o.1.1 in
          let new_is : row ≡ new_row row.onu = as_new c h.rows h.frames s row h.xs o.1.2 o.1.3 (h.mine s row o.1.2) linked in
          let its : HasRow h.rows s (new_row o.0) = o.1.2 ∙ ap Some (new_is ∙ ap (λ (n : ℕ). new_row n) o.1.4) in
          let said = one_answers c h.rows apart h.frames s o.0 its h.xs (distinct_of h.xs h.these) (h.mine s (new_row o.0) its) linked in
          let x = settled old new parts None (Some (Range o.0)) _ (map (unit_of c.mask) h.xs) h.units_is o.2 in
          let after = port_at c h.rows Measuring false h.timer (Some (window_of (Range o.0) 3 false)) [] (cooled h.cooling) in
          let bs = old.fibre.bursts ++ answers_given (Some (Range o.0)) (map (unit_of c.mask) h.xs) in
          let fs = old.flights ++ flights_of old.frames (length old.fibre.bursts) (answers_given (Some (Range o.0)) (map (unit_of c.mask) h.xs)) in
          let y : Settled old new after (map (unit_of c.mask) h.xs) bs fs = subst (λ (us : List FibreUnit). Settled old new after us bs fs) (all_stay c h.rows apart h.frames s o.0 its h.xs linked) x in
          let fit = fit_of said.x said.among in
          let near = fit.near in
          let d = said.x.delay in
          let due = old.frames + d / frame_bit_times in
          let e = h.measure in
          let z = owes_none in
          let few_new = h.few_new in
          let k = h.soon in
          ranging_lands old new entries m h.timer 2 (cooled h.cooling) h.rows h.xs h.these h.frames s o.0 d (length old.fibre.bursts) due bs fs frame (cools h.cooling h.cool) y
          (ap (λ (gs : List Flight). gs ++ flights_of old.frames (length old.fibre.bursts) (answers_given (Some (Range o.0)) (map (unit_of c.mask) h.xs))) h.quiet
          ∙ ap (λ (zs : List SentBurst). flights_of old.frames (length old.fibre.bursts) zs) said.answer)
          (ap (λ (zs : List SentBurst). slice_get (old.fibre.bursts ++ zs) (length old.fibre.bursts)) said.answer ∙ at_seam old.fibre.bursts _ [])
          apart linked h.licensed_is h.known (omega arith) h.mine its
          (subst (λ (ps : List UnitPlan). All (λ (p : UnitPlan). same_serial s p.serial ≡ true → p.delay ≡ d) ps) h.these (onto_plans (λ (p : UnitPlan). same_serial s p.serial ≡ true → p.delay ≡ d) h.xs said.delays))
          fit.reach (subst (λ (t : Serial). length t.0 ≡ 8) said.is fit.long) (omega arith) (omega arith) (omega arith) h.soon some h.sound
        where
          fit_of : (z : OnFibre) → Contains h.xs z → IsFit c (plan_of z)
          fit_of z among =
              let all = of_plans (IsFit c) h.xs (subst (λ (ps : List UnitPlan). All (IsFit c) ps) (sym h.these) fits) in
              subst (λ (y : OnFibre). IsFit c (plan_of y)) among.2 (all among.0 z among.1)

  -- ---- all are served

  pub all_served : (w : WorldState) → Between w 0 → AreAllServed c plans w
  all_served w h =
      let e = h.measure in
      let none = no_more h.owed (omega arith) in
      let told = none_untold h.owed h.untold none h.owed_is in
      let each = all_operate c h.rows h.frames h.xs (omega arith) (subst (λ (ms : List Down). All (IsLinked c h.rows ms h.frames) h.xs) told h.linked) in
      record {
        who = ap (λ (us : List FibreUnit). map plan_of_unit us) h.units_is ∙ planned h.xs ∙ h.these;
        each = subst (λ (us : List FibreUnit). All (IsServed c w) us) (sym h.units_is) (serves_each h.xs each);
        owed = ap (λ (p : PortState). p.owed) h.port_is ∙ none;
        shut = ap (λ (p : PortState). p.window) h.port_is;
        quiet = h.quiet;
      }
    where
      no_more : (ms : List Down) → length ms ≡ 0 → ms ≡ []
      no_more [] is = refl
      no_more (n ∷ ms) is = absurd (omega arith)

      planned : (xs : List OnFibre) → map plan_of_unit (map (unit_of c.mask) xs) ≡ map plan_of xs
      planned [] = refl
      planned (x ∷ xs) = ap (λ (ps : List UnitPlan). plan_of x ∷ ps) (planned xs)

      serves_each : (xs : List OnFibre) → All (Operating c h.rows) xs → All (IsServed c w) (map (unit_of c.mask) xs)
      serves_each [] all = All-nil (IsServed c w)
      serves_each (x ∷ xs) all =
          let here = All-head (Operating c h.rows) x xs all in
          All-cons (IsServed c w) (unit_of c.mask x) (map (unit_of c.mask) xs)
          (record {
            onu = here.0;
            operates = here.1;
            row = row_measured (new_row here.0) (c.teqd - x.delay);
            has = subst (λ (p : PortState). HasRow p.rows x.serial (row_measured (new_row here.0) (c.teqd - x.delay))) (sym h.port_is) here.2;
            its = refl;
            phase = refl;
          })
          (serves_each xs (All-tail (Operating c h.rows) x xs all))

  -- ---- before the search: the overhead

  abbrev overhead : Down
  overhead = UpstreamOverhead c.overhead

  -- all units in one stage
  abbrev pub all_at : Stage → List OnFibre
  all_at stage = map (λ (p : UnitPlan). let x : OnFibre = record { serial = p.serial; delay = p.delay; random = p.random; stage = stage } in x) plans

  at_stage : Stage → List UnitPlan → List OnFibre
  at_stage stage ps = map (λ (p : UnitPlan). let x : OnFibre = record { serial = p.serial; delay = p.delay; random = p.random; stage = stage } in x) ps

  these_are : (stage : Stage) (ps : List UnitPlan) → map plan_of (map (λ (p : UnitPlan). let x : OnFibre = record { serial = p.serial; delay = p.delay; random = p.random; stage = stage } in x) ps) ≡ ps
  these_are stage [] = refl
  these_are stage (p ∷ ps) = ap (λ (qs : List UnitPlan). p ∷ qs) (these_are stage ps)

  abbrev units_at : Stage → List UnitPlan → List FibreUnit
  units_at stage ps = map (unit_of c.mask) (map (λ (p : UnitPlan). let x : OnFibre = record { serial = p.serial; delay = p.delay; random = p.random; stage = stage } in x) ps)

  hear_first : (ps : List UnitPlan) → map (unit_hearing overhead) (units_at stand_by ps) ≡ units_at (SerialNumber 0) ps
  hear_first [] = refl
  hear_first (p ∷ ps) = ap (λ (us : List FibreUnit). unit_at p.serial c.mask p.delay p.random (SerialNumber 0) ∷ us) (hear_first ps)

  hear_again : (f : ℕ) (ps : List UnitPlan) → map (unit_hearing overhead) (units_at (SerialNumber f) ps) ≡ units_at (SerialNumber f) ps
  hear_again f [] = refl
  hear_again f (p ∷ ps) = ap (λ (us : List FibreUnit). unit_at p.serial c.mask p.delay p.random (SerialNumber f) ∷ us) (hear_again f ps)

  rest_first : (ps : List UnitPlan) → map (unit_taking Frame) (units_at stand_by ps) ≡ units_at stand_by ps
  rest_first [] = refl
  rest_first (p ∷ ps) = ap (λ (us : List FibreUnit). unit_at p.serial c.mask p.delay p.random stand_by ∷ us) (rest_first ps)

  count_all : (f : ℕ) → f + 1 < 80000 → (ps : List UnitPlan) → map (unit_taking Frame) (units_at (SerialNumber f) ps) ≡ units_at (SerialNumber (f + 1)) ps
  count_all f soon [] = refl
  count_all f soon (p ∷ ps) =
      ap (λ (u : FibreUnit). u ∷ map (unit_taking Frame) (units_at (SerialNumber f) ps)) (counts p.serial c.mask p.delay p.random f soon)
      ∙ ap (λ (us : List FibreUnit). unit_at p.serial c.mask p.delay p.random (SerialNumber (f + 1)) ∷ us) (count_all f soon ps)

  all_new : (f frames : ℕ) → f ≤ frames → (ps : List UnitPlan)
      → All (IsLinked c empty [] frames) (map (λ (p : UnitPlan). let x : OnFibre = record { serial = p.serial; delay = p.delay; random = p.random; stage = SerialNumber f } in x) ps)
  all_new f frames low [] = All-nil (IsLinked c empty [] frames)
  all_new f frames low (p ∷ ps) = All-cons (IsLinked c empty [] frames) _ _ (IsLinked.new f low refl (get-empty serial_cmp p.serial)) (all_new f frames low ps)

  total_empty : (g : Option Row → ℕ) (k : ℕ) → g None ≡ k → (xs : List OnFibre) → total_by g empty xs ≡ k * length xs
  total_empty g k is [] = omega arith
  total_empty g k is (x ∷ xs) =
      let rest = total_empty g k is xs in
      let here : g (get empty x.serial) ≡ k = ap g (get-empty serial_cmp x.serial) ∙ is in
      let more : k * suc (length xs) ≡ k * length xs + k = mul-suc k (length xs) in
      omega arith

  -- a search is wanted
  pub record Wanted (w : WorldState) (m : ℕ) : Type 0 where
    pub timer : ℕ
    pub cooling : List ℕ
    pub cool : (n : ℕ) → get_or cooling n 0 ≡ 0
    pub cycles : ℕ
    pub is_cycles : c.cycles ≡ suc cycles
    pub port_is : w.fibre.port ≡ port_at c empty Standby true timer None [] cooling
    pub units_is : w.fibre.units ≡ units_at stand_by plans
    pub free_is : w.fibre.free ≡ licences
    pub quiet : w.flights ≡ []
    pub sound : IsSound w.fibre.port
    pub measure : m ≡ 4 * suc cycles + 9 * length plans + 4
    pub soon : m ≤ 79000

  -- the overhead is owed, and was heard by all or by none
  pub record Called (w : WorldState) (m : ℕ) : Type 0 where
    pub timer : ℕ
    pub cooling : List ℕ
    pub cool : (n : ℕ) → get_or cooling n 0 ≡ 0
    pub cycles : ℕ
    pub is_cycles : c.cycles ≡ suc cycles
    pub copies : ℕ
    pub frames : ℕ
    pub stage : Stage
    pub stage_is : (stage ≡ stand_by) ⊎ (stage ≡ SerialNumber frames)
    pub port_is : w.fibre.port ≡ port_at c empty (Acquisition (suc cycles)) false timer None (replicate (suc copies) overhead) cooling
    pub units_is : w.fibre.units ≡ units_at stage plans
    pub free_is : w.fibre.free ≡ licences
    pub quiet : w.flights ≡ []
    pub sound : IsSound w.fibre.port
    pub measure : m ≡ 4 * suc cycles + 9 * length plans + suc copies
    pub soon : frames + m ≤ 79000

  pub search_begins : (old new : WorldState) (entries : List Entry) (m : ℕ) → FrameRuns [] [] old entries new → Wanted old m → (n : ℕ) × (n < m) × Called new n
  search_begins old new entries m frame h =
      let parts = frame_parts old new entries frame in
      let st = subst (λ (p : PortState). IsStep p parts.entry parts.sent.port) h.port_is parts.takes.step in
      let it = frame_begins c empty h.timer h.cooling parts.entry parts.sent.port parts.takes.event_is true st in
      let x = settled old new parts None None _ (units_at stand_by plans) h.units_is it.1 in
      let ends = nothing_comes old new _ _ _ _ (append-nil old.flights ∙ h.quiet) x in
      let after : new.fibre ≡ world_after_frame x.answered = x.ends ∙ ap (λ (v : FibreWorld). world_after_frame v) ends.0 in
      let measure = h.measure in
      let soon = h.soon in (
        4 * suc h.cycles + 9 * length plans + 3,
        omega arith,
        record {
          timer = it.0;
          cooling = cooled h.cooling;
          cool = cools h.cooling h.cool;
          cycles = h.cycles;
          is_cycles = h.is_cycles;
          copies = 2;
          frames = 0;
          stage = stand_by;
          stage_is = inl refl;
          port_is = ap (λ (v : FibreWorld). v.port) after ∙ x.port_is ∙ ap (λ (n : ℕ). port_at c empty (Acquisition n) false it.0 None (replicate 3 overhead) (cooled h.cooling)) h.is_cycles;
          units_is = ap (λ (v : FibreWorld). v.units) after ∙ ap (λ (us : List FibreUnit). map (unit_taking Frame) us) x.units_is ∙ rest_first plans;
          free_is = ap (λ (v : FibreWorld). v.free) after ∙ x.free_is ∙ h.free_is;
          quiet = ends.1;
          sound = sound_after keeps old new entries frame h.sound;
          measure = refl;
          soon = omega arith;
        },
      )

  -- after a copy of the overhead there is another, or the first search window is next
  pub data Calls (new : WorldState) (m : ℕ) : Type 0 where
    again : (n : ℕ) → n < m → Called new n → Calls new m
    ready : (n : ℕ) → n < m → Between new n → Calls new m

  pub calls : length plans ≤ 63 * c.cycles → (old new : WorldState) (entries : List Entry) (m : ℕ) → FrameRuns [] [] old entries new → Called old m → Calls new m
  calls windows old new entries m frame h = by (heard h.stage h.stage_is)
    where
      heard : (stage : Stage) → (stage ≡ stand_by) ⊎ (stage ≡ SerialNumber h.frames) → (f : ℕ) × (f ≤ h.frames) × (map (unit_hearing overhead) (units_at stage plans) ≡ units_at (SerialNumber f) plans)
      heard stage (inl is) = (0, omega arith, ap (λ (y : Stage). map (unit_hearing overhead) (units_at y plans)) is ∙ hear_first plans)
      heard stage (inr is) = (h.frames, omega arith, ap (λ (y : Stage). map (unit_hearing overhead) (units_at y plans)) is ∙ hear_again h.frames plans)

      by : (f : ℕ) × (f ≤ h.frames) × (map (unit_hearing overhead) (units_at h.stage plans) ≡ units_at (SerialNumber f) plans) → Calls new m
      by hears = by_copies h.copies refl
        where
          f : ℕ
          f = hears.0

          low : hears.0 ≤ h.frames
          low = hears.1

          by_copies : (k : ℕ) → h.copies ≡ k → Calls new m
          by_copies k is =
              let parts = frame_parts old new entries frame in
              let st = subst (λ (p : PortState). IsStep p parts.entry parts.sent.port) (h.port_is ∙ ap (λ (n : ℕ). port_at c empty (Acquisition (suc h.cycles)) false h.timer None (replicate (suc n) overhead) h.cooling) is) parts.takes.step in
              let it = acquiring_sends c empty h.timer h.cooling parts.entry parts.sent.port parts.takes.event_is (suc h.cycles) overhead (replicate k overhead) st in
              let x = settled old new parts (Some overhead) None _ (units_at h.stage plans) h.units_is it in
              let ends = nothing_comes old new _ _ _ _ (append-nil old.flights ∙ h.quiet) x in
              let after : new.fibre ≡ world_after_frame x.answered = x.ends ∙ ap (λ (v : FibreWorld). world_after_frame v) ends.0 in
              let measure = h.measure in
              let soon = h.soon in
              let below = low in
              let units : new.fibre.units ≡ units_at (SerialNumber (hears.0 + 1)) plans =
              ap (λ (v : FibreWorld). v.units) after
              ∙ ap (λ (us : List FibreUnit). map (unit_taking Frame) us) (x.units_is ∙ hears.2)
              ∙ count_all hears.0 (omega arith) plans in
              let free : new.fibre.free ≡ licences = ap (λ (v : FibreWorld). v.free) after ∙ x.free_is ∙ h.free_is in
              next k is (ap (λ (v : FibreWorld). v.port) after ∙ x.port_is) units free ends.1
            where
              next : (k : ℕ) → h.copies ≡ k → new.fibre.port ≡ port_at c empty (Acquisition (suc h.cycles)) false h.timer None (replicate k overhead) (cooled h.cooling) → new.fibre.units ≡ units_at (SerialNumber (hears.0 + 1)) plans → new.fibre.free ≡ licences
                  → new.flights ≡ [] → Calls new m
              next (suc k) is port units free quiet =
                  let measure = h.measure in
                  let soon = h.soon in
                  let below = low in
                  Calls.again (4 * suc h.cycles + 9 * length plans + suc k) (omega arith)
                  (record {
                    timer = h.timer;
                    cooling = cooled h.cooling;
                    cool = cools h.cooling h.cool;
                    cycles = h.cycles;
                    is_cycles = h.is_cycles;
                    copies = k;
                    frames = hears.0 + 1;
                    stage = SerialNumber (hears.0 + 1);
                    stage_is = inr refl;
                    port_is = port;
                    units_is = units;
                    free_is = free;
                    quiet = quiet;
                    sound = sound_after keeps old new entries frame h.sound;
                    measure = refl;
                    soon = omega arith;
                  })
              next zero is port units free quiet =
                  let measure = h.measure in
                  let soon = h.soon in
                  let below = low in
                  let xs = all_at (SerialNumber (hears.0 + 1)) in
                  let these : These xs = these_are (SerialNumber (hears.0 + 1)) plans in
                  let many = many_of xs these in
                  let weights = total_empty weight_of 9 refl xs in
                  let news = total_empty count_new 1 refl xs in
                  let rows_none = len-empty serial_cmp Row in
                  let cycles = h.is_cycles in
                  Calls.ready (4 * suc h.cycles + total_by weight_of empty xs + 0) (omega arith)
                  (record {
                    timer = h.timer;
                    cooling = cooled h.cooling;
                    cool = cools h.cooling h.cool;
                    common = Acquisition (suc h.cycles);
                    cycles = suc h.cycles;
                    common_is = inl refl;
                    rows = empty;
                    owed = [];
                    untold = [];
                    xs = xs;
                    these = these;
                    frames = hears.0 + 1;
                    port_is = port;
                    units_is = units;
                    linked = all_new (hears.0 + 1) (hears.0 + 1) (omega arith) plans;
                    owed_is = record { begun = NoMessage; left = 0; few = omega arith; are = refl };
                    backed = λ n has. absurd (let under = has.1 in omega arith);
                    licensed_is = omega arith;
                    known = omega arith;
                    few_new = omega arith;
                    mine = λ t q has. absurd (no_row t q has);
                    quiet = quiet;
                    sound = sound_after keeps old new entries frame h.sound;
                    measure = refl;
                    soon = omega arith;
                  })

  -- ---- each frame, and all of them

  pub data Going (w : WorldState) (m : ℕ) : Type 0 where
    wanted : Wanted w m → Going w m
    called : Called w m → Going w m
    searching : Searching w m → Going w m
    between : 1 ≤ m → Between w m → Going w m
    ranging : RangesOne w m → Going w m

  pub data After (w : WorldState) (m : ℕ) : Type 0 where
    done : AreAllServed c plans w → After w m
    on : (n : ℕ) → n < m → Going w n → After w m

  from_between : (w : WorldState) (m n : ℕ) → n < m → Between w n → After w m
  from_between w m zero less h = After.done (all_served w h)
  from_between w m (suc n) less h = After.on (suc n) less (Going.between (omega arith) h)

  from_ranged : (w : WorldState) (m : ℕ) → Ranged w m → After w m
  from_ranged w m (Ranged.waits n less h) = After.on n less (Going.ranging h)
  from_ranged w m (Ranged.is_measured n less h) = from_between w m n less h

  from_calls : (w : WorldState) (m : ℕ) → Calls w m → After w m
  from_calls w m (Calls.again n less h) = After.on n less (Going.called h)
  from_calls w m (Calls.ready n less h) = from_between w m n less h

  on_between : (old new : WorldState) (entries : List Entry) (m : ℕ) → FrameRuns [] [] old entries new → 1 ≤ m → (h : Between old m) → After new m
  on_between old new entries m frame some h = by_owed h.owed refl
    where
      by_cycles : h.owed ≡ [] → (k : ℕ) → h.cycles ≡ k → After new m
      by_cycles none zero is = from_ranged new m (ranging_starts old new entries m frame h none is some)
      by_cycles none (suc k) is = let r = search_starts old new entries m k frame h none is in After.on r.0 r.1 (Going.searching r.2)

      by_owed : (ms : List Down) → h.owed ≡ ms → After new m
      by_owed [] is = by_cycles is h.cycles refl
      by_owed (copy ∷ rest) is = let r = between_sends old new entries m copy rest frame h is in from_between new m r.0 r.1 r.2

  on_searching : (old new : WorldState) (entries : List Entry) (m : ℕ) → FrameRuns [] [] old entries new → (h : Searching old m) → After new m
  on_searching old new entries m frame h = by h.left refl
    where
      by : (l : ℕ) → h.left ≡ l → After new m
      by zero is = let r = search_ends old new entries m frame h is in from_between new m r.0 r.1 r.2
      by (suc l) is = let r = search_goes old new entries m l frame h is in After.on r.0 r.1 (Going.searching r.2)

  pub step_all : length plans ≤ 63 * c.cycles → (old new : WorldState) (entries : List Entry) (m : ℕ) → Going old m → FrameRuns [] [] old entries new → After new m
  step_all windows old new entries m (Going.wanted h) frame = let r = search_begins old new entries m frame h in After.on r.0 r.1 (Going.called r.2)
  step_all windows old new entries m (Going.called h) frame = from_calls new m (calls windows old new entries m frame h)
  step_all windows old new entries m (Going.searching h) frame = on_searching old new entries m frame h
  step_all windows old new entries m (Going.between some h) frame = on_between old new entries m frame some h
  step_all windows old new entries m (Going.ranging h) frame = from_ranged new m (ranging_goes old new entries m frame h)

  some_left : (w : WorldState) (m : ℕ) → Going w m → 1 ≤ m
  some_left w m (Going.wanted h) = let a = h.measure in omega arith
  some_left w m (Going.called h) = let a = h.measure in omega arith
  some_left w m (Going.searching h) = let a = h.measure in omega arith
  some_left w m (Going.between some h) = some
  some_left w m (Going.ranging h) =
      let t = total_put weight_of h.rows h.serial (row_measured (new_row h.onu) 0) h.xs (distinct_of h.xs h.these) (h.mine h.serial (new_row h.onu) h.its) in
      let v : weight_of (get h.rows h.serial) ≡ 6 = ap weight_of h.its in
      let e = h.measure in
      let a = h.later in
      omega arith

  pub serves_all : length plans ≤ 63 * c.cycles → (count m : ℕ) (old last : WorldState) (entries : List Entry) → Going old m → m ≤ count → FramesRun [] [] count old entries last → ServesWithin c plans m count old entries last
  serves_all windows zero m old last entries h enough run = absurd (let some = some_left old m h in omega arith)
  serves_all windows (suc count) m old last entries h enough run =
      by (λ n phase more. serves_all windows count n run.0 last run.2 phase more run.4) (step_all windows old run.0 run.1 m h run.3)
    where
      by : ((n : ℕ) → Going run.0 n → n ≤ count → ServesWithin c plans n count run.0 run.2 last) → After run.0 m → ServesWithin c plans m (suc count) old entries last
      by rest (After.done all) =
          let some = some_left old m h in
          record {
            count = 1;
            left = count;
            first = run.1 ++ [];
            rest = run.2;
            served = run.0;
            soon = omega arith;
            run = (run.0, run.1, [], run.3, (refl, refl), refl);
            all = all;
            total_is = omega arith;
            later = run.4;
            entries_are = run.5 ∙ ap (λ (es : List Entry). es ++ run.2) (sym (append-nil run.1));
          }
      by rest (After.on n less phase) =
          let part = rest n phase (omega arith) in
          let soon = part.soon in
          let total = part.total_is in
          record {
            count = suc part.count;
            left = part.left;
            first = run.1 ++ part.first;
            rest = part.rest;
            served = part.served;
            soon = omega arith;
            run = (run.0, run.1, part.first, run.3, part.run, refl);
            all = part.all;
            total_is = omega arith;
            later = part.later;
            entries_are = run.5 ∙ ap (λ (es : List Entry). run.1 ++ es) part.entries_are ∙ sym (append_assoc run.1 part.first part.rest);
          }
