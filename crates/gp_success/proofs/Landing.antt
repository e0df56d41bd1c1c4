-- All bursts of a search that come in one frame, of any number of units.
use Rattle.std.proofs.Common.{◌≡◌, ℕ, ◌+◌, ◌*◌, ◌≤◌, ◌==◌, Bool, true, false, List, [], ◌∷◌, ◌++◌, map, length, None, Some, ◌⊎◌, inl, inr, refl, sym, ap, subst, ◌∙◌, arith}
use Rattle.std.specs.Prelude.{All, get_or, slice_get}
use Rattle.std.specs.FinMap.{get, insert}
use Rattle.std.proofs.lemmas.List.Elements.{All-cons, All-nil, All-head, All-tail, All-weaker}
use Rattle.gp_ploam.specs.declared.message.Down.{Down}
use Rattle.gp_ploam.specs.declared.message.Down.TheVariants.{AssignOnu}
use Rattle.gp_ploam.specs.declared.message.Up.TheVariants.{SerialNumber as serial_number}
use Rattle.gp_ploam.specs.Mask.{mask_value}
use Rattle.gp_ploam.specs.Serials.{same_serial, is_among}
use Rattle.gp_ploam.specs.Up.{code_of_up}
use Rattle.gp_volley.specs.Copies.{all_copies}
use Rattle.gp_ranging.specs.declared.grant.Grant.TheVariants.{Search}
use Rattle.gp_common.specs.declared.common.Common.TheVariants.{Acquisition}
use Rattle.gp_unit.specs.Rows.{new_row}
use Rattle.gp_machine.specs.declared.config.PortConfig.{PortConfig}
use Rattle.gp_machine.specs.declared.entry.Entry.{Entry}
use Rattle.gp_machine.specs.declared.event.Event.TheVariants as event
use Rattle.gp_machine.specs.Config.{is_distinct}
use Rattle.gp_machine.specs.State.{Rows}
use Rattle.gp_machine.specs.OneStep.{HearsOneThing}
use Rattle.gp_machine.proofs.Units.{len-new}
use Rattle.gp_fibre.specs.declared.flight.Flight.{Flight}
use Rattle.gp_fibre.specs.declared.sent_burst.SentBurst.{SentBurst}
use Rattle.gp_fibre.specs.declared.world_step.WorldStep.TheVariants as steps
use Rattle.gp_fibre.specs.World.{FibreWorld}
use Rattle.gp_fibre.specs.Step.{FibreInput, Whole, PortTakes, burst_with}
use Rattle.gp_fibre.specs.Run.{FibreRun}
use Rattle.gp_fibre.specs.Schedule.{arrivals, flights_after}
use Rattle.gp_fibre.proofs.Keeping.{from_kept}
use Rattle.gp_success.proofs.ActivePorts.{port_at, window_of}
use Rattle.gp_success.proofs.LinkedUnits.{OnFibre, Pending, AllDiffer, count_new, flight_of, later_than, total_by}
use Rattle.gp_success.proofs.Frames.{some_is}
use Rattle.gp_success.proofs.Reading.{RoundTrip}
use Rattle.gp_success.proofs.Counting.{at_others, same_either}
use Rattle.gp_success.proofs.Searching.{IsSearching, Arrived, arrives}

-- ---- which come now, and which later

pub left_flights : (frame : ℕ) (ps : List Pending) → flights_after frame (map flight_of ps) ≡ map flight_of (later_than frame ps)
left_flights frame [] = refl
left_flights frame (p ∷ ps) = by (left_flights frame ps) (p.due == frame) refl
  where
    by : flights_after frame (map flight_of ps) ≡ map flight_of (later_than frame ps) → (b : Bool) → p.due == frame ≡ b → flights_after frame (map flight_of (p ∷ ps)) ≡ map flight_of (later_than frame (p ∷ ps))
    by rest true is = rw is rest
    by rest false is = rw is (ap (λ (fs : List Flight). flight_of p ∷ fs) rest)

pub All-later : (P : Pending → Type 0) (frame : ℕ) (ps : List Pending) → All P ps → All P (later_than frame ps)
All-later P frame [] all = all
All-later P frame (p ∷ ps) all = by (All-later P frame ps (All-tail P p ps all)) (p.due == frame) refl
  where
    by : All P (later_than frame ps) → (b : Bool) → p.due == frame ≡ b → All P (later_than frame (p ∷ ps))
    by rest true is = rw is rest
    by rest false is = rw is (All-cons P p (later_than frame ps) (All-head P p ps all) rest)

pub later_differ : (frame : ℕ) (ps : List Pending) → AllDiffer ps → AllDiffer (later_than frame ps)
later_differ frame [] h = tt
later_differ frame (p ∷ ps) h = by (later_differ frame ps h.1) (p.due == frame) refl
  where
    by : AllDiffer (later_than frame ps) → (b : Bool) → p.due == frame ≡ b → AllDiffer (later_than frame (p ∷ ps))
    by rest true is = rw is rest
    by rest false is = rw is (All-later (λ (q : Pending). same_serial q.serial p.serial ≡ false) frame ps h.0, rest)

module _ (c : PortConfig) (frames : ℕ) (one : HearsOneThing) (trip : RoundTrip) (xs : List OnFibre) (licences : ℕ) (distinct : is_distinct (map (λ (x : OnFibre). x.serial) xs) ≡ true)
    (licensed : length xs ≤ licences) (numbered : length xs ≤ c.max_units) (few : length xs ≤ 254) where
  -- a burst of a unit that has no row is to come
  pub record IsPending (bursts : List SentBurst) (rows : Rows) (p : Pending) : Type 0 where
    pub burst : slice_get bursts p.number ≡ Some (burst_with p.delay (code_of_up (serial_number 255 p.serial p.random 0) (mask_value c.mask)))
    pub none : get rows p.serial ≡ None
    pub among : is_among p.serial (map (λ (x : OnFibre). x.serial) xs) ≡ true
    pub admitted : is_among p.serial c.admitted ≡ true
    pub long : length p.serial.0 ≡ 8
    pub short : p.random ≤ 4095

  abbrev pub Differs : Pending → Pending → Type 0
  Differs p q = same_serial q.serial p.serial ≡ false

  pending_put : (bursts : List SentBurst) (rows : Rows) (onu : ℕ) (p q : Pending) → Differs p q → IsPending bursts rows q → IsPending bursts (insert rows p.serial (new_row onu)) q
  pending_put bursts rows onu p q other h =
      record { burst = h.burst; none = at_others rows p.serial (new_row onu) q.serial other ∙ h.none; among = h.among; admitted = h.admitted; long = h.long; short = h.short }

  all_put : (bursts : List SentBurst) (rows : Rows) (onu : ℕ) (p : Pending) (qs : List Pending) → All (Differs p) qs → All (IsPending bursts rows) qs → All (IsPending bursts (insert rows p.serial (new_row onu))) qs
  all_put bursts rows onu p [] others all = All-nil (IsPending bursts (insert rows p.serial (new_row onu)))
  all_put bursts rows onu p (q ∷ qs) others all =
      All-cons (IsPending bursts (insert rows p.serial (new_row onu))) q qs
      (pending_put bursts rows onu p q (All-head (Differs p) q qs others) (All-head (IsPending bursts rows) q qs all))
      (all_put bursts rows onu p qs (All-tail (Differs p) q qs others) (All-tail (IsPending bursts rows) q qs all))

  -- each unit without a row has a burst that is to come, or the further search windows have room for all of them
  abbrev pub HasRoom : ℕ → Rows → ℕ → Type 0
  HasRoom k rows coming = (total_by count_new rows xs ≤ coming) ⊎ (total_by count_new rows xs ≤ 63 * k)

  -- once all bursts of a frame came
  pub record Landed (frame weight k t left : ℕ) (cooling : List ℕ) (kept ps : List Pending) (a b : FibreWorld) : Type 0 where
    pub rows : Rows
    pub seen : Bool
    pub owed : List Down
    pub untold : List Down
    pub port_is : b.port ≡ port_at c rows (Acquisition k) false t (Some (window_of Search left seen)) owed cooling
    pub units_is : b.units ≡ a.units
    pub bursts_is : b.bursts ≡ a.bursts
    pub searching : IsSearching c frames xs licences k weight rows owed untold b.free
    pub kept_are : All (IsPending b.bursts rows) kept
    pub later_are : All (IsPending b.bursts rows) (later_than frame ps)
    pub room : HasRoom k rows (length kept + length (later_than frame ps))

  pub land : (frame weight k t left : ℕ) (cooling : List ℕ) (ps kept : List Pending) (a b : FibreWorld) (more : List Entry) (rows : Rows) (seen : Bool) (owed untold : List Down)
      → ((n : ℕ) → get_or cooling n 0 ≡ 0)
      → FibreRun a (arrivals [] frame (map flight_of ps)) more b
      → a.port ≡ port_at c rows (Acquisition k) false t (Some (window_of Search left seen)) owed cooling
      → IsSearching c frames xs licences k weight rows owed untold a.free
      → All (IsPending a.bursts rows) ps → All (IsPending a.bursts rows) kept
      → AllDiffer ps → All (λ (q : Pending). All (λ (p : Pending). Differs p q) ps) kept
      → HasRoom k rows (length kept + length ps)
      → Landed frame weight k t left cooling kept ps a b
  land frame weight k t left cooling [] kept a b more rows seen owed untold cool run port h pending kept_are differ apart room =
      record {
        rows = rows;
        seen = seen;
        owed = owed;
        untold = untold;
        port_is = ap (λ (w : FibreWorld). w.port) run.0 ∙ port;
        units_is = ap (λ (w : FibreWorld). w.units) run.0;
        bursts_is = ap (λ (w : FibreWorld). w.bursts) run.0;
        searching = subst (λ (w : FibreWorld). IsSearching c frames xs licences k weight rows owed untold w.free) (sym run.0) h;
        kept_are = subst (λ (w : FibreWorld). All (IsPending w.bursts rows) kept) (sym run.0) kept_are;
        later_are = All-nil (IsPending b.bursts rows);
        room = room;
      }
  land frame weight k t left cooling (p ∷ ps) kept a b more rows seen owed untold cool run port h pending kept_are differ apart room =
      by (λ kept a more rows seen owed untold run port h pending kept_are apart room. land frame weight k t left cooling ps kept a b more rows seen owed untold cool run port h pending kept_are differ.1 apart room)
      (p.due == frame) refl
    where
      P : List SentBurst → Rows → Pending → Type 0
      P bs rs = IsPending bs rs

      Rest : Type 0
      Rest = (kept : List Pending) (a : FibreWorld) (more : List Entry) (rows : Rows) (seen : Bool) (owed untold : List Down)
          → FibreRun a (arrivals [] frame (map flight_of ps)) more b
          → a.port ≡ port_at c rows (Acquisition k) false t (Some (window_of Search left seen)) owed cooling
          → IsSearching c frames xs licences k weight rows owed untold a.free
          → All (IsPending a.bursts rows) ps → All (IsPending a.bursts rows) kept
          → All (λ (q : Pending). All (λ (p : Pending). Differs p q) ps) kept
          → HasRoom k rows (length kept + length ps)
          → Landed frame weight k t left cooling kept ps a b

      here : IsPending a.bursts rows p
      here = All-head (IsPending a.bursts rows) p ps pending

      others : All (IsPending a.bursts rows) ps
      others = All-tail (IsPending a.bursts rows) p ps pending

      kept_apart : All (λ (q : Pending). All (λ (p : Pending). Differs p q) ps) kept
      kept_apart = All-weaker (λ (q : Pending). All (λ (r : Pending). Differs r q) (p ∷ ps)) (λ (q : Pending). All (λ (r : Pending). Differs r q) ps) (λ q all. All-tail (λ (r : Pending). Differs r q) p ps all) kept apart

      kept_differ : All (Differs p) kept
      kept_differ = All-weaker (λ (q : Pending). All (λ (r : Pending). Differs r q) (p ∷ ps)) (Differs p) (λ q all. All-head (λ (r : Pending). Differs r q) p ps all) kept apart

      kept_more : All (λ (q : Pending). All (λ (r : Pending). Differs r q) ps) (p ∷ kept)
      kept_more =
          All-cons (λ (q : Pending). All (λ (r : Pending). Differs r q) ps) p kept
          (All-weaker (Differs p) (λ (r : Pending). Differs r p) (λ r out. same_either r.serial p.serial false out) ps differ.0) kept_apart

      count : ℕ
      count = total_by count_new rows xs

      moved : (w : ℕ) → HasRoom k rows (length kept + length (p ∷ ps)) → w ≡ length (p ∷ kept) + length ps → HasRoom k rows w
      moved w (inl all) is = inl (omega arith)
      moved w (inr few) is = inr few

      back : (v w : ℕ) (rs : Rows) → v ≡ w → HasRoom k rs v → HasRoom k rs w
      back v w rs is h = subst (λ (n : ℕ). HasRoom k rs n) is h

      less : (rs : Rows) → total_by count_new rs xs + 1 ≡ count → HasRoom k rows (length kept + length (p ∷ ps)) → HasRoom k rs (length kept + length ps)
      less rs one_less (inl all) = inl (omega arith)
      less rs one_less (inr few) = inr (omega arith)

      by : Rest → (now : Bool) → p.due == frame ≡ now → Landed frame weight k t left cooling kept (p ∷ ps) a b
      by rest false is =
          let arr : arrivals [] frame (map flight_of (p ∷ ps)) ≡ arrivals [] frame (map flight_of ps) = rw is refl in
          let after : later_than frame (p ∷ ps) ≡ p ∷ later_than frame ps = rw is refl in
          let r = rest (p ∷ kept) a more rows seen owed untold (subst (λ (is : List FibreInput). FibreRun a is more b) arr run) port h others (All-cons (IsPending a.bursts rows) p kept here kept_are) kept_more
          (moved (length (p ∷ kept) + length ps) room refl) in
          record {
            rows = r.rows;
            seen = r.seen;
            owed = r.owed;
            untold = r.untold;
            port_is = r.port_is;
            units_is = r.units_is;
            bursts_is = r.bursts_is;
            searching = r.searching;
            kept_are = All-tail (IsPending b.bursts r.rows) p kept r.kept_are;
            later_are = subst (λ (qs : List Pending). All (IsPending b.bursts r.rows) qs) (sym after) (All-cons (IsPending b.bursts r.rows) p (later_than frame ps) (All-head (IsPending b.bursts r.rows) p kept r.kept_are) r.later_are);
            room = subst (λ (qs : List Pending). HasRoom k r.rows (length kept + length qs)) (sym after) (back (length (p ∷ kept) + length (later_than frame ps)) (length kept + length (p ∷ later_than frame ps)) r.rows (omega arith) r.room);
          }
      by rest true is =
          let arr : arrivals [] frame (map flight_of (p ∷ ps)) ≡ Whole (steps.Arrive p.number) ∷ arrivals [] frame (map flight_of ps) = rw is refl in
          let after : later_than frame (p ∷ ps) ≡ later_than frame ps = rw is refl in
          let all = subst (λ (is : List FibreInput). FibreRun a is more b) arr run in
          let step = all.3 in
          let kept_burst = from_kept a.forgotten.bursts a.bursts p.number step.1 step.3 in
          let its : step.1 ≡ burst_with p.delay (code_of_up (serial_number 255 p.serial p.random 0) (mask_value c.mask)) = some_is step.1 _ (sym kept_burst.there ∙ here.burst) in
          let takes : PortTakes a (event.Burst p.delay (code_of_up (serial_number 255 p.serial p.random 0) (mask_value c.mask))) step.0 all.0 =
          subst (λ (y : SentBurst). PortTakes a (event.Burst y.at y.bytes) step.0 all.0) its step.4 in
          arrived rest all.0 all.2 all.4 after takes.units takes.bursts
          (arrives c frames one trip xs licences distinct licensed numbered few weight k t left rows seen owed untold cooling a.free p.serial p.delay p.random a all.0 step.0 cool here.admitted here.long here.short here.among here.none h port refl takes)
        where
          arrived : Rest → (mid : FibreWorld) (more : List Entry) → FibreRun mid (arrivals [] frame (map flight_of ps)) more b → later_than frame (p ∷ ps) ≡ later_than frame ps → mid.units ≡ a.units → mid.bursts ≡ a.bursts
              → Arrived c frames one trip xs licences distinct licensed numbered few weight k t left rows seen owed untold cooling a.free p.serial mid
              → Landed frame weight k t left cooling kept (p ∷ ps) a b
          arrived rest mid more run after units bursts (Arrived.got onu port_now free_now now) =
              let put = insert rows p.serial (new_row onu) in
              let same = sym bursts in
              let longer = len-new rows p.serial (new_row onu) here.none in
              let before = h.known in
              let known = now.known in
              let r = rest kept mid more put seen (owed ++ all_copies (AssignOnu onu p.serial)) (untold ++ AssignOnu onu p.serial ∷ []) run port_now now
              (subst (λ (bs : List SentBurst). All (IsPending bs put) ps) same (all_put a.bursts rows onu p ps differ.0 others))
              (subst (λ (bs : List SentBurst). All (IsPending bs put) kept) same (all_put a.bursts rows onu p kept kept_differ kept_are)) kept_apart (less put (omega arith) room) in
              record {
                rows = r.rows;
                seen = r.seen;
                owed = r.owed;
                untold = r.untold;
                port_is = r.port_is;
                units_is = r.units_is ∙ units;
                bursts_is = r.bursts_is ∙ bursts;
                searching = r.searching;
                kept_are = r.kept_are;
                later_are = subst (λ (qs : List Pending). All (IsPending b.bursts r.rows) qs) (sym after) r.later_are;
                room = subst (λ (qs : List Pending). HasRoom k r.rows (length kept + length qs)) (sym after) r.room;
              }
          arrived rest mid more run after units bursts (Arrived.busy port_now free_now few_now) =
              let same = sym bursts in
              let r = rest kept mid more rows true owed untold run port_now (subst (λ (n : ℕ). IsSearching c frames xs licences k weight rows owed untold n) (sym free_now) h)
              (subst (λ (bs : List SentBurst). All (IsPending bs rows) ps) same others)
              (subst (λ (bs : List SentBurst). All (IsPending bs rows) kept) same kept_are) kept_apart (inr few_now) in
              record {
                rows = r.rows;
                seen = r.seen;
                owed = r.owed;
                untold = r.untold;
                port_is = r.port_is;
                units_is = r.units_is ∙ units;
                bursts_is = r.bursts_is ∙ bursts;
                searching = r.searching;
                kept_are = r.kept_are;
                later_are = subst (λ (qs : List Pending). All (IsPending b.bursts r.rows) qs) (sym after) r.later_are;
                room = subst (λ (qs : List Pending). HasRoom k r.rows (length kept + length qs)) (sym after) r.room;
              }
