-- The units that stored units stand for, and their timers.
use Rattle.std.proofs.Common.{◌≡◌, ℕ, zero, suc, ◌+◌, ◌-◌, ◌<◌, ◌≤◌, Bool, true, false, cond, List, [], ◌∷◌, ◌++◌, length, Option, None, Some, refl, sym, ap, subst, ◌∙◌, arith, eqb, eqb-true, leb, inl, inr, get_or, take, vec_len, vec_capacity, Vec, Global}
use Rattle.std.specs.Prelude.{All, IfSome, map, slice_get, slice_set, slice_index_or}
use Rattle.std.specs.List.{sum_by}
use Rattle.std.specs.Option.{ForSome, option_map}
use Rattle.std.specs.Cmp.{nat_cmp_total, unsigned_tied}
use Rattle.std.specs.FinMap.{get, insert, remove, get-insert, get-remove}
use Rattle.std.proofs.lemmas.Bool.{le-leb, lt-leb, cases_Bool, eqb-false, eq-eqb, ne_eqb}
use Rattle.std.proofs.lemmas.List.{length-map, length-set, map-set, map_push, map_more, set-get_or}
use Rattle.std.proofs.lemmas.List.Elements.{All-nil, All-cons, All-set, All-head, All-tail, All-same, All-push, All-weaker}
use Rattle.std.proofs.lemmas.List.Sums.{sum_by-set}
use Rattle.std.proofs.lemmas.Option.{slice_get-map, slice_get_read, slice_get_within, get_or_from_slice_get}
use Rattle.gp_ploam.specs.declared.check.Mask.{Mask}
use Rattle.gp_ploam.specs.declared.message.Serial.{Serial}
use Rattle.gp_onu.specs.declared.stage.Stage.{Stage}
use Rattle.gp_onu.specs.declared.stage.Stage.TheVariants.{Initial, Standby, SerialNumber, Ranging, Operation, Popup, EmergencyStop}
use Rattle.gp_onu.specs.Stage.{with_more_frames}
use Rattle.gp_ploam.specs.declared.message.Down.{Down}
use Rattle.gp_ploam.specs.Down.{code_of_down}
use Rattle.gp_ploam.specs.Mask.{mask_value}
use Rattle.gp_ploam.specs.declared.message.Up.{Up}
use Rattle.gp_ploam.specs.Up.{code_of_up}
use Rattle.gp_ranging.specs.declared.grant.Grant.{Grant}
use Rattle.gp_onu.specs.Noticing.{LeavesUnanswered, PassesOver, unit_later}
use Rattle.gp_onu.proofs.Skipping.{unit, skips}
use Rattle.gp_onu.specs.declared.limits.TheConstants.{MAX_DELAY, MAX_RANDOM_DELAY}
use Rattle.gp_onu.specs.Frames.{IsFirstChange, frames_left, unit_after_frames}
use Rattle.gp_onu.specs.Table.{UnitState, Input, Frame, Granted, Hears, answer_to, unit_after}
use Rattle.gp_timers.specs.Timers.{DueFrames, Timers, IsFirstDue, NoneIsDue}
use Rattle.gp_fibre.specs.declared.stored_unit.StoredUnit.{StoredUnit}
use Rattle.gp_fibre.specs.declared.unit_plan.UnitPlan.{UnitPlan}
use Rattle.gp_fibre.specs.declared.world.TheConstants.{MAX_FRAMES}
use Rattle.gp_onu.specs.declared.status.UnitStatus.{UnitStatus}
use Rattle.gp_onu.specs.Status.{status_of}
use Rattle.gp_fibre.specs.World.{FibreUnit, planned_unit, status_at}
use Rattle.gp_fibre.specs.Step.{ChangesAt, burst_with, unit_granted, unit_hearing, unit_taking}
use Rattle.gp_fibre.specs.declared.asked_by.AskedBy.{AskedBy}
use Rattle.gp_fibre.specs.declared.asked_by.AskedBy.TheVariants.{Nothing}
use Rattle.gp_fibre.specs.AskedUnits.{AskedPlaces, AsksNobody, asked_by_of, asks, is_in_set, places_asked}
use Rattle.gp_fibre.specs.UnitStore.{Answers, IsCodeFor, UnitStoreState, unit_at, units_at, due_of, due_at, asked_by_at, is_asked_at, with_timer, AreIndexed, IsNextAsked, IsStoredUnit, IsUnitStore}
use Rattle.gp_numbers.specs.Least.{IsLeastFrom}
use Rattle.gp_onu.specs.Noticing.{is_asked}
use Rattle.gp_fibre.proofs.Asking.{asked_later}

-- ---- timers

get_inserted : (m : DueFrames) (k v q : ℕ) → get (insert m k v) q ≡ cond (eqb q k) (Some v) (get m q)
get_inserted m k v q = get-insert nat_cmp_total m k v q ∙ ap (λ b. cond b (Some v) (get m q)) (unsigned_tied q k)

get_removed : (m : DueFrames) (k q : ℕ) → get (remove m k) q ≡ cond (eqb q k) None (get m q)
get_removed m k q = get-remove nat_cmp_total m k q ∙ ap (λ b. cond b None (get m q)) (unsigned_tied q k)

get_with : (t : Timers) (name : ℕ) (due : Option ℕ) (q : ℕ) → get (with_timer t name due).frames q ≡ cond (eqb q name) due (get t.frames q)
get_with t name None q = get_removed t.frames name q
get_with t name (Some due) q = get_inserted t.frames name due q

names_with : (t : Timers) (name : ℕ) (due : Option ℕ) → (with_timer t name due).names ≡ t.names
names_with t name None = refl
names_with t name (Some due) = refl

eqb_suc : (n p : ℕ) → eqb (suc n) (suc p) ≡ eqb n p
eqb_suc n p =
    elim (cases_Bool (eqb n p)) [
      | inl is ↦ eq-eqb (suc n) (suc p) (ap suc (eqb-true n p is)) ∙ sym is
      | inr isnt ↦ ne_eqb (suc n) (suc p) (λ e. eqb-false n p isnt (omega arith)) ∙ sym isnt
    ]

due_set : (stored_units : List StoredUnit) (place name : ℕ) (y : StoredUnit) → place < length stored_units → due_at (slice_set stored_units place y) name ≡ cond (eqb name place) (due_of y) (due_at stored_units name)
due_set [] place name y low = absurd (omega arith)
due_set (x ∷ xs) zero zero y low = refl
due_set (x ∷ xs) zero (suc n) y low = ap (λ b. cond b (due_of y) (due_at xs n)) (sym (ne_eqb (suc n) zero (λ e. omega arith)))
due_set (x ∷ xs) (suc p) zero y low = ap (λ b. cond b (due_of y) (due_of x)) (sym (ne_eqb zero (suc p) (λ e. omega arith)))
due_set (x ∷ xs) (suc p) (suc n) y low = due_set xs p n y (omega arith) ∙ ap (λ b. cond b (due_of y) (due_at xs n)) (sym (eqb_suc n p))

-- the timers after one of them was written
abbrev pub IsWritten : Timers → ℕ → Option ℕ → Timers → Type 0
IsWritten timers place due after = (name : ℕ) → get after.frames name ≡ cond (eqb name place) due (get timers.frames name)

pub written : (timers after : Timers) (place : ℕ) (due : Option ℕ) → after ≡ with_timer timers place due → IsWritten timers place due after
written timers after place due is name = ap (λ (t : Timers). get t.frames name) is ∙ get_with timers place due name

pub names_written : (timers after : Timers) (place : ℕ) (due : Option ℕ) → after ≡ with_timer timers place due → after.names ≡ timers.names
names_written timers after place due is = ap (λ (t : Timers). t.names) is ∙ names_with timers place due

-- a timer that stays as it is
pub unwritten : (timers : Timers) (place : ℕ) (due : Option ℕ) → get timers.frames place ≡ due → IsWritten timers place due timers
unwritten timers place due is name =
    elim (cases_Bool (eqb name place)) [
      | inl same ↦
          ap (λ (n : ℕ). get timers.frames n) (eqb-true name place same)
          ∙ is
          ∙ ap (λ (b : Bool). cond b due (get timers.frames name)) (sym same)
      | inr isnt ↦ ap (λ (b : Bool). cond b due (get timers.frames name)) (sym isnt)
    ]

-- a timer that was taken out is not set
pub taken_out : (timers after : Timers) (place : ℕ) → after ≡ record timers { frames = remove timers.frames place } → get after.frames place ≡ None
taken_out timers after place is =
    ap (λ (t : Timers). get t.frames place) is
    ∙ get_removed timers.frames place place
    ∙ ap (λ (b : Bool). cond b None (get timers.frames place)) (eq-eqb place place refl)

pub kept_after : (mask : Mask) (frames least : ℕ) (stored_units : List StoredUnit) (timers after : Timers) (place : ℕ) (y : StoredUnit) (due : Option ℕ) → IsUnitStore mask frames least stored_units timers
    → place < length stored_units → IsStoredUnit mask frames least y → due ≡ due_of y → after.names ≡ timers.names → IsWritten timers place due after
    → IsUnitStore mask frames least (slice_set stored_units place y) after
kept_after mask frames least stored_units timers after place y due kept low stored is names set =
    record {
      each = All-set (IsStoredUnit mask frames least) stored_units place y stored kept.each;
      names = names ∙ kept.names ∙ sym (length-set stored_units place y);
      set = λ name.
          set name
          ∙ ap (λ (d : Option ℕ). cond (eqb name place) due d) (kept.set name)
          ∙ ap (λ (d : Option ℕ). cond (eqb name place) d (due_at stored_units name)) is
          ∙ sym (due_set stored_units place name y low);
      few = let same = length-set stored_units place y in omega arith;
      fits = kept.fits;
    }

-- ---- the index

asked_set : (stored_units : List StoredUnit) (place name : ℕ) (y : StoredUnit) → place < length stored_units
    → asked_by_at (slice_set stored_units place y) name ≡ cond (eqb name place) (asked_by_of y.unit.stage) (asked_by_at stored_units name)
asked_set [] place name y low = absurd (omega arith)
asked_set (x ∷ xs) zero zero y low = refl
asked_set (x ∷ xs) zero (suc n) y low = ap (λ b. cond b (asked_by_of y.unit.stage) (asked_by_at xs n)) (sym (ne_eqb (suc n) zero (λ e. omega arith)))
asked_set (x ∷ xs) (suc p) zero y low = ap (λ b. cond b (asked_by_of y.unit.stage) (asked_by_of x.unit.stage)) (sym (ne_eqb zero (suc p) (λ e. omega arith)))
asked_set (x ∷ xs) (suc p) (suc n) y low = asked_set xs p n y (omega arith) ∙ ap (λ b. cond b (asked_by_of y.unit.stage) (asked_by_at xs n)) (sym (eqb_suc n p))

asks_either : (b : Bool) (x y : AskedBy) (asked : Grant) → asks (cond b x y) asked ≡ cond b (asks x asked) (asks y asked)
asks_either true x y asked = refl
asks_either false x y asked = refl

-- the index after one unit changed
pub indexed_after : (stored_units : List StoredUnit) (places after : AskedPlaces) (place : ℕ) (y : StoredUnit) (kind : AskedBy) → AreIndexed stored_units places → place < length stored_units
    → kind ≡ asked_by_of y.unit.stage → ((asked : Grant) (other : ℕ) → is_in_set after asked other ≡ cond (eqb other place) (asks kind asked) (is_in_set places asked other))
    → AreIndexed (slice_set stored_units place y) after
indexed_after stored_units places after place y kind indexed low is change asked other within =
    let many = length-set stored_units place y in
    change asked other
    ∙ ap (λ (b : Bool). cond (eqb other place) (asks kind asked) b) (indexed asked other (omega arith))
    ∙ ap (λ (k : AskedBy). cond (eqb other place) (asks k asked) (asks (asked_by_at stored_units other) asked)) is
    ∙ sym (asks_either (eqb other place) (asked_by_of y.unit.stage) (asked_by_at stored_units other) asked)
    ∙ ap (λ (k : AskedBy). asks k asked) (sym (asked_set stored_units place other y low))

due_there : (xs : List StoredUnit) (place : ℕ) (d : StoredUnit) → place < length xs → due_at xs place ≡ due_of (get_or xs place d)
due_there [] place d low = absurd (omega arith)
due_there (x ∷ xs) zero d low = refl
due_there (x ∷ xs) (suc place) d low = due_there xs place d (omega arith)

asked_there : (xs : List StoredUnit) (place : ℕ) (d : StoredUnit) → place < length xs → asked_by_at xs place ≡ asked_by_of (get_or xs place d).unit.stage
asked_there [] place d low = absurd (omega arith)
asked_there (x ∷ xs) zero d low = refl
asked_there (x ∷ xs) (suc place) d low = asked_there xs place d (omega arith)

-- what the index says of a stored unit
pub indexed_there : (stored_units : List StoredUnit) (places : AskedPlaces) → AreIndexed stored_units places → (place : ℕ) → place < length stored_units → (x : StoredUnit)
    → x ≡ slice_index_or stored_units place x → (kind : AskedBy) → kind ≡ asked_by_of x.unit.stage → (asked : Grant) → is_in_set places asked place ≡ asks kind asked
indexed_there stored_units places indexed place low x is kind kind_is asked =
    indexed asked place low
    ∙ ap (λ (k : AskedBy). asks k asked) (asked_there stored_units place x low ∙ ap (λ (s : StoredUnit). asked_by_of s.unit.stage) (sym is) ∙ sym kind_is)

-- ---- a unit that is brought up to date

pub frames_mask : (k : ℕ) (u : UnitState) → (unit_after_frames k u).mask ≡ u.mask
frames_mask zero u = refl
frames_mask (suc k) u = frames_mask k u

abbrev pub brought_stored : ℕ → StoredUnit → StoredUnit
brought_stored frames x = record x { unit = unit_after_frames (frames - x.brought) x.unit; brought = frames }

abbrev pub stored_with : StoredUnit → UnitState → StoredUnit
stored_with b v = record b { unit = v }

-- the unit that a stored unit stands for which was brought up to date and then changed
stands_for : (frames : ℕ) (x : StoredUnit) (v : UnitState) → unit_at frames (stored_with (brought_stored frames x) v) ≡ record (unit_at frames x) { state = v }
stands_for frames x v =
    let none : frames - frames ≡ 0 = omega arith in
    ap (λ (k : ℕ). let u : FibreUnit = record { state = unit_after_frames k v; delay = x.delay; random = x.random } in u) none

-- a unit whose state has not ended has but a greater count of frames
pub later_unit : (mask : Mask) (frames : ℕ) (x : StoredUnit) → IsStoredUnit mask frames (frames + 1) x → unit_after_frames (frames - x.brought) x.unit ≡ unit_later x.unit (frames - x.brought)
later_unit mask frames x stored =
    let few_left : ForSome (frames_left x.unit) (λ left. frames - x.brought < left) = λ left e.
    let due : frames + 1 ≤ x.brought + left = stored.ahead (x.brought + left) (ap (option_map (λ (n : ℕ). x.brought + n)) e) in
    let b = stored.brought in
    omega arith in
    skips x.unit.serial x.unit.mask x.unit.lit x.unit.stage (frames - x.brought) few_left

-- the code of a message under the mask of all units is that which each hears
pub code_for_each : (mask : Mask) (frames least : ℕ) (stored_units : List StoredUnit) (m : Down) (code : List ℕ) → All (IsStoredUnit mask frames least) stored_units
    → code ≡ code_of_down m (mask_value mask) → IsCodeFor (units_at frames stored_units) m code
code_for_each mask frames least [] m code all is = All-nil (λ (u : FibreUnit). code ≡ code_of_down m (mask_value u.state.mask))
code_for_each mask frames least (x ∷ xs) m code all is =
    let same : (unit_after_frames (frames - x.brought) x.unit).mask ≡ mask =
    frames_mask (frames - x.brought) x.unit ∙ (All-head (IsStoredUnit mask frames least) x xs all).mask_is in
    All-cons (λ (u : FibreUnit). code ≡ code_of_down m (mask_value u.state.mask)) (unit_at frames x) (units_at frames xs)
    (is ∙ ap (λ (k : Mask). code_of_down m (mask_value k)) (sym same)) (code_for_each mask frames least xs m code (All-tail (IsStoredUnit mask frames least) x xs all) is)

module _ (mask : Mask) (frames : ℕ) (stored_units : List StoredUnit) (timers : Timers) (kept : IsUnitStore mask frames (frames + 1) stored_units timers) (place : ℕ)
    (low : place < length stored_units) (x : StoredUnit) (is : x ≡ slice_index_or stored_units place x) where
  pub stored_at : IsStoredUnit mask frames (frames + 1) x
  stored_at = subst (λ (s : StoredUnit). IsStoredUnit mask frames (frames + 1) s) (sym is) (kept.each place x low)

  pub brought_mask : (unit_after_frames (frames - x.brought) x.unit).mask ≡ mask
  brought_mask = frames_mask (frames - x.brought) x.unit ∙ stored_at.mask_is

  pub there : slice_get (units_at frames stored_units) place ≡ Some (unit_at frames x)
  there = slice_get-map (unit_at frames) stored_units place ∙ ap (option_map (unit_at frames)) (slice_get_read stored_units (length stored_units) place x refl low is)

  pub after : (y : StoredUnit) (u : FibreUnit) → unit_at frames y ≡ u → units_at frames (slice_set stored_units place y) ≡ slice_set (units_at frames stored_units) place u
  after y u e = map-set (unit_at frames) stored_units place y ∙ ap (λ (v : FibreUnit). slice_set (units_at frames stored_units) place v) e

  -- a unit that passes a message over is the same after it
  is_later : unit_after_frames (frames - x.brought) x.unit ≡ unit_later x.unit (frames - x.brought)
  is_later = later_unit mask frames x stored_at

  -- its timer, and for how many frames it has been stored
  pub timer_there : (due : Option ℕ) → due ≡ due_of x → get timers.frames place ≡ due
  timer_there due e = kept.set place ∙ due_there stored_units place x low ∙ ap due_of (sym is) ∙ sym e

  -- a code that every unit hears of a message is that of the message under their mask
  pub code_there : (m : Down) (code : List ℕ) → IsCodeFor (units_at frames stored_units) m code → code ≡ code_of_down m (mask_value mask)
  code_there m code all =
      let u = unit_at frames x in
      let within : place < length (units_at frames stored_units) = rw length-map low in
      subst (λ (v : FibreUnit). code ≡ code_of_down m (mask_value v.state.mask)) (get_or_from_slice_get (units_at frames stored_units) place u u there) (all place u within)
      ∙ ap (λ (k : Mask). code_of_down m (mask_value k)) brought_mask

  pub brought_fits : x.brought ≤ MAX_FRAMES
  brought_fits = let b = stored_at.brought in let f = kept.fits in omega arith

  pub all_same : units_at frames stored_units ≡ slice_set (units_at frames stored_units) place (unit_at frames x)
  all_same =
      sym
      (ap (λ (v : FibreUnit). slice_set (units_at frames stored_units) place v)
      (sym (get_or_from_slice_get (units_at frames stored_units) place (unit_at frames x) (unit_at frames x) there))
      ∙ set-get_or (units_at frames stored_units) place (unit_at frames x))

  abbrev pub stays : (change : FibreUnit → FibreUnit) → change (unit_at frames x) ≡ unit_at frames x → ChangesAt (units_at frames stored_units) place change (units_at frames stored_units)
  stays change e =
      record {
        unit = unit_at frames x;
        there = there;
        after = all_same ∙ ap (λ (v : FibreUnit). slice_set (units_at frames stored_units) place v) (sym e);
      }

  pub passes : (m : Down) → PassesOver x.unit m → ChangesAt (units_at frames stored_units) place (unit_hearing m) (units_at frames stored_units)
  passes m over =
      let now = unit_after_frames (frames - x.brought) x.unit in
      let code = code_of_down m (mask_value now.mask) in
      let same : unit_after now (Hears code m) ≡ now = subst (λ (v : UnitState). unit_after v (Hears code m) ≡ v) (sym is_later) (over code (frames - x.brought)) in
      stays (unit_hearing m) (ap (λ (s : UnitState). let v : FibreUnit = record (unit_at frames x) { state = s } in v) same)

  pub unanswered : (grant : Grant) → LeavesUnanswered x.unit grant → Answers (units_at frames stored_units) place grant None (units_at frames stored_units)
  unanswered grant leaves =
      let now = unit_after_frames (frames - x.brought) x.unit in
      let so = leaves x.random (frames - x.brought) in
      let same : unit_after now (Granted grant x.random) ≡ now = subst (λ (v : UnitState). unit_after v (Granted grant x.random) ≡ v) (sym is_later) so.0 in
      let none : answer_to now (Granted grant x.random) ≡ None = subst (λ (v : UnitState). answer_to v (Granted grant x.random) ≡ None) (sym is_later) so.1 in
      record {
        units = stays (unit_granted grant) (ap (λ (s : UnitState). let v : FibreUnit = record (unit_at frames x) { state = s } in v) same);
        answered = sym (ap (λ (o : Option Up). option_map (λ octets. burst_with x.delay octets) (option_map (λ m. code_of_up m (mask_value now.mask)) o)) none);
      }

  module _ (b : StoredUnit) (bring : b ≡ brought_stored frames x) (v : UnitState) where
    pub changed_unit : unit_at frames (stored_with b v) ≡ record (unit_at frames x) { state = v }
    changed_unit = subst (λ (s : StoredUnit). unit_at frames (stored_with s v) ≡ record (unit_at frames x) { state = v }) (sym bring) (stands_for frames x v)

    abbrev pub changes : (change : FibreUnit → FibreUnit) → record (unit_at frames x) { state = v } ≡ change (unit_at frames x)
        → ChangesAt (units_at frames stored_units) place change (units_at frames (slice_set stored_units place (stored_with b v)))
    changes change e = record { unit = unit_at frames x; there = there; after = after (stored_with b v) (change (unit_at frames x)) (changed_unit ∙ e) }

    pub takes : (input : Input) → v ≡ unit_after b.unit input → ChangesAt (units_at frames stored_units) place (unit_taking input) (units_at frames (slice_set stored_units place (stored_with b v)))
    takes input e =
        changes (unit_taking input)
        (ap (λ (s : UnitState). let u : FibreUnit = record (unit_at frames x) { state = s } in u) (e ∙ ap (λ (s : StoredUnit). unit_after s.unit input) bring))

    pub store_after : (end : Timers) (due : Option ℕ) → v.mask ≡ b.unit.mask → due ≡ due_of (stored_with b v) → ForSome due (λ d. b.brought + 1 ≤ d)
        → end.names ≡ timers.names → IsWritten timers place due end
        → IsUnitStore mask frames (frames + 1) (slice_set stored_units place (stored_with b v)) end
    store_after end due same value later names set =
        let now : b.brought ≡ frames = ap (λ (s : StoredUnit). s.brought) bring in
        let delay : b.delay ≡ x.delay = ap (λ (s : StoredUnit). s.delay) bring in
        let near = stored_at.delay in
        let random : b.random ≡ x.random = ap (λ (s : StoredUnit). s.random) bring in
        let few = stored_at.random in
        kept_after mask frames (frames + 1) stored_units timers end place (stored_with b v) due kept low
        (record {
          mask_is = same ∙ ap (λ (s : StoredUnit). s.unit.mask) bring ∙ brought_mask;
          delay = omega arith;
          random = omega arith;
          brought = omega arith;
          ahead = subst (λ (d : Option ℕ). ForSome d (λ f. frames + 1 ≤ f)) value (subst (λ (n : ℕ). ForSome due (λ d. n + 1 ≤ d)) now later);
        })
        value names set

-- ---- the units that a grant asks

asked_now : (mask : Mask) (frames : ℕ) (stored_units : List StoredUnit) → All (IsStoredUnit mask frames (frames + 1)) stored_units → (asked : Grant) (place : ℕ)
    → is_asked_at (units_at frames stored_units) asked place ≡ asks (asked_by_at stored_units place) asked
asked_now mask frames [] all asked place = refl
asked_now mask frames (x ∷ xs) all asked zero =
    let k = frames - x.brought in
    ap (is_asked asked) (later_unit mask frames x (All-head (IsStoredUnit mask frames (frames + 1)) x xs all)) ∙ asked_later x.unit.serial x.unit.mask x.unit.lit x.unit.stage k asked
asked_now mask frames (x ∷ xs) all asked (suc place) = asked_now mask frames xs (All-tail (IsStoredUnit mask frames (frames + 1)) x xs all) asked place

-- of the places of units the index says which are asked now
pub asked_indexed : (mask : Mask) (frames : ℕ) (stored_units : List StoredUnit) (timers : Timers) (places : AskedPlaces) → IsUnitStore mask frames (frames + 1) stored_units timers
    → AreIndexed stored_units places → (asked : Grant) (place : ℕ) → place < length (units_at frames stored_units) → is_asked_at (units_at frames stored_units) asked place ≡ is_in_set places asked place
asked_indexed mask frames stored_units timers places kept indexed asked place low =
    asked_now mask frames stored_units kept.each asked place ∙ sym (indexed asked place (rw length-map at low))

pub asked_within : (units : List FibreUnit) (asked : Grant) (place : ℕ) → is_asked_at units asked place ≡ true → place < length units
asked_within [] asked place e = let no : false ≡ true = e in absurd (cc)
asked_within (u ∷ us) asked zero e = omega arith
asked_within (u ∷ us) asked (suc place) e = let low = asked_within us asked place e in omega arith

-- the first place of the index, where it is that of a unit
module _ (units : List FibreUnit) (places : AskedPlaces) (asked : Grant) (first : ℕ)
    (same : (place : ℕ) → place < length units → is_asked_at units asked place ≡ is_in_set places asked place) where
  unless_asked : (place : ℕ) → (is_asked_at units asked place ≡ true → ⊥) → is_asked_at units asked place ≡ false
  unless_asked place never =
      elim (cases_Bool (is_asked_at units asked place)) [
        | inl asks_it ↦ absurd (never asks_it)
        | inr isnt ↦ isnt
      ]

  in_index : (place : ℕ) → is_asked_at units asked place ≡ true → is_in_set places asked place ≡ true
  in_index place asks_it = sym (same place (asked_within units asked place asks_it)) ∙ asks_it

  pub next_found : (next : ℕ) → next < length units → IsLeastFrom (places_asked places asked) first (Some next) → IsNextAsked units asked first (Some next)
  next_found next low least = (
    least.0,
    same next low ∙ least.1,
    λ place from before.
        unless_asked place (λ asks_it. let most : next ≤ place = least.2 place from (in_index place asks_it) in absurd (omega arith)),
  )

  pub none_found : IsLeastFrom (places_asked places asked) first None → IsNextAsked units asked first None
  none_found least = λ place from. unless_asked place (λ asks_it. least place from (in_index place asks_it))

  pub next_behind : (next : ℕ) → length units ≤ next → IsLeastFrom (places_asked places asked) first (Some next) → IsNextAsked units asked first None
  next_behind next high least = λ place from.
      unless_asked place
      (λ asks_it.
      let most : next ≤ place = least.2 place from (in_index place asks_it) in
      let low = asked_within units asked place asks_it in
      absurd (omega arith))

pub next_within : (units : List FibreUnit) (asked : Grant) (first most : ℕ) (next : Option ℕ) → IsNextAsked units asked first next → length units ≤ most → IfSome next (λ place. place < most)
next_within units asked first most None is few = tt
next_within units asked first most (Some place) is few = let low = asked_within units asked place is.1 in omega arith

-- ---- a unit that stands still

none_is_not : (n : ℕ) → Some n ≡ None → ⊥
none_is_not n e = cc

still : (s : Serial) (m : Mask) (l : Bool) (stage : Stage) (k : ℕ) → frames_left (unit s m l stage) ≡ None → with_more_frames stage k ≡ stage
still s m true Initial k e = refl
still s m false Initial k e = refl
still s m l Standby k e = refl
still s m true (SerialNumber f) k e = absurd (none_is_not (80000 - f) e)
still s m false (SerialNumber f) k e = absurd (none_is_not (80000 - f) e)
still s m true (Ranging n f) k e = absurd (none_is_not (80000 - f) e)
still s m false (Ranging n f) k e = absurd (none_is_not (80000 - f) e)
still s m l (Operation n d o) k e = refl
still s m true (Popup n d o f) k e = absurd (none_is_not (800 - f) e)
still s m false (Popup n d o f) k e = absurd (none_is_not (800 - f) e)
still s m l EmergencyStop k e = refl

pub stands_still : (u : UnitState) (k : ℕ) → frames_left u ≡ None → unit_after_frames k u ≡ u
stands_still u k none =
    let few : ForSome (frames_left u) (λ left. k < left) = λ left e. absurd (none_is_not left (sym e ∙ none)) in
    skips u.serial u.mask u.lit u.stage k few ∙ ap (unit u.serial u.mask u.lit) (still u.serial u.mask u.lit u.stage k none)

-- the frame that ends a state is the last of those that are left
pub one_more : (u : UnitState) (k left : ℕ) → left ≡ k + 1 → unit_after (unit_after_frames k u) Frame ≡ unit_after_frames left u
one_more u k left e = let same : suc k ≡ left = omega arith in ap (λ (n : ℕ). unit_after_frames n u) same

pub positive : (u : UnitState) (n : ℕ) → IsFirstChange u n → 1 ≤ n
positive u zero f = absurd (f.changes refl)
positive u (suc n) f = omega arith

-- ---- the first stored units

pub record ArePlanned (mask : Mask) (plans : List UnitPlan) (stored_units : Vec StoredUnit Global) (count : ℕ) : Type 0 where
  pub units : units_at 0 stored_units.items ≡ map (planned_unit mask) (take count plans)
  pub each : All (IsStoredUnit mask 0 1) stored_units.items
  pub due : All (λ stored. due_of stored ≡ None) stored_units.items
  pub asked : All (λ stored. asked_by_of stored.unit.stage ≡ Nothing) stored_units.items
  pub len : vec_len stored_units ≡ count
  pub capacity : length plans ≤ vec_capacity stored_units

pub planned_is_stored : (mask : Mask) (plan : UnitPlan) (stored : StoredUnit) → plan.delay ≤ MAX_DELAY → plan.random ≤ MAX_RANDOM_DELAY → stored.unit.mask ≡ mask → stored.delay ≡ plan.delay → stored.random ≡ plan.random → stored.brought ≡ 0 → due_of stored ≡ None
    → IsStoredUnit mask 0 1 stored
planned_is_stored mask plan stored near low mask_is delay random brought due =
    record {
      mask_is = mask_is;
      delay = omega arith;
      random = omega arith;
      brought = omega arith;
      ahead = λ d e. absurd (none_is_not d (sym e ∙ due));
    }

pub none_due : (stored_units : List StoredUnit) (place : ℕ) → All (λ stored. due_of stored ≡ None) stored_units → due_at stored_units place ≡ None
none_due [] place all = refl
none_due (x ∷ xs) zero all = All-head (λ stored. due_of stored ≡ None) x xs all
none_due (x ∷ xs) (suc place) all = none_due xs place (All-tail (λ stored. due_of stored ≡ None) x xs all)

pub none_asked : (stored_units : List StoredUnit) (place : ℕ) → All (λ stored. asked_by_of stored.unit.stage ≡ Nothing) stored_units → asked_by_at stored_units place ≡ Nothing
none_asked [] place all = refl
none_asked (x ∷ xs) zero all = All-head (λ stored. asked_by_of stored.unit.stage ≡ Nothing) x xs all
none_asked (x ∷ xs) (suc place) all = none_asked xs place (All-tail (λ stored. asked_by_of stored.unit.stage ≡ Nothing) x xs all)

pub none_indexed : (stored_units : List StoredUnit) (places : AskedPlaces) → All (λ stored. asked_by_of stored.unit.stage ≡ Nothing) stored_units → (units : ℕ) → units ≡ length stored_units → AsksNobody units places → AreIndexed stored_units places
none_indexed stored_units places all units many nobody asked place low = nobody asked place (omega arith) ∙ ap (λ (k : AskedBy). asks k asked) (sym (none_asked stored_units place all))

pub planned_more : (mask : Mask) (plans : List UnitPlan) (old new : Vec StoredUnit Global) (count : ℕ) (plan : UnitPlan) (stored : StoredUnit) → ArePlanned mask plans old count → count < length plans
    → plan ≡ slice_index_or plans count plan → unit_at 0 stored ≡ planned_unit mask plan → IsStoredUnit mask 0 1 stored → due_of stored ≡ None → asked_by_of stored.unit.stage ≡ Nothing → new.items ≡ old.items ++ stored ∷ []
    → vec_len new ≡ vec_len old + 1
    → vec_capacity new ≡ vec_capacity old
    → ArePlanned mask plans new (count + 1)
planned_more mask plans old new count plan stored so_far low at unit_is is due asked items len cap =
    record {
      units = ap (units_at 0) items ∙ map_push (unit_at 0) old.items stored
          ∙ ap (λ (us : List FibreUnit). us ++ unit_at 0 stored ∷ []) so_far.units
          ∙ ap (λ (u : FibreUnit). map (planned_unit mask) (take count plans) ++ u ∷ []) (unit_is ∙ ap (planned_unit mask) at)
          ∙ sym (map_more (planned_unit mask) plans count plan low);
      each = All-same (IsStoredUnit mask 0 1) new.items (old.items ++ stored ∷ []) items (All-push (IsStoredUnit mask 0 1) old.items stored so_far.each is);
      due = All-same (λ s. due_of s ≡ None) new.items (old.items ++ stored ∷ []) items (All-push (λ s. due_of s ≡ None) old.items stored so_far.due due);
      asked = All-same (λ s. asked_by_of s.unit.stage ≡ Nothing) new.items (old.items ++ stored ∷ []) items (All-push (λ s. asked_by_of s.unit.stage ≡ Nothing) old.items stored so_far.asked asked);
      len = let l = so_far.len in omega arith;
      capacity = let l = so_far.capacity in omega arith;
    }

-- ---- a frame

-- the units of the stored units after one frame more
pub next_units : (mask : Mask) (frames least : ℕ) (stored_units : List StoredUnit) → All (IsStoredUnit mask frames least) stored_units → units_at (frames + 1) stored_units ≡ map (unit_taking Frame) (units_at frames stored_units)
next_units mask frames least [] all = refl
next_units mask frames least (x ∷ xs) all =
    let low = (All-head (IsStoredUnit mask frames least) x xs all).brought in
    let more : (frames + 1) - x.brought ≡ suc (frames - x.brought) = omega arith in
    let here : unit_at (frames + 1) x ≡ unit_taking Frame (unit_at frames x) =
    ap (λ (k : ℕ). let u : FibreUnit = record { state = unit_after_frames k x.unit; delay = x.delay; random = x.random } in u) more in
    ap (λ (u : FibreUnit). u ∷ units_at (frames + 1) xs) here
    ∙ ap (λ (us : List FibreUnit). unit_taking Frame (unit_at frames x) ∷ us) (next_units mask frames least xs (All-tail (IsStoredUnit mask frames least) x xs all))

-- in the frame that has just come, before the states that it ends are ended
pub store_in_frame : (mask : Mask) (frames : ℕ) (stored_units : List StoredUnit) (timers : Timers) → frames < MAX_FRAMES → IsUnitStore mask frames (frames + 1) stored_units timers
    → IsUnitStore mask (frames + 1) (frames + 1) stored_units timers
store_in_frame mask frames stored_units timers low kept =
    record {
      each = All-weaker (IsStoredUnit mask frames (frames + 1)) (IsStoredUnit mask (frames + 1) (frames + 1))
          (λ x is. record { mask_is = is.mask_is; delay = is.delay; random = is.random; brought = let b = is.brought in omega arith; ahead = is.ahead }) stored_units kept.each;
      names = kept.names;
      set = kept.set;
      few = kept.few;
      fits = omega arith;
    }

-- the state of a unit ends with the frame that has just come
abbrev pub by_due : ℕ → Option ℕ → Bool
by_due frames None = false
by_due frames (Some due) = leb due frames

abbrev pub ends_by : ℕ → StoredUnit → Bool
ends_by frames stored = by_due frames (due_of stored)

abbrev pub one_if : Bool → ℕ
one_if true = 1
one_if false = 0

-- how many do
abbrev pub ending : ℕ → List StoredUnit → ℕ
ending frames stored_units = sum_by (λ stored. one_if (ends_by frames stored)) stored_units

-- a timer that is due in this frame is that of a stored unit
pub record IsEnding (mask : Mask) (frames : ℕ) (stored_units : List StoredUnit) (place : ℕ) : Type 0 where
  pub stored : StoredUnit
  pub low : place < length stored_units
  pub there : slice_get stored_units place ≡ Some stored
  pub due : due_of stored ≡ Some frames
  pub is : IsStoredUnit mask frames frames stored

found_due : (stored_units : List StoredUnit) (place due : ℕ) → due_at stored_units place ≡ Some due → (stored : StoredUnit) × (slice_get stored_units place ≡ Some stored) × (due_of stored ≡ Some due)
found_due [] place due e = let no : None ≡ Some due = e in absurd (cc)
found_due (x ∷ xs) zero due e = (x, refl, e)
found_due (x ∷ xs) (suc place) due e = found_due xs place due e

pub is_ending : (mask : Mask) (frames : ℕ) (stored_units : List StoredUnit) (timers : Timers) (place : ℕ) → IsUnitStore mask frames frames stored_units timers → IsFirstDue timers.frames frames place
    → IsEnding mask frames stored_units place
is_ending mask frames stored_units timers place kept first =
    let found = found_due stored_units place first.at (sym (kept.set place) ∙ first.set) in
    let x = found.0 in
    let low = slice_get_within stored_units place x found.1 in
    let is : IsStoredUnit mask frames frames x = subst (λ (s : StoredUnit). IsStoredUnit mask frames frames s) (get_or_from_slice_get stored_units place x x found.1) (kept.each place x low) in
    let least : frames ≤ first.at = is.ahead first.at found.2 in
    let most = first.due in
    let now : first.at ≡ frames = omega arith in
    record { stored = x; low = low; there = found.1; due = found.2 ∙ ap (λ (n : ℕ). Some n) now; is = is }

-- where no timer is due any more, all states that end have ended
pub store_after_frame : (mask : Mask) (frames : ℕ) (stored_units : List StoredUnit) (timers : Timers) → IsUnitStore mask frames frames stored_units timers → NoneIsDue timers.frames frames
    → IsUnitStore mask frames (frames + 1) stored_units timers
store_after_frame mask frames stored_units timers kept none =
    record {
      each = λ place d low.
          let x = get_or stored_units place d in
          let is = kept.each place d low in
          record {
            mask_is = is.mask_is;
            delay = is.delay;
            random = is.random;
            brought = is.brought;
            ahead = λ due e.
                let later = none place due (kept.set place ∙ due_there stored_units place d low ∙ e) in
                omega arith;
          };
      names = kept.names;
      set = kept.set;
      few = kept.few;
      fits = kept.fits;
    }

-- what the loop over the timers that are due keeps, from the units before the frame on
pub record InFrame (old : UnitStoreState) (mask : Mask) (frames : ℕ) (stored_units : List StoredUnit) (timers : Timers) : Type 0 where
  pub now : frames ≡ old.frames + 1
  pub units : units_at frames stored_units ≡ map (unit_taking Frame) old.units
  pub kept : IsUnitStore mask frames frames stored_units timers

-- ---- a unit whose state ends in this frame

again : (b : Bool) (d e : Option ℕ) → cond b d (cond b None e) ≡ cond b d e
again true d e = refl
again false d e = refl

pub kept_again : (mask : Mask) (frames least : ℕ) (stored_units : List StoredUnit) (timers before after : Timers) (place : ℕ) (y : StoredUnit) (due : Option ℕ)
    → IsUnitStore mask frames least stored_units timers
    → before ≡ record timers { frames = remove timers.frames place }
    → place < length stored_units → IsStoredUnit mask frames least y → due ≡ due_of y → after.names ≡ before.names → IsWritten before place due after
    → IsUnitStore mask frames least (slice_set stored_units place y) after
kept_again mask frames least stored_units timers before after place y due kept removed low stored is names set =
    kept_after mask frames least stored_units timers after place y due kept low stored is (names ∙ ap (λ (t : Timers). t.names) removed)
    (λ name.
    set name
    ∙ ap (λ (t : Timers). cond (eqb name place) due (get t.frames name)) removed
    ∙ ap (λ (d : Option ℕ). cond (eqb name place) due d) (get_removed timers.frames place name)
    ∙ again (eqb name place) due (get timers.frames name))

ends : (frames : ℕ) (x : StoredUnit) → due_of x ≡ Some frames → one_if (ends_by frames x) ≡ 1
ends frames x due = ap (λ (d : Option ℕ). one_if (by_due frames d)) due ∙ ap one_if (le-leb frames frames (omega arith))

not_ends : (frames : ℕ) (y : StoredUnit) → ((d : ℕ) → due_of y ≡ Some d → frames < d) → one_if (ends_by frames y) ≡ 0
not_ends frames y later = by_case (due_of y) refl
  where
    by_case : (d : Option ℕ) → due_of y ≡ d → one_if (by_due frames d) ≡ 0
    by_case None e = refl
    by_case (Some d) e = let l = later d e in ap one_if (lt-leb d frames l)

-- the stored unit at a place where a state ends, after the unit passed through that
module _ (old : UnitStoreState) (mask : Mask) (frames : ℕ) (stored_units : List StoredUnit) (timers : Timers) (inside : InFrame old mask frames stored_units timers) (place : ℕ)
    (first : IsFirstDue timers.frames frames place) (x : StoredUnit) (is : x ≡ slice_index_or stored_units place x) (y : StoredUnit) (passed : y ≡ brought_stored frames x) where
  the : IsEnding mask frames stored_units place
  the = is_ending mask frames stored_units timers place inside.kept first

  pub ending_low : place < length stored_units
  ending_low = the.low

  same : the.stored ≡ x
  same = sym (get_or_from_slice_get stored_units place the.stored x the.there) ∙ sym is

  pub ending_due : due_of x ≡ Some frames
  ending_due = subst (λ (s : StoredUnit). due_of s ≡ Some frames) same the.due

  pub ending_stored : IsStoredUnit mask frames frames x
  ending_stored = subst (λ (s : StoredUnit). IsStoredUnit mask frames frames s) same the.is

  later_stored : (due : Option ℕ) → due ≡ due_of y → ForSome due (λ d. y.brought + 1 ≤ d) → IsStoredUnit mask frames frames y
  later_stored due value later =
      let now : y.brought ≡ frames = ap (λ (s : StoredUnit). s.brought) passed in
      let delay : y.delay ≡ x.delay = ap (λ (s : StoredUnit). s.delay) passed in
      let near = ending_stored.delay in
      let random : y.random ≡ x.random = ap (λ (s : StoredUnit). s.random) passed in
      let few = ending_stored.random in
      record {
        mask_is = ap (λ (s : StoredUnit). s.unit.mask) passed ∙ frames_mask (frames - x.brought) x.unit ∙ ending_stored.mask_is;
        delay = omega arith;
        random = omega arith;
        brought = omega arith;
        ahead = λ d e. let l : y.brought + 1 ≤ d = later d (value ∙ e) in omega arith;
      }

  unit_stays : unit_at frames y ≡ unit_at frames x
  unit_stays =
      let none : frames - frames ≡ 0 = omega arith in
      ap (unit_at frames) passed
      ∙ ap (λ (k : ℕ). let u : FibreUnit = record { state = unit_after_frames k (unit_after_frames (frames - x.brought) x.unit); delay = x.delay; random = x.random } in u) none

  pub in_frame_again : (before after : Timers) (due : Option ℕ) → before ≡ record timers { frames = remove timers.frames place } → due ≡ due_of y
      → ForSome due (λ d. y.brought + 1 ≤ d) → after.names ≡ before.names → IsWritten before place due after → InFrame old mask frames (slice_set stored_units place y) after
  in_frame_again before after due removed value later names set =
      record {
        now = inside.now;
        units = map-set (unit_at frames) stored_units place y
            ∙ ap (λ (u : FibreUnit). slice_set (units_at frames stored_units) place u) (unit_stays ∙ sym (get_or_from_slice_get (units_at frames stored_units) place (unit_at frames x) (unit_at frames x) mapped))
            ∙ set-get_or (units_at frames stored_units) place (unit_at frames x)
            ∙ inside.units;
        kept = kept_again mask frames frames stored_units timers before after place y due inside.kept removed the.low (later_stored due value later) value names set;
      }
    where
      mapped : slice_get (units_at frames stored_units) place ≡ Some (unit_at frames x)
      mapped = slice_get-map (unit_at frames) stored_units place ∙ ap (option_map (unit_at frames)) (slice_get_read stored_units (length stored_units) place x refl the.low is)

  pub fewer : (due : Option ℕ) → due ≡ due_of y → ForSome due (λ d. y.brought + 1 ≤ d) → ending frames (slice_set stored_units place y) < ending frames stored_units
  fewer due value later =
      let count : StoredUnit → ℕ = λ s. one_if (ends_by frames s) in
      let sums : ending frames (slice_set stored_units place y) + count (get_or stored_units place x) ≡ ending frames stored_units + count y = sum_by-set count stored_units place y x the.low in
      let at_x : count (get_or stored_units place x) ≡ 1 = ap count (sym is) ∙ ends frames x ending_due in
      let at_y : count y ≡ 0 = not_ends frames y (λ d e. let l : y.brought + 1 ≤ d = later d (value ∙ e) in let now : y.brought ≡ frames = ap (λ (s : StoredUnit). s.brought) passed in omega arith) in
      omega arith

-- ---- what a unit is

status_kept : (s : Serial) (m : Mask) (l : Bool) (stage : Stage) (k : ℕ) → status_of (unit_later (unit s m l stage) k) ≡ status_of (unit s m l stage)
status_kept s m l Initial k = refl
status_kept s m l Standby k = refl
status_kept s m l (SerialNumber f) k = refl
status_kept s m l (Ranging n f) k = refl
status_kept s m l (Operation n d o) k = refl
status_kept s m l (Popup n d o f) k = refl
status_kept s m l EmergencyStop k = refl

-- a unit that is stored is what it was when it was brought up to date
pub status_there : (mask : Mask) (frames : ℕ) (stored_units : List StoredUnit) (timers : Timers) → IsUnitStore mask frames (frames + 1) stored_units timers → (place : ℕ) (x : StoredUnit)
    → slice_get stored_units place ≡ Some x → status_at (units_at frames stored_units) place ≡ Some (status_of x.unit)
status_there mask frames stored_units timers kept place x there =
    let stored : IsStoredUnit mask frames (frames + 1) x =
    subst (λ (s : StoredUnit). IsStoredUnit mask frames (frames + 1) s) (get_or_from_slice_get stored_units place x x there)
    (kept.each place x (slice_get_within stored_units place x there)) in
    ap (option_map (λ (u : FibreUnit). status_of u.state)) (slice_get-map (unit_at frames) stored_units place ∙ ap (option_map (unit_at frames)) there)
    ∙ ap (λ (u : UnitState). Some (status_of u)) (later_unit mask frames x stored)
    ∙ ap (λ (status : UnitStatus). Some status) (status_kept x.unit.serial x.unit.mask x.unit.lit x.unit.stage (frames - x.brought))

pub status_nowhere : (frames : ℕ) (stored_units : List StoredUnit) (place : ℕ) → slice_get stored_units place ≡ None → status_at (units_at frames stored_units) place ≡ None
status_nowhere frames stored_units place none =
    ap (option_map (λ (u : FibreUnit). status_of u.state)) (slice_get-map (unit_at frames) stored_units place ∙ ap (option_map (unit_at frames)) none)
