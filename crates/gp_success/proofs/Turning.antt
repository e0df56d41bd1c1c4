-- The other parts of a frame for any number of units: the copy that is sent, the end of the frame, the search.
use Rattle.std.proofs.Common.{◌≡◌, ℕ, zero, suc, ◌+◌, ◌-◌, ◌/◌, ◌<◌, ◌≤◌, ◌||◌, not, Bool, true, false, List, [], ◌∷◌, ◌++◌, map, length, Option, None, Some, ◌⊎◌, inl, inr, refl, sym, ap, subst, ◌∙◌, arith, append_assoc}
use Rattle.std.specs.Prelude.{All, Contains, replicate, slice_get}
use Rattle.std.specs.Option.{option_to_list}
use Rattle.std.specs.FinMap.{get}
use Rattle.std.proofs.lemmas.Bool.{cases_Bool, false≢true}
use Rattle.std.proofs.lemmas.List.{length-append}
use Rattle.std.proofs.lemmas.List.Elements.{All-cons, All-nil, All-head, All-tail, All-weaker}
use Rattle.gp_ploam.specs.declared.message.Serial.{Serial}
use Rattle.gp_ploam.specs.declared.message.Down.{Down}
use Rattle.gp_ploam.specs.declared.message.Up.TheVariants.{SerialNumber as serial_number}
use Rattle.gp_ploam.specs.Mask.{mask_value}
use Rattle.gp_ploam.specs.Serials.{same_serial, is_among}
use Rattle.gp_ploam.specs.Up.{code_of_up}
use Rattle.gp_ploam.proofs.Serials.{same_serial-true, same_serial-itself}
use Rattle.gp_ranging.specs.declared.grant.Grant.TheVariants.{Search}
use Rattle.gp_machine.specs.declared.config.PortConfig.{PortConfig}
use Rattle.gp_machine.specs.Config.{is_distinct}
use Rattle.gp_machine.specs.Messages.{three_times}
use Rattle.gp_machine.specs.State.{Rows}
use Rattle.gp_machine.proofs.Walks.{both_true}
use Rattle.gp_onu.specs.declared.stage.Stage.{Stage}
use Rattle.gp_onu.specs.declared.stage.Stage.TheVariants.{SerialNumber, Ranging, Operation}
use Rattle.gp_onu.specs.Limits.{frame_bit_times}
use Rattle.gp_onu.specs.Table.{Frame}
use Rattle.gp_fibre.specs.declared.flight.Flight.{Flight}
use Rattle.gp_fibre.specs.declared.sent_burst.SentBurst.{SentBurst}
use Rattle.gp_fibre.specs.declared.unit_plan.UnitPlan.{UnitPlan}
use Rattle.gp_fibre.specs.World.{FibreUnit}
use Rattle.gp_fibre.specs.Step.{burst_answered, burst_with, unit_granted, unit_taking}
use Rattle.gp_fibre.specs.Schedule.{flights_of}
use Rattle.gp_success.proofs.AllUnits.{bursts_answered}
use Rattle.gp_success.proofs.LinkedUnits.{OnFibre, AllDiffer, AreOwed, IsLinked, Pending, count_new, flight_of, in_stage, plan_of, total_by, unit_of}
use Rattle.gp_success.proofs.Frames.{at_seam}
use Rattle.gp_success.proofs.Hearing.{counts, counts_ranging}

-- ---- the copy that is sent

-- what is owed once the first copy is sent, and which messages are still untold
pub record Sends (m : Down) (rest before : List Down) : Type 0 where
  pub untold : List Down
  pub owed_is : AreOwed rest untold
  pub tells : (x : Down) → Contains before x → (x ≡ m) ⊎ Contains untold x

first_is : (m n : Down) (rest more : List Down) → m ∷ rest ≡ n ∷ more → (m ≡ n) × (rest ≡ more)
first_is m n rest more e = (cc, cc)

split_contains : (n : Down) (ms : List Down) (x : Down) → Contains (n ∷ ms) x → (x ≡ n) ⊎ Contains ms x
split_contains n ms x (zero, low, is) = inl (sym is)
split_contains n ms x (suc i, low, is) = inr (i, omega arith, is)

pub sends : (m : Down) (rest before : List Down) → AreOwed (m ∷ rest) before → Sends m rest before
sends m rest before h = by h.left h.few before h.are
  where
    by : (left : ℕ) → left ≤ 2 → (before : List Down) → m ∷ rest ≡ replicate left h.begun ++ three_times before → Sends m rest before
    by zero few [] is = absurd (no is)
      where
        no : m ∷ rest ≡ [] → ⊥
        no e = cc
    by zero few (n ∷ ms) is =
        let both = first_is m n rest (n ∷ n ∷ three_times ms) is in
        record {
          untold = ms;
          owed_is = record { begun = n; left = 2; few = omega arith; are = both.1 };
          tells = λ x has. told x (split_contains n ms x has);
        }
      where
        told : (x : Down) → (x ≡ n) ⊎ Contains ms x → (x ≡ m) ⊎ Contains ms x
        told x (inl e) = inl (e ∙ sym (first_is m n rest (n ∷ n ∷ three_times ms) is).0)
        told x (inr later) = inr later
    by (suc left) few before is =
        let both = first_is m h.begun rest (replicate left h.begun ++ three_times before) is in
        record { untold = before; owed_is = record { begun = h.begun; left = left; few = omega arith; are = both.1 }; tells = λ x has. inr has }

-- with nothing owed all messages were told
pub none_untold : (owed ms : List Down) → owed ≡ [] → AreOwed owed ms → ms ≡ []
none_untold owed [] none h = refl
none_untold owed (m ∷ ms) none h = absurd (by h.left (sym none ∙ h.are))
  where
    by : (left : ℕ) → [] ≡ replicate left h.begun ++ three_times (m ∷ ms) → ⊥
    by zero e = cc
    by (suc left) e = cc

module _ (c : PortConfig) (rows : Rows) where
  -- ---- the end of a frame

  pub record AllTick (ms : List Down) (frames : ℕ) (xs : List OnFibre) : Type 0 where
    pub ys : List OnFibre
    pub tick : map (unit_taking Frame) (map (unit_of c.mask) xs) ≡ map (unit_of c.mask) ys
    pub plans : map plan_of ys ≡ map plan_of xs
    pub linked : All (IsLinked c rows ms (frames + 1)) ys

  record Ticks (ms : List Down) (frames : ℕ) (x : OnFibre) : Type 0 where
    stage : Stage
    tick : unit_taking Frame (unit_of c.mask x) ≡ unit_of c.mask (in_stage x stage)
    linked : IsLinked c rows ms (frames + 1) (in_stage x stage)

  as_stage : (x : OnFibre) (st : Stage) → x.stage ≡ st → unit_taking Frame (unit_of c.mask x) ≡ unit_taking Frame (unit_of c.mask (in_stage x st))
  as_stage x st is = ap (λ (y : Stage). unit_taking Frame (unit_of c.mask (in_stage x y))) is

  ticks : (ms : List Down) (frames : ℕ) (x : OnFibre) → frames + 1 < 80000 → IsLinked c rows ms frames x → Ticks ms frames x
  ticks ms frames x soon (IsLinked.new f low at none) =
      record { stage = SerialNumber (f + 1); tick = as_stage x (SerialNumber f) at ∙ counts x.serial c.mask x.delay x.random f (omega arith); linked = IsLinked.new (f + 1) (omega arith) refl none }
  ticks ms frames x soon (IsLinked.found f onu low at has owed) =
      record {
        stage = SerialNumber (f + 1);
        tick = as_stage x (SerialNumber f) at ∙ counts x.serial c.mask x.delay x.random f (omega arith);
        linked = IsLinked.found (f + 1) onu (omega arith) refl has owed;
      }
  ticks ms frames x soon (IsLinked.ranging f onu low at has) =
      record {
        stage = Ranging onu (f + 1);
        tick = as_stage x (Ranging onu f) at ∙ counts_ranging x.serial c.mask x.delay x.random onu f (omega arith);
        linked = IsLinked.ranging (f + 1) onu (omega arith) refl has;
      }
  ticks ms frames x soon (IsLinked.measured f onu low at has owed) =
      record {
        stage = Ranging onu (f + 1);
        tick = as_stage x (Ranging onu f) at ∙ counts_ranging x.serial c.mask x.delay x.random onu f (omega arith);
        linked = IsLinked.measured (f + 1) onu (omega arith) refl has owed;
      }
  ticks ms frames x soon (IsLinked.operates onu at has) =
      record { stage = Operation onu (c.teqd - x.delay) None; tick = as_stage x (Operation onu (c.teqd - x.delay) None) at; linked = IsLinked.operates onu refl has }

  pub all_tick : (ms : List Down) (frames : ℕ) (xs : List OnFibre) → frames + 1 < 80000 → All (IsLinked c rows ms frames) xs → AllTick ms frames xs
  all_tick ms frames [] soon linked = record { ys = []; tick = refl; plans = refl; linked = All-nil (IsLinked c rows ms (frames + 1)) }
  all_tick ms frames (x ∷ xs) soon linked =
      let first = ticks ms frames x soon (All-head (IsLinked c rows ms frames) x xs linked) in
      let rest = all_tick ms frames xs soon (All-tail (IsLinked c rows ms frames) x xs linked) in
      let y = in_stage x first.stage in
      record {
        ys = y ∷ rest.ys;
        tick =
            ap (λ (u : FibreUnit). u ∷ map (unit_taking Frame) (map (unit_of c.mask) xs)) first.tick
            ∙ ap (λ (us : List FibreUnit). unit_of c.mask y ∷ us) rest.tick;
        plans = ap (λ (ps : List UnitPlan). plan_of x ∷ ps) rest.plans;
        linked = All-cons (IsLinked c rows ms (frames + 1)) y rest.ys first.linked rest.linked;
      }

  -- ---- the search

  none_of : (m : Down) → Contains [] m → ⊥
  none_of m h = let low = h.1 in omega arith

  -- each unit stays as it is, and those that have no row answer
  data Asked (x : OnFibre) : Type 0 where
    answers : get rows x.serial ≡ None → unit_granted Search (unit_of c.mask x) ≡ unit_of c.mask x
        → burst_answered Search (unit_of c.mask x) ≡ Some (burst_with x.delay (code_of_up (serial_number 255 x.serial x.random 0) (mask_value c.mask))) → Asked x
    silent : count_new (get rows x.serial) ≡ 0 → unit_granted Search (unit_of c.mask x) ≡ unit_of c.mask x → burst_answered Search (unit_of c.mask x) ≡ None → Asked x

  granted_as : (x : OnFibre) (st : Stage) → x.stage ≡ st → unit_granted Search (unit_of c.mask (in_stage x st)) ≡ unit_of c.mask (in_stage x st) → unit_granted Search (unit_of c.mask x) ≡ unit_of c.mask x
  granted_as x st is same = ap (λ (y : Stage). unit_granted Search (unit_of c.mask (in_stage x y))) is ∙ same ∙ ap (λ (y : Stage). unit_of c.mask (in_stage x y)) (sym is)

  answered_as : (x : OnFibre) (st : Stage) (o : Option SentBurst) → x.stage ≡ st → burst_answered Search (unit_of c.mask (in_stage x st)) ≡ o → burst_answered Search (unit_of c.mask x) ≡ o
  answered_as x st o is same = ap (λ (y : Stage). burst_answered Search (unit_of c.mask (in_stage x y))) is ∙ same

  asked : (frames : ℕ) (x : OnFibre) → IsLinked c rows [] frames x → Asked x
  asked frames x (IsLinked.new f low at none) = Asked.answers none (granted_as x (SerialNumber f) at refl) (answered_as x (SerialNumber f) _ at refl)
  asked frames x (IsLinked.found f onu low at has owed) = absurd (none_of _ owed)
  asked frames x (IsLinked.ranging f onu low at has) = Asked.silent (ap count_new has) (granted_as x (Ranging onu f) at refl) (answered_as x (Ranging onu f) None at refl)
  asked frames x (IsLinked.measured f onu low at has owed) = absurd (none_of _ owed)
  asked frames x (IsLinked.operates onu at has) =
      Asked.silent (ap count_new has) (granted_as x (Operation onu (c.teqd - x.delay) None) at refl) (answered_as x (Operation onu (c.teqd - x.delay) None) None at refl)

  -- what is known of a burst that a search gave
  pub record Answer (frame : ℕ) (bursts : List SentBurst) (xs : List OnFibre) (p : Pending) : Type 0 where
    pub burst : slice_get bursts p.number ≡ Some (burst_with p.delay (code_of_up (serial_number 255 p.serial p.random 0) (mask_value c.mask)))
    pub none : get rows p.serial ≡ None
    pub from : Contains (map plan_of xs) (record { serial = p.serial; delay = p.delay; random = p.random })
    pub among : is_among p.serial (map (λ (x : OnFibre). x.serial) xs) ≡ true
    pub due : p.due ≡ frame + p.delay / frame_bit_times

  pub record AllAnswer (frame : ℕ) (before : List SentBurst) (xs : List OnFibre) : Type 0 where
    pub ps : List Pending
    pub stay : map (unit_granted Search) (map (unit_of c.mask) xs) ≡ map (unit_of c.mask) xs
    pub flights : flights_of frame (length before) (bursts_answered Search (map (unit_of c.mask) xs)) ≡ map flight_of ps
    pub answers : All (Answer frame (before ++ bursts_answered Search (map (unit_of c.mask) xs)) xs) ps
    pub differ : AllDiffer ps
    pub many : total_by count_new rows xs ≤ length ps

  not_true : (b : Bool) → not b ≡ true → b ≡ false
  not_true true h = sym h
  not_true false h = refl

  apart : (s t : Serial) (ss : List Serial) → is_among s ss ≡ true → is_among t ss ≡ false → same_serial s t ≡ false
  apart s t ss there out =
      elim (cases_Bool (same_serial s t)) [
        | inl b ↦ absurd (false≢true (sym out ∙ ap (λ (y : Serial). is_among y ss) (sym (same_serial-true s t b)) ∙ there))
        | inr b ↦ b
      ]

  or_true : (b : Bool) → (b || true) ≡ true
  or_true true = refl
  or_true false = refl

  answer_more : (frame : ℕ) (bursts : List SentBurst) (x : OnFibre) (xs : List OnFibre) (p : Pending) → Answer frame bursts xs p → Answer frame bursts (x ∷ xs) p
  answer_more frame bursts x xs p h =
      record {
        burst = h.burst;
        none = h.none;
        from = let at = h.from in (suc at.0, let low = at.1 in omega arith, at.2);
        among = ap (λ (b : Bool). same_serial p.serial x.serial || b) h.among ∙ or_true (same_serial p.serial x.serial);
        due = h.due;
      }

  pub all_answer : (frame frames : ℕ) (xs : List OnFibre) (before : List SentBurst) → is_distinct (map (λ (x : OnFibre). x.serial) xs) ≡ true → All (IsLinked c rows [] frames) xs → AllAnswer frame before xs
  all_answer frame frames [] before distinct linked = record { ps = []; stay = refl; flights = refl; answers = All-nil _; differ = tt; many = omega arith }
  all_answer frame frames (x ∷ xs) before distinct linked =
      by (λ before. all_answer frame frames xs before (both_true _ _ distinct).1 (All-tail (IsLinked c rows [] frames) x xs linked)) (asked frames x (All-head (IsLinked c rows [] frames) x xs linked))
    where
      alone : is_among x.serial (map (λ (y : OnFibre). y.serial) xs) ≡ false
      alone = not_true _ (both_true _ _ distinct).0

      by : ((before : List SentBurst) → AllAnswer frame before xs) → Asked x → AllAnswer frame before (x ∷ xs)
      by rest (Asked.silent counted stay said) =
          let r = rest before in
          let same : bursts_answered Search (map (unit_of c.mask) (x ∷ xs)) ≡ bursts_answered Search (map (unit_of c.mask) xs) = ap (λ (o : Option SentBurst). option_to_list o ++ bursts_answered Search (map (unit_of c.mask) xs)) said in
          let many = r.many in
          record {
            ps = r.ps;
            stay = ap (λ (u : FibreUnit). u ∷ map (unit_granted Search) (map (unit_of c.mask) xs)) stay ∙ ap (λ (us : List FibreUnit). unit_of c.mask x ∷ us) r.stay;
            flights = ap (λ (bs : List SentBurst). flights_of frame (length before) bs) same ∙ r.flights;
            answers =
                All-weaker (Answer frame (before ++ bursts_answered Search (map (unit_of c.mask) xs)) xs) (Answer frame (before ++ bursts_answered Search (map (unit_of c.mask) (x ∷ xs))) (x ∷ xs))
                (λ p h. subst (λ (bs : List SentBurst). Answer frame (before ++ bs) (x ∷ xs) p) (sym same) (answer_more frame _ x xs p h)) r.ps r.answers;
            differ = r.differ;
            many = omega arith;
          }
      by rest (Asked.answers none stay said) =
          let b : SentBurst = burst_with x.delay (code_of_up (serial_number 255 x.serial x.random 0) (mask_value c.mask)) in
          let r = rest (before ++ b ∷ []) in
          let others = bursts_answered Search (map (unit_of c.mask) xs) in
          let same : bursts_answered Search (map (unit_of c.mask) (x ∷ xs)) ≡ b ∷ others = ap (λ (o : Option SentBurst). option_to_list o ++ others) said in
          let p : Pending = record { number = length before; due = frame + x.delay / frame_bit_times; serial = x.serial; delay = x.delay; random = x.random } in
          let long : length (before ++ b ∷ []) ≡ length before + 1 = length-append before (b ∷ []) in
          let joined : (before ++ b ∷ []) ++ others ≡ before ++ b ∷ others = append_assoc before (b ∷ []) others in
          let many = r.many in
          let one : count_new (get rows x.serial) ≡ 1 = ap count_new none in
          record {
            ps = p ∷ r.ps;
            stay = ap (λ (u : FibreUnit). u ∷ map (unit_granted Search) (map (unit_of c.mask) xs)) stay ∙ ap (λ (us : List FibreUnit). unit_of c.mask x ∷ us) r.stay;
            flights =
                ap (λ (bs : List SentBurst). flights_of frame (length before) bs) same
                ∙ ap (λ (n : ℕ). flight_of p ∷ flights_of frame n others) (sym long)
                ∙ ap (λ (fs : List Flight). flight_of p ∷ fs) r.flights;
            answers =
                subst (λ (bs : List SentBurst). All (Answer frame (before ++ bs) (x ∷ xs)) (p ∷ r.ps)) (sym same)
                (All-cons (Answer frame (before ++ b ∷ others) (x ∷ xs)) p r.ps
                (record {
                  burst = at_seam before b others;
                  none = none;
                  from = (0, omega arith, refl);
                  among = ap (λ (q : Bool). q || is_among x.serial (map (λ (y : OnFibre). y.serial) xs)) (same_serial-itself x.serial);
                  due = refl;
                })
                (All-weaker (Answer frame ((before ++ b ∷ []) ++ others) xs) (Answer frame (before ++ b ∷ others) (x ∷ xs))
                (λ q h. answer_more frame _ x xs q (subst (λ (bs : List SentBurst). Answer frame bs xs q) joined h)) r.ps r.answers));
            differ = (
              All-weaker (Answer frame ((before ++ b ∷ []) ++ others) xs) (λ (q : Pending). same_serial q.serial x.serial ≡ false)
                  (λ q h. apart q.serial x.serial (map (λ (y : OnFibre). y.serial) xs) h.among alone) r.ps r.answers,
              r.differ,
            );
            many = omega arith;
          }
