-- What the tasks of a storm served, from what each of them tells.
use Rattle.std.proofs.Common.{◌≡◌, ◌≢◌, ◌<◌, ◌≤◌, ◌+◌, ◌-◌, ◌==◌, ℕ, Bool, List, [], ◌∷◌, length, map, get_or, Ok, Err, inl, inr, refl, sym, ap, subst, ◌∙◌, arith, suc, zero, drop, drop-cons, add-one, ◌⊎◌}
use Rattle.std.specs.Prelude.{MatchBool}
use Rattle.std.proofs.lemmas.Bool.Decides.{eqb_tells}
use Rattle.std.proofs.lemmas.List.{get_or-map, length-map}
use Rattle.gp_machine.specs.declared.entry.Receipt.{Receipt}
use Rattle.gp_workers.specs.Asked.{commands_of, frames_of}
use Rattle.gp_workers.specs.Ring.{GrowsByBursts}
use Rattle.gp_storm.specs.declared.fault.PlanFault.{PlanFault}
use Rattle.gp_storm.specs.declared.fault.PlanFault.TheVariants as plans
use Rattle.gp_storm.specs.declared.fault.StormFault.{StormFault}
use Rattle.gp_storm.specs.declared.fault.StormFault.TheVariants as storms
use Rattle.gp_storm.specs.declared.plan.Plan.{Plan}
use Rattle.gp_storm.specs.Serving.{AreServed, Ended, EndsFirst, IsFaultOf, IsServed, IsStormFaultOf, Serves, first_fault_of}

-- where no fault is the first there is none
pub none_has_fault : (ends : List Ended) → first_fault_of ends ≡ Ok tt → (place : ℕ) (d : Ended) → place < length ends → get_or ends place d ≡ Ok tt
none_has_fault [] first place d l = absurd (omega (arith, l))
none_has_fault (Ok u ∷ ends) first zero d l = refl
none_has_fault (Ok u ∷ ends) first (suc place) d l = none_has_fault ends first place d (omega (arith, l))
none_has_fault (Err fault ∷ ends) first place d l = let e = first in cc

-- what is told at a place, by which place it is
pub operator_served : (plan : Plan) (last place : ℕ) (receipts : List Receipt) (ended : Ended) → place ≡ 0 → Serves (commands_of plan.commands.items) receipts ended → IsServed plan last place receipts ended
operator_served plan last place receipts ended is told = rw is told

pub clock_served : (plan : Plan) (last place : ℕ) (receipts : List Receipt) (ended : Ended) → place ≢ 0 → place ≡ last → Serves (frames_of plan.frames.items) receipts ended → IsServed plan last place receipts ended
clock_served plan last place receipts ended some is told =
    elim (eqb_tells place 0) [
      | inl first ↦ absurd (some first.1)
      | inr not_zero ↦ elim (eqb_tells place last) [
        | inl here ↦
            subst (λ (b : Bool). MatchBool b (Serves (commands_of plan.commands.items) receipts ended) (MatchBool (place == last) (Serves (frames_of plan.frames.items) receipts ended) (GrowsByBursts [] receipts (place - 1))))
            (sym not_zero.0)
            (subst (λ (b : Bool). MatchBool b (Serves (frames_of plan.frames.items) receipts ended) (GrowsByBursts [] receipts (place - 1))) (sym here.0) told)
        | inr there ↦ absurd (there.1 is)
      ]
    ]

pub reader_served : (plan : Plan) (last place : ℕ) (receipts : List Receipt) (ended : Ended) → place ≢ 0 → place ≢ last → GrowsByBursts [] receipts (place - 1) → IsServed plan last place receipts ended
reader_served plan last place receipts ended some other told =
    elim (eqb_tells place 0) [
      | inl first ↦ absurd (some first.1)
      | inr not_zero ↦ elim (eqb_tells place last) [
        | inl here ↦ absurd (other here.1)
        | inr there ↦
            subst (λ (b : Bool). MatchBool b (Serves (commands_of plan.commands.items) receipts ended) (MatchBool (place == last) (Serves (frames_of plan.frames.items) receipts ended) (GrowsByBursts [] receipts (place - 1))))
            (sym not_zero.0)
            (subst (λ (b : Bool). MatchBool b (Serves (frames_of plan.frames.items) receipts ended) (GrowsByBursts [] receipts (place - 1))) (sym there.0) told)
      ]
    ]

-- and back
clock_told : (plan : Plan) (last place : ℕ) (receipts : List Receipt) (ended : Ended) → place ≢ 0 → place ≡ last → IsServed plan last place receipts ended → Serves (frames_of plan.frames.items) receipts ended
clock_told plan last place receipts ended some is told =
    elim (eqb_tells place 0) [
      | inl first ↦ absurd (some first.1)
      | inr not_zero ↦ elim (eqb_tells place last) [
        | inl here ↦
            subst (λ (b : Bool). MatchBool b (Serves (frames_of plan.frames.items) receipts ended) (GrowsByBursts [] receipts (place - 1))) here.0
            (subst (λ (b : Bool). MatchBool b (Serves (commands_of plan.commands.items) receipts ended) (MatchBool (place == last) (Serves (frames_of plan.frames.items) receipts ended) (GrowsByBursts [] receipts (place - 1))))
            not_zero.0 told)
        | inr there ↦ absurd (there.1 is)
      ]
    ]

reader_told : (plan : Plan) (last place : ℕ) (receipts : List Receipt) (ended : Ended) → place ≢ 0 → place ≢ last → IsServed plan last place receipts ended → GrowsByBursts [] receipts (place - 1)
reader_told plan last place receipts ended some other told =
    elim (eqb_tells place 0) [
      | inl first ↦ absurd (some first.1)
      | inr not_zero ↦ elim (eqb_tells place last) [
        | inl here ↦ absurd (other here.1)
        | inr there ↦
            subst (λ (b : Bool). MatchBool b (Serves (frames_of plan.frames.items) receipts ended) (GrowsByBursts [] receipts (place - 1))) there.0
            (subst (λ (b : Bool). MatchBool b (Serves (commands_of plan.commands.items) receipts ended) (MatchBool (place == last) (Serves (frames_of plan.frames.items) receipts ended) (GrowsByBursts [] receipts (place - 1))))
            not_zero.0 told)
      ]
    ]

-- where each task served as its place has it and none had a fault, all that was asked is served
pub all_served : (plan : Plan) (last : ℕ) (receipts : List (List Receipt)) (ends : List Ended) → 0 < last → length receipts ≡ last + 1 → length ends ≡ last + 1
    → ((place : ℕ) → place ≤ last → IsServed plan last place (get_or receipts place []) (get_or ends place (Ok tt))) → first_fault_of ends ≡ Ok tt → AreServed plan last receipts
all_served plan last receipts ends some count places served first = record {
  commands = told 0 (omega arith);
  frames = clock_told plan last last (get_or receipts last []) (Ok tt) (λ is. omega (arith, some, is)) refl (told last (omega arith));
  bursts = λ place above below. reader_told plan last place (get_or receipts place []) (Ok tt) (λ is. omega (arith, above, is)) (λ is. omega (arith, below, is)) (told place (omega (arith, below)));
  count = count;
}
  where
    told : (place : ℕ) → place ≤ last → IsServed plan last place (get_or receipts place []) (Ok tt)
    told place l = subst (IsServed plan last place (get_or receipts place [])) (none_has_fault ends first place (Ok tt) (omega (arith, l, places))) (served place l)

-- ---- the first fault, task by task

-- a fault at a place is the first from there on
pub first_at : (ends : List Ended) (i : ℕ) (d : Ended) (fault : PlanFault) → i < length ends → get_or ends i d ≡ Err fault → first_fault_of (drop i ends) ≡ Err fault
first_at ends i d fault l is = ap first_fault_of (drop-cons ends i d l ∙ ap (λ (ended : Ended). ended ∷ drop (suc i) ends) is)

-- a place with no fault is passed over
pub first_past : (ends : List Ended) (i : ℕ) (d : Ended) → i < length ends → get_or ends i d ≡ Ok tt → first_fault_of (drop i ends) ≡ first_fault_of (drop (i + 1) ends)
first_past ends i d l is = ap first_fault_of (drop-cons ends i d l ∙ ap (λ (ended : Ended). ended ∷ drop (suc i) ends) is) ∙ ap (λ (n : ℕ). first_fault_of (drop n ends)) (sym (add-one i))

-- the same of tasks that end so
pub first_of_tasks : {T : Type 0} (ended : T → Ended) (tasks : List T) (i : ℕ) (task : T) (fault : PlanFault) → i < length tasks → task ≡ get_or tasks i task → ended task ≡ Err fault
    → first_fault_of (drop i (map ended tasks)) ≡ Err fault
first_of_tasks ended tasks i task fault l is told =
    first_at (map ended tasks) i (ended task) fault (rw (length-map tasks ended) l) (get_or-map ended tasks i task (ended task) l ∙ ap ended (sym is) ∙ told)

pub past_task : {T : Type 0} (ended : T → Ended) (tasks : List T) (i : ℕ) (task : T) → i < length tasks → task ≡ get_or tasks i task → ended task ≡ Ok tt
    → first_fault_of (drop i (map ended tasks)) ≡ first_fault_of (drop (i + 1) (map ended tasks))
past_task ended tasks i task l is told =
    first_past (map ended tasks) i (ended task) (rw (length-map tasks ended) l) (get_or-map ended tasks i task (ended task) l ∙ ap ended (sym is) ∙ told)

-- ---- all tasks

-- what each task served, told by the lists of receipts and of ends
each_served : {T W : Type 0} (worker : T → W) (told : W → List Receipt) (ended : T → Ended) (plan : Plan) (last : ℕ) (tasks : List T) → length tasks ≡ last + 1
    → ((place : ℕ) (d : T) → place < length tasks → IsServed plan last place (told (worker (get_or tasks place d))) (ended (get_or tasks place d)))
    → (place : ℕ) → place ≤ last → IsServed plan last place (get_or (map told (map worker tasks)) place []) (get_or (map ended tasks) place (Ok tt))
each_served worker told ended plan last [] count served place l = absurd (omega (arith, count))
each_served {T} worker told ended plan last (t ∷ ts) count served place l =
    subst (λ (receipts : List Receipt). IsServed plan last place receipts (get_or (map ended all) place (Ok tt))) (sym receipts_at)
    (subst (IsServed plan last place (told (worker (get_or all place t)))) (sym (get_or-map ended all place t (Ok tt) within)) (served place t within))
  where
    all : List T
    all = t ∷ ts

    within : place < length (t ∷ ts)
    within = omega (arith, l, count)

    receipts_at : get_or (map told (map worker (t ∷ ts))) place [] ≡ told (worker (get_or (t ∷ ts) place t))
    receipts_at =
        get_or-map told (map worker (t ∷ ts)) place (worker t) [] (rw (length-map (t ∷ ts) worker) within)
        ∙ ap told (get_or-map worker (t ∷ ts) place t (worker t) within)

-- tasks that all ended with no fault served all
pub tasks_served : {T W : Type 0} (worker : T → W) (told : W → List Receipt) (ended : T → Ended) (plan : Plan) (last : ℕ) (tasks : List T) (workers : List W) → 0 < last → length tasks ≡ last + 1
    → ((place : ℕ) (d : T) → place < length tasks → IsServed plan last place (told (worker (get_or tasks place d))) (ended (get_or tasks place d)))
    → first_fault_of (map ended tasks) ≡ Ok tt → workers ≡ map worker tasks → AreServed plan last (map told workers)
tasks_served worker told ended plan last tasks workers some count served first are =
    subst (λ ws. AreServed plan last (map told ws)) (sym are)
    (all_served plan last (map told (map worker tasks)) (map ended tasks) some (length-map (map worker tasks) told ∙ length-map tasks worker ∙ count) (length-map tasks ended ∙ count)
    (each_served worker told ended plan last tasks count served) first)

-- the first of their faults is why they did not
pub tasks_failed : {T W : Type 0} (worker : T → W) (told : W → List Receipt) (ended : T → Ended) (plan : Plan) (last : ℕ) (tasks : List T) (fault : PlanFault) → length tasks ≡ last + 1
    → ((place : ℕ) (d : T) → place < length tasks → IsServed plan last place (told (worker (get_or tasks place d))) (ended (get_or tasks place d)))
    → first_fault_of (map ended tasks) ≡ Err fault → IsFaultOf plan last fault
tasks_failed worker told ended plan last tasks fault count served first = by_fault fault first
  where
    ends_first : (fault : PlanFault) → first_fault_of (map ended tasks) ≡ Err fault → EndsFirst plan last fault
    ends_first fault first = record {
      receipts = map told (map worker tasks);
      ends = map ended tasks;
      count = length-map tasks ended ∙ count;
      served = each_served worker told ended plan last tasks count served;
      first = first;
    }

    by_fault : (fault : PlanFault) → first_fault_of (map ended tasks) ≡ Err fault → IsFaultOf plan last fault
    by_fault plans.NoPort first = ends_first plans.NoPort first
    by_fault plans.JournalFull first = ends_first plans.JournalFull first
    by_fault plans.OutOfMemory first = tt
    by_fault plans.Mismatch first = tt

-- ---- faults of no task

pub unstarted : (plan : Plan) (last : ℕ) (fault : PlanFault) → (fault ≡ plans.OutOfMemory) ⊎ (fault ≡ plans.Mismatch) → IsFaultOf plan last fault
unstarted plan last fault (inl is) = subst (IsFaultOf plan last) (sym is) tt
unstarted plan last fault (inr is) = subst (IsFaultOf plan last) (sym is) tt

pub unclosed : (plan : Plan) (ports : ℕ) (fault : StormFault) → (fault ≡ storms.OutOfMemory) ⊎ (fault ≡ storms.Mismatch) → IsStormFaultOf plan ports fault
unclosed plan ports fault (inl is) = subst (IsStormFaultOf plan ports) (sym is) tt
unclosed plan ports fault (inr is) = subst (IsStormFaultOf plan ports) (sym is) tt
