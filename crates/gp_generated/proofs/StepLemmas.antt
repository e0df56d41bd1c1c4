-- Each step of a scene, and so each event, is within its ranges.
use Rattle.std.proofs.Common.{◌≡◌, ℕ, zero, suc, ◌*◌, ◌%◌, ◌<◌, ◌≤◌, ◌==◌, ◌&&◌, Bool, List, [], ◌∷◌, Option, Some, None, IfSome, true, false, refl, arith, rules, nat_le, nat_lt, slice_get, if◌then◌else◌, unwrap_or}
use Rattle.gp_generate.specs.declared.action.Action.{Action}
use Rattle.gp_generate.specs.declared.action.Action.TheVariants as actions
use Rattle.gp_generate.specs.declared.cast.Cast.{Cast}
use Rattle.gp_generate.specs.declared.chance.Draw.{Draw}
use Rattle.gp_generate.specs.declared.plan.Wish.{Wish}
use Rattle.gp_generate.specs.declared.scene.Scene.{Scene}
use Rattle.gp_generate.specs.declared.scene.Scene.TheVariants as scene
use Rattle.gp_generate.specs.declared.step.Order.{Order}
use Rattle.gp_generate.specs.declared.step.Step.{Step}
use Rattle.gp_generate.specs.declared.step.Step.TheVariants as steps
use Rattle.gp_generate.specs.declared.step.Words.{Words}
use Rattle.gp_generate.specs.Actions.{any_action, any_frames}
use Rattle.gp_generate.specs.Cast.{cast_anew, cast_of}
use Rattle.gp_generate.specs.Chance.{draw_of}
use Rattle.gp_generate.specs.Course.{CourseState, course_behind, event_next, moment_next, moment_with, or_wild, scene_of}
use Rattle.gp_generate.specs.Making.{event_of, event_of_step}
use Rattle.gp_generate.specs.Plan.{IsPlan, cast_units, cycles_of}
use Rattle.gp_generate.specs.Scenes.{opening_length, opening_of, opening_steps, step_at, turn_of}
use Rattle.gp_generate.specs.Script.{event_at}
use Rattle.gp_generated.specs.Meant.{IsWithin}
use Rattle.gp_generated.proofs.WithinLemmas.{IsCast, asked_within, burst_within}

-- ---- who is in a scene

pub nonzero : (n : ℕ) → (suc n == 0) ≡ false
nonzero n = search (arith, rules)

pub units_few : (units : ℕ) → units ≤ 1024 → (if units == 0 then 3 else units) < 65536
units_few zero h = omega arith
units_few (suc n) h = rw (nonzero n) (omega (arith, h))

pub units_some : (units : ℕ) → 0 < (if units == 0 then 3 else units)
units_some zero = omega arith
units_some (suc n) = rw (nonzero n) (omega arith)

pub rest_less : (a b : ℕ) → 0 < b → a % b < b
rest_less a b h = grind (arith, h)

pub cast_there : (plan : Wish) (draw : Draw) → IsPlan plan → IsCast plan (cast_of plan draw)
cast_there plan draw is =
    let some = is.some_ports in
    let ports : draw.who % plan.ports < plan.ports = rest_less draw.who plan.ports (omega (arith, some)) in
    let most = is.few_ports in
    record {
      port = ports;
      octet = omega (arith, ports, most);
      unit = rest_less draw.what (cast_units plan) (units_some plan.units);
      few = units_few plan.units is.few_units;
      near = omega arith;
    }

pub anew_there : (plan : Wish) (cast : Cast) (draw : Draw) → IsCast plan cast → IsCast plan (cast_anew plan cast draw)
anew_there plan cast draw is = record {
  port = is.port;
  octet = is.octet;
  unit = rest_less draw.who (cast_units plan) (units_some plan.units);
  few = is.few;
  near = omega arith;
}

-- ---- actions

abbrev pub IsAction : Wish → Action → Type 0
IsAction plan (actions.Frames count) = count ≤ 255
IsAction plan (actions.Light lit) = 0 < plan.units
IsAction plan _ = Unit {0}

pub lit_less : (units unit : ℕ) → 0 < units → unit < (if units == 0 then 3 else units) → unit < units
lit_less zero unit some h = absurd (let e : ⊥ = omega (arith, some) in e)
lit_less (suc n) unit some h = rw (nonzero n) at h

pub action_within : (plan : Wish) (cast : Cast) (action : Action) (draw : Draw) → IsCast plan cast → IsAction plan action
    → IsWithin plan.ports plan.units (event_of plan cast action draw)
action_within plan cast (actions.Frames count) draw is few = (is.port, omega arith, omega (arith, few))
action_within plan cast (actions.Say said) draw is few = burst_within plan cast said draw is
action_within plan cast (actions.Ask order) draw is few = (is.port, asked_within plan cast order is)
action_within plan cast (actions.Light lit) draw is some = lit_less plan.units cast.unit some is.unit

pub either : (plan : Wish) (b : Bool) (x y : Action) → IsAction plan x → IsAction plan y → IsAction plan (if b then x else y)
either plan true x y p q = p
either plan false x y p q = q

pub either_by : (plan : Wish) (units : ℕ) (x y : Action) → IsAction plan x → (0 < units → IsAction plan y) → IsAction plan (if units == 0 then x else y)
either_by plan zero x y p q = p
either_by plan (suc n) x y p q = rw (nonzero n) (q (omega arith))

pub frames_few : (plan : Wish) (draw : Draw) (most : ℕ) → 0 < most → most ≤ 64 → IsAction plan (any_frames draw most)
frames_few plan draw most some few = let less = rest_less draw.what most some in omega (arith, less, few)

pub any_within : (sayings : List Words) (orders : List Order) (plan : Wish) (draw : Draw) → IsAction plan (any_action sayings orders plan draw)
any_within sayings orders plan draw =
    let twelve : IsAction plan (any_frames draw 12) = frames_few plan draw 12 (omega arith) (omega arith) in
    let many : IsAction plan (any_frames draw 64) = frames_few plan draw 64 (omega arith) (omega arith) in
    either_by plan plan.units _ _
    (either plan (nat_lt (draw.which % 8) 3) _ _ twelve (either plan (nat_lt (draw.which % 8) 5) _ _ tt tt))
    (λ some.
    either plan (nat_lt (draw.which % 16) 6) _ _ many
    (either plan (nat_lt (draw.which % 16) 8) _ _ tt (either plan (nat_lt (draw.which % 16) 12) _ _ tt
    (either plan (nat_lt (draw.which % 16) 15) _ _ some tt))))

-- ---- steps

abbrev pub is_small : Step → Bool
is_small (steps.Frames count) = nat_le count 255
is_small _ = true

abbrev pub are_small : List Step → Bool
are_small [] = true
are_small (step ∷ rest) = is_small step && are_small rest

pub first_of_both : (a b : Bool) → (a && b) ≡ true → a ≡ true
first_of_both true b h = refl
first_of_both false b h = h

pub second_of_both : (a b : Bool) → (a && b) ≡ true → b ≡ true
second_of_both true b h = h
second_of_both false b h = cc h

pub some_small : (list : List Step) (place : ℕ) → are_small list ≡ true → IfSome (slice_get list place) (λ step. is_small step ≡ true)
some_small [] place h = tt
some_small (step ∷ rest) zero h = first_of_both (is_small step) (are_small rest) h
some_small (step ∷ rest) (suc place) h = some_small rest place (second_of_both (is_small step) (are_small rest) h)

pub turn_small : (s : Scene) → are_small (turn_of s) ≡ true
turn_small scene.Anything = refl
turn_small scene.Stray = refl
turn_small scene.Flood = refl
turn_small scene.FloodedWindow = refl
turn_small scene.Silent = refl
turn_small scene.Garbled = refl
turn_small scene.Elsewhere = refl
turn_small scene.Answers = refl
turn_small scene.Unacknowledged = refl
turn_small scene.ManyAllocs = refl
turn_small scene.GivenBack = refl
turn_small scene.Gasps = refl
turn_small scene.Popup = refl
turn_small scene.PopupAll = refl
turn_small scene.Removed = refl
turn_small scene.Disabled = refl
turn_small scene.Early = refl
turn_small scene.TooFar = refl
turn_small scene.StillRanging = refl
turn_small scene.GaspsEarly = refl
turn_small scene.Other = refl
turn_small scene.SilentEarly = refl
turn_small scene.NoAnswer = refl
turn_small scene.Three = refl
turn_small scene.Random = refl
turn_small scene.Twice = refl
turn_small scene.Again = refl
turn_small scene.Anew = refl
turn_small scene.SearchTwice = refl
turn_small scene.Nobody = refl

pub one_of_both : (b : Bool) (x y : Option Step) → IfSome x (λ step. is_small step ≡ true) → IfSome y (λ step. is_small step ≡ true)
    → IfSome (if b then x else y) (λ step. is_small step ≡ true)
one_of_both true x y p q = p
one_of_both false x y p q = q

pub step_small : (s : Scene) (place : ℕ) → IfSome (step_at s place) (λ step. is_small step ≡ true)
step_small s place =
    one_of_both (nat_le 1000 place) None _ tt
    (one_of_both (nat_lt place (opening_length (opening_of s))) (slice_get opening_steps place) _ (some_small opening_steps place refl)
    (one_of_both _ None _ tt (some_small (turn_of s) _ (turn_small s))))

pub first_small : (o : Option Step) → IfSome o (λ step. is_small step ≡ true) → is_small (unwrap_or o steps.Wild) ≡ true
first_small None h = refl
first_small (Some step) h = h

pub moment_small : (scenes : List Scene) (plan : Wish) (opened : Draw) (place : ℕ) (draw : Draw) (o : Option Step) → IfSome o (λ step. is_small step ≡ true)
    → is_small (moment_with scenes plan opened place draw o).step ≡ true
moment_small scenes plan opened place draw (Some step) h = h
moment_small scenes plan opened place draw None h = first_small (step_at (scene_of scenes plan draw) 0) (step_small (scene_of scenes plan draw) 0)

pub wild_small : (b : Bool) (step : Step) → is_small step ≡ true → is_small (if b then steps.Wild else step) ≡ true
wild_small true step h = refl
wild_small false step h = h

pub count_small : (count : ℕ) → nat_le count 255 ≡ true → count ≤ 255
count_small count h = search (arith, rules)

pub step_within : (sayings : List Words) (orders : List Order) (plan : Wish) (cast : Cast) (step : Step) (draw : Draw) → IsCast plan cast → is_small step ≡ true
    → IsWithin plan.ports plan.units (event_of_step sayings orders plan cast step draw)
step_within sayings orders plan cast (steps.Frames count) draw is small = action_within plan cast (actions.Frames count) draw is (count_small count small)
step_within sayings orders plan cast steps.Ranging draw is small = action_within plan cast (actions.Frames (4 * cycles_of plan cast.port)) draw is (omega arith)
step_within sayings orders plan cast (steps.Say said) draw is small = action_within plan cast (actions.Say said) draw is tt
step_within sayings orders plan cast (steps.Ask order) draw is small = action_within plan cast (actions.Ask order) draw is tt
step_within sayings orders plan cast steps.Wild draw is small =
    action_within plan (cast_anew plan cast draw) (any_action sayings orders plan draw) draw (anew_there plan cast draw is) (any_within sayings orders plan draw)

-- the event behind any course
pub next_within : (scenes : List Scene) (sayings : List Words) (orders : List Order) (plan : Wish) (course : CourseState) → IsPlan plan
    → IsWithin plan.ports plan.units (event_next scenes sayings orders plan course)
unfolding event_next
next_within scenes sayings orders plan course is =
    let draw = draw_of course.chance in
    let moment = moment_next scenes plan course in
    step_within sayings orders plan (cast_of plan moment.opened) (or_wild moment.step draw) draw (cast_there plan moment.opened is)
    (wild_small _ moment.step (moment_small scenes plan course.opened course.place draw _ (step_small (scene_of scenes plan course.opened) course.place)))

pub event_within : (scenes : List Scene) (sayings : List Words) (orders : List Order) (plan : Wish) (number : ℕ) → IsPlan plan
    → IsWithin plan.ports plan.units (event_at scenes sayings orders plan number)
unfolding event_at
event_within scenes sayings orders plan number is = next_within scenes sayings orders plan (course_behind scenes plan number) is
