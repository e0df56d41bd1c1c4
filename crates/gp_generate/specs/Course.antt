-- The course of a script: scene after scene, an event for each draw (this profile's own rule). The functions are given
-- the tables `SCENES`, `SAYINGS` and `ORDERS`.
use Rattle.std.specs.Prelude.{ℕ, zero, suc, ◌+◌, ◌/◌, ◌%◌, ◌==◌, if◌then◌else◌, List, Option, None, Some, length, slice_index_or, unwrap_or}
use Rattle.rand_pcg.specs.Lcg.{Lcg}
use Rattle.gp_generate.specs.declared.chance.Draw.{Draw}
use Rattle.gp_generate.specs.declared.chance.Drawn.TheVariants.{Events}
use Rattle.gp_generate.specs.declared.course.Moment.{Moment}
use Rattle.gp_generate.specs.declared.event.Event.{Event}
use Rattle.gp_generate.specs.declared.plan.Wish.{Wish}
use Rattle.gp_generate.specs.declared.step.Order.{Order}
use Rattle.gp_generate.specs.declared.scene.Scene.{Scene}
use Rattle.gp_generate.specs.declared.scene.Scene.TheVariants.{Anything}
use Rattle.gp_generate.specs.declared.step.Step.{Step}
use Rattle.gp_generate.specs.declared.step.Step.TheVariants.{Wild}
use Rattle.gp_generate.specs.declared.step.Words.{Words}
use Rattle.gp_generate.specs.Cast.{cast_of}
use Rattle.gp_generate.specs.Chance.{behind, chance_behind, draw_of}
use Rattle.gp_generate.specs.Making.{event_of_step}
use Rattle.gp_generate.specs.Scenes.{step_at}

-- where a script stands: what is still to be drawn, by what draw its scene was opened, and how many steps of it were
pub record CourseState : Type 0 where
  pub chance : Lcg
  pub opened : Draw
  pub place : ℕ

-- the scene that is opened by a draw; in a world of simulated units anything
abbrev pub scene_of : List Scene → Wish → Draw → Scene
scene_of scenes plan opened =
    if plan.units == 0 then slice_index_or scenes (opened.which % length scenes) Anything else Anything

abbrev pub first_step : List Scene → Wish → Draw → Step
first_step scenes plan opened = unwrap_or (step_at (scene_of scenes plan opened) 0) Wild

abbrev pub moment_with : List Scene → Wish → Draw → ℕ → Draw → Option Step → Moment
moment_with scenes plan opened place draw (Some step) =
    record { opened = opened; place = place + 1; step = step }
moment_with scenes plan opened place draw None =
    record { opened = draw; place = 1; step = first_step scenes plan draw }

-- the step at a place of a scene, or the first of a new one behind its end
abbrev pub moment_of : List Scene → Wish → Draw → ℕ → Draw → Moment
moment_of scenes plan opened place draw =
    moment_with scenes plan opened place draw (step_at (scene_of scenes plan opened) place)

-- one event in 32 is anything
abbrev pub or_wild : Step → Draw → Step
or_wild step draw = if draw.which / 256 % 32 == 0 then Wild else step

abbrev pub moment_next : List Scene → Wish → CourseState → Moment
moment_next scenes plan course =
    moment_of scenes plan course.opened course.place (draw_of course.chance)

-- the next event
unfoldable pub event_next : List Scene → List Words → List Order → Wish → CourseState → Event
event_next scenes sayings orders plan course =
    let moment = moment_next scenes plan course in
    let draw = draw_of course.chance in
    event_of_step sayings orders plan (cast_of plan moment.opened) (or_wild moment.step draw) draw

-- the course behind it
unfoldable pub course_next : List Scene → Wish → CourseState → CourseState
course_next scenes plan course =
    let moment = moment_next scenes plan course in
    record { chance = behind course.chance; opened = moment.opened; place = moment.place }

-- the course behind so many events
unfoldable pub course_behind : List Scene → Wish → ℕ → CourseState
course_behind scenes plan zero = record {
  chance = behind (chance_behind plan.seed Events 0);
  opened = draw_of (chance_behind plan.seed Events 0);
  place = 0;
}
course_behind scenes plan (suc count) =
    course_next scenes plan (course_behind scenes plan count)
