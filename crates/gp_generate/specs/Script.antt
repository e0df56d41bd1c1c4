-- The text of a generated script (this profile's own rule). The functions are given the tables `MISTAKES`, `SCENES`,
-- `SAYINGS` and `ORDERS`.
use Rattle.std.specs.Prelude.{◌≡◌, ◌||◌, ℕ, zero, suc, Bool, true, false, List, [], ◌++◌, Option, None, Some, Result, Ok, Err, OnOk, OnErr}
use Rattle.gp_stream.specs.Sink.{SinkState, Takes, TakesPrefix}
use Rattle.gp_generate.specs.declared.event.Event.{Event}
use Rattle.gp_generate.specs.declared.generating.GenerateFault.{GenerateFault}
use Rattle.gp_generate.specs.declared.generating.GenerateFault.TheVariants as faults
use Rattle.gp_generate.specs.declared.mistake.Mistake.{Mistake}
use Rattle.gp_generate.specs.declared.plan.Wish.{Wish}
use Rattle.gp_generate.specs.declared.scene.Scene.{Scene}
use Rattle.gp_generate.specs.declared.step.Order.{Order}
use Rattle.gp_generate.specs.declared.step.Words.{Words}
use Rattle.gp_generate.specs.Course.{course_behind, event_next}
use Rattle.gp_generate.specs.Events.{event_text}
use Rattle.gp_generate.specs.Mistakes.{mistake_at, text_of_mistake}
use Rattle.gp_generate.specs.Tables.{head_text}

-- a text was handed over, with this answer: whole, or where that is an error a prefix of it
pub record HandsOver {W T E : Type 0} (old new : SinkState W) (text : List ℕ) (answer : Result T E) : Type 0 where
  pub ok : OnOk answer (Takes old new text)
  pub error : OnErr answer (TakesPrefix old new text)

-- it ended with a failed write
abbrev pub is_write : {T : Type 0} → Result T GenerateFault → Bool
is_write (Ok value) = false
is_write (Err faults.OutOfMemory) = false
is_write (Err faults.Write) = true

-- how something was handed over with this answer leaves the sink
pub record StopsBy {W T : Type 0} (old new : SinkState W) (answer : Result T GenerateFault) : Type 0 where
  -- a failed write stops the sink, and nothing else does
  pub stopped : new.stopped ≡ (old.stopped || is_write answer)
  -- a stopped sink writes nothing
  pub refused : old.stopped ≡ true → new.writer ≡ old.writer
  -- whatever was written was flushed
  pub flushed : old.flushed ≡ true → OnOk answer (new.flushed ≡ true)

abbrev pub text_or_event : Event → Option (List ℕ) → List ℕ
text_or_event event (Some text) = text
text_or_event event None = event_text event

-- an event that has a mistake
abbrev pub wrong_text : Mistake → Event → List ℕ
wrong_text mistake event = text_or_event event (text_of_mistake mistake)

abbrev pub told_with : Event → Option Mistake → List ℕ
told_with event (Some mistake) = wrong_text mistake event
told_with event None = event_text event

-- the event of this number, as the script has it
abbrev pub told : List Mistake → Wish → ℕ → Event → List ℕ
told mistakes plan number event = told_with event (mistake_at mistakes plan number)

-- the event of this number, without its mistake
unfoldable pub event_at : List Scene → List Words → List Order → Wish → ℕ → Event
event_at scenes sayings orders plan number =
    event_next scenes sayings orders plan (course_behind scenes plan number)

-- so many events
unfoldable pub events_text : List Mistake → List Scene → List Words → List Order → Wish → ℕ → List ℕ
events_text mistakes scenes sayings orders plan zero = []
events_text mistakes scenes sayings orders plan (suc number) =
    events_text mistakes scenes sayings orders plan number
    ++ told mistakes plan number (event_at scenes sayings orders plan number)

-- the whole script
unfoldable pub script_text : List Mistake → List Scene → List Words → List Order → Wish → List ℕ
script_text mistakes scenes sayings orders plan =
    head_text mistakes plan ++ events_text mistakes scenes sayings orders plan plan.events
