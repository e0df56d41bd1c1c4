-- What may happen in one step: the choice that a port has, and that it has an answer to each event (this profile's
-- own rule).
use Rattle.std.specs.Prelude.{◌≡◌, ℕ, ◌<◌, length, All}
use Rattle.gp_machine.specs.declared.event.Event.{Event}
use Rattle.gp_machine.specs.declared.event.Event.TheVariants.{Frame, Burst, Command}
use Rattle.gp_machine.specs.declared.reply.Reply.TheVariants.{Found, Allocated}
use Rattle.gp_machine.specs.State.{PortState, IsFree, IsFreeAlloc}
use Rattle.gp_machine.specs.Sound.{IsSound}
use Rattle.gp_machine.specs.Changes.{StepResult}
use Rattle.gp_machine.specs.Step.{Step}

-- an ONU-ID that a step hands out was free, and the step could have handed out any other free one
abbrev pub MayPickAnyFree : Type 0
MayPickAnyFree =
    (licences : ℕ) (port : PortState) (event : Event) (outcome : StepResult) (onu other : ℕ)
    → IsSound port
    → Step licences port event outcome
    → outcome.answer.reply ≡ Found onu
    → IsFree port onu
    × (IsFree port other
    → (another : StepResult) × Step licences port event another × (another.answer.reply ≡ Found other))

-- and so it is with a further Alloc-ID
abbrev pub MayPickAnyFreeAlloc : Type 0
MayPickAnyFreeAlloc =
    (licences : ℕ) (port : PortState) (event : Event) (outcome : StepResult) (alloc other : ℕ)
    → IsSound port
    → Step licences port event outcome
    → outcome.answer.reply ≡ Allocated alloc
    → IsFreeAlloc port alloc
    × (IsFreeAlloc port other
    → (another : StepResult) × Step licences port event another × (another.answer.reply ≡ Allocated other))

-- what its type says of an event: a burst has thirteen octets
abbrev pub IsTypedEvent : Event → Type 0
IsTypedEvent Frame = Unit {0}
IsTypedEvent (Burst round_trip bytes) = (length bytes ≡ 13) × All (λ octet. octet < 256) bytes
IsTypedEvent (Command command) = Unit {0}

-- in every sound state each event has a step, whatever licences are at hand
abbrev pub EveryEventHasStep : Type 0
EveryEventHasStep =
    (licences : ℕ) (port : PortState) (event : Event) → IsSound port → IsTypedEvent event
    → (outcome : StepResult) × Step licences port event outcome
