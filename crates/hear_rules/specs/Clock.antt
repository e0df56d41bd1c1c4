-- What a run says, each thing in its frame (this profile's own rule).
use Rattle.std.specs.Prelude.{◌≡◌, ℕ, suc, List, [], ◌∷◌, ◌++◌, map}
use Rattle.gp_machine.specs.declared.entry.Entry.{Entry}
use Rattle.gp_machine.specs.declared.event.Event.{Event}
use Rattle.gp_machine.specs.declared.event.Event.TheVariants.{Frame, Burst, Command}
use Rattle.gp_observer.specs.Heard.{Heard}
use Rattle.gp_observer.specs.Fibre.{EventSays}

-- a frame is one later; bursts and commands come in the frame that is
abbrev pub frame_of : ℕ → Event → ℕ
frame_of now Frame = suc now
frame_of now (Burst round_trip bytes) = now
frame_of now (Command command) = now

abbrev pub in_frame : ℕ → List Heard → List (ℕ × Heard)
in_frame now said = map (λ heard. (now, heard)) said

-- behind this frame the entries say this under the mask, one after another
abbrev pub TimedSays : ℕ → ℕ → List Entry → List (ℕ × Heard) → Type 0
TimedSays mask now [] timed = timed ≡ []
TimedSays mask now (entry ∷ entries) timed =
    (first : List Heard) × (rest : List (ℕ × Heard))
    × EventSays mask entry.event entry.answer first × TimedSays mask (frame_of now entry.event) entries rest
    × (timed ≡ in_frame (frame_of now entry.event) first ++ rest)
