-- What is written behind what was told, and what is written where telling ends early (this profile's own rule).
use Rattle.std.specs.Prelude.{◌≡◌, ◌<◌, ℕ, ◌⊎◌, Bool, false, not, List, length, Option, None, Some, Result, Ok, Err, take}
use Rattle.std.specs.Io.KnownBytes.{Appends}
use Rattle.std.specs.declared.alloc.AllocError.{AllocError}
use Rattle.std.specs.declared.alloc.Global.{Global}
use Rattle.std.specs.declared.vec.Vec.{Vec}
use Rattle.gp_explain.specs.declared.form.Form.{Form}
use Rattle.gp_explain.specs.declared.form.Form.TheVariants.{Plain, Words, Json}
use Rattle.gp_explain.specs.Telling.{Manner}
use Rattle.gp_tell.specs.declared.fault.TellFault.{TellFault}
use Rattle.gp_tell.specs.declared.fault.TellFault.TheVariants.{Write}
use Rattle.gp_tell.specs.Teller.{HasAll, HasPrefix, TellerState}

-- what may be done to a writer: from what it held, to what it holds, with this answer
abbrev pub Writing : Type 0 → Type 1
Writing A = Option (List ℕ) → Option (List ℕ) → A → Type 0

-- a text was written to a writer, which is done; or a write or a flush failed, as can be where there is something to
-- write, and it is unwritten: then a prefix of it was written
abbrev pub WritesText : {A : Type 0} → A → A → List ℕ → Writing A
WritesText done unwritten text old new answer =
    (Appends old new text × (answer ≡ done))
    ⊎ ((0 < length text) × (count : ℕ) × Appends old new (take count text) × (answer ≡ unwritten))

-- a summary was written so; where memory was refused for it nothing was
abbrev pub WritesSummary : {A : Type 0} → A → A → A → Result (Vec ℕ Global) AllocError → Writing A
WritesSummary done refused unwritten (Ok text) old new answer = WritesText done unwritten text.items old new answer
WritesSummary done refused unwritten (Err memory) old new answer = (new ≡ old) × (answer ≡ refused)

-- why not all that a teller told was written out: for the fault that it has, or, if it has none, since a write failed
abbrev pub stopped_by : Option TellFault → TellFault
stopped_by None = Write
stopped_by (Some fault) = fault

-- by a teller that began so and stands so all that is told of what it took was written, and then this was done; or a
-- prefix of it was written, and the answer is that of why it wasn't all
abbrev pub TellsThen : {W A : Type 0} → Manner → TellerState W → Writing A → (TellFault → A) → Writing A
TellsThen manner teller then ended old new answer =
    ((mid : Option (List ℕ)) × (teller.fault ≡ None) × HasAll manner teller.taken old mid × then mid new answer)
    ⊎ (HasPrefix manner teller.taken old new × (answer ≡ ended (stopped_by teller.fault)))

-- lines that are told so are written as they are
abbrev pub is_plain : Form → Bool → Bool
is_plain Plain timed = not timed
is_plain Words timed = false
is_plain Json timed = false
