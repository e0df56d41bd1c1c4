-- How lines are told, one after another (this profile's own rule).
use Rattle.std.specs.Prelude.{◌≡◌, ◌⊎◌, ℕ, ◌+◌, ◌-◌, ◌*◌, ◌/◌, ◌%◌, ◌^◌, Bool, true, false, Option, None, Some, List, [], ◌∷◌, ◌++◌, codes, decimal, min, slice_index, slice_set}
use Rattle.gp_ploam.specs.declared.check.Mask.{Mask}
use Rattle.gp_machine.specs.declared.event.Event.{Event}
use Rattle.gp_machine.specs.declared.event.Event.TheVariants as events
use Rattle.gp_lines.specs.Parts.{parts_of}
use Rattle.gp_lines.specs.Trace.{SplitsLine}
use Rattle.gp_json.specs.Light.{LightFields, light_fields, light_object}
use Rattle.gp_json.specs.Object.{TellsObject, other_object}
use Rattle.gp_explain.specs.declared.form.Form.{Form}
use Rattle.gp_explain.specs.declared.form.Form.TheVariants.{Plain, Words, Json}
use Rattle.gp_explain.specs.Words.{IsTraceLine, TellsLine}

-- what the next line is told by
pub record Manner : Type 0 where
  -- the mask of the codes
  pub mask : Mask
  pub form : Form
  -- the port's time is told too
  pub timed : Bool
  -- how many frames each port has had
  pub frames : List ℕ

-- one frame more, at a frame; no more than 64 bits hold are counted
abbrev pub frames_with : Event → ℕ → ℕ
frames_with events.Frame frames = min (frames + 1) (2 ^ 64 - 1)
frames_with (events.Burst at octets) frames = frames
frames_with (events.Command command) frames = frames

-- three digits of a number below 1000
abbrev pub three_digits : ℕ → List ℕ
three_digits n = (48 + n / 100) ∷ (48 + n / 10 % 10) ∷ (48 + n % 10) ∷ []

-- so many frames of 125 microseconds, in milliseconds
abbrev pub milliseconds : ℕ → List ℕ
milliseconds frames = decimal (frames / 8) ++ codes "." ++ three_digits (frames % 8 * 125)

-- a port's time: the frames that it has had, this line's too
abbrev pub time_text : ℕ → List ℕ
time_text frames = codes "[frame " ++ decimal frames ++ codes ", " ++ milliseconds frames ++ codes " ms] "

abbrev pub time_of : Bool → ℕ → List ℕ
time_of false frames = []
time_of true frames = time_text frames

-- the frames, if the time is told
abbrev pub shown : Bool → ℕ → Option ℕ
shown false frames = None
shown true frames = Some frames

-- a line of a trace, by its form, with the time if that is told
abbrev pub TellsAs : Form → Mask → Bool → ℕ → List ℕ → List ℕ → Type 0
TellsAs Plain mask timed frames text said = said ≡ time_of timed frames ++ (text ++ codes "\n")
TellsAs Words mask timed frames text said =
    (line : List ℕ) × TellsLine mask text line × (said ≡ time_of timed frames ++ line)
TellsAs Json mask timed frames text said = TellsObject mask (shown timed frames) text said

abbrev pub TellsAt : Manner → ℕ → List ℕ → List ℕ → Type 0
TellsAt manner frames text said = TellsAs manner.form manner.mask manner.timed frames text said

-- any other line, by its form
abbrev pub other_of : Form → List ℕ → List ℕ
other_of Plain text = text ++ codes "\n"
other_of Words text = text ++ codes "\n"
other_of Json text = other_object text

-- that light came or went at a simulated unit, by its form, with the time if that is told
abbrev pub light_told : Form → Bool → ℕ → LightFields → List ℕ → List ℕ
light_told Plain timed frames light text = time_of timed frames ++ (text ++ codes "\n")
light_told Words timed frames light text = time_of timed frames ++ (text ++ codes "\n")
light_told Json timed frames light text = light_object (shown timed frames) light

-- a line that is none of a trace: one of light is told at the time of port 0, the only port where there are simulated
-- units
abbrev pub told_by : Option LightFields → Manner → List ℕ → List ℕ
told_by None manner text = other_of manner.form text
told_by (Some light) manner text = light_told manner.form manner.timed (slice_index manner.frames 0) light text

abbrev pub other_told : Manner → List ℕ → List ℕ
other_told manner text = told_by (light_fields (parts_of text)) manner text

-- a line of a trace is told at its port's time
pub record TellsTraceLine (old : Manner) (text said : List ℕ) (new : Manner) : Type 0 where
  pub port : ℕ
  pub number : ℕ
  pub event : Event
  pub answer : List ℕ
  pub split : SplitsLine text port number event answer
  -- the frames of its port, this line's too
  pub frames : ℕ
  pub counted : frames ≡ frames_with event (slice_index old.frames port)
  pub told : TellsAt old frames text said
  pub next : new ≡ record old { frames = slice_set old.frames port frames }

-- from the old manner, to this line, these octets, to the new manner
abbrev pub TellsOneLine : Manner → List ℕ → List ℕ → Manner → Type 0
TellsOneLine old text said new =
    TellsTraceLine old text said new ⊎ ((IsTraceLine text → ⊥) × (said ≡ other_told old text) × (new ≡ old))

-- no port has had a frame
abbrev pub no_frames : List ℕ
no_frames = 0 ∷ 0 ∷ 0 ∷ 0 ∷ 0 ∷ 0 ∷ 0 ∷ 0 ∷ 0 ∷ 0 ∷ 0 ∷ 0 ∷ 0 ∷ 0 ∷ 0 ∷ 0 ∷ []
