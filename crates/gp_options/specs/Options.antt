-- What an audit and a picture judge by, and what of a log is shown, as is asked for, and the first option that can't be
-- read (this profile's own rule).
use Rattle.std.specs.Prelude.{◌≡◌, ◌<◌, ◌≤◌, ℕ, Bool, true, false, Option, None, Some, Ok, Err, min, option_map, codes}
use Rattle.std.specs.Borrow.{Bor}
use Rattle.std.specs.Str.{bytes_eq}
use Rattle.gp_observer.specs.declared.rule.Rule.{Rule}
use Rattle.gp_audit.specs.Chosen.{is_chosen, unknown_name}
use Rattle.gp_audit.specs.Delays.{equalized_delays}
use Rattle.gp_audit.specs.RuleSet.{contains}
use Rattle.gp_audit.specs.Texts.{Text, given, texts}
use Rattle.gp_audit.specs.declared.options.AuditForm.{AuditForm}
use Rattle.gp_audit.specs.declared.options.AuditForm.TheVariants as told
use Rattle.gp_audit.specs.declared.options.AuditOptions.{AuditOptions}
use Rattle.gp_command_line.specs.declared.request.Audit.{Audit}
use Rattle.gp_command_line.specs.declared.request.Drawing.{Drawing}
use Rattle.gp_command_line.specs.declared.request.Dumping.{Dumping}
use Rattle.gp_picture.specs.declared.options.PictureOptions.{PictureOptions}
use Rattle.gp_waves.specs.declared.options.WavesOptions.{WavesOptions}
use Rattle.gp_options.specs.Sides.{some_judged}
use Rattle.gp_options.specs.declared.bad_option.BadOption.{BadOption}
use Rattle.gp_options.specs.declared.bad_option.BadOption.TheVariants as bad

-- how far a delay may be off, in bit times: 8 where that is left out
abbrev pub drift_of : Option ℕ → ℕ
drift_of None = 8
drift_of (Some drift) = min drift 4294967295

-- the findings of a side are told: its own are asked for alone, or no side is
abbrev pub tells_side : Option (Bor Text) → Text → Bool
tells_side None side = true
tells_side (Some alone) side = bytes_eq alone.now side

-- objects come before words
abbrev pub form_of : Bool → Bool → AuditForm
form_of words true = told.Json
form_of true false = told.Words
form_of false false = told.Text

-- the first name of a rule that is none
abbrev pub unknown_rule : Audit → Option Text
unknown_rule wanted = unknown_name (option_map texts wanted.only) (option_map texts wanted.without)

-- a rule is told of those that are asked for
abbrev pub is_wanted : Audit → Rule → Bool
is_wanted wanted rule = is_chosen (option_map texts wanted.only) (option_map texts wanted.without) rule

-- one of them is judged on a side that is told
abbrev pub wants_some : Audit → Bool
wants_some wanted =
    some_judged wanted.midway (tells_side wanted.side (codes "terminal")) (tells_side wanted.side (codes "units"))
    (is_wanted wanted)

-- an audit is judged, and told, as it is asked for: all that is asked for can be read
pub record AuditsAs (wanted : Audit) (options : AuditOptions) : Type 0 where
  pub mask : options.mask ≡ wanted.mask
  pub teqd : equalized_delays (given wanted.teqd) ≡ Ok options.teqd
  pub drift : options.drift ≡ drift_of wanted.drift
  pub midway : options.midway ≡ wanted.midway
  pub terminal : options.told.terminal ≡ tells_side wanted.side (codes "terminal")
  pub units : options.told.units ≡ tells_side wanted.side (codes "units")
  pub known : unknown_rule wanted ≡ None
  pub rules : (rule : Rule)
      → contains options.told.rules rule ≡ is_wanted wanted rule
  -- a rule is told that is judged
  pub some : wants_some wanted ≡ true
  pub form : options.form ≡ form_of wanted.words wanted.json
  pub census : options.units ≡ wanted.units

-- this is the first of its options that can't be read
abbrev pub IsBadAudit : Audit → BadOption → Type 0
IsBadAudit wanted (bad.Rule name) = unknown_rule wanted ≡ Some name.now
IsBadAudit wanted bad.NoRule = (unknown_rule wanted ≡ None) × (wants_some wanted ≡ false)
IsBadAudit wanted (bad.Delay text) =
    (unknown_rule wanted ≡ None) × (wants_some wanted ≡ true) × (equalized_delays (given wanted.teqd) ≡ Err text.now)
IsBadAudit wanted (bad.Frames from to) = ⊥

-- the frames that are drawn: all where neither end is given
abbrev pub first_frame : Option ℕ → ℕ
first_frame None = 0
first_frame (Some frame) = frame

abbrev pub last_frame : Option ℕ → ℕ
last_frame None = 18446744073709551615
last_frame (Some frame) = frame

-- a picture shows what it is asked to, and is judged so: all that is asked for can be read
pub record DrawsAs (wanted : Drawing) (options : PictureOptions) : Type 0 where
  pub from : options.frames.from ≡ first_frame wanted.from
  pub to : options.frames.to ≡ last_frame wanted.to
  pub ordered : options.frames.from ≤ options.frames.to
  pub mask : options.mask ≡ wanted.mask
  pub teqd : equalized_delays (given wanted.teqd) ≡ Ok options.teqd
  pub drift : options.drift ≡ drift_of wanted.drift
  pub midway : options.midway ≡ wanted.midway

-- this is the first of its options that can't be
abbrev pub IsBadPicture : Drawing → BadOption → Type 0
IsBadPicture wanted (bad.Rule name) = ⊥
IsBadPicture wanted bad.NoRule = ⊥
IsBadPicture wanted (bad.Delay text) =
    (first_frame wanted.from ≤ last_frame wanted.to) × (equalized_delays (given wanted.teqd) ≡ Err text.now)
IsBadPicture wanted (bad.Frames from to) =
    (from ≡ first_frame wanted.from) × (to ≡ last_frame wanted.to) × (to < from)

-- a dump has what it is asked for: the frames don't end before they begin
pub record DumpsAs (wanted : Dumping) (options : WavesOptions) : Type 0 where
  pub from : options.frames.from ≡ first_frame wanted.from
  pub to : options.frames.to ≡ last_frame wanted.to
  pub ordered : options.frames.from ≤ options.frames.to
  pub mask : options.mask ≡ wanted.mask
  pub midway : options.midway ≡ wanted.midway

-- these are frames that do
abbrev pub IsBadWaves : Dumping → BadOption → Type 0
IsBadWaves wanted (bad.Rule name) = ⊥
IsBadWaves wanted bad.NoRule = ⊥
IsBadWaves wanted (bad.Delay text) = ⊥
IsBadWaves wanted (bad.Frames from to) =
    (from ≡ first_frame wanted.from) × (to ≡ last_frame wanted.to) × (to < from)
