-- The equalized delay that is learned: of a first Ranging_Time all of whose unit's answers had one and the same delay
-- (G.984.3, clause 10; that it is learned is this profile's own rule).
use Rattle.std.specs.Prelude.{◌≡◌, ℕ, ◌+◌, ◌==◌, if◌then◌else◌, List, [], ◌∷◌, ◌++◌, Option, None, Some}
use Rattle.gp_ploam.specs.declared.message.Down.{Down}
use Rattle.gp_ploam.specs.declared.message.Down.TheVariants.{RangingTime}
use Rattle.gp_ploam.specs.Mask.{mask_value}
use Rattle.gp_machine.specs.declared.config.PortConfig.{PortConfig}
use Rattle.gp_machine.specs.declared.entry.Entry.{Entry}
use Rattle.gp_machine.specs.State.{PortState, opening_of}
use Rattle.gp_machine.specs.Run.{Run}
use Rattle.gp_observer.specs.Heard.{Heard, HeardDown, HeardUp, HeardGrant}
use Rattle.gp_observer.specs.Fibre.{RunSays}
use Rattle.hear_rules.specs.Facts.{Fact, Unknown, Nothing, Is, Sure, Yes, No, Unsure, is_other}
use Rattle.hear_rules.specs.Known.{Span, Bare, Between, Number, Unheard, Nobodys, Of, Known, known_midway, known_after}

-- where it is known that the unit had another delay, or none
abbrev pub where_news : Sure → Option ℕ → Option ℕ
where_news Yes learned = learned
where_news No learned = None
where_news Unsure learned = None

abbrev pub learned_by : Fact Span → ℕ → Option ℕ
learned_by Unknown eqd = None
learned_by Nothing eqd = None
learned_by (Is Bare) eqd = None
learned_by (Is (Between least greatest)) eqd = if least == greatest then Some (eqd + least) else None

abbrev pub learned_of : Number → ℕ → Option ℕ
learned_of Unheard eqd = None
learned_of Nobodys eqd = None
learned_of (Of holder delay answers) eqd = where_news (is_other delay eqd) (learned_by answers eqd)

abbrev pub learned_down : Known → Down → Option ℕ
learned_down known (RangingTime onu eqd) = learned_of (known.numbers onu) eqd
learned_down known _ = None

abbrev pub learned : Known → Heard → Option ℕ
learned known (HeardDown None) = None
learned known (HeardDown (Some message)) = learned_down known message
learned known (HeardUp message delay) = None
learned known (HeardGrant grant) = None

-- all that is learned, at whatever line, is this one
abbrev pub LearnsOnly : ℕ → Known → List Heard → Type 0
LearnsOnly teqd known [] = Unit {0}
LearnsOnly teqd known (heard ∷ others) =
    ((delay : ℕ) → learned known heard ≡ Some delay → delay ≡ teqd) × LearnsOnly teqd (known_after known heard) others

-- of a run, from any point on, nothing is learned but the equalized delay of its port
abbrev pub LearnsEqualizedDelay : Type 0
LearnsEqualizedDelay =
    (config : PortConfig) (last : PortState) (entries : List Entry) (before later : List Heard)
    → Run (opening_of config) entries last
    → RunSays (mask_value config.mask) entries (before ++ later)
    → LearnsOnly config.teqd known_midway later
