-- A line that asks for something (this profile's own rule).
use Rattle.std.specs.Prelude.{◌≡◌, ℕ, ◌==◌, ◌≤◌, Bool, true, false, List, [], ◌∷◌, ◌++◌, length, ◌⊎◌, if◌then◌else◌, codes, decimal, ⊤}
use Rattle.gp_ploam.specs.OnuIds.{last_onu}
use Rattle.gp_ploam.specs.declared.check.Mask.{Mask}
use Rattle.gp_ranging.specs.declared.grant.Grant.{Grant}
use Rattle.gp_ranging.specs.declared.grant.Grant.TheVariants as grants
use Rattle.gp_machine.specs.declared.event.Event.{Event}
use Rattle.gp_flow.specs.Lines.{longest_line}
use Rattle.gp_trace.specs.Reply.{numbered}
use Rattle.gp_trace.specs.Text.{event_text}
use Rattle.gp_lines.specs.declared.turn.Asked.{Asked}
use Rattle.gp_lines.specs.declared.turn.Asked.TheVariants as asked
use Rattle.gp_lines.specs.declared.word.UnitWord.{UnitWord}
use Rattle.gp_lines.specs.declared.word.UnitWord.TheVariants as words
use Rattle.gp_lines.specs.Parts.{parts_of}
use Rattle.gp_lines.specs.Spelling.{last_port, SpellsNumber, SpellsParts}
use Rattle.gp_lines.specs.Say.{SpellsSaid}
use Rattle.gp_lines.specs.Told.{IsTold}

-- the most frames that one line asks for
abbrev pub most_frames : ℕ
most_frames = 1000000

-- the last place that a simulated unit may have in a script
abbrev pub last_unit : ℕ
last_unit = 1023

-- a carriage return at the end of a line is no part of its text
abbrev pub without_return : List ℕ → List ℕ
without_return [] = []
without_return (octet ∷ []) = if octet == 13 then [] else octet ∷ []
without_return (octet ∷ next ∷ rest) = octet ∷ without_return (next ∷ rest)

-- a text that is empty or begins with `#` asks for nothing
abbrev pub is_remark : List ℕ → Bool
is_remark [] = true
is_remark (octet ∷ rest) = octet == 35

-- a word and an ONU-ID
abbrev pub SpellsOnu : List ℕ → List (List ℕ) → ℕ → Type 0
SpellsOnu word parts onu =
    (digits : List ℕ) × (parts ≡ word ∷ digits ∷ []) × SpellsNumber digits onu × (onu ≤ last_onu)

-- who is asked to answer, in the words of a trace
abbrev pub SpellsGrant : List (List ℕ) → Grant → Type 0
SpellsGrant parts grants.Search = parts ≡ codes "search" ∷ []
SpellsGrant parts (grants.Range onu) = SpellsOnu (codes "range") parts onu
SpellsGrant parts (grants.Poll onu) = SpellsOnu (codes "poll") parts onu

-- at most so many frames: those behind `within`, or, where that isn't said, the most that one line asks for
abbrev pub SpellsBound : List (List ℕ) → ℕ → Type 0
SpellsBound parts most =
    ((parts ≡ []) × (most ≡ most_frames))
    ⊎ ((digits : List ℕ) × (parts ≡ codes "within" ∷ digits ∷ []) × SpellsNumber digits most × (1 ≤ most)
    × (most ≤ most_frames))

-- a port, and the parts behind it
abbrev pub SpellsPort : List (List ℕ) → ℕ → List (List ℕ) → Type 0
SpellsPort parts port others =
    (digits : List ℕ) × (parts ≡ digits ∷ others) × SpellsNumber digits port × (port ≤ last_port)

-- a unit is lit, or dark
abbrev pub light_word : Bool → List ℕ
light_word true = codes "light"
light_word false = codes "dark"

-- what is asked of a unit: its light comes, or goes, or it is shown
abbrev pub unit_word : UnitWord → List ℕ
unit_word words.Light = light_word true
unit_word words.Dark = light_word false
unit_word words.Show = codes "show"

-- that of the unit at this place
abbrev pub asked_of_unit : ℕ → UnitWord → Asked
asked_of_unit unit words.Light = asked.Light unit true
asked_of_unit unit words.Dark = asked.Light unit false
asked_of_unit unit words.Show = asked.ShowUnit unit

-- the place of a unit, and what is asked of it
abbrev pub SpellsUnitWord : List (List ℕ) → ℕ → List ℕ → Type 0
SpellsUnitWord parts unit word =
    (digits : List ℕ) × (parts ≡ codes "unit" ∷ digits ∷ word ∷ []) × SpellsNumber digits unit × (unit ≤ last_unit)

-- the parts tell an event as a trace does, or by what a unit says
abbrev pub TellEvent : Mask → List (List ℕ) → Event → Type 0
TellEvent mask parts event = SpellsParts parts event ⊎ SpellsSaid mask parts event

-- the text asks for this, under the mask that what units say is encoded with
abbrev pub SpellsAsked : Mask → List ℕ → Asked → Type 0
SpellsAsked mask text asked.Nothing = is_remark text ≡ true
SpellsAsked mask text (asked.Event port event) =
    (others : List (List ℕ)) × SpellsPort (parts_of text) port others × TellEvent mask others event
SpellsAsked mask text (asked.Frames port count) =
    (digits : List ℕ) × SpellsPort (parts_of text) port (codes "frame" ∷ digits ∷ [])
    × SpellsNumber digits count × (1 ≤ count) × (count ≤ most_frames)
SpellsAsked mask text (asked.Until port grant most) =
    (named behind : List (List ℕ)) × SpellsPort (parts_of text) port (codes "until" ∷ (named ++ behind))
    × SpellsGrant named grant × SpellsBound behind most
SpellsAsked mask text (asked.Light unit lit) = SpellsUnitWord (parts_of text) unit (light_word lit)
SpellsAsked mask text (asked.ShowUnit unit) = SpellsUnitWord (parts_of text) unit (codes "show")

-- the line, without its line feed, asks for this
abbrev pub SpellsTurn : Mask → List ℕ → Asked → Type 0
SpellsTurn mask line turn = (length line ≤ longest_line) × SpellsAsked mask (without_return line) turn

-- a grant as a line names it
abbrev pub grant_words : Grant → List ℕ
grant_words grants.Search = codes "search"
grant_words (grants.Range onu) = numbered (codes "range") onu
grant_words (grants.Poll onu) = numbered (codes "poll") onu

-- frames up to a grant, at most so many
abbrev pub until_words : Grant → ℕ → List ℕ
until_words grant most = grant_words grant ++ codes " within " ++ decimal most

-- a line that asks for this
abbrev pub turn_text : Asked → List ℕ
turn_text asked.Nothing = []
turn_text (asked.Event port event) = decimal port ++ codes " " ++ event_text event
turn_text (asked.Frames port count) = decimal port ++ codes " frame " ++ decimal count
turn_text (asked.Until port grant most) = decimal port ++ codes " until " ++ until_words grant most
turn_text (asked.Light unit lit) = numbered (codes "unit") unit ++ codes " " ++ light_word lit
turn_text (asked.ShowUnit unit) = numbered (codes "unit") unit ++ codes " " ++ codes "show"

-- an ONU-ID that a grant names is one that a unit may have
abbrev pub IsGrantToAsk : Grant → Type 0
IsGrantToAsk grants.Search = ⊤
IsGrantToAsk (grants.Range onu) = onu ≤ last_onu
IsGrantToAsk (grants.Poll onu) = onu ≤ last_onu

-- what a line can ask for: its numbers are in their ranges, and a trace can tell its event
abbrev pub CanBeAsked : Asked → Type 0
CanBeAsked asked.Nothing = ⊤
CanBeAsked (asked.Event port event) = (port ≤ last_port) × IsTold event
CanBeAsked (asked.Frames port count) = (port ≤ last_port) × (1 ≤ count) × (count ≤ most_frames)
CanBeAsked (asked.Until port grant most) =
    (port ≤ last_port) × IsGrantToAsk grant × (1 ≤ most) × (most ≤ most_frames)
CanBeAsked (asked.Light unit lit) = unit ≤ last_unit
CanBeAsked (asked.ShowUnit unit) = unit ≤ last_unit
