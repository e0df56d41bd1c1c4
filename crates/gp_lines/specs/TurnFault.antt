-- Why a line asks for nothing that could be done (this profile's own rule).
use Rattle.std.specs.Prelude.{◌≡◌, ℕ, ◌<◌, ◌≤◌, Bool, true, false, List, [], ◌∷◌, length, Option, None, Some, ◌⊎◌, codes}
use Rattle.std.specs.Str.Parse.{IsNumeral, digits_value}
use Rattle.gp_ploam.specs.OnuIds.{last_onu}
use Rattle.gp_flow.specs.Lines.{longest_line}
use Rattle.gp_lines.specs.declared.fault.LineFault.{LineFault}
use Rattle.gp_lines.specs.declared.fault.LineFault.TheVariants as fault
use Rattle.gp_lines.specs.declared.word.UnitWord.{UnitWord}
use Rattle.gp_lines.specs.Parts.{parts_of, has_space_too_many}
use Rattle.gp_lines.specs.Spelling.{last_port}
use Rattle.gp_lines.specs.Fault.{HavePartsFault, HasNumberFault}
use Rattle.gp_lines.specs.SayFault.{HaveSayFault}
use Rattle.gp_lines.specs.Turn.{most_frames, last_unit, without_return, is_remark, unit_word}

-- the fault of parts that have to be one such number
abbrev pub HaveOneFault : ℕ → ℕ → List (List ℕ) → LineFault → Type 0
HaveOneFault low high parts f =
    (((digits : List ℕ) → ¬ (parts ≡ digits ∷ [])) × (f ≡ fault.Word))
    ⊎ ((digits : List ℕ) × (parts ≡ digits ∷ []) × HasNumberFault low high digits f)

-- the parts name a ranging grant or a poll, and these stand behind its word
abbrev pub NameOnu : List (List ℕ) → List (List ℕ) → Type 0
NameOnu parts others = (parts ≡ codes "range" ∷ others) ⊎ (parts ≡ codes "poll" ∷ others)

-- nothing behind a grant, or `within` and a number
abbrev pub AreOfBound : List (List ℕ) → Option (List ℕ) → Type 0
AreOfBound parts None = parts ≡ []
AreOfBound parts (Some digits) = parts ≡ codes "within" ∷ digits ∷ []

-- a search window, and what bounds the frames up to it
abbrev pub AreOfSearch : List (List ℕ) → Option (List ℕ) → Type 0
AreOfSearch parts bound = (behind : List (List ℕ)) × (parts ≡ codes "search" ∷ behind) × AreOfBound behind bound

-- a ranging grant or a poll, the number that it names, and what bounds the frames up to it
abbrev pub AreOfOnu : List (List ℕ) → List ℕ → Option (List ℕ) → Type 0
AreOfOnu parts digits bound = (behind : List (List ℕ)) × NameOnu parts (digits ∷ behind) × AreOfBound behind bound

-- the fault of the number behind `within`
abbrev pub HasBoundFault : Option (List ℕ) → LineFault → Type 0
HasBoundFault None f = ⊥
HasBoundFault (Some digits) f = HasNumberFault 1 most_frames digits f

-- the ONU-ID is right
abbrev pub IsOnu : List ℕ → Type 0
IsOnu digits = IsNumeral 10 digits × (digits_value 10 digits ≤ last_onu)

-- the fault of a grant and what bounds the frames up to it: that of the words, then that of the ONU-ID, then that of
-- the number behind `within`
abbrev pub HaveGrantFault : List (List ℕ) → LineFault → Type 0
HaveGrantFault parts f =
    (((bound : Option (List ℕ)) → ¬ (AreOfSearch parts bound))
    × ((digits : List ℕ) (bound : Option (List ℕ)) → ¬ (AreOfOnu parts digits bound)) × (f ≡ fault.Word))
    ⊎ ((bound : Option (List ℕ)) × AreOfSearch parts bound × HasBoundFault bound f)
    ⊎ ((digits : List ℕ) × (bound : Option (List ℕ)) × AreOfOnu parts digits bound
    × (HasNumberFault 0 last_onu digits f ⊎ (IsOnu digits × HasBoundFault bound f)))

-- so many frames: the word, and something behind it
abbrev pub AreOfFrames : List (List ℕ) → List (List ℕ) → Type 0
AreOfFrames parts others =
    (digits : List ℕ) × (more : List (List ℕ)) × (others ≡ digits ∷ more) × (parts ≡ codes "frame" ∷ others)

-- frames up to a grant
abbrev pub AreOfUntil : List (List ℕ) → List (List ℕ) → Type 0
AreOfUntil parts others = parts ≡ codes "until" ∷ others

-- what a unit says: the word, and something behind it
abbrev pub AreOfSay : List (List ℕ) → List (List ℕ) → Type 0
AreOfSay parts others =
    (first : List ℕ) × (more : List (List ℕ)) × (others ≡ first ∷ more) × (parts ≡ codes "say" ∷ others)

-- the fault of what stands behind a port: of so many frames that of their number, of frames up to a grant that of the
-- grant, of what a unit says that of what is said, of anything else that of the event
abbrev pub HaveBehindFault : List (List ℕ) → LineFault → Type 0
HaveBehindFault parts f =
    ((others : List (List ℕ)) × AreOfFrames parts others × HaveOneFault 1 most_frames others f)
    ⊎ ((others : List (List ℕ)) × AreOfUntil parts others × HaveGrantFault others f)
    ⊎ ((others : List (List ℕ)) × AreOfSay parts others × HaveSayFault others f)
    ⊎ (((others : List (List ℕ)) → ¬ (AreOfFrames parts others))
    × ((others : List (List ℕ)) → ¬ (AreOfUntil parts others))
    × ((others : List (List ℕ)) → ¬ (AreOfSay parts others)) × HavePartsFault parts f)

-- the port is right
abbrev pub IsPort : List ℕ → Type 0
IsPort digits = IsNumeral 10 digits × (digits_value 10 digits ≤ last_port)

-- the fault of what begins with a port: that of the port comes first
abbrev pub HasPortFault : List ℕ → List (List ℕ) → LineFault → Type 0
HasPortFault digits others f = HasNumberFault 0 last_port digits f ⊎ (IsPort digits × HaveBehindFault others f)

-- the place of a unit, and a word for what is asked of it
abbrev pub AskOfUnit : List (List ℕ) → List ℕ → Type 0
AskOfUnit parts digits = (word : UnitWord) × (parts ≡ digits ∷ unit_word word ∷ [])

-- the fault of what stands behind the word of a unit
abbrev pub HaveUnitFault : List (List ℕ) → LineFault → Type 0
HaveUnitFault parts f =
    (((digits : List ℕ) → ¬ (AskOfUnit parts digits)) × (f ≡ fault.Word))
    ⊎ ((digits : List ℕ) × AskOfUnit parts digits × HasNumberFault 0 last_unit digits f)

-- the first fault of the parts: there is no second one; or what the first one begins is wrong
abbrev pub HaveTurnFault : List (List ℕ) → LineFault → Type 0
HaveTurnFault parts f =
    ((part : List ℕ) × (parts ≡ part ∷ []) × (f ≡ fault.Word))
    ⊎ ((first second : List ℕ) × (others : List (List ℕ)) × (parts ≡ first ∷ second ∷ others)
    × (((first ≡ codes "unit") × HaveUnitFault (second ∷ others) f)
    ⊎ (¬ (first ≡ codes "unit") × HasPortFault first (second ∷ others) f)))

-- the first fault of the parts of a text: there is a space too many; or there is none, and the parts have a fault
abbrev pub HaveTextFault : List (List ℕ) → LineFault → Type 0
HaveTextFault parts f =
    ((has_space_too_many parts ≡ true) × (f ≡ fault.Space))
    ⊎ ((has_space_too_many parts ≡ false) × HaveTurnFault parts f)

-- the first fault of a line, without its line feed: it is too long; or its text, which is no remark, has a fault
abbrev pub HasTurnFault : List ℕ → LineFault → Type 0
HasTurnFault line f =
    ((longest_line < length line) × (f ≡ fault.Long))
    ⊎ ((length line ≤ longest_line) × (is_remark (without_return line) ≡ false)
    × HaveTextFault (parts_of (without_return line)) f)
