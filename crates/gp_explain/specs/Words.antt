-- A line of a trace in words (this profile's own rule). The line comes without its line feed.
use Rattle.std.specs.Prelude.{◌≡◌, ℕ, Bool, true, false, List, [], ◌∷◌, ◌++◌, ◌⊎◌, MatchResult, codes, if◌then◌else◌, ⊤}
use Rattle.std.specs.List.{join_with_byte}
use Rattle.std.specs.Str.{bytes_eq}
use Rattle.hex.specs.Hex.{decode_sized}
use Rattle.gp_ploam.specs.declared.check.Mask.{Mask}
use Rattle.gp_machine.specs.declared.event.Event.{Event}
use Rattle.gp_decode.specs.Line.{HasWords, HasWrongCheck}
use Rattle.gp_lines.specs.Parts.{parts_of}
use Rattle.gp_lines.specs.Trace.{SplitsLine}
use Rattle.gp_explain.specs.declared.place.Place.{Place}
use Rattle.gp_explain.specs.declared.place.Place.TheVariants.{Word, Delay, UnitCode, TerminalCode}

-- what a part begins: behind `burst` stands a delay, and behind `sent` a code of the line terminal
abbrev pub place_after_word : List ℕ → Place
place_after_word part =
    if bytes_eq part (codes "burst") then Delay else if bytes_eq part (codes "sent") then TerminalCode else Word

-- what stands behind a part: behind a delay a unit's code
abbrev pub place_after : Place → List ℕ → Place
place_after Delay part = UnitCode
place_after Word part = place_after_word part
place_after UnitCode part = place_after_word part
place_after TerminalCode part = place_after_word part

-- the octets of a code between brackets: in the words that `decode` has for them, or, where the check octet is wrong,
-- as the line spells them
abbrev pub TellsOctets : Bool → Mask → List ℕ → List ℕ → List ℕ → Type 0
TellsOctets upstream mask part octets told =
    ((words : List ℕ) × HasWords upstream mask octets words × (told ≡ codes "[" ++ words ++ codes "]"))
    ⊎ (HasWrongCheck mask octets × (told ≡ codes "[garbled " ++ part ++ codes "]"))

-- a part where a code should stand; one that isn't the digits of thirteen octets stays as it is
abbrev pub TellsCode : Bool → Mask → List ℕ → List ℕ → Type 0
TellsCode upstream mask part told =
    MatchResult (decode_sized part 13) (λ octets. TellsOctets upstream mask part octets told) (λ _. told ≡ part)

-- a part, by what stands there: only codes are told
abbrev pub TellsPart : Mask → Place → List ℕ → List ℕ → Type 0
TellsPart mask Word part told = told ≡ part
TellsPart mask Delay part told = told ≡ part
TellsPart mask UnitCode part told = TellsCode true mask part told
TellsPart mask TerminalCode part told = TellsCode false mask part told

-- parts one after another, the first of which stands at this place
abbrev pub TellsParts : Mask → Place → List (List ℕ) → List (List ℕ) → Type 0
TellsParts mask place [] [] = ⊤
TellsParts mask place (part ∷ parts) (told ∷ others) =
    TellsPart mask place part told × TellsParts mask (place_after place part) parts others
TellsParts mask place [] (told ∷ others) = ⊥
TellsParts mask place (part ∷ parts) [] = ⊥

-- the line is this text with its codes told in words, a space between two parts, and a line feed at its end
abbrev pub TellsLine : Mask → List ℕ → List ℕ → Type 0
TellsLine mask text line =
    (told : List (List ℕ)) × TellsParts mask Word (parts_of text) told × (line ≡ join_with_byte 32 told ++ codes "\n")

-- the text is a line of a trace, whatever its answer says
abbrev pub IsTraceLine : List ℕ → Type 0
IsTraceLine text =
    (port number : ℕ) × (event : Event) × (answer : List ℕ) × SplitsLine text port number event answer
