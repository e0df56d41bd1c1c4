-- A place in a text: its line, and what was passed of that (this profile's own rule).
use Rattle.std.specs.Prelude.{ℕ, ◌+◌, ◌-◌, ◌^◌, ◌==◌, if◌then◌else◌, List, [], ◌∷◌, ◌++◌, length, min, take}

-- a place in a text
pub record PlaceState : Type 0 where
  -- how many line feeds were passed
  pub feeds : ℕ
  -- how many octets of the open line were passed
  pub octets : ℕ
  -- the first of them
  pub shown : List ℕ

-- how many octets of a line are shown at most
abbrev pub max_shown : ℕ
max_shown = 512

-- a count, which goes no further than 64 bits hold
abbrev pub counted : ℕ → ℕ
counted n = min n (2 ^ 64 - 1)

-- the front of a text
abbrev pub front : PlaceState
front = record { feeds = 0; octets = 0; shown = [] }

-- behind a line feed
abbrev pub behind_feed : PlaceState → PlaceState
behind_feed place = record { feeds = counted (place.feeds + 1); octets = 0; shown = [] }

-- behind octets of the open line
abbrev pub behind_open : PlaceState → List ℕ → PlaceState
behind_open place part = record {
  feeds = place.feeds;
  octets = counted (place.octets + length part);
  shown = take max_shown (place.shown ++ part);
}

-- behind an octet
abbrev pub behind_octet : PlaceState → ℕ → PlaceState
behind_octet place octet = if octet == 10 then behind_feed place else behind_open place (octet ∷ [])

-- behind octets, from a place on
abbrev pub behind : PlaceState → List ℕ → PlaceState
behind place [] = place
behind place (octet ∷ octets) = behind (behind_octet place octet) octets

-- the line and the octet of it that come next, from 1
abbrev pub line_at : PlaceState → ℕ
line_at place = counted (place.feeds + 1)

abbrev pub octet_at : PlaceState → ℕ
octet_at place = counted (place.octets + 1)
