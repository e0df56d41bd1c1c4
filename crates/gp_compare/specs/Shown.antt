-- What is shown of a line (this profile's own rule).
use Rattle.std.specs.Prelude.{ℕ, ◌==◌, if◌then◌else◌, nat_lt, List, [], ◌∷◌, ◌++◌, length}
use Rattle.gp_compare.specs.declared.shown.LineEnd.{LineEnd}
use Rattle.gp_compare.specs.declared.shown.LineEnd.TheVariants as ends
use Rattle.gp_compare.specs.declared.shown.ShownLine.{ShownLine}
use Rattle.gp_compare.specs.Place.{PlaceState, max_shown}

-- the octets that are shown, and what stands behind them
pub record Shown : Type 0 where
  pub octets : List ℕ
  pub end : LineEnd

abbrev pub shown_view : ShownLine → Shown
shown_view line = record { octets = line.octets.items; end = line.end }

-- an octet comes where the text ended so far: it ends the line, or is shown, or there is no room for it
abbrev pub show_octet : List ℕ → ℕ → Shown
show_octet octets octet =
    if octet == 10 then record { octets = octets; end = ends.Feed }
    else if nat_lt (length octets) max_shown then record { octets = octets ++ octet ∷ []; end = ends.Text }
    else record { octets = octets; end = ends.More }

-- an octet comes; behind a line that has ended, or of which no more is shown, it changes nothing
abbrev pub show_by : LineEnd → List ℕ → ℕ → Shown
show_by ends.Text octets octet = show_octet octets octet
show_by ends.Feed octets octet = record { octets = octets; end = ends.Feed }
show_by ends.More octets octet = record { octets = octets; end = ends.More }

abbrev pub show_next : Shown → ℕ → Shown
show_next shown octet = show_by shown.end shown.octets octet

-- octets come, one after another
abbrev pub show : Shown → List ℕ → Shown
show shown [] = shown
show shown (octet ∷ octets) = show (show_next shown octet) octets

-- what stands behind what is shown of a line of which so many octets were passed
abbrev pub end_behind : ℕ → LineEnd
end_behind octets = if nat_lt max_shown octets then ends.More else ends.Text

-- the open line of a place
abbrev pub shown_at : PlaceState → Shown
shown_at place = record { octets = place.shown; end = end_behind place.octets }
