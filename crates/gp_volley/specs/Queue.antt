-- How the copies that are owed are kept: as volleys, of which only the first may have been begun (this profile's own
-- rule: the copies of a message go out in a row). No statement of another crate cites it.
-- Inside: no public contract cites this.
use Rattle.std.specs.Prelude.{◌≡◌, ◌≤◌, List, [], ◌∷◌, ◌++◌, replicate}
use Rattle.gp_volley.specs.Copies.{copies_each}
use Rattle.gp_ploam.specs.declared.message.Down.{Down}
use Rattle.gp_volley.specs.Volley.{VolleyState}

-- the copies of volleys, one volley after the other
abbrev pub copies_of : List VolleyState → List Down
copies_of [] = []
copies_of (volley ∷ later) = replicate volley.left volley.message ++ copies_of later

-- of each message no copy was sent
abbrev pub AreWhole : List VolleyState → Type 0
AreWhole [] = Unit {0}
AreWhole (volley ∷ later) = (volley.left ≡ copies_each) × AreWhole later

-- only of the first message may a copy have been sent, and one at least is still to be sent
abbrev pub IsInOrder : List VolleyState → Type 0
IsInOrder [] = Unit {0}
IsInOrder (volley ∷ later) = (1 ≤ volley.left) × (volley.left ≤ copies_each) × AreWhole later
