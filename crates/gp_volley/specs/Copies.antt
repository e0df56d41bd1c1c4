-- The copies of a message: G.984.3, clause 9, has Upstream_Overhead, Assign_ONU-ID, Ranging_Time and others sent three
-- times. That the copies that are owed are sent one after the other is this profile's own rule, and so are the limits.
use Rattle.std.specs.Prelude.{ℕ, ◌*◌, ◌-◌, List, [], ◌∷◌, replicate, Option, None, Some}
use Rattle.gp_ploam.specs.declared.message.Down.{Down}

-- how many copies of a message are sent
abbrev pub copies_each : ℕ
copies_each = 3

-- how many messages there is room for
abbrev pub max_messages : ℕ
max_messages = 64

-- how many copies there is room for: 192
abbrev pub max_copies : ℕ
max_copies = max_messages * copies_each

-- how many copies may be owed with room left for those of one message more: 189
abbrev pub max_copies_with_room : ℕ
max_copies_with_room = max_copies - copies_each

-- all the copies of a message
abbrev pub all_copies : Down → List Down
all_copies message = replicate copies_each message

-- the first copy that is owed
abbrev pub first_of : List Down → Option Down
first_of [] = None
first_of (copy ∷ copies) = Some copy
