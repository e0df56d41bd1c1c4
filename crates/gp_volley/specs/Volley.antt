-- A message with the copies of it that are still to be sent (G.984.3, clause 9).
use Rattle.std.specs.Prelude.{ℕ, ◌-◌, nat_lt, Option, None, Some, if◌then◌else◌}
use Rattle.gp_volley.specs.Copies.{copies_each}
use Rattle.gp_ploam.specs.declared.message.Down.{Down}

-- the message, and how many copies of it are still to be sent
pub record VolleyState : Type 0 where
  pub message : Down
  pub left : ℕ

-- all copies of a message
abbrev pub volley_of : Down → VolleyState
volley_of message = record { message = message; left = copies_each }

-- what is left after a copy was sent, if anything is
abbrev pub volley_after_copy : VolleyState → Option VolleyState
volley_after_copy volley = if nat_lt 1 volley.left then Some (record volley { left = volley.left - 1 }) else None
