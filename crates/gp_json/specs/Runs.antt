-- Octets of a text that don't stand for themselves (RFC 8259).
-- Inside: no public contract cites this.
use Rattle.std.specs.Prelude.{ℕ, ◌==◌, ◌||◌, nat_lt, not, Bool}

-- a quotation mark, a backslash, and all that isn't printable
abbrev pub is_escaped : ℕ → Bool
is_escaped octet = octet == 34 || octet == 92 || nat_lt octet 32 || nat_lt 126 octet

-- all else
abbrev pub is_plain : ℕ → Bool
is_plain octet = not (is_escaped octet)
