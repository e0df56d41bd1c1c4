-- How a text is spelled, by whether it is one in UTF-8.
use Rattle.std.specs.Prelude.{if◌then◌else◌}
use Rattle.std.proofs.Common.{◌≡◌, ℕ, Bool, true, false, List, ap, refl}
use Rattle.std.proofs.lemmas.Str.{IsUtf8-from_is_utf8, is_utf8-from_IsUtf8}
use Rattle.std.specs.Str.{IsUtf8, is_utf8}
use Rattle.gp_json.specs.Spelling.{quoted, quoted_utf8}
use Rattle.gp_outcome.specs.Object.{text_of}

pub text_utf8 : (octets : List ℕ) → IsUtf8 octets → text_of octets ≡ quoted_utf8 octets
unfolding text_of
text_utf8 octets h = ap (λ (b : Bool). if b then quoted_utf8 octets else quoted octets) (is_utf8-from_IsUtf8 octets h)

by_test : (octets : List ℕ) (b : Bool) → is_utf8 octets ≡ b → ¬ (IsUtf8 octets) → text_of octets ≡ quoted octets
unfolding text_of
by_test octets true e h = absurd (h (IsUtf8-from_is_utf8 octets e))
by_test octets false e h = ap (λ (b : Bool). if b then quoted_utf8 octets else quoted octets) e

pub text_other : (octets : List ℕ) → ¬ (IsUtf8 octets) → text_of octets ≡ quoted octets
text_other octets h = by_test octets (is_utf8 octets) refl h
