-- The lines of a script.
use Rattle.std.proofs.Common.{◌≡◌, ℕ, ◌+◌, Bor, true, false, List, Some, drop, map, unwrap_or, ap, sym, inl, inr}
use Rattle.std.specs.Str.{is_utf8, IsUtf8}
use Rattle.std.proofs.lemmas.Bool.{cases_Bool}
use Rattle.std.proofs.lemmas.List.{drop-map}
use Rattle.std.proofs.lemmas.Str.{is_utf8-from_IsUtf8, IsUtf8-from_is_utf8}
use Rattle.gp_check.specs.Lines.{key_line, line_below}

pub utf8_yes : (bytes : List ℕ) → IsUtf8 bytes → is_utf8 bytes ≡ true
utf8_yes bytes is = is_utf8-from_IsUtf8 bytes is

pub utf8_no : (bytes : List ℕ) → ¬ (IsUtf8 bytes) → is_utf8 bytes ≡ false
utf8_no bytes none = elim (cases_Bool (is_utf8 bytes)) [
  | inl e ↦ absurd (none (IsUtf8-from_is_utf8 bytes e))
  | inr e ↦ e
]

-- a key is looked for in the lines behind the header
pub key_below : (name : List ℕ) (script : List (Bor (List ℕ))) (header : ℕ)
    → unwrap_or (key_line name (header + 1) (map (λ line. line.now) (drop header script))) header
    ≡ line_below (Some name) (map (λ line. line.now) script) header
key_below name script header =
    ap (λ (below : List (List ℕ)). unwrap_or (key_line name (header + 1) below) header) (sym (drop-map (λ (line : Bor (List ℕ)). line.now) header script))
