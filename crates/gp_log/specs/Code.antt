-- A code in a line of a log (this profile's own rule).
use Rattle.std.specs.Prelude.{ℕ, suc, zero, ◌+◌, ◌*◌, ◌==◌, ◌&&◌, ◌||◌, Bool, List, [], ◌∷◌, ◌++◌, Option, None, Some, Result, Ok, Err, if◌then◌else◌}
use Rattle.hex.specs.Hex.{hex_digit_value}
use Rattle.gp_log.specs.declared.fault.LogFault.{LogFault}
use Rattle.gp_log.specs.declared.fault.LogFault.TheVariants as fault
use Rattle.gp_log.specs.Fields.{trimmed, is_parted}

-- the next step, if there was one before
infixl 10 ◌>>=◌
abbrev pub ◌>>=◌ : {A B : Type 0} → Option A → (A → Option B) → Option B
Some x >>= f = f x
None >>= f = None

-- a text without `0x` in front
abbrev pub without_prefix : List ℕ → List ℕ
without_prefix [] = []
without_prefix (octet ∷ []) = octet ∷ []
without_prefix (octet ∷ other ∷ text) =
    if (octet == 48) && ((other == 120) || (other == 88)) then text else octet ∷ other ∷ text

-- what may stand between octets: a colon, a hyphen, a space, a dot
abbrev pub is_mark : ℕ → Bool
is_mark octet = (octet == 58) || (octet == 45) || (octet == 32) || (octet == 46)

-- a text without one of these in front
abbrev pub without_mark : List ℕ → List ℕ
without_mark [] = []
without_mark (octet ∷ text) = if is_mark octet then text else octet ∷ text

-- the octet of the two hexadecimal digits that a text begins with, in either case, and what stands behind them
unfoldable pub octet_at : List ℕ → Option (ℕ × List ℕ)
octet_at [] = None
octet_at (high ∷ []) = None
octet_at (high ∷ low ∷ text) = do
  first ← hex_digit_value high
  second ← hex_digit_value low
  Some (first * 16 + second, text)

-- so many octets more, each perhaps behind a mark, and what stands behind them
abbrev pub octets_at : ℕ → List ℕ → List ℕ → Option (List ℕ × List ℕ)
octets_at zero octets text = Some (octets, text)
octets_at (suc more) octets text = do
  read ← octet_at (without_mark text)
  octets_at more (octets ++ read.0 ∷ []) read.1

-- the thirteen octets that a text begins with, perhaps behind `0x`, and what stands behind them
unfoldable pub code_at : List ℕ → Option (List ℕ × List ℕ)
code_at text = do
  read ← octet_at (without_prefix text)
  octets_at 12 (read.0 ∷ []) read.1

-- a code in quotation marks ends with the second one
abbrev pub closed : List ℕ → List ℕ → Option (List ℕ × List ℕ)
closed octets [] = None
closed octets (octet ∷ text) = if octet == 34 then Some (octets, text) else None

abbrev pub quoted_at : List ℕ → Option (List ℕ × List ℕ)
quoted_at text = do
  read ← code_at text
  closed read.0 read.1

-- the code that a text begins with, in quotation marks or not
unfoldable pub any_code_at : List ℕ → Option (List ℕ × List ℕ)
any_code_at [] = None
any_code_at (octet ∷ text) = if octet == 34 then quoted_at text else code_at (octet ∷ text)

-- the code ends where a field may end
abbrev pub whole_code : Option (List ℕ × List ℕ) → Result (List ℕ × List ℕ) LogFault
whole_code None = Err fault.Code
whole_code (Some read) = if is_parted read.1 then Ok read else Err fault.Code

-- the code that is next in a text, and what stands behind it
abbrev pub next_code : List ℕ → Result (List ℕ × List ℕ) LogFault
next_code text = whole_code (any_code_at (trimmed text))
