-- The fields of a line of delimited text, as spreadsheets write it (RFC 4180). Spaces around a field are no part of it.
-- A field that begins with a quotation mark ends with the next one that isn't doubled; doubled ones stay as they are.
use Rattle.std.specs.Prelude.{ℕ, suc, zero, ◌==◌, Bool, not, List, [], ◌∷◌, ◌++◌, Option, None, Some, if◌then◌else◌}
use Rattle.line_columns.specs.Texts.{before, «from», trimmed, trimmed_end}

-- the next step, if there was one before
infixl 10 ◌>>=◌
abbrev pub ◌>>=◌ : {A B : Type 0} → Option A → (A → Option B) → Option B
Some x >>= f = f x
None >>= f = None

-- what a field in quotation marks says, behind what was passed of it, and what stands behind the mark that closes it
abbrev pub quoted : List ℕ → List ℕ → Option (List ℕ × List ℕ)
quoted said [] = None
quoted said (octet ∷ []) = if octet == 34 then Some (said, []) else None
quoted said (octet ∷ other ∷ text) =
    if octet == 34
    then (if other == 34 then quoted (said ++ 34 ∷ 34 ∷ []) text else Some (said, other ∷ text))
    else quoted (said ++ octet ∷ []) (other ∷ text)

-- a field, and what stands behind the separator that ends it; None where the line ends it
abbrev pub Field : Type 0
Field = List ℕ × Option (List ℕ)

abbrev pub is_octet : ℕ → ℕ → Bool
is_octet octet other = other == octet

-- what stands behind the separator with which a text begins
abbrev pub behind_first : List ℕ → Option (List ℕ)
behind_first [] = None
behind_first (separator ∷ text) = Some text

-- nothing but a separator may stand behind the mark that closes a field
abbrev pub closed : ℕ → List ℕ → List ℕ → Option Field
closed separator said [] = Some (said, None)
closed separator said (octet ∷ text) = if octet == separator then Some (said, Some text) else None

unfoldable pub quoted_field : ℕ → List ℕ → Option Field
quoted_field separator text = do
  read ← quoted [] text
  closed separator read.0 (trimmed read.1)

unfoldable pub bare_field : ℕ → List ℕ → Field
bare_field separator text =
    (trimmed_end (before (is_octet separator) text), behind_first («from» (is_octet separator) text))

abbrev pub field_here : ℕ → List ℕ → Option Field
field_here separator [] = Some ([], None)
field_here separator (octet ∷ text) =
    if octet == 34 then quoted_field separator text else Some (bare_field separator (octet ∷ text))

-- the first field of a line; None where a quotation mark isn't closed, or something stands behind one that closes
unfoldable pub first_field : ℕ → List ℕ → Option Field
first_field separator text = field_here separator (trimmed text)

-- what stands behind the first field; None where it is the last
unfoldable pub behind_field : ℕ → List ℕ → Option (List ℕ)
behind_field separator text = do
  first ← first_field separator text
  first.1

-- the field with so many before it; None where there are fewer
abbrev pub field : ℕ → ℕ → List ℕ → Option (List ℕ)
field separator zero text = do
  first ← first_field separator text
  Some first.0
field separator (suc before) text = do
  rest ← behind_field separator text
  field separator before rest
