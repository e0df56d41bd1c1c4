-- The object of a line of codes or of words (this profile's own rule): it ends with a line feed. In its texts nothing
-- has to be escaped (RFC 8259): they are names and hexadecimal digits.
use Rattle.std.specs.Prelude.{ℕ, Bool, true, false, List, ◌++◌, codes, decimal}
use Rattle.hex.specs.Hex.{encode_lower}
use Rattle.gp_json.specs.Message.{text_field}

-- how it begins: with the number of the line, counted from 1
abbrev pub object_begun : ℕ → List ℕ
object_begun line = codes "{\"line\":" ++ decimal line

-- how it ends
abbrev pub object_end : List ℕ
object_end = codes "}\n"

-- the field of a code: 26 lower-case digits
abbrev pub code_field : List ℕ → List ℕ
code_field code = text_field (codes "code") (encode_lower code)

-- the field of a fault with this name
abbrev pub error_field : List ℕ → List ℕ
error_field name = text_field (codes "error") name

-- the object of a line with such a fault
abbrev pub error_object : ℕ → List ℕ → List ℕ
error_object line name = object_begun line ++ error_field name ++ object_end

-- whose message a code is: a unit's, or one of the line terminal
abbrev pub direction_word : Bool → List ℕ
direction_word true = codes "up"
direction_word false = codes "down"
