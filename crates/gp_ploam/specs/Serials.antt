-- Serial numbers, compared (this profile's own rule: the standard gives them no order).
use Rattle.std.specs.Prelude.{ℕ, Bool, List, refl, nat_eq}
use Rattle.std.specs.List.{list_any}
use Rattle.std.specs.Ordering.{nat_cmp}
use Rattle.std.specs.declared.cmp.Ordering.{Ordering}
use Rattle.std.specs.Cmp.Lexicographic.{slice_cmp, pointwise}
use Rattle.std.specs.Coded.{Coded, code_by, coded_list, coded_ℕ}
use Rattle.std.specs.Int.{to_be_bytes, w64}
use Rattle.gp_ploam.specs.declared.message.Serial.{Serial}

-- the order of serial numbers: by the first octet that differs
abbrev pub serial_cmp : Serial → Serial → Ordering
serial_cmp a b = slice_cmp nat_cmp a.0 b.0

-- whether two serial numbers are one
abbrev pub same_serial : Serial → Serial → Bool
same_serial a b = pointwise nat_eq a.0 b.0

-- the serial number is one of these
abbrev pub is_among : Serial → List Serial → Bool
is_among serial serials = list_any (same_serial serial) serials

-- a serial number is stored as its octets
abbrev pub coded_serial : Coded Serial
coded_serial = code_by (List ℕ) (coded_list coded_ℕ) (λ s. s.0) (λ xs. record { 0 = xs }) (λ _. refl)

-- the serial number whose eight octets make this number, the first octet the highest
unfoldable pub serial_of : ℕ → Serial
serial_of number = record { 0 = to_be_bytes w64 number }
