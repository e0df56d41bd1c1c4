-- Serial numbers, compared.
use Rattle.std.proofs.Common.{◌≡◌, ℕ, ◌^◌, ◌<◌, true, List, length, get_or, refl, sym, ap, ◌∙◌, w64}
use Rattle.std.proofs.lemmas.Nat.{from_be_bytes-to_be_bytes_8, be_bytes_8}
use Rattle.std.specs.Int.{from_be_bytes, to_be_bytes}
use Rattle.std.specs.Ordering.{eq_by_cmp}
use Rattle.std.specs.Cmp.{IsTotalOrder}
use Rattle.std.specs.Cmp.Lexicographic.{nat_list_cmp_total, texts_ties, same_text}
use Rattle.std.specs.FinMap.{IsAntisymmetric, slice_cmp-IsAntisymmetric, nat_cmp-IsAntisymmetric}
use Rattle.std.proofs.lemmas.Cmp.{on_total, tied_itself}
use Rattle.gp_ploam.specs.declared.message.Serial.{Serial}
use Rattle.gp_ploam.specs.Serials.{serial_cmp, same_serial, serial_of}
use Rattle.std.specs.Ordering.{is_eq}

pub serials_total : IsTotalOrder serial_cmp
serials_total = on_total (λ (s : Serial). s.0) nat_list_cmp_total

same_octets : (a b : Serial) → a.0 ≡ b.0 → a ≡ b
same_octets a b e = ap (λ (xs : List ℕ). let s : Serial = record { 0 = xs } in s) e

-- serial numbers that compare alike are one
pub serials_exact : IsAntisymmetric serial_cmp
serials_exact a b e = same_octets a b (slice_cmp-IsAntisymmetric nat_cmp-IsAntisymmetric a.0 b.0 e)

-- the test by the order is the test by the octets
pub by_cmp-same : (a b : Serial) → eq_by_cmp serial_cmp a b ≡ same_serial a b
by_cmp-same a b = sym (texts_ties a.0 b.0)

pub same_serial-true : (a b : Serial) → same_serial a b ≡ true → a ≡ b
same_serial-true a b h = same_octets a b (same_text a.0 b.0 (sym h))

pub same_serial-itself : (a : Serial) → same_serial a a ≡ true
same_serial-itself a = sym (by_cmp-same a a) ∙ ap is_eq (tied_itself serials_total a)

-- different numbers make different serial numbers
pub same_number : (a b : ℕ) → a < 2 ^ 64 → b < 2 ^ 64 → serial_of a ≡ serial_of b → a ≡ b
unfolding serial_of
same_number a b small few e =
    sym (from_be_bytes-to_be_bytes_8 a small) ∙ ap (λ (s : Serial). from_be_bytes w64 s.0) e ∙ from_be_bytes-to_be_bytes_8 b few

pub serial_of_number : (s : Serial) (number : ℕ) → length s.0 ≡ 8 → ((i : ℕ) → get_or s.0 i 0 < 256) → number ≡ from_be_bytes w64 s.0 → serial_of number ≡ s
unfolding serial_of
serial_of_number s number long octets is = ap (λ (xs : List ℕ). let t : Serial = record { 0 = xs } in t) (be_bytes_8 s.0 number long octets is)

-- the octets of the serial number with this number
pub octets_of_number : (number : ℕ) → serial_of number ≡ record { 0 = to_be_bytes w64 number }
unfolding serial_of
octets_of_number number = refl
