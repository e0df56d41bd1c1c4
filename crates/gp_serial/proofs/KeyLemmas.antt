-- A serial number as one number, which has the order of its octets.
use Rattle.std.proofs.Common.{◌≡◌, ℕ, ◌+◌, ◌*◌, ◌^◌, ◌/◌, ◌%◌, ◌<◌, ◌≤◌, List, [], ◌∷◌, length, zero, suc, inl, inr, refl, sym, ◌∙◌, get_or, arith}
use Rattle.std.proofs.Math.Nat.{mul-le-mul_right, pow-suc, suc-mul}
use Rattle.std.proofs.lemmas.Bool.{cases_order}
use Rattle.std.proofs.lemmas.Bool.Decides.{nat_tests}
use Rattle.std.specs.Cmp.Lexicographic.{slice_cmp}
use Rattle.std.proofs.lemmas.Nat.{from_be_bytes-to_be_bytes_8}
use Rattle.std.specs.Int.{byte_at, bytes_high_first, from_be_bytes, to_be_bytes, w64}
use Rattle.std.specs.Ordering.{nat_cmp}
use Rattle.std.specs.declared.cmp.Ordering.TheVariants.{Less, Equal, Greater}

-- the number that octets are, the first of them the highest
abbrev number_of : List ℕ → ℕ
number_of [] = 0
number_of (x ∷ xs) = x * 256 ^ length xs + number_of xs

-- one octet more, before a number below a bound
one_more : (x bound n : ℕ) → x < 256 → n < bound → x * bound + n < bound * 256
one_more x bound n low below =
    let times : x * bound ≤ 255 * bound = mul-le-mul_right bound (omega (arith, low)) in
    omega (arith, times, below)

number_below : (xs : List ℕ) → ((i : ℕ) → get_or xs i 0 < 256) → number_of xs < 256 ^ length xs
number_below [] low = omega arith
number_below (x ∷ xs) low =
    rw (pow-suc 256 (length xs)) (one_more x (256 ^ length xs) (number_of xs) (low 0) (number_below xs (λ i. low (suc i))))

is_less : (x y : ℕ) → x < y → nat_cmp x y ≡ Less
is_less x y h = grind (arith, nat_tests)

is_equal : (x : ℕ) → nat_cmp x x ≡ Equal
is_equal x = grind (arith, nat_tests)

is_greater : (x y : ℕ) → y < x → nat_cmp x y ≡ Greater
is_greater x y h = grind (arith, nat_tests)

-- the higher octet decides
lower : (x y bound m n : ℕ) → x < y → m < bound → x * bound + m < y * bound + n
lower x y bound m n below within =
    let times : suc x * bound ≤ y * bound = mul-le-mul_right bound (omega (arith, below)) in
    omega (arith, times, suc-mul x bound, within)

-- else the others do
same_above : (a m n : ℕ) → nat_cmp (a + m) (a + n) ≡ nat_cmp m n
same_above a m n =
    elim (cases_order m n) [
      | inl equal ↦ rw (equal) (is_equal (a + n) ∙ sym (is_equal n))
      | inr (inl less) ↦ is_less (a + m) (a + n) (omega (arith, less)) ∙ sym (is_less m n less)
      | inr (inr greater) ↦ is_greater (a + m) (a + n) (omega (arith, greater)) ∙ sym (is_greater m n greater)
    ]

-- numbers of as many octets have the order of the octets
numbers_ordered : (xs ys : List ℕ) → length xs ≡ length ys → ((i : ℕ) → get_or xs i 0 < 256) → ((i : ℕ) → get_or ys i 0 < 256)
    → nat_cmp (number_of xs) (number_of ys) ≡ slice_cmp nat_cmp xs ys
numbers_ordered [] [] long low low_too = refl
numbers_ordered [] (y ∷ ys) long low low_too = cc long
numbers_ordered (x ∷ xs) [] long low low_too = cc long
numbers_ordered (x ∷ xs) (y ∷ ys) long low low_too =
    let same : length xs ≡ length ys = omega (arith, long) in
    let m = number_of xs in
    let n = number_of ys in
    let bound = 256 ^ length ys in
    let within : m < bound = rw (← same) (number_below xs (λ i. low (suc i))) in
    let within_too : n < bound = number_below ys (λ i. low_too (suc i)) in
    rw same
    (elim (cases_order x y) [
      | inl equal ↦
          rw (equal, is_equal y)
          (same_above (y * bound) m n ∙ numbers_ordered xs ys same (λ i. low (suc i)) (λ i. low_too (suc i)))
      | inr (inl less) ↦ rw (is_less x y less) (is_less (x * bound + m) (y * bound + n) (lower x y bound m n less within))
      | inr (inr greater) ↦ rw (is_greater x y greater) (is_greater (x * bound + m) (y * bound + n) (lower y x bound n m greater within_too))
    ])

-- what the code reads of eight octets is that number
read_number : (xs : List ℕ) → length xs ≡ 8 → from_be_bytes w64 xs ≡ number_of xs
read_number [] eight = omega (arith, eight)
read_number (a ∷ []) eight = cc eight
read_number (a ∷ b ∷ []) eight = cc eight
read_number (a ∷ b ∷ c ∷ []) eight = cc eight
read_number (a ∷ b ∷ c ∷ d ∷ []) eight = cc eight
read_number (a ∷ b ∷ c ∷ d ∷ e ∷ []) eight = cc eight
read_number (a ∷ b ∷ c ∷ d ∷ e ∷ f ∷ []) eight = cc eight
read_number (a ∷ b ∷ c ∷ d ∷ e ∷ f ∷ g ∷ []) eight = cc eight
read_number (a ∷ b ∷ c ∷ d ∷ e ∷ f ∷ g ∷ h ∷ []) eight = omega arith
read_number (a ∷ b ∷ c ∷ d ∷ e ∷ f ∷ g ∷ h ∷ i ∷ others) eight = cc eight

-- eight octets have the order of the numbers that the code reads of them
read_in_order : (xs ys : List ℕ) → length xs ≡ 8 → length ys ≡ 8 → ((i : ℕ) → get_or xs i 0 < 256) → ((i : ℕ) → get_or ys i 0 < 256)
    → nat_cmp (from_be_bytes w64 xs) (from_be_bytes w64 ys) ≡ slice_cmp nat_cmp xs ys
read_in_order xs ys eight eight_too low low_too =
    rw (read_number xs eight, read_number ys eight_too) (numbers_ordered xs ys (eight ∙ sym eight_too) low low_too)

remainder_low : (n : ℕ) → n % 256 < 256
remainder_low n = omega arith

byte_low : (k n : ℕ) → byte_at k n < 256
byte_low zero n = remainder_low n
byte_low (suc k) n = remainder_low (n / 256 ^ suc k)

-- what is written of a number are octets
written_low : (k n i : ℕ) → get_or (bytes_high_first k n) i 0 < 256
written_low zero n i = omega arith
written_low (suc k) n zero = byte_low k n
written_low (suc k) n (suc i) = written_low k n i

-- numbers have the order of the eight octets that they are
pub written_in_order : (m n : ℕ) → m < 2 ^ 64 → n < 2 ^ 64 → nat_cmp m n ≡ slice_cmp nat_cmp (to_be_bytes w64 m) (to_be_bytes w64 n)
written_in_order m n fits fits_too =
    (λ i. nat_cmp (sym (from_be_bytes-to_be_bytes_8 m fits) i) (sym (from_be_bytes-to_be_bytes_8 n fits_too) i))
    ∙ read_in_order (to_be_bytes w64 m) (to_be_bytes w64 n) refl refl (written_low 8 m) (written_low 8 n)
