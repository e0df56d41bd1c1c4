-- The check octet of a sum is the sum of the check octets, so each of twelve octets adds its own.
use Rattle.std.proofs.Common.{◌≡◌, ◌∙◌, ℕ, eqb, zero, suc, ◌+◌, ◌-◌, ◌<◌, ◌≤◌, Bool, false, List, [], ◌∷◌, ◌++◌, length, replicate, bit_xor, refl, sym, ap, arith, get_or, drop, drop-cons, add-one, subst}
use Rattle.std.proofs.lemmas.Nat.{xor_lt}
use Rattle.std.proofs.lemmas.List.{get_or-drop, length-drop}
use Rattle.std.specs.Int.{bit_at}
use Rattle.std.specs.Int.Bits.{xor_zero_r, xor_zero_l, xor_assoc}
use Rattle.gp_ploam.specs.Crc.{bits_of_octet, bits_of, xor, xor_onto, divided, number_from, crc_of}
use Rattle.gp_ploam.proofs.Division.{octet_remainder, check_from, back, bits_xor, onto-append, divided_onto, eight, eight_is, remainder-lt, xor-false, crc_of-check_from, check_from-lt}

-- a pattern put onto zeros stands there
onto_zeros_and : (n : ℕ) (rest : List Bool) → xor_onto (bits_of_octet n) (replicate 8 false ++ rest) ≡ bits_of_octet n ++ rest
onto_zeros_and n rest =
    let f = λ (i : ℕ). xor-false (eqb (bit_at n i) 1) in
    let g7 = f 7 in let g6 = f 6 in let g5 = f 5 in let g4 = f 4 in let g3 = f 3 in let g2 = f 2 in let g1 = f 1 in let g0 = f 0 in
    cc

-- the bits of a sum
bits_of_sum : (x y : ℕ) (rest : List Bool) → xor_onto (bits_of_octet x) (bits_of_octet y ++ rest) ≡ bits_of_octet (bit_xor x y) ++ rest
bits_of_sum x y rest = bits_xor x y rest ∙ onto_zeros_and (bit_xor x y) rest

eight_of_sum : (x y : ℕ) → eight (bit_xor x y) ≡ xor_onto (eight x) (eight y)
eight_of_sum x y =
    let zeros : List Bool = replicate 8 false in
    ap (divided 8) (sym (bits_of_sum x y zeros) ∙ sym (onto-append (bits_of_octet x) 8 (bits_of_octet y ++ zeros)))
    ∙ divided_onto 8 (bits_of_octet x ++ zeros) (bits_of_octet y ++ zeros) (omega arith) (omega arith)

append-nothing : (bits : List Bool) → bits ++ [] ≡ bits
append-nothing [] = refl
append-nothing (b ∷ bits) = ap (λ rest. b ∷ rest) (append-nothing bits)

-- what is left of a sum is the sum of what is left
remainder_of_sum : (x y : ℕ) → x < 256 → y < 256 → octet_remainder (bit_xor x y) ≡ bit_xor (octet_remainder x) (octet_remainder y)
remainder_of_sum x y x_fits y_fits =
    let left : ℕ = octet_remainder x in
    let right : ℕ = octet_remainder y in
    let both : bit_xor x y < 256 = xor_lt 8 x y x_fits y_fits in
    let sum : bit_xor left right < 256 = xor_lt 8 left right (remainder-lt x x_fits) (remainder-lt y y_fits) in
    let bits : bits_of_octet (octet_remainder (bit_xor x y)) ≡ bits_of_octet (bit_xor left right) =
    sym (eight_is (bit_xor x y) both)
    ∙ eight_of_sum x y
    ∙ ap (λ (bits : List Bool). xor_onto bits (eight y)) (eight_is x x_fits)
    ∙ ap (xor_onto (bits_of_octet left)) (eight_is y y_fits ∙ sym (append-nothing (bits_of_octet right)))
    ∙ bits_of_sum left right []
    ∙ append-nothing (bits_of_octet (bit_xor left right)) in
    sym (back (octet_remainder (bit_xor x y)) (remainder-lt (bit_xor x y) both))
    ∙ ap (number_from 0) bits
    ∙ back (bit_xor left right) sum

-- a register of a sum goes over octets as one part does, and the other over as many zeros
check_from_sum : (octets : List ℕ) (a b : ℕ) → a < 256 → b < 256 → ((i : ℕ) → get_or octets i 0 < 256)
    → check_from (bit_xor a b) octets ≡ bit_xor (check_from a (replicate (length octets) 0)) (check_from b octets)
check_from_sum [] a b a_fits b_fits fits = refl
check_from_sum (o ∷ octets) a b a_fits b_fits fits =
    let low : bit_xor b o < 256 = xor_lt 8 b o b_fits (fits 0) in
    ap (λ n. check_from (octet_remainder n) octets) (xor_assoc a b o)
    ∙ ap (λ n. check_from n octets) (remainder_of_sum a (bit_xor b o) a_fits low)
    ∙ check_from_sum octets (octet_remainder a) (octet_remainder (bit_xor b o)) (remainder-lt a a_fits) (remainder-lt _ low) (λ i. fits (suc i))
    ∙ ap (λ n. bit_xor (check_from (octet_remainder n) (replicate (length octets) 0)) (check_from (octet_remainder (bit_xor b o)) octets)) (sym (xor_zero_r a))

-- each octet adds what it and zeros behind it come to
pub check_of_first : (o : ℕ) (octets : List ℕ) → o < 256 → ((i : ℕ) → get_or octets i 0 < 256)
    → check_from 0 (o ∷ octets) ≡ bit_xor (check_from 0 (o ∷ replicate (length octets) 0)) (check_from 0 octets)
check_of_first o octets o_fits fits =
    let rest : ℕ = octet_remainder (bit_xor 0 o) in
    let low : rest < 256 = remainder-lt (bit_xor 0 o) (xor_lt 8 0 o (omega arith) o_fits) in
    ap (λ n. check_from n octets) (sym (xor_zero_r rest)) ∙ check_from_sum octets rest 0 low (omega arith) fits

zeros_fit : (count i : ℕ) → get_or (replicate count 0) i 0 < 256
zeros_fit zero i = omega arith
zeros_fit (suc count) zero = omega arith
zeros_fit (suc count) (suc i) = zeros_fit count i

first_fits : (octet count i : ℕ) → octet < 256 → get_or (octet ∷ replicate count 0) i 0 < 256
first_fits octet count zero fits = fits
first_fits octet count (suc i) fits = zeros_fit count i

-- the check octet of an octet and zeros behind it
pub crc_of-first : (octet count : ℕ) → octet < 256 → crc_of (octet ∷ replicate count 0) 0 ≡ check_from 0 (octet ∷ replicate count 0)
crc_of-first octet count fits =
    crc_of-check_from (octet ∷ replicate count 0) 0 (λ i. first_fits octet count i fits) ∙ xor_zero_r _

-- what the octets from a place on come to, where so many stand behind it
pub check_of_place : (octets : List ℕ) (place count : ℕ) → place + 1 + count ≡ length octets → ((i : ℕ) → get_or octets i 0 < 256)
    → check_from 0 (drop place octets)
    ≡ bit_xor (check_from 0 (get_or octets place 0 ∷ replicate count 0)) (check_from 0 (drop (place + 1) octets))
check_of_place octets place count whole fits =
    let within : place < length octets = omega arith in
    let rest : List ℕ = drop (suc place) octets in
    let long : length rest ≡ count = length-drop (suc place) octets ∙ (let e : length octets - suc place ≡ count = omega arith in e) in
    ap (check_from 0) (drop-cons octets place 0 within)
    ∙ check_of_first (get_or octets place 0) rest (fits place)
    (λ i. subst (λ (n : ℕ). n < 256) (sym (get_or-drop (suc place) octets i 0)) (fits (suc place + i)))
    ∙ ap (λ n. bit_xor (check_from 0 (get_or octets place 0 ∷ replicate n 0)) (check_from 0 rest)) long
    ∙ ap (λ n. bit_xor (check_from 0 (get_or octets place 0 ∷ replicate count 0)) (check_from 0 (drop n octets))) (sym (add-one place))
