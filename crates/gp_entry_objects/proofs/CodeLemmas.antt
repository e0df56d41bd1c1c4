-- The digits of thirteen octets stand for them.
use Rattle.std.proofs.Common.{◌≡◌, ℕ, ◌*◌, List, length, Ok, arith, ◌∙◌}
use Rattle.hex.specs.Hex.{IsBytes, decode_sized, encode_lower}
use Rattle.hex.proofs.HexLemmas.{decode_of-encode_lower, decode_of-ok, decode_sized-twice}

pub digits_back : (octets : List ℕ) → length octets ≡ 13 → IsBytes octets → decode_sized (encode_lower octets) 13 ≡ Ok octets
digits_back octets thirteen bytes =
    let decoded = decode_of-encode_lower octets bytes in
    let long : length (encode_lower octets) ≡ 2 * 13 = omega (arith, (decode_of-ok (encode_lower octets) octets decoded).2, thirteen) in
    decode_sized-twice (encode_lower octets) 13 long ∙ decoded
