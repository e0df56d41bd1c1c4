use Rattle.std.proofs.Common.{◌≡◌, ◌∙◌, ◌+◌, ◌-◌, ℕ, [], ap, sym, arith, bit_xor, drop, get_or}
use Rattle.std.proofs.Math.ListN.{drop_of_length-le}
use Rattle.std.specs.Int.Bits.{xor_zero_r, xor_assoc}
use Rattle.gp_ploam.specs.Mask.{mask_value}
use Rattle.gp_ploam.proofs.Division.{check_from, crc_of-check_from}
use Rattle.gp_ploam.proofs.Sums.{check_of_place, crc_of-first}
use Rattle.gp_ploam.proofs.check.crc_of_twelve.Goals as goal

pub loop-place-preserved : goal.loop-place-preserved
loop-place-preserved c =
    let octets = c.args.octets.now in
    let place : ℕ = c.loop-place.place in
    let below = c.loop-place-test.true in
    let added = c.added_at-sum.ensures ∙ crc_of-first (get_or octets place 0) (11 - place) (c.fits-octets place) in
    xor_assoc c.loop-place.sum c.added_at-sum.result (check_from 0 (drop (place + 1) octets))
    ∙ ap (λ n. bit_xor c.loop-place.sum (bit_xor n (check_from 0 (drop (place + 1) octets)))) added
    ∙ ap (bit_xor c.loop-place.sum) (sym (check_of_place octets place (11 - place) (omega (arith, below, c.told-octets)) c.fits-octets))
    ∙ c.loop-place.invariant

pub returns : goal.returns
returns c =
    let octets = c.args.octets.now in
    let none : drop c.loop-place.place octets ≡ [] = drop_of_length-le octets (omega (arith, c.loop-place-test.false, c.told-octets)) in
    let sum : c.loop-place.sum ≡ check_from 0 octets =
    sym (xor_zero_r c.loop-place.sum) ∙ ap (λ rest. bit_xor c.loop-place.sum (check_from 0 rest)) (sym none) ∙ c.loop-place.invariant in
    ap (λ n. bit_xor n c.value.result) sum ∙ ap (bit_xor (check_from 0 octets)) c.value.ensures ∙ sym (crc_of-check_from octets (mask_value c.args.mask) c.fits-octets)
