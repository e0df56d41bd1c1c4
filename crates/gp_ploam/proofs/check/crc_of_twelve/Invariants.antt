use Rattle.std.proofs.Common.{◌≡◌, bit_xor, drop}
use Rattle.gp_ploam.proofs.Division.{check_from}
use Rattle.gp_ploam.proofs.check.crc_of_twelve.Given as goal

-- what is added so far, and what the octets that are left come to, is what all come to
abbrev pub invariant-loop-place : goal.invariant-loop-place
invariant-loop-place l = bit_xor l.sum (check_from 0 (drop l.place l.octets)) ≡ check_from 0 l.octets
