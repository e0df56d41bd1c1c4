use Rattle.std.proofs.Common.{◌≡◌, ◌∙◌, ap, sym, eqb, eqb-true, refl, true, get_or, arith, ◌<◌, ◌-◌, ◌∷◌, [], replicate, slice_index_or, ℕ}
use Rattle.gp_ploam.specs.declared.check.TheConstants.{ADDED}
use Rattle.gp_ploam.proofs.Division.{every, every_at, octet_remainder, check_from}
use Rattle.gp_ploam.proofs.Sums.{crc_of-first}
use Rattle.gp_ploam.proofs.check.added_at.Goals as goal

-- the whole table was computed
table_right : every (λ place. every (λ x. eqb (slice_index_or (slice_index_or ADDED place []) x 0) (check_from 0 (x ∷ replicate (11 - place) 0))) 256) 12 ≡ true
unfolding octet_remainder
table_right = refl

pub returns : goal.returns
returns c =
    let low : c.args.octet < 256 = omega arith in
    let row = every_at (λ place. every (λ x. eqb (slice_index_or (slice_index_or ADDED place []) x 0) (check_from 0 (x ∷ replicate (11 - place) 0))) 256) 12 c.args.place table_right c.requires in
    ap (λ i. slice_index_or (slice_index_or ADDED c.args.place []) i 0) c.from.ensures
    ∙ eqb-true _ _ (every_at (λ x. eqb (slice_index_or (slice_index_or ADDED c.args.place []) x 0) (check_from 0 (x ∷ replicate (11 - c.args.place) 0))) 256 c.args.octet row low)
    ∙ sym (crc_of-first c.args.octet (11 - c.args.place) low)
