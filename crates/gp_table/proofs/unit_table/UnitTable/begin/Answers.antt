use Rattle.std.proofs.Common.{length, ap, rules}
use Rattle.gp_table.proofs.Admissions.{fresh_admitted, fresh_disabled, fresh_keys}
use Rattle.gp_table.proofs.Kept.{kept-empty, no_keys, rows_of_nothing}
use Rattle.gp_table.proofs.Over.{units_are}
use Rattle.gp_table.proofs.unit_table.UnitTable.begin.Goals as goal

pub invariant_of-result : goal.invariant_of-result
invariant_of-result c =
    let same = c.in_ok-onus.ensures.items_if_clones_equal (λ y clone. search rules) in
    rw (c.in_ok-records.ensures.empty, fresh_keys c.in_ok-admissions.admissions c.args.admitted.now c.in_ok-admissions.ensures, c.new.ensures, c.new-2.ensures)
    (kept-empty c.in_ok-records.records.capacity c.in_ok-onus.onus.items c.in_ok-records.ensures.capacity (ap length same) (no_keys c.in_ok-onus.onus.items same))

pub returns : goal.returns
returns c =
    let fresh = c.in_ok-admissions.ensures in
    units_are _ c.in_ok-admissions.admissions _ (fresh_admitted c.in_ok-admissions.admissions c.args.admitted.now fresh)
    (rw (c.in_ok-records.ensures.empty, fresh_keys c.in_ok-admissions.admissions c.args.admitted.now fresh) rows_of_nothing)
    (fresh_disabled c.in_ok-admissions.admissions c.args.admitted.now fresh)
