use Rattle.std.proofs.Common.{◌≡◌, ◌+◌, ◌==◌, ◌||◌, Bool, true, false, cond, Option, None, Some, refl, ap, subst, sym, ◌∙◌}
use Rattle.std.specs.Prelude.{MatchOption}
use Rattle.std.specs.FinMap as map
use Rattle.gp_pools.specs.Allocs.{AllocMap, AreLeased}
use Rattle.gp_pools.proofs.Callers.{leased_none}
use Rattle.gp_unit.specs.declared.record.Record.{Record}
use Rattle.gp_unit.specs.declared.row.Row.{Row}
use Rattle.gp_unit.specs.declared.row.Phase.{Phase}
use Rattle.gp_unit.specs.declared.row.Phase.TheVariants.{Ranging, Operating}
use Rattle.gp_unit.specs.declared.ranging.RangingClosed.TheVariants.{Still, Failed}
use Rattle.gp_unit.specs.Records.{record_of}
use Rattle.gp_unit.specs.Rows.{row_unranged}
use Rattle.gp_unit.specs.Units.{RetiredState, retired}
use Rattle.gp_port_tests.proofs.unit.failed_unit.Goals as goal

-- a row that still ranges has the same Alloc-IDs
same_allocs : (row new : Row) (seen : Bool) (phase : Phase) → row_unranged row seen phase ≡ Some new → new.allocs ≡ row.allocs
same_allocs row new seen (Operating eqd dark garbled) is = let same : row ≡ new = cc in ap (λ (r : Row). r.allocs) (sym same)
same_allocs row new seen (Ranging attempts heard) is = by_test (attempts == 1) is
  where
    by_test : (last : Bool) → cond last None (Some (record row { phase = Ranging (attempts + 1) (heard || seen) })) ≡ Some new → new.allocs ≡ row.allocs
    by_test true e = absurd (cc)
    by_test false e = let same : record row { phase = Ranging (attempts + 1) (heard || seen) } ≡ new = cc in ap (λ (r : Row). r.allocs) (sym same)

still_has : (unit new : Record) (seen heard : Bool) (rest : RetiredState) → (o : Option Row) → row_unranged unit.row seen unit.row.phase ≡ o
    → MatchOption o (Still new ≡ Failed rest heard) (λ row. Still new ≡ Still (record_of unit.serial row)) → new.row.allocs ≡ unit.row.allocs
still_has unit new seen heard rest None is h = absurd (cc)
still_has unit new seen heard rest (Some row) is h =
    let same : new ≡ record_of unit.serial row = cc in
    ap (λ (u : Record). u.row.allocs) same ∙ same_allocs unit.row row seen unit.row.phase is

failed_has : (unit : Record) (heard now : Bool) (rest : RetiredState) → (o : Option Row)
    → MatchOption o (Failed rest heard ≡ Failed (retired unit) now) (λ row. Failed rest heard ≡ Still (record_of unit.serial row)) → rest.allocs ≡ unit.row.allocs
failed_has unit heard now rest None h = let same : rest ≡ retired unit = cc in ap (λ (r : RetiredState). r.allocs) same
failed_has unit heard now rest (Some row) h = absurd (cc)

pub give_up-requires-in-Failed-window_closed-clause-allocs : goal.give_up-requires-in-Failed-window_closed-clause-allocs
give_up-requires-in-Failed-window_closed-clause-allocs c =
    let none : c.in-Failed-window_closed.rest.allocs ≡ map.empty =
    failed_has c.in-Still.unit c.in-Failed-window_closed.seen _ c.in-Failed-window_closed.rest _ c.in-Failed-window_closed.ensures
    ∙ still_has c.begin.result c.in-Still.unit c.args.first _ _ _ refl c.in-Still.ensures
    ∙ ap (λ (u : Record). u.row.allocs) c.begin.ensures in
    subst (λ (m : AllocMap). AreLeased c.new-alloc_ids.result m) (sym none) (leased_none c.new-alloc_ids.result)
