use Rattle.std.proofs.Common.{◌≡◌, ℕ, Option, Some, None, true, false, refl, sym, ◌∙◌, ap, subst, IfSome}
use Rattle.std.proofs.lemmas.Bool.{false≢true}
use Rattle.gp_pools.specs.Onu.{IsFreeOnu, OnuPool}
use Rattle.gp_pools.specs.Pool.{HasRoom}
use Rattle.gp_table.specs.Active.{IsFreeOnuId}
use Rattle.gp_table.proofs.Gets.{no_value, same_value}
use Rattle.gp_table.proofs.Together.{free_onu_is, none_of, onu_is_free, some_of}
use Rattle.gp_table.proofs.active_units.ActiveUnits.free_onu.Goals as goal
use Rattle.gp_table.proofs.active_units.ActiveUnits.free_onu.Goals.{in-Some+else-has_room, else-has_room-via-then-has_room+else-is_free, else-has_room-via-else-has_room, in_default}

pub returns-then-is_free-clause-free : goal.returns-then-is_free-clause-free
returns-then-is_free-clause-free c =
    let q = c.self.inside in
    free_onu_is q.table.rows q.onus q.allocs c.self.invariant q.table c.args.self.now refl c.self.view_is c.in-Some.onu (c.is_free.ensures.free.0 c.if-is_free.true) (c.has_room.ensures.0 c.if-has_room.true)

-- free, with room
abbrev FreeWithRoom : OnuPool → ℕ → Type 0
FreeWithRoom o n = IsFreeOnu o n × HasRoom o.pool

both : (o : OnuPool) (r : Option ℕ) → IfSome r (IsFreeOnu o) → IfSome r (λ n. HasRoom o.pool) → IfSome r (FreeWithRoom o)
both o None free room = tt
both o (Some n) free room = (free, room)

pub returns-clause-none : goal.returns-clause-none
returns-clause-none c =
    let q = c.self.inside in
    none_of (IsFreeOnuId c.args.self.now) (FreeWithRoom q.onus) c.free_one.result (onu_is_free q.table.rows q.onus q.allocs c.self.invariant q.table c.args.self.now refl c.self.view_is)
    (none_of (FreeWithRoom q.onus) (FreeWithRoom q.onus) c.free_one.result (λ n f. f) (parted q.onus c.free_one.result c.free_one.ensures.none))
  where
    parted : (o : OnuPool) (r : Option ℕ) → Rattle.std.proofs.Common.IfNone r (Rattle.gp_pools.specs.Onu.NoneIsFree o) → Rattle.std.proofs.Common.IfNone r ((n : ℕ) → FreeWithRoom o n → ⊥)
    parted o None none = λ n f. none n f.0 f.1
    parted o (Some n) none = tt

pub returns-clause-free : goal.returns-clause-free
returns-clause-free c =
    let q = c.self.inside in
    some_of (FreeWithRoom q.onus) (IsFreeOnuId c.args.self.now) c.free_one.result
    (λ n f. free_onu_is q.table.rows q.onus q.allocs c.self.invariant q.table c.args.self.now refl c.self.view_is n f.0 f.1)
    (both q.onus c.free_one.result c.free_one.ensures.free c.free_one.ensures.room)

pub returns-clause-wished : goal.returns-clause-wished
returns-clause-wished c onu wished free =
    let q = c.self.inside in
    let got = onu_is_free q.table.rows q.onus q.allocs c.self.invariant q.table c.args.self.now refl c.self.view_is onu free in
    elim c.match-wished.branch [
      | in-Some+else-has_room w ↦
          let same : w.in-Some.onu ≡ onu = same_value w.in-Some.onu onu (sym w.in-Some.is ∙ wished) in
          elim w.else-has_room.branch [
            | else-has_room-via-then-has_room+else-is_free w' ↦
                absurd (false≢true (sym w'.if-is_free.false ∙ w'.is_free.ensures.free.1 (subst (IsFreeOnu q.onus) (sym same) got.0)))
            | else-has_room-via-else-has_room w' ↦ absurd (false≢true (sym w'.if-has_room.false ∙ w.has_room.ensures.1 got.1))
          ]
      | in_default w ↦ absurd (no_value onu (sym w.in_default.is ∙ wished))
    ]
