-- A second table of the same units.
use Rattle.std.proofs.Common.{◌≡◌, [], ◌∷◌, None, Some, refl}
use Rattle.std.specs.List.{AllZip}
use Rattle.slab.specs.Slab.{IsSlotClone}
use Rattle.gp_unit.specs.declared.record.Record.{Record}
use Rattle.gp_table.specs.Table.{Slots}

-- the slots of a clone, where the clone of a record is the record
pub slots_same : (is_clone : Record → Record → Type 0) → ((x y : Record) → is_clone x y → y ≡ x) → (xs ys : Slots) → AllZip (IsSlotClone is_clone) xs ys → ys ≡ xs
slots_same is_clone is [] [] all = refl
slots_same is_clone is [] (y ∷ ys) all = absurd all
slots_same is_clone is (x ∷ xs) [] all = absurd all
slots_same is_clone is (None ∷ xs) (y ∷ ys) all = let rest = slots_same is_clone is xs ys all.1 in λ i. all.0 i ∷ rest i
slots_same is_clone is (Some x ∷ xs) (None ∷ ys) all = absurd all.0
slots_same is_clone is (Some x ∷ xs) (Some y ∷ ys) all = let rest = slots_same is_clone is xs ys all.1 in let same = is x y all.0 in λ i. Some (same i) ∷ rest i
