-- The numbers by which C is told what a port knows of a unit (this library's own rule).
use Rattle.std.specs.Prelude.{ℕ, Bool, true, false, List, [], ◌∷◌, slice_index_or, Option, None, Some}
use Rattle.gp_unit.specs.declared.row.Phase.{Phase}
use Rattle.gp_unit.specs.declared.row.Phase.TheVariants.{Ranging, Operating}
use Rattle.gp_unit.specs.declared.row_view.RowView.{RowView}
use Rattle.gp_c.specs.declared.row.AllocNumbers.{AllocNumbers}
use Rattle.gp_c.specs.declared.row.RowNumbers.{RowNumbers}

-- whether something is so
abbrev pub flag : Bool → ℕ
flag false = 0
flag true = 1

-- a place for a further Alloc-ID
abbrev pub alloc_numbers : Option (ℕ × Bool) → AllocNumbers
alloc_numbers None = record { alloc = 0; is_there = 0; is_leaving = 0 }
alloc_numbers (Some place) = record { alloc = place.0; is_there = 1; is_leaving = flag place.1 }

-- one of the eight places
abbrev pub alloc_at : List (Option (ℕ × Bool)) → ℕ → AllocNumbers
alloc_at places place = alloc_numbers (slice_index_or places place None)

-- the eight places
abbrev pub eight_allocs : List (Option (ℕ × Bool)) → List AllocNumbers
eight_allocs places =
    alloc_at places 0 ∷ alloc_at places 1 ∷ alloc_at places 2 ∷ alloc_at places 3
    ∷ alloc_at places 4 ∷ alloc_at places 5 ∷ alloc_at places 6 ∷ alloc_at places 7 ∷ []

-- the Alloc-ID that is still to be acknowledged
abbrev pub pending_numbers : Option ℕ → ℕ × ℕ
pending_numbers None = (0, 0)
pending_numbers (Some alloc) = (1, alloc)

-- a row, beside how far its activation has gone
abbrev pub common_numbers : RowView → RowNumbers
common_numbers row =
    record {
      eqd = 0;
      allocs = eight_allocs row.allocs;
      pending = (pending_numbers row.pending).1;
      is_pending = (pending_numbers row.pending).0;
      waiting = row.waiting;
      onu = row.onu;
      is_operating = 0;
      attempts = 0;
      was_seen = 0;
      dark = 0;
      garbled = 0;
    }

-- a row, with how far its activation has gone
abbrev pub row_numbers : RowView → Phase → RowNumbers
row_numbers row (Ranging attempts seen) = record (common_numbers row) { attempts = attempts; was_seen = flag seen }
row_numbers row (Operating eqd dark garbled) =
    record (common_numbers row) { is_operating = 1; eqd = eqd; dark = dark; garbled = garbled }
