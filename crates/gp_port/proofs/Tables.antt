-- What the unit table answers and requires, in the words of the port.
use Rattle.std.proofs.Common.{◌≡◌, ℕ, ◌<◌, ◌≤◌, Bool, true, false, length, List, Option, None, Some, refl, sym, ap, subst, ◌∙◌, arith}
use Rattle.std.proofs.lemmas.List.{length-map}
use Rattle.std.specs.Prelude.{◌↔◌, count_by, IfNone, IfSome, if◌then◌else◌}
use Rattle.std.specs.Option.{is_some}
use Rattle.std.specs.FinMap.{values, len, len-entries, entries}
use Rattle.std.specs.FinSet.{FinSet, contains, from_list}
use Rattle.std.proofs.lemmas.List.Sums.{count_by-le-length}
use Rattle.gp_ploam.specs.declared.message.Serial.{Serial}
use Rattle.gp_ploam.specs.declared.message.Down.{Down}
use Rattle.gp_ploam.specs.Serials.{serial_cmp, is_among}
use Rattle.gp_ranging.specs.Window.{WindowState}
use Rattle.gp_common.specs.declared.common.Common.{Common}
use Rattle.gp_unit.specs.Rows.{row_popped_up}
use Rattle.gp_unit.specs.declared.row.Row.{Row}
use Rattle.gp_table.specs.Rows.{count_operating, is_operating}
use Rattle.gp_table.specs.declared.unit_table.UnitEntry.{UnitEntry}
use Rattle.gp_table.specs.Active.{ActiveState, IsFreeOnuId, IsFreeAllocId}
use Rattle.gp_table.proofs.Admissions.{contains-from_list}
use Rattle.gp_machine.specs.declared.config.PortConfig.{PortConfig}
use Rattle.gp_machine.specs.State.{PortState, Rows, IsFree, IsFreeAlloc, rows_mapped}
use Rattle.gp_machine.specs.Changes.{state_popped_up, window_unpolled}
use Rattle.gp_port.specs.Parts.{IsConfigured, state_with}

-- ---- who is admitted

pub admits : (admitted : FinSet serial_cmp) (serials : List Serial) (s : Serial) → admitted ≡ from_list serials → contains admitted s ≡ is_among s serials
admits admitted serials s same = ap (λ (x : FinSet serial_cmp). contains x s) same ∙ contains-from_list serials s

pub some_if : (b : Bool) (e : UnitEntry) → is_some (if b then Some e else None) ≡ b
some_if true e = refl
some_if false e = refl

-- ---- free numbers

-- whether a number is there, by one that was found or none
pub told : (P Q : ℕ → Type 0) (has : Bool) (found : Option ℕ) → ((has ≡ true) ↔ ((n : ℕ) × P n)) → ((n : ℕ) → P n → Q n) → ((n : ℕ) → Q n → P n)
    → IfNone found ((n : ℕ) → Q n → ⊥) → IfSome found Q → is_some found ≡ has
told P Q has (Some n) tells into back none some = sym (tells.1 (n, back n some))
told P Q true None tells into back none some = let free = tells.0 refl in absurd (none free.0 (into free.0 free.1))
told P Q false None tells into back none some = refl

-- the number that is found, if one is, is the wished one where that is free
pub picked : (P Q : ℕ → Type 0) (found asked wished : Option ℕ) → ((n : ℕ) → wished ≡ Some n → P n → asked ≡ Some n) → ((n : ℕ) → P n → Q n) → ((n : ℕ) → asked ≡ Some n → Q n → found ≡ Some n)
    → IfSome found (λ (onu : ℕ). (n : ℕ) → wished ≡ Some n → P n → onu ≡ n)
picked P Q None asked wished reads into table = tt
picked P Q (Some onu) asked wished reads into table = λ n is free. one n (table n (reads n is free) (into n free))
  where
    one : (n : ℕ) → Some onu ≡ Some n → onu ≡ n
    one n e = cc

module _ (config : PortConfig) (units : ActiveState) (common : Common) (wanted : Bool) (timer : ℕ) (window : Option WindowState) (owed : List Down) (polled : Option ℕ) (configured : IsConfigured config units) where
  pub onu_of_table : (n : ℕ) → IsFreeOnuId units n → IsFree (state_with config units common wanted timer window owed polled) n
  onu_of_table n h = record { low = h.low; room = subst (λ (m : ℕ). len units.rows < m) configured.max_units h.room; unused = h.unused; warm = h.warm }

  pub onu_of_port : (n : ℕ) → IsFree (state_with config units common wanted timer window owed polled) n → IsFreeOnuId units n
  onu_of_port n h = record { low = h.low; room = subst (λ (m : ℕ). len units.rows < m) (sym configured.max_units) h.room; unused = h.unused; warm = h.warm }

  pub alloc_of_table : (n : ℕ) → IsFreeAllocId units n → IsFreeAlloc (state_with config units common wanted timer window owed polled) n
  alloc_of_table n h = record { above = h.above; below = subst (λ (m : ℕ). n ≤ m) configured.alloc_last h.below; unused = h.unused }

  pub alloc_of_port : (n : ℕ) → IsFreeAlloc (state_with config units common wanted timer window owed polled) n → IsFreeAllocId units n
  alloc_of_port n h = record { above = h.above; below = subst (λ (m : ℕ). n ≤ m) (sym configured.alloc_last) h.below; unused = h.unused }

-- ---- POPUP to all

pub popped_state : (p : PortState) (rows : Rows) → rows ≡ rows_mapped (λ row. row_popped_up row row.phase) p.rows → record p { rows = rows; window = window_unpolled p.window } ≡ state_popped_up p
popped_state p rows same = ap (λ (x : Rows). record p { rows = x; window = window_unpolled p.window }) same

pub few_operating : (rows : Rows) → count_operating rows ≤ len rows
few_operating rows =
    let most : count_by is_operating (values rows) ≤ length (values rows) = count_by-le-length is_operating (values rows) in
    let same : length (values rows) ≡ length (entries rows) = length-map (entries rows) (λ (e : Serial × Row). e.1) in
    let counted : len rows ≡ length (entries rows) = len-entries rows in
    omega arith
