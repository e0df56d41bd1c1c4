-- What keeps a table and its pools of numbers together.
use Rattle.std.proofs.Common.{◌≡◌, ℕ, ◌+◌, ◌<◌, ◌≤◌, ◌==◌, Bool, true, false, not, ◌||◌, ◌&&◌, cond, Option, None, Some, inl, inr, refl, sym, ap, subst, ◌∙◌, arith, is_some, eq-eqb, get_or, IsSome, IfNone, IfSome}
use Rattle.std.specs.Prelude.{if◌then◌else◌}
use Rattle.std.specs.Option.{option_map}
use Rattle.std.proofs.lemmas.Bool.{cases_Bool, cases_eq, false≢true, ne_eqb, eqb-true}
use Rattle.std.specs.Ordering.{nat_cmp, eq_by_cmp}
use Rattle.std.specs.Cmp.{nat_cmp_total, unsigned_tied}
use Rattle.std.specs.FinMap as fin
use Rattle.std.specs.FinSet as num
use Rattle.gp_ploam.specs.declared.message.Serial.{Serial}
use Rattle.gp_ploam.specs.Serials.{serial_cmp}
use Rattle.gp_ploam.proofs.Serials.{serials_total}
use Rattle.gp_numbers.proofs.Members.{len-insert_new, len-remove_member, len-no_members}
use Rattle.gp_pools.specs.Allocs.{AreSettled}
use Rattle.gp_pools.specs.Cooling.{quarantine_with}
use Rattle.gp_pools.specs.Onu.{OnuPool, IsFreeOnu, fresh_onu_pool, onus_after_frame}
use Rattle.gp_pools.specs.Pool.{Pool, HasRoom, IsFree, fresh_pool}
use Rattle.gp_pools.proofs.Cool.{get-after_frame, left_after_frame}
use Rattle.gp_unit.specs.declared.row.Row.{Row}
use Rattle.gp_unit.specs.declared.record.Awake.{Awake}
use Rattle.gp_unit.specs.declared.record.Awake.TheVariants.{Ranging, Operating}
use Rattle.gp_unit.specs.declared.record.Record.{Record}
use Rattle.gp_unit.specs.Records.{record_of}
use Rattle.gp_table.specs.Awake.{record_awake}
use Rattle.gp_unit.specs.Rows.{has_alloc, new_row, row_releasing}
use Rattle.gp_table.specs.Rows.{Rows, HasRow}
use Rattle.gp_table.specs.Values.{map_values}
use Rattle.gp_table.specs.Units.{Units}
use Rattle.gp_ploam.specs.OnuIds.{onu_ids}
use Rattle.gp_table.specs.Active.{ActiveState, AreNumbersOf, AreTogether, IsFreeAllocId, IsFreeOnuId, active_of, has_onu, left_or_zero, without}
use Rattle.gp_table.proofs.AllocEnds.{Ends, has_in}
use Rattle.gp_table.proofs.Counts.{counts-quarantine, frames-after_frame, frames-quarantine, get-counts_of, get-quarantine_other, warm_count}
use Rattle.gp_table.proofs.Gets.{len-insert_new as len-rows_new, len-remove_known, same_value, no_value}
use Rattle.gp_table.proofs.Numbers.{had, moved, numbers-alike, numbers-keep, numbers-mapped, numbers-none, numbers-put, numbers-remove}
use Rattle.gp_table.proofs.Values.{len-map_values}

tied : (q n : ℕ) → (q == n) ≡ eq_by_cmp nat_cmp q n
tied q n = sym (unsigned_tied q n)

len-known : (rows : Rows) (s : Serial) (row new : Row) → HasRow rows s row → fin.len (fin.insert rows s new) ≡ fin.len rows
len-known rows s row new has = fin.len-insert serials_total rows s new ∙ ap (λ (o : Option Row). cond (is_some o) (fin.len rows) (fin.len rows + 1)) has

module _ (rows : Rows) (o : OnuPool) (a : Pool) (h : AreTogether rows o a) where
  -- ---- what a unit's numbers are

  pub onu_settled : (s : Serial) (row : Row) → HasRow rows s row → num.contains o.pool.settled row.onu ≡ true
  onu_settled s row has = h.are_onus.each_settled row.onu (record { serial = s; row = row; active = has; owns = eq-eqb row.onu row.onu refl })

  pub allocs_settled : (s : Serial) (row : Row) → HasRow rows s row → AreSettled a row.allocs
  allocs_settled s row has number is = h.are_allocs.each_settled number (record { serial = s; row = row; active = has; owns = is })

  -- ---- the row of a unit is replaced

  module _ (s : Serial) (row new : Row) (a' : Pool) (has : HasRow rows s row) (same_onu : new.onu ≡ row.onu)
      (ends : Ends a a' (moved (num.contains a.settled) (has_in row.allocs) (has_in new.allocs)))
      (fresh : (number : ℕ) → has_alloc number new ≡ true → num.contains a.settled number ≡ true → has_alloc number row ≡ true)
    where
      allocs_then : AreNumbersOf (fin.insert rows s new) has_alloc (num.contains a'.settled)
      allocs_then =
          let was : (number : ℕ) → had has_alloc (fin.get rows s) number ≡ has_alloc number row = λ number. ap (λ (x : Option Row). had has_alloc x number) has in
          numbers-alike (fin.insert rows s new) has_alloc (moved (num.contains a.settled) (had has_alloc (fin.get rows s)) (λ n. has_alloc n new)) (num.contains a'.settled)
          (λ number. ends.are_settled number ∙ ap (λ b. has_alloc number new || (num.contains a.settled number && not b)) (sym (was number)))
          (numbers-put rows has_alloc s new (num.contains a.settled) h.are_allocs (λ number own is. was number ∙ fresh number own is))

      pub together-put : AreTogether (fin.insert rows s new) o a'
      together-put = record {
        onus_leased = h.onus_leased;
        allocs_leased = ends.idle;
        are_onus = numbers-keep rows has_onu s row new (num.contains o.pool.settled) has (λ number. ap (λ n. number == n) same_onu) h.are_onus;
        are_allocs = allocs_then;
        counted = len-known rows s row new has ∙ h.counted;
        first_onu = h.first_onu;
        last_onu = h.last_onu;
        few = h.few;
        first_alloc = ends.same_first ∙ h.first_alloc;
        last_alloc = subst (λ n. n ≤ 4095) (sym ends.same_last) h.last_alloc;
        warm = h.warm;
        frames_left = h.frames_left;
      }

  -- ---- a unit is added

  module _ (s : Serial) (onu : ℕ) (a' : Pool) (none : fin.get rows s ≡ None) (unsettled : num.contains o.pool.settled onu ≡ false)
      (cool : fin.get o.quarantine.cooling onu ≡ None) (ends : Ends a a' (num.contains a.settled))
    where
      onus_more : AreNumbersOf (fin.insert rows s (new_row onu)) has_onu (num.contains (num.insert o.pool.settled onu))
      onus_more =
          numbers-alike (fin.insert rows s (new_row onu)) has_onu (moved (num.contains o.pool.settled) (had has_onu (fin.get rows s)) (λ n. n == onu)) (num.contains (num.insert o.pool.settled onu))
          (λ number.
          num.contains-insert nat_cmp_total o.pool.settled onu number
          ∙ joined (eq_by_cmp nat_cmp number onu) (num.contains o.pool.settled number)
          ∙ ap (λ b. b || (num.contains o.pool.settled number && not false)) (sym (tied number onu))
          ∙ ap (λ (x : Option Row). (number == onu) || (num.contains o.pool.settled number && not (had has_onu x number))) (sym none))
          (numbers-put rows has_onu s (new_row onu) (num.contains o.pool.settled) h.are_onus
          (λ number own is. absurd (false≢true (sym unsettled ∙ ap (num.contains o.pool.settled) (sym (eqb-true number onu own)) ∙ is))))
        where
          joined : (b c : Bool) → (b || c) ≡ (b || (c && not false))
          joined true c = refl
          joined false true = refl
          joined false false = refl

      no_alloc : (number : ℕ) → has_alloc number (new_row onu) ≡ false
      no_alloc number = ap is_some (fin.get-empty nat_cmp number)

      allocs_still : AreNumbersOf (fin.insert rows s (new_row onu)) has_alloc (num.contains a'.settled)
      allocs_still =
          numbers-alike (fin.insert rows s (new_row onu)) has_alloc (moved (num.contains a.settled) (had has_alloc (fin.get rows s)) (λ n. has_alloc n (new_row onu))) (num.contains a'.settled)
          (λ number.
          ends.are_settled number ∙ joined (num.contains a.settled number)
          ∙ ap (λ b. b || (num.contains a.settled number && not false)) (sym (no_alloc number))
          ∙ ap (λ (x : Option Row). has_alloc number (new_row onu) || (num.contains a.settled number && not (had has_alloc x number))) (sym none))
          (numbers-put rows has_alloc s (new_row onu) (num.contains a.settled) h.are_allocs (λ number own is. absurd (false≢true (sym (no_alloc number) ∙ own))))
        where
          joined : (c : Bool) → c ≡ (false || (c && not false))
          joined true = refl
          joined false = refl

      pub together-add : AreTogether (fin.insert rows s (new_row onu)) (record o { pool = record o.pool { settled = num.insert o.pool.settled onu } }) a'
      together-add = record {
        onus_leased = h.onus_leased;
        allocs_leased = ends.idle;
        are_onus = onus_more;
        are_allocs = allocs_still;
        counted = len-rows_new rows s (new_row onu) none ∙ ap (λ n. n + 1) h.counted ∙ sym (len-insert_new o.pool.settled onu unsettled);
        first_onu = h.first_onu;
        last_onu = h.last_onu;
        few = h.few;
        first_alloc = ends.same_first ∙ h.first_alloc;
        last_alloc = subst (λ n. n ≤ 4095) (sym ends.same_last) h.last_alloc;
        warm = λ number is. elim (cases_eq number onu) [
          | inl same ↦ ap (fin.get o.quarantine.cooling) same ∙ cool
          | inr other ↦
              h.warm number (ap (λ b. b || num.contains o.pool.settled number) (sym (unsigned_tied number onu ∙ ne_eqb number onu other)) ∙ sym (num.contains-insert nat_cmp_total o.pool.settled onu number) ∙ is)
        ];
        frames_left = h.frames_left;
      }

  -- ---- a unit is removed

  module _ (s : Serial) (row : Row) (a' : Pool) (has : HasRow rows s row) (ends : Ends a a' (moved (num.contains a.settled) (has_in row.allocs) (λ n. false))) where
    gone : (number : ℕ) → num.contains (num.remove o.pool.settled row.onu) number ≡ moved (num.contains o.pool.settled) (had has_onu (fin.get rows s)) (λ n. false) number
    gone number =
        num.contains-remove nat_cmp_total o.pool.settled row.onu number
        ∙ turned (eq_by_cmp nat_cmp number row.onu) (num.contains o.pool.settled number)
        ∙ ap (λ b. num.contains o.pool.settled number && not b) (sym (tied number row.onu))
        ∙ ap (λ (x : Option Row). num.contains o.pool.settled number && not (had has_onu x number)) (sym has)
      where
        turned : (b c : Bool) → (not b && c) ≡ (c && not b)
        turned true true = refl
        turned true false = refl
        turned false true = refl
        turned false false = refl

    other_onu : (number : ℕ) → num.contains (num.remove o.pool.settled row.onu) number ≡ true → (number ≡ row.onu → ⊥) × (num.contains o.pool.settled number ≡ true)
    other_onu number is = elim (cases_eq number row.onu) [
      | inl same ↦
          absurd (false≢true (sym (num.contains-remove nat_cmp_total o.pool.settled row.onu number ∙ ap (λ b. not b && num.contains o.pool.settled number) (unsigned_tied number row.onu ∙ eq-eqb number row.onu same)) ∙ is))
      | inr other ↦
          (other, sym (num.contains-remove nat_cmp_total o.pool.settled row.onu number ∙ ap (λ b. not b && num.contains o.pool.settled number) (unsigned_tied number row.onu ∙ ne_eqb number row.onu other)) ∙ is)
    ]

    pub together-remove : AreTogether (fin.remove rows s) (record { pool = record o.pool { settled = num.remove o.pool.settled row.onu }; quarantine = quarantine_with o.quarantine row.onu }) a'
    together-remove = record {
      onus_leased = h.onus_leased;
      allocs_leased = ends.idle;
      are_onus = numbers-alike (fin.remove rows s) has_onu (moved (num.contains o.pool.settled) (had has_onu (fin.get rows s)) (λ n. false)) (num.contains (num.remove o.pool.settled row.onu))
          gone (numbers-remove rows has_onu s (num.contains o.pool.settled) h.are_onus);
      are_allocs = numbers-alike (fin.remove rows s) has_alloc (moved (num.contains a.settled) (had has_alloc (fin.get rows s)) (λ n. false)) (num.contains a'.settled)
          (λ number. ends.are_settled number ∙ ap (λ (x : Option Row). num.contains a.settled number && not (had has_alloc x number)) (sym has))
          (numbers-remove rows has_alloc s (num.contains a.settled) h.are_allocs);
      counted =
          let less = len-remove_known rows s row has in
          let fewer = len-remove_member o.pool.settled row.onu (onu_settled s row has) in
          let same = h.counted in
          omega arith;
      first_onu = h.first_onu;
      last_onu = h.last_onu;
      few = h.few;
      first_alloc = ends.same_first ∙ h.first_alloc;
      last_alloc = subst (λ n. n ≤ 4095) (sym ends.same_last) h.last_alloc;
      warm = λ number is. let other = other_onu number is in get-quarantine_other o.quarantine row.onu number other.0 ∙ h.warm number other.1;
      frames_left = frames-quarantine o.quarantine row.onu h.frames_left;
    }

  -- ---- every row changes, and keeps its numbers

  pub together-mapped : (change : Row → Row) → ((row : Row) → let new : Row = change row in new.onu ≡ row.onu) → ((row : Row) → let new : Row = change row in new.allocs ≡ row.allocs) → AreTogether (map_values change rows) o a
  together-mapped change same_onu same_allocs = record {
    onus_leased = h.onus_leased;
    allocs_leased = h.allocs_leased;
    are_onus = numbers-mapped rows has_onu change (λ number row. ap (λ n. number == n) (same_onu row)) (num.contains o.pool.settled) h.are_onus;
    are_allocs = numbers-mapped rows has_alloc change (λ number row. ap (λ m. has_in m number) (same_allocs row)) (num.contains a.settled) h.are_allocs;
    counted = len-map_values serial_cmp change rows ∙ h.counted;
    first_onu = h.first_onu;
    last_onu = h.last_onu;
    few = h.few;
    first_alloc = h.first_alloc;
    last_alloc = h.last_alloc;
    warm = h.warm;
    frames_left = h.frames_left;
  }

  -- ---- a frame goes by

  pub together-tick : AreTogether rows (onus_after_frame o) a
  together-tick = record {
    onus_leased = h.onus_leased;
    allocs_leased = h.allocs_leased;
    are_onus = h.are_onus;
    are_allocs = h.are_allocs;
    counted = h.counted;
    first_onu = h.first_onu;
    last_onu = h.last_onu;
    few = h.few;
    first_alloc = h.first_alloc;
    last_alloc = h.last_alloc;
    warm = λ number is. get-after_frame o.quarantine.cooling number ∙ ap left_after_frame (h.warm number is);
    frames_left = frames-after_frame o.quarantine.cooling;
  }

  -- ---- free numbers

  none_leased : num.len o.pool.leased ≡ 0
  none_leased = len-no_members o.pool.leased h.onus_leased

  not_out : (l s : Bool) → l ≡ false → (l || s) ≡ true → s ≡ true
  not_out true s e is = absurd (false≢true (sym e))
  not_out false s e is = is

  module _ (table : Units) (u : ActiveState) (its : table.rows ≡ rows) (is : active_of table o a ≡ u) where
    rows_are : u.rows ≡ rows
    rows_are = ap (λ (v : ActiveState). v.rows) (sym is) ∙ its

    pub free_onu_is : (onu : ℕ) → IsFreeOnu o onu → HasRoom o.pool → IsFreeOnuId u onu
    free_onu_is onu free room =
        let low : onu ≤ o.pool.last = free.0.1 in
        let last = h.last_onu in
        let idle = none_leased in
        let same = h.counted in
        let most : o.pool.limit ≡ u.max_units = ap (λ (v : ActiveState). v.max_units) is in
        let size : fin.len u.rows ≡ fin.len rows = ap fin.len rows_are in
        let below : onu < onu_ids = omega arith in
        record {
          low = below;
          room = omega arith;
          unused = λ s row has same_onu. free.0.2 (
              ap (λ b. b || num.contains o.pool.settled onu) (h.onus_leased onu)
              ∙ ap (num.contains o.pool.settled) (sym same_onu) ∙ onu_settled s row (ap (λ (rs : Rows). fin.get rs s) (sym rows_are) ∙ has));
          warm = ap (λ (v : ActiveState). get_or v.cooling onu 0) (sym is) ∙ get-counts_of o.quarantine.cooling onu below ∙ ap left_or_zero free.1;
        }

    pub onu_is_free : (onu : ℕ) → IsFreeOnuId u onu → IsFreeOnu o onu × HasRoom o.pool
    onu_is_free onu free =
        let low = free.low in
        let first = h.first_onu in
        let last = h.last_onu in
        let idle = none_leased in
        let same = h.counted in
        let room = free.room in
        let most : o.pool.limit ≡ u.max_units = ap (λ (v : ActiveState). v.max_units) is in
        let size : fin.len u.rows ≡ fin.len rows = ap fin.len rows_are in (
          (
            (omega arith, omega arith, λ out. unsettled (not_out (num.contains o.pool.leased onu) (num.contains o.pool.settled onu) (h.onus_leased onu) out)),
            warm_count o.quarantine.cooling onu h.frames_left low (ap (λ (v : ActiveState). get_or v.cooling onu 0) is ∙ free.warm),
          ),
          omega arith,
        )
      where
        unsettled : num.contains o.pool.settled onu ≡ true → ⊥
        unsettled has =
            let it = h.are_onus.each_owned onu has in
            free.unused it.serial it.row (ap (λ (rs : Rows). fin.get rs it.serial) rows_are ∙ it.active) (sym (eqb-true onu it.row.onu it.owns))

    pub free_alloc_is : (alloc : ℕ) → IsFree a alloc → IsFreeAllocId u alloc
    free_alloc_is alloc free =
        let low : a.first ≤ alloc = free.0 in
        let high : alloc ≤ a.last = free.1 in
        let first = h.first_alloc in
        let last : a.last ≡ u.alloc_last = ap (λ (v : ActiveState). v.alloc_last) is in
        record {
          above = omega arith;
          below = omega arith;
          unused = λ s row has. elim (cases_Bool (has_alloc alloc row)) [
            | inl t ↦
                absurd (free.2 (ap (λ b. b || num.contains a.settled alloc) (h.allocs_leased alloc) ∙ allocs_settled s row (ap (λ (rs : Rows). fin.get rs s) (sym rows_are) ∙ has) alloc t))
            | inr f ↦ f
          ];
        }

    pub alloc_is_free : (alloc : ℕ) → IsFreeAllocId u alloc → IsFree a alloc
    alloc_is_free alloc free =
        let low = free.above in
        let high = free.below in
        let first = h.first_alloc in
        let last : a.last ≡ u.alloc_last = ap (λ (v : ActiveState). v.alloc_last) is in
        (omega arith, omega arith, λ out. unsettled (not_out (num.contains a.leased alloc) (num.contains a.settled alloc) (h.allocs_leased alloc) out))
      where
        unsettled : num.contains a.settled alloc ≡ true → ⊥
        unsettled has =
            let it = h.are_allocs.each_owned alloc has in
            false≢true (sym (free.unused it.serial it.row (ap (λ (rs : Rows). fin.get rs it.serial) rows_are ∙ it.active)) ∙ it.owns)

-- no units
pub together-none : (max_units alloc_last frames limit : ℕ) → max_units ≤ 254 → alloc_last ≤ 4095 → AreTogether fin.empty (fresh_onu_pool max_units frames) (fresh_pool 256 alloc_last limit)
together-none max_units alloc_last frames limit few low = record {
  onus_leased = num.contains-empty nat_cmp;
  allocs_leased = num.contains-empty nat_cmp;
  are_onus = numbers-none has_onu (num.contains num.empty) (num.contains-empty nat_cmp);
  are_allocs = numbers-none has_alloc (num.contains num.empty) (num.contains-empty nat_cmp);
  counted = fin.len-empty serial_cmp Row ∙ sym (num.len-empty nat_cmp);
  first_onu = refl;
  last_onu = refl;
  few = few;
  first_alloc = refl;
  last_alloc = low;
  warm = λ number is. fin.get-empty nat_cmp number;
  frames_left = λ number left e. absurd (no_frames left (sym (fin.get-empty nat_cmp number) ∙ e));
}
  where
    no_frames : (left : ℕ) → ◌≡◌ {A = Option ℕ} None (Some left) → ⊥
    no_frames left e = cc

-- what a table with its pools stands for, where the range of the Alloc-IDs is as it was
pub same_range : (table : Units) (o : OnuPool) (a now : Pool) → now.last ≡ a.last → active_of table o now ≡ active_of table o a
same_range table o a now e = ap (λ n. let u : ActiveState = record (active_of table o a) { alloc_last = n } in u) e

-- the parts of the state
pub table_rows : (table : Units) (o : OnuPool) (a : Pool) (u : ActiveState) → active_of table o a ≡ u → table.rows ≡ u.rows
table_rows table o a u e = ap (λ (v : ActiveState). v.rows) e

pub table_has : (table : Units) (o : OnuPool) (a : Pool) (u : ActiveState) → active_of table o a ≡ u → (s : Serial) (row : Row) → HasRow u.rows s row → HasRow table.rows s row
table_has table o a u e s row has = ap (λ (v : ActiveState). fin.get v.rows s) e ∙ has

-- a unit is removed
pub state_removed : (table : Units) (o : OnuPool) (a now : Pool) (s : Serial) (row : Row) → row.onu ≤ 253 → fin.get o.quarantine.cooling row.onu ≡ None → now.last ≡ a.last
    → active_of (record table { rows = fin.remove table.rows s }) (record { pool = record o.pool { settled = num.remove o.pool.settled row.onu }; quarantine = quarantine_with o.quarantine row.onu }) now
    ≡ without (active_of table o a) s (Some row)
state_removed table o a now s row low warm same =
    same_range (record table { rows = fin.remove table.rows s }) (record { pool = record o.pool { settled = num.remove o.pool.settled row.onu }; quarantine = quarantine_with o.quarantine row.onu }) a now same
    ∙ ap (λ xs. let u : ActiveState = record (active_of (record table { rows = fin.remove table.rows s }) o a) { cooling = xs } in u) (counts-quarantine o.quarantine row.onu (omega arith) warm)

-- what was found by its serial number
pub found_row : (r : Option Row) (s : Serial) (unit : Record) → Some unit ≡ option_map (record_of s) r → (r ≡ Some unit.row) × (unit.serial ≡ s)
found_row None s unit e = absurd (no_value unit (sym e))
found_row (Some row) s unit e =
    let is : unit ≡ record_of s row = same_value unit (record_of s row) e in
    (ap (λ (u : Record). Some u.row) (sym is), ap (λ (u : Record). u.serial) is)

pub no_row : (r : Option Row) (s : Serial) → None ≡ option_map (record_of s) r → r ≡ None
no_row None s e = refl
no_row (Some row) s e = absurd (no_value (record_of s row) e)

-- the record of a unit that was made of it
pub awake_record : (w : Awake) (unit : Record) (b : Bool) → w ≡ (if b then Ranging unit else Operating unit) → record_awake w ≡ unit
awake_record w unit true e = ap record_awake e
awake_record w unit false e = ap record_awake e

pub some_value : (o : Option ℕ) → IsSome o → (x : ℕ) × (o ≡ Some x)
some_value None is = absurd (false≢true is)
some_value (Some x) is = (x, refl)

-- of two kinds of numbers, where one is part of the other
pub none_of : (P Q : ℕ → Type 0) (r : Option ℕ) → ((n : ℕ) → P n → Q n) → IfNone r ((n : ℕ) → Q n → ⊥) → IfNone r ((n : ℕ) → P n → ⊥)
none_of P Q None part none = λ n p. none n (part n p)
none_of P Q (Some x) part none = tt

pub some_of : (P Q : ℕ → Type 0) (r : Option ℕ) → ((n : ℕ) → P n → Q n) → IfSome r P → IfSome r Q
some_of P Q None part some = tt
some_of P Q (Some x) part some = part x some

-- a released Alloc-ID is still the unit's
pub releasing_keeps : (row : Row) (alloc : ℕ) → has_alloc alloc row ≡ true → (number : ℕ) → has_alloc number (row_releasing row alloc) ≡ has_alloc number row
releasing_keeps row alloc has number = elim (cases_eq number alloc) [
  | inl same ↦
      ap is_some (fin.get-insert nat_cmp_total row.allocs alloc true number ∙ ap (λ b. cond b (Some true) (fin.get row.allocs number)) (unsigned_tied number alloc ∙ eq-eqb number alloc same))
      ∙ sym has ∙ ap (λ n. has_alloc n row) (sym same)
  | inr other ↦
      ap is_some (fin.get-insert nat_cmp_total row.allocs alloc true number ∙ ap (λ b. cond b (Some true) (fin.get row.allocs number)) (unsigned_tied number alloc ∙ ne_eqb number alloc other))
]
