-- The indexes of the unit table, and its rows, after a record is put in, replaced or taken out.
use Rattle.std.proofs.Common.{◌≡◌, ◌≢◌, ℕ, ◌≤◌, true, false, List, length, Option, None, Some, ◌⊎◌, inl, inr, refl, sym, ap, subst, ◌∙◌, arith}
use Rattle.std.proofs.Math.ListN.{set, length-set}
use Rattle.std.proofs.lemmas.Bool.{cases_Bool, cases_eq, false≢true}
use Rattle.std.proofs.lemmas.List.{get_or-set_same, get_or-set_other}
use Rattle.std.specs.Option.{option_map}
use Rattle.std.specs.FinMap as map
use Rattle.gp_ploam.specs.declared.message.Serial.{Serial}
use Rattle.gp_ploam.specs.Serials.{serial_cmp, same_serial}
use Rattle.gp_ploam.proofs.Serials.{serials_total, serials_exact, same_serial-true, same_serial-itself}
use Rattle.gp_unit.specs.declared.record.Record.{Record}
use Rattle.gp_unit.specs.declared.row.Row.{Row}
use Rattle.gp_unit.specs.Records.{row_of}
use Rattle.gp_table.specs.Rows.{Rows, HasRow, HasOnuId}
use Rattle.gp_table.specs.Table.{Slots, slot_at, row_in, rows_of, key_of_onu, IsThere, IsHolder}
use Rattle.gp_table.proofs.Gets.{get-insert_same, get-insert_other, get-remove_same, get-remove_other, same_value, no_value}
use Rattle.gp_table.proofs.Values.{get-map_values}
use Rattle.gp_table.proofs.Marks.{IsAlone}

abbrev pub Serials : Type 0
Serials = map.FinMap serial_cmp ℕ

abbrev pub Onus : Type 0
Onus = List (Option ℕ)

-- both indexes name the same records
pub record IsIndexed (slots : Slots) (serials : Serials) (onus : Onus) : Type 0 where
  pub places : length onus ≡ 254
  pub there : (serial : Serial) (key : ℕ) → map.get serials serial ≡ Some key → IsThere slots onus serial key
  pub holder : (onu key : ℕ) → key_of_onu onus onu ≡ Some key → IsHolder slots serials onu key

-- ---- rows

pub get_rows : (slots : Slots) (serials : Serials) (s : Serial) → map.get (rows_of slots serials) s ≡ option_map (λ key. row_in (slot_at slots key)) (map.get serials s)
get_rows slots serials s = get-map_values serial_cmp (λ key. row_in (slot_at slots key)) serials s

pub row_there : (slots : Slots) (serials : Serials) (s : Serial) (key : ℕ) (unit : Record) → map.get serials s ≡ Some key → slot_at slots key ≡ Some unit → HasRow (rows_of slots serials) s (row_of unit)
row_there slots serials s key unit indexed slot = get_rows slots serials s ∙ ap (option_map (λ k. row_in (slot_at slots k))) indexed ∙ ap (λ (o : Option Record). Some (row_in o)) slot

pub no_row_there : (slots : Slots) (serials : Serials) (s : Serial) → map.get serials s ≡ None → map.get (rows_of slots serials) s ≡ None
no_row_there slots serials s none = get_rows slots serials s ∙ ap (option_map (λ k. row_in (slot_at slots k))) none

-- the record of a row
pub record IsKnown (slots : Slots) (serials : Serials) (onus : Onus) (s : Serial) (row : Row) : Type 0 where
  pub key : ℕ
  pub indexed : map.get serials s ≡ Some key
  pub there : IsThere slots onus s key
  pub is_row : row_of there.unit ≡ row

pub known : (slots : Slots) (serials : Serials) (onus : Onus) (s : Serial) (row : Row) → IsIndexed slots serials onus → HasRow (rows_of slots serials) s row → IsKnown slots serials onus s row
known slots serials onus s row h has = by_key (map.get serials s) refl
  where
    by_key : (o : Option ℕ) → map.get serials s ≡ o → IsKnown slots serials onus s row
    by_key None e = absurd (no_value row (sym (no_row_there slots serials s e) ∙ has))
    by_key (Some key) e =
        let at = h.there s key e in
        record { key = key; indexed = e; there = at; is_row = same_value (row_of at.unit) row (sym (row_there slots serials s key at.unit e at.slot) ∙ has) }

pub unknown : (slots : Slots) (serials : Serials) (s : Serial) → map.get (rows_of slots serials) s ≡ None → map.get serials s ≡ None
unknown slots serials s none = by_key (map.get serials s) refl
  where
    by_key : (o : Option ℕ) → map.get serials s ≡ o → map.get serials s ≡ None
    by_key None e = e
    by_key (Some key) e = absurd (no_value (row_in (slot_at slots key)) (sym none ∙ get_rows slots serials s ∙ ap (option_map (λ k. row_in (slot_at slots k))) e))

-- no two units have one ONU-ID
pub unique : (slots : Slots) (serials : Serials) (onus : Onus) (s t : Serial) (row other : Row) → IsIndexed slots serials onus
    → HasRow (rows_of slots serials) s row → HasRow (rows_of slots serials) t other → row.onu ≡ other.onu → s ≡ t
unique slots serials onus s t row other h has has' same =
    let a = known slots serials onus s row h has in
    let b = known slots serials onus t other h has' in
    let onu : a.there.unit.row.onu ≡ b.there.unit.row.onu = ap (λ (r : Row). r.onu) a.is_row ∙ same ∙ sym (ap (λ (r : Row). r.onu) b.is_row) in
    let key : a.key ≡ b.key = same_value a.key b.key (sym a.there.indexed ∙ ap (key_of_onu onus) onu ∙ b.there.indexed) in
    let unit : a.there.unit ≡ b.there.unit = same_value a.there.unit b.there.unit (sym a.there.slot ∙ ap (slot_at slots) key ∙ b.there.slot) in
    sym a.there.is_serial ∙ ap (λ (u : Record). u.serial) unit ∙ b.there.is_serial

pub alone_known : (slots : Slots) (serials : Serials) (onus : Onus) (s : Serial) (row : Row) → IsIndexed slots serials onus → HasRow (rows_of slots serials) s row → IsAlone (rows_of slots serials) s row.onu
alone_known slots serials onus s row h has = record {
  others = λ t other has' same. unique slots serials onus t s other row h has' has same;
  itself = λ other has'. ap (λ (r : Row). r.onu) (same_value other row (sym has' ∙ has));
}

pub alone_new : (rows : Rows) (s : Serial) (onu : ℕ) → map.get rows s ≡ None → ((t : Serial) → HasOnuId rows t onu → ⊥) → IsAlone rows s onu
alone_new rows s onu none unused = record {
  others = λ t row has same. absurd (unused t (row, has, same));
  itself = λ row has. absurd (no_value row (sym none ∙ has));
}

-- one slot holds something else
pub record IsWritten (old new : Slots) (key : ℕ) (slot : Option Record) : Type 0 where
  pub here : slot_at new key ≡ slot
  pub elsewhere : (other : ℕ) → other ≢ key → slot_at new other ≡ slot_at old other

-- ---- a record is put in

module _ (old new : Slots) (serials : Serials) (onus : Onus) (key : ℕ) (unit : Record)
    (h : IsIndexed old serials onus) (was : slot_at old key ≡ None) (written : IsWritten old new key (Some unit))
    (is_new : map.get serials unit.serial ≡ None)
  where
    -- a slot that was filled is another one, and stays
    stays : (k : ℕ) (other : Record) → slot_at old k ≡ Some other → slot_at new k ≡ Some other
    stays k other slot = written.elsewhere k (λ same. no_value other (sym was ∙ ap (slot_at old) (sym same) ∙ slot)) ∙ slot

    pub rows-insert : rows_of new (map.insert serials unit.serial key) ≡ map.insert (rows_of old serials) unit.serial (row_of unit)
    rows-insert = map.same_map serials_total serials_exact _ _ (λ q. by_test q (cases_Bool (same_serial q unit.serial)))
      where
        by_key : (q : Serial) (o : Option ℕ) → map.get serials q ≡ o → option_map (λ k. row_in (slot_at new k)) o ≡ option_map (λ k. row_in (slot_at old k)) o
        by_key q None e = refl
        by_key q (Some k) e = let at = h.there q k e in ap (λ (x : Option Record). Some (row_in x)) (stays k at.unit at.slot ∙ sym at.slot)

        by_test : (q : Serial) → (same_serial q unit.serial ≡ true) ⊎ (same_serial q unit.serial ≡ false)
            → map.get (rows_of new (map.insert serials unit.serial key)) q ≡ map.get (map.insert (rows_of old serials) unit.serial (row_of unit)) q
        by_test q (inl t) =
            subst (λ (x : Serial). map.get (rows_of new (map.insert serials unit.serial key)) x ≡ map.get (map.insert (rows_of old serials) unit.serial (row_of unit)) x)
            (sym (same_serial-true q unit.serial t))
            (row_there new (map.insert serials unit.serial key) unit.serial key unit (get-insert_same serials unit.serial key) written.here
            ∙ sym (get-insert_same (rows_of old serials) unit.serial (row_of unit)))
        by_test q (inr f) =
            get_rows new (map.insert serials unit.serial key) q
            ∙ ap (option_map (λ k. row_in (slot_at new k))) (get-insert_other serials unit.serial key q f)
            ∙ by_key q (map.get serials q) refl
            ∙ sym (get_rows old serials q)
            ∙ sym (get-insert_other (rows_of old serials) unit.serial (row_of unit) q f)

    pub indexed-insert : unit.row.onu ≤ 253 → ((s : Serial) → HasOnuId (rows_of old serials) s unit.row.onu → ⊥) → IsIndexed new (map.insert serials unit.serial key) (set onus unit.row.onu (Some key))
    indexed-insert low unused = record {
      places = length-set onus unit.row.onu (Some key) ∙ h.places;
      there = λ s k e. elim (cases_Bool (same_serial s unit.serial)) [
        | inl t ↦
            let is : s ≡ unit.serial = same_serial-true s unit.serial t in
            let at : key ≡ k = same_value key k (sym (get-insert_same serials unit.serial key) ∙ ap (map.get (map.insert serials unit.serial key)) (sym is) ∙ e) in
            record {
              unit = unit;
              slot = ap (slot_at new) (sym at) ∙ written.here;
              is_serial = sym is;
              low = low;
              indexed = get_or-set_same onus unit.row.onu (Some key) None (omega (arith, h.places)) ∙ ap Some at;
            }
        | inr f ↦
            let had = sym (get-insert_other serials unit.serial key s f) ∙ e in
            let at = h.there s k had in
            record {
              unit = at.unit;
              slot = stays k at.unit at.slot;
              is_serial = at.is_serial;
              low = at.low;
              indexed = get_or-set_other onus unit.row.onu at.unit.row.onu (Some key) None (λ same. unused s (row_of at.unit, row_there old serials s k at.unit had at.slot, same)) ∙ at.indexed;
            }
      ];
      holder = λ onu k e. elim (cases_eq onu unit.row.onu) [
        | inl same ↦
            let at : key ≡ k = same_value key k (sym (get_or-set_same onus unit.row.onu (Some key) None (omega (arith, h.places))) ∙ ap (key_of_onu (set onus unit.row.onu (Some key))) (sym same) ∙ e) in
            record {
              unit = unit;
              slot = ap (slot_at new) (sym at) ∙ written.here;
              is_onu = sym same;
              indexed = get-insert_same serials unit.serial key ∙ ap Some at;
            }
        | inr other ↦
            let at = h.holder onu k (sym (get_or-set_other onus unit.row.onu onu (Some key) None other) ∙ e) in
            let differs : same_serial at.unit.serial unit.serial ≡ false = elim (cases_Bool (same_serial at.unit.serial unit.serial)) [
              | inl t ↦ absurd (no_value k (sym is_new ∙ ap (map.get serials) (sym (same_serial-true at.unit.serial unit.serial t)) ∙ at.indexed))
              | inr f ↦ f
            ] in
            record {
              unit = at.unit;
              slot = stays k at.unit at.slot;
              is_onu = at.is_onu;
              indexed = get-insert_other serials unit.serial key at.unit.serial differs ∙ at.indexed;
            }
      ];
    }

-- ---- a record is replaced by another of the same unit

module _ (old new : Slots) (serials : Serials) (onus : Onus) (key : ℕ) (unit : Record)
    (h : IsIndexed old serials onus) (indexed : map.get serials unit.serial ≡ Some key) (written : IsWritten old new key (Some unit))
  where
    before : IsThere old onus unit.serial key
    before = h.there unit.serial key indexed

    named : (s : Serial) → map.get serials s ≡ Some key → s ≡ unit.serial
    named s e =
        let at = h.there s key e in
        sym at.is_serial ∙ ap (λ (u : Record). u.serial) (same_value at.unit (h.there unit.serial key indexed).unit (sym at.slot ∙ (h.there unit.serial key indexed).slot)) ∙ (h.there unit.serial key indexed).is_serial

    pub rows-replace : rows_of new serials ≡ map.insert (rows_of old serials) unit.serial (row_of unit)
    rows-replace = map.same_map serials_total serials_exact _ _ (λ q. by_test q (cases_Bool (same_serial q unit.serial)))
      where
        by_key : (q : Serial) (o : Option ℕ) → same_serial q unit.serial ≡ false → map.get serials q ≡ o → option_map (λ k. row_in (slot_at new k)) o ≡ option_map (λ k. row_in (slot_at old k)) o
        by_key q None f e = refl
        by_key q (Some k) f e =
            ap (λ (x : Option Record). Some (row_in x))
            (written.elsewhere k (λ same. false≢true (sym f ∙ ap (λ (x : Serial). same_serial x unit.serial) (named q (e ∙ ap Some same)) ∙ same_serial-itself unit.serial)))

        by_test : (q : Serial) → (same_serial q unit.serial ≡ true) ⊎ (same_serial q unit.serial ≡ false) → map.get (rows_of new serials) q ≡ map.get (map.insert (rows_of old serials) unit.serial (row_of unit)) q
        by_test q (inl t) =
            subst (λ (x : Serial). map.get (rows_of new serials) x ≡ map.get (map.insert (rows_of old serials) unit.serial (row_of unit)) x)
            (sym (same_serial-true q unit.serial t))
            (row_there new serials unit.serial key unit indexed written.here ∙ sym (get-insert_same (rows_of old serials) unit.serial (row_of unit)))
        by_test q (inr f) =
            get_rows new serials q ∙ by_key q (map.get serials q) f refl ∙ sym (get_rows old serials q)
            ∙ sym (get-insert_other (rows_of old serials) unit.serial (row_of unit) q f)

    pub indexed-replace : (h.there unit.serial key indexed).unit.row.onu ≡ unit.row.onu → IsIndexed new serials onus
    indexed-replace same_onu = record {
      places = h.places;
      there = λ s k e. elim (cases_eq k key) [
        | inl same ↦
            let at = h.there unit.serial key indexed in
            record {
              unit = unit;
              slot = ap (slot_at new) same ∙ written.here;
              is_serial = sym (named s (e ∙ ap Some same));
              low = let l = at.low in omega arith;
              indexed = ap (key_of_onu onus) (sym same_onu) ∙ at.indexed ∙ ap Some (sym same);
            }
        | inr other ↦
            let at = h.there s k e in
            record { unit = at.unit; slot = written.elsewhere k other ∙ at.slot; is_serial = at.is_serial; low = at.low; indexed = at.indexed }
      ];
      holder = λ onu k e. elim (cases_eq k key) [
        | inl same ↦
            let at = h.holder onu k e in
            let was = h.there unit.serial key indexed in
            let is : at.unit ≡ was.unit = same_value at.unit was.unit (sym at.slot ∙ ap (slot_at old) same ∙ was.slot) in
            record {
              unit = unit;
              slot = ap (slot_at new) same ∙ written.here;
              is_onu = sym same_onu ∙ ap (λ (u : Record). u.row.onu) (sym is) ∙ at.is_onu;
              indexed = indexed ∙ ap Some (sym same);
            }
        | inr other ↦
            let at = h.holder onu k e in
            record { unit = at.unit; slot = written.elsewhere k other ∙ at.slot; is_onu = at.is_onu; indexed = at.indexed }
      ];
    }

-- ---- a record is taken out

module _ (old new : Slots) (serials : Serials) (onus : Onus) (key : ℕ) (s : Serial) (unit : Record)
    (h : IsIndexed old serials onus) (indexed : map.get serials s ≡ Some key) (slot : slot_at old key ≡ Some unit) (written : IsWritten old new key None)
  where
    is_unit : (h.there s key indexed).unit ≡ unit
    is_unit = same_value (h.there s key indexed).unit unit (sym (h.there s key indexed).slot ∙ slot)

    is_serial : unit.serial ≡ s
    is_serial = ap (λ (u : Record). u.serial) (sym is_unit) ∙ (h.there s key indexed).is_serial

    onu_indexed : key_of_onu onus unit.row.onu ≡ Some key
    onu_indexed = ap (λ (u : Record). key_of_onu onus u.row.onu) (sym is_unit) ∙ (h.there s key indexed).indexed

    another_key : (t : Serial) (k : ℕ) → map.get serials t ≡ Some k → same_serial t s ≡ false → k ≢ key
    another_key t k e f same =
        let at = h.there t k e in
        let is : at.unit ≡ unit = same_value at.unit unit (sym at.slot ∙ ap (slot_at old) same ∙ slot) in
        false≢true (sym f ∙ ap (λ (x : Serial). same_serial x s) (sym at.is_serial ∙ ap (λ (u : Record). u.serial) is ∙ is_serial) ∙ same_serial-itself s)

    pub rows-remove : rows_of new (map.remove serials s) ≡ map.remove (rows_of old serials) s
    rows-remove = map.same_map serials_total serials_exact _ _ (λ q. by_test q (cases_Bool (same_serial q s)))
      where
        by_key : (q : Serial) (o : Option ℕ) → same_serial q s ≡ false → map.get serials q ≡ o → option_map (λ k. row_in (slot_at new k)) o ≡ option_map (λ k. row_in (slot_at old k)) o
        by_key q None f e = refl
        by_key q (Some k) f e = ap (λ (x : Option Record). Some (row_in x)) (written.elsewhere k (another_key q k e f))

        by_test : (q : Serial) → (same_serial q s ≡ true) ⊎ (same_serial q s ≡ false) → map.get (rows_of new (map.remove serials s)) q ≡ map.get (map.remove (rows_of old serials) s) q
        by_test q (inl t) =
            subst (λ (x : Serial). map.get (rows_of new (map.remove serials s)) x ≡ map.get (map.remove (rows_of old serials) s) x)
            (sym (same_serial-true q s t))
            (no_row_there new (map.remove serials s) s (get-remove_same serials s) ∙ sym (get-remove_same (rows_of old serials) s))
        by_test q (inr f) =
            get_rows new (map.remove serials s) q
            ∙ ap (option_map (λ k. row_in (slot_at new k))) (get-remove_other serials s q f)
            ∙ by_key q (map.get serials q) f refl
            ∙ sym (get_rows old serials q)
            ∙ sym (get-remove_other (rows_of old serials) s q f)

    pub indexed-remove : unit.row.onu ≤ 253 → IsIndexed new (map.remove serials s) (set onus unit.row.onu None)
    indexed-remove low = record {
      places = length-set onus unit.row.onu None ∙ h.places;
      there = λ t k e. elim (cases_Bool (same_serial t s)) [
        | inl same ↦ absurd (no_value k (sym (get-remove_same serials s) ∙ ap (map.get (map.remove serials s)) (sym (same_serial-true t s same)) ∙ e))
        | inr f ↦
            let had : map.get serials t ≡ Some k = sym (get-remove_other serials s t f) ∙ e in
            let at = h.there t k had in
            let other = another_key t k had f in
            record {
              unit = at.unit;
              slot = written.elsewhere k other ∙ at.slot;
              is_serial = at.is_serial;
              low = at.low;
              indexed = get_or-set_other onus unit.row.onu at.unit.row.onu None None (λ same. other (same_value k key (sym at.indexed ∙ ap (key_of_onu onus) same ∙ onu_indexed))) ∙ at.indexed;
            }
      ];
      holder = λ onu k e. elim (cases_eq onu unit.row.onu) [
        | inl same ↦ absurd (no_value k (sym (get_or-set_same onus unit.row.onu None None (omega (arith, h.places))) ∙ ap (key_of_onu (set onus unit.row.onu None)) (sym same) ∙ e))
        | inr other ↦
            let at = h.holder onu k (sym (get_or-set_other onus unit.row.onu onu None None other) ∙ e) in
            let elsewhere : k ≢ key = λ same. other (sym at.is_onu ∙ ap (λ (u : Record). u.row.onu) (same_value at.unit unit (sym at.slot ∙ ap (slot_at old) same ∙ slot))) in
            let differs : same_serial at.unit.serial s ≡ false = elim (cases_Bool (same_serial at.unit.serial s)) [
              | inl t ↦ absurd (elsewhere (same_value k key (sym at.indexed ∙ ap (map.get serials) (same_serial-true at.unit.serial s t) ∙ indexed)))
              | inr f ↦ f
            ] in
            record {
              unit = at.unit;
              slot = written.elsewhere k elsewhere ∙ at.slot;
              is_onu = at.is_onu;
              indexed = get-remove_other serials s at.unit.serial differs ∙ at.indexed;
            }
      ];
    }
