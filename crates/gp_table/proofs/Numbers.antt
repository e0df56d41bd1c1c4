-- The numbers that units have, after a row is put in, replaced or taken out.
use Rattle.std.proofs.Common.{◌≡◌, ℕ, Bool, true, false, not, ◌||◌, ◌&&◌, Option, None, Some, ◌⊎◌, inl, inr, refl, sym, ap, ◌∙◌}
use Rattle.std.proofs.lemmas.Bool.{cases_Bool, false≢true}
use Rattle.std.specs.Option.{option_map}
use Rattle.std.specs.FinMap as map
use Rattle.gp_ploam.specs.declared.message.Serial.{Serial}
use Rattle.gp_ploam.specs.Serials.{serial_cmp, same_serial}
use Rattle.gp_ploam.proofs.Serials.{same_serial-true, same_serial-itself}
use Rattle.gp_unit.specs.declared.row.Row.{Row}
use Rattle.gp_table.specs.Values.{map_values}
use Rattle.gp_table.specs.Rows.{Rows, HasRow}
use Rattle.gp_table.specs.Active.{AreNumbersOf, IsNumberOf}
use Rattle.gp_table.proofs.Gets.{get-insert_same, get-insert_other, get-remove_same, get-remove_other, same_value, no_value}
use Rattle.gp_table.proofs.Values.{get-map_values}

-- a unit that may be active has the number
abbrev pub had : (ℕ → Row → Bool) → Option Row → ℕ → Bool
had has None number = false
had has (Some row) number = has number row

-- the numbers that are settled once a unit with these numbers has those
abbrev pub moved : (ℕ → Bool) → (ℕ → Bool) → (ℕ → Bool) → ℕ → Bool
moved settled old new number = new number || (settled number && not (old number))

or_left : (a b : Bool) → a ≡ true → (a || b) ≡ true
or_left a b e = ap (λ x. x || b) e

kept : (a b c : Bool) → b ≡ true → c ≡ false → (a || (b && not c)) ≡ true
kept true b c e f = refl
kept false b c e f = ap (λ x. x && not c) e ∙ ap not f

-- what is settled then is new, or was and is no more the unit's
of_moved : (a b c : Bool) → (a || (b && not c)) ≡ true → (a ≡ true) ⊎ ((b ≡ true) × (c ≡ false))
of_moved true b c e = inl refl
of_moved false true true e = absurd (false≢true e)
of_moved false true false e = inr (refl, refl)
of_moved false false c e = absurd (false≢true e)

another : (s t : Serial) → same_serial t s ≡ false → t ≡ s → ⊥
another s t f e = false≢true (sym f ∙ ap (λ (x : Serial). same_serial x s) e ∙ same_serial-itself s)

module _ (rows : Rows) (has : ℕ → Row → Bool) (s : Serial) where
  -- a unit that has the number is another one, where this one hasn't
  other_unit : (number : ℕ) (it : IsNumberOf rows has number) → had has (map.get rows s) number ≡ false → same_serial it.serial s ≡ false
  other_unit number it out = elim (cases_Bool (same_serial it.serial s)) [
    | inl t ↦
        let at : map.get rows s ≡ Some it.row = ap (map.get rows) (sym (same_serial-true it.serial s t)) ∙ it.active in
        absurd (false≢true (sym out ∙ ap (λ (o : Option Row). had has o number) at ∙ it.owns))
    | inr f ↦ f
  ]

  -- this unit's number
  own_number : (number : ℕ) → had has (map.get rows s) number ≡ true → (it : IsNumberOf rows has number) × (it.serial ≡ s)
  own_number number has_it = by_row (map.get rows s) refl has_it
    where
      by_row : (o : Option Row) → map.get rows s ≡ o → had has o number ≡ true → (it : IsNumberOf rows has number) × (it.serial ≡ s)
      by_row None e h = absurd (false≢true h)
      by_row (Some row) e h = (record { serial = s; row = row; active = e; owns = h }, refl)

  module _ (new : Row) (settled : ℕ → Bool) (h : AreNumbersOf rows has settled)
      (fresh : (number : ℕ) → has number new ≡ true → settled number ≡ true → had has (map.get rows s) number ≡ true)
    where
      -- whoever has a number now is this unit, or had it
      was : (number : ℕ) (it : IsNumberOf (map.insert rows s new) has number) → ((it.serial ≡ s) × (has number new ≡ true)) ⊎ ((same_serial it.serial s ≡ false) × HasRow rows it.serial it.row)
      was number it = elim (cases_Bool (same_serial it.serial s)) [
        | inl t ↦
            let is : it.serial ≡ s = same_serial-true it.serial s t in
            let row : new ≡ it.row = same_value new it.row (sym (get-insert_same rows s new) ∙ ap (map.get (map.insert rows s new)) (sym is) ∙ it.active) in
            inl (is, ap (has number) row ∙ it.owns)
        | inr f ↦ inr (f, sym (get-insert_other rows s new it.serial f) ∙ it.active)
      ]

      settled_then : (number : ℕ) (it : IsNumberOf (map.insert rows s new) has number) → moved settled (had has (map.get rows s)) (λ n. has n new) number ≡ true
      settled_then number it = elim (was number it) [
        | inl w ↦ or_left (has number new) (settled number && not (had has (map.get rows s) number)) w.1
        | inr w ↦
            let old : IsNumberOf rows has number = record { serial = it.serial; row = it.row; active = w.1; owns = it.owns } in
            kept (has number new) (settled number) (had has (map.get rows s) number) (h.each_settled number old) (elim (cases_Bool (had has (map.get rows s) number)) [
              | inl t ↦ let own = own_number number t in absurd (another s it.serial w.0 (h.alone number old own.0 ∙ own.1))
              | inr f ↦ f
            ])
      ]

      owned_then : (number : ℕ) → moved settled (had has (map.get rows s)) (λ n. has n new) number ≡ true → IsNumberOf (map.insert rows s new) has number
      owned_then number is = elim (of_moved (has number new) (settled number) (had has (map.get rows s) number) is) [
        | inl own ↦ record { serial = s; row = new; active = get-insert_same rows s new; owns = own }
        | inr both ↦
            let it = h.each_owned number both.0 in
            record { serial = it.serial; row = it.row; active = get-insert_other rows s new it.serial (other_unit number it both.1) ∙ it.active; owns = it.owns }
      ]

      -- a number of this unit that another had is none
      nobody_else : (number : ℕ) (it : IsNumberOf rows has number) → same_serial it.serial s ≡ false → has number new ≡ true → ⊥
      nobody_else number it f own =
          let mine = own_number number (fresh number own (h.each_settled number it)) in
          another s it.serial f (h.alone number it mine.0 ∙ mine.1)

      alone_then : (number : ℕ) (one other : IsNumberOf (map.insert rows s new) has number) → one.serial ≡ other.serial
      alone_then number one other = elim (was number one) [
        | inl a ↦ elim (was number other) [
          | inl b ↦ a.0 ∙ sym b.0
          | inr b ↦ absurd (nobody_else number (record { serial = other.serial; row = other.row; active = b.1; owns = other.owns }) b.0 a.1)
        ]
        | inr a ↦ elim (was number other) [
          | inl b ↦ absurd (nobody_else number (record { serial = one.serial; row = one.row; active = a.1; owns = one.owns }) a.0 b.1)
          | inr b ↦
              h.alone number (record { serial = one.serial; row = one.row; active = a.1; owns = one.owns })
              (record { serial = other.serial; row = other.row; active = b.1; owns = other.owns })
        ]
      ]

      pub numbers-put : AreNumbersOf (map.insert rows s new) has (moved settled (had has (map.get rows s)) (λ n. has n new))
      numbers-put = record { each_settled = settled_then; each_owned = owned_then; alone = alone_then }

  module _ (settled : ℕ → Bool) (h : AreNumbersOf rows has settled) where
    left : (number : ℕ) (it : IsNumberOf (map.remove rows s) has number) → (same_serial it.serial s ≡ false) × HasRow rows it.serial it.row
    left number it = elim (cases_Bool (same_serial it.serial s)) [
      | inl t ↦ absurd (no_value it.row (sym (get-remove_same rows s) ∙ ap (map.get (map.remove rows s)) (sym (same_serial-true it.serial s t)) ∙ it.active))
      | inr f ↦ (f, sym (get-remove_other rows s it.serial f) ∙ it.active)
    ]

    abbrev before : (number : ℕ) (it : IsNumberOf (map.remove rows s) has number) → IsNumberOf rows has number
    before number it = record { serial = it.serial; row = it.row; active = (left number it).1; owns = it.owns }

    pub numbers-remove : AreNumbersOf (map.remove rows s) has (moved settled (had has (map.get rows s)) (λ n. false))
    numbers-remove = record {
      each_settled = λ number it. kept false (settled number) (had has (map.get rows s) number) (h.each_settled number (before number it)) (elim (cases_Bool (had has (map.get rows s) number)) [
        | inl t ↦ let own = own_number number t in absurd (another s it.serial (left number it).0 (h.alone number (before number it) own.0 ∙ own.1))
        | inr f ↦ f
      ]);
      each_owned = λ number is. elim (of_moved false (settled number) (had has (map.get rows s) number) is) [
        | inl own ↦ absurd (false≢true own)
        | inr both ↦
            let it = h.each_owned number both.0 in
            record { serial = it.serial; row = it.row; active = get-remove_other rows s it.serial (other_unit number it both.1) ∙ it.active; owns = it.owns }
      ];
      alone = λ number one other. h.alone number (before number one) (before number other);
    }

-- the same numbers settled
pub numbers-alike : (rows : Rows) (has : ℕ → Row → Bool) (a b : ℕ → Bool) → ((number : ℕ) → b number ≡ a number) → AreNumbersOf rows has a → AreNumbersOf rows has b
numbers-alike rows has a b same h = record {
  each_settled = λ number it. same number ∙ h.each_settled number it;
  each_owned = λ number is. h.each_owned number (sym (same number) ∙ is);
  alone = h.alone;
}

-- a row that keeps the unit's numbers
stays : (a b : Bool) → (b ≡ true → a ≡ true) → a ≡ (b || (a && not b))
stays true true h = refl
stays true false h = refl
stays false true h = absurd (false≢true (h refl))
stays false false h = refl

pub numbers-keep : (rows : Rows) (has : ℕ → Row → Bool) (s : Serial) (old new : Row) (settled : ℕ → Bool) → HasRow rows s old → ((number : ℕ) → has number new ≡ has number old) → AreNumbersOf rows has settled
    → AreNumbersOf (map.insert rows s new) has settled
numbers-keep rows has s old new settled at same h =
    let was : (number : ℕ) → had has (map.get rows s) number ≡ has number new = λ number. ap (λ (o : Option Row). had has o number) at ∙ sym (same number) in
    numbers-alike (map.insert rows s new) has (moved settled (had has (map.get rows s)) (λ n. has n new)) settled
    (λ number.
    stays (settled number) (has number new) (λ own. h.each_settled number (record { serial = s; row = old; active = at; owns = sym (same number) ∙ own }))
    ∙ ap (λ b. has number new || (settled number && not b)) (sym (was number)))
    (numbers-put rows has s new settled h (λ number own is. was number ∙ own))

-- each row keeps its numbers
module _ (rows : Rows) (has : ℕ → Row → Bool) (change : Row → Row) (same : (number : ℕ) (row : Row) → has number (change row) ≡ has number row) (settled : ℕ → Bool) (h : AreNumbersOf rows has settled) where
  unmapped : (number : ℕ) (it : IsNumberOf (map_values change rows) has number) → (old : IsNumberOf rows has number) × (old.serial ≡ it.serial)
  unmapped number it = by_row (map.get rows it.serial) refl
    where
      by_row : (o : Option Row) → map.get rows it.serial ≡ o → (old : IsNumberOf rows has number) × (old.serial ≡ it.serial)
      by_row None e = absurd (no_value it.row (sym (get-map_values serial_cmp change rows it.serial ∙ ap (option_map change) e) ∙ it.active))
      by_row (Some row) e =
          let is : change row ≡ it.row = same_value (change row) it.row (sym (get-map_values serial_cmp change rows it.serial ∙ ap (option_map change) e) ∙ it.active) in
          (record { serial = it.serial; row = row; active = e; owns = sym (same number row) ∙ ap (has number) is ∙ it.owns }, refl)

  pub numbers-mapped : AreNumbersOf (map_values change rows) has settled
  numbers-mapped = record {
    each_settled = λ number it. h.each_settled number (unmapped number it).0;
    each_owned = λ number is.
        let it = h.each_owned number is in
        record { serial = it.serial; row = change it.row; active = get-map_values serial_cmp change rows it.serial ∙ ap (option_map change) it.active; owns = same number it.row ∙ it.owns };
    alone = λ number one other.
        let a = unmapped number one in
        let b = unmapped number other in
        sym a.1 ∙ h.alone number a.0 b.0 ∙ b.1;
  }

-- no units, and nothing settled
pub numbers-none : (has : ℕ → Row → Bool) (settled : ℕ → Bool) → ((number : ℕ) → settled number ≡ false) → AreNumbersOf map.empty has settled
numbers-none has settled none = record {
  each_settled = λ number it. absurd (no_value it.row (sym (map.get-empty serial_cmp it.serial) ∙ it.active));
  each_owned = λ number is. absurd (false≢true (sym (none number) ∙ is));
  alone = λ number one other. absurd (no_value one.row (sym (map.get-empty serial_cmp one.serial) ∙ one.active));
}
