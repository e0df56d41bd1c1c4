-- Maps that list what is true of the units, after a row was put, taken out or changed.
use Rattle.std.proofs.Common.{◌≡◌, ℕ, Bool, true, false, cond, not, Option, None, Some, ◌⊎◌, inl, inr, refl, sym, ap, subst, ◌∙◌, ◌↔◌, eq-eqb}
use Rattle.std.specs.Ordering.{nat_cmp}
use Rattle.std.specs.Cmp.{nat_cmp_total, unsigned_tied}
use Rattle.std.specs.FinMap.{FinMap, get, insert, remove, retain_keys, get-insert, get-remove, get-retain_keys, nat_cmp-IsAntisymmetric}
use Rattle.std.proofs.lemmas.Bool.{cases_Bool, cases_eq, false≢true, ne_eqb}
use Rattle.gp_ploam.specs.declared.message.Serial.{Serial}
use Rattle.gp_ploam.specs.Serials.{same_serial}
use Rattle.gp_ploam.proofs.Serials.{same_serial-true, same_serial-itself}
use Rattle.gp_unit.specs.declared.row.Row.{Row}
use Rattle.gp_machine.specs.State.{Rows, HasRow, rows_mapped}
use Rattle.gp_machine.proofs.Units.{one_row, has_put, has_it, has_others, has_left, stays, has_mapped, has_changed}
use Rattle.gp_observer.specs.Knows.{SomeUnit, Lists}

-- ---- maps from numbers

module _ {X : Type 0} where
  pub not_none : (x : X) → ◌≡◌ {A = Option X} None (Some x) → ⊥
  not_none x h = cc

  pub one_value : (x y : X) → Some x ≡ Some y → x ≡ y
  one_value x y h = cc

  module _ (m : FinMap nat_cmp X) (k : ℕ) where
    pub put_same : (x : X) → get (insert m k x) k ≡ Some x
    put_same x = get-insert nat_cmp_total m k x k ∙ ap (λ b. cond b (Some x) (get m k)) (unsigned_tied k k ∙ eq-eqb k k refl)

    pub put_other : (x : X) (q : ℕ) → (q ≡ k → ⊥) → get (insert m k x) q ≡ get m q
    put_other x q other = get-insert nat_cmp_total m k x q ∙ ap (λ b. cond b (Some x) (get m q)) (unsigned_tied q k ∙ ne_eqb q k other)

    pub removed_same : get (remove m k) k ≡ None
    removed_same = get-remove nat_cmp_total m k k ∙ ap (λ b. cond b None (get m k)) (unsigned_tied k k ∙ eq-eqb k k refl)

    pub removed_other : (q : ℕ) → (q ≡ k → ⊥) → get (remove m k) q ≡ get m q
    removed_other q other = get-remove nat_cmp_total m k q ∙ ap (λ b. cond b None (get m q)) (unsigned_tied q k ∙ ne_eqb q k other)

  turned : (b : Bool) (x y : Option X) → cond (not b) x y ≡ cond b y x
  turned true x y = refl
  turned false x y = refl

  pub dropped_at : (m : FinMap nat_cmp X) (gone : ℕ → Bool) (k : ℕ) → get (retain_keys m (λ x. not (gone x))) k ≡ cond (gone k) None (get m k)
  dropped_at m gone k = get-retain_keys m (λ x. not (gone x)) k (λ x e. ap (λ y. not (gone y)) (sym (nat_cmp-IsAntisymmetric k x e))) ∙ turned (gone k) (get m k) None

-- ---- one row

-- the rows of the other units are the same
abbrev pub Others : Rows → Rows → Serial → Type 0
Others rows new s = (t : Serial) (row : Row) → same_serial t s ≡ false → HasRow rows t row ↔ HasRow new t row

pub others_put : (rows : Rows) (s : Serial) (row : Row) → Others rows (insert rows s row) s
others_put rows s row t q other = (has_others rows s row t q other, λ has. before (has_put rows s row t q has))
  where
    before : ((t ≡ s) × (row ≡ q)) ⊎ ((same_serial t s ≡ false) × HasRow rows t q) → HasRow rows t q
    before (inl same) = absurd (false≢true (sym other ∙ ap (λ (x : Serial). same_serial x s) same.0 ∙ same_serial-itself s))
    before (inr left) = left.1

pub others_left : (rows : Rows) (s : Serial) → Others rows (remove rows s) s
others_left rows s t q other = (stays rows s t q other, λ has. (has_left rows s t q has).1)

-- between the table without the unit and that with a new row
pub others_back : (rows : Rows) (s : Serial) (row : Row) → Others (remove rows s) (insert rows s row) s
others_back rows s row t q other =
    (λ has. (others_put rows s row t q other).0 ((others_left rows s t q other).1 has), λ has. (others_left rows s t q other).0 ((others_put rows s row t q other).1 has))

pub the_row : (rows : Rows) (s : Serial) (row q : Row) → HasRow (insert rows s row) s q → row ≡ q
the_row rows s row q has = one_row row q (sym (has_it rows s row) ∙ has)

pub no_row : (rows : Rows) (s : Serial) (q : Row) → HasRow (remove rows s) s q → ⊥
no_row rows s q has = false≢true (sym (has_left rows s s q has).0 ∙ same_serial-itself s)

-- ---- lists

module _ {X : Type 0} (P : ℕ → X → Serial → Row → Type 0) where
  -- it is true of the unit with this serial number
  abbrev pub Here : Rows → Serial → ℕ → X → Type 0
  Here rows s k x = (row : Row) × HasRow rows s row × P k x s row

  module _ (rows new : Rows) (s : Serial) (others : Others rows new s) (m : FinMap nat_cmp X) (is : Lists P m rows) where
    at_unit : (t : Serial) (row : Row) (k : ℕ) (x : X) (all : Rows) → same_serial t s ≡ true → HasRow all t row → P k x t row → Here all s k x
    at_unit t row k x all same has fact = subst (λ (u : Serial). Here all u k x) (same_serial-true t s same) (row, has, fact)

    -- what the changed map says is true of this unit, or was said before; and what is true it says
    pub changed : (n : FinMap nat_cmp X) → ((k : ℕ) (x : X) → get n k ≡ Some x → Here new s k x ⊎ ((get m k ≡ Some x) × (Here rows s k x → Here new s k x)))
        → ((k : ℕ) (x : X) → Here new s k x → get n k ≡ Some x) → ((k : ℕ) (x : X) (t : Serial) (row : Row) → same_serial t s ≡ false → HasRow rows t row → P k x t row → get n k ≡ get m k) → Lists P n new
    changed n forth here there k x = (λ e. to (forth k x e), from)
      where
        to : Here new s k x ⊎ ((get m k ≡ Some x) × (Here rows s k x → Here new s k x)) → SomeUnit new (P k x)
        to (inl h) = (s, h.0, h.1, h.2)
        to (inr h) =
            let u = (is k x).0 h.0 in
            elim (cases_Bool (same_serial u.0 s)) [
              | inl b ↦ let still = h.1 (at_unit u.0 u.1 k x rows b u.2 u.3) in (s, still.0, still.1, still.2)
              | inr b ↦ (u.0, u.1, (others u.0 u.1 b).0 u.2, u.3)
            ]

        from : SomeUnit new (P k x) → get n k ≡ Some x
        from u =
            elim (cases_Bool (same_serial u.0 s)) [
              | inl b ↦ here k x (at_unit u.0 u.1 k x new b u.2 u.3)
              | inr b ↦ let has = (others u.0 u.1 b).1 u.2 in there k x u.0 u.1 b has u.3 ∙ (is k x).1 (u.0, u.1, has, u.3)
            ]

    -- the map stays, where the same is true of the unit
    pub kept : ((k : ℕ) (x : X) → Here rows s k x → Here new s k x) → ((k : ℕ) (x : X) → Here new s k x → Here rows s k x) → Lists P m new
    kept forth back = changed m (λ k x e. inr (e, forth k x)) (λ k x h. let was = back k x h in (is k x).1 (s, was.0, was.1, was.2)) (λ k x t row other has fact. refl)

    -- what was said of this unit is dropped, where nothing is true of it any longer
    pub dropped : (n : FinMap nat_cmp X) (gone : ℕ → Bool) → ((k : ℕ) → get n k ≡ cond (gone k) None (get m k)) → ((k : ℕ) (x : X) (t : Serial) (row : Row) → HasRow rows t row → P k x t row → gone k ≡ same_serial t s)
        → ((k : ℕ) (x : X) → Here new s k x → ⊥) → Lists P n new
    dropped n gone at owner none =
        changed n (λ k x e. inr (by_gone k x e)) (λ k x h. absurd (none k x h)) (λ k x t row other has fact. at k ∙ ap (λ b. cond b None (get m k)) (owner k x t row has fact ∙ other))
      where
        by_gone : (k : ℕ) (x : X) → get n k ≡ Some x → (get m k ≡ Some x) × (Here rows s k x → Here new s k x)
        by_gone k x e =
            elim (cases_Bool (gone k)) [
              | inl b ↦ absurd (not_none x (sym (ap (λ b. cond b None (get m k)) b) ∙ sym (at k) ∙ e))
              | inr b ↦
                  (sym (ap (λ b. cond b None (get m k)) b) ∙ sym (at k) ∙ e, λ h. absurd (false≢true (sym b ∙ owner k x s h.0 h.1 h.2 ∙ same_serial-itself s)))
            ]

    -- a value is put, which is true of this unit and of no other
    pub put : (at : ℕ) (v : X) → Here new s at v → ((k : ℕ) (x : X) → (k ≡ at → ⊥) → Here rows s k x → Here new s k x) → ((k : ℕ) (x : X) → Here new s k x → ((k ≡ at) × (v ≡ x)) ⊎ ((k ≡ at → ⊥) × Here rows s k x))
        → ((x : X) (t : Serial) (row : Row) → same_serial t s ≡ false → HasRow rows t row → P at x t row → ⊥) → Lists P (insert m at v) new
    put at v it forth back one =
        changed (insert m at v) by_key here
        (λ k x t row other has fact. put_other m at v k (λ same. one x t row other has (subst (λ j. P j x t row) same fact)))
      where
        by_key : (k : ℕ) (x : X) → get (insert m at v) k ≡ Some x → Here new s k x ⊎ ((get m k ≡ Some x) × (Here rows s k x → Here new s k x))
        by_key k x e =
            elim (cases_eq k at) [
              | inl same ↦
                  let value : v ≡ x = one_value v x (sym (put_same m at v) ∙ ap (λ j. get (insert m at v) j) (sym same) ∙ e) in
                  inl (subst (λ j. Here new s j x) (sym same) (subst (λ y. Here new s at y) value it))
              | inr other ↦ inr (sym (put_other m at v k other) ∙ e, forth k x other)
            ]

        here : (k : ℕ) (x : X) → Here new s k x → get (insert m at v) k ≡ Some x
        here k x h = by_back (back k x h)
          where
            by_back : ((k ≡ at) × (v ≡ x)) ⊎ ((k ≡ at → ⊥) × Here rows s k x) → get (insert m at v) k ≡ Some x
            by_back (inl same) = ap (λ j. get (insert m at v) j) same.0 ∙ put_same m at v ∙ ap Some same.1
            by_back (inr was) = put_other m at v k was.0 ∙ (is k x).1 (s, was.1.0, was.1.1, was.1.2)

    -- a key is taken out, of which nothing is true any longer
    pub taken : (at : ℕ) → ((x : X) → Here new s at x → ⊥) → ((k : ℕ) (x : X) → (k ≡ at → ⊥) → Here rows s k x → Here new s k x) → ((k : ℕ) (x : X) → (k ≡ at → ⊥) → Here new s k x → Here rows s k x)
        → ((x : X) (t : Serial) (row : Row) → same_serial t s ≡ false → HasRow rows t row → P at x t row → ⊥) → Lists P (remove m at) new
    taken at none forth back one =
        changed (remove m at) by_key here
        (λ k x t row other has fact. removed_other m at k (λ same. one x t row other has (subst (λ j. P j x t row) same fact)))
      where
        by_key : (k : ℕ) (x : X) → get (remove m at) k ≡ Some x → Here new s k x ⊎ ((get m k ≡ Some x) × (Here rows s k x → Here new s k x))
        by_key k x e =
            elim (cases_eq k at) [
              | inl same ↦ absurd (not_none x (sym (removed_same m at) ∙ ap (λ j. get (remove m at) j) (sym same) ∙ e))
              | inr other ↦ inr (sym (removed_other m at k other) ∙ e, forth k x other)
            ]

        here : (k : ℕ) (x : X) → Here new s k x → get (remove m at) k ≡ Some x
        here k x h =
            elim (cases_eq k at) [
              | inl same ↦ absurd (none x (subst (λ j. Here new s j x) same h))
              | inr other ↦ let was = back k x other h in removed_other m at k other ∙ (is k x).1 (s, was.0, was.1, was.2)
            ]

  -- the map stays where all rows are changed, and the same is true of each
  pub mapped : (change : Row → Row) (rows : Rows) (m : FinMap nat_cmp X) → ((k : ℕ) (x : X) (s : Serial) (row : Row) → P k x s row ↔ P k x s (change row)) → Lists P m rows → Lists P m (rows_mapped change rows)
  mapped change rows m same is k x = (
    λ e. let u = (is k x).0 e in (u.0, change u.1, has_changed change rows u.0 u.1 u.2, (same k x u.0 u.1).0 u.3),
    λ u. let was = has_mapped change rows u.0 u.1 u.2 in (is k x).1 (u.0, was.0, was.1, (same k x u.0 was.0).1 (subst (λ (r : Row). P k x u.0 r) (sym was.2) u.3)),
  )
