-- Which unit is ranged or polled next, in the machine's words.
use Rattle.std.proofs.Common.{◌≡◌, ℕ, ◌+◌, ◌≤◌, true, false, Option, None, Some, ◌⊎◌, inl, inr, refl, sym, subst, ◌∙◌, arith}
use Rattle.std.specs.Prelude.{IsTrue}
use Rattle.std.specs.Ordering.{nat_cmp}
use Rattle.std.specs.FinSet as set
use Rattle.std.proofs.lemmas.Bool.{cases_Bool, false≢true}
use Rattle.gp_numbers.specs.Least.{IsLeastFrom}
use Rattle.gp_unit.specs.declared.row.Phase.{Phase}
use Rattle.gp_unit.specs.declared.row.Phase.TheVariants.{Ranging, Operating}
use Rattle.gp_unit.specs.Rows.{is_ranging, is_operating}
use Rattle.gp_machine.specs.State.{Rows, IsAbove, IsLeast, IsLeastRanging, IsNextPoll, Operates, Ranges, first_or}
use Rattle.gp_machine.proofs.FreeNumbers.{least_below}
use Rattle.gp_table.specs.Rows.{IsInPhase}
use Rattle.gp_table.specs.Table.{IsSetOf}

-- ---- who is ranging, and who is operating

as_operating : (p : Phase) → is_ranging p ≡ false → is_operating p ≡ true
as_operating (Ranging attempts seen) h = sym h
as_operating (Operating eqd dark garbled) h = refl

pub not_ranging : (p : Phase) → is_operating p ≡ true → is_ranging p ≡ false
not_ranging (Ranging attempts seen) h = sym h
not_ranging (Operating eqd dark garbled) h = refl

ranges : (rows : Rows) (onu : ℕ) → IsInPhase rows true onu → Ranges rows onu
ranges rows onu p = (p.serial, p.row, p.has, p.phase, p.is_onu)

ranging : (rows : Rows) (onu : ℕ) → Ranges rows onu → IsInPhase rows true onu
ranging rows onu p = record { serial = p.0; row = p.1; has = p.2; phase = p.3; is_onu = p.4 }

operates : (rows : Rows) (onu : ℕ) → IsInPhase rows false onu → Operates rows onu
operates rows onu p = (p.serial, p.row, p.has, as_operating p.row.phase p.phase, p.is_onu)

pub operating : (rows : Rows) (onu : ℕ) → Operates rows onu → IsInPhase rows false onu
operating rows onu p = record { serial = p.0; row = p.1; has = p.2; phase = not_ranging p.1.phase p.3; is_onu = p.4 }

-- ---- by the sets that the table keeps

pub least_ranging_is : (onus : set.FinSet nat_cmp) (rows : Rows) (o : Option ℕ) → IsSetOf onus rows true → IsLeastFrom onus 0 o → IsLeastRanging rows o
least_ranging_is onus rows None is none = λ n r. none n (omega arith) (is.in_set n (ranging rows n r))
least_ranging_is onus rows (Some n) is least = (ranges rows n (is.of_set n least.1), λ m r. least.2 m (omega arith) (is.in_set m (ranging rows m r)))

pub least_operating : (onus : set.FinSet nat_cmp) (rows : Rows) (o : Option ℕ) → IsSetOf onus rows false → IsLeastFrom onus 0 o → IsLeast (Operates rows) o
least_operating onus rows None is none = λ n r. none n (omega arith) (is.in_set n (operating rows n r))
least_operating onus rows (Some n) is least = (operates rows n (is.of_set n least.1), λ m r. least.2 m (omega arith) (is.in_set m (operating rows m r)))

-- there is a least one, since ONU-IDs are low
some_least : (onus : set.FinSet nat_cmp) (rows : Rows) → IsSetOf onus rows false → ((n : ℕ) → IsInPhase rows false n → n ≤ 253) → (o : Option ℕ) × IsLeast (Operates rows) o
some_least onus rows is low = least_below (Operates rows) told 254 (λ n r. let l = low n (operating rows n r) in omega arith)
  where
    told : (n : ℕ) → Operates rows n ⊎ (Operates rows n → ⊥)
    told n = elim (cases_Bool (set.contains onus n)) [
      | inl t ↦ inl (operates rows n (is.of_set n t))
      | inr f ↦ inr (λ r. false≢true (sym f ∙ is.in_set n (operating rows n r)))
    ]

-- the least one above the last polled
least_above : (onus : set.FinSet nat_cmp) (rows : Rows) (last : ℕ) (o : Option ℕ) → IsSetOf onus rows false → IsLeastFrom onus (last + 1) o → IsLeast (λ onu. Operates rows onu × IsAbove (Some last) onu) o
least_above onus rows last None is none = λ m r. none m (let above = r.1 in omega arith) (is.in_set m (operating rows m r.0))
least_above onus rows last (Some onu) is least =
    ((operates rows onu (is.of_set onu least.1), omega (arith, least.0)), λ m r. least.2 m (let above = r.1 in omega arith) (is.in_set m (operating rows m r.0)))

-- whose turn it is where there is one above, and where there is none
next_above : (onus : set.FinSet nat_cmp) (rows : Rows) (last : Option ℕ) (onu : ℕ) → IsSetOf onus rows false → ((n : ℕ) → IsInPhase rows false n → n ≤ 253)
    → IsLeast (λ n. Operates rows n × IsAbove last n) (Some onu) → IsNextPoll rows last (Some onu)
next_above onus rows last onu is low least = let some = some_least onus rows is low in (Some onu, some.0, least, some.1, refl)

next_least : (rows : Rows) (last o : Option ℕ) → IsLeast (λ n. Operates rows n × IsAbove last n) None → IsLeast (Operates rows) o → IsNextPoll rows last o
next_least rows last o none least = (None, o, none, least, refl)

-- what was looked for above is in the set
pub found_above : (onus : set.FinSet nat_cmp) (last : Option ℕ) (onu : ℕ) → (last ≡ None → Some onu ≡ None) → ((polled : ℕ) → last ≡ Some polled → IsLeastFrom onus (polled + 1) (Some onu))
    → IsTrue (set.contains onus onu)
found_above onus None onu none some = absurd (no_onu onu (none refl))
  where
    no_onu : (n : ℕ) → Some n ≡ None → ⊥
    no_onu n e = cc
found_above onus (Some polled) onu none some = (some polled refl).1

-- the same by what was looked for above
pub next_if_above : (onus : set.FinSet nat_cmp) (rows : Rows) (last : Option ℕ) (onu : ℕ) → IsSetOf onus rows false → ((n : ℕ) → IsInPhase rows false n → n ≤ 253) → (last ≡ None → Some onu ≡ None)
    → ((polled : ℕ) → last ≡ Some polled → IsLeastFrom onus (polled + 1) (Some onu)) → IsNextPoll rows last (Some onu)
next_if_above onus rows None onu is low none some = absurd (no_onu onu (none refl))
  where
    no_onu : (n : ℕ) → Some n ≡ None → ⊥
    no_onu n e = cc
next_if_above onus rows (Some polled) onu is low none some = next_above onus rows (Some polled) onu is low (least_above onus rows polled (Some onu) is (some polled refl))

pub next_if_none : (onus : set.FinSet nat_cmp) (rows : Rows) (last o : Option ℕ) → IsSetOf onus rows false → ((polled : ℕ) → last ≡ Some polled → IsLeastFrom onus (polled + 1) None)
    → IsLeast (Operates rows) o → IsNextPoll rows last o
next_if_none onus rows None o is some least = next_least rows None o (λ m r. r.1) least
next_if_none onus rows (Some polled) o is some least = next_least rows (Some polled) o (least_above onus rows polled None is (some polled refl)) least

-- ---- what follows of who is polled

-- who is polled operates
pub polled_operates : (rows : Rows) (last : Option ℕ) (onu : ℕ) → IsNextPoll rows last (Some onu) → IsInPhase rows false onu
polled_operates rows last onu next = by_above next.0 next.1 next.2 next.3 next.4
  where
    by_above : (above least : Option ℕ) → IsLeast (λ n. Operates rows n × IsAbove last n) above → IsLeast (Operates rows) least → Some onu ≡ first_or above least → IsInPhase rows false onu
    by_above (Some n) least above_is least_is same = let is : n ≡ onu = cc in operating rows onu (subst (Operates rows) is above_is.0.0)
    by_above None (Some n) above_is least_is same = let is : n ≡ onu = cc in operating rows onu (subst (Operates rows) is least_is.0)
    by_above None None above_is least_is same = absurd (no_onu same)
      where
        no_onu : Some onu ≡ None → ⊥
        no_onu e = cc

-- where nobody is polled nobody operates
pub nobody_polled : (rows : Rows) (last : Option ℕ) → IsNextPoll rows last None → (onu : ℕ) → IsInPhase rows false onu → ⊥
nobody_polled rows last next onu there = by_above next.0 next.1 next.3 next.4
  where
    by_above : (above least : Option ℕ) → IsLeast (Operates rows) least → None ≡ first_or above least → ⊥
    by_above (Some n) least least_is same = no_onu n same
      where
        no_onu : (n : ℕ) → None ≡ Some n → ⊥
        no_onu n e = cc
    by_above None (Some n) least_is same = no_onu n same
      where
        no_onu : (n : ℕ) → None ≡ Some n → ⊥
        no_onu n e = cc
    by_above None None least_is same = least_is onu (operates rows onu there)
