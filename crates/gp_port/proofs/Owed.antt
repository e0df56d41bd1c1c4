-- Whether a copy of a message is owed, in the machine's words.
use Rattle.std.proofs.Common.{◌≡◌, ℕ, zero, suc, ◌<◌, ◌==◌, ◌&&◌, Bool, true, false, length, List, [], ◌∷◌, refl, sym, ap, ◌∙◌, arith}
use Rattle.std.specs.Prelude.{◌||◌}
use Rattle.std.specs.List.{list_any, Contains}
use Rattle.std.specs.Prelude.{slice_index_or}
use Rattle.std.proofs.lemmas.Bool.{false≢true, eqb-true, eq-eqb}
use Rattle.gp_ploam.specs.declared.message.Serial.{Serial}
use Rattle.gp_ploam.specs.declared.message.Down.{Down}
use Rattle.gp_ploam.specs.declared.message.Down.TheVariants as down
use Rattle.gp_ploam.specs.Serials.{same_serial}
use Rattle.gp_ploam.proofs.Serials.{same_serial-true, same_serial-itself}
use Rattle.gp_machine.specs.SearchWindow.{is_assign}
use Rattle.gp_machine.proofs.Walks.{both_true}

-- the copy is Assign_ONU-ID of this ONU-ID to this serial number
is_it : (onu : ℕ) (s : Serial) (copy : Down) → is_assign onu s copy ≡ true → copy ≡ down.AssignOnu onu s
is_it onu s (down.AssignOnu told its) h =
    let parts = both_true (onu == told) (same_serial s its) h in
    let same_onu : onu ≡ told = eqb-true onu told parts.0 in
    let same : s ≡ its = same_serial-true s its parts.1 in
    ap (λ (n : ℕ). down.AssignOnu n its) (sym same_onu) ∙ ap (λ (t : Serial). down.AssignOnu onu t) (sym same)
is_it onu s (down.UpstreamOverhead burst) h = absurd (false≢true h)
is_it onu s (down.RangingTime told eqd) h = absurd (false≢true h)
is_it onu s (down.Deactivate told) h = absurd (false≢true h)
is_it onu s (down.DisableSerial its) h = absurd (false≢true h)
is_it onu s (down.EnableSerial its) h = absurd (false≢true h)
is_it onu s down.EnableAll h = absurd (false≢true h)
is_it onu s (down.AssignAlloc told alloc keep) h = absurd (false≢true h)
is_it onu s down.NoMessage h = absurd (false≢true h)
is_it onu s (down.Popup told) h = absurd (false≢true h)
is_it onu s (down.Other id octet1 body) h = absurd (false≢true h)

itself : (onu : ℕ) (s : Serial) → is_assign onu s (down.AssignOnu onu s) ≡ true
itself onu s = both (onu == onu) (same_serial s s) (eq-eqb onu onu refl) (same_serial-itself s)
  where
    both : (a b : Bool) → a ≡ true → b ≡ true → (a && b) ≡ true
    both true b h k = k
    both false b h k = absurd (false≢true h)

module _ (p : Down → Bool) (y : Down) where
  any_of : p y ≡ true → (xs : List Down) (k : ℕ) → k < length xs → slice_index_or xs k y ≡ y → list_any p xs ≡ true
  any_of is [] k within here = absurd (omega (arith, within))
  any_of is (x ∷ xs) zero within here = left (p x) (list_any p xs) (ap p here ∙ is)
    where
      left : (a b : Bool) → a ≡ true → (a || b) ≡ true
      left true b h = refl
      left false b h = absurd (false≢true h)
  any_of is (x ∷ xs) (suc k) within here = right (p x) (list_any p xs) (any_of is xs k (omega (arith, within)) here)
    where
      right : (a b : Bool) → b ≡ true → (a || b) ≡ true
      right true b h = refl
      right false b h = h

  contains_of : ((x : Down) → p x ≡ true → x ≡ y) → (xs : List Down) → list_any p xs ≡ true → Contains xs y
  contains_of only [] h = absurd (false≢true h)
  contains_of only (x ∷ xs) h = by_first (p x) refl h (contains_of only xs)
    where
      by_first : (b : Bool) → p x ≡ b → (b || list_any p xs) ≡ true → (list_any p xs ≡ true → Contains xs y) → Contains (x ∷ xs) y
      by_first true is h later = (zero, omega arith, only x is)
      by_first false is h later = let c = later h in (suc c.0, omega (arith, c.1), c.2)

same : (a b : Bool) → (a ≡ true → b ≡ true) → (b ≡ true → a ≡ true) → a ≡ b
same true b f g = sym (f refl)
same false true f g = g refl
same false false f g = refl

-- what the queue tells is what the machine asks
pub owes_assign : (onu : ℕ) (s : Serial) (owed : List Down) (told : Bool) → (told ≡ true → Contains owed (down.AssignOnu onu s)) → (Contains owed (down.AssignOnu onu s) → told ≡ true)
    → told ≡ list_any (is_assign onu s) owed
owes_assign onu s owed told there back =
    same told (list_any (is_assign onu s) owed)
    (λ h. let c = there h in any_of (is_assign onu s) (down.AssignOnu onu s) (itself onu s) owed c.0 c.1 c.2)
    (λ h. back (contains_of (is_assign onu s) (down.AssignOnu onu s) (is_it onu s) owed h))
