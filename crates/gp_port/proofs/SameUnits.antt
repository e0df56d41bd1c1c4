-- Two tables with the same units.
use Rattle.std.proofs.Common.{◌≡◌, ℕ, ◌+◌, ◌<◌, ◌≤◌, Bool, true, false, List, length, Option, None, Some, inl, inr, refl, sym, ap, subst, ◌∙◌, arith, get_or}
use Rattle.std.specs.Prelude.{Contains}
use Rattle.std.specs.FinMap as map
use Rattle.std.specs.FinSet as set
use Rattle.std.proofs.lemmas.Bool.{cases_lt, false≢true}
use Rattle.std.proofs.lemmas.List.{ext_get_or, get_or_default}
use Rattle.gp_ploam.specs.OnuIds.{onu_ids}
use Rattle.gp_ploam.specs.declared.message.Serial.{Serial}
use Rattle.gp_ploam.specs.Serials.{serial_cmp}
use Rattle.gp_ploam.proofs.Serials.{serials_exact, serials_total}
use Rattle.gp_unit.specs.declared.row.Row.{Row}
use Rattle.gp_table.specs.Active.{ActiveState}
use Rattle.gp_table.specs.Rows.{Rows}
use Rattle.gp_machine.specs.declared.config.PortConfig.{PortConfig}
use Rattle.gp_machine.specs.Sound.{IsSound}
use Rattle.gp_ranging.specs.Window.{WindowState}
use Rattle.gp_common.specs.declared.common.Common.{Common}
use Rattle.gp_ploam.specs.declared.message.Down.{Down}
use Rattle.gp_port.specs.Parts.{AreListed, KnowSameUnits, state_with}

-- ---- serial number by serial number

-- the same is known of a serial number
abbrev pub IsSameAt : ActiveState → ActiveState → Serial → Type 0
IsSameAt units other serial = (map.get units.rows serial ≡ map.get other.rows serial) × (set.contains units.disabled serial ≡ set.contains other.disabled serial)

-- the same is known of the serial numbers up to a place
abbrev pub AreSameTo : List Serial → ℕ → ActiveState → ActiveState → Type 0
AreSameTo serials n units other = (j : ℕ) (d : Serial) → j < n → j < length serials → IsSameAt units other (get_or serials j d)

pub one_more : (serials : List Serial) (i : ℕ) (units other : ActiveState) (s : Serial) → i < length serials → s ≡ get_or serials i s → AreSameTo serials i units other → IsSameAt units other s → AreSameTo serials (i + 1) units other
one_more serials i units other s within is same this j d below inside = elim (cases_lt j i) [
  | inl before ↦ same j d before inside
  | inr after ↦
      let here : j ≡ i = omega arith in
      let read : get_or serials j d ≡ s = ap (λ (k : ℕ). get_or serials k d) here ∙ any_default serials i d s within ∙ sym is in
      subst (λ (x : Serial). IsSameAt units other x) (sym read) this
]
  where
    any_default : (xs : List Serial) (k : ℕ) (a b : Serial) → k < length xs → get_or xs k a ≡ get_or xs k b
    any_default xs k a b low = get_or_default xs k a b low

none_or_some : {A : Type 0} (o : Option A) → ((x : A) → o ≡ Some x → ⊥) → o ≡ None
none_or_some None h = refl
none_or_some (Some x) h = absurd (h x refl)

not_true : (b : Bool) → (b ≡ true → ⊥) → b ≡ false
not_true true h = absurd (h refl)
not_true false h = refl

module _ (serials : List Serial) (units other : ActiveState) (one : AreListed serials units) (its : AreListed serials other) (same : (s : Serial) → Contains serials s → IsSameAt units other s) where
  same_row : (s : Serial) (a b : Option Row) → map.get units.rows s ≡ a → map.get other.rows s ≡ b → a ≡ b
  same_row s (Some x) b is at = sym is ∙ (same s (one.active s x is)).0 ∙ at
  same_row s None (Some y) is at = sym is ∙ (same s (its.active s y at)).0 ∙ at
  same_row s None None is at = refl

  pub same_rows : units.rows ≡ other.rows
  same_rows = map.same_map serials_total serials_exact units.rows other.rows (λ s. same_row s (map.get units.rows s) (map.get other.rows s) refl refl)

  same_bit : (s : Serial) (a b : Bool) → set.contains units.disabled s ≡ a → set.contains other.disabled s ≡ b → a ≡ b
  same_bit s true b is at = sym is ∙ (same s (one.disabled s is)).1 ∙ at
  same_bit s false true is at = sym is ∙ (same s (its.disabled s at)).1 ∙ at
  same_bit s false false is at = refl

  pub same_disabled : units.disabled ≡ other.disabled
  same_disabled = set.same_set serials_total serials_exact units.disabled other.disabled (λ s. same_bit s (set.contains units.disabled s) (set.contains other.disabled s) refl refl)

pub same_known : (serials : List Serial) (units other : ActiveState) (n : ℕ) → AreListed serials units → AreListed serials other → length serials ≤ n → AreSameTo serials n units other → units.cooling ≡ other.cooling → KnowSameUnits units other
same_known serials units other n one its all same cooling =
    let each : (s : Serial) → Contains serials s → IsSameAt units other s = λ s there. subst (λ (x : Serial). IsSameAt units other x) there.2 (same there.0 s (omega (arith, there.1)) there.1) in
    record { rows = same_rows serials units other one its each; disabled = same_disabled serials units other one its each; cooling = cooling }

pub same_at : (units other : ActiveState) (s : Serial) → KnowSameUnits units other → IsSameAt units other s
same_at units other s same = (ap (λ (m : Rows). map.get m s) same.rows, ap (λ (x : set.FinSet serial_cmp). set.contains x s) same.disabled)

-- ---- cooling

pub one_more_cools : (xs ys : List ℕ) (n : ℕ) → ((j : ℕ) → j < n → get_or xs j 0 ≡ get_or ys j 0) → get_or xs n 0 ≡ get_or ys n 0 → (j : ℕ) → j < n + 1 → get_or xs j 0 ≡ get_or ys j 0
one_more_cools xs ys n same this j below = elim (cases_lt j n) [
  | inl before ↦ same j before
  | inr after ↦ let here : j ≡ n = omega arith in ap (λ (k : ℕ). get_or xs k 0) here ∙ this ∙ ap (λ (k : ℕ). get_or ys k 0) (sym here)
]

pub all_cool : (xs ys : List ℕ) (n : ℕ) → length xs ≡ onu_ids → length ys ≡ onu_ids → onu_ids ≤ n → ((j : ℕ) → j < n → get_or xs j 0 ≡ get_or ys j 0) → xs ≡ ys
all_cool xs ys n long other all same = ext_get_or 0 xs ys (long ∙ sym other) (λ j below. same j (omega arith))

-- ---- states

-- a sound state lists its units
pub listed : (config : PortConfig) (units : ActiveState) (common : Common) (wanted : Bool) (timer : ℕ) (window : Option WindowState) (owed : List Down) (polled : Option ℕ) → IsSound (state_with config units common wanted timer window owed polled)
    → AreListed config.admitted units
listed config units common wanted timer window owed polled sound = record { active = λ s row has. (sound.units.each s row has).admitted; disabled = sound.barred.known; counted = sound.barred.counted }

-- a test that fails tells that a fact does not hold
pub refuse : (P : Type 0) (b : Bool) → b ≡ false → (P → b ≡ true) → (false ≡ true → P) × (P → false ≡ true)
refuse P b is tells = (λ yes. absurd (false≢true yes), λ p. sym is ∙ tells p)
