-- What keeps a port sound: each change, where it may be made.
use Rattle.std.proofs.Common.{◌≡◌, ℕ, ◌+◌, ◌<◌, ◌≤◌, ◌==◌, Bool, true, false, cond, length, List, [], ◌∷◌, Option, None, Some, ◌⊎◌, inl, inr, ⊎_elim, refl, sym, ap, subst, ◌∙◌, arith, length-append, get_or, set, ◌&&◌, ◌||◌, is_some}
use Rattle.std.specs.Prelude.{◌-◌, Contains, option_map}
use Rattle.std.specs.Ordering.{eq_by_cmp}
use Rattle.std.specs.FinMap.{get, insert, remove, len}
use Rattle.std.specs.FinSet.{FinSet, contains, contains-insert, contains-remove, contains-empty}
use Rattle.std.specs.FinSet as finset
use Rattle.std.proofs.lemmas.Bool.{cases_Bool, false≢true, eqb-true, eqb-false}
use Rattle.std.proofs.lemmas.List.{length-set, get_or-set_same, get_or-set_other}
use Rattle.gp_ploam.specs.declared.message.Serial.{Serial}
use Rattle.gp_ploam.specs.declared.message.Down.{Down}
use Rattle.gp_ploam.specs.Serials.{serial_cmp, same_serial}
use Rattle.gp_ploam.proofs.Serials.{serials_total, by_cmp-same, same_serial-true, same_serial-itself}
use Rattle.gp_ranging.specs.declared.grant.Grant.{Grant}
use Rattle.gp_ranging.specs.declared.grant.Grant.TheVariants.{Search, Range, Poll}
use Rattle.gp_ranging.specs.Window.{WindowState, marked_window}
use Rattle.gp_unit.specs.declared.row.Phase.{Phase}
use Rattle.gp_unit.specs.declared.row.Phase.TheVariants.{Ranging, Operating}
use Rattle.gp_unit.specs.declared.row.Row.{Row}
use Rattle.gp_unit.specs.Rows.{is_ranging, is_operating, has_alloc, new_row, row_popped_up}
use Rattle.gp_unit.specs.Sound.{IsSoundRow}
use Rattle.gp_unit.proofs.Kept.{sound_new, has_none, popped_onu, popped_allocs, popped_ranging, sound_popped_up}
use Rattle.gp_machine.specs.declared.config.PortConfig.{PortConfig}
use Rattle.gp_machine.specs.State.{PortState, Rows, HasRow, HasUnit, IsFree, rows_of, rows_mapped}
use Rattle.gp_machine.specs.Sound.{IsSound, IsSoundUnit, ShareNumber, IsAskedBy, IsAsked, HasCyclesLeft, IsLow, copies_at_most, AreSoundUnits, IsSoundWindow}
use Rattle.gp_machine.specs.Changes.{Change, Owes, MarksSeen, CountsDown, ClosesWindow, OpensWindow, Enters, Wants, AddsUnit, SetsRow, RemovesUnit, Disables, Enables, EnablesAll, PopsUpAll, state_after_change, purse_after_change, state_after, asks_unit, window_without, is_poll, window_unpolled, polled_after}
use Rattle.gp_machine.proofs.Units.{one_row, has_put, has_it, has_others, len-known, len-new, has_left, stays, len-fewer, differs, len-mapped, has_mapped, has_changed}

-- ---- the unit table

not_same : (t s : Serial) → same_serial t s ≡ false → t ≡ s → ⊥
not_same t s other is = false≢true (sym other ∙ ap (λ (x : Serial). same_serial x s) is ∙ same_serial-itself s)

share_swap : (q r : Row) → ShareNumber q r → ShareNumber r q
share_swap q r (inl e) = inl (sym e)
share_swap q r (inr a) = inr (a.0, a.2, a.1)

-- a sound row is put, which shares no number with those of other units
units_put : (config : PortConfig) (disabled : FinSet serial_cmp) (cooling : List ℕ) (rows : Rows) (s : Serial) (new : Row) → AreSoundUnits config disabled cooling rows → IsSoundUnit config disabled cooling s new
    → ((t : Serial) (q : Row) → HasRow rows t q → ShareNumber new q → t ≡ s) → len (insert rows s new) ≤ config.max_units → AreSoundUnits config disabled cooling (insert rows s new)
units_put config disabled cooling rows s new h unit near few =
    record {
      each = λ t q a.
          ⊎_elim
          (λ (x : (t ≡ s) × (new ≡ q)).
          subst (λ (w : Serial). IsSoundUnit config disabled cooling w q) (sym x.0) (subst (λ (w : Row). IsSoundUnit config disabled cooling s w) x.1 unit))
          (λ (x : (same_serial t s ≡ false) × HasRow rows t q). h.each t q x.1)
          (has_put rows s new t q a);
      apart = λ t u q r a b e.
          ⊎_elim
          (λ (x : (t ≡ s) × (new ≡ q)).
          ⊎_elim
          (λ (y : (u ≡ s) × (new ≡ r)). x.0 ∙ sym y.0)
          (λ (y : (same_serial u s ≡ false) × HasRow rows u r). x.0 ∙ sym (near u r y.1 (subst (λ (w : Row). ShareNumber w r) (sym x.1) e)))
          (has_put rows s new u r b))
          (λ (x : (same_serial t s ≡ false) × HasRow rows t q).
          ⊎_elim
          (λ (y : (u ≡ s) × (new ≡ r)). near t q x.1 (subst (λ (w : Row). ShareNumber w q) (sym y.1) (share_swap q r e)) ∙ sym y.0)
          (λ (y : (same_serial u s ≡ false) × HasRow rows u r). h.apart t u q r x.1 y.1 e)
          (has_put rows s new u r b))
          (has_put rows s new t q a);
      few = few;
    }

-- other serial numbers are disabled, and other ONU-IDs cooling, but none of an active unit
units_barred : (config : PortConfig) (disabled barred : FinSet serial_cmp) (cooling cooled : List ℕ) (rows : Rows) → AreSoundUnits config disabled cooling rows
    → ((s : Serial) (row : Row) → HasRow rows s row → contains disabled s ≡ false → contains barred s ≡ false)
    → ((s : Serial) (row : Row) → HasRow rows s row → get_or cooling row.onu 0 ≡ 0 → get_or cooled row.onu 0 ≡ 0)
    → AreSoundUnits config barred cooled rows
units_barred config disabled barred cooling cooled rows h enabled warm =
    record {
      each = λ s row a.
          let u = h.each s row a in record { admitted = u.admitted; enabled = enabled s row a u.enabled; warm = warm s row a u.warm; fits = u.fits };
      apart = h.apart;
      few = h.few;
    }

-- a row is taken out
units_left : (config : PortConfig) (disabled : FinSet serial_cmp) (cooling : List ℕ) (rows : Rows) (s : Serial) (row : Row) → AreSoundUnits config disabled cooling rows → HasRow rows s row → AreSoundUnits config disabled cooling (remove rows s)
units_left config disabled cooling rows s row h has =
    record {
      each = λ t q a. h.each t q (has_left rows s t q a).1;
      apart = λ t u q r a b e. h.apart t u q r (has_left rows s t q a).1 (has_left rows s u r b).1 e;
      few = let fewer = len-fewer rows s row has in let most = h.few in subst (λ (n : ℕ). n ≤ config.max_units) (sym fewer) (less (len rows) config.max_units most);
    }
  where
    less : (n m : ℕ) → n ≤ m → n - 1 ≤ m
    less n m most = omega arith

-- its ONU-ID is cooling then
units_removed : (config : PortConfig) (disabled : FinSet serial_cmp) (cooling : List ℕ) (rows : Rows) (s : Serial) (row : Row) (onu : ℕ) → AreSoundUnits config disabled cooling rows → HasRow rows s row → row.onu ≡ onu
    → AreSoundUnits config disabled (set cooling onu config.quarantine) (remove rows s)
units_removed config disabled cooling rows s row onu h has same =
    units_barred config disabled disabled cooling (set cooling onu config.quarantine) (remove rows s) (units_left config disabled cooling rows s row h has)
    (λ t q a enabled. enabled)
    (λ t q a warm. get_or-set_other cooling onu q.onu config.quarantine 0 (other t q a) ∙ warm)
  where
    other : (t : Serial) (q : Row) → HasRow (remove rows s) t q → q.onu ≡ onu → ⊥
    other t q a is = let left = has_left rows s t q a in not_same t s left.0 (h.apart t s q row left.1 has (inl (is ∙ sym same)))

popped : Row → Row
popped row = row_popped_up row row.phase

units_popped : (config : PortConfig) (disabled : FinSet serial_cmp) (cooling : List ℕ) (rows : Rows) → AreSoundUnits config disabled cooling rows
    → AreSoundUnits config disabled cooling (rows_mapped (λ (row : Row). row_popped_up row row.phase) rows)
units_popped config disabled cooling rows h =
    record {
      each = λ s q a.
          let before = has_mapped (λ (row : Row). row_popped_up row row.phase) rows s q a in
          subst (λ (w : Row). IsSoundUnit config disabled cooling s w) before.2 (still s before.0 (h.each s before.0 before.1));
      apart = λ s t q r a b e.
          let one = has_mapped (λ (row : Row). row_popped_up row row.phase) rows s q a in
          let other = has_mapped (λ (row : Row). row_popped_up row row.phase) rows t r b in
          h.apart s t one.0 other.0 one.1 other.1
          (shared one.0 other.0 (subst (λ (w : Row). ShareNumber w (row_popped_up other.0 other.0.phase)) (sym one.2) (subst (λ (w : Row). ShareNumber q w) (sym other.2) e)));
      few = subst (λ (n : ℕ). n ≤ config.max_units) (sym (len-mapped (λ (row : Row). row_popped_up row row.phase) rows)) h.few;
    }
  where
    still : (s : Serial) (row : Row) → IsSoundUnit config disabled cooling s row → IsSoundUnit config disabled cooling s (row_popped_up row row.phase)
    still s row u =
        record {
          admitted = u.admitted;
          enabled = u.enabled;
          warm = subst (λ (n : ℕ). get_or cooling n 0 ≡ 0) (sym (popped_onu row row.phase)) u.warm;
          fits = sound_popped_up config.alloc_last row row.phase u.fits;
        }

    had : (row : Row) (a : ℕ) → has_alloc a (row_popped_up row row.phase) ≡ true → has_alloc a row ≡ true
    had row a x = subst (λ m. is_some_of (get m a)) (popped_allocs row row.phase) x
      where
        is_some_of : Option Bool → Type 0
        is_some_of o = is_some o ≡ true

    shared : (q r : Row) → ShareNumber (row_popped_up q q.phase) (row_popped_up r r.phase) → ShareNumber q r
    shared q r (inl e) = inl (sym (popped_onu q q.phase) ∙ e ∙ popped_onu r r.phase)
    shared q r (inr a) = inr (a.0, had q a.0 a.1, had r a.0 a.2)

-- ---- the open window

least_copies : (w : Option WindowState) (n : ℕ) → n ≤ copies_at_most w → n ≤ 192
least_copies None n h = h
least_copies (Some w) n h = omega arith

operating_kind : (a b : Phase) → is_ranging a ≡ is_ranging b → is_operating a ≡ is_operating b
operating_kind (Ranging m s) (Ranging n t) h = refl
operating_kind (Ranging m s) (Operating e d g) h = absurd (false≢true (sym h))
operating_kind (Operating e d g) (Ranging n t) h = absurd (false≢true h)
operating_kind (Operating e d g) (Operating f c k) h = refl

-- a unit that stands in one table stands in another
asked_by : (rows others : Rows) (g : Grant) → ((n : ℕ) → HasUnit rows (λ (row : Row). is_ranging row.phase) n → HasUnit others (λ (row : Row). is_ranging row.phase) n)
    → ((n : ℕ) → HasUnit rows (λ (row : Row). is_operating row.phase) n → HasUnit others (λ (row : Row). is_operating row.phase) n) → IsAskedBy rows g → IsAskedBy others g
asked_by rows others Search ranging operating asked = tt
asked_by rows others (Range n) ranging operating asked = ranging n asked
asked_by rows others (Poll n) ranging operating asked = operating n asked

-- a row more leaves each unit where it was
unit_more : (rows : Rows) (s : Serial) (new : Row) (test : Row → Bool) (n : ℕ) → get rows s ≡ None → HasUnit rows test n → HasUnit (insert rows s new) test n
unit_more rows s new test n none u = (u.0, u.1, has_others rows s new u.0 u.1 (differs rows s u.0 u.1 none u.2) u.2, u.3, u.4)

pub asked_more : (rows : Rows) (s : Serial) (new : Row) (w : Option WindowState) → get rows s ≡ None → IsAsked rows w → IsAsked (insert rows s new) w
asked_more rows s new None none asked = tt
asked_more rows s new (Some w) none asked =
    asked_by rows (insert rows s new) w.grant (λ n u. unit_more rows s new (λ (row : Row). is_ranging row.phase) n none u) (λ n u. unit_more rows s new (λ (row : Row). is_operating row.phase) n none u) asked

-- a row that is as the one before for a test leaves each unit where it was
unit_same : (rows : Rows) (s : Serial) (old new : Row) (test : Row → Bool) (n : ℕ) → HasRow rows s old → new.onu ≡ old.onu → test new ≡ test old → HasUnit rows test n → HasUnit (insert rows s new) test n
unit_same rows s old new test n has same kind u =
    elim (cases_Bool (same_serial u.0 s)) [
      | inl t ↦
          let is : old ≡ u.1 = one_row old u.1 (sym has ∙ ap (get rows) (sym (same_serial-true u.0 s t)) ∙ u.2) in
          (s, new, has_it rows s new, kind ∙ ap test is ∙ u.3, same ∙ ap (λ (r : Row). r.onu) is ∙ u.4)
      | inr f ↦ (u.0, u.1, has_others rows s new u.0 u.1 f u.2, u.3, u.4)
    ]

pub asked_same : (rows : Rows) (s : Serial) (old new : Row) (w : Option WindowState) → HasRow rows s old → new.onu ≡ old.onu → is_ranging new.phase ≡ is_ranging old.phase → IsAsked rows w → IsAsked (insert rows s new) w
asked_same rows s old new None has same kind asked = tt
asked_same rows s old new (Some w) has same kind asked =
    asked_by rows (insert rows s new) w.grant (λ n u. unit_same rows s old new (λ (row : Row). is_ranging row.phase) n has same kind u)
    (λ n u. unit_same rows s old new (λ (row : Row). is_operating row.phase) n has same (operating_kind new.phase old.phase kind) u) asked

-- a row that is taken out leaves the other units where they were
unit_left : (rows : Rows) (s : Serial) (row : Row) (onu : ℕ) (test : Row → Bool) (n : ℕ) → HasRow rows s row → row.onu ≡ onu → (n == onu) ≡ false → HasUnit rows test n → HasUnit (remove rows s) test n
unit_left rows s row onu test n has same apart u =
    elim (cases_Bool (same_serial u.0 s)) [
      | inl t ↦
          let is : row ≡ u.1 = one_row row u.1 (sym has ∙ ap (get rows) (sym (same_serial-true u.0 s t)) ∙ u.2) in
          absurd (eqb-false n onu apart (sym u.4 ∙ ap (λ (r : Row). r.onu) (sym is) ∙ same))
      | inr f ↦ (u.0, u.1, stays rows s u.0 u.1 f u.2, u.3, u.4)
    ]

asked_left : (rows : Rows) (s : Serial) (row : Row) (onu : ℕ) (g : Grant) → HasRow rows s row → row.onu ≡ onu → asks_unit g onu ≡ false → IsAskedBy rows g → IsAskedBy (remove rows s) g
asked_left rows s row onu Search has same apart asked = tt
asked_left rows s row onu (Range n) has same apart asked = unit_left rows s row onu (λ (r : Row). is_ranging r.phase) n has same apart asked
asked_left rows s row onu (Poll n) has same apart asked = unit_left rows s row onu (λ (r : Row). is_operating r.phase) n has same apart asked

window_removed : (rows : Rows) (s : Serial) (row : Row) (onu copies : ℕ) (w : Option WindowState) → HasRow rows s row → row.onu ≡ onu → IsSoundWindow rows copies w → IsSoundWindow (remove rows s) copies (window_without w onu)
window_removed rows s row onu copies None has same h = record { owed = h.owed; asked = tt; left = tt }
window_removed rows s row onu copies (Some w) has same h = by_test (asks_unit w.grant onu) refl
  where
    by_test : (b : Bool) → asks_unit w.grant onu ≡ b → IsSoundWindow (remove rows s) copies (cond b None (Some w))
    by_test true is = record { owed = least_copies (Some w) copies h.owed; asked = tt; left = tt }
    by_test false is = record { owed = h.owed; asked = asked_left rows s row onu w.grant has same is h.asked; left = h.left }

asked_popped : (rows : Rows) (g : Grant) → is_poll g ≡ false → IsAskedBy rows g → IsAskedBy (rows_mapped (λ (row : Row). row_popped_up row row.phase) rows) g
asked_popped rows Search is asked = tt
asked_popped rows (Poll n) is asked = absurd (false≢true (sym is))
asked_popped rows (Range n) is u =
    let same = popped_ranging u.1 u.1.phase u.3 in
    (u.0, u.1, subst (λ (w : Row). HasRow (rows_mapped (λ (row : Row). row_popped_up row row.phase) rows) u.0 w) same (has_changed (λ (row : Row). row_popped_up row row.phase) rows u.0 u.1 u.2), u.3, u.4)

window_popped : (rows : Rows) (copies : ℕ) (w : Option WindowState) → IsSoundWindow rows copies w → IsSoundWindow (rows_mapped (λ (row : Row). row_popped_up row row.phase) rows) copies (window_unpolled w)
window_popped rows copies None h = record { owed = h.owed; asked = tt; left = tt }
window_popped rows copies (Some w) h = by_test (is_poll w.grant) refl
  where
    by_test : (b : Bool) → is_poll w.grant ≡ b → IsSoundWindow (rows_mapped (λ (row : Row). row_popped_up row row.phase) rows) copies (cond b None (Some w))
    by_test true is = record { owed = least_copies (Some w) copies h.owed; asked = tt; left = tt }
    by_test false is = record { owed = h.owed; asked = asked_popped rows w.grant is h.asked; left = h.left }

-- ---- what may be done

-- a unit that is not active may become active with this row
pub record MayJoin (u : ℕ) (p : PortState) (s : Serial) (row : Row) : Type 0 where
  pub onu : ℕ
  pub new : row ≡ new_row onu
  pub free : IsFree p onu
  pub admitted : Contains p.config.admitted s
  pub enabled : contains p.disabled s ≡ false
  pub unknown : get p.rows s ≡ None
  pub licensed : 0 < u

-- an active unit may have this row from now on
pub record MayPut (p : PortState) (s : Serial) (new : Row) : Type 0 where
  pub old : Row
  pub has : HasRow p.rows s old
  pub same : new.onu ≡ old.onu
  pub fits : IsSoundRow p.config.alloc_last new
  pub unused : (a : ℕ) → has_alloc a new ≡ true → (has_alloc a old ≡ true) ⊎ ((t : Serial) (q : Row) → HasRow p.rows t q → has_alloc a q ≡ true → ⊥)
  pub asked : IsAsked (insert p.rows s new) p.window

-- the open window has a frame to lose
abbrev pub HasMore : Option WindowState → Type 0
HasMore None = Unit {0}
HasMore (Some w) = w.left ≡ 1 → ⊥

-- what may be done in a sound state
abbrev pub MayMakeChange : ℕ → PortState → Change → Type 0
MayMakeChange u p (Owes m) = length p.owed + 3 ≤ copies_at_most p.window
MayMakeChange u p MarksSeen = Unit {0}
MayMakeChange u p CountsDown = HasMore p.window
MayMakeChange u p ClosesWindow = Unit {0}
MayMakeChange u p (OpensWindow g) = (p.owed ≡ []) × (IsAskedBy p.rows g × IsLow (polled_after p.polled g))
MayMakeChange u p (Enters c) = HasCyclesLeft c p.config.cycles
MayMakeChange u p (Wants w) = Unit {0}
MayMakeChange u p (AddsUnit s row) = MayJoin u p s row
MayMakeChange u p (SetsRow s row) = MayPut p s row
MayMakeChange u p (RemovesUnit s n) = (row : Row) × HasRow p.rows s row × (row.onu ≡ n)
MayMakeChange u p (Disables s) = Contains p.config.admitted s × (get p.rows s ≡ None)
MayMakeChange u p (Enables s) = Unit {0}
MayMakeChange u p EnablesAll = Unit {0}
MayMakeChange u p PopsUpAll = Unit {0}

-- one after another
abbrev pub MayMakeChanges : ℕ → PortState → List Change → Type 0
MayMakeChanges u p [] = Unit {0}
MayMakeChanges u p (change ∷ changes) = MayMakeChange u p change × MayMakeChanges (purse_after_change u change) (state_after_change p change) changes

-- ---- each change keeps the state sound

with_window : (p : PortState) (w : Option WindowState) → IsSound p → IsSoundWindow p.rows (length p.owed) w → IsSound (record p { window = w })
with_window p w h sound = record { units = h.units; barred = h.barred; window = sound; timing = h.timing }

window_seen : (rows : Rows) (n : ℕ) (w : Option WindowState) → IsSoundWindow rows n w → IsSoundWindow rows n (option_map marked_window w)
window_seen rows n None h = h
window_seen rows n (Some w) h = record { owed = h.owed; asked = h.asked; left = h.left }

one_less : (k : ℕ) → 1 ≤ k → (k ≡ 1 → ⊥) → 1 ≤ k - 1
one_less k some more = omega (arith, more)

window_waned : (rows : Rows) (n : ℕ) (w : Option WindowState) → HasMore w → IsSoundWindow rows n w → IsSoundWindow rows n (option_map (λ (x : WindowState). record x { left = x.left - 1 }) w)
window_waned rows n None more h = h
window_waned rows n (Some w) more h = let left = h.left in record { owed = h.owed; asked = h.asked; left = (one_less w.left left.0 more, omega arith) }

sound_owing : (p : PortState) (m : Down) → IsSound p → length p.owed + 3 ≤ copies_at_most p.window → IsSound (state_after_change p (Owes m))
sound_owing p m h fits =
    record {
      units = h.units;
      barred = h.barred;
      window = record { owed = subst (λ (n : ℕ). n ≤ copies_at_most p.window) (sym (length-append p.owed (m ∷ m ∷ m ∷ []))) fits; asked = h.window.asked; left = h.window.left };
      timing = h.timing;
    }

sound_open : (p : PortState) (g : Grant) → IsSound p → p.owed ≡ [] → IsAskedBy p.rows g → IsLow (polled_after p.polled g) → IsSound (state_after_change p (OpensWindow g))
sound_open p g h nothing asked low =
    record {
      units = h.units;
      barred = h.barred;
      window = record { owed = subst (λ (ms : List Down). length ms ≤ 189) (sym nothing) (omega arith); asked = asked; left = (omega arith, omega arith) };
      timing = record { timed = h.timing.timed; cycled = h.timing.cycled; low = low };
    }

sound_joined : (u : ℕ) (p : PortState) (s : Serial) (row : Row) → IsSound p → MayJoin u p s row → IsSound (state_after_change p (AddsUnit s row))
sound_joined u p s row h may =
    record {
      units = units_put p.config p.disabled p.cooling p.rows s row h.units unit near (subst (λ (n : ℕ). n ≤ p.config.max_units) (sym (len-new p.rows s row may.unknown)) room);
      barred = h.barred;
      window = record { owed = h.window.owed; asked = asked_more p.rows s row p.window may.unknown h.window.asked; left = h.window.left };
      timing = h.timing;
    }
  where
    room : rows_of p + 1 ≤ p.config.max_units
    room = let fits = may.free.room in omega arith

    low : may.onu ≤ 253
    low = let below = may.free.low in omega arith

    new_unit : IsSoundUnit p.config p.disabled p.cooling s (new_row may.onu)
    new_unit = record { admitted = may.admitted; enabled = may.enabled; warm = may.free.warm; fits = sound_new p.config.alloc_last may.onu low }

    unit : IsSoundUnit p.config p.disabled p.cooling s row
    unit = subst (λ (w : Row). IsSoundUnit p.config p.disabled p.cooling s w) (sym may.new) new_unit

    alone : (t : Serial) (q : Row) → HasRow p.rows t q → ShareNumber (new_row may.onu) q → ⊥
    alone t q has (inl e) = may.free.unused t q has (sym e)
    alone t q has (inr a) = has_none may.onu a.0 a.1

    near : (t : Serial) (q : Row) → HasRow p.rows t q → ShareNumber row q → t ≡ s
    near t q has e = absurd (alone t q has (subst (λ (w : Row). ShareNumber w q) may.new e))

sound_put : (p : PortState) (s : Serial) (row : Row) → IsSound p → MayPut p s row → IsSound (state_after_change p (SetsRow s row))
sound_put p s row h may =
    record {
      units = units_put p.config p.disabled p.cooling p.rows s row h.units unit near (subst (λ (n : ℕ). n ≤ p.config.max_units) (sym (len-known p.rows s may.old row may.has)) h.units.few);
      barred = h.barred;
      window = record { owed = h.window.owed; asked = may.asked; left = h.window.left };
      timing = h.timing;
    }
  where
    before : IsSoundUnit p.config p.disabled p.cooling s may.old
    before = h.units.each s may.old may.has

    unit : IsSoundUnit p.config p.disabled p.cooling s row
    unit =
        record { admitted = before.admitted; enabled = before.enabled; warm = subst (λ (n : ℕ). get_or p.cooling n 0 ≡ 0) (sym may.same) before.warm; fits = may.fits }

    near : (t : Serial) (q : Row) → HasRow p.rows t q → ShareNumber row q → t ≡ s
    near t q has (inl e) = h.units.apart t s q may.old has may.has (inl (sym e ∙ may.same))
    near t q has (inr a) =
        ⊎_elim (λ (x : has_alloc a.0 may.old ≡ true). h.units.apart t s q may.old has may.has (inr (a.0, a.2, x)))
        (λ (x : (v : Serial) (r : Row) → HasRow p.rows v r → has_alloc a.0 r ≡ true → ⊥). absurd (x t q has a.2))
        (may.unused a.0 a.1)

sound_removed : (p : PortState) (s : Serial) (row : Row) (n : ℕ) → IsSound p → HasRow p.rows s row → row.onu ≡ n → IsSound (state_after_change p (RemovesUnit s n))
sound_removed p s row n h has same =
    record {
      units = units_removed p.config p.disabled p.cooling p.rows s row n h.units has same;
      barred = record { known = h.barred.known; counted = length-set p.cooling n p.config.quarantine ∙ h.barred.counted; bounded = bounded };
      window = window_removed p.rows s row n (length p.owed) p.window has same h.window;
      timing = h.timing;
    }
  where
    low : n ≤ 253
    low = subst (λ (k : ℕ). k ≤ 253) same (h.units.each s row has).fits.low

    bounded : (m : ℕ) → get_or (set p.cooling n p.config.quarantine) m 0 ≤ p.config.quarantine
    bounded m =
        elim (cases_Bool (m == n)) [
          | inl t ↦
              let is = eqb-true m n t in
              let long = h.barred.counted in
              let few = low in
              subst (λ (k : ℕ). get_or (set p.cooling n p.config.quarantine) k 0 ≤ p.config.quarantine) (sym is)
              (subst (λ (k : ℕ). k ≤ p.config.quarantine) (sym (get_or-set_same p.cooling n p.config.quarantine 0 (omega arith))) (omega arith))
          | inr f ↦
              subst (λ (k : ℕ). k ≤ p.config.quarantine) (sym (get_or-set_other p.cooling n m p.config.quarantine 0 (eqb-false m n f))) (h.barred.bounded m)
        ]

either : (a b : Bool) → (a || b) ≡ true → (a ≡ true) ⊎ (b ≡ true)
either true b h = inl refl
either false b h = inr h

second : (a b : Bool) → (a && b) ≡ true → b ≡ true
second true b h = h
second false b h = absurd (false≢true h)

neither : (a b : Bool) → a ≡ false → b ≡ false → (a || b) ≡ false
neither true b h k = absurd (false≢true (sym h))
neither false b h k = k

and_false : (a b : Bool) → b ≡ false → (a && b) ≡ false
and_false true b h = h
and_false false b h = refl

with_disabled : (p : PortState) (barred : FinSet serial_cmp) → IsSound p → ((s : Serial) (row : Row) → HasRow p.rows s row → contains p.disabled s ≡ false → contains barred s ≡ false)
    → ((s : Serial) → contains barred s ≡ true → Contains p.config.admitted s) → IsSound (record p { disabled = barred })
with_disabled p barred h enabled known =
    record {
      units = units_barred p.config p.disabled barred p.cooling p.cooling p.rows h.units enabled (λ s row a warm. warm);
      barred = record { known = known; counted = h.barred.counted; bounded = h.barred.bounded };
      window = h.window;
      timing = h.timing;
    }

sound_disabled : (p : PortState) (s : Serial) → IsSound p → Contains p.config.admitted s → get p.rows s ≡ None → IsSound (state_after_change p (Disables s))
sound_disabled p s h admitted none =
    with_disabled p (finset.insert p.disabled s) h
    (λ t row a enabled. contains-insert serials_total p.disabled s t ∙ neither _ _ (by_cmp-same t s ∙ differs p.rows s t row none a) enabled)
    (λ t disabled.
    ⊎_elim
    (λ (x : eq_by_cmp serial_cmp t s ≡ true). subst (λ (w : Serial). Contains p.config.admitted w) (sym (same_serial-true t s (sym (by_cmp-same t s) ∙ x))) admitted)
    (λ (x : contains p.disabled t ≡ true). h.barred.known t x)
    (either _ _ (sym (contains-insert serials_total p.disabled s t) ∙ disabled)))

sound_enabled : (p : PortState) (s : Serial) → IsSound p → IsSound (state_after_change p (Enables s))
sound_enabled p s h =
    with_disabled p (finset.remove p.disabled s) h
    (λ t row a enabled. contains-remove serials_total p.disabled s t ∙ and_false _ _ enabled)
    (λ t disabled. h.barred.known t (second _ _ (sym (contains-remove serials_total p.disabled s t) ∙ disabled)))

sound_enabled_all : (p : PortState) → IsSound p → IsSound (state_after_change p EnablesAll)
sound_enabled_all p h =
    with_disabled p finset.empty h (λ t row a enabled. contains-empty serial_cmp t) (λ t disabled. absurd (false≢true (sym (contains-empty serial_cmp t) ∙ disabled)))

pub sound_change : (u : ℕ) (p : PortState) (change : Change) → IsSound p → MayMakeChange u p change → IsSound (state_after_change p change)
sound_change u p (Owes m) h may = sound_owing p m h may
sound_change u p MarksSeen h may = with_window p _ h (window_seen p.rows (length p.owed) p.window h.window)
sound_change u p CountsDown h may = with_window p _ h (window_waned p.rows (length p.owed) p.window may h.window)
sound_change u p ClosesWindow h may = with_window p None h (record { owed = least_copies p.window (length p.owed) h.window.owed; asked = tt; left = tt })
sound_change u p (OpensWindow g) h may = sound_open p g h may.0 may.1.0 may.1.1
sound_change u p (Enters c) h may =
    record { units = h.units; barred = h.barred; window = h.window; timing = record { timed = h.timing.timed; cycled = may; low = h.timing.low } }
sound_change u p (Wants w) h may = record { units = h.units; barred = h.barred; window = h.window; timing = h.timing }
sound_change u p (AddsUnit s row) h may = sound_joined u p s row h may
sound_change u p (SetsRow s row) h may = sound_put p s row h may
sound_change u p (RemovesUnit s n) h may = sound_removed p s may.0 n h may.1 may.2
sound_change u p (Disables s) h may = sound_disabled p s h may.0 may.1
sound_change u p (Enables s) h may = sound_enabled p s h
sound_change u p EnablesAll h may = sound_enabled_all p h
sound_change u p PopsUpAll h may =
    record {
      units = units_popped p.config p.disabled p.cooling p.rows h.units;
      barred = h.barred;
      window = window_popped p.rows (length p.owed) p.window h.window;
      timing = h.timing;
    }

pub sound_changes : (u : ℕ) (p : PortState) (changes : List Change) → IsSound p → MayMakeChanges u p changes → IsSound (state_after p changes)
sound_changes u p [] h may = h
sound_changes u p (change ∷ changes) h may = sound_changes (purse_after_change u change) (state_after_change p change) changes (sound_change u p change h may.0) may.1
