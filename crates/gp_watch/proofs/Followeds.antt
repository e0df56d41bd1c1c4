-- What the index over the serial numbers says, and what becomes of it.
use Rattle.std.proofs.Common.{◌≡◌, ℕ, Bool, true, false, cond, not, ◌||◌, ◌&&◌, Option, None, Some, inl, inr, refl, sym, ap, subst, ◌∙◌, is_some}
use Rattle.std.proofs.lemmas.Bool.{cases_Bool}
use Rattle.std.specs.Option.{option_map}
use Rattle.std.specs.FinMap as fin
use Rattle.std.specs.FinSet as set
use Rattle.gp_ploam.specs.declared.message.Serial.{Serial}
use Rattle.gp_ploam.specs.Serials.{serial_cmp, same_serial}
use Rattle.gp_ploam.proofs.Serials.{serials_total, serials_exact, by_cmp-same, same_serial-true}
use Rattle.gp_table.specs.Values.{map_values}
use Rattle.gp_table.proofs.Values.{get-map_values, len-map_values}
use Rattle.gp_table.proofs.Gets.{get-insert_same, get-insert_other}
use Rattle.gp_watch.specs.declared.index.Followed.{Followed}
use Rattle.gp_watch.specs.Index.{Followeds, onu_in, disabled_in, asks_of, disabled_of, newly_followed, changed, changed_at, with_onu, with_asks, with_disabled, enabled}
use Rattle.gp_watch.specs.Kept.{onu_with}

pub some_none : {X : Type 0} (x : X) → Some x ≡ None → ⊥
some_none x e = cc

pub changed_absent : (m : Followeds) (s : Serial) (change : Followed → Followed) → fin.get m s ≡ None → m ≡ changed m s change
changed_absent m s change none = sym (ap (changed_at m s change) none)

pub changed_there : (m : Followeds) (s : Serial) (change : Followed → Followed) (f : Followed) → fin.get m s ≡ Some f → changed m s change ≡ fin.insert m s (change f)
changed_there m s change f there = ap (changed_at m s change) there

-- ---- what it says

pub get-asks_of : (m : Followeds) (q : Serial) → fin.get (asks_of m) q ≡ option_map (λ (f : Followed). f.asks) (fin.get m q)
get-asks_of m q = get-map_values serial_cmp (λ (f : Followed). f.asks) m q

pub len-asks_of : (m : Followeds) → fin.len (asks_of m) ≡ fin.len m
len-asks_of m = len-map_values serial_cmp (λ (f : Followed). f.asks) m

contains-keys : (m : Followeds) (q : Serial) → set.contains (set.from_list {R = serial_cmp} (fin.keys m)) q ≡ is_some (fin.get m q)
contains-keys m q = set.contains-from_list serials_total (fin.keys m) q ∙ sym (fin.contains_key-keys m q)

pub contains-disabled_of : (m : Followeds) (q : Serial) → set.contains (disabled_of m) q ≡ disabled_in (fin.get m q)
unfolding disabled_of
contains-disabled_of m q =
    set.contains-retain (set.from_list {R = serial_cmp} (fin.keys m)) (λ s. disabled_in (fin.get m s)) q (λ x tie. ap disabled_in (fin.get_tied serials_total m q x tie))
    ∙ ap (λ b. b && disabled_in (fin.get m q)) (contains-keys m q)
    ∙ by_followed (fin.get m q)
  where
    by_followed : (o : Option Followed) → (is_some o && disabled_in o) ≡ disabled_in o
    by_followed None = refl
    by_followed (Some f) = refl

-- whoever has asks is followed
pub is_followed : (m : Followeds) (s : Serial) → is_some (fin.get (asks_of m) s) ≡ is_some (fin.get m s)
is_followed m s = ap is_some (get-asks_of m s) ∙ by_followed (fin.get m s)
  where
    by_followed : (o : Option Followed) → is_some (option_map (λ (f : Followed). f.asks) o) ≡ is_some o
    by_followed None = refl
    by_followed (Some f) = refl

pub followed_by : (m : Followeds) (s : Serial) → is_some (fin.get (asks_of m) s) ≡ true → (f : Followed) × (fin.get m s ≡ Some f)
followed_by m s h = by_followed (fin.get m s) refl (sym (is_followed m s) ∙ h)
  where
    by_followed : (o : Option Followed) → fin.get m s ≡ o → is_some o ≡ true → (f : Followed) × (fin.get m s ≡ Some f)
    by_followed None e h = cc h
    by_followed (Some f) e h = (f, e)

pub followed_none : (m : Followeds) (s : Serial) → fin.get (asks_of m) s ≡ None → fin.get m s ≡ None
followed_none m s none = by_followed (fin.get m s) refl (sym (get-asks_of m s) ∙ none)
  where
    by_followed : (o : Option Followed) → fin.get m s ≡ o → option_map (λ (f : Followed). f.asks) o ≡ None → fin.get m s ≡ None
    by_followed None e h = e
    by_followed (Some f) e h = absurd (some_none f.asks h)

same_sets : (a b : set.FinSet serial_cmp) → ((q : Serial) → set.contains a q ≡ set.contains b q) → a ≡ b
same_sets a b same = set.same_set serials_total serials_exact a b same

same_asks : (a b : fin.FinMap serial_cmp ℕ) → ((q : Serial) → fin.get a q ≡ fin.get b q) → a ≡ b
same_asks a b same = fin.same_map serials_total serials_exact a b same

-- ---- changes

module _ (m : Followeds) (s : Serial) (change : Followed → Followed) where
  pub get-changed_same : fin.get (changed m s change) s ≡ option_map change (fin.get m s)
  get-changed_same = by_followed (fin.get m s) refl
    where
      by_followed : (o : Option Followed) → fin.get m s ≡ o → fin.get (changed_at m s change o) s ≡ option_map change o
      by_followed None e = e
      by_followed (Some f) e = get-insert_same m s (change f)

  pub get-changed_other : (q : Serial) → same_serial q s ≡ false → fin.get (changed m s change) q ≡ fin.get m q
  get-changed_other q f = by_followed (fin.get m s)
    where
      by_followed : (o : Option Followed) → fin.get (changed_at m s change o) q ≡ fin.get m q
      by_followed None = refl
      by_followed (Some f1) = get-insert_other m s (change f1) q f

  -- what is asked of one serial number, where the change doesn't touch the answer
  untouched : {A : Type 0} (ask : Option Followed → A) → ((o : Option Followed) → ask (option_map change o) ≡ ask o) → (q : Serial) → ask (fin.get (changed m s change) q) ≡ ask (fin.get m q)
  untouched ask same q = elim (cases_Bool (same_serial q s)) [
    | inl t ↦ subst (λ (x : Serial). ask (fin.get (changed m s change) x) ≡ ask (fin.get m x)) (sym (same_serial-true q s t)) (ap ask get-changed_same ∙ same (fin.get m s))
    | inr f ↦ ap ask (get-changed_other q f)
  ]

  -- and what it is where the change decides it
  touched : {A : Type 0} (ask : Option Followed → A) (a : A) → ask (option_map change (fin.get m s)) ≡ a → (q : Serial) → ask (fin.get (changed m s change) q) ≡ cond (same_serial q s) a (ask (fin.get m q))
  touched ask a is q = elim (cases_Bool (same_serial q s)) [
    | inl t ↦ subst (λ (x : Serial). ask (fin.get (changed m s change) x) ≡ a) (sym (same_serial-true q s t)) (ap ask get-changed_same ∙ is) ∙ ap (λ b. cond b a (ask (fin.get m q))) (sym t)
    | inr f ↦ ap ask (get-changed_other q f) ∙ ap (λ b. cond b a (ask (fin.get m q))) (sym f)
  ]

  pub asks_stay : ((f : Followed) → (change f).asks ≡ f.asks) → asks_of (changed m s change) ≡ asks_of m
  asks_stay same = same_asks _ _ (λ q. get-asks_of (changed m s change) q ∙ untouched (option_map (λ (f : Followed). f.asks)) still q ∙ sym (get-asks_of m q))
    where
      still : (o : Option Followed) → option_map (λ (f : Followed). f.asks) (option_map change o) ≡ option_map (λ (f : Followed). f.asks) o
      still None = refl
      still (Some f) = ap Some (same f)

  pub disabled_stay : ((f : Followed) → (change f).disabled ≡ f.disabled) → disabled_of (changed m s change) ≡ disabled_of m
  disabled_stay same = same_sets _ _ (λ q. contains-disabled_of (changed m s change) q ∙ untouched disabled_in still q ∙ sym (contains-disabled_of m q))
    where
      still : (o : Option Followed) → disabled_in (option_map change o) ≡ disabled_in o
      still None = refl
      still (Some f) = same f

  pub onus_stay : ((f : Followed) → (change f).onu ≡ f.onu) → (q : Serial) → onu_with (changed m s change) q ≡ onu_with m q
  onus_stay same q = untouched onu_in still q
    where
      still : (o : Option Followed) → onu_in (option_map change o) ≡ onu_in o
      still None = refl
      still (Some f) = same f

-- the ONU-ID of a serial number is taken, or given where it is followed
pub onus_taken : (m : Followeds) (s q : Serial) → onu_with (changed m s (with_onu None)) q ≡ cond (same_serial q s) None (onu_with m q)
onus_taken m s q = touched m s (with_onu None) onu_in None (by_followed (fin.get m s)) q
  where
    by_followed : (o : Option Followed) → onu_in (option_map (with_onu None) o) ≡ None
    by_followed None = refl
    by_followed (Some f) = refl

pub onus_given : (m : Followeds) (s : Serial) (f : Followed) (n : ℕ) → fin.get m s ≡ Some f → (q : Serial) → onu_with (changed m s (with_onu (Some n))) q ≡ cond (same_serial q s) (Some n) (onu_with m q)
onus_given m s f n there q = touched m s (with_onu (Some n)) onu_in (Some n) (ap (λ (o : Option Followed). onu_in (option_map (with_onu (Some n)) o)) there) q

-- the asks of one that is followed
pub asks_of-set : (m : Followeds) (s : Serial) (f : Followed) (n : ℕ) → fin.get m s ≡ Some f → asks_of (changed m s (with_asks n)) ≡ fin.insert (asks_of m) s n
asks_of-set m s f n there = same_asks _ _ (λ q.
    get-asks_of (changed m s (with_asks n)) q
    ∙ touched m s (with_asks n) (option_map (λ (g : Followed). g.asks)) (Some n) (ap (λ (o : Option Followed). option_map (λ (g : Followed). g.asks) (option_map (with_asks n) o)) there) q
    ∙ ap (cond (same_serial q s) (Some n)) (sym (get-asks_of m q))
    ∙ ap (λ b. cond b (Some n) (fin.get (asks_of m) q)) (sym (by_cmp-same q s))
    ∙ sym (fin.get-insert serials_total (asks_of m) s n q))

-- one that is followed from now on
module _ (m : Followeds) (s : Serial) (n : ℕ) (none : fin.get m s ≡ None) where
  asked : {A : Type 0} (ask : Option Followed → A) (q : Serial) → ask (fin.get (fin.insert m s (newly_followed n)) q) ≡ cond (same_serial q s) (ask (Some (newly_followed n))) (ask (fin.get m q))
  asked ask q =
      ap ask (fin.get-insert serials_total m s (newly_followed n) q ∙ ap (λ b. cond b (Some (newly_followed n)) (fin.get m q)) (by_cmp-same q s))
      ∙ by_test (same_serial q s)
    where
      by_test : (b : Bool) → ask (cond b (Some (newly_followed n)) (fin.get m q)) ≡ cond b (ask (Some (newly_followed n))) (ask (fin.get m q))
      by_test true = refl
      by_test false = refl

  -- where the answer is the same as for one that isn't followed
  same_as_none : {A : Type 0} (ask : Option Followed → A) → ask (Some (newly_followed n)) ≡ ask None → (q : Serial) → ask (fin.get (fin.insert m s (newly_followed n)) q) ≡ ask (fin.get m q)
  same_as_none ask same q =
      asked ask q
      ∙ elim (cases_Bool (same_serial q s)) [
        | inl t ↦
            ap (λ b. cond b (ask (Some (newly_followed n))) (ask (fin.get m q))) t ∙ same
            ∙ sym (ap ask (ap (fin.get m) (same_serial-true q s t) ∙ none))
        | inr f ↦ ap (λ b. cond b (ask (Some (newly_followed n))) (ask (fin.get m q))) f
      ]

  pub asks_of-new : asks_of (fin.insert m s (newly_followed n)) ≡ fin.insert (asks_of m) s n
  asks_of-new = same_asks _ _ (λ q.
      get-asks_of (fin.insert m s (newly_followed n)) q ∙ asked (option_map (λ (g : Followed). g.asks)) q
      ∙ ap (cond (same_serial q s) (Some n)) (sym (get-asks_of m q))
      ∙ ap (λ b. cond b (Some n) (fin.get (asks_of m) q)) (sym (by_cmp-same q s))
      ∙ sym (fin.get-insert serials_total (asks_of m) s n q))

  pub disabled_of-new : disabled_of (fin.insert m s (newly_followed n)) ≡ disabled_of m
  disabled_of-new = same_sets _ _ (λ q. contains-disabled_of (fin.insert m s (newly_followed n)) q ∙ same_as_none disabled_in refl q ∙ sym (contains-disabled_of m q))

  pub onus_new : (q : Serial) → onu_with (fin.insert m s (newly_followed n)) q ≡ onu_with m q
  onus_new q = same_as_none onu_in refl q

-- ---- who is disabled

pub disabled_of-insert : (m : Followeds) (s : Serial) (f : Followed) → fin.get m s ≡ Some f → disabled_of (changed m s (with_disabled true)) ≡ set.insert (disabled_of m) s
disabled_of-insert m s f there = same_sets _ _ (λ q.
    contains-disabled_of (changed m s (with_disabled true)) q
    ∙ touched m s (with_disabled true) disabled_in true (ap (λ (o : Option Followed). disabled_in (option_map (with_disabled true) o)) there) q
    ∙ ap (cond (same_serial q s) true) (sym (contains-disabled_of m q))
    ∙ by_test (same_serial q s) (set.contains (disabled_of m) q)
    ∙ ap (λ b. b || set.contains (disabled_of m) q) (sym (by_cmp-same q s))
    ∙ sym (set.contains-insert serials_total (disabled_of m) s q))
  where
    by_test : (b c : Bool) → cond b true c ≡ (b || c)
    by_test true c = refl
    by_test false c = refl

pub disabled_of-remove : (m : Followeds) (s : Serial) → disabled_of (changed m s (with_disabled false)) ≡ set.remove (disabled_of m) s
disabled_of-remove m s = same_sets _ _ (λ q.
    contains-disabled_of (changed m s (with_disabled false)) q
    ∙ touched m s (with_disabled false) disabled_in false (by_followed (fin.get m s)) q
    ∙ ap (cond (same_serial q s) false) (sym (contains-disabled_of m q))
    ∙ by_test (same_serial q s) (set.contains (disabled_of m) q)
    ∙ ap (λ b. not b && set.contains (disabled_of m) q) (sym (by_cmp-same q s))
    ∙ sym (set.contains-remove serials_total (disabled_of m) s q))
  where
    by_followed : (o : Option Followed) → disabled_in (option_map (with_disabled false) o) ≡ false
    by_followed None = refl
    by_followed (Some f) = refl

    by_test : (b c : Bool) → cond b false c ≡ (not b && c)
    by_test true c = refl
    by_test false c = refl

module _ (m : Followeds) where
  all_asked : {A : Type 0} (ask : Option Followed → A) → ((o : Option Followed) → ask (option_map enabled o) ≡ ask o) → (q : Serial) → ask (fin.get (map_values enabled m) q) ≡ ask (fin.get m q)
  all_asked ask same q = ap ask (get-map_values serial_cmp enabled m q) ∙ same (fin.get m q)

  pub asks_of-enabled : asks_of (map_values enabled m) ≡ asks_of m
  asks_of-enabled = same_asks _ _ (λ q. get-asks_of (map_values enabled m) q ∙ all_asked (option_map (λ (g : Followed). g.asks)) still q ∙ sym (get-asks_of m q))
    where
      still : (o : Option Followed) → option_map (λ (g : Followed). g.asks) (option_map enabled o) ≡ option_map (λ (g : Followed). g.asks) o
      still None = refl
      still (Some f) = refl

  pub onus_enabled : (q : Serial) → onu_with (map_values enabled m) q ≡ onu_with m q
  onus_enabled q = all_asked onu_in still q
    where
      still : (o : Option Followed) → onu_in (option_map enabled o) ≡ onu_in o
      still None = refl
      still (Some f) = refl

  pub disabled_of-enabled : disabled_of (map_values enabled m) ≡ set.empty
  disabled_of-enabled = same_sets _ _ (λ q.
      contains-disabled_of (map_values enabled m) q ∙ ap disabled_in (get-map_values serial_cmp enabled m q) ∙ by_followed (fin.get m q) ∙ sym (set.contains-empty serial_cmp q))
    where
      by_followed : (o : Option Followed) → disabled_in (option_map enabled o) ≡ false
      by_followed None = refl
      by_followed (Some f) = refl

-- ---- at first

pub asks_of-none : asks_of fin.empty ≡ fin.empty
asks_of-none = same_asks _ _ (λ q. get-asks_of fin.empty q ∙ ap (option_map (λ (g : Followed). g.asks)) (fin.get-empty serial_cmp q) ∙ sym (fin.get-empty serial_cmp q))

pub disabled_of-none : disabled_of fin.empty ≡ set.empty
disabled_of-none = same_sets _ _ (λ q. contains-disabled_of fin.empty q ∙ ap disabled_in (fin.get-empty serial_cmp q) ∙ sym (set.contains-empty serial_cmp q))
