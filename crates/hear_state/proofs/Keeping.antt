-- What is known once a row or a serial number is written.
use Rattle.std.proofs.Common.{◌≡◌, ℕ, ◌==◌, ◌<◌, Bool, true, false, cond, length, get_or, Option, None, Some, inl, inr, refl, sym, ap, subst, ◌∙◌, eq-eqb, arith}
use Rattle.std.specs.Prelude.{◌&&◌, if◌then◌else◌}
use Rattle.std.proofs.Math.ListN.{set, length-set}
use Rattle.std.proofs.lemmas.Bool.{cases_Bool, cases_eq, cases_lt, ne_eqb}
use Rattle.std.proofs.lemmas.List.{length-map, get_or_past}
use Rattle.std.specs.FinMap as fin
use Rattle.gp_ploam.specs.declared.message.Serial.{Serial}
use Rattle.gp_ploam.specs.declared.message.Up.{Up}
use Rattle.gp_ploam.specs.declared.message.Up.TheVariants.{SerialNumber}
use Rattle.gp_ploam.specs.OnuIds.{broadcast_onu}
use Rattle.gp_ploam.specs.Serials.{same_serial}
use Rattle.gp_ploam.specs.Up.{octet1_of}
use Rattle.gp_ploam.proofs.Serials.{serials_total, by_cmp-same, same_serial-true, same_serial-itself}
use Rattle.hear_rules.specs.Facts as facts
use Rattle.hear_rules.specs.Known as spec
use Rattle.hear_state.specs.declared.facts.Fact.{Fact}
use Rattle.hear_state.specs.declared.facts.Fact.TheVariants as fact
use Rattle.hear_state.specs.declared.facts.Sure.{Sure}
use Rattle.hear_state.specs.declared.facts.Sure.TheVariants as sure
use Rattle.hear_state.specs.declared.rows.Row.{Row}
use Rattle.hear_state.specs.declared.rows.Row.TheVariants as row
use Rattle.hear_state.specs.declared.index.Followed.{Followed}
use Rattle.hear_state.specs.Facts.{fact_of, sure_of}
use Rattle.hear_state.specs.Rows.{number_of, dropped_row, popped_up_row}
use Rattle.hear_state.specs.Index.{Followeds, changed, released, enabled, answered, asked_answered}
use Rattle.hear_state.specs.Kept.{Kept, known_of, row_at, row_beyond, followed_at, followed_or, holder_of, SameUnits, IsIndexed, IsNot, IsNotYes, AreIndexed}
use Rattle.hear_state.specs.Changes.{is_at, is_held_by, rows_without, index_without, kept_assigned, kept_with_row, kept_following, kept_dropped, kept_all_dropped, kept_disabled, kept_all_enabled, kept_popped_up, kept_spoken, IsAssigned, disabled_serial, asking_serial, after_serial, serial_told}
use Rattle.hear_state.proofs.Indexed.{left_own, left_other, gave_up_own, gave_up_other, indexed-assign, indexed-drop, indexed-drop_all, indexed-disable, indexed_same, indexed_as}
use Rattle.hear_state.proofs.Reading.{get-set, get-map, read-put, read-changed, read-changed_any, read-each}

-- ---- who is held, by the rows

-- the ONU-ID that a unit leaves
left_is : (known : spec.Known) → IsIndexed known → (s : Serial) (f : Fact ℕ) → known.holds s ≡ fact_of f → (q : ℕ)
    → spec.left_by (known.numbers q) s ≡ (if is_at f q then spec.Nobodys else known.numbers q)
left_is known is s f holds q = by_fact f holds
  where
    unknown_is : (n : ℕ) → facts.Unknown ≡ facts.Is n → ⊥
    unknown_is n h = cc

    nothing_is : (n : ℕ) → facts.Nothing ≡ facts.Is n → ⊥
    nothing_is n h = cc

    is_is : (m n : ℕ) → facts.Is m ≡ facts.Is n → m ≡ n
    is_is m n h = cc

    by_fact : (g : Fact ℕ) → known.holds s ≡ fact_of g → spec.left_by (known.numbers q) s ≡ (if is_at g q then spec.Nobodys else known.numbers q)
    by_fact fact.Unknown e = left_other (known.numbers q) s (λ h. unknown_is q (sym e ∙ is.held q s h))
    by_fact fact.Nothing e = left_other (known.numbers q) s (λ h. nothing_is q (sym e ∙ is.held q s h))
    by_fact (fact.Is n) e = elim (cases_eq q n) [
      | inl here ↦ left_own (known.numbers q) s (is.holder q s (e ∙ ap facts.Is (sym here))) ∙ sym (ap (λ b. cond b spec.Nobodys (known.numbers q)) (eq-eqb q n here))
      | inr other ↦ left_other (known.numbers q) s (λ h. other (is_is q n (sym (is.held q s h) ∙ e))) ∙ sym (ap (λ b. cond b spec.Nobodys (known.numbers q)) (ne_eqb q n other))
    ]

-- what a unit holds, once the ONU-ID of this row is given up
gave_up_is : (known : spec.Known) → IsIndexed known → (n : ℕ) (r : Row) → known.numbers n ≡ number_of r → (s : Serial)
    → spec.given_up (known.holds s) n ≡ (if is_held_by r s then facts.Nothing else known.holds s)
gave_up_is known is n r e s = by_row r e
  where
    none_some : (x : Serial) → None ≡ Some x → ⊥
    none_some x h = cc

    one : (x y : Serial) → Some x ≡ Some y → x ≡ y
    one x y h = cc

    by_row : (r1 : Row) → known.numbers n ≡ number_of r1 → spec.given_up (known.holds s) n ≡ (if is_held_by r1 s then facts.Nothing else known.holds s)
    by_row row.Unheard is1 = gave_up_other (known.holds s) n (λ h. none_some s (sym (ap holder_of is1) ∙ is.holder n s h))
    by_row row.Nobodys is1 = gave_up_other (known.holds s) n (λ h. none_some s (sym (ap holder_of is1) ∙ is.holder n s h))
    by_row (row.Of holder delay answers) is1 = elim (cases_Bool (same_serial s holder)) [
      | inl t ↦
          ap (λ (f : facts.Fact ℕ). spec.given_up f n) (is.held n s (ap holder_of is1 ∙ ap Some (sym (same_serial-true s holder t)))) ∙ gave_up_own n
          ∙ sym (ap (λ b. cond b facts.Nothing (known.holds s)) t)
      | inr f1 ↦
          gave_up_other (known.holds s) n (λ h. true_false (same_serial s holder) (subst (λ u. same_serial s u ≡ true) (one s holder (sym (is.holder n s h) ∙ ap holder_of is1)) (same_serial-itself s)) f1)
          ∙ sym (ap (λ b. cond b facts.Nothing (known.holds s)) f1)
    ]
      where
        true_false : (b : Bool) → b ≡ true → b ≡ false → ⊥
        true_false b t f = cc

-- ---- rows

module _ (kept : Kept) (is : AreIndexed kept) where
  abbrev known : spec.Known
  known = known_of kept

  read-row : (n : ℕ) (r : Row) (q : ℕ) → n < 256 → get_or (set kept.rows n r) q (row_beyond kept.others.holds) ≡ cond (q == n) r (row_at kept q)
  read-row n r q low = get-set kept.rows n r (row_beyond kept.others.holds) q (omega (arith, is.long, low))

  -- who holds an ONU-ID holds one below 256
  pub held_low : (s : Serial) (n : ℕ) → (followed_at kept s).holds ≡ fact.Is n → n < 256
  held_low s n e = elim (cases_lt n (length kept.rows)) [
    | inl low ↦ omega (arith, is.long, low)
    | inr past ↦ absurd (beyond kept.others.holds is.unheld (get_or_past kept.rows n (row_beyond kept.others.holds) past))
  ]
    where
      none_some : (x : Serial) → None ≡ Some x → ⊥
      none_some x h = cc

      beyond : (f : Fact ℕ) → IsNot f → row_at kept n ≡ row_beyond f → ⊥
      beyond fact.Unknown h past = none_some s (sym (ap (λ r. holder_of (number_of r)) past) ∙ is.indexed.holder n s (ap fact_of e))
      beyond fact.Nothing h past = none_some s (sym (ap (λ r. holder_of (number_of r)) past) ∙ is.indexed.holder n s (ap fact_of e))
      beyond (fact.Is m) h past = absurd h

  -- the ONU-ID that a unit held is nobody's
  read-without : (s : Serial) (q : ℕ)
      → number_of (get_or (rows_without kept.rows (followed_at kept s).holds) q (row_beyond kept.others.holds)) ≡ spec.left_by (known.numbers q) s
  read-without s q = by_fact (followed_at kept s).holds refl ∙ sym (left_is known is.indexed s (followed_at kept s).holds refl q)
    where
      by_fact : (f : Fact ℕ) → (followed_at kept s).holds ≡ f
          → number_of (get_or (rows_without kept.rows f) q (row_beyond kept.others.holds)) ≡ (if is_at f q then spec.Nobodys else known.numbers q)
      by_fact fact.Unknown e = refl
      by_fact fact.Nothing e = refl
      by_fact (fact.Is n) e = ap number_of (read-row n row.Nobodys q (held_low s n e)) ∙ by_test (q == n)
        where
          by_test : (b : Bool) → number_of (cond b row.Nobodys (row_at kept q)) ≡ (if b then spec.Nobodys else known.numbers q)
          by_test true = refl
          by_test false = refl

  long-without : (f : Fact ℕ) → length (rows_without kept.rows f) ≡ 256
  long-without fact.Unknown = is.long
  long-without fact.Nothing = is.long
  long-without (fact.Is n) = length-set kept.rows n row.Nobodys ∙ is.long

  -- one that holds an ONU-ID is followed
  followed_there : (s : Serial) (n : ℕ) → known.holds s ≡ facts.Is n → (g : Followed) × (fin.get kept.followed s ≡ Some g)
  followed_there s n e = by_followed (fin.get kept.followed s) refl
    where
      unheld : (f : Fact ℕ) → IsNot f → fact_of f ≡ facts.Is n → ⊥
      unheld fact.Unknown h e1 = cc
      unheld fact.Nothing h e1 = cc
      unheld (fact.Is m) h e1 = absurd h

      by_followed : (o : Option Followed) → fin.get kept.followed s ≡ o → (g : Followed) × (fin.get kept.followed s ≡ Some g)
      by_followed None e1 = absurd (unheld kept.others.holds is.unheld (sym (ap (λ (o : Option Followed). let followed = followed_or o kept.others in fact_of followed.holds) e1) ∙ e))
      by_followed (Some g) e1 = (g, e1)

  -- who held the ONU-ID of a row holds none
  read-index_without : (m : Followeds) (r : Row) → ((h : Serial) → holder_of (number_of r) ≡ Some h → (g : Followed) × (fin.get m h ≡ Some g)) → (q : Serial)
      → followed_or (fin.get (index_without m r) q) kept.others ≡ cond (is_held_by r q) (released (followed_or (fin.get m q) kept.others)) (followed_or (fin.get m q) kept.others)
  read-index_without m row.Unheard there q = refl
  read-index_without m row.Nobodys there q = refl
  read-index_without m (row.Of holder delay answers) there q = let g = there holder refl in read-changed m kept.others holder released g.0 g.1 q

  released_holds : (b : Bool) (f : Followed) → fact_of (let g = cond b (released f) f in g.holds) ≡ (if b then facts.Nothing else fact_of f.holds)
  released_holds true f = refl
  released_holds false f = refl

  released_same : {A : Type 0} (ask : Followed → A) → ((f : Followed) → ask (released f) ≡ ask f) → (b : Bool) (f : Followed) → ask (cond b (released f) f) ≡ ask f
  released_same ask same true f = same f
  released_same ask same false f = refl

  -- ---- Assign_ONU-ID

  module _ (onu : ℕ) (low : onu < 256) (serial : Serial) (r : Row) (f : Followed)
      (assigned : number_of r ≡ spec.assigned (known.asked serial) (known.numbers onu) serial)
      (to : IsAssigned onu (followed_at kept serial) f) where
    abbrev given : Kept
    given = kept_assigned kept onu serial r f

    abbrev held : Row
    held = row_at kept onu

    held_by_same : (x : Row) (q : Serial) → is_held_by x serial ≡ true → same_serial q serial ≡ false → is_held_by x q ≡ false
    held_by_same row.Unheard q t e = refl
    held_by_same row.Nobodys q t e = refl
    held_by_same (row.Of holder delay answers) q t e = subst (λ u. same_serial q u ≡ false) (same_serial-true serial holder t) e

    abbrev want : Serial → Bool → Followed
    want q t = cond t f (cond (is_held_by held q) (released (followed_at kept q)) (followed_at kept q))

    read-given : (q : Serial) → followed_at given q ≡ cond (same_serial q serial) f (cond (is_held_by held q) (released (followed_at kept q)) (followed_at kept q))
    read-given q = by_held (is_held_by held serial) refl (same_serial q serial) refl
      where
        put : followed_or (fin.get (fin.insert kept.followed serial f) q) kept.others ≡ cond (same_serial q serial) f (followed_at kept q)
        put = read-put kept.followed kept.others serial f q

        there : (h : Serial) → holder_of (number_of held) ≡ Some h → (g : Followed) × (fin.get (fin.insert kept.followed serial f) h ≡ Some g)
        there h e = elim (cases_Bool (same_serial h serial)) [
          | inl t ↦ (f, fin.get-insert serials_total kept.followed serial f h ∙ ap (λ b. cond b (Some f) (fin.get kept.followed h)) (by_cmp-same h serial ∙ t))
          | inr f1 ↦
              let g = followed_there h onu (is.indexed.held onu h e) in
              (g.0, fin.get-insert serials_total kept.followed serial f h ∙ ap (λ b. cond b (Some f) (fin.get kept.followed h)) (by_cmp-same h serial ∙ f1) ∙ g.1)
        ]

        by_held : (b : Bool) → is_held_by held serial ≡ b → (t : Bool) → same_serial q serial ≡ t → followed_at given q ≡ want q (same_serial q serial)
        by_held true e true e1 =
            ap (λ b. followed_or (fin.get (if b then fin.insert kept.followed serial f else index_without (fin.insert kept.followed serial f) held) q) kept.others) e
            ∙ put ∙ ap (λ t. cond t f (followed_at kept q)) e1 ∙ sym (ap (want q) e1)
        by_held true e false e1 =
            ap (λ b. followed_or (fin.get (if b then fin.insert kept.followed serial f else index_without (fin.insert kept.followed serial f) held) q) kept.others) e
            ∙ put ∙ ap (λ t. cond t f (followed_at kept q)) e1
            ∙ sym (ap (λ b. cond b (released (followed_at kept q)) (followed_at kept q)) (held_by_same held q e e1))
            ∙ sym (ap (want q) e1)
        by_held false e true e1 =
            ap (λ b. followed_or (fin.get (if b then fin.insert kept.followed serial f else index_without (fin.insert kept.followed serial f) held) q) kept.others) e
            ∙ read-index_without (fin.insert kept.followed serial f) held there q
            ∙ ap (λ b. cond b (released (followed_or (fin.get (fin.insert kept.followed serial f) q) kept.others)) (followed_or (fin.get (fin.insert kept.followed serial f) q) kept.others)) (ap (is_held_by held) (same_serial-true q serial e1) ∙ e)
            ∙ put ∙ ap (λ t. cond t f (followed_at kept q)) e1 ∙ sym (ap (want q) e1)
        by_held false e false e1 =
            ap (λ b. followed_or (fin.get (if b then fin.insert kept.followed serial f else index_without (fin.insert kept.followed serial f) held) q) kept.others) e
            ∙ read-index_without (fin.insert kept.followed serial f) held there q
            ∙ ap (λ (x : Followed). cond (is_held_by held q) (released x) x) (put ∙ ap (λ t. cond t f (followed_at kept q)) e1)
            ∙ sym (ap (want q) e1)

    asked_about : {A : Type 0} (ask : Followed → A) (a : A) (b : Serial → A) → ask f ≡ a → ((x : Followed) → ask (released x) ≡ ask x) → (q : Serial) → ask (followed_at kept q) ≡ b q
        → ask (followed_at given q) ≡ (if same_serial q serial then a else b q)
    asked_about ask a b mine same q theirs = ap ask (read-given q) ∙ by_test (same_serial q serial)
      where
        by_test : (t : Bool) → ask (cond t f (cond (is_held_by held q) (released (followed_at kept q)) (followed_at kept q))) ≡ (if t then a else b q)
        by_test true = mine
        by_test false = released_same ask same (is_held_by held q) (followed_at kept q) ∙ theirs

    pub units_assigned : SameUnits (known_of given) (spec.after_assign known onu serial)
    units_assigned = record {
      numbers = numbers;
      holds = λ q. ap (λ (x : Followed). fact_of x.holds) (read-given q) ∙ by_holds q (same_serial q serial) ∙ sym (ap (λ (x : facts.Fact ℕ). if same_serial q serial then facts.Is onu else x) (gave_up_is known is.indexed onu held refl q));
      disabled = λ q. asked_about (λ (x : Followed). sure_of x.disabled) (known.disabled serial) known.disabled (ap sure_of to.disabled) (λ x. refl) q refl ∙ same_either known.disabled q;
      asks = λ q. asked_about (λ (x : Followed). x.asks) (spec.asks_less (spec.is_news known onu serial) (known.asks serial)) known.asks to.asks (λ x. refl) q refl
          ∙ own q (λ s. spec.asks_less (spec.is_news known onu serial) (known.asks s)) known.asks;
      asked = λ q. asked_about (λ (x : Followed). sure_of x.asked) facts.No known.asked (ap sure_of to.asked) (λ x. refl) q refl;
      overhead = refl;
      up = refl;
    }
      where
        own : {A : Type 0} (q : Serial) (a b : Serial → A) → (if same_serial q serial then a serial else b q) ≡ (if same_serial q serial then a q else b q)
        own q a b = elim (cases_Bool (same_serial q serial)) [
          | inl t ↦ ap (λ s. if same_serial q serial then a s else b q) (sym (same_serial-true q serial t))
          | inr f1 ↦ ap (λ t. cond t (a serial) (b q)) f1 ∙ sym (ap (λ t. cond t (a q) (b q)) f1)
        ]

        same_either : {A : Type 0} (a : Serial → A) (q : Serial) → (if same_serial q serial then a serial else a q) ≡ a q
        same_either a q = own q a a ∙ by_test (same_serial q serial)
          where
            by_test : (t : Bool) → (if t then a q else a q) ≡ a q
            by_test true = refl
            by_test false = refl

        by_holds : (q : Serial) (t : Bool) → fact_of (let g = cond t f (cond (is_held_by held q) (released (followed_at kept q)) (followed_at kept q)) in g.holds) ≡ (if t then facts.Is onu else (if is_held_by held q then facts.Nothing else known.holds q))
        by_holds q true = ap fact_of to.holds
        by_holds q false = released_holds (is_held_by held q) (followed_at kept q)

        numbers : (q : ℕ) → number_of (row_at given q) ≡ (if q == onu then spec.assigned (known.asked serial) (known.numbers q) serial else spec.left_by (known.numbers q) serial)
        numbers q =
            ap number_of (get-set (rows_without kept.rows (followed_at kept serial).holds) onu r (row_beyond kept.others.holds) q (omega (arith, long-without (followed_at kept serial).holds, low)))
            ∙ elim (cases_eq q onu) [
              | inl here ↦
                  ap (λ b. number_of (cond b r (get_or (rows_without kept.rows (followed_at kept serial).holds) q (row_beyond kept.others.holds)))) (eq-eqb q onu here)
                  ∙ assigned ∙ ap (λ n. spec.assigned (known.asked serial) (known.numbers n) serial) (sym here)
                  ∙ sym (ap (λ b. cond b (spec.assigned (known.asked serial) (known.numbers q) serial) (spec.left_by (known.numbers q) serial)) (eq-eqb q onu here))
              | inr other ↦
                  ap (λ b. number_of (cond b r (get_or (rows_without kept.rows (followed_at kept serial).holds) q (row_beyond kept.others.holds)))) (ne_eqb q onu other)
                  ∙ read-without serial q
                  ∙ sym (ap (λ b. cond b (spec.assigned (known.asked serial) (known.numbers q) serial) (spec.left_by (known.numbers q) serial)) (ne_eqb q onu other))
            ]

    pub kept-assigned : AreIndexed given
    kept-assigned = record {
      long = length-set (rows_without kept.rows (followed_at kept serial).holds) onu r ∙ long-without (followed_at kept serial).holds;
      unheld = is.unheld;
      unasked = is.unasked;
      indexed = indexed_same (spec.after_assign known onu serial) (known_of given) units_assigned (indexed-assign known is.indexed onu serial);
    }

  -- ---- one serial number is written, who holds what stays

  module _ (serial : Serial) (f : Followed) where
    put : (q : Serial) → followed_at (kept_following kept serial f) q ≡ cond (same_serial q serial) f (followed_at kept q)
    put q = read-put kept.followed kept.others serial f q

    about : {A : Type 0} (ask : Followed → A) (a : A) (b : Serial → A) → ask f ≡ a → (q : Serial) → ask (followed_at kept q) ≡ b q
        → ask (followed_at (kept_following kept serial f) q) ≡ (if same_serial q serial then a else b q)
    about ask a b mine q theirs = ap ask (put q) ∙ by_test (same_serial q serial)
      where
        by_test : (t : Bool) → ask (cond t f (followed_at kept q)) ≡ (if t then a else b q)
        by_test true = mine
        by_test false = theirs

    same_about : {A : Type 0} (ask : Followed → A) → ask f ≡ ask (followed_at kept serial) → (q : Serial) → ask (followed_at (kept_following kept serial f) q) ≡ ask (followed_at kept q)
    same_about ask same q = ap ask (put q) ∙ elim (cases_Bool (same_serial q serial)) [
      | inl t ↦ ap (λ b. ask (cond b f (followed_at kept q))) t ∙ same ∙ ap (λ s. ask (followed_at kept s)) (sym (same_serial-true q serial t))
      | inr f1 ↦ ap (λ b. ask (cond b f (followed_at kept q))) f1
    ]

  pub units_enabled : (serial : Serial) → SameUnits (known_of (kept_following kept serial (enabled (followed_at kept serial)))) (spec.after_enable known serial)
  units_enabled serial = record {
    numbers = λ q. refl;
    holds = λ q. same_about serial f (λ (x : Followed). fact_of x.holds) refl q;
    disabled = λ q. about serial f (λ (x : Followed). sure_of x.disabled) facts.No known.disabled refl q refl;
    asks = λ q. same_about serial f (λ (x : Followed). x.asks) refl q;
    asked = λ q. same_about serial f (λ (x : Followed). sure_of x.asked) refl q;
    overhead = refl;
    up = refl;
  }
    where
      f : Followed
      f = enabled (followed_at kept serial)

  -- where no ONU-ID changes its unit
  kept_as : (new : Kept) → length new.rows ≡ 256 → IsNot new.others.holds → IsNotYes new.others.asked
      → ((n : ℕ) → holder_of (number_of (row_at new n)) ≡ holder_of (known.numbers n)) → ((s : Serial) → fact_of (let f = followed_at new s in f.holds) ≡ known.holds s) → AreIndexed new
  kept_as new long unheld unasked numbers holds = record { long = long; unheld = unheld; unasked = unasked; indexed = indexed_as known (known_of new) numbers holds is.indexed }

  pub kept-following : (serial : Serial) (f : Followed) → f.holds ≡ (followed_at kept serial).holds → AreIndexed (kept_following kept serial f)
  kept-following serial f same = kept_as (kept_following kept serial f) is.long is.unheld is.unasked (λ n. refl) (λ s. same_about serial f (λ (x : Followed). fact_of x.holds) (ap fact_of same) s)

  -- ---- Disable_Serial_Number

  pub units_disabled : (serial : Serial) → SameUnits (known_of (kept_disabled kept serial (disabled_serial (followed_at kept serial)))) (spec.after_disable known serial)
  units_disabled serial = record {
    numbers = λ q. read-without serial q;
    holds = λ q. about serial f (λ (x : Followed). fact_of x.holds) facts.Nothing known.holds refl q refl;
    disabled = λ q. about serial f (λ (x : Followed). sure_of x.disabled) facts.Yes known.disabled refl q refl;
    asks = λ q. same_about serial f (λ (x : Followed). x.asks) refl q;
    asked = λ q. same_about serial f (λ (x : Followed). sure_of x.asked) refl q;
    overhead = refl;
    up = refl;
  }
    where
      f : Followed
      f = disabled_serial (followed_at kept serial)

  pub kept-disabled : (serial : Serial) → AreIndexed (kept_disabled kept serial (disabled_serial (followed_at kept serial)))
  kept-disabled serial = record {
    long = long-without (followed_at kept serial).holds;
    unheld = is.unheld;
    unasked = is.unasked;
    indexed = indexed_same (spec.after_disable known serial) (known_of (kept_disabled kept serial (disabled_serial (followed_at kept serial)))) (units_disabled serial) (indexed-disable known is.indexed serial);
  }

  -- ---- Deactivate_ONU-ID

  is_dropped : (n : spec.Number) → spec.Nobodys ≡ spec.dropped n
  is_dropped spec.Unheard = refl
  is_dropped spec.Nobodys = refl
  is_dropped (spec.Of holder delay answers) = refl

  module _ (onu : ℕ) (low : onu < 256) where
    read-dropped : (q : Serial) → followed_at (kept_dropped kept onu) q ≡ cond (is_held_by (row_at kept onu) q) (released (followed_at kept q)) (followed_at kept q)
    read-dropped q = read-index_without kept.followed (row_at kept onu) (λ h e. followed_there h onu (is.indexed.held onu h e)) q

    pub units_dropped : SameUnits (known_of (kept_dropped kept onu)) (spec.after_drop known onu)
    units_dropped = record {
      numbers = λ q. ap number_of (read-row onu row.Nobodys q low) ∙ by_test q (q == onu);
      holds = λ q. ap (λ (x : Followed). fact_of x.holds) (read-dropped q) ∙ released_holds (is_held_by (row_at kept onu) q) (followed_at kept q) ∙ sym (gave_up_is known is.indexed onu (row_at kept onu) refl q);
      disabled = λ q. ap (λ (x : Followed). sure_of x.disabled) (read-dropped q) ∙ released_same (λ (x : Followed). sure_of x.disabled) (λ x. refl) (is_held_by (row_at kept onu) q) (followed_at kept q);
      asks = λ q. ap (λ (x : Followed). x.asks) (read-dropped q) ∙ released_same (λ (x : Followed). x.asks) (λ x. refl) (is_held_by (row_at kept onu) q) (followed_at kept q);
      asked = λ q. ap (λ (x : Followed). sure_of x.asked) (read-dropped q) ∙ released_same (λ (x : Followed). sure_of x.asked) (λ x. refl) (is_held_by (row_at kept onu) q) (followed_at kept q);
      overhead = refl;
      up = refl;
    }
      where
        by_test : (q : ℕ) (b : Bool) → number_of (cond b row.Nobodys (row_at kept q)) ≡ (if b then spec.dropped (known.numbers q) else known.numbers q)
        by_test q true = is_dropped (known.numbers q)
        by_test q false = refl

    pub kept-dropped : AreIndexed (kept_dropped kept onu)
    kept-dropped = record {
      long = length-set kept.rows onu row.Nobodys ∙ is.long;
      unheld = is.unheld;
      unasked = is.unasked;
      indexed = indexed_same (spec.after_drop known onu) (known_of (kept_dropped kept onu)) units_dropped (indexed-drop known is.indexed onu);
    }

  read-all_dropped : (q : Serial) → followed_at (kept_all_dropped kept) q ≡ released (followed_at kept q)
  read-all_dropped q = read-each kept.followed kept.others released q

  pub units_all_dropped : SameUnits (known_of (kept_all_dropped kept)) (spec.after_drop_all known)
  units_all_dropped = record {
    numbers = λ q. ap number_of (get-map dropped_row kept.rows (row_beyond kept.others.holds) row.Nobodys q refl) ∙ is_dropped (known.numbers q);
    holds = λ q. ap (λ (x : Followed). fact_of x.holds) (read-all_dropped q);
    disabled = λ q. ap (λ (x : Followed). sure_of x.disabled) (read-all_dropped q);
    asks = λ q. ap (λ (x : Followed). x.asks) (read-all_dropped q);
    asked = λ q. ap (λ (x : Followed). sure_of x.asked) (read-all_dropped q);
    overhead = refl;
    up = refl;
  }

  pub kept-all_dropped : AreIndexed (kept_all_dropped kept)
  kept-all_dropped = record {
    long = length-map kept.rows dropped_row ∙ is.long;
    unheld = tt;
    unasked = is.unasked;
    indexed = indexed_same (spec.after_drop_all known) (known_of (kept_all_dropped kept)) units_all_dropped (indexed-drop_all known is.indexed);
  }

  -- ---- Enable_All

  read-all_enabled : (q : Serial) → followed_at (kept_all_enabled kept) q ≡ enabled (followed_at kept q)
  read-all_enabled q = read-each kept.followed kept.others enabled q

  pub units_all_enabled : SameUnits (known_of (kept_all_enabled kept)) (record known { disabled = λ serial. facts.No })
  units_all_enabled = record {
    numbers = λ q. refl;
    holds = λ q. ap (λ (x : Followed). fact_of x.holds) (read-all_enabled q);
    disabled = λ q. ap (λ (x : Followed). sure_of x.disabled) (read-all_enabled q);
    asks = λ q. ap (λ (x : Followed). x.asks) (read-all_enabled q);
    asked = λ q. ap (λ (x : Followed). sure_of x.asked) (read-all_enabled q);
    overhead = refl;
    up = refl;
  }

  pub kept-all_enabled : AreIndexed (kept_all_enabled kept)
  kept-all_enabled = kept_as (kept_all_enabled kept) is.long is.unheld is.unasked (λ n. refl) (λ s. ap (λ (x : Followed). fact_of x.holds) (read-all_enabled s))

  -- ---- a row is written, its unit stays

  pub units_with_row : (n : ℕ) (r : Row) (change : spec.Number → spec.Number) → n < 256 → number_of r ≡ change (known.numbers n)
      → SameUnits (known_of (kept_with_row kept n r)) (record known { numbers = λ q. if q == n then change (known.numbers q) else known.numbers q })
  units_with_row n r change low to = record {
    numbers = λ q. ap number_of (read-row n r q low) ∙ elim (cases_eq q n) [
      | inl here ↦
          ap (λ b. number_of (cond b r (row_at kept q))) (eq-eqb q n here) ∙ to ∙ ap (λ k. change (known.numbers k)) (sym here)
          ∙ sym (ap (λ b. cond b (change (known.numbers q)) (known.numbers q)) (eq-eqb q n here))
      | inr other ↦
          ap (λ b. number_of (cond b r (row_at kept q))) (ne_eqb q n other)
          ∙ sym (ap (λ b. cond b (change (known.numbers q)) (known.numbers q)) (ne_eqb q n other))
    ];
    holds = λ q. refl;
    disabled = λ q. refl;
    asks = λ q. refl;
    asked = λ q. refl;
    overhead = refl;
    up = refl;
  }

  pub kept-with_row : (n : ℕ) (r : Row) → n < 256 → holder_of (number_of r) ≡ holder_of (known.numbers n) → AreIndexed (kept_with_row kept n r)
  kept-with_row n r low same = kept_as (kept_with_row kept n r) (length-set kept.rows n r ∙ is.long) is.unheld is.unasked
      (λ q. ap (λ x. holder_of (number_of x)) (read-row n r q low) ∙ elim (cases_eq q n) [
        | inl here ↦ ap (λ b. holder_of (number_of (cond b r (row_at kept q)))) (eq-eqb q n here) ∙ same ∙ ap (λ k. holder_of (known.numbers k)) (sym here)
        | inr other ↦ ap (λ b. holder_of (number_of (cond b r (row_at kept q)))) (ne_eqb q n other)
      ])
      (λ s. refl)

  -- ---- POPUP of all

  pub popped_up_is : (r : Row) → number_of (popped_up_row r) ≡ spec.popped_up (number_of r)
  popped_up_is row.Unheard = refl
  popped_up_is row.Nobodys = refl
  popped_up_is (row.Of holder fact.Unknown answers) = refl
  popped_up_is (row.Of holder fact.Nothing answers) = refl
  popped_up_is (row.Of holder (fact.Is delay) answers) = refl

  popped_up_beyond : (f : Fact ℕ) → popped_up_row (row_beyond f) ≡ row_beyond f
  popped_up_beyond fact.Unknown = refl
  popped_up_beyond fact.Nothing = refl
  popped_up_beyond (fact.Is n) = refl

  read-popped_up : (q : ℕ) → number_of (row_at (kept_popped_up kept) q) ≡ spec.popped_up (known.numbers q)
  read-popped_up q =
      ap number_of (get-map popped_up_row kept.rows (row_beyond kept.others.holds) (row_beyond kept.others.holds) q (popped_up_beyond kept.others.holds))
      ∙ popped_up_is (row_at kept q)

  pub units_popped_up : SameUnits (known_of (kept_popped_up kept)) (spec.after_pop_up_all known)
  units_popped_up = record {
    numbers = read-popped_up;
    holds = λ q. refl;
    disabled = λ q. refl;
    asks = λ q. refl;
    asked = λ q. refl;
    overhead = refl;
    up = refl;
  }

  pub kept-popped_up : AreIndexed (kept_popped_up kept)
  kept-popped_up = kept_as (kept_popped_up kept) (length-map kept.rows popped_up_row ∙ is.long) is.unheld is.unasked
      (λ n. ap holder_of (read-popped_up n) ∙ same_holder (known.numbers n)) (λ s. refl)
    where
      same_holder : (n : spec.Number) → holder_of (spec.popped_up n) ≡ holder_of n
      same_holder spec.Unheard = refl
      same_holder spec.Nobodys = refl
      same_holder (spec.Of holder delay answers) = refl

pub ranged_holder : (n : spec.Number) (eqd : ℕ) → holder_of (spec.ranged n eqd) ≡ holder_of n
ranged_holder spec.Unheard eqd = refl
ranged_holder spec.Nobodys eqd = refl
ranged_holder (spec.Of holder delay answers) eqd = refl

pub popped_up_holder : (r : Row) → holder_of (number_of (popped_up_row r)) ≡ holder_of (number_of r)
popped_up_holder row.Unheard = refl
popped_up_holder row.Nobodys = refl
popped_up_holder (row.Of holder fact.Unknown answers) = refl
popped_up_holder (row.Of holder fact.Nothing answers) = refl
popped_up_holder (row.Of holder (fact.Is delay) answers) = refl

pub asked_is : (b : Bool) (x y : Followed) → (if b then None else Some x) ≡ Some y → y ≡ x
asked_is true x y h = absurd (none_some y h)
  where
    none_some : (f : Followed) → None ≡ Some f → ⊥
    none_some f e = cc
asked_is false x y h = one x y h
  where
    one : (f g : Followed) → Some f ≡ Some g → g ≡ f
    one f g e = cc

-- ---- a unit gives its serial number

module _ (kept : Kept) (is : AreIndexed kept) (serial : Serial) where
  abbrev now : spec.Known
  now = known_of kept

  pub units_asking : SameUnits (known_of (kept_following kept serial (asking_serial (followed_at kept serial)))) (after_serial now broadcast_onu serial)
  units_asking = record {
    numbers = λ q. refl;
    holds = λ q. same_about kept is serial f (λ (x : Followed). fact_of x.holds) refl q;
    disabled = λ q. same_about kept is serial f (λ (x : Followed). sure_of x.disabled) refl q;
    asks = λ q. about kept is serial f (λ (x : Followed). x.asks) (spec.asks_more (now.asks serial)) now.asks refl q refl ∙ own q;
    asked = λ q. about kept is serial f (λ (x : Followed). sure_of x.asked) facts.Yes now.asked refl q refl;
    overhead = refl;
    up = refl;
  }
    where
      f : Followed
      f = asking_serial (followed_at kept serial)

      own : (q : Serial) → (if same_serial q serial then spec.asks_more (now.asks serial) else now.asks q) ≡ (if same_serial q serial then spec.asks_more (now.asks q) else now.asks q)
      own q = elim (cases_Bool (same_serial q serial)) [
        | inl t ↦ ap (λ s. if same_serial q serial then spec.asks_more (now.asks s) else now.asks q) (sym (same_serial-true q serial t))
        | inr f1 ↦ ap (λ t. cond t (spec.asks_more (now.asks serial)) (now.asks q)) f1 ∙ sym (ap (λ t. cond t (spec.asks_more (now.asks q)) (now.asks q)) f1)
      ]

  abbrev pub answering : Kept
  answering = record kept { followed = changed kept.followed serial answered }

  read-answering : (q : Serial) → followed_at answering q ≡ cond (same_serial q serial) (answered (followed_at kept q)) (followed_at kept q)
  read-answering q = read-changed_any kept.followed kept.others serial answered (still kept.others is.unasked) q
    where
      still : (x : Followed) → IsNotYes x.asked → answered x ≡ x
      still x h = by_asked x.asked h
        where
          by_asked : (s : Sure) → IsNotYes s → record x { asked = asked_answered s } ≡ record x { asked = s }
          by_asked sure.Yes h1 = absurd h1
          by_asked sure.No h1 = refl
          by_asked sure.Unsure h1 = refl

  same_answering : {A : Type 0} (ask : Followed → A) → ((x : Followed) → ask (answered x) ≡ ask x) → (q : Serial) → ask (followed_at answering q) ≡ ask (followed_at kept q)
  same_answering ask same q = ap ask (read-answering q) ∙ by_test (same_serial q serial)
    where
      by_test : (t : Bool) → ask (cond t (answered (followed_at kept q)) (followed_at kept q)) ≡ ask (followed_at kept q)
      by_test true = same (followed_at kept q)
      by_test false = refl

  pub units_answering : (onu : ℕ) → (onu == broadcast_onu) ≡ false → SameUnits (known_of answering) (after_serial now onu serial)
  units_answering onu other = record {
    numbers = λ q. refl;
    holds = λ q. same_answering (λ (x : Followed). fact_of x.holds) (λ x. refl) q;
    disabled = λ q. same_answering (λ (x : Followed). sure_of x.disabled) (λ x. refl) q;
    asks = λ q. same_answering (λ (x : Followed). x.asks) (λ x. refl) q ∙ sym (ap (λ b. if b && same_serial q serial then spec.asks_more (now.asks q) else now.asks q) other);
    asked = λ q. ap (λ (x : Followed). sure_of x.asked) (read-answering q) ∙ by_test q (same_serial q serial)
        ∙ sym (ap (λ b. if same_serial q serial then (if b then facts.Yes else spec.was_assigned (now.asked q)) else now.asked q) other);
    overhead = refl;
    up = refl;
  }
    where
      was : (s : Sure) → sure_of (asked_answered s) ≡ spec.was_assigned (sure_of s)
      was sure.Yes = refl
      was sure.No = refl
      was sure.Unsure = refl

      by_test : (q : Serial) (t : Bool) → sure_of (let g = cond t (answered (followed_at kept q)) (followed_at kept q) in g.asked) ≡ (if t then spec.was_assigned (now.asked q) else now.asked q)
      by_test q true = was (let g = followed_at kept q in g.asked)
      by_test q false = refl

  pub kept-answering : AreIndexed answering
  kept-answering = kept_as kept is answering is.long is.unheld is.unasked (λ n. refl) (λ s. same_answering (λ (x : Followed). fact_of x.holds) (λ x. refl) s)

-- ---- and what it says with its ONU-ID

pub spoken_holder : (n : spec.Number) (message : Up) (delay : Option ℕ) → holder_of (spec.spoken n message delay) ≡ holder_of n
spoken_holder spec.Unheard message delay = refl
spoken_holder spec.Nobodys message delay = refl
spoken_holder (spec.Of holder eqd answers) message delay = by_test (spec.is_by holder message)
  where
    by_test : (b : Bool) → holder_of (if b then spec.Of holder eqd (spec.answers_with answers delay) else spec.Of holder eqd answers) ≡ Some holder
    by_test true = refl
    by_test false = refl

module _ (kept : Kept) (is : AreIndexed kept) (onu : ℕ) (low : onu < 256) (r : Row) (message : Up) (delay : Option ℕ) (known : spec.Known)
    (to : number_of r ≡ spec.spoken (number_of (row_at kept onu)) message delay) where
  pub kept-spoken : AreIndexed (kept_spoken kept onu r)
  kept-spoken =
      let new = kept-with_row kept is onu r low (ap holder_of to ∙ spoken_holder (number_of (row_at kept onu)) message delay) in
      record { long = new.long; unheld = new.unheld; unasked = new.unasked; indexed = indexed_as (known_of (kept_with_row kept onu r)) (known_of (kept_spoken kept onu r)) (λ n. refl) (λ s. refl) new.indexed }

  pub units_spoken : onu ≡ octet1_of message → SameUnits (known_of kept) (serial_told known message) → SameUnits (known_of (kept_spoken kept onu r)) (spec.after_answer known message delay)
  units_spoken octet1 told =
      let new = units_with_row kept is onu r (λ n. spec.spoken n message delay) low to in
      record {
        numbers = λ q. new.numbers q ∙ ap (λ (n : spec.Number). if q == onu then spec.spoken n message delay else n) (told.numbers q ∙ numbers message q)
            ∙ ap (λ o. if q == o then spec.spoken (known.numbers q) message delay else known.numbers q) octet1;
        holds = λ q. told.holds q ∙ holds message q;
        disabled = λ q. told.disabled q ∙ disabled message q;
        asks = λ q. told.asks q ∙ asks message q;
        asked = λ q. told.asked q ∙ asked message q;
        overhead = told.overhead ∙ overhead message;
        up = refl;
      }
    where
      numbers : (m : Up) (q : ℕ) → (serial_told known m).numbers q ≡ known.numbers q
      numbers (SerialNumber n serial random flags) q = refl
      numbers _ q = refl

      holds : (m : Up) (q : Serial) → (serial_told known m).holds q ≡ known.holds q
      holds (SerialNumber n serial random flags) q = refl
      holds _ q = refl

      disabled : (m : Up) (q : Serial) → (serial_told known m).disabled q ≡ known.disabled q
      disabled (SerialNumber n serial random flags) q = refl
      disabled _ q = refl

      asks : (m : Up) (q : Serial) → (serial_told known m).asks q ≡ (if spec.asked_by m q then spec.asks_more (known.asks q) else known.asks q)
      asks (SerialNumber n serial random flags) q = refl
      asks _ q = refl

      asked : (m : Up) (q : Serial) → (serial_told known m).asked q ≡ spec.asked_with m q (known.asked q)
      asked (SerialNumber n serial random flags) q = refl
      asked _ q = refl

      overhead : (m : Up) → (serial_told known m).overhead ≡ known.overhead
      overhead (SerialNumber n serial random flags) = refl
      overhead _ = refl
