-- A ranging window among any number of units: exactly the unit that is asked answers; what its measuring leaves of the
-- others; where all operate nothing is left to be done.
use Rattle.std.proofs.Common.{◌≡◌, ℕ, suc, ◌-◌, ◌≤◌, ◌||◌, not, Bool, true, false, List, [], ◌∷◌, ◌++◌, map, Option, None, Some, ◌⊎◌, inl, inr, refl, sym, ap, subst, ◌∙◌, arith}
use Rattle.std.specs.Prelude.{All, Contains}
use Rattle.std.specs.Option.{option_to_list}
use Rattle.std.specs.FinMap.{get, insert}
use Rattle.std.proofs.lemmas.Bool.{cases_Bool, ne_eqb, false≢true}
use Rattle.std.proofs.lemmas.List.Elements.{All-cons, All-nil, All-head, All-tail}
use Rattle.gp_ploam.specs.declared.message.Serial.{Serial}
use Rattle.gp_ploam.specs.declared.message.Down.TheVariants.{RangingTime}
use Rattle.gp_ploam.specs.declared.message.Up.TheVariants.{SerialNumber as serial_number}
use Rattle.gp_ploam.specs.Mask.{mask_value}
use Rattle.gp_ploam.specs.Serials.{same_serial, is_among}
use Rattle.gp_ploam.specs.Up.{code_of_up}
use Rattle.gp_ploam.proofs.Serials.{same_serial-true, same_serial-itself}
use Rattle.gp_ranging.specs.declared.grant.Grant.TheVariants.{Range}
use Rattle.gp_unit.specs.declared.row.Row.{Row}
use Rattle.gp_unit.specs.Rows.{new_row, row_measured, is_ranging}
use Rattle.gp_machine.specs.declared.config.PortConfig.{PortConfig}
use Rattle.gp_machine.specs.Config.{is_distinct}
use Rattle.gp_machine.specs.State.{Rows, HasRow}
use Rattle.gp_machine.proofs.Units.{has_it, one_row, not_none}
use Rattle.gp_machine.proofs.Walks.{both_true}
use Rattle.gp_onu.specs.declared.stage.Stage.{Stage}
use Rattle.gp_onu.specs.declared.stage.Stage.TheVariants.{SerialNumber, Ranging, Operation}
use Rattle.gp_fibre.specs.declared.sent_burst.SentBurst.{SentBurst}
use Rattle.gp_fibre.specs.World.{FibreUnit}
use Rattle.gp_fibre.specs.Step.{burst_answered, burst_with, unit_granted}
use Rattle.gp_success.proofs.AllUnits.{bursts_answered}
use Rattle.gp_success.proofs.LinkedUnits.{OnFibre, AreApart, IsLinked, count_new, in_stage, operating_row, total_by, unit_of, weight_of}
use Rattle.gp_success.proofs.Hearing.{answers_range, ranged}
use Rattle.gp_success.proofs.Counting.{at_others, same_either}

-- ---- nothing is left to be done

-- the unit operates
abbrev pub Operating : PortConfig → Rows → OnFibre → Type 0
Operating c rows x = (onu : ℕ) × (x.stage ≡ Operation onu (c.teqd - x.delay) None) × HasRow rows x.serial (operating_row c x onu)

-- where no unit weighs anything, and nothing is untold, each operates
pub all_operate : (c : PortConfig) (rows : Rows) (frames : ℕ) (xs : List OnFibre) → total_by weight_of rows xs ≡ 0 → All (IsLinked c rows [] frames) xs
    → All (Operating c rows) xs
all_operate c rows frames [] light linked = All-nil (Operating c rows)
all_operate c rows frames (x ∷ xs) light linked =
    All-cons (Operating c rows) x xs (here (All-head (IsLinked c rows [] frames) x xs linked)) (all_operate c rows frames xs (omega arith) (All-tail (IsLinked c rows [] frames) x xs linked))
  where
    here : IsLinked c rows [] frames x → Operating c rows x
    here (IsLinked.new f low at none) = absurd (let heavy : weight_of (get rows x.serial) ≡ 9 = ap weight_of none in omega arith)
    here (IsLinked.found f onu low at has owed) = absurd (let below = owed.1 in omega arith)
    here (IsLinked.ranging f onu low at has) = absurd (let heavy : weight_of (get rows x.serial) ≡ 6 = ap weight_of has in omega arith)
    here (IsLinked.measured f onu low at has owed) = absurd (let below = owed.1 in omega arith)
    here (IsLinked.operates onu at has) = (onu, at, has)

-- where some unit weighs something, and each has a row, one is ranging
pub some_ranges : (c : PortConfig) (rows : Rows) (frames : ℕ) (xs : List OnFibre) → 1 ≤ total_by weight_of rows xs → total_by count_new rows xs ≡ 0 → All (IsLinked c rows [] frames) xs
    → (s : Serial) × (onu : ℕ) × HasRow rows s (new_row onu)
some_ranges c rows frames [] heavy old linked = absurd (omega arith)
some_ranges c rows frames (x ∷ xs) heavy old linked =
    by (λ more. some_ranges c rows frames xs more (omega arith) (All-tail (IsLinked c rows [] frames) x xs linked)) (All-head (IsLinked c rows [] frames) x xs linked)
  where
    by : (1 ≤ total_by weight_of rows xs → (s : Serial) × (onu : ℕ) × HasRow rows s (new_row onu)) → IsLinked c rows [] frames x → (s : Serial) × (onu : ℕ) × HasRow rows s (new_row onu)
    by rest (IsLinked.new f low at none) = absurd (let one : count_new (get rows x.serial) ≡ 1 = ap count_new none in omega arith)
    by rest (IsLinked.found f onu low at has owed) = absurd (let below = owed.1 in omega arith)
    by rest (IsLinked.ranging f onu low at has) = (x.serial, onu, has)
    by rest (IsLinked.measured f onu low at has owed) = absurd (let below = owed.1 in omega arith)
    by rest (IsLinked.operates onu at has) = rest (let light : weight_of (get rows x.serial) ≡ 0 = ap weight_of has in omega arith)

-- a row that is ranging is as new
pub as_new : (c : PortConfig) (rows : Rows) (frames : ℕ) (s : Serial) (row : Row) (xs : List OnFibre) → HasRow rows s row → is_ranging row.phase ≡ true → is_among s (map (λ (x : OnFibre). x.serial) xs) ≡ true → All (IsLinked c rows [] frames) xs
    → row ≡ new_row row.onu
as_new c rows frames s row [] has test there linked = absurd (false≢true there)
as_new c rows frames s row (x ∷ xs) has test there linked =
    by (λ among. as_new c rows frames s row xs has test among (All-tail (IsLinked c rows [] frames) x xs linked)) (same_serial s x.serial) refl
  where
    here : HasRow rows x.serial row → IsLinked c rows [] frames x → row ≡ new_row row.onu
    here its (IsLinked.new f low at none) = absurd (not_none row (sym none ∙ its))
    here its (IsLinked.found f n low at has owed) = absurd (let below = owed.1 in omega arith)
    here its (IsLinked.ranging f n low at has) = let e = one_row row (new_row n) (sym its ∙ has) in e ∙ ap (λ (k : ℕ). new_row k) (sym (ap (λ (q : Row). q.onu) e))
    here its (IsLinked.measured f n low at has owed) = absurd (let below = owed.1 in omega arith)
    here its (IsLinked.operates n at has) = absurd (false≢true (ap (λ (q : Row). is_ranging q.phase) (sym (one_row row (operating_row c x n) (sym its ∙ has))) ∙ test))

    by : (is_among s (map (λ (x : OnFibre). x.serial) xs) ≡ true → row ≡ new_row row.onu) → (b : Bool) → same_serial s x.serial ≡ b → row ≡ new_row row.onu
    by rest true is = here (subst (λ (t : Serial). HasRow rows t row) (same_serial-true s x.serial is) has) (All-head (IsLinked c rows [] frames) x xs linked)
    by rest false is = rest (sym (ap (λ (b : Bool). b || is_among s (map (λ (x : OnFibre). x.serial) xs)) is) ∙ there)

-- ---- a ranging window

module _ (c : PortConfig) (rows : Rows) (apart : AreApart rows) (frames : ℕ) (s : Serial) (onu : ℕ) (its : HasRow rows s (new_row onu)) where
  granted_as : (x : OnFibre) (st : Stage) → x.stage ≡ st → unit_granted (Range onu) (unit_of c.mask (in_stage x st)) ≡ unit_of c.mask (in_stage x st) → unit_granted (Range onu) (unit_of c.mask x) ≡ unit_of c.mask x
  granted_as x st is same = ap (λ (y : Stage). unit_granted (Range onu) (unit_of c.mask (in_stage x y))) is ∙ same ∙ ap (λ (y : Stage). unit_of c.mask (in_stage x y)) (sym is)

  answered_as : (x : OnFibre) (st : Stage) (o : Option SentBurst) → x.stage ≡ st → burst_answered (Range onu) (unit_of c.mask (in_stage x st)) ≡ o → burst_answered (Range onu) (unit_of c.mask x) ≡ o
  answered_as x st o is same = ap (λ (y : Stage). burst_answered (Range onu) (unit_of c.mask (in_stage x y))) is ∙ same

  -- another unit has another ONU-ID
  differs : (x : OnFibre) (row : Row) → same_serial s x.serial ≡ false → HasRow rows x.serial row → onu ≡ row.onu → ⊥
  differs x row other has is =
      let one : s ≡ x.serial = apart.apart s x.serial (new_row onu) row its has is in
      false≢true (sym other ∙ ap (λ (t : Serial). same_serial s t) (sym one) ∙ same_serial-itself s)

  pub stays_silent : (x : OnFibre) → same_serial s x.serial ≡ false → IsLinked c rows [] frames x → (unit_granted (Range onu) (unit_of c.mask x) ≡ unit_of c.mask x) × (burst_answered (Range onu) (unit_of c.mask x) ≡ None)
  stays_silent x other (IsLinked.new f low at none) = (granted_as x (SerialNumber f) at refl, answered_as x (SerialNumber f) None at refl)
  stays_silent x other (IsLinked.found f n low at has owed) = absurd (let below = owed.1 in omega arith)
  stays_silent x other (IsLinked.ranging f n low at has) =
      let out = ne_eqb onu n (differs x (new_row n) other has) in
      (granted_as x (Ranging n f) at (rw out refl), answered_as x (Ranging n f) None at (rw out refl))
  stays_silent x other (IsLinked.measured f n low at has owed) = absurd (let below = owed.1 in omega arith)
  stays_silent x other (IsLinked.operates n at has) =
      let out = ne_eqb onu n (differs x (operating_row c x n) other has) in
      (granted_as x (Operation n (c.teqd - x.delay) None) at (rw out refl), answered_as x (Operation n (c.teqd - x.delay) None) None at (rw out refl))

  -- the burst of the unit with this delay
  abbrev pub its_burst : ℕ → SentBurst
  its_burst delay = burst_with delay (code_of_up (serial_number onu s 0 0) (mask_value c.mask))

  pub answers_alone : (x : OnFibre) → same_serial s x.serial ≡ true → IsLinked c rows [] frames x
      → (unit_granted (Range onu) (unit_of c.mask x) ≡ unit_of c.mask x) × (burst_answered (Range onu) (unit_of c.mask x) ≡ Some (its_burst x.delay))
  answers_alone x same linked = by (same_serial-true s x.serial same) linked
    where
      phases_differ : (n : ℕ) → new_row onu ≡ operating_row c x n → ⊥
      phases_differ n e = let z : weight_of (Some (new_row onu)) ≡ weight_of (Some (operating_row c x n)) = ap (λ (q : Row). weight_of (Some q)) e in omega arith

      by : s ≡ x.serial → IsLinked c rows [] frames x → (unit_granted (Range onu) (unit_of c.mask x) ≡ unit_of c.mask x) × (burst_answered (Range onu) (unit_of c.mask x) ≡ Some (its_burst x.delay))
      by one (IsLinked.new f low at none) = absurd (not_none (new_row onu) (sym none ∙ ap (λ (t : Serial). get rows t) (sym one) ∙ its))
      by one (IsLinked.found f n low at has owed) = absurd (let below = owed.1 in omega arith)
      by one (IsLinked.ranging f n low at has) =
          let same_row : new_row onu ≡ new_row n = one_row (new_row onu) (new_row n) (sym its ∙ ap (λ (t : Serial). get rows t) one ∙ has) in
          let number : n ≡ onu = sym (ap (λ (q : Row). q.onu) same_row) in
          let now : x.stage ≡ Ranging onu f = at ∙ ap (λ (k : ℕ). Ranging k f) number in (
            granted_as x (Ranging onu f) now (ranged x.serial c.mask x.delay x.random onu f),
            answered_as x (Ranging onu f) (Some (its_burst x.delay)) now
                (answers_range x.serial c.mask x.delay x.random onu f ∙ ap (λ (t : Serial). let o : Option SentBurst = Some (burst_with x.delay (code_of_up (serial_number onu t 0 0) (mask_value c.mask))) in o) (sym one)),
          )
      by one (IsLinked.measured f n low at has owed) = absurd (let below = owed.1 in omega arith)
      by one (IsLinked.operates n at has) = absurd (phases_differ n (one_row (new_row onu) (operating_row c x n) (sym its ∙ ap (λ (t : Serial). get rows t) one ∙ has)))

  -- ---- what is left of a unit once that one is measured

  other_row : (row q : Row) (t : Serial) → same_serial s t ≡ false → HasRow rows t q → HasRow (insert rows s row) t q
  other_row row q t other has = at_others rows s row t (flip t other) ∙ has
    where
      flip : (t : Serial) → same_serial s t ≡ false → same_serial t s ≡ false
      flip t out = elim (cases_Bool (same_serial t s)) [
        | inl b ↦ absurd (false≢true (sym out ∙ ap (λ (y : Serial). same_serial s y) (same_serial-true t s b) ∙ same_serial-itself s))
        | inr b ↦ b
      ]

  -- that one is now to be told its delay, and the others are tied as before
  pub link_measured : (x : OnFibre) (d : ℕ) → (same_serial s x.serial ≡ true → x.delay ≡ d) → IsLinked c rows [] frames x
      → IsLinked c (insert rows s (row_measured (new_row onu) (c.teqd - d))) (RangingTime onu (c.teqd - d) ∷ []) frames x
  link_measured x d its_delay linked = by_serial (cases_Bool (same_serial s x.serial))
    where
      row : Row
      row = row_measured (new_row onu) (c.teqd - d)

      After : Type 0
      After = IsLinked c (insert rows s row) (RangingTime onu (c.teqd - d) ∷ []) frames x

      others : same_serial s x.serial ≡ false → IsLinked c rows [] frames x → After
      others out (IsLinked.new f low at none) = IsLinked.new f low at (at_others rows s row x.serial (same_either s x.serial false out) ∙ none)
      others out (IsLinked.found f n low at has owed) = absurd (let below = owed.1 in omega arith)
      others out (IsLinked.ranging f n low at has) = IsLinked.ranging f n low at (other_row row (new_row n) x.serial out has)
      others out (IsLinked.measured f n low at has owed) = absurd (let below = owed.1 in omega arith)
      others out (IsLinked.operates n at has) = IsLinked.operates n at (other_row row (operating_row c x n) x.serial out has)

      it : same_serial s x.serial ≡ true → s ≡ x.serial → IsLinked c rows [] frames x → After
      it same one (IsLinked.new f low at none) = absurd (not_none (new_row onu) (sym none ∙ ap (λ (t : Serial). get rows t) (sym one) ∙ its))
      it same one (IsLinked.found f n low at has owed) = absurd (let below = owed.1 in omega arith)
      it same one (IsLinked.ranging f n low at has) =
          let same_row : new_row onu ≡ new_row n = one_row (new_row onu) (new_row n) (sym its ∙ ap (λ (t : Serial). get rows t) one ∙ has) in
          let number : n ≡ onu = sym (ap (λ (q : Row). q.onu) same_row) in
          let delay = its_delay same in
          IsLinked.measured f onu low (at ∙ ap (λ (k : ℕ). Ranging k f) number)
          (subst (λ (t : Serial). HasRow (insert rows s row) t (operating_row c x onu)) one (has_it rows s row ∙ ap (λ (k : ℕ). let o : Option Row = Some (row_measured (new_row onu) (c.teqd - k)) in o) (sym delay)))
          (0, omega arith, ap (λ (k : ℕ). RangingTime onu (c.teqd - k)) (sym delay))
      it same one (IsLinked.measured f n low at has owed) = absurd (let below = owed.1 in omega arith)
      it same one (IsLinked.operates n at has) =
          absurd
          (let e = one_row (new_row onu) (operating_row c x n) (sym its ∙ ap (λ (t : Serial). get rows t) one ∙ has) in
          let z : weight_of (Some (new_row onu)) ≡ weight_of (Some (operating_row c x n)) = ap (λ (q : Row). weight_of (Some q)) e in omega arith)

      by_serial : (same_serial s x.serial ≡ true) ⊎ (same_serial s x.serial ≡ false) → After
      by_serial (inl same) = it same (same_serial-true s x.serial same) linked
      by_serial (inr out) = others out linked

  -- ---- all units in a ranging window

  -- the unit with this serial number answers, and it alone
  pub record OneAnswers (xs : List OnFibre) : Type 0 where
    pub x : OnFibre
    pub is : x.serial ≡ s
    pub among : Contains xs x
    pub answer : bursts_answered (Range onu) (map (unit_of c.mask) xs) ≡ its_burst x.delay ∷ []
    pub delays : All (λ (y : OnFibre). same_serial s y.serial ≡ true → y.delay ≡ x.delay) xs

  pub all_stay : (xs : List OnFibre) → All (IsLinked c rows [] frames) xs → map (unit_granted (Range onu)) (map (unit_of c.mask) xs) ≡ map (unit_of c.mask) xs
  all_stay [] linked = refl
  all_stay (x ∷ xs) linked =
      ap (λ (u : FibreUnit). u ∷ map (unit_granted (Range onu)) (map (unit_of c.mask) xs)) (by (cases_Bool (same_serial s x.serial)))
      ∙ ap (λ (us : List FibreUnit). unit_of c.mask x ∷ us) (all_stay xs (All-tail (IsLinked c rows [] frames) x xs linked))
    where
      here : IsLinked c rows [] frames x
      here = All-head (IsLinked c rows [] frames) x xs linked

      by : (same_serial s x.serial ≡ true) ⊎ (same_serial s x.serial ≡ false) → unit_granted (Range onu) (unit_of c.mask x) ≡ unit_of c.mask x
      by (inl same) = let a = answers_alone x same here in a.0
      by (inr out) = let a = stays_silent x out here in a.0

  none_answers : (xs : List OnFibre) → is_among s (map (λ (x : OnFibre). x.serial) xs) ≡ false → All (IsLinked c rows [] frames) xs → bursts_answered (Range onu) (map (unit_of c.mask) xs) ≡ []
  none_answers [] out linked = refl
  none_answers (x ∷ xs) out linked = by (λ rest. none_answers xs rest (All-tail (IsLinked c rows [] frames) x xs linked)) (same_serial s x.serial) refl
    where
      by : (is_among s (map (λ (x : OnFibre). x.serial) xs) ≡ false → bursts_answered (Range onu) (map (unit_of c.mask) xs) ≡ []) → (b : Bool) → same_serial s x.serial ≡ b
          → bursts_answered (Range onu) (map (unit_of c.mask) (x ∷ xs)) ≡ []
      by rest true is = absurd (false≢true (sym out ∙ ap (λ (b : Bool). b || is_among s (map (λ (x : OnFibre). x.serial) xs)) is))
      by rest false is =
          let a = stays_silent x is (All-head (IsLinked c rows [] frames) x xs linked) in
          ap (λ (o : Option SentBurst). option_to_list o ++ bursts_answered (Range onu) (map (unit_of c.mask) xs)) a.1
          ∙ rest (sym (ap (λ (b : Bool). b || is_among s (map (λ (x : OnFibre). x.serial) xs)) is) ∙ out)

  not_there : (d : ℕ) (xs : List OnFibre) → is_among s (map (λ (x : OnFibre). x.serial) xs) ≡ false → All (λ (y : OnFibre). same_serial s y.serial ≡ true → y.delay ≡ d) xs
  not_there d [] out = All-nil (λ (y : OnFibre). same_serial s y.serial ≡ true → y.delay ≡ d)
  not_there d (x ∷ xs) out =
      All-cons (λ (y : OnFibre). same_serial s y.serial ≡ true → y.delay ≡ d) x xs
      (λ same. absurd (false≢true (sym out ∙ ap (λ (b : Bool). b || is_among s (map (λ (x : OnFibre). x.serial) xs)) same)))
      (not_there d xs (by (same_serial s x.serial) out))
    where
      by : (b : Bool) → (b || is_among s (map (λ (x : OnFibre). x.serial) xs)) ≡ false → is_among s (map (λ (x : OnFibre). x.serial) xs) ≡ false
      by true e = absurd (false≢true (sym e))
      by false e = e

  pub one_answers : (xs : List OnFibre) → is_distinct (map (λ (x : OnFibre). x.serial) xs) ≡ true → is_among s (map (λ (x : OnFibre). x.serial) xs) ≡ true → All (IsLinked c rows [] frames) xs → OneAnswers xs
  one_answers [] distinct there linked = absurd (false≢true there)
  one_answers (x ∷ xs) distinct there linked =
      by (λ among. one_answers xs (both_true _ _ distinct).1 among (All-tail (IsLinked c rows [] frames) x xs linked)) (same_serial s x.serial) refl
    where
      not_true : (b : Bool) → not b ≡ true → b ≡ false
      not_true true h = sym h
      not_true false h = refl

      by : (is_among s (map (λ (x : OnFibre). x.serial) xs) ≡ true → OneAnswers xs) → (b : Bool) → same_serial s x.serial ≡ b → OneAnswers (x ∷ xs)
      by rest true is =
          let one = same_serial-true s x.serial is in
          let alone : is_among s (map (λ (x : OnFibre). x.serial) xs) ≡ false = ap (λ (t : Serial). is_among t (map (λ (x : OnFibre). x.serial) xs)) one ∙ not_true _ (both_true _ _ distinct).0 in
          let a = answers_alone x is (All-head (IsLinked c rows [] frames) x xs linked) in
          record {
            x = x;
            is = sym one;
            among = (0, omega arith, refl);
            answer =
                ap (λ (o : Option SentBurst). option_to_list o ++ bursts_answered (Range onu) (map (unit_of c.mask) xs)) a.1
                ∙ ap (λ (bs : List SentBurst). its_burst x.delay ∷ bs) (none_answers xs alone (All-tail (IsLinked c rows [] frames) x xs linked));
            delays = All-cons (λ (y : OnFibre). same_serial s y.serial ≡ true → y.delay ≡ x.delay) x xs (λ same. refl) (not_there x.delay xs alone);
          }
      by rest false is =
          let r = rest (sym (ap (λ (b : Bool). b || is_among s (map (λ (x : OnFibre). x.serial) xs)) is) ∙ there) in
          let a = stays_silent x is (All-head (IsLinked c rows [] frames) x xs linked) in
          record {
            x = r.x;
            is = r.is;
            among = let at = r.among in (suc at.0, let low = at.1 in omega arith, at.2);
            answer = ap (λ (o : Option SentBurst). option_to_list o ++ bursts_answered (Range onu) (map (unit_of c.mask) xs)) a.1 ∙ r.answer;
            delays = All-cons (λ (y : OnFibre). same_serial s y.serial ≡ true → y.delay ≡ r.x.delay) x xs (λ same. absurd (false≢true (sym is ∙ same))) r.delays;
          }
