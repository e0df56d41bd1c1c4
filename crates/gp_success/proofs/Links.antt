-- Each unit stays tied to its row and to what is owed when a copy is sent that a row backs.
use Rattle.std.proofs.Common.{◌≡◌, ℕ, ◌-◌, ◌==◌, ◌&&◌, Bool, true, false, List, [], ◌∷◌, map, None, ◌⊎◌, inl, inr, refl, sym, ap, subst, ◌∙◌}
use Rattle.std.specs.Prelude.{All, Contains, nat_le}
use Rattle.std.specs.FinMap.{get}
use Rattle.std.proofs.lemmas.Bool.{cases_Bool, eqb-true, eqb-false, ne_eqb, le-leb, false≢true}
use Rattle.std.proofs.lemmas.List.Elements.{All-cons, All-nil, All-head, All-tail}
use Rattle.gp_ploam.specs.declared.message.Serial.{Serial}
use Rattle.gp_ploam.specs.declared.message.Down.{Down}
use Rattle.gp_ploam.specs.declared.message.Down.TheVariants.{AssignOnu, RangingTime}
use Rattle.gp_ploam.specs.Serials.{same_serial}
use Rattle.gp_ploam.proofs.Serials.{same_serial-true, same_serial-itself}
use Rattle.gp_unit.specs.declared.row.Row.{Row}
use Rattle.gp_unit.specs.declared.row.Phase.TheVariants as phase
use Rattle.gp_unit.specs.Rows.{new_row}
use Rattle.gp_machine.specs.declared.config.PortConfig.{PortConfig}
use Rattle.gp_machine.specs.State.{Rows, HasRow}
use Rattle.gp_machine.proofs.Units.{one_row, not_none}
use Rattle.gp_onu.specs.declared.stage.Stage.{Stage}
use Rattle.gp_onu.specs.declared.stage.Stage.TheVariants.{SerialNumber, Ranging, Operation}
use Rattle.gp_fibre.specs.declared.unit_plan.UnitPlan.{UnitPlan}
use Rattle.gp_fibre.specs.World.{FibreUnit}
use Rattle.gp_fibre.specs.Step.{unit_hearing}
use Rattle.gp_success.proofs.LinkedUnits.{OnFibre, plan_of, unit_of, in_stage, operating_row, IsLinked, IsBacked, AreApart}
use Rattle.gp_success.proofs.Hearing.{hears_number, hears_delay, hears_delay_again}

module _ (c : PortConfig) (rows : Rows) (ap_rows : AreApart rows) (frames : ℕ) where
  -- what is left untold once a copy of a message is sent
  abbrev pub Tells : List Down → Down → List Down → Type 0
  Tells before m after = (x : Down) → Contains before x → (x ≡ m) ⊎ Contains after x

  -- a unit after a copy: its stage, and that it is tied as before
  pub record Hears (m : Down) (after : List Down) (x : OnFibre) : Type 0 where
    pub stage : Stage
    pub hears : unit_hearing m (unit_of c.mask x) ≡ unit_of c.mask (in_stage x stage)
    pub linked : IsLinked c rows after frames (in_stage x stage)

  as_stage : (x : OnFibre) (m : Down) (st : Stage) → x.stage ≡ st → unit_hearing m (unit_of c.mask x) ≡ unit_hearing m (unit_of c.mask (in_stage x st))
  as_stage x m st is = ap (λ (y : Stage). unit_hearing m (unit_of c.mask (in_stage x y))) is

  -- two rows of one unit are one
  same_row : (s : Serial) (row other : Row) → HasRow rows s row → HasRow rows s other → row ≡ other
  same_row s row other a b = one_row row other (sym a ∙ b)

  phases_differ : (a : ℕ) (b : Bool) (eqd x y : ℕ) → phase.Ranging a b ≡ phase.Operating eqd x y → ⊥
  phases_differ a b eqd x y e = cc

  -- ---- Assign_ONU-ID

  -- one of another unit changes nothing
  strange : (s : Serial) (x : OnFibre) (onu f : ℕ) → same_serial s x.serial ≡ false → unit_hearing (AssignOnu onu s) (unit_of c.mask (in_stage x (SerialNumber f))) ≡ unit_of c.mask (in_stage x (SerialNumber f))
  strange s x onu f other = rw other refl

  -- a unit that has an ONU-ID passes it over
  passes : (b : Bool) (x : OnFibre) (s : Serial) (onu has f : ℕ) → same_serial s x.serial && nat_le onu 253 ≡ b
      → unit_hearing (AssignOnu onu s) (unit_of c.mask (in_stage x (Ranging has f))) ≡ unit_of c.mask (in_stage x (Ranging has f))
  passes true x s onu has f is = rw is refl
  passes false x s onu has f is = rw is refl

  passes_operating : (b : Bool) (x : OnFibre) (s : Serial) (onu has eqd : ℕ) → same_serial s x.serial && nat_le onu 253 ≡ b
      → unit_hearing (AssignOnu onu s) (unit_of c.mask (in_stage x (Operation has eqd None))) ≡ unit_of c.mask (in_stage x (Operation has eqd None))
  passes_operating true x s onu has eqd is = rw is refl
  passes_operating false x s onu has eqd is = rw is refl

  pub hears_assign : (s : Serial) (row : Row) (before after : List Down) (x : OnFibre) → HasRow rows s row → Tells before (AssignOnu row.onu s) after → IsLinked c rows before frames x → Hears (AssignOnu row.onu s) after x
  hears_assign s row before after x has tells (IsLinked.new f soon at none) = by (same_serial s x.serial) refl
    where
      by : (b : Bool) → same_serial s x.serial ≡ b → Hears (AssignOnu row.onu s) after x
      by true is =
          let same = same_serial-true s x.serial is in
          absurd (not_none row (sym none ∙ ap (λ (t : Serial). get rows t) (sym same) ∙ has))
      by false is =
          record {
            stage = SerialNumber f;
            hears = as_stage x (AssignOnu row.onu s) (SerialNumber f) at ∙ strange s x row.onu f is;
            linked = IsLinked.new f soon refl none;
          }
  hears_assign s row before after x has tells (IsLinked.found f onu soon at its owed) = by (same_serial s x.serial) refl
    where
      by : (b : Bool) → same_serial s x.serial ≡ b → Hears (AssignOnu row.onu s) after x
      by true is =
          let same : s ≡ x.serial = same_serial-true s x.serial is in
          let one : row ≡ new_row onu = same_row x.serial row (new_row onu) (subst (λ (t : Serial). HasRow rows t row) same has) its in
          let number : row.onu ≡ onu = ap (λ (q : Row). q.onu) one in
          let low = ap_rows.low x.serial (new_row onu) its in
          record {
            stage = Ranging onu f;
            hears =
                as_stage x (AssignOnu row.onu s) (SerialNumber f) at
                ∙ ap (λ (t : Serial). unit_hearing (AssignOnu row.onu t) (unit_of c.mask (in_stage x (SerialNumber f)))) same
                ∙ ap (λ (n : ℕ). unit_hearing (AssignOnu n x.serial) (unit_of c.mask (in_stage x (SerialNumber f)))) number
                ∙ hears_number x.serial c.mask x.delay x.random onu f (le-leb onu 253 low);
            linked = IsLinked.ranging f onu soon refl its;
          }
      by false is = stays (tells (AssignOnu onu x.serial) owed)
        where
          one_serial : AssignOnu onu x.serial ≡ AssignOnu row.onu s → x.serial ≡ s
          one_serial e = cc

          stays : (AssignOnu onu x.serial ≡ AssignOnu row.onu s) ⊎ Contains after (AssignOnu onu x.serial) → Hears (AssignOnu row.onu s) after x
          stays (inl e) = absurd (false≢true (sym is ∙ ap (λ (t : Serial). same_serial s t) (one_serial e) ∙ same_serial-itself s))
          stays (inr left) =
              record {
                stage = SerialNumber f;
                hears = as_stage x (AssignOnu row.onu s) (SerialNumber f) at ∙ strange s x row.onu f is;
                linked = IsLinked.found f onu soon refl its left;
              }
  hears_assign s row before after x has tells (IsLinked.ranging f onu soon at its) =
      record {
        stage = Ranging onu f;
        hears = as_stage x (AssignOnu row.onu s) (Ranging onu f) at ∙ passes _ x s row.onu onu f refl;
        linked = IsLinked.ranging f onu soon refl its;
      }
  hears_assign s row before after x has tells (IsLinked.measured f onu soon at its owed) = stays (tells (RangingTime onu (c.teqd - x.delay)) owed)
    where
      other : RangingTime onu (c.teqd - x.delay) ≡ AssignOnu row.onu s → ⊥
      other e = cc

      stays : (RangingTime onu (c.teqd - x.delay) ≡ AssignOnu row.onu s) ⊎ Contains after (RangingTime onu (c.teqd - x.delay)) → Hears (AssignOnu row.onu s) after x
      stays (inl e) = absurd (other e)
      stays (inr left) =
          record {
            stage = Ranging onu f;
            hears = as_stage x (AssignOnu row.onu s) (Ranging onu f) at ∙ passes _ x s row.onu onu f refl;
            linked = IsLinked.measured f onu soon refl its left;
          }
  hears_assign s row before after x has tells (IsLinked.operates onu at its) =
      record {
        stage = Operation onu (c.teqd - x.delay) None;
        hears = as_stage x (AssignOnu row.onu s) (Operation onu (c.teqd - x.delay) None) at ∙ passes_operating _ x s row.onu onu (c.teqd - x.delay) refl;
        linked = IsLinked.operates onu refl its;
      }

  -- ---- Ranging_Time

  unasked : (x : OnFibre) (onu eqd f : ℕ) → unit_hearing (RangingTime onu eqd) (unit_of c.mask (in_stage x (SerialNumber f))) ≡ unit_of c.mask (in_stage x (SerialNumber f))
  unasked x onu eqd f = refl

  not_its : (x : OnFibre) (onu has eqd f : ℕ) → (onu ≡ has → ⊥) → unit_hearing (RangingTime onu eqd) (unit_of c.mask (in_stage x (Ranging has f))) ≡ unit_of c.mask (in_stage x (Ranging has f))
  not_its x onu has eqd f other = rw (ne_eqb onu has other) refl

  not_its_operating : (x : OnFibre) (onu has eqd its : ℕ) → (onu ≡ has → ⊥)
      → unit_hearing (RangingTime onu eqd) (unit_of c.mask (in_stage x (Operation has its None))) ≡ unit_of c.mask (in_stage x (Operation has its None))
  not_its_operating x onu has eqd its other = rw (ne_eqb onu has other) refl

  pub hears_ranging : (s : Serial) (row : Row) (eqd : ℕ) (before after : List Down) (x : OnFibre) → HasRow rows s row → row.phase ≡ phase.Operating eqd 0 0 → Tells before (RangingTime row.onu eqd) after → IsLinked c rows before frames x
      → Hears (RangingTime row.onu eqd) after x
  hears_ranging s row eqd before after x has op tells (IsLinked.new f soon at none) =
      record { stage = SerialNumber f; hears = as_stage x (RangingTime row.onu eqd) (SerialNumber f) at; linked = IsLinked.new f soon refl none }
  hears_ranging s row eqd before after x has op tells (IsLinked.found f onu soon at its owed) = stays (tells (AssignOnu onu x.serial) owed)
    where
      other : AssignOnu onu x.serial ≡ RangingTime row.onu eqd → ⊥
      other e = cc

      stays : (AssignOnu onu x.serial ≡ RangingTime row.onu eqd) ⊎ Contains after (AssignOnu onu x.serial) → Hears (RangingTime row.onu eqd) after x
      stays (inl e) = absurd (other e)
      stays (inr left) =
          record { stage = SerialNumber f; hears = as_stage x (RangingTime row.onu eqd) (SerialNumber f) at; linked = IsLinked.found f onu soon refl its left }
  hears_ranging s row eqd before after x has op tells (IsLinked.ranging f onu soon at its) =
      record {
        stage = Ranging onu f;
        hears = as_stage x (RangingTime row.onu eqd) (Ranging onu f) at ∙ not_its x row.onu onu eqd f differs;
        linked = IsLinked.ranging f onu soon refl its;
      }
    where
      differs : row.onu ≡ onu → ⊥
      differs e =
          let same : s ≡ x.serial = ap_rows.apart s x.serial row (new_row onu) has its e in
          let one : row ≡ new_row onu = same_row x.serial row (new_row onu) (subst (λ (t : Serial). HasRow rows t row) same has) its in
          phases_differ 0 false eqd 0 0 (sym (ap (λ (q : Row). q.phase) one) ∙ op)
  hears_ranging s row eqd before after x has op tells (IsLinked.measured f onu soon at its owed) = by (tells (RangingTime onu (c.teqd - x.delay)) owed)
    where
      one_number : RangingTime onu (c.teqd - x.delay) ≡ RangingTime row.onu eqd → row.onu ≡ onu
      one_number e = cc

      one_delay : phase.Operating (c.teqd - x.delay) 0 0 ≡ phase.Operating eqd 0 0 → c.teqd - x.delay ≡ eqd
      one_delay e = cc

      told : row.onu ≡ onu → Hears (RangingTime row.onu eqd) after x
      told e =
          let same : s ≡ x.serial = ap_rows.apart s x.serial row (operating_row c x onu) has its e in
          let one : row ≡ operating_row c x onu = same_row x.serial row (operating_row c x onu) (subst (λ (t : Serial). HasRow rows t row) same has) its in
          let delay : c.teqd - x.delay ≡ eqd = one_delay (sym (ap (λ (q : Row). q.phase) one) ∙ op) in
          record {
            stage = Operation onu (c.teqd - x.delay) None;
            hears =
                as_stage x (RangingTime row.onu eqd) (Ranging onu f) at
                ∙ ap (λ (n : ℕ). unit_hearing (RangingTime n eqd) (unit_of c.mask (in_stage x (Ranging onu f)))) e
                ∙ hears_delay x.serial c.mask x.delay x.random onu eqd f
                ∙ ap (λ (n : ℕ). unit_of c.mask (in_stage x (Operation onu n None))) (sym delay);
            linked = IsLinked.operates onu refl its;
          }

      by : (RangingTime onu (c.teqd - x.delay) ≡ RangingTime row.onu eqd) ⊎ Contains after (RangingTime onu (c.teqd - x.delay)) → Hears (RangingTime row.onu eqd) after x
      by (inl e) = told (one_number e)
      by (inr left) = by_number (cases_Bool (row.onu == onu))
        where
          by_number : (row.onu == onu ≡ true) ⊎ (row.onu == onu ≡ false) → Hears (RangingTime row.onu eqd) after x
          by_number (inl is) = told (eqb-true row.onu onu is)
          by_number (inr isnt) =
              record {
                stage = Ranging onu f;
                hears = as_stage x (RangingTime row.onu eqd) (Ranging onu f) at ∙ not_its x row.onu onu eqd f (eqb-false row.onu onu isnt);
                linked = IsLinked.measured f onu soon refl its left;
              }
  hears_ranging s row eqd before after x has op tells (IsLinked.operates onu at its) = by_number (cases_Bool (row.onu == onu))
    where
      one_delay : phase.Operating (c.teqd - x.delay) 0 0 ≡ phase.Operating eqd 0 0 → c.teqd - x.delay ≡ eqd
      one_delay e = cc

      by_number : (row.onu == onu ≡ true) ⊎ (row.onu == onu ≡ false) → Hears (RangingTime row.onu eqd) after x
      by_number (inl is) =
          let e = eqb-true row.onu onu is in
          let same : s ≡ x.serial = ap_rows.apart s x.serial row (operating_row c x onu) has its e in
          let one : row ≡ operating_row c x onu = same_row x.serial row (operating_row c x onu) (subst (λ (t : Serial). HasRow rows t row) same has) its in
          let delay : c.teqd - x.delay ≡ eqd = one_delay (sym (ap (λ (q : Row). q.phase) one) ∙ op) in
          record {
            stage = Operation onu (c.teqd - x.delay) None;
            hears =
                as_stage x (RangingTime row.onu eqd) (Operation onu (c.teqd - x.delay) None) at
                ∙ ap (λ (n : ℕ). unit_hearing (RangingTime n eqd) (unit_of c.mask (in_stage x (Operation onu (c.teqd - x.delay) None)))) e
                ∙ ap (λ (n : ℕ). unit_hearing (RangingTime onu n) (unit_of c.mask (in_stage x (Operation onu (c.teqd - x.delay) None)))) (sym delay)
                ∙ hears_delay_again x.serial c.mask x.delay x.random onu (c.teqd - x.delay);
            linked = IsLinked.operates onu refl its;
          }
      by_number (inr isnt) =
          record {
            stage = Operation onu (c.teqd - x.delay) None;
            hears = as_stage x (RangingTime row.onu eqd) (Operation onu (c.teqd - x.delay) None) at ∙ not_its_operating x row.onu onu eqd (c.teqd - x.delay) (eqb-false row.onu onu isnt);
            linked = IsLinked.operates onu refl its;
          }

  -- any message that a row backs
  pub hears_backed : (m : Down) (before after : List Down) (x : OnFibre) → IsBacked rows m → Tells before m after → IsLinked c rows before frames x → Hears m after x
  hears_backed m before after x (IsBacked.assigns s row is has) tells linked =
      subst (λ (y : Down). Hears y after x) (sym is) (hears_assign s row before after x has (subst (λ (y : Down). Tells before y after) is tells) linked)
  hears_backed m before after x (IsBacked.tells s row eqd is has op) tells linked =
      subst (λ (y : Down). Hears y after x) (sym is) (hears_ranging s row eqd before after x has op (subst (λ (y : Down). Tells before y after) is tells) linked)

  -- ---- all units

  -- all of them after a copy: nothing but stages changes
  pub record AllHear (m : Down) (after : List Down) (xs : List OnFibre) : Type 0 where
    pub ys : List OnFibre
    pub hear : map (unit_hearing m) (map (unit_of c.mask) xs) ≡ map (unit_of c.mask) ys
    pub plans : map plan_of ys ≡ map plan_of xs
    pub linked : All (IsLinked c rows after frames) ys

  pub all_hear : (m : Down) (before after : List Down) (xs : List OnFibre) → IsBacked rows m → Tells before m after → All (IsLinked c rows before frames) xs → AllHear m after xs
  all_hear m before after [] backed tells linked =
      record { ys = []; hear = refl; plans = refl; linked = All-nil (IsLinked c rows after frames) }
  all_hear m before after (x ∷ xs) backed tells linked =
      let first = hears_backed m before after x backed tells (All-head (IsLinked c rows before frames) x xs linked) in
      let rest = all_hear m before after xs backed tells (All-tail (IsLinked c rows before frames) x xs linked) in
      let y = in_stage x first.stage in
      record {
        ys = y ∷ rest.ys;
        hear =
            ap (λ (u : FibreUnit). u ∷ map (unit_hearing m) (map (unit_of c.mask) xs)) first.hears
            ∙ ap (λ (us : List FibreUnit). unit_of c.mask y ∷ us) rest.hear;
        plans = ap (λ (ps : List UnitPlan). plan_of x ∷ ps) rest.plans;
        linked = All-cons (IsLinked c rows after frames) y rest.ys first.linked rest.linked;
      }
