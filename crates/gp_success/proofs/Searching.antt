-- Bursts of any number of units in a search window: each unit that has no row gets one, or the window has found 63.
use Rattle.std.proofs.Common.{◌≡◌, ℕ, zero, suc, ◌+◌, ◌-◌, ◌*◌, ◌<◌, ◌≤◌, ◌==◌, ◌||◌, Bool, true, false, List, [], ◌∷◌, ◌++◌, map, length, Option, None, Some, ◌⊎◌, inl, inr, refl, sym, ap, subst, ◌∙◌, arith, append_assoc}
use Rattle.std.specs.Prelude.{All, Contains, get_or, replicate}
use Rattle.std.specs.FinMap.{get, insert, len}
use Rattle.std.specs.FinSet.{contains, contains-empty}
use Rattle.std.proofs.lemmas.Bool.{cases_Bool, ne_eqb, leb-false, false≢true}
use Rattle.std.proofs.lemmas.List.{length-append, append-nil}
use Rattle.std.proofs.lemmas.List.Elements.{All-weaker, Contains-append_left, Contains-append_right, Contains-append_cases}
use Rattle.gp_ploam.specs.declared.message.Serial.{Serial}
use Rattle.gp_ploam.specs.declared.message.Down.{Down}
use Rattle.gp_ploam.specs.declared.message.Down.TheVariants.{AssignOnu}
use Rattle.gp_ploam.specs.declared.message.Up.{Up}
use Rattle.gp_ploam.specs.declared.message.Up.TheVariants.{SerialNumber as serial_number}
use Rattle.gp_ploam.specs.Mask.{mask_value}
use Rattle.gp_ploam.specs.Serials.{serial_cmp, same_serial, is_among}
use Rattle.gp_ploam.specs.Up.{code_of_up}
use Rattle.gp_ploam.proofs.Serials.{same_serial-true}
use Rattle.gp_volley.specs.Copies.{all_copies}
use Rattle.gp_ranging.specs.declared.grant.Grant.{Grant}
use Rattle.gp_ranging.specs.declared.grant.Grant.TheVariants.{Search}
use Rattle.gp_ranging.specs.Window.{WindowState}
use Rattle.gp_common.specs.declared.common.Common.TheVariants.{Acquisition}
use Rattle.gp_unit.specs.declared.row.Row.{Row}
use Rattle.gp_unit.specs.Rows.{new_row}
use Rattle.gp_machine.specs.declared.config.PortConfig.{PortConfig}
use Rattle.gp_machine.specs.declared.entry.Entry.{Entry}
use Rattle.gp_machine.specs.declared.event.Event.TheVariants as event
use Rattle.gp_machine.specs.declared.refusal.Refusal.TheVariants.{Busy}
use Rattle.gp_machine.specs.Messages.{three_times}
use Rattle.gp_machine.specs.State.{PortState, Rows, HasRow, has_free_onu}
use Rattle.gp_machine.specs.Changes.{StepResult}
use Rattle.gp_machine.specs.Responses.{Response, has_room, step_result_with}
use Rattle.gp_machine.specs.SearchWindow.{refuses_burst}
use Rattle.gp_machine.specs.Burst.{burst_response, windowed_response, message_response}
use Rattle.gp_machine.specs.Config.{is_distinct}
use Rattle.gp_machine.specs.Run.{IsStep}
use Rattle.gp_machine.specs.OneStep.{HearsOneThing}
use Rattle.gp_machine.proofs.Units.{has_it, has_put, has_others, len-new, not_none}
use Rattle.gp_laws.proofs.RunMessages.{three_times-append}
use Rattle.gp_fibre.specs.World.{FibreWorld}
use Rattle.gp_fibre.specs.Step.{PortTakes}
use Rattle.gp_success.proofs.ActivePorts.{port_at, window_of}
use Rattle.gp_success.proofs.LinkedUnits.{OnFibre, AreOwed, IsLinked, IsBacked, count_new, total_by, weight_of}
use Rattle.gp_success.proofs.Ports.{BurstStep, burst_step, newcomer}
use Rattle.gp_success.proofs.Reading.{RoundTrip}
use Rattle.gp_success.proofs.Counting.{at_others, total_put, some_free}

-- a newcomer is refused where there is no room
pub refused : (u : ℕ) (p : PortState) (at : ℕ) (w : WindowState) (s : Serial) (random : ℕ) → p.window ≡ Some w → w.grant ≡ Search → is_among s p.config.admitted ≡ true → contains p.disabled s ≡ false → get p.rows s ≡ None
    → has_free_onu p ≡ true → (u == 0) ≡ false → has_room p ≡ false → burst_response u p at (Some (serial_number 255 s random 0)) ≡ refuses_burst Busy
refused u p at w s random opened asks admitted enabled inactive some licensed full =
    ap (λ (o : Option WindowState). windowed_response u p at (Some (serial_number 255 s random 0)) o) opened
    ∙ ap (λ (g : Grant). message_response u p at g (serial_number 255 s random 0)) asks
    ∙ rw (admitted, enabled, inactive, some, licensed, full) refl

-- another unit has no row where it had none
other_row : (rows : Rows) (s t : Serial) (row q : Row) → get rows s ≡ None → HasRow rows t q → HasRow (insert rows s row) t q
other_row rows s t row q none has = by (same_serial t s) refl
  where
    by : (b : Bool) → same_serial t s ≡ b → HasRow (insert rows s row) t q
    by true is = absurd (not_none q (sym none ∙ ap (λ (x : Serial). get rows x) (sym (same_serial-true t s is)) ∙ has))
    by false is = has_others rows s row t q is has

module _ (c : PortConfig) (frames : ℕ) where
  -- a unit stays tied when one that has no row gets one, and is told so
  pub link_put : (rows : Rows) (ms : List Down) (s : Serial) (onu : ℕ) (x : OnFibre) → get rows s ≡ None → IsLinked c rows ms frames x → IsLinked c (insert rows s (new_row onu)) (ms ++ AssignOnu onu s ∷ []) frames x
  link_put rows ms s onu x none (IsLinked.new f soon at its) = by (same_serial x.serial s) refl
    where
      m : Down
      m = AssignOnu onu s

      by : (b : Bool) → same_serial x.serial s ≡ b → IsLinked c (insert rows s (new_row onu)) (ms ++ m ∷ []) frames x
      by true is =
          let one : s ≡ x.serial = sym (same_serial-true x.serial s is) in
          IsLinked.found f onu soon at (subst (λ (t : Serial). HasRow (insert rows s (new_row onu)) t (new_row onu)) one (has_it rows s (new_row onu)))
          (Contains-append_right ms (m ∷ []) (AssignOnu onu x.serial) (0, omega arith, ap (λ (t : Serial). AssignOnu onu t) one))
      by false is = IsLinked.new f soon at (at_others rows s (new_row onu) x.serial is ∙ its)
  link_put rows ms s onu x none (IsLinked.found f n soon at its owed) =
      IsLinked.found f n soon at (other_row rows s x.serial (new_row onu) (new_row n) none its) (Contains-append_left ms (AssignOnu onu s ∷ []) (AssignOnu n x.serial) owed)
  link_put rows ms s onu x none (IsLinked.ranging f n soon at its) =
      IsLinked.ranging f n soon at (other_row rows s x.serial (new_row onu) _ none its)
  link_put rows ms s onu x none (IsLinked.measured f n soon at its owed) =
      IsLinked.measured f n soon at (other_row rows s x.serial (new_row onu) _ none its) (Contains-append_left ms (AssignOnu onu s ∷ []) _ owed)
  link_put rows ms s onu x none (IsLinked.operates n at its) =
      IsLinked.operates n at (other_row rows s x.serial (new_row onu) _ none its)

  backed_put : (rows : Rows) (s : Serial) (row : Row) (m : Down) → get rows s ≡ None → IsBacked rows m → IsBacked (insert rows s row) m
  backed_put rows s row m none (IsBacked.assigns t q is has) = IsBacked.assigns t q is (other_row rows s t row q none has)
  backed_put rows s row m none (IsBacked.tells t q eqd is has op) = IsBacked.tells t q eqd is (other_row rows s t row q none has) op

  three : (m : Down) → three_times (m ∷ []) ≡ all_copies m
  three m = append-nil (all_copies m)

  owed_more : (owed ms : List Down) (m : Down) → AreOwed owed ms → AreOwed (owed ++ all_copies m) (ms ++ m ∷ [])
  owed_more owed ms m h =
      record {
        begun = h.begun;
        left = h.left;
        few = h.few;
        are =
            ap (λ (xs : List Down). xs ++ all_copies m) h.are
            ∙ append_assoc (replicate h.left h.begun) (three_times ms) (all_copies m)
            ∙ ap (λ (xs : List Down). replicate h.left h.begun ++ (three_times ms ++ xs)) (sym (three m))
            ∙ ap (λ (xs : List Down). replicate h.left h.begun ++ xs) (sym (three_times-append ms (m ∷ [])));
      }

  -- what holds of the table, of what is owed and of the licences, with so many search windows left, for these units
  pub record IsSearching (xs : List OnFibre) (licences k weight : ℕ) (rows : Rows) (owed ms : List Down) (free : ℕ) : Type 0 where
    pub linked : All (IsLinked c rows ms frames) xs
    pub owed_is : AreOwed owed ms
    pub backed : (m : Down) → Contains owed m → IsBacked rows m
    pub licensed : free + len rows ≡ licences
    pub known : len rows + total_by count_new rows xs ≡ length xs
    pub mine : (t : Serial) (q : Row) → HasRow rows t q → is_among t (map (λ (x : OnFibre). x.serial) xs) ≡ true
    -- what is still to be done, in frames
    pub weighs : total_by weight_of rows xs + length owed ≡ weight
    pub room : length owed + 3 * total_by count_new rows xs ≤ 189 * (k + 1)

  module _ (one : HearsOneThing) (trip : RoundTrip) (xs : List OnFibre) (licences : ℕ) (distinct : is_distinct (map (λ (x : OnFibre). x.serial) xs) ≡ true)
      (licensed : length xs ≤ licences) (numbered : length xs ≤ c.max_units) (few : length xs ≤ 254) where
    -- the port once a unit's burst came
    pub data Arrived (weight k t left : ℕ) (rows : Rows) (seen : Bool) (owed ms : List Down) (cooling : List ℕ) (free : ℕ) (s : Serial) (b : FibreWorld) : Type 0 where
      got : (onu : ℕ)
          → b.port ≡ port_at c (insert rows s (new_row onu)) (Acquisition k) false t (Some (window_of Search left seen)) (owed ++ all_copies (AssignOnu onu s)) cooling
          → (b.free + 1 ≡ free)
          → IsSearching xs licences k weight (insert rows s (new_row onu)) (owed ++ all_copies (AssignOnu onu s)) (ms ++ AssignOnu onu s ∷ []) b.free
          → Arrived weight k t left rows seen owed ms cooling free s b
      busy : b.port ≡ port_at c rows (Acquisition k) false t (Some (window_of Search left true)) owed cooling
          → b.free ≡ free
          → total_by count_new rows xs ≤ 63 * k
          → Arrived weight k t left rows seen owed ms cooling free s b

    -- one unit of which no row is known has a count of one at least
    pub some_new : (rows : Rows) (s : Serial) (ys : List OnFibre) → is_among s (map (λ (x : OnFibre). x.serial) ys) ≡ true → get rows s ≡ None → 1 ≤ total_by count_new rows ys
    some_new rows s [] there none = absurd (false≢true there)
    some_new rows s (y ∷ ys) there none = by (λ among. some_new rows s ys among none) (same_serial s y.serial) refl
      where
        by : (is_among s (map (λ (x : OnFibre). x.serial) ys) ≡ true → 1 ≤ total_by count_new rows ys) → (b : Bool) → same_serial s y.serial ≡ b → 1 ≤ total_by count_new rows (y ∷ ys)
        by later true is =
            let here : count_new (get rows y.serial) ≡ 1 = ap (λ (t : Serial). count_new (get rows t)) (sym (same_serial-true s y.serial is)) ∙ ap count_new none in
            omega arith
        by later false is = let rest = later (sym (ap (λ (b : Bool). b || is_among s (map (λ (x : OnFibre). x.serial) ys)) is) ∙ there) in omega arith

    pub arrives : (weight k t left : ℕ) (rows : Rows) (seen : Bool) (owed ms : List Down) (cooling : List ℕ) (free : ℕ) (s : Serial) (d r : ℕ) (a b : FibreWorld) (e : Entry)
        → ((n : ℕ) → get_or cooling n 0 ≡ 0)
        → is_among s c.admitted ≡ true → length s.0 ≡ 8 → r ≤ 4095
        → is_among s (map (λ (x : OnFibre). x.serial) xs) ≡ true
        → get rows s ≡ None
        → IsSearching xs licences k weight rows owed ms free
        → a.port ≡ port_at c rows (Acquisition k) false t (Some (window_of Search left seen)) owed cooling
        → a.free ≡ free
        → PortTakes a (event.Burst d (code_of_up (serial_number 255 s r 0) (mask_value c.mask))) e b
        → Arrived weight k t left rows seen owed ms cooling free s b
    arrives weight k t left rows seen owed ms cooling free s d r a b e cool admitted long short there none h port free_is takes = by (cases_Bool (has_room p))
      where
        p : PortState
        p = port_at c rows (Acquisition k) false t (Some (window_of Search left seen)) owed cooling

        m : Up
        m = serial_number 255 s r 0

        x : BurstStep p d m e b.port
        x = burst_step one p d (code_of_up m (mask_value c.mask)) m e b.port takes.event_is (trip m (mask_value c.mask) (long, short, omega arith)) (subst (λ (y : PortState). IsStep y e b.port) port takes.step)

        new : 1 ≤ total_by count_new rows xs
        new = some_new rows s xs there none

        fewer : len rows < length xs
        fewer = let all = h.known in let some = new in omega arith

        some_licence : 1 ≤ free
        some_licence = let all = h.licensed in let low = fewer in omega arith

        one_licence : e.purse_in ≡ 1
        one_licence = let purse = takes.purse in let some = some_licence in omega arith

        spent : (e.purse_in == 0) ≡ false
        spent = let is = one_licence in ne_eqb e.purse_in 0 (λ z. omega arith)

        some_number : has_free_onu p ≡ true
        some_number = let low = fewer in some_free p (omega arith) (omega arith) cool

        by : (has_room p ≡ true) ⊎ (has_room p ≡ false) → Arrived weight k t left rows seen owed ms cooling free s b
        by (inl roomy) =
            let says = newcomer e.purse_in p d (window_of Search left seen) s r refl refl admitted (contains-empty serial_cmp s) none some_number spent roomy in
            let outcome = x.outcome ∙ ap (λ (y : Response). step_result_with e.purse_in p None y x.picked) says in
            let purse : e.purse_out ≡ e.purse_in - 1 = ap (λ (y : StepResult). y.purse) outcome in
            let is_one = one_licence in
            let law = takes.free in
            let left_free : b.free + 1 ≡ free = omega arith in
            let more = len-new rows s (new_row x.picked) none in
            let counts = total_put count_new rows s (new_row x.picked) xs distinct there in
            let was : count_new (get rows s) ≡ 1 = ap count_new none in
            let weights = total_put weight_of rows s (new_row x.picked) xs distinct there in
            let weighed : weight_of (get rows s) ≡ 9 = ap weight_of none in
            let weighs = h.weighs in
            let all = h.licensed in
            let known = h.known in
            let room = h.room in
            let long_owed = length-append owed (all_copies (AssignOnu x.picked s)) in
            Arrived.got x.picked (ap (λ (y : StepResult). y.state) outcome) left_free
            (record {
              linked = All-weaker (IsLinked c rows ms frames) (IsLinked c (insert rows s (new_row x.picked)) (ms ++ AssignOnu x.picked s ∷ []) frames)
                  (λ y link. link_put rows ms s x.picked y none link) xs h.linked;
              owed_is = owed_more owed ms (AssignOnu x.picked s) h.owed_is;
              backed = λ y owes. backed_all x.picked y (Contains-append_cases owed (all_copies (AssignOnu x.picked s)) y owes);
              licensed = omega arith;
              known = omega arith;
              weighs = omega arith;
              mine = λ t q has. mine_all x.picked t q (has_put rows s (new_row x.picked) t q has);
              room = omega arith;
            })
          where
            mine_all : (n : ℕ) (t : Serial) (q : Row) → ((t ≡ s) × (new_row n ≡ q)) ⊎ ((same_serial t s ≡ false) × HasRow rows t q) → is_among t (map (λ (x : OnFibre). x.serial) xs) ≡ true
            mine_all n t q (inl is) = ap (λ (y : Serial). is_among y (map (λ (x : OnFibre). x.serial) xs)) is.0 ∙ there
            mine_all n t q (inr is) = h.mine t q is.1

            one_of : (n : ℕ) (y : Down) → Contains (all_copies (AssignOnu n s)) y → y ≡ AssignOnu n s
            one_of n y (zero, low, is) = sym is
            one_of n y (suc zero, low, is) = sym is
            one_of n y (suc (suc zero), low, is) = sym is
            one_of n y (suc (suc (suc i)), low, is) = absurd (omega arith)

            backed_all : (n : ℕ) (y : Down) → Contains owed y ⊎ Contains (all_copies (AssignOnu n s)) y → IsBacked (insert rows s (new_row n)) y
            backed_all n y (inl before) = backed_put rows s (new_row n) y none (h.backed y before)
            backed_all n y (inr now) = IsBacked.assigns s (new_row n) (one_of n y now) (has_it rows s (new_row n))
        by (inr full) =
            let says = refused e.purse_in p d (window_of Search left seen) s r refl refl admitted (contains-empty serial_cmp s) none some_number spent full in
            let outcome = x.outcome ∙ ap (λ (y : Response). step_result_with e.purse_in p None y x.picked) says in
            let purse : e.purse_out ≡ e.purse_in = ap (λ (y : StepResult). y.purse) outcome in
            let law = takes.free in
            let room = h.room in
            let many : 189 < length owed + 3 = leb-false (length owed + 3) 189 full in
            Arrived.busy (ap (λ (y : StepResult). y.state) outcome) (omega arith) (omega arith)
