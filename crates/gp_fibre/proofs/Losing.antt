-- A unit that was assigned an ONU-ID has it, or a later message takes it.
use Rattle.std.proofs.Common.{◌≡◌, ℕ, zero, suc, ◌<◌, length, take, drop, List, [], ◌∷◌, ◌++◌, ◌⊎◌, None, Some, inl, inr, refl, sym, ap, subst, ◌∙◌, arith, append_assoc}
use Rattle.std.specs.Prelude.{All, Contains, slice_index_or}
use Rattle.std.proofs.lemmas.List.{take-append-drop}
use Rattle.std.specs.Option.{option_to_list}
use Rattle.std.proofs.lemmas.List.Elements.{All-nil, All-cons, All-head, All-tail, All-weaker, All-contains, Contains-append_left, Contains-append_right}
use Rattle.gp_ploam.specs.declared.message.Serial.{Serial}
use Rattle.gp_ploam.specs.declared.message.Down.{Down}
use Rattle.gp_ploam.specs.declared.message.Down.TheVariants as down
use Rattle.gp_volley.specs.Copies.{all_copies}
use Rattle.gp_machine.specs.State.{PortState, Rows}
use Rattle.gp_laws.specs.Numbers.{HasOnuId, NoSharedOnuId}
use Rattle.gp_machine.specs.Messages.{three_times}
use Rattle.gp_laws.specs.Removals.{TakesOnuId, TellsItsOnuId, EachStepAdds}
use Rattle.gp_machine.specs.Run.{entry_outcome}
use Rattle.gp_fibre.specs.World.{FibreWorld, opening_world}
use Rattle.gp_fibre.specs.Told.{sent_and_owed}
use Rattle.gp_onu.specs.declared.stage.Stage.{Stage}
use Rattle.gp_onu.specs.declared.stage.Stage.TheVariants.{Initial, Standby, SerialNumber, Ranging, Operation, Popup, EmergencyStop}
use Rattle.gp_onu.specs.Stage.{onu_id_of}
use Rattle.gp_onu.specs.Told.{IsTold}
use Rattle.gp_fibre.specs.Told.{IsToldUnit}
use Rattle.gp_fibre.specs.Laws.{AssignedStayOrAreTold, UnitsAreTold, UnitsHaveOrLose, OneHasIt}
use Rattle.gp_fibre.proofs.Steps.{IsKeptBySteps, run_keeps, port_runs}

-- ---- lists of messages

three_have : (ms : List Down) → All (Contains (three_times ms)) ms
three_have [] = All-nil (Contains [])
three_have (m ∷ ms) =
    All-cons (Contains (three_times (m ∷ ms))) m ms (Contains-append_left (all_copies m) (three_times ms) m (0, omega arith, refl))
    (All-weaker (Contains (three_times ms)) (Contains (three_times (m ∷ ms))) (λ x h. Contains-append_right (all_copies m) (three_times ms) x h) ms (three_have ms))

three_contain : (ms : List Down) (m : Down) → Contains ms m → Contains (three_times ms) m
three_contain ms m h = All-contains (Contains (three_times ms)) ms m (three_have ms) h

takes_three : (ms : List Down) (s : Serial) (n : ℕ) → TakesOnuId ms s n → TakesOnuId (three_times ms) s n
takes_three ms s n (inl h) = inl (three_contain ms (down.Deactivate n) h)
takes_three ms s n (inr h) = inr (three_contain ms (down.DisableSerial s) h)

takes_left : (ms more : List Down) (s : Serial) (n : ℕ) → TakesOnuId ms s n → TakesOnuId (ms ++ more) s n
takes_left ms more s n (inl h) = inl (Contains-append_left ms more (down.Deactivate n) h)
takes_left ms more s n (inr h) = inr (Contains-append_left ms more (down.DisableSerial s) h)

takes_right : (ms more : List Down) (s : Serial) (n : ℕ) → TakesOnuId more s n → TakesOnuId (ms ++ more) s n
takes_right ms more s n (inl h) = inl (Contains-append_right ms more (down.Deactivate n) h)
takes_right ms more s n (inr h) = inr (Contains-append_right ms more (down.DisableSerial s) h)

-- ---- who has an ONU-ID

-- a unit that is told an ONU-ID has it by the table, or one of the later messages takes it from it
abbrev HasOrLoses : Rows → Down → List Down → Type 0
HasOrLoses rows (down.AssignOnu onu serial) later = HasOnuId rows serial onu ⊎ TakesOnuId later serial onu
HasOrLoses rows other later = Unit {0}

-- so it is for each of these messages
abbrev AllHaveOrLose : Rows → List Down → Type 0
AllHaveOrLose rows [] = Unit {0}
AllHaveOrLose rows (message ∷ later) = HasOrLoses rows message later × AllHaveOrLose rows later

-- ---- a step

module _ (rows : Rows) (q : PortState) (ms : List Down) where
  abbrev Kept : Type 0
  Kept = (s : Serial) (n : ℕ) → HasOnuId rows s n → HasOnuId q.rows s n ⊎ TakesOnuId ms s n

  has_it : (m : Down) (later : List Down) → TellsItsOnuId q m → HasOrLoses q.rows m later
  has_it (down.AssignOnu n s) later h = inl h
  has_it m later h = tt

  fresh : (xs : List Down) → All (TellsItsOnuId q) xs → AllHaveOrLose q.rows (three_times xs)
  fresh [] h = tt
  fresh (x ∷ xs) h =
      let told = All-head (TellsItsOnuId q) x xs h in
      let rest = three_times xs in
      (has_it x (x ∷ x ∷ rest) told, (has_it x (x ∷ rest) told, (has_it x rest told, fresh xs (All-tail (TellsItsOnuId q) x xs h))))

  still : Kept → (m : Down) (later : List Down) → HasOrLoses rows m later → HasOrLoses q.rows m (later ++ three_times ms)
  still kept (down.AssignOnu n s) later (inl has) = by_step (kept s n has)
    where
      by_step : HasOnuId q.rows s n ⊎ TakesOnuId ms s n → HasOnuId q.rows s n ⊎ TakesOnuId (later ++ three_times ms) s n
      by_step (inl has_still) = inl has_still
      by_step (inr takes) = inr (takes_right later (three_times ms) s n (takes_three ms s n takes))
  still kept (down.AssignOnu n s) later (inr takes) = inr (takes_left later (three_times ms) s n takes)
  still kept m later h = tt

  grown : Kept → All (TellsItsOnuId q) ms → (xs : List Down) → AllHaveOrLose rows xs → AllHaveOrLose q.rows (xs ++ three_times ms)
  grown kept told [] h = fresh ms told
  grown kept told (x ∷ xs) h = (still kept x xs h.0, grown kept told xs h.1)

-- ---- a run

abbrev HaveOrLose : FibreWorld → Type 0
HaveOrLose w = AllHaveOrLose w.port.rows (sent_and_owed w)

keeps_it : EachStepAdds → IsKeptBySteps HaveOrLose
keeps_it law =
    record {
      port = λ w v event entry t h.
          let added = law entry.purse_in w.port entry.event (entry_outcome entry v.port) t.step in
          let ms = added.0 in
          let sent = option_to_list entry.answer.sent in
          let behind : sent ++ v.port.owed ≡ w.port.owed ++ three_times ms = added.1.behind in
          let all : sent_and_owed v ≡ sent_and_owed w ++ three_times ms =
          ap (λ (cs : List Down). cs ++ v.port.owed) t.copies
          ∙ append_assoc w.copies sent v.port.owed
          ∙ ap (λ (xs : List Down). w.copies ++ xs) behind
          ∙ sym (append_assoc w.copies w.port.owed (three_times ms)) in
          subst (λ (xs : List Down). AllHaveOrLose v.port.rows xs) (sym all)
          (grown w.port.rows v.port ms added.1.kept added.1.told (sent_and_owed w) h);
      unit = λ w place input u there from h. h;
      bursts = λ w more h. h;
      frame = λ w h. h;
    }

there : (rows : Rows) (earlier later : List Down) (s : Serial) (n : ℕ) → AllHaveOrLose rows (earlier ++ down.AssignOnu n s ∷ later)
    → HasOnuId rows s n ⊎ TakesOnuId later s n
there rows [] later s n h = h.0
there rows (m ∷ earlier) later s n h = there rows earlier later s n h.1

pub stays_or_told : EachStepAdds → AssignedStayOrAreTold
stays_or_told law config licences plans world earlier later s n reached split =
    let all = run_keeps HaveOrLose (keeps_it law) (opening_world config licences plans) reached.0 reached.1 world reached.2 tt in
    there world.port.rows earlier later s n (subst (λ (xs : List Down). AllHaveOrLose world.port.rows xs) split all)

-- ---- units that have lost their ONU-ID

told_onu : (cs : List Down) (s : Serial) (stage : Stage) (n : ℕ) → IsTold cs s stage → onu_id_of stage ≡ Some n → Contains cs (down.AssignOnu n s)
told_onu cs s Initial n told is = let no : None ≡ Some n = is in absurd (cc)
told_onu cs s Standby n told is = let no : None ≡ Some n = is in absurd (cc)
told_onu cs s (SerialNumber frames) n told is = let no : None ≡ Some n = is in absurd (cc)
told_onu cs s (Ranging onu frames) n told is = let same : onu ≡ n = cc in subst (λ (x : ℕ). Contains cs (down.AssignOnu x s)) same told
told_onu cs s (Operation onu eqd owed) n told is = let same : onu ≡ n = cc in subst (λ (x : ℕ). Contains cs (down.AssignOnu x s)) same told.0
told_onu cs s (Popup onu eqd owed frames) n told is = let same : onu ≡ n = cc in subst (λ (x : ℕ). Contains cs (down.AssignOnu x s)) same told.0
told_onu cs s EmergencyStop n told is = let no : None ≡ Some n = is in absurd (cc)

found_at : (xs : List Down) (m : Down) → Contains xs m → (earlier : List Down) × (later : List Down) × (xs ≡ earlier ++ m ∷ later)
found_at xs m h = (
  take h.0 xs,
  drop (suc h.0) xs,
  sym (take-append-drop h.0 xs) ∙ ap (λ (ys : List Down). take h.0 xs ++ ys) (drop_at_place xs m h.0 h.1 h.2),
)
  where
    drop_at_place : (ys : List Down) (x : Down) (k : ℕ) → k < length ys → slice_index_or ys k x ≡ x → drop k ys ≡ x ∷ drop (suc k) ys
    drop_at_place [] x k low is = absurd (omega arith)
    drop_at_place (y ∷ ys) x zero low is = ap (λ (z : Down). z ∷ ys) is
    drop_at_place (y ∷ ys) x (suc k) low is = drop_at_place ys x k (omega arith) is

takes_behind : (rows : Rows) (earlier later : List Down) (m : Down) (s : Serial) (n : ℕ) → HasOnuId rows s n ⊎ TakesOnuId later s n
    → HasOnuId rows s n ⊎ TakesOnuId (earlier ++ m ∷ later) s n
takes_behind rows earlier later m s n (inl has) = inl has
takes_behind rows earlier later m s n (inr takes) = inr (takes_right earlier (m ∷ later) s n (takes_right (m ∷ []) later s n takes))

pub have_or_lose : UnitsAreTold → AssignedStayOrAreTold → UnitsHaveOrLose
have_or_lose told stays config licences plans world unit n reached among is =
    let all = told config licences plans world reached in
    let unit_told : IsToldUnit world.copies unit = All-contains (IsToldUnit world.copies) world.units unit all among in
    let s = unit.state.serial in
    let m = down.AssignOnu n s in
    let sent : Contains world.copies m = told_onu world.copies s unit.state.stage n unit_told is in
    let at = found_at (sent_and_owed world) m (Contains-append_left world.copies world.port.owed m sent) in
    subst (λ (xs : List Down). HasOnuId world.port.rows s n ⊎ TakesOnuId xs s n) (sym at.2)
    (takes_behind world.port.rows at.0 at.1 m s n (stays config licences plans world at.0 at.1 s n reached at.2))

pub one_has_it : NoSharedOnuId → OneHasIt
one_has_it law config licences plans world s t n reached differ h k =
    differ (law config world.port s t n (reached.1, port_runs (opening_world config licences plans) world reached.0 reached.1 reached.2) h k)
