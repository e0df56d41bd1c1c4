-- A unit keeps its ONU-ID, or loses it with a message; an alarm of a lost unit removes it.
use Rattle.std.proofs.Common.{◌≡◌, ℕ, true, List, [], ◌∷◌, ◌++◌, ◌⊎◌, Option, None, Some, inl, inr, refl, sym, ap, subst, ◌∙◌, arith, append_assoc}
use Rattle.std.specs.Prelude.{All, Contains}
use Rattle.std.specs.FinMap.{get, insert}
use Rattle.std.proofs.lemmas.Bool.{cases_Bool}
use Rattle.std.proofs.lemmas.List.{append-nil}
use Rattle.std.proofs.lemmas.List.Elements.{All-nil, All-cons, All-head, All-tail, All-weaker, All-contains, Contains-append_left, Contains-append_right}
use Rattle.gp_ploam.specs.declared.message.Serial.{Serial}
use Rattle.gp_ploam.specs.declared.message.Down.{Down}
use Rattle.gp_ploam.specs.declared.message.Down.TheVariants as down
use Rattle.gp_volley.specs.Copies.{all_copies}
use Rattle.gp_ploam.specs.Serials.{same_serial}
use Rattle.gp_ploam.proofs.Serials.{same_serial-true}
use Rattle.gp_alarms.specs.declared.alarm.Alarm.{Alarm}
use Rattle.gp_unit.specs.declared.row.Row.{Row}
use Rattle.gp_unit.specs.Rows.{row_popped_up}
use Rattle.gp_unit.proofs.Kept.{popped_onu}
use Rattle.gp_machine.specs.declared.entry.Entry.{Entry}
use Rattle.gp_machine.specs.declared.event.Event.{Event}
use Rattle.gp_machine.specs.declared.event.Event.TheVariants as event
use Rattle.gp_machine.specs.State.{PortState, Rows, HasRow, opening_of}
use Rattle.gp_machine.specs.Changes.{Change, StepResult, Owes, AddsUnit, SetsRow, RemovesUnit, PopsUpAll, state_after_change, state_after, owed_by}
use Rattle.gp_machine.specs.Responses.{Response, Responds, GivesOnu, GivesAlloc, answer_with, changes_with}
use Rattle.gp_machine.specs.Step.{StepOwing, state_at, sent_at}
use Rattle.gp_machine.specs.Run.{entry_outcome}
use Rattle.gp_machine.specs.Messages.{RunOwing, three_times}
use Rattle.gp_machine.proofs.Units.{one_row, has_it, has_others, stays, differs, has_changed}
use Rattle.gp_machine.proofs.OwedMessages.{sends_in_order}
use Rattle.gp_laws.specs.Numbers.{HasOnuId}
use Rattle.gp_laws.specs.Removals.{TakesOnuId, TellsItsOnuId, Adds, EachStepAdds, AssignedStayOrAreTold}
use Rattle.gp_laws.specs.Alarms.{loses_unit, AlarmsRemoveUnits}
use Rattle.gp_laws.proofs.RunMessages.{three_times-append, run_owes, opening_sends}
use Rattle.gp_laws.proofs.Orderly.{IsToldLast, KeepsOnuId, KeepOnuIds, RemovesLostUnit}
use Rattle.gp_laws.proofs.OrderlyFrames.{orderly_step}

-- ---- one change

-- a unit has the ONU-ID of another row with the same serial number
pub has_same : (rows : Rows) (s t : Serial) (n : ℕ) (row : Row) → same_serial s t ≡ true → HasRow rows t row → HasOnuId rows s n → row.onu ≡ n
has_same rows s t n row same has h =
    let is : row ≡ h.0 = one_row row h.0 (sym has ∙ ap (get rows) (sym (same_serial-true s t same)) ∙ h.1) in ap (λ (r : Row). r.onu) is ∙ h.2

pub set_keeps : (rows : Rows) (t : Serial) (new old : Row) (s : Serial) (n : ℕ) → HasRow rows t old → new.onu ≡ old.onu → HasOnuId rows s n → HasOnuId (insert rows t new) s n
set_keeps rows t new old s n has same h =
    elim (cases_Bool (same_serial s t)) [
      | inl b ↦ (new, subst (λ (x : Serial). HasRow (insert rows t new) x new) (sym (same_serial-true s t b)) (has_it rows t new), same ∙ has_same rows s t n old b has h)
      | inr b ↦ (h.0, has_others rows t new s h.0 b h.1, h.2)
    ]

pub change_keeps : (p : PortState) (change : Change) (later : List Change) → KeepsOnuId p change later → (s : Serial) (n : ℕ) → HasOnuId p.rows s n
    → HasOnuId (state_after_change p change).rows s n ⊎ TakesOnuId (owed_by later) s n
change_keeps p (AddsUnit t row) later none s n h = inl (h.0, has_others p.rows t row s h.0 (differs p.rows t s h.0 none.0 h.1) h.1, h.2)
change_keeps p (SetsRow t new) later k s n h = inl (set_keeps p.rows t new k.0 s n k.1 k.2 h)
change_keeps p (RemovesUnit t m) later k s n h =
    elim (cases_Bool (same_serial s t)) [
      | inl b ↦
          let onu : m ≡ n = sym k.2 ∙ has_same p.rows s t n k.0 b k.1 h in
          inr (subst (λ (x : Serial). TakesOnuId (owed_by later) x n) (sym (same_serial-true s t b)) (subst (λ (x : ℕ). TakesOnuId (owed_by later) t x) onu k.3))
      | inr b ↦ inl (h.0, stays p.rows t s h.0 b h.1, h.2)
    ]
change_keeps p PopsUpAll later k s n h =
    inl (row_popped_up h.0 h.0.phase, has_changed (λ (row : Row). row_popped_up row row.phase) p.rows s h.0 h.1, popped_onu h.0 h.0.phase ∙ h.2)
change_keeps p change later k s n h = inl h

-- ---- all changes of a step

takes_more : (m : Down) (ms : List Down) (s : Serial) (n : ℕ) → TakesOnuId ms s n → TakesOnuId (m ∷ ms) s n
takes_more m ms s n (inl h) = inl (Contains-append_right (m ∷ []) ms (down.Deactivate n) h)
takes_more m ms s n (inr h) = inr (Contains-append_right (m ∷ []) ms (down.DisableSerial s) h)

owed_more : (change : Change) (later : List Change) (s : Serial) (n : ℕ) → TakesOnuId (owed_by later) s n → TakesOnuId (owed_by (change ∷ later)) s n
owed_more (Owes m) later s n h = takes_more m (owed_by later) s n h
owed_more change later s n h = h

changes_keep : (p : PortState) (changes : List Change) → KeepOnuIds p changes → (s : Serial) (n : ℕ) → HasOnuId p.rows s n → HasOnuId (state_after p changes).rows s n ⊎ TakesOnuId (owed_by changes) s n
changes_keep p [] k s n h = inl h
changes_keep p (change ∷ changes) k s n h = by_change (change_keeps p change changes k.0 s n h) (λ still. changes_keep (state_after_change p change) changes k.1 s n still)
  where
    Now : Type 0
    Now = HasOnuId (state_after p (change ∷ changes)).rows s n ⊎ TakesOnuId (owed_by (change ∷ changes)) s n

    by_later : HasOnuId (state_after p (change ∷ changes)).rows s n ⊎ TakesOnuId (owed_by changes) s n → Now
    by_later (inl still) = inl still
    by_later (inr takes) = inr (owed_more change changes s n takes)

    by_change : HasOnuId (state_after_change p change).rows s n ⊎ TakesOnuId (owed_by changes) s n
        → (HasOnuId (state_after_change p change).rows s n → HasOnuId (state_after p (change ∷ changes)).rows s n ⊎ TakesOnuId (owed_by changes) s n) → Now
    by_change (inl still) later = by_later (later still)
    by_change (inr takes) later = inr (owed_more change changes s n takes)

-- an Assign_ONU-ID tells a unit what it has in the end
told_last : (p : PortState) (m : Down) (later : List Change) → IsToldLast p m later → TellsItsOnuId (state_after p (Owes m ∷ later)) m
told_last p (down.AssignOnu n s) later k =
    subst (λ (changes : List Change). HasOnuId (state_after (state_after_change p (Owes (down.AssignOnu n s))) changes).rows s n) (sym k.1) k.0
told_last p m later k = tt

changes_tell : (p : PortState) (changes : List Change) → KeepOnuIds p changes → All (TellsItsOnuId (state_after p changes)) (owed_by changes)
changes_tell p [] k = All-nil (TellsItsOnuId p)
changes_tell p (Owes m ∷ changes) k =
    All-cons (TellsItsOnuId (state_after p (Owes m ∷ changes))) m (owed_by changes) (told_last p m changes k.0) (changes_tell (state_after_change p (Owes m)) changes k.1)
changes_tell p (change ∷ changes) k = changes_tell (state_after_change p change) changes k.1

-- ---- a step

pub start_rows : (p : PortState) (e : Event) → (state_at p e).rows ≡ p.rows
start_rows p event.Frame = refl
start_rows p (event.Burst at bytes) = refl
start_rows p (event.Command c) = refl

pub step_adds : (u : ℕ) (p : PortState) (e : Event) (o : StepResult) (messages : List Down) → StepOwing u p e o messages → Adds p o messages
step_adds u p e o messages s =
    let start = state_at p e in
    let changes = changes_with s.response s.picked in
    let kept = (orderly_step u p e s.response s.said).kept s.picked s.may in
    record {
      behind = sends_in_order u p e o messages s;
      told = subst (λ (x : StepResult). All (TellsItsOnuId x.state) messages) (sym s.is) (subst (λ (ms : List Down). All (TellsItsOnuId (state_after start changes)) ms) (sym s.owes) (changes_tell start changes kept));
      kept = λ t n h.
          subst (λ (x : StepResult). HasOnuId x.state.rows t n ⊎ TakesOnuId messages t n) (sym s.is)
          (subst (λ (ms : List Down). HasOnuId (state_after start changes).rows t n ⊎ TakesOnuId ms t n) (sym s.owes)
          (changes_keep start changes kept t n (subst (λ (rows : Rows). HasOnuId rows t n) (sym (start_rows p e)) h)));
    }

pub each_step_adds : EachStepAdds
each_step_adds u p e o step = (step.0, step_adds u p e o step.0 step.1)

-- ---- lists of messages

three_have : (ms : List Down) → All (Contains (three_times ms)) ms
three_have [] = All-nil (Contains [])
three_have (m ∷ ms) =
    All-cons (Contains (three_times (m ∷ ms))) m ms (Contains-append_left (all_copies m) (three_times ms) m (0, omega arith, refl))
    (All-weaker (Contains (three_times ms)) (Contains (three_times (m ∷ ms))) (λ x h. Contains-append_right (all_copies m) (three_times ms) x h) ms (three_have ms))

three_contain : (ms : List Down) (m : Down) → Contains ms m → Contains (three_times ms) m
three_contain ms m h = All-contains (Contains (three_times ms)) ms m (three_have ms) h

takes_three : (ms : List Down) (s : Serial) (n : ℕ) → TakesOnuId ms s n → TakesOnuId (three_times ms) s n
takes_three ms s n (inl h) = inl (three_contain ms (down.Deactivate n) h)
takes_three ms s n (inr h) = inr (three_contain ms (down.DisableSerial s) h)

takes_left : (ms more : List Down) (s : Serial) (n : ℕ) → TakesOnuId ms s n → TakesOnuId (ms ++ more) s n
takes_left ms more s n (inl h) = inl (Contains-append_left ms more (down.Deactivate n) h)
takes_left ms more s n (inr h) = inr (Contains-append_left ms more (down.DisableSerial s) h)

takes_right : (ms more : List Down) (s : Serial) (n : ℕ) → TakesOnuId more s n → TakesOnuId (ms ++ more) s n
takes_right ms more s n (inl h) = inl (Contains-append_right ms more (down.Deactivate n) h)
takes_right ms more s n (inr h) = inr (Contains-append_right ms more (down.DisableSerial s) h)

-- ---- a run

-- the unit that a message assigns an ONU-ID has it, or a later one takes it
abbrev HasOrLoses : Rows → Down → List Down → Type 0
HasOrLoses rows (down.AssignOnu n s) later = HasOnuId rows s n ⊎ TakesOnuId later s n
HasOrLoses rows m later = Unit {0}

abbrev AllHaveOrLose : Rows → List Down → Type 0
AllHaveOrLose rows [] = Unit {0}
AllHaveOrLose rows (m ∷ later) = HasOrLoses rows m later × AllHaveOrLose rows later

module _ (rows : Rows) (q : PortState) (ms : List Down) where
  abbrev Kept : Type 0
  Kept = (s : Serial) (n : ℕ) → HasOnuId rows s n → HasOnuId q.rows s n ⊎ TakesOnuId ms s n

  now_has : (m : Down) (later : List Down) → TellsItsOnuId q m → HasOrLoses q.rows m later
  now_has (down.AssignOnu n s) later h = inl h
  now_has m later h = tt

  fresh : (xs : List Down) → All (TellsItsOnuId q) xs → AllHaveOrLose q.rows (three_times xs)
  fresh [] h = tt
  fresh (x ∷ xs) h =
      let told = All-head (TellsItsOnuId q) x xs h in
      let rest = three_times xs in
      (now_has x (x ∷ x ∷ rest) told, (now_has x (x ∷ rest) told, (now_has x rest told, fresh xs (All-tail (TellsItsOnuId q) x xs h))))

  still : Kept → (m : Down) (later : List Down) → HasOrLoses rows m later → HasOrLoses q.rows m (later ++ three_times ms)
  still kept (down.AssignOnu n s) later (inl has) = by_step (kept s n has)
    where
      by_step : HasOnuId q.rows s n ⊎ TakesOnuId ms s n → HasOnuId q.rows s n ⊎ TakesOnuId (later ++ three_times ms) s n
      by_step (inl has_still) = inl has_still
      by_step (inr takes) = inr (takes_right later (three_times ms) s n (takes_three ms s n takes))
  still kept (down.AssignOnu n s) later (inr takes) = inr (takes_left later (three_times ms) s n takes)
  still kept m later h = tt

  grown : Kept → All (TellsItsOnuId q) ms → (xs : List Down) → AllHaveOrLose rows xs → AllHaveOrLose q.rows (xs ++ three_times ms)
  grown kept told [] h = fresh ms told
  grown kept told (x ∷ xs) h = (still kept x xs h.0, grown kept told xs h.1)

-- with the messages before the run, and then those of the run
run_has : (p q : PortState) (es : List Entry) (before messages : List Down) → RunOwing p es messages q → AllHaveOrLose p.rows before → AllHaveOrLose q.rows (before ++ three_times messages)
run_has p q [] before messages h all =
    subst (λ (x : PortState). AllHaveOrLose x.rows (before ++ three_times messages)) (sym h.0)
    (subst (λ (ms : List Down). AllHaveOrLose p.rows ms) (sym (ap (λ (ms : List Down). before ++ three_times ms) h.1 ∙ append-nil before)) all)
run_has p q (e ∷ es) before messages h all =
    let added = step_adds e.purse_in p e.event (entry_outcome e h.0) h.1 h.3 in
    let later = run_has h.0 q es (before ++ three_times h.1) h.2 h.4 (grown p.rows h.0 h.1 added.kept added.told before all) in
    subst (λ (ms : List Down). AllHaveOrLose q.rows ms)
    (append_assoc before (three_times h.1) (three_times h.2) ∙ ap (λ (ms : List Down). before ++ ms) (sym (three_times-append h.1 h.2) ∙ ap three_times (sym h.5)))
    later

there : (rows : Rows) (earlier later : List Down) (s : Serial) (n : ℕ) → AllHaveOrLose rows (earlier ++ down.AssignOnu n s ∷ later) → HasOnuId rows s n ⊎ TakesOnuId later s n
there rows [] later s n h = h.0
there rows (m ∷ earlier) later s n h = there rows earlier later s n h.1

pub stays_or_told : AssignedStayOrAreTold
stays_or_told c q es earlier later s n run split =
    let owing = run_owes (opening_of c) q es run in
    let all = run_has (opening_of c) q es [] owing.0 owing.1 tt in
    there q.rows earlier later s n (subst (λ (ms : List Down). AllHaveOrLose q.rows ms) (sym (opening_sends c q es owing.0 owing.1) ∙ split) all)

-- ---- alarms

raised : (start : PortState) (sent : Option Down) (d : Response) (n : ℕ) (a : Alarm) → RemovesLostUnit start d → (answer_with sent d n).alarm ≡ Some a → loses_unit a.kind ≡ true
    → ((row : Row) × HasRow start.rows a.serial row) × (get (state_after start (changes_with d n)).rows a.serial ≡ None)
raised start sent (Responds reply grant None changes) n a removes is lost = absurd (none is)
  where
    none : ◌≡◌ {A = Option Alarm} None (Some a) → ⊥
    none e = cc
raised start sent (Responds reply grant (Some b) changes) n a removes is lost =
    let same : b ≡ a = one is in
    subst (λ (x : Alarm). loses_unit x.kind ≡ true → ((row : Row) × HasRow start.rows x.serial row) × (get (state_after start changes).rows x.serial ≡ None)) same removes lost
  where
    one : ◌≡◌ {A = Option Alarm} (Some b) (Some a) → b ≡ a
    one e = cc
raised start sent (GivesOnu s) n a removes is lost = absurd (none is)
  where
    none : ◌≡◌ {A = Option Alarm} None (Some a) → ⊥
    none e = cc
raised start sent (GivesAlloc s row) n a removes is lost = absurd (none is)
  where
    none : ◌≡◌ {A = Option Alarm} None (Some a) → ⊥
    none e = cc

pub alarms_remove : AlarmsRemoveUnits
alarms_remove u p e o a step is lost =
    let s = step.1 in
    let done = raised (state_at p e) (sent_at p e) s.response s.picked a (orderly_step u p e s.response s.said).removes (ap (λ (x : StepResult). x.answer.alarm) (sym s.is) ∙ is) lost in
    (subst (λ (rows : Rows). (row : Row) × HasRow rows a.serial row) (start_rows p e) done.0, ap (λ (x : StepResult). get x.state.rows a.serial) s.is ∙ done.1)
