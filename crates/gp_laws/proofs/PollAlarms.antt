-- After which poll windows of a run an alarm is raised.
use Rattle.std.proofs.Common.{◌≡◌, ℕ, suc, ◌+◌, ◌≤◌, ◌==◌, Bool, true, false, cond, List, [], ◌∷◌, Option, None, Some, refl, sym, ap, subst, ◌∙◌, arith, is_some, replicate}
use Rattle.std.specs.Prelude.{All}
use Rattle.std.specs.List.{sum_by}
use Rattle.std.proofs.lemmas.Bool.{false≢true, eqb-true, eq-eqb}
use Rattle.std.proofs.lemmas.List.Elements.{All-nil, All-cons, All-head, All-tail}
use Rattle.std.proofs.lemmas.List.Sums.{sum_by-cons}
use Rattle.gp_ploam.specs.declared.message.Serial.{Serial}
use Rattle.gp_alarms.specs.declared.alarm.Alarm.{Alarm}
use Rattle.gp_alarms.specs.declared.alarm.AlarmKind.{AlarmKind}
use Rattle.gp_alarms.specs.declared.alarm.AlarmKind.TheVariants.{Los, Loam, Loa}
use Rattle.gp_alarms.specs.declared.poll.Outcome.{Outcome}
use Rattle.gp_alarms.specs.declared.poll.Outcome.TheVariants.{Good, Garbled, Dark, Gasped, Acked}
use Rattle.gp_alarms.specs.Poll.{dark_after, garbled_after, waiting_after}
use Rattle.gp_unit.specs.declared.row.Phase.{Phase}
use Rattle.gp_unit.specs.declared.row.Phase.TheVariants.{Ranging, Operating}
use Rattle.gp_unit.specs.declared.row.Row.{Row}
use Rattle.gp_unit.specs.Rows.{is_operating, counts_in, alarm_polled}
use Rattle.gp_unit.specs.Sound.{IsCounted, IsSoundRow}
use Rattle.gp_machine.specs.declared.config.PortConfig.{PortConfig}
use Rattle.gp_machine.specs.declared.entry.Entry.{Entry}
use Rattle.gp_machine.specs.State.{PortState, HasRow, opening_of}
use Rattle.gp_machine.specs.Sound.{IsSound}
use Rattle.gp_machine.specs.Run.{IsStep, Run, entry_outcome}
use Rattle.gp_laws.specs.Polls.{poll_end, end_of, RunPolling, EndsPolling, counts_of, operates, awaits, is_unanswered, garbled_of, waited_of, CountsDarkWindows, CountsGarbledWindows, CountsWaitedWindows, Raises, EndsFourDark, EndsThreeGarbled, EndsThreeWaited, RaisesLosAfterFourDark, RaisesLoamAfterThreeGarbled, RaisesLoaAfterThreeWaited}
use Rattle.gp_laws.proofs.WholeRuns.{every_state}
use Rattle.gp_laws.proofs.PollCounts.{count_after, CountPhase, IsUnacked, CountPending, same_waiting, waits_little}
use Rattle.gp_laws.proofs.PollAnswers.{is_counted, GivesAlarm, counted_step}
use Rattle.gp_laws.proofs.Stretches.{IsCount, says, first_passes, last_passes, stretch_adds, end_is}

-- ---- the three counts

abbrev pub dark_count : Row → ℕ
dark_count row = (counts_of row).dark

abbrev pub garbled_count : Row → ℕ
garbled_count row = (counts_of row).garbled

abbrev pub waiting_count : Row → ℕ
waiting_count row = row.waiting

-- a dark window
abbrev pub is_dark : Outcome → Bool
is_dark Dark = true
is_dark Garbled = false
is_dark Good = false
is_dark Gasped = false
is_dark Acked = false

-- each window of these counts
abbrev pub one_of : Outcome → ℕ
one_of ended = 1

-- each window may be among those that count for LOA
abbrev pub any_end : Outcome → Bool
any_end ended = true

dark_in : (new old : Phase) (w v : ℕ) (end : Option Outcome) → CountPhase end new old → is_operating old ≡ true → is_operating new ≡ true → (counts_in new w).dark ≡ count_after dark_after end (counts_in old v).dark
dark_in (Ranging attempts seen) old w v end h before after = absurd (false≢true after)
dark_in (Operating eqd dark garbled) (Ranging attempts seen) w v end h before after = absurd (false≢true before)
dark_in (Operating eqd dark garbled) (Operating its_eqd its_dark its_garbled) w v end h before after = h.0

garbled_in_phase : (new old : Phase) (w v : ℕ) (end : Option Outcome) → CountPhase end new old → is_operating old ≡ true → is_operating new ≡ true
    → (counts_in new w).garbled ≡ count_after garbled_after end (counts_in old v).garbled
garbled_in_phase (Ranging attempts seen) old w v end h before after = absurd (false≢true after)
garbled_in_phase (Operating eqd dark garbled) (Ranging attempts seen) w v end h before after = absurd (false≢true before)
garbled_in_phase (Operating eqd dark garbled) (Operating its_eqd its_dark its_garbled) w v end h before after = h.1

begun_in : (new old : Phase) (w : ℕ) (end : Option Outcome) → CountPhase end new old → is_operating old ≡ false → is_operating new ≡ true → ((counts_in new w).dark ≡ 0) × ((counts_in new w).garbled ≡ 0)
begun_in (Ranging attempts seen) old w end h before after = absurd (false≢true after)
begun_in (Operating eqd dark garbled) (Ranging attempts seen) w end h before after = h
begun_in (Operating eqd dark garbled) (Operating its_eqd its_dark its_garbled) w end h before after = absurd (false≢true (sym before))

dark_adds : (ended : Outcome) (k m : ℕ) → k ≡ dark_after ended m → is_dark ended ≡ true → k ≡ m + 1
dark_adds Dark k m h is = h
dark_adds Garbled k m h is = absurd (false≢true is)
dark_adds Good k m h is = absurd (false≢true is)
dark_adds Gasped k m h is = absurd (false≢true is)
dark_adds Acked k m h is = absurd (false≢true is)

dark_stops : (ended : Outcome) (k m : ℕ) → k ≡ dark_after ended m → is_dark ended ≡ false → k ≡ 0
dark_stops Dark k m h is = absurd (false≢true (sym is))
dark_stops Garbled k m h is = h
dark_stops Good k m h is = h
dark_stops Gasped k m h is = h
dark_stops Acked k m h is = h

garbled_adds : (ended : Outcome) (k m : ℕ) → k ≡ garbled_after ended m → is_unanswered ended ≡ true → k ≡ m + garbled_of ended
garbled_adds Garbled k m h is = h
garbled_adds Dark k m h is = omega arith
garbled_adds Good k m h is = absurd (false≢true is)
garbled_adds Gasped k m h is = absurd (false≢true is)
garbled_adds Acked k m h is = absurd (false≢true is)

garbled_stops : (ended : Outcome) (k m : ℕ) → k ≡ garbled_after ended m → is_unanswered ended ≡ false → k ≡ 0
garbled_stops Garbled k m h is = absurd (false≢true (sym is))
garbled_stops Dark k m h is = absurd (false≢true (sym is))
garbled_stops Good k m h is = h
garbled_stops Gasped k m h is = h
garbled_stops Acked k m h is = h

pub counts_dark : IsCount operates dark_count is_dark one_of
counts_dark =
    record {
      idle = λ new old h before after. dark_in new.phase old.phase new.waiting old.waiting None h.phase before after;
      adds = λ ended new old h before after fits. dark_adds ended (dark_count new) (dark_count old) (dark_in new.phase old.phase new.waiting old.waiting (Some ended) h.phase before after) fits;
      stops = λ ended new old h before after fits. dark_stops ended (dark_count new) (dark_count old) (dark_in new.phase old.phase new.waiting old.waiting (Some ended) h.phase before after) fits;
      begins = λ end new old h before after. (begun_in new.phase old.phase new.waiting end h.phase before after).0;
      fresh = λ n. refl;
    }

pub counts_garbled : IsCount operates garbled_count is_unanswered garbled_of
counts_garbled =
    record {
      idle = λ new old h before after. garbled_in_phase new.phase old.phase new.waiting old.waiting None h.phase before after;
      adds = λ ended new old h before after fits.
          garbled_adds ended (garbled_count new) (garbled_count old) (garbled_in_phase new.phase old.phase new.waiting old.waiting (Some ended) h.phase before after) fits;
      stops = λ ended new old h before after fits.
          garbled_stops ended (garbled_count new) (garbled_count old) (garbled_in_phase new.phase old.phase new.waiting old.waiting (Some ended) h.phase before after) fits;
      begins = λ end new old h before after. (begun_in new.phase old.phase new.waiting end h.phase before after).1;
      fresh = λ n. refl;
    }

waits_in : (new old : Option ℕ) (w v : ℕ) (end : Option Outcome) → CountPending end new w old v → is_some old ≡ true → is_some new ≡ true → IsUnacked end × (w ≡ count_after (λ ended count. waiting_after ended true count) end v)
waits_in None old w v end h before after = absurd (false≢true after)
waits_in (Some a) None w v end h before after = absurd (false≢true before)
waits_in (Some a) (Some b) w v end h before after = h

waits_anew : (new old : Option ℕ) (w v : ℕ) (end : Option Outcome) → CountPending end new w old v → is_some old ≡ false → is_some new ≡ true → w ≡ 0
waits_anew None old w v end h before after = absurd (false≢true after)
waits_anew (Some a) None w v end h before after = h
waits_anew (Some a) (Some b) w v end h before after = absurd (false≢true (sym before))

waits_more : (ended : Outcome) (w v : ℕ) → IsUnacked (Some ended) → w ≡ waiting_after ended true v → w ≡ v + waited_of ended
waits_more Good w v unacked h = h
waits_more Garbled w v unacked h = h
waits_more Dark w v unacked h = h
waits_more Gasped w v unacked h = omega arith
waits_more Acked w v unacked h = absurd unacked

pub counts_waited : IsCount awaits waiting_count any_end waited_of
counts_waited =
    record {
      idle = λ new old h before after. (waits_in new.pending old.pending new.waiting old.waiting None h.pending before after).1;
      adds = λ ended new old h before after fits.
          let both = waits_in new.pending old.pending new.waiting old.waiting (Some ended) h.pending before after in
          waits_more ended new.waiting old.waiting both.0 both.1;
      stops = λ ended new old h before after fits. absurd (false≢true (sym fits));
      begins = λ end new old h before after. waits_anew new.pending old.pending new.waiting old.waiting end h.pending before after;
      fresh = λ n. refl;
    }

-- ---- what the counts say

all_dark : (ends : List Outcome) → All (λ (end : Outcome). is_dark end ≡ true) ends → ends ≡ replicate (sum_by one_of ends) Dark
all_dark [] h = refl
all_dark (x ∷ xs) h =
    let first = dark_is x (All-head (λ (end : Outcome). is_dark end ≡ true) x xs h) in
    let rest = all_dark xs (All-tail (λ (end : Outcome). is_dark end ≡ true) x xs h) in
    let more : sum_by one_of (x ∷ xs) ≡ suc (sum_by one_of xs) = sum_by-cons one_of x xs ∙ one_more (sum_by one_of xs) in
    (λ i. first i ∷ rest i) ∙ ap (λ (k : ℕ). replicate k Dark) (sym more)
  where
    one_more : (k : ℕ) → 1 + k ≡ suc k
    one_more k = omega arith

    dark_is : (x : Outcome) → is_dark x ≡ true → x ≡ Dark
    dark_is Dark h = refl
    dark_is Garbled h = absurd (false≢true h)
    dark_is Good h = absurd (false≢true h)
    dark_is Gasped h = absurd (false≢true h)
    dark_is Acked h = absurd (false≢true h)

moved : (c : PortConfig) (es : List Entry) (q : PortState) (s : Serial) (test : Row → Bool) (xs ys : List Outcome) → xs ≡ ys → (h : EndsPolling c es q s test xs) → EndsPolling c es q s test ys
moved c es q s test xs ys same h =
    record { before = h.before; stretch = h.stretch; start = h.start; parts = h.parts; reached = h.reached; polled = subst (λ (zs : List Outcome). RunPolling test s h.start h.stretch zs q) same h.polled }

pub dark_windows : CountsDarkWindows
unfolding moved
dark_windows c q es s row run has passes =
    let h = says operates dark_count is_dark one_of counts_dark c es q s row run has passes in
    let same : h.ends ≡ replicate (dark_count row) Dark = all_dark h.ends h.fit ∙ ap (λ (k : ℕ). replicate k Dark) h.sum in
    (moved c es q s operates h.ends (replicate (dark_count row) Dark) same h.polling, h.start)

pub garbled_windows : CountsGarbledWindows
garbled_windows c q es s row run has passes =
    let h = says operates garbled_count is_unanswered garbled_of counts_garbled c es q s row run has passes in
    (h.ends, h.polling, (h.fit, h.sum), h.start)

pub waited_windows : CountsWaitedWindows
waited_windows c q es s row run has passes =
    let h = says awaits waiting_count any_end waited_of counts_waited c es q s row run has passes in
    (h.ends, h.polling, h.sum, h.start)

-- ---- which alarm the counts give

module _ (a b d : Bool) where
  abbrev first_alarm : Option AlarmKind
  first_alarm = cond a (Some Los) (cond b (Some Loam) (cond d (Some Loa) None))

is_los : (a b d : Bool) → first_alarm a b d ≡ Some Los → a ≡ true
is_los true b d h = refl
is_los false true d h = absurd (other h)
  where
    other : Some Loam ≡ Some Los → ⊥
    other e = cc
is_los false false true h = absurd (other h)
  where
    other : Some Loa ≡ Some Los → ⊥
    other e = cc
is_los false false false h = absurd (other h)
  where
    other : None ≡ Some Los → ⊥
    other e = cc

is_loam : (a b d : Bool) → first_alarm a b d ≡ Some Loam → b ≡ true
is_loam true b d h = absurd (other h)
  where
    other : Some Los ≡ Some Loam → ⊥
    other e = cc
is_loam false true d h = refl
is_loam false false true h = absurd (other h)
  where
    other : Some Loa ≡ Some Loam → ⊥
    other e = cc
is_loam false false false h = absurd (other h)
  where
    other : None ≡ Some Loam → ⊥
    other e = cc

is_loa : (a b d : Bool) → first_alarm a b d ≡ Some Loa → d ≡ true
is_loa true b d h = absurd (other h)
  where
    other : Some Los ≡ Some Loa → ⊥
    other e = cc
is_loa false true d h = absurd (other h)
  where
    other : Some Loam ≡ Some Loa → ⊥
    other e = cc
is_loa false false true h = refl
is_loa false false false h = absurd (other h)
  where
    other : None ≡ Some Loa → ⊥
    other e = cc

los_first : (a b d : Bool) → a ≡ true → first_alarm a b d ≡ Some Los
los_first a b d is = ap (λ (x : Bool). first_alarm x b d) is

loam_second : (b d : Bool) → b ≡ true → first_alarm false b d ≡ Some Loam
loam_second b d is = ap (λ (x : Bool). first_alarm false x d) is

-- the counts of a sound row
counts_low : (phase : Phase) (w : ℕ) → IsCounted phase → ((counts_in phase w).dark ≤ 3) × ((counts_in phase w).garbled ≤ 2)
counts_low (Ranging attempts seen) w h = (omega arith, omega arith)
counts_low (Operating eqd dark garbled) w h = h

-- a unit that is counted operates
counted_dark : (phase : Phase) (w : ℕ) → (counts_in phase w).dark ≡ 3 → is_operating phase ≡ true
counted_dark (Ranging attempts seen) w h = absurd (omega arith)
counted_dark (Operating eqd dark garbled) w h = refl

counted_garbled : (phase : Phase) (w : ℕ) → (counts_in phase w).garbled ≡ 2 → is_operating phase ≡ true
counted_garbled (Ranging attempts seen) w h = absurd (omega arith)
counted_garbled (Operating eqd dark garbled) w h = refl

fourth_dark : (ended : Outcome) (k : ℕ) → dark_after ended k ≡ 4 → (ended ≡ Dark) × (k ≡ 3)
fourth_dark Dark k h = (refl, omega arith)
fourth_dark Garbled k h = absurd (omega arith)
fourth_dark Good k h = absurd (omega arith)
fourth_dark Gasped k h = absurd (omega arith)
fourth_dark Acked k h = absurd (omega arith)

third_garbled : (ended : Outcome) (k : ℕ) → k ≤ 2 → garbled_after ended k ≡ 3 → (ended ≡ Garbled) × (k ≡ 2)
third_garbled Garbled k low h = (refl, omega arith)
third_garbled Dark k low h = absurd (omega arith)
third_garbled Good k low h = absurd (omega arith)
third_garbled Gasped k low h = absurd (omega arith)
third_garbled Acked k low h = absurd (omega arith)

third_waited : (ended : Outcome) (pending : Bool) (k : ℕ) → k ≤ 2 → waiting_after ended pending k ≡ 3 → (pending ≡ true) × (waited_of ended ≡ 1) × (k ≡ 2)
third_waited Good true k low h = (refl, refl, omega arith)
third_waited Garbled true k low h = (refl, refl, omega arith)
third_waited Dark true k low h = (refl, refl, omega arith)
third_waited Good false k low h = absurd (omega arith)
third_waited Garbled false k low h = absurd (omega arith)
third_waited Dark false k low h = absurd (omega arith)
third_waited Gasped pending k low h = absurd (omega arith)
third_waited Acked pending k low h = absurd (omega arith)

waits_third : (ended : Outcome) (pending : Bool) (k : ℕ) → pending ≡ true → waited_of ended ≡ 1 → k ≡ 2 → waiting_after ended pending k ≡ 3
waits_third Good true k is one h = omega arith
waits_third Garbled true k is one h = omega arith
waits_third Dark true k is one h = omega arith
waits_third ended false k is one h = absurd (false≢true is)
waits_third Gasped true k is one h = absurd (omega arith)
waits_third Acked true k is one h = absurd (omega arith)

three_dark : sum_by one_of (Dark ∷ Dark ∷ Dark ∷ []) ≡ 3
three_dark =
    let a : sum_by one_of (Dark ∷ Dark ∷ Dark ∷ []) ≡ 1 + sum_by one_of (Dark ∷ Dark ∷ []) = sum_by-cons one_of Dark (Dark ∷ Dark ∷ []) in
    let b : sum_by one_of (Dark ∷ Dark ∷ []) ≡ 1 + sum_by one_of (Dark ∷ []) = sum_by-cons one_of Dark (Dark ∷ []) in
    let d : sum_by one_of (Dark ∷ []) ≡ 1 + sum_by one_of [] = sum_by-cons one_of Dark [] in
    let none : sum_by one_of [] ≡ 0 = refl in
    omega arith

-- no alarm is of two kinds
not_both : (e : Entry) (s : Serial) (one other : AlarmKind) → Raises e one s → Raises e other s → one ≡ other
not_both e s one other h k = let same : ◌≡◌ {A = Alarm} (record { kind = one; serial = s }) (record { kind = other; serial = s }) = cc in ap (λ (a : Alarm). a.kind) same

module _ (c : PortConfig) (q r : PortState) (es : List Entry) (e : Entry) (s : Serial) (run : Run (opening_of c) es q) (step : IsStep q e r) where
  sound : IsSound q
  sound = every_state c q (es, run)

  fits : (row : Row) → HasRow q.rows s row → IsSoundRow q.config.alloc_last row
  fits row has = (sound.units.each s row has).fits

  abbrev Gives : AlarmKind → Type 0
  Gives kind = GivesAlarm q (poll_end q.window e.event e.answer.reply) kind s

  -- a unit whose window ended so, with this alarm
  raise : (kind : AlarmKind) (row : Row) (ended : Outcome) → HasRow q.rows s row → end_of q s e ≡ Some ended → alarm_polled row ended ≡ Some kind → Raises e kind s
  raise kind row ended has at gives =
      (counted_step e.purse_in q e.event (entry_outcome e r) sound step).alarm.given kind s (row, ended, has, sym (end_is q s e row has) ∙ at, gives)

  raised : (kind : AlarmKind) → is_counted kind ≡ true → Raises e kind s → Gives kind
  raised kind counted is = (counted_step e.purse_in q e.event (entry_outcome e r) sound step).alarm.raised kind s is counted

  -- the end of a stretch, and what was counted along it
  module _ (test : Row → Bool) (count : Row → ℕ) (fit : Outcome → Bool) (weight : Outcome → ℕ) (is : IsCount test count fit weight) where
    counted_last : (ends : List Outcome) → EndsPolling c es q s test ends → All (λ (end : Outcome). fit end ≡ true) ends → (row : Row) × HasRow q.rows s row × (test row ≡ true) × (sum_by weight ends ≤ count row)
    counted_last ends h all =
        let first = first_passes test count fit weight is h.start q s h.stretch ends h.polled in
        let last = last_passes test count fit weight is h.start q s h.stretch ends h.polled in
        let adds = stretch_adds test count fit weight is h.start q s h.stretch ends first.0 last.0 (every_state c h.start (h.before, h.reached)) h.polled all first.1 last.1 in
        (last.0, last.1, last.2, omega arith)

  los_raised : Raises e Los s → EndsFourDark c es q e s
  los_raised is =
      let h = raised Los refl is in
      let four = eqb-true (dark_after h.1 (dark_count h.0)) 4 (is_los _ _ _ h.4) in
      let last = fourth_dark h.1 (dark_count h.0) four in
      let windows = dark_windows c q es s h.0 run h.2 (counted_dark h.0.phase h.0.waiting last.1) in (
        moved c es q s operates (replicate (dark_count h.0) Dark) (Dark ∷ Dark ∷ Dark ∷ []) (ap (λ (k : ℕ). replicate k Dark) last.1) windows.0,
        end_is q s e h.0 h.2 ∙ h.3 ∙ ap (λ (o : Outcome). Some o) last.0,
      )

  los_given : EndsFourDark c es q e s → Raises e Los s
  los_given h =
      let last = counted_last operates dark_count is_dark one_of counts_dark (Dark ∷ Dark ∷ Dark ∷ []) h.0 all_three in
      let most = last.3 in
      let low = (counts_low last.0.phase last.0.waiting (fits last.0 last.1).counted).0 in
      let sum = three_dark in
      let three : dark_count last.0 ≡ 3 = omega arith in
      let four : dark_count last.0 + 1 ≡ 4 = omega arith in
      raise Los last.0 Dark last.1 h.1
      (los_first (dark_count last.0 + 1 == 4) (garbled_count last.0 == 3) (waiting_after Dark (is_some last.0.pending) (counts_of last.0).waiting == 3) (eq-eqb (dark_count last.0 + 1) 4 four))
    where
      all_three : All (λ (end : Outcome). is_dark end ≡ true) (Dark ∷ Dark ∷ Dark ∷ [])
      all_three =
          let Is : Outcome → Type 0 = λ end. is_dark end ≡ true in
          All-cons Is Dark (Dark ∷ Dark ∷ []) refl (All-cons Is Dark (Dark ∷ []) refl (All-cons Is Dark [] refl (All-nil Is)))

  loam_raised : Raises e Loam s → EndsThreeGarbled c es q e s
  loam_raised is =
      let h = raised Loam refl is in
      let three = eqb-true (garbled_after h.1 (garbled_count h.0)) 3 (is_loam _ _ _ h.4) in
      let last = third_garbled h.1 (garbled_count h.0) (counts_low h.0.phase h.0.waiting (fits h.0 h.2).counted).1 three in
      let windows = garbled_windows c q es s h.0 run h.2 (counted_garbled h.0.phase h.0.waiting last.1) in
      (windows.0, windows.1, (windows.2.0, windows.2.1 ∙ last.1), end_is q s e h.0 h.2 ∙ h.3 ∙ ap (λ (o : Outcome). Some o) last.0)

  loam_given : EndsThreeGarbled c es q e s → Raises e Loam s
  loam_given h =
      let last = counted_last operates garbled_count is_unanswered garbled_of counts_garbled h.0 h.1 h.2.0 in
      let most = last.3 in
      let low = (counts_low last.0.phase last.0.waiting (fits last.0 last.1).counted).1 in
      let sum = h.2.1 in
      let three : garbled_count last.0 + 1 ≡ 3 = omega arith in
      raise Loam last.0 Garbled last.1 h.3
      (loam_second (garbled_count last.0 + 1 == 3) (waiting_after Garbled (is_some last.0.pending) (counts_of last.0).waiting == 3) (eq-eqb (garbled_count last.0 + 1) 3 three))

  loa_raised : Raises e Loa s → EndsThreeWaited c es q e s
  loa_raised is =
      let h = raised Loa refl is in
      let three = eqb-true (waiting_after h.1 (is_some h.0.pending) (counts_of h.0).waiting) 3 (is_loa _ _ _ h.4) in
      let same = same_waiting h.0.phase h.0.waiting in
      let few = waits_little q.config.alloc_last h.0 (fits h.0 h.2) in
      let last = third_waited h.1 (is_some h.0.pending) (counts_of h.0).waiting (omega arith) three in
      let windows = waited_windows c q es s h.0 run h.2 last.0 in
      (windows.0, h.1, windows.1, windows.2 ∙ sym same ∙ last.2, end_is q s e h.0 h.2 ∙ h.3, last.1)

  loa_given : EndsThreeWaited c es q e s → (EndsFourDark c es q e s → ⊥) → (EndsThreeGarbled c es q e s → ⊥) → Raises e Loa s
  loa_given h not_dark not_garbled =
      let last = counted_last awaits waiting_count any_end waited_of counts_waited h.0 h.2 (all_any h.0) in
      let most = last.3 in
      let few = waits_little q.config.alloc_last last.0 (fits last.0 last.1) in
      let same = same_waiting last.0.phase last.0.waiting in
      let sum = h.3 in
      let two : (counts_of last.0).waiting ≡ 2 = omega arith in
      let third = waits_third h.1 (is_some last.0.pending) (counts_of last.0).waiting last.2 h.5 two in
      by_kind last.0 last.1 (dark_after h.1 (dark_count last.0) == 4) refl (garbled_after h.1 (garbled_count last.0) == 3) refl (eq-eqb (waiting_after h.1 (is_some last.0.pending) (counts_of last.0).waiting) 3 third)
    where
      all_any : (ends : List Outcome) → All (λ (end : Outcome). any_end end ≡ true) ends
      all_any [] = All-nil (λ (end : Outcome). any_end end ≡ true)
      all_any (x ∷ xs) = All-cons (λ (end : Outcome). any_end end ≡ true) x xs refl (all_any xs)

      by_kind : (row : Row) → HasRow q.rows s row → (a : Bool) → (dark_after h.1 (dark_count row) == 4) ≡ a → (b : Bool) → (garbled_after h.1 (garbled_count row) == 3) ≡ b
          → (waiting_after h.1 (is_some row.pending) (counts_of row).waiting == 3) ≡ true → Raises e Loa s
      by_kind row has true is b at w = absurd (not_dark (los_raised (raise Los row h.1 has h.4 (los_first (dark_after h.1 (dark_count row) == 4) (garbled_after h.1 (garbled_count row) == 3) (waiting_after h.1 (is_some row.pending) (counts_of row).waiting == 3) is))))
      by_kind row has false is true at w =
          absurd (not_garbled (loam_raised (raise Loam row h.1 has h.4 (λ i. first_alarm (is i) (at i) (waiting_after h.1 (is_some row.pending) (counts_of row).waiting == 3)))))
      by_kind row has false is false at w = raise Loa row h.1 has h.4 (λ i. first_alarm (is i) (at i) (w i))

no_two : (e : Entry) (s : Serial) → Raises e Los s → Raises e Loa s → ⊥
no_two e s h k = absurd (differ (not_both e s Los Loa h k))
  where
    differ : Los ≡ Loa → ⊥
    differ x = cc

neither : (e : Entry) (s : Serial) → Raises e Loam s → Raises e Loa s → ⊥
neither e s h k = absurd (differ (not_both e s Loam Loa h k))
  where
    differ : Loam ≡ Loa → ⊥
    differ x = cc

pub raises_los : RaisesLosAfterFourDark
raises_los c q r es e s run step = (los_raised c q r es e s run step, los_given c q r es e s run step)

pub raises_loam : RaisesLoamAfterThreeGarbled
raises_loam c q r es e s run step = (loam_raised c q r es e s run step, loam_given c q r es e s run step)

pub raises_loa : RaisesLoaAfterThreeWaited
raises_loa c q r es e s run step = (
  λ is. (
    loa_raised c q r es e s run step is,
    λ four. no_two e s (los_given c q r es e s run step four) is,
    λ three. neither e s (loam_given c q r es e s run step three) is,
  ),
  λ h. loa_given c q r es e s run step h.0 h.1 h.2,
)
