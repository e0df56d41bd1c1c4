-- Stretches of a run in which a unit's row passes a test, and what is counted along them.
use Rattle.std.proofs.Common.{◌≡◌, ℕ, ◌+◌, Bool, true, false, List, [], ◌∷◌, ◌++◌, Option, None, Some, ◌⊎◌, inl, inr, refl, sym, ap, subst, ◌∙◌, arith, append_assoc}
use Rattle.std.specs.Prelude.{All}
use Rattle.std.specs.List.{sum_by}
use Rattle.std.specs.Option.{option_and_then, option_to_list}
use Rattle.std.specs.FinMap.{get, get-empty}
use Rattle.std.proofs.lemmas.Bool.{cases_Bool, false≢true}
use Rattle.std.proofs.lemmas.List.{append-nil}
use Rattle.std.proofs.lemmas.List.Elements.{All-nil, All-cons, All-head, All-tail, All-append}
use Rattle.std.proofs.lemmas.List.Sums.{sum_by-append, sum_by-cons}
use Rattle.gp_ploam.specs.declared.message.Serial.{Serial}
use Rattle.gp_ploam.specs.Serials.{serial_cmp}
use Rattle.gp_alarms.specs.declared.poll.Outcome.{Outcome}
use Rattle.gp_unit.specs.declared.row.Row.{Row}
use Rattle.gp_unit.specs.Rows.{new_row}
use Rattle.gp_machine.specs.declared.config.PortConfig.{PortConfig}
use Rattle.gp_machine.specs.declared.entry.Entry.{Entry}
use Rattle.gp_machine.specs.State.{PortState, HasRow, opening_of}
use Rattle.gp_machine.specs.Sound.{IsSound}
use Rattle.gp_machine.specs.Run.{IsStep, Run, entry_outcome}
use Rattle.gp_machine.proofs.Units.{one_row, not_none}
use Rattle.gp_machine.proofs.SoundFrames.{sound_opening}
use Rattle.gp_machine.proofs.Steps.{sound_step}
use Rattle.gp_laws.specs.Polls.{poll_end, end_of, RowPasses, RunPolling, EndsPolling, CountsNone}
use Rattle.gp_laws.proofs.WholeRuns.{runs_in_parts}
use Rattle.gp_laws.proofs.PollCounts.{CountsRow}
use Rattle.gp_laws.proofs.PollAnswers.{counted_step, IsFound, ComesFrom}

-- ---- one step

-- how a unit's poll window ends, by its row
pub end_is : (p : PortState) (s : Serial) (e : Entry) (row : Row) → HasRow p.rows s row → end_of p s e ≡ poll_end p.window e.event e.answer.reply row.onu
end_is p s e row has = ap (λ (o : Option Row). option_and_then (λ (r : Row). poll_end p.window e.event e.answer.reply r.onu) o) has

-- a unit that is active before and after a step: its row is what became of the one before
pub step_counts : (p q : PortState) (e : Entry) (s : Serial) (old new : Row) → IsSound p → IsStep p e q → HasRow p.rows s old → HasRow q.rows s new → CountsRow (end_of p s e) new old
step_counts p q e s old new sound step has had = by_row ((counted_step e.purse_in p e.event (entry_outcome e q) sound step).rows s new had)
  where
    by_row : IsFound p (entry_outcome e q) s new ⊎ ComesFrom p (poll_end p.window e.event e.answer.reply) s new → CountsRow (end_of p s e) new old
    by_row (inl found) = absurd (not_none old (sym found.0 ∙ has))
    by_row (inr came) =
        let same : came.0 ≡ old = one_row came.0 old (sym came.1 ∙ has) in
        subst (λ (o : Option Outcome). CountsRow o new old) (sym (end_is p s e old has))
        (subst (λ (r : Row). CountsRow (poll_end p.window e.event e.answer.reply r.onu) new r) same came.2)

-- a unit after a step is new, or was active before
pub new_or_old : (p q : PortState) (e : Entry) (s : Serial) (new : Row) → IsSound p → IsStep p e q → HasRow q.rows s new → (new ≡ new_row new.onu) ⊎ ((old : Row) × HasRow p.rows s old)
new_or_old p q e s new sound step has = by_row ((counted_step e.purse_in p e.event (entry_outcome e q) sound step).rows s new has)
  where
    by_row : IsFound p (entry_outcome e q) s new ⊎ ComesFrom p (poll_end p.window e.event e.answer.reply) s new → (new ≡ new_row new.onu) ⊎ ((old : Row) × HasRow p.rows s old)
    by_row (inl found) = inl found.2
    by_row (inr came) = inr (came.0, came.1)

-- ---- a count that is kept while a test passes

-- each window for which `fits` holds adds its weight, and every other ends the count; a row begins to pass with 0
pub record IsCount (test : Row → Bool) (count : Row → ℕ) (fits : Outcome → Bool) (weight : Outcome → ℕ) : Type 0 where
  pub idle : (new old : Row) → CountsRow None new old → test old ≡ true → test new ≡ true → count new ≡ count old
  pub adds : (ended : Outcome) (new old : Row) → CountsRow (Some ended) new old → test old ≡ true → test new ≡ true → fits ended ≡ true → count new ≡ count old + weight ended
  pub stops : (ended : Outcome) (new old : Row) → CountsRow (Some ended) new old → test old ≡ true → test new ≡ true → fits ended ≡ false → count new ≡ 0
  pub begins : (end : Option Outcome) (new old : Row) → CountsRow end new old → test old ≡ false → test new ≡ true → count new ≡ 0
  pub fresh : (n : ℕ) → test (new_row n) ≡ false

module _ (test : Row → Bool) (count : Row → ℕ) (fits : Outcome → Bool) (weight : Outcome → ℕ) (is : IsCount test count fits weight) where
  abbrev Fit : List Outcome → Type 0
  Fit ends = All (λ (end : Outcome). fits end ≡ true) ends

  -- ---- along a stretch

  step_adds : (end : Option Outcome) (new old : Row) → CountsRow end new old → test old ≡ true → test new ≡ true → Fit (option_to_list end) → count new ≡ count old + sum_by weight (option_to_list end)
  step_adds None new old counts before after all = let same = is.idle new old counts before after in omega arith
  step_adds (Some ended) new old counts before after all =
      let more = is.adds ended new old counts before after (All-head (λ (end : Outcome). fits end ≡ true) ended [] all) in
      let sum : sum_by weight (ended ∷ []) ≡ weight ended + sum_by weight [] = sum_by-cons weight ended [] in
      omega arith

  fit_left : (xs ys : List Outcome) → Fit (xs ++ ys) → Fit xs
  fit_left [] ys h = All-nil (λ (end : Outcome). fits end ≡ true)
  fit_left (x ∷ xs) ys h =
      All-cons (λ (end : Outcome). fits end ≡ true) x xs (All-head (λ (end : Outcome). fits end ≡ true) x (xs ++ ys) h)
      (fit_left xs ys (All-tail (λ (end : Outcome). fits end ≡ true) x (xs ++ ys) h))

  fit_right : (xs ys : List Outcome) → Fit (xs ++ ys) → Fit ys
  fit_right [] ys h = h
  fit_right (x ∷ xs) ys h = fit_right xs ys (All-tail (λ (end : Outcome). fits end ≡ true) x (xs ++ ys) h)

  -- the row in a state of a stretch passes
  pub first_passes : (p q : PortState) (s : Serial) (es : List Entry) (ends : List Outcome) → RunPolling test s p es ends q → RowPasses test s p
  first_passes p q s [] ends h = h.0
  first_passes p q s (e ∷ es) ends h = h.2

  pub last_passes : (p q : PortState) (s : Serial) (es : List Entry) (ends : List Outcome) → RunPolling test s p es ends q → RowPasses test s q
  last_passes p q s [] ends h = subst (λ (x : PortState). RowPasses test s x) (sym h.1) h.0
  last_passes p q s (e ∷ es) ends h = last_passes h.0 q s es h.1 h.4

  -- the windows of a stretch add their weights
  pub stretch_adds : (p q : PortState) (s : Serial) (es : List Entry) (ends : List Outcome) (old new : Row) → IsSound p → RunPolling test s p es ends q → Fit ends → HasRow p.rows s old → HasRow q.rows s new
      → count new ≡ count old + sum_by weight ends
  stretch_adds p q s [] ends old new sound h all has had =
      let same : new ≡ old = one_row new old (sym had ∙ ap (λ (x : PortState). get x.rows s) h.1 ∙ has) in
      let counts : count new ≡ count old = ap count same in
      let sum : sum_by weight ends ≡ 0 = ap (sum_by weight) h.2 in
      omega arith
  stretch_adds p q s (e ∷ es) ends old new sound h all has had =
      let mid = first_passes h.0 q s es h.1 h.4 in
      let both = subst (λ (xs : List Outcome). Fit xs) h.5 all in
      let passes : test old ≡ true = ap test (one_row old h.2.0 (sym has ∙ h.2.1)) ∙ h.2.2 in
      let now = step_adds (end_of p s e) mid.0 old (step_counts p h.0 e s old mid.0 sound h.3 has mid.1) passes mid.2 (fit_left (option_to_list (end_of p s e)) h.1 both) in
      let later = stretch_adds h.0 q s es h.1 mid.0 new (sound_step e.purse_in p e.event (entry_outcome e h.0) sound h.3) h.4 (fit_right (option_to_list (end_of p s e)) h.1 both) mid.1 had in
      let sum : sum_by weight ends ≡ sum_by weight (option_to_list (end_of p s e)) + sum_by weight h.1 = ap (sum_by weight) h.5 ∙ sum_by-append weight (option_to_list (end_of p s e)) h.1 in
      omega arith

  -- ---- one step more

  longer : (p q r : PortState) (s : Serial) (es : List Entry) (ends : List Outcome) (e : Entry) → RunPolling test s p es ends q → IsStep q e r → RowPasses test s r
      → RunPolling test s p (es ++ e ∷ []) (ends ++ option_to_list (end_of q s e)) r
  longer p q r s [] ends e h step passes =
      let at : q ≡ p = h.1 in (
        r,
        [],
        h.0,
        subst (λ (x : PortState). IsStep x e r) at step,
        (passes, refl, refl),
        ap (λ (xs : List Outcome). xs ++ option_to_list (end_of q s e)) h.2 ∙ ap (λ (x : PortState). option_to_list (end_of x s e)) at ∙ sym (append-nil (option_to_list (end_of p s e))),
      )
  longer p q r s (f ∷ es) ends e h step passes =
      let rest = longer h.0 q r s es h.1 e h.4 step passes in (
        h.0,
        h.1 ++ option_to_list (end_of q s e),
        h.2,
        h.3,
        rest,
        ap (λ (xs : List Outcome). xs ++ option_to_list (end_of q s e)) h.5 ∙ append_assoc (option_to_list (end_of p s f)) h.1 (option_to_list (end_of q s e)),
      )

  -- ---- in every state

  -- what a count says of the run that led here
  pub record SaysOf (c : PortConfig) (es : List Entry) (q : PortState) (s : Serial) (row : Row) : Type 0 where
    pub ends : List Outcome
    pub polling : EndsPolling c es q s test ends
    pub fit : Fit ends
    pub sum : sum_by weight ends ≡ count row
    pub start : CountsNone polling.start s count

  abbrev AllSay : PortConfig → List Entry → PortState → Type 0
  AllSay c es q = (s : Serial) (row : Row) → HasRow q.rows s row → test row ≡ true → SaysOf c es q s row

  module _ (c : PortConfig) (es : List Entry) (p q : PortState) (e : Entry) (run : Run (opening_of c) es p) (step : IsStep p e q) (sound : IsSound p) where
    whole : Run (opening_of c) (es ++ e ∷ []) q
    whole = (runs_in_parts (opening_of c) q es (e ∷ [])).1 (p, run, (q, step, refl))

    -- a stretch begins
    anew : (s : Serial) (row : Row) → HasRow q.rows s row → test row ≡ true → count row ≡ 0 → SaysOf c (es ++ e ∷ []) q s row
    anew s row has passes none =
        record {
          ends = [];
          polling = record { before = es ++ e ∷ []; stretch = []; start = q; parts = sym (append-nil (es ++ e ∷ [])); reached = whole; polled = ((row, has, passes), refl, refl) };
          fit = All-nil (λ (end : Outcome). fits end ≡ true);
          sum = sym none;
          start = λ other had. ap count (one_row other row (sym had ∙ has)) ∙ none;
        }

    -- a stretch goes on
    goes_on : (s : Serial) (old new : Row) → HasRow q.rows s new → test new ≡ true → SaysOf c es p s old → Fit (option_to_list (end_of p s e)) → count new ≡ count old + sum_by weight (option_to_list (end_of p s e))
        → SaysOf c (es ++ e ∷ []) q s new
    goes_on s old new has passes h all more =
        let polling = h.polling in
        let added : sum_by weight (h.ends ++ option_to_list (end_of p s e)) ≡ sum_by weight h.ends + sum_by weight (option_to_list (end_of p s e)) = sum_by-append weight h.ends (option_to_list (end_of p s e)) in
        let sum = h.sum in
        record {
          ends = h.ends ++ option_to_list (end_of p s e);
          polling = record {
            before = polling.before;
            stretch = polling.stretch ++ e ∷ [];
            start = polling.start;
            parts = ap (λ (xs : List Entry). xs ++ e ∷ []) polling.parts ∙ append_assoc polling.before polling.stretch (e ∷ []);
            reached = polling.reached;
            polled = longer polling.start p q s polling.stretch h.ends e polling.polled step (new, has, passes);
          };
          fit = All-append (λ (end : Outcome). fits end ≡ true) h.ends (option_to_list (end_of p s e)) h.fit all;
          sum = omega arith;
          start = h.start;
        }

    still_says : AllSay c es p → AllSay c (es ++ e ∷ []) q
    still_says before s new has passes = by_row (new_or_old p q e s new sound step has)
      where
        by_end : (old : Row) → HasRow p.rows s old → test old ≡ true → (o : Option Outcome) → end_of p s e ≡ o → SaysOf c (es ++ e ∷ []) q s new
        by_end old had passed None at =
            let counts = subst (λ (o : Option Outcome). CountsRow o new old) at (step_counts p q e s old new sound step had has) in
            let same = is.idle new old counts passed passes in
            goes_on s old new has passes (before s old had passed) (subst (λ (o : Option Outcome). Fit (option_to_list o)) (sym at) (All-nil (λ (end : Outcome). fits end ≡ true)))
            (subst (λ (o : Option Outcome). count new ≡ count old + sum_by weight (option_to_list o)) (sym at) (step_adds None new old counts passed passes (All-nil (λ (end : Outcome). fits end ≡ true))))
        by_end old had passed (Some ended) at =
            let counts = subst (λ (o : Option Outcome). CountsRow o new old) at (step_counts p q e s old new sound step had has) in
            elim (cases_Bool (fits ended)) [
              | inl b ↦
                  let one : Fit (ended ∷ []) = All-cons (λ (end : Outcome). fits end ≡ true) ended [] b (All-nil (λ (end : Outcome). fits end ≡ true)) in
                  goes_on s old new has passes (before s old had passed) (subst (λ (o : Option Outcome). Fit (option_to_list o)) (sym at) one)
                  (subst (λ (o : Option Outcome). count new ≡ count old + sum_by weight (option_to_list o)) (sym at) (step_adds (Some ended) new old counts passed passes one))
              | inr b ↦ anew s new has passes (is.stops ended new old counts passed passes b)
            ]

        by_row : (new ≡ new_row new.onu) ⊎ ((old : Row) × HasRow p.rows s old) → SaysOf c (es ++ e ∷ []) q s new
        by_row (inl found) = absurd (false≢true (sym (is.fresh new.onu) ∙ ap test (sym found) ∙ passes))
        by_row (inr old) =
            elim (cases_Bool (test old.0)) [
              | inl b ↦ by_end old.0 old.1 b (end_of p s e) refl
              | inr b ↦ anew s new has passes (is.begins (end_of p s e) new old.0 (step_counts p q e s old.0 new sound step old.1 has) b passes)
            ]

  says_after : (c : PortConfig) (before es : List Entry) (p q : PortState) → Run (opening_of c) before p → IsSound p → AllSay c before p → Run p es q → AllSay c (before ++ es) q
  says_after c before [] p q run sound says h = subst (λ (xs : List Entry). AllSay c xs q) (sym (append-nil before)) (subst (λ (x : PortState). AllSay c before x) (sym h) says)
  says_after c before (e ∷ es) p q run sound says h =
      let now = still_says c before p h.0 e run h.1 sound says in
      subst (λ (xs : List Entry). AllSay c xs q) (append_assoc before (e ∷ []) es)
      (says_after c (before ++ e ∷ []) es h.0 q (whole c before p h.0 e run h.1 sound) (sound_step e.purse_in p e.event (entry_outcome e h.0) sound h.1) now h.2)

  none_at_opening : (c : PortConfig) → AllSay c [] (opening_of c)
  none_at_opening c s row has passes = absurd (not_none row (sym (get-empty serial_cmp s) ∙ has))

  pub says : (c : PortConfig) (es : List Entry) (q : PortState) (s : Serial) (row : Row) → Run (opening_of c) es q → HasRow q.rows s row → test row ≡ true → SaysOf c es q s row
  says c es q s row run has passes = says_after c [] es (opening_of c) q refl (sound_opening c) (none_at_opening c) run s row has passes
