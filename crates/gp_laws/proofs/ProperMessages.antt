-- Every message that is sent or owed is proper.
use Rattle.std.proofs.Common.{◌≡◌, ℕ, ◌≤◌, Bool, true, length, List, [], ◌∷◌, Option, None, Some, inl, inr, sym, subst, arith, is_some, refl}
use Rattle.std.specs.Prelude.{All}
use Rattle.std.specs.FinMap.{get}
use Rattle.std.proofs.lemmas.Bool.{false≢true}
use Rattle.std.proofs.lemmas.List.Elements.{All-nil, All-cons, All-head, All-tail, All-append, All-contains}
use Rattle.gp_ploam.specs.declared.message.Serial.{Serial}
use Rattle.gp_ploam.specs.declared.message.Down.{Down}
use Rattle.gp_ploam.specs.declared.message.Down.TheVariants as down
use Rattle.gp_ploam.specs.Down.{IsProperDown}
use Rattle.gp_ploam.specs.Serials.{is_among}
use Rattle.gp_unit.specs.declared.row.Row.{Row}
use Rattle.gp_unit.specs.Rows.{has_alloc}
use Rattle.gp_unit.specs.Sound.{IsSoundRow}
use Rattle.gp_machine.specs.declared.config.PortConfig.{PortConfig}
use Rattle.gp_machine.specs.declared.entry.Entry.{Entry}
use Rattle.gp_machine.specs.declared.event.Event.{Event}
use Rattle.gp_machine.specs.State.{PortState, opening_of}
use Rattle.gp_machine.specs.Sound.{IsSound}
use Rattle.gp_machine.specs.Changes.{StepResult, owed_by}
use Rattle.gp_machine.specs.Responses.{changes_with}
use Rattle.gp_machine.specs.Step.{StepOwing, state_at}
use Rattle.gp_machine.specs.Run.{entry_outcome}
use Rattle.gp_machine.specs.Messages.{RunOwing, three_times}
use Rattle.gp_machine.proofs.SerialLists.{admitted_contains}
use Rattle.gp_machine.proofs.SoundFrames.{sound_opening}
use Rattle.gp_machine.proofs.Steps.{sound_start, sound_step}
use Rattle.gp_laws.specs.Messages.{IsTypedConfig, SendsOnlyProperMessages}
use Rattle.gp_laws.proofs.WholeRuns.{start_config, step_config}
use Rattle.gp_laws.proofs.RunMessages.{run_owes, opening_sends}
use Rattle.gp_laws.proofs.Orderly.{IsFounded, AreFounded}
use Rattle.gp_laws.proofs.OrderlyFrames.{orderly_step}

-- a further Alloc-ID of a sound row is at most the greatest one
further_low : (last : ℕ) (row : Row) (a : ℕ) → IsSoundRow last row → has_alloc a row ≡ true → a ≤ last
further_low last row a h has = by_alloc (get row.allocs a) refl has
  where
    by_alloc : (o : Option Bool) → get row.allocs a ≡ o → is_some o ≡ true → a ≤ last
    by_alloc None is e = absurd (false≢true e)
    by_alloc (Some leaving) is e = (h.ranged a leaving is).1

module _ (p : PortState) (sound : IsSound p) (typed : IsTypedConfig p.config) where
  eight : (s : Serial) → is_among s p.config.admitted ≡ true → length s.0 ≡ 8
  eight s h = All-contains (λ (x : Serial). length x.0 ≡ 8) p.config.admitted s typed.serials (admitted_contains s p.config.admitted h)

  message_proper : (m : Down) → IsFounded p m → IsProperDown m
  message_proper (down.UpstreamOverhead burst) h = subst (λ (xs : List ℕ). length xs ≡ 10) (sym h) typed.overhead
  message_proper (down.AssignOnu n s) h = eight s h
  message_proper (down.RangingTime n eqd) h = let most = typed.delay in omega arith
  message_proper (down.Deactivate n) h = tt
  message_proper (down.DisableSerial s) h = eight s h
  message_proper (down.EnableSerial s) h = eight s h
  message_proper down.EnableAll h = tt
  message_proper (down.AssignAlloc n a keep) (inl low) = let most = typed.allocs in omega arith
  message_proper (down.AssignAlloc n a keep) (inr has) =
      let most = typed.allocs in let low = further_low p.config.alloc_last has.1 a (sound.units.each has.0 has.1 has.2).fits has.3 in omega arith
  message_proper down.NoMessage h = tt
  message_proper (down.Popup n) h = tt
  message_proper (down.Other id octet1 body) h = absurd h

  pub all_proper : (ms : List Down) → AreFounded p ms → All IsProperDown ms
  all_proper [] h = All-nil IsProperDown
  all_proper (m ∷ ms) h = All-cons IsProperDown m ms (message_proper m h.0) (all_proper ms h.1)

step_proper : (u : ℕ) (p : PortState) (e : Event) (o : StepResult) (messages : List Down) → IsSound p → IsTypedConfig p.config → StepOwing u p e o messages → All IsProperDown messages
step_proper u p e o messages sound typed s =
    subst (λ (ms : List Down). All IsProperDown ms) (sym s.owes)
    (all_proper (state_at p e) (sound_start p e sound) (subst (λ (c : PortConfig). IsTypedConfig c) (sym (start_config p e)) typed) (owed_by (changes_with s.response s.picked))
    ((orderly_step u p e s.response s.said).founded s.picked s.may))

run_proper : (p q : PortState) (es : List Entry) (messages : List Down) → IsSound p → IsTypedConfig p.config → RunOwing p es messages q → All IsProperDown messages
run_proper p q [] messages sound typed h = subst (λ (ms : List Down). All IsProperDown ms) (sym h.1) (All-nil IsProperDown)
run_proper p q (e ∷ es) messages sound typed h =
    let now = step_proper e.purse_in p e.event (entry_outcome e h.0) h.1 sound typed h.3 in
    let still = sound_step e.purse_in p e.event (entry_outcome e h.0) sound (h.1, h.3) in
    let same : h.0.config ≡ p.config = step_config p h.0 e (h.1, h.3) in
    let later = run_proper h.0 q es h.2 still (subst (λ (c : PortConfig). IsTypedConfig c) (sym same) typed) h.4 in
    subst (λ (ms : List Down). All IsProperDown ms) (sym h.5) (All-append IsProperDown h.1 h.2 now later)

three_proper : (ms : List Down) → All IsProperDown ms → All IsProperDown (three_times ms)
three_proper [] h = All-nil IsProperDown
three_proper (m ∷ ms) h =
    let first = All-head IsProperDown m ms h in
    let rest = three_proper ms (All-tail IsProperDown m ms h) in
    All-cons IsProperDown m (m ∷ m ∷ three_times ms) first (All-cons IsProperDown m (m ∷ three_times ms) first (All-cons IsProperDown m (three_times ms) first rest))

pub only_proper : SendsOnlyProperMessages
only_proper c q es typed run =
    let owing = run_owes (opening_of c) q es run in
    subst (λ (ms : List Down). All IsProperDown ms) (sym (opening_sends c q es owing.0 owing.1))
    (three_proper owing.0 (run_proper (opening_of c) q es owing.0 (sound_opening c) typed owing.1))
