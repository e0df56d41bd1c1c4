-- What holds of whole runs.
use Rattle.std.proofs.Common.{◌≡◌, ℕ, ◌+◌, List, [], ◌∷◌, refl, sym, ap, subst, ◌∙◌, arith}
use Rattle.std.specs.Prelude.{◌++◌}
use Rattle.std.proofs.lemmas.List.Sums.{sum_by-cons}
use Rattle.gp_machine.specs.declared.entry.Entry.{Entry}
use Rattle.gp_machine.specs.declared.event.Event.{Event}
use Rattle.gp_machine.specs.declared.event.Event.TheVariants as event
use Rattle.gp_machine.specs.State.{PortState, rows_of, opening_of}
use Rattle.gp_machine.specs.Sound.{IsSound}
use Rattle.gp_machine.specs.Changes.{Change, StepResult, MarksSeen, state_after_change, state_after}
use Rattle.gp_machine.specs.Responses.{changes_with}
use Rattle.gp_machine.specs.Step.{Step, state_at}
use Rattle.gp_machine.specs.Run.{IsStep, Run, entry_outcome}
use Rattle.gp_machine.specs.OneStep.{IsDetermined}
use Rattle.gp_machine.proofs.SoundFrames.{sound_opening}
use Rattle.gp_machine.proofs.Steps.{sound_step, step_keeps}
use Rattle.gp_laws.specs.Runs.{RunsInParts, RunsEndAlike, AreAlike, RepliesTellRuns, EveryStateIsSound, KeepsConfiguration, RunsKeepLicences, licences_in, licences_out}

joined : (p mid q : PortState) (es fs : List Entry) → Run p es mid → Run mid fs q → Run p (es ++ fs) q
joined p mid q [] fs h k = subst (λ (x : PortState). Run x fs q) h k
joined p mid q (e ∷ es) fs h k = (h.0, h.1, joined h.0 mid q es fs h.2 k)

cut : (p q : PortState) (es fs : List Entry) → Run p (es ++ fs) q → (mid : PortState) × Run p es mid × Run mid fs q
cut p q [] fs h = (p, refl, h)
cut p q (e ∷ es) fs h = let rest = cut h.0 q es fs h.2 in (rest.0, (h.0, h.1, rest.1), rest.2)

pub runs_in_parts : RunsInParts
runs_in_parts p q es fs = (cut p q es fs, λ parts. joined p parts.0 q es fs parts.1 parts.2)

pub sound_after : (p q : PortState) (es : List Entry) → IsSound p → Run p es q → IsSound q
sound_after p q [] sound h = subst (λ (x : PortState). IsSound x) (sym h) sound
sound_after p q (e ∷ es) sound h = sound_after h.0 q es (sound_step e.purse_in p e.event (entry_outcome e h.0) sound h.1) h.2

pub every_state : EveryStateIsSound
every_state c p reached = sound_after (opening_of c) p reached.0 (sound_opening c) reached.1

pub licences_kept : RunsKeepLicences
licences_kept p q [] sound h = ap (λ (x : PortState). 0 + rows_of x) (sym h)
licences_kept p q (e ∷ es) sound h =
    let now : e.purse_out + rows_of h.0 ≡ e.purse_in + rows_of p = step_keeps e.purse_in p e.event (entry_outcome e h.0) sound h.1 in
    let later : licences_in es + rows_of h.0 ≡ licences_out es + rows_of q = licences_kept h.0 q es (sound_step e.purse_in p e.event (entry_outcome e h.0) sound h.1) h.2 in
    let handed_in : licences_in (e ∷ es) ≡ e.purse_in + licences_in es = sum_by-cons (λ (x : Entry). x.purse_in) e es in
    let handed_back : licences_out (e ∷ es) ≡ e.purse_out + licences_out es = sum_by-cons (λ (x : Entry). x.purse_out) e es in
    omega arith

-- ---- the configuration

pub change_config : (p : PortState) (change : Change) → (state_after_change p change).config ≡ p.config
change_config p MarksSeen = refl
change_config p change = refl

changes_config : (p : PortState) (changes : List Change) → (state_after p changes).config ≡ p.config
changes_config p [] = refl
changes_config p (change ∷ changes) = changes_config (state_after_change p change) changes ∙ change_config p change

pub start_config : (p : PortState) (e : Event) → (state_at p e).config ≡ p.config
start_config p event.Frame = refl
start_config p (event.Burst at bytes) = refl
start_config p (event.Command c) = refl

pub step_config : (p q : PortState) (e : Entry) → IsStep p e q → q.config ≡ p.config
step_config p q e step = let s = step.1 in ap (λ (o : StepResult). o.state.config) s.is ∙ changes_config (state_at p e.event) (changes_with s.response s.picked) ∙ start_config p e.event

pub config_after : (p q : PortState) (es : List Entry) → Run p es q → q.config ≡ p.config
config_after p q [] h = ap (λ (x : PortState). x.config) h
config_after p q (e ∷ es) h = config_after h.0 q es h.2 ∙ step_config p h.0 e h.1

pub keeps_configuration : KeepsConfiguration
keeps_configuration c p reached = config_after (opening_of c) p reached.0 reached.1

-- ---- what determines a run

pub end_alike : IsDetermined → RunsEndAlike
end_alike one p q r [] h k = h ∙ sym k
end_alike one p q r (e ∷ es) h k =
    let same : h.0 ≡ k.0 = ap (λ (o : StepResult). o.state) (one e.purse_in p e.event (entry_outcome e h.0) (entry_outcome e k.0) h.1 k.1 refl) in
    end_alike one h.0 q r es h.2 (subst (λ (x : PortState). Run x es r) (sym same) k.2)

-- two steps with the same licences, event and reply
same_step : IsDetermined → (p q r : PortState) (e f : Entry) → IsStep p e q → IsStep p f r → AreAlike e f → (e ≡ f) × (q ≡ r)
same_step one p q r e f h k alike =
    let licences = alike.0 in
    let event = alike.1 in
    let other : Step e.purse_in p e.event (entry_outcome f r) = subst (λ (u : ℕ). Step u p e.event (entry_outcome f r)) (sym licences) (subst (λ (x : Event). Step f.purse_in p x (entry_outcome f r)) (sym event) k) in
    let same : entry_outcome e q ≡ entry_outcome f r = one e.purse_in p e.event (entry_outcome e q) (entry_outcome f r) h other alike.2 in
    (λ i. record { purse_in = licences i; event = event i; answer = (same i).answer; purse_out = (same i).purse }, ap (λ (o : StepResult). o.state) same)

pub replies_tell : IsDetermined → RepliesTellRuns
replies_tell one p q r [] [] h k alike = (refl, h ∙ sym k)
replies_tell one p q r [] (f ∷ fs) h k alike = absurd alike
replies_tell one p q r (e ∷ es) [] h k alike = absurd alike
replies_tell one p q r (e ∷ es) (f ∷ fs) h k alike =
    let first = same_step one p h.0 k.0 e f h.1 k.1 alike.0 in
    let rest = replies_tell one h.0 q r es fs h.2 (subst (λ (x : PortState). Run x fs r) (sym first.1) k.2) alike.1 in
    (λ i. first.0 i ∷ rest.0 i, rest.1)
