-- What is sent, each message once, begins what is owed.
use Rattle.std.proofs.Common.{◌≡◌, ℕ, List, [], ◌∷◌, Option, None, Some, refl, sym, ap, subst, ◌∙◌}
use Rattle.std.specs.Prelude.{All}
use Rattle.std.specs.Ordering.{nat_cmp}
use Rattle.std.specs.Cmp.{nat_cmp_total}
use Rattle.std.specs.FinMap.{FinMap, get, same_map, nat_cmp-IsAntisymmetric}
use Rattle.std.proofs.lemmas.List.Elements.{All-nil, All-cons, All-append}
use Rattle.gp_ploam.specs.declared.message.Serial.{Serial}
use Rattle.gp_ploam.specs.declared.message.Down.{Down}
use Rattle.gp_ploam.specs.declared.message.Down.TheVariants as down
use Rattle.gp_unit.specs.declared.row.Row.{Row}
use Rattle.gp_machine.specs.declared.config.PortConfig.{PortConfig}
use Rattle.gp_machine.specs.declared.entry.Entry.{Entry}
use Rattle.gp_machine.specs.declared.event.Event.{Event}
use Rattle.gp_machine.specs.State.{PortState, Rows, opening_of}
use Rattle.gp_machine.specs.Changes.{StepResult, owed_by}
use Rattle.gp_machine.specs.Responses.{changes_with}
use Rattle.gp_machine.specs.Step.{StepOwing, state_at}
use Rattle.gp_machine.specs.Run.{entry_outcome}
use Rattle.gp_machine.specs.Messages.{RunOwing, three_times}
use Rattle.gp_laws.proofs.WholeRuns.{start_config, step_config}
use Rattle.gp_laws.proofs.RunMessages.{run_owes, opening_sends}
use Rattle.gp_laws.proofs.Orderly.{IsFounded, AreFounded}
use Rattle.gp_laws.proofs.OrderlyFrames.{orderly_step}
use Rattle.gp_observer.specs.Observer.{nothing_observed, observed_after_all}
use Rattle.gp_observer.specs.Knows.{Lists, HoldsOnu, HoldsAlloc, HasDelay, IsKnown}
use Rattle.gp_observer.specs.Sent.{each_once, SentTellUnits, UnitsTellAll, NamesAdmitted, MessagesNameAdmitted}
use Rattle.gp_observer.proofs.TellingFrames.{know_units}

-- ---- each message once

once : (ms : List Down) → each_once (three_times ms) ≡ ms
unfolding each_once
once [] = refl
once (m ∷ ms) = ap (λ ns. m ∷ ns) (once ms)

pub sent_tell : SentTellUnits
sent_tell c q es run =
    let owing = run_owes (opening_of c) q es run in
    let same = ap each_once (opening_sends c q es owing.0 owing.1) ∙ once owing.0 in
    subst (λ (ms : List Down). IsKnown q.rows q.disabled (observed_after_all nothing_observed ms)) (sym same) (know_units c q es owing.0 owing.1)

-- ---- what is known is all that is true

module _ {X : Type 0} where
  agree : (o p : Option X) → ((x : X) → o ≡ Some x → p ≡ Some x) → ((x : X) → p ≡ Some x → o ≡ Some x) → o ≡ p
  agree None None f g = refl
  agree None (Some y) f g = g y refl
  agree (Some x) p f g = sym (f x refl)

  one_list : (P : ℕ → X → Serial → Row → Type 0) (m n : FinMap nat_cmp X) (rows : Rows) → Lists P m rows → Lists P n rows → m ≡ n
  one_list P m n rows h k = same_map nat_cmp_total nat_cmp-IsAntisymmetric m n (λ q. agree (get m q) (get n q) (λ x e. (k q x).1 ((h q x).0 e)) (λ x e. (h q x).1 ((k q x).0 e)))

pub tell_all : UnitsTellAll
tell_all rows d a b h k =
    λ i. record {
      holder = one_list HoldsOnu a.holder b.holder rows h.holder k.holder i;
      disabled = (h.disabled_are ∙ sym k.disabled_are) i;
      alloc = one_list HoldsAlloc a.alloc b.alloc rows h.alloc k.alloc i;
      delay = one_list HasDelay a.delay b.delay rows h.delay k.delay i;
    }

-- ---- serial numbers

names : (p : PortState) (m : Down) → IsFounded p m → NamesAdmitted p.config m
names p (down.AssignOnu n s) h = h
names p (down.DisableSerial s) h = h
names p (down.EnableSerial s) h = h
names p m h = tt

all_name : (p : PortState) (ms : List Down) → AreFounded p ms → All (NamesAdmitted p.config) ms
all_name p [] h = All-nil (NamesAdmitted p.config)
all_name p (m ∷ ms) h = All-cons (NamesAdmitted p.config) m ms (names p m h.0) (all_name p ms h.1)

step_names : (u : ℕ) (p : PortState) (e : Event) (o : StepResult) (messages : List Down) → StepOwing u p e o messages → All (NamesAdmitted p.config) messages
step_names u p e o messages s =
    subst (λ (c : PortConfig). All (NamesAdmitted c) messages) (start_config p e)
    (subst (λ (ms : List Down). All (NamesAdmitted (state_at p e).config) ms) (sym s.owes)
    (all_name (state_at p e) (owed_by (changes_with s.response s.picked)) ((orderly_step u p e s.response s.said).founded s.picked s.may)))

run_names : (p q : PortState) (es : List Entry) (messages : List Down) → RunOwing p es messages q → All (NamesAdmitted p.config) messages
run_names p q [] messages h = subst (λ (ms : List Down). All (NamesAdmitted p.config) ms) (sym h.1) (All-nil (NamesAdmitted p.config))
run_names p q (e ∷ es) messages h =
    let now = step_names e.purse_in p e.event (entry_outcome e h.0) h.1 h.3 in
    let later = subst (λ (c : PortConfig). All (NamesAdmitted c) h.2) (step_config p h.0 e (h.1, h.3)) (run_names h.0 q es h.2 h.4) in
    subst (λ (ms : List Down). All (NamesAdmitted p.config) ms) (sym h.5) (All-append (NamesAdmitted p.config) h.1 h.2 now later)

pub name_admitted : MessagesNameAdmitted
name_admitted c q es messages h = run_names (opening_of c) q es messages h
