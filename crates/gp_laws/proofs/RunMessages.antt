-- The messages that the steps of a run owe are sent, each three times.
use Rattle.std.proofs.Common.{◌≡◌, List, [], ◌∷◌, ◌++◌, refl, sym, ap, ◌∙◌, append_assoc}
use Rattle.std.specs.Option.{option_to_list}
use Rattle.std.proofs.lemmas.List.{append-nil}
use Rattle.std.proofs.lemmas.List.Concat.{flat_map-cons}
use Rattle.gp_ploam.specs.declared.message.Down.{Down}
use Rattle.gp_machine.specs.declared.entry.Entry.{Entry}
use Rattle.gp_machine.specs.State.{PortState, opening_of}
use Rattle.gp_machine.specs.Run.{entry_outcome}
use Rattle.gp_machine.specs.Messages.{sent_in, three_times}
use Rattle.gp_machine.proofs.OwedMessages.{sends_in_order}
use Rattle.gp_laws.specs.Messages.{EveryRunHasOwedMessages, SendsEachThreeTimes, SendsWhatWasOwedFirst}

pub three_times-append : (ms ns : List Down) → three_times (ms ++ ns) ≡ three_times ms ++ three_times ns
three_times-append [] ns = refl
three_times-append (m ∷ ms) ns = ap (λ (xs : List Down). m ∷ m ∷ m ∷ xs) (three_times-append ms ns)

pub run_owes : EveryRunHasOwedMessages
run_owes p q [] h = ([], (h, refl))
run_owes p q (e ∷ es) h = let later = run_owes h.0 q es h.2 in (h.1.0 ++ later.0, (h.0, h.1.0, later.0, h.1.1, later.1, refl))

pub run_sends : SendsWhatWasOwedFirst
run_sends p q [] messages h =
    ap (λ (x : PortState). x.owed) h.0 ∙ sym (append-nil p.owed) ∙ ap (λ (ms : List Down). p.owed ++ three_times ms) (sym h.1)
run_sends p q (e ∷ es) messages h =
    let sent = option_to_list e.answer.sent in
    let now : sent ++ h.0.owed ≡ p.owed ++ three_times h.1 = sends_in_order e.purse_in p e.event (entry_outcome e h.0) h.1 h.3 in
    let later : sent_in es ++ q.owed ≡ h.0.owed ++ three_times h.2 = run_sends h.0 q es h.2 h.4 in
    ap (λ (ms : List Down). ms ++ q.owed) (flat_map-cons (λ (x : Entry). option_to_list x.answer.sent) e es)
    ∙ append_assoc sent (sent_in es) q.owed
    ∙ ap (λ (ms : List Down). sent ++ ms) later
    ∙ sym (append_assoc sent h.0.owed (three_times h.2))
    ∙ ap (λ (ms : List Down). ms ++ three_times h.2) now
    ∙ append_assoc p.owed (three_times h.1) (three_times h.2)
    ∙ ap (λ (ms : List Down). p.owed ++ ms) (sym (three_times-append h.1 h.2))
    ∙ ap (λ (ms : List Down). p.owed ++ three_times ms) (sym h.5)

pub opening_sends : SendsEachThreeTimes
opening_sends c q es messages h = run_sends (opening_of c) q es messages h
