-- The copies that are owed are sent first, one in each frame.
use Rattle.std.proofs.Common.{◌≡◌, ℕ, zero, suc, ◌+◌, ◌≤◌, List, [], ◌∷◌, ◌++◌, Option, length, take, drop, refl, sym, ap, subst, ◌∙◌, arith}
use Rattle.std.specs.Prelude.{◌-◌}
use Rattle.std.specs.Option.{option_to_list}
use Rattle.std.proofs.lemmas.List.{length-append, take-append-le, drop-append-le, take-append-drop}
use Rattle.std.proofs.lemmas.List.Concat.{flat_map-cons}
use Rattle.std.proofs.lemmas.List.Sums.{sum_by-cons}
use Rattle.std.proofs.Math.Seq.{take-append_seam, drop-append_seam}
use Rattle.gp_ploam.specs.declared.message.Down.{Down}
use Rattle.gp_volley.specs.Copies.{first_of}
use Rattle.gp_machine.specs.declared.entry.Entry.{Entry}
use Rattle.gp_machine.specs.declared.event.Event.{Event}
use Rattle.gp_machine.specs.declared.event.Event.TheVariants as event
use Rattle.gp_machine.specs.State.{PortState}
use Rattle.gp_machine.specs.Changes.{StepResult}
use Rattle.gp_machine.specs.Responses.{Response, Responds, GivesOnu, GivesAlloc, answer_with}
use Rattle.gp_machine.specs.Step.{StepOwing, sent_at}
use Rattle.gp_machine.specs.Run.{entry_outcome}
use Rattle.gp_machine.specs.Messages.{RunOwing, sent_in, three_times}
use Rattle.gp_machine.proofs.OwedMessages.{sends_in_order}
use Rattle.gp_laws.specs.Messages.{SendsFirstOwed, SendsAllOwed}
use Rattle.gp_laws.specs.Quarantine.{frames_of, frames_in}
use Rattle.gp_laws.proofs.RunMessages.{run_sends}

-- ---- one step

answer_sends : (sent : Option Down) (d : Response) (n : ℕ) → (answer_with sent d n).sent ≡ sent
answer_sends sent (Responds reply grant alarm changes) n = refl
answer_sends sent (GivesOnu s) n = refl
answer_sends sent (GivesAlloc s row) n = refl

step_sends : (u : ℕ) (p : PortState) (e : Event) (o : StepResult) (messages : List Down) → StepOwing u p e o messages → o.answer.sent ≡ sent_at p e
step_sends u p e o messages s = ap (λ (x : StepResult). x.answer.sent) s.is ∙ answer_sends (sent_at p e) s.response s.picked

abbrev copies : Option Down → ℕ
copies sent = length (option_to_list sent)

-- a frame sends one copy at most, and one where one is owed
first_copies : (ms : List Down) → (copies (first_of ms) ≤ 1) × (1 ≤ length ms → copies (first_of ms) ≡ 1)
first_copies [] = (omega arith, λ some. absurd (omega arith))
first_copies (m ∷ ms) = (omega arith, λ some. refl)

start_copies : (p : PortState) (e : Event) → (copies (sent_at p e) ≤ frames_of e) × (1 ≤ length p.owed → copies (sent_at p e) ≡ frames_of e)
start_copies p event.Frame = first_copies p.owed
start_copies p (event.Burst at bytes) = (omega arith, λ some. refl)
start_copies p (event.Command c) = (omega arith, λ some. refl)

step_copies : (u : ℕ) (p : PortState) (e : Event) (o : StepResult) (messages : List Down) → StepOwing u p e o messages
    → (copies o.answer.sent ≤ frames_of e) × (1 ≤ length p.owed → copies o.answer.sent ≡ frames_of e)
step_copies u p e o messages s =
    subst (λ (sent : Option Down). (copies sent ≤ frames_of e) × (1 ≤ length p.owed → copies sent ≡ frames_of e)) (sym (step_sends u p e o messages s)) (start_copies p e)

-- what is owed after a step is at least what was owed before it without the copy that it sends
step_owed : (u : ℕ) (p : PortState) (e : Event) (o : StepResult) (messages : List Down) → StepOwing u p e o messages → length p.owed ≤ copies o.answer.sent + length o.state.owed
step_owed u p e o messages s =
    let both = length-append (option_to_list o.answer.sent) o.state.owed in
    let all = length-append p.owed (three_times messages) in
    let same = ap length (sends_in_order u p e o messages s) in
    omega arith

-- ---- a run

sent_more : (e : Entry) (es : List Entry) → length (sent_in (e ∷ es)) ≡ copies e.answer.sent + length (sent_in es)
sent_more e es = ap length (flat_map-cons (λ (x : Entry). option_to_list x.answer.sent) e es) ∙ length-append (option_to_list e.answer.sent) (sent_in es)

frames_more : (e : Entry) (es : List Entry) → frames_in (e ∷ es) ≡ frames_of e.event + frames_in es
frames_more e es = sum_by-cons (λ (x : Entry). frames_of x.event) e es

-- no more copies are sent than there are frames
sent_most : (p q : PortState) (es : List Entry) (messages : List Down) → RunOwing p es messages q → length (sent_in es) ≤ frames_in es
sent_most p q [] messages h = omega arith
sent_most p q (e ∷ es) messages h =
    let now = (step_copies e.purse_in p e.event (entry_outcome e h.0) h.1 h.3).0 in
    let later = sent_most h.0 q es h.2 h.4 in
    let sent = sent_more e es in
    let frames = frames_more e es in
    omega arith

one_less : (k sent frames owed rest : ℕ) → (1 ≤ owed → sent ≡ frames) → k ≤ frames + rest → k ≤ owed → k - sent ≤ rest
one_less k sent frames zero rest one most some = omega arith
one_less k sent frames (suc owed) rest one most some = let same : sent ≡ frames = one (omega arith) in omega arith

-- and as many as there are frames, while there are copies
sent_least : (k : ℕ) (p q : PortState) (es : List Entry) (messages : List Down) → RunOwing p es messages q → k ≤ frames_in es → k ≤ length p.owed → k ≤ length (sent_in es)
sent_least k p q [] messages h frames owed = omega arith
sent_least k p q (e ∷ es) messages h frames owed =
    let now = (step_copies e.purse_in p e.event (entry_outcome e h.0) h.1 h.3).1 in
    let left = step_owed e.purse_in p e.event (entry_outcome e h.0) h.1 h.3 in
    let sent = sent_more e es in
    let more = frames_more e es in
    let few : k - copies e.answer.sent ≤ frames_in es = one_less k (copies e.answer.sent) (frames_of e.event) (length p.owed) (frames_in es) now (omega arith) owed in
    let later = sent_least (k - copies e.answer.sent) h.0 q es h.2 h.4 few (omega arith) in
    omega arith

-- ---- what is sent first

first_part : (xs ys zs ws : List Down) (n : ℕ) → xs ++ ys ≡ zs ++ ws → length xs ≡ n → n ≤ length zs → (xs ≡ take n zs) × (ys ≡ drop n zs ++ ws)
first_part xs ys zs ws n same long low = (
  sym (take-append_seam xs ys) ∙ ap (λ (k : ℕ). take k (xs ++ ys)) long ∙ ap (λ (ms : List Down). take n ms) same ∙ take-append-le n zs ws low,
  sym (drop-append_seam xs ys) ∙ ap (λ (k : ℕ). drop k (xs ++ ys)) long ∙ ap (λ (ms : List Down). drop n ms) same ∙ drop-append-le n zs ws low,
)

pub sends_first : SendsFirstOwed
sends_first p q es messages h low =
    let most = sent_most p q es messages h in
    let least = sent_least (frames_in es) p q es messages h (omega arith) low in
    first_part (sent_in es) q.owed p.owed (three_times messages) (frames_in es) (run_sends p q es messages h) (omega arith) low

pub sends_all : SendsAllOwed
sends_all p q es messages h high =
    let least = sent_least (length p.owed) p q es messages h high (omega arith) in
    let parts = first_part p.owed (three_times messages) (sent_in es) q.owed (length p.owed) (sym (run_sends p q es messages h)) refl least in
    (drop (length p.owed) (sent_in es), sym (take-append-drop (length p.owed) (sent_in es)) ∙ ap (λ (ms : List Down). ms ++ drop (length p.owed) (sent_in es)) (sym parts.0), parts.1)
