-- A desk that serves one event more.
use Rattle.std.proofs.Common.{◌≡◌, ◌+◌, ◌-◌, ◌<◌, ℕ, List, [], ◌∷◌, ◌++◌, length, arith, sym, ap, subst, ◌∙◌, length-append}
use Rattle.std.specs.Prelude.{Option, Some, None, slice_get}
use Rattle.std.proofs.Math.Seq.{get_or-append_seam}
use Rattle.std.proofs.lemmas.List.Elements.{All-push}
use Rattle.std.proofs.lemmas.Option.{slice_get-get_or, same_Some}
use Rattle.gp_machine.specs.declared.config.PortConfig.{PortConfig}
use Rattle.gp_machine.specs.declared.event.Event.{Event}
use Rattle.gp_machine.specs.declared.entry.Entry.{Entry}
use Rattle.gp_machine.specs.declared.entry.Receipt.{Receipt}
use Rattle.gp_machine.specs.State.{PortState, opening_of}
use Rattle.gp_machine.specs.Run.{IsStep, IsReached, entry_outcome}
use Rattle.gp_port.specs.Numbers.{GrantsWish}
use Rattle.gp_laws.proofs.WholeRuns.{step_config}
use Rattle.gp_journal.specs.Replays.{Replays}
use Rattle.gp_journal.proofs.Runs.{Replays-push, Run-push}
use Rattle.gp_chassis.specs.Desk.{DeskState, DeskStands, IsProperEntry, Serves, ServesInPlace, desk_after, last_kept}

-- what holds of a desk holds of it after a step more
pub stepped_desk : (d : DeskState) (e : Entry) (next : PortState) → DeskStands d → IsStep d.state e next → IsProperEntry e → DeskStands (desk_after d e next)
stepped_desk d e next h step proper =
    let config : next.config ≡ d.state.config = step_config d.state next e step in
    let c : PortConfig = d.state.config in
    let replays : Replays c d.base (d.entries ++ e ∷ []) next = Replays-push c d.base d.state next d.entries e h.replays step in
    let reached : IsReached c next = (h.reached.0 ++ e ∷ [], Run-push (opening_of c) d.state next h.reached.0 e h.reached.1 step) in
    record {
      replays = subst (λ (x : PortConfig). Replays x d.base (d.entries ++ e ∷ []) next) (sym config) replays;
      reached = subst (λ (x : PortConfig). IsReached x next) (sym config) reached;
      proper = All-push IsProperEntry d.entries e h.proper proper;
    }

-- the desk whose journal made room, and then kept one entry more
pub desk_recorded : (d : DeskState) (e : Entry) (next : PortState) (first1 first2 : ℕ) (base1 base2 : Option PortState) (es1 es2 : List Entry)
    → first1 ≡ d.first → first2 ≡ first1 → base1 ≡ d.base → base2 ≡ base1 → es1 ≡ d.entries → es2 ≡ es1 ++ e ∷ []
    → record { limit = d.limit; first = first2; base = base2; entries = es2; state = next } ≡ desk_after d e next
desk_recorded d e next first1 first2 base1 base2 es1 es2 f1 f2 b1 b2 h1 h2 =
    let M : ℕ → Option PortState → List Entry → DeskState = λ f b es. record { limit = d.limit; first = f; base = b; entries = es; state = next } in
    ap (λ (f : ℕ). M f base2 es2) (f2 ∙ f1) ∙ ap (λ (b : Option PortState). M d.first b es2) (b2 ∙ b1) ∙ ap (λ (es : List Entry). M d.first d.base es) (h2 ∙ ap (λ (es : List Entry). es ++ e ∷ []) h1)

-- so many entries it then keeps
pub one_more : (d : DeskState) (e : Entry) (next : PortState) → length (desk_after d e next).entries ≡ length d.entries + 1
one_more d e next = length-append d.entries (e ∷ [])

last_pushed : (es : List Entry) (e : Entry) → slice_get (es ++ e ∷ []) (length (es ++ e ∷ []) - 1) ≡ Some e
last_pushed es e =
    let count : length (es ++ e ∷ []) ≡ length es + 1 = length-append es (e ∷ []) in
    let within : length es < length (es ++ e ∷ []) = omega (arith, count) in
    let last : length (es ++ e ∷ []) - 1 ≡ length es = omega (arith, count) in
    ap (slice_get (es ++ e ∷ [])) last ∙ slice_get-get_or (es ++ e ∷ []) (length es) e within ∙ ap (λ (x : Entry). Some x) (get_or-append_seam es e [] e)

-- the entry of a desk that serves is the last that its journal keeps
pub served_last : (old new : DeskState) (port purse : ℕ) (event : Event) (r : Receipt) (rest : ℕ) → Serves old new port purse event r rest → last_kept new ≡ Some r.entry
served_last old new port purse event r rest h = ap last_kept h.desk ∙ last_pushed old.entries r.entry

-- a receipt with these numbers and this entry
pub receipt_is : (a b : Receipt) → a.port ≡ b.port → a.number ≡ b.number → Some a.entry ≡ Some b.entry → a ≡ b
receipt_is a b h1 h2 h3 =
    let M : ℕ → ℕ → Entry → Receipt = λ p n e. record { port = p; number = n; entry = e } in
    ap (λ (p : ℕ). M p a.number a.entry) h1 ∙ ap (λ (n : ℕ). M b.port n a.entry) h2 ∙ ap (M b.port b.number) (same_Some a.entry b.entry h3)

-- a desk that has served keeps an entry
pub in_place_some : (old new : DeskState) (purse : ℕ) (event : Event) (wished : Option ℕ) (number rest : ℕ) → ServesInPlace old new purse event wished number rest → last_kept new ≡ None → ⊥
in_place_some old new purse event wished number rest h none = let last = served_last old new 0 purse event _ rest (h.serves 0) in let both = sym last ∙ none in cc

-- the receipt of the last entry is the one that the desk served
pub in_place_serves : (old new : DeskState) (port purse : ℕ) (event : Event) (wished : Option ℕ) (number rest : ℕ) (r : Receipt) → ServesInPlace old new purse event wished number rest
    → r.port ≡ port → r.number ≡ number → last_kept new ≡ Some r.entry → Serves old new port purse event r rest
in_place_serves old new port purse event wished number rest r h h1 h2 h3 =
    let s : Receipt = record { port = port; number = number; entry = h.entry } in
    let last = served_last old new port purse event s rest (h.serves port) in
    subst (λ (x : Receipt). Serves old new port purse event x rest) (receipt_is s r (sym h1) (sym h2) (sym last ∙ h3)) (h.serves port)

-- and it grants the wish
pub in_place_grants : (old new : DeskState) (purse : ℕ) (event : Event) (wished : Option ℕ) (number rest : ℕ) (e : Entry) → ServesInPlace old new purse event wished number rest
    → last_kept new ≡ Some e → GrantsWish purse old.state event wished (entry_outcome e new.state)
in_place_grants old new purse event wished number rest e h last =
    let same : h.entry ≡ e = same_Some _ _ (sym (served_last old new 0 purse event _ rest (h.serves 0)) ∙ last) in
    subst (λ (x : Entry). GrantsWish purse old.state event wished (entry_outcome x new.state)) same h.grants
