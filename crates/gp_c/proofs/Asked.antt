-- What is asked of a handle, by the kind of question.
use Rattle.std.proofs.Common.{◌≡◌, ℕ, refl, ap, Option, None, Some, IfOk}
use Rattle.std.specs.Option.{ForSome}
use Rattle.gp_ploam.specs.declared.message.Serial.{Serial}
use Rattle.gp_ploam.specs.Down.{IsProperDown}
use Rattle.gp_machine.specs.declared.event.Event.{Event}
use Rattle.gp_chassis.specs.Core.{CoreState}
use Rattle.gp_c.specs.declared.op.Op.TheVariants.{Apply, Show, Count, Cut, Close, Tally, Entry}
use Rattle.gp_c.specs.declared.op.Out.{Out}
use Rattle.gp_c.specs.Outs.{done_of, answered_of, shown_of, counted_of, tallied_of, kept_of}
use Rattle.gp_c.specs.Serves.{Serves}
use Rattle.gp_c.specs.Calls.{ServesEvent, CutsJournal, shown_at, free_at, closed_at, tallied_at, kept_at}

-- an event
pub applied : (before after : Option CoreState) (port : ℕ) (event : Event) (out : Out) → Serves before (Apply port event) after out → ServesEvent before port event after (answered_of out)
applied before after port event out s = ((λ none. ((s.0 none).0, ap answered_of (s.0 none).1)), (λ core is. s.1 core port event is refl))

-- a unit
pub shown : (before after : Option CoreState) (port : ℕ) (serial : Serial) (out : Out) → Serves before (Show port serial) after out
    → (after ≡ before) × (shown_of out ≡ shown_at before port serial)
shown None after port serial out s = ((s.0 refl).0, ap shown_of (s.0 refl).1)
shown (Some core) after port serial out s = s.2 core port serial refl refl

-- free licences
pub counted : (before after : Option CoreState) (out : Out) → Serves before Count after out → (after ≡ before) × (counted_of out ≡ free_at before)
counted None after out s = ((s.0 refl).0, ap counted_of (s.0 refl).1)
counted (Some core) after out s = s.3 core refl refl

-- a cut
pub cut : (before after : Option CoreState) (port : ℕ) (out : Out) → Serves before (Cut port) after out → CutsJournal before port after (done_of out)
cut before after port out s = ((λ none. ((s.0 none).0, ap done_of (s.0 none).1)), (λ core is. s.4 core port is refl))

-- closing
pub closed : (before after : Option CoreState) (out : Out) → Serves before Close after out → (after ≡ None) × (done_of out ≡ closed_at before)
closed None after out s = ((s.0 refl).0, ap done_of (s.0 refl).1)
closed (Some core) after out s = s.5 core refl refl

-- the counts of a port
pub tallied : (before after : Option CoreState) (port : ℕ) (out : Out) → Serves before (Tally port) after out → (after ≡ before) × (tallied_of out ≡ tallied_at before port)
tallied None after port out s = ((s.0 refl).0, ap tallied_of (s.0 refl).1)
tallied (Some core) after port out s = s.6 core port refl refl

-- an entry
pub kept : (before after : Option CoreState) (port number : ℕ) (out : Out) → Serves before (Entry port number) after out
    → (after ≡ before)
    × (kept_of out ≡ kept_at before port number)
    × IfOk (kept_of out) (λ kept. ForSome kept.receipt.entry.answer.sent IsProperDown)
kept None after port number out s =
    let none = ap kept_of (s.0 refl).1 in
    ((s.0 refl).0, none, rw none tt)
kept (Some core) after port number out s = s.7 core port number refl refl
