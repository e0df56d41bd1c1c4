-- What a message is about, by where it is kept.
use Rattle.std.proofs.Common.{◌≡◌, ℕ, ◌==◌, true, false, cond, refl, sym, subst}
use Rattle.gp_ploam.specs.declared.message.Down.{Down}
use Rattle.gp_ploam.specs.declared.message.Down.TheVariants.{UpstreamOverhead, AssignOnu, RangingTime, Deactivate, DisableSerial, EnableSerial, EnableAll, AssignAlloc, NoMessage, Popup, Other}
use Rattle.gp_ploam.specs.OnuIds.{broadcast_onu}
use Rattle.hear_rules.specs.Copies.{Subject, OfHolder, OfAllOnus, OfAllSerials, subject_of}
use Rattle.hear_rules.specs.Units.{Tallies, tallies_after}
use Rattle.hear_notes.specs.declared.sent.Place.{Place}
use Rattle.hear_notes.specs.declared.sent.Place.TheVariants.{Holder, AllOnus, AllSerials}
use Rattle.hear_notes.specs.Sent.{SentKept, AgreeTallies, place_of, tallied_about}

abbrev pub IsOfAllSerials : Place → Subject → Type 0
IsOfAllSerials AllSerials subject = subject ≡ OfAllSerials
IsOfAllSerials _ subject = Unit {0}

is_about : (message : Down) → IsOfAllSerials (place_of message) (subject_of message)
is_about (UpstreamOverhead burst) = tt
is_about (AssignOnu onu serial) = tt
is_about (RangingTime onu eqd) = tt
is_about (Deactivate onu) =
    elim (onu == broadcast_onu) as (λ b. IsOfAllSerials (cond b AllOnus (Holder onu)) (cond b OfAllOnus (OfHolder onu))) [ true ↦ tt | false ↦ tt ]
is_about (DisableSerial serial) = tt
is_about (EnableSerial serial) = tt
is_about EnableAll = refl
is_about (AssignAlloc onu alloc keep) = tt
is_about NoMessage = tt
is_about (Popup onu) = tt
is_about (Other id octet1 body) = tt

-- a message about all serial numbers is counted as one
pub all_serials_told : (kept : SentKept) (now : ℕ) (message : Down) (tallies : Tallies) → place_of message ≡ AllSerials
    → AgreeTallies kept (tallied_about tallies now message OfAllSerials) → AgreeTallies kept (tallies_after tallies now message)
all_serials_told kept now message tallies is agree =
    subst (λ s. AgreeTallies kept (tallied_about tallies now message s)) (sym (subst (λ p. IsOfAllSerials p (subject_of message)) is (is_about message))) agree
