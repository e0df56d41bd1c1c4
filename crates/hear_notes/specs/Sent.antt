-- How what was sent last about each ONU-ID's holder and delay, about all ONU-IDs and all serial numbers is kept, and
-- how often it was (this profile's own rule).
use Rattle.std.specs.Prelude.{◌≡◌, ℕ, ◌-◌, ◌^◌, ◌<◌, ◌==◌, nat_lt, Bool, true, List, refl, slice_index_or, if◌then◌else◌}
use Rattle.std.specs.Coded.{Coded, code_by, coded×, coded_list}
use Rattle.gp_ploam.specs.declared.message.Down.{Down}
use Rattle.gp_ploam.specs.declared.message.Down.TheVariants.{AssignOnu, RangingTime, Deactivate, EnableAll}
use Rattle.gp_ploam.specs.OnuIds.{broadcast_onu}
use Rattle.hear_rules.specs.Copies.{Subject, OfNothing, OfHolder, OfDelay, OfAllOnus, OfAllSerials, Sendings, sendings_put, sending_after, is_another}
use Rattle.hear_rules.specs.Units.{Tallies, tallies_put, tally_after, total}
use Rattle.hear_notes.specs.declared.sending.Sending.{Sending}
use Rattle.hear_notes.specs.declared.sending.Sending.TheVariants as sending
use Rattle.hear_notes.specs.contracts.sending.Sending as sendings
use Rattle.hear_notes.specs.declared.sending.Tally.{Tally}
use Rattle.hear_notes.specs.declared.sending.Tally.TheVariants as tally
use Rattle.hear_notes.specs.declared.sent.Place.{Place}
use Rattle.hear_notes.specs.declared.sent.Place.TheVariants.{Holder, Delay, AllOnus, AllSerials, Elsewhere}
use Rattle.hear_notes.specs.declared.sent.SentRow.{SentRow}
use Rattle.hear_notes.specs.contracts.sent.SentRow as rows
use Rattle.hear_notes.specs.Sendings.{sending_of, tally_of}

pub record SentKept : Type 0 where
  -- of each ONU-ID's holder, and of its delay
  pub holders : List SentRow
  pub delays : List SentRow
  -- of all ONU-IDs, and of all serial numbers
  pub all_onus : SentRow
  pub all_serials : Sending

-- it is stored as its parts
abbrev pub sent_code : Coded SentKept
sent_code =
    code_by (List SentRow × (List SentRow × (SentRow × Sending)))
    (coded× (coded_list rows.the_row.coded)
    (coded× (coded_list rows.the_row.coded) (coded× rows.the_row.coded sendings.the_row.coded)))
    (λ k. (k.holders, (k.delays, (k.all_onus, k.all_serials))))
    (λ p. record { holders = p.0; delays = p.1.0; all_onus = p.1.1.0; all_serials = p.1.1.1 })
    (λ _. refl)

-- ---- what it says

-- a row of which nothing was said
abbrev pub silent_row : SentRow
silent_row = record { sending = sending.Silent; tally = tally.Untold }

abbrev pub row_of : List SentRow → ℕ → SentRow
row_of rows onu = slice_index_or rows onu silent_row

-- what was sent last about these is as it is kept
pub record AgreeSendings (kept : SentKept) (sendings : Sendings) : Type 0 where
  pub holder : (onu : ℕ) → onu < 256
      → sendings (OfHolder onu) ≡ (let row = row_of kept.holders onu in sending_of row.sending)
  pub delay : (onu : ℕ) → onu < 256
      → sendings (OfDelay onu) ≡ (let row = row_of kept.delays onu in sending_of row.sending)
  pub all_onus : sendings OfAllOnus ≡ (let row = kept.all_onus in sending_of row.sending)
  pub all_serials : sendings OfAllSerials ≡ sending_of kept.all_serials

-- and how often it was
pub record AgreeTallies (kept : SentKept) (tallies : Tallies) : Type 0 where
  pub holder : (onu : ℕ) → onu < 256
      → tallies (OfHolder onu) ≡ (let row = row_of kept.holders onu in tally_of row.tally)
  pub delay : (onu : ℕ) → onu < 256
      → tallies (OfDelay onu) ≡ (let row = row_of kept.delays onu in tally_of row.tally)
  pub all_onus : tallies OfAllOnus ≡ (let row = kept.all_onus in tally_of row.tally)

-- ---- what becomes of it

-- a message about this is sent
abbrev pub sent_about : Sendings → ℕ → Down → Subject → Sendings
sent_about sendings now message subject =
    sendings_put sendings (is_another (sendings subject) message) subject
    (sending_after (sendings subject) now message)

abbrev pub tallied_about : Tallies → ℕ → Down → Subject → Tallies
tallied_about tallies now message subject = tallies_put tallies subject (tally_after (tallies subject) now message)

-- what a message is about
abbrev pub place_of : Down → Place
place_of (AssignOnu onu serial) = Holder onu
place_of (RangingTime onu eqd) = Delay onu
place_of (Deactivate onu) = if onu == broadcast_onu then AllOnus else Holder onu
place_of EnableAll = AllSerials
place_of _ = Elsewhere

-- what this is, to the definitions
abbrev pub subject_at : Place → Subject
subject_at (Holder onu) = OfHolder onu
subject_at (Delay onu) = OfDelay onu
subject_at AllOnus = OfAllOnus
subject_at AllSerials = OfAllSerials
subject_at Elsewhere = OfNothing

-- how often is kept of this
abbrev pub IsTallied : Place → Type 0
IsTallied (Holder onu) = Unit {0}
IsTallied (Delay onu) = Unit {0}
IsTallied AllOnus = Unit {0}
IsTallied AllSerials = ⊥
IsTallied Elsewhere = ⊥

-- it may be counted once more
abbrev pub has_room : Tally → Bool
has_room tally = nat_lt (total (tally_of tally)) (2 ^ 64 - 1)

abbrev pub has_room_in : SentKept → Place → Bool
has_room_in kept (Holder onu) = let row = row_of kept.holders onu in has_room row.tally
has_room_in kept (Delay onu) = let row = row_of kept.delays onu in has_room row.tally
has_room_in kept AllOnus = let row = kept.all_onus in has_room row.tally
has_room_in kept AllSerials = true
has_room_in kept Elsewhere = true
