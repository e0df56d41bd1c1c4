-- What becomes of what an observer keeps (this profile's own rule).
use Rattle.std.specs.Prelude.{◌≡◌, ◌≤◌, ◌==◌, ℕ, zero, suc, Bool, true, false, not, if◌then◌else◌, Option, None, Some}
use Rattle.std.specs.FinMap.{insert, retain_keys}
use Rattle.std.specs.FinSet as finset
use Rattle.gp_ploam.specs.declared.message.Serial.{Serial}
use Rattle.gp_ploam.specs.declared.message.Down.TheVariants.{AssignOnu}
use Rattle.gp_ploam.specs.OnuIds.{last_onu, onu_ids}
use Rattle.gp_observer.specs.Observer.{is_of, drops, units_without}
use Rattle.gp_observer.specs.Watch.{Watch}

-- this is the ONU-ID that the serial number holds, or it holds none
abbrev pub IsOnuOf : Watch → Serial → Option ℕ → Type 0
IsOnuOf watch serial None = (onu : ℕ) → is_of watch.seen serial onu ≡ false
IsOnuOf watch serial (Some onu) = (onu ≤ last_onu) × ((other : ℕ) → is_of watch.seen serial other ≡ (other == onu))

-- the first of so many numbers, from this one on, that passes a test
abbrev pub first_passing : ℕ → ℕ → (ℕ → Bool) → Option ℕ
first_passing number zero test = None
first_passing number (suc count) test =
    if test number then Some number else first_passing (suc number) count test

-- the ONU-ID that a serial number holds, if it holds one
unfoldable pub onu_held : Watch → Serial → Option ℕ
onu_held watch serial = first_passing 0 onu_ids (is_of watch.seen serial)

-- the ONU-IDs that pass the test are given up, and what their units answered and were told is forgotten
abbrev pub watch_without : Watch → (ℕ → Bool) → Watch
watch_without watch gone =
    record watch {
      seen = units_without watch.seen gone;
      answers = retain_keys watch.answers (λ onu. not (gone onu));
      told = finset.retain watch.told (λ onu. not (gone onu));
    }

-- the serial number holds the ONU-ID
abbrev pub watch_holding : Watch → ℕ → Serial → Watch
watch_holding watch onu serial =
    record watch {
      seen = record watch.seen { holder = insert watch.seen.holder onu serial };
      unknown = finset.remove watch.unknown onu;
    }

-- a serial number that is followed holds the ONU-ID, or it isn't known who does
abbrev pub watch_given : Watch → ℕ → Serial → Bool → Watch
watch_given watch onu serial true = watch_holding watch onu serial
watch_given watch onu serial false = record watch { unknown = finset.insert watch.unknown onu }

-- an ONU-ID that a unit may have is assigned to a serial number
abbrev pub watch_assigned : Watch → ℕ → Serial → Bool → Watch
watch_assigned watch onu serial followed =
    watch_given (watch_without watch (drops watch.seen (AssignOnu onu serial))) onu serial followed
