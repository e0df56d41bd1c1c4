-- How what an observer knows is kept: in tables by number, and in an index by serial number (this profile's own rule).
-- Inside: no public contract cites this.
use Rattle.std.specs.Prelude.{◌≡◌, ℕ, ◌≤◌, Bool, Option, Some, refl, ◌↔◌}
use Rattle.std.specs.Ordering.{nat_cmp}
use Rattle.std.specs.Coded.{Coded, code_by, coded×, coded_ℕ, coded_bool}
use Rattle.std.specs.FinMap.{FinMap, get}
use Rattle.std.specs.FinMap as map
use Rattle.std.specs.FinSet.{FinSet}
use Rattle.std.specs.FinSet as finset
use Rattle.gp_ploam.specs.declared.message.Serial.{Serial}
use Rattle.gp_ploam.specs.declared.message.Down.{Down}
use Rattle.gp_ploam.specs.contracts.message.Down as down
use Rattle.gp_ploam.specs.OnuIds.{last_onu}
use Rattle.gp_ploam.specs.Serials.{serial_cmp, coded_serial}
use Rattle.gp_observer.specs.Watch.{Watch, Answers}
use Rattle.gp_watch.specs.Answers.{answers_code}
use Rattle.gp_watch.specs.Tables.{Numbers}
use Rattle.gp_watch.specs.Index.{Followeds, asks_of, disabled_of, onu_in}

-- what is known is stored as its parts
abbrev pub watch_code : Coded Watch
watch_code =
    code_by
    ((FinMap nat_cmp Serial × (FinSet serial_cmp × (FinMap nat_cmp ℕ × FinMap nat_cmp ℕ)))
    × (FinMap serial_cmp ℕ
    × (FinMap nat_cmp Answers × (FinSet nat_cmp × (FinSet nat_cmp × (Down × (ℕ × (Bool × Bool))))))))
    (coded×
    (coded× (map.code coded_ℕ coded_serial)
    (coded× (finset.code coded_serial) (coded× (map.code coded_ℕ coded_ℕ) (map.code coded_ℕ coded_ℕ))))
    (coded× (map.code coded_serial coded_ℕ)
    (coded× (map.code coded_ℕ answers_code)
    (coded× (finset.code coded_ℕ)
    (coded× (finset.code coded_ℕ)
    (coded× down.the_row.coded (coded× coded_ℕ (coded× coded_bool coded_bool))))))))
    (λ w. (
      (w.seen.holder, (w.seen.disabled, (w.seen.alloc, w.seen.delay))),
      (w.asks, (w.answers, (w.told, (w.unknown, (w.last, (w.to_come, (w.midway, w.cut))))))),
    ))
    (λ p. record {
      seen = record { holder = p.0.0; disabled = p.0.1.0; alloc = p.0.1.1.0; delay = p.0.1.1.1 };
      asks = p.1.0;
      answers = p.1.1.0;
      told = p.1.1.1.0;
      unknown = p.1.1.1.1.0;
      last = p.1.1.1.1.1.0;
      to_come = p.1.1.1.1.1.1.0;
      midway = p.1.1.1.1.1.1.1.0;
      cut = p.1.1.1.1.1.1.1.1;
    })
    (λ _. refl)

-- what is known, by the tables and the index
abbrev pub watch_of : Numbers → Followeds → FinSet nat_cmp → Down → ℕ → Bool → Bool → Watch
watch_of known index unknown last to_come midway cut =
    record {
      seen = record { holder = known.holder; disabled = disabled_of index; alloc = known.alloc; delay = known.delay };
      asks = asks_of index;
      answers = known.answers;
      told = known.told;
      unknown = unknown;
      last = last;
      to_come = to_come;
      midway = midway;
      cut = cut;
    }

-- the ONU-ID that a serial number holds, by the index
abbrev pub onu_with : Followeds → Serial → Option ℕ
onu_with index serial = onu_in (get index serial)

-- each holder has its ONU-ID, and no other serial number has one; each is 0 to 253
pub record IsIndexed (holder : FinMap nat_cmp Serial) (onu_of : Serial → Option ℕ) : Type 0 where
  pub each : (onu : ℕ) (serial : Serial) → (get holder onu ≡ Some serial) ↔ (onu_of serial ≡ Some onu)
  pub low : (onu : ℕ) (serial : Serial) → get holder onu ≡ Some serial → onu ≤ last_onu
