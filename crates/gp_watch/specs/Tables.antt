-- What an observer knows by number, kept in tables (this profile's own rule).
-- Inside: no public contract cites this.
use Rattle.std.specs.Prelude.{◌≡◌, ℕ, ◌<◌, ◌≤◌, Bool, not, None, Some, refl}
use Rattle.std.specs.Ordering.{nat_cmp}
use Rattle.std.specs.Coded.{Coded, code_by, coded×, coded_ℕ}
use Rattle.std.specs.FinMap.{FinMap, empty, get, retain_keys}
use Rattle.std.specs.FinMap as map
use Rattle.std.specs.FinSet.{FinSet}
use Rattle.std.specs.FinSet as finset
use Rattle.gp_ploam.specs.declared.message.Serial.{Serial}
use Rattle.gp_ploam.specs.Serials.{coded_serial}
use Rattle.gp_observer.specs.Observer.{some_passes}
use Rattle.gp_observer.specs.Watch.{Answers}
use Rattle.gp_watch.specs.Answers.{answers_code}

-- who holds each ONU-ID, which one each further Alloc-ID belongs to, the delay that was told with each, the answers of
-- each, and those that were told of an Alloc-ID
pub record Numbers : Type 0 where
  pub holder : FinMap nat_cmp Serial
  pub alloc : FinMap nat_cmp ℕ
  pub delay : FinMap nat_cmp ℕ
  pub answers : FinMap nat_cmp Answers
  pub told : FinSet nat_cmp

-- they are stored as their parts
abbrev pub numbers_code : Coded Numbers
numbers_code =
    code_by
    (FinMap nat_cmp Serial × (FinMap nat_cmp ℕ × (FinMap nat_cmp ℕ × (FinMap nat_cmp Answers × FinSet nat_cmp))))
    (coded× (map.code coded_ℕ coded_serial)
    (coded× (map.code coded_ℕ coded_ℕ)
    (coded× (map.code coded_ℕ coded_ℕ) (coded× (map.code coded_ℕ answers_code) (finset.code coded_ℕ)))))
    (λ n. (n.holder, (n.alloc, (n.delay, (n.answers, n.told)))))
    (λ p. record { holder = p.0; alloc = p.1.0; delay = p.1.1.0; answers = p.1.1.1.0; told = p.1.1.1.1 }) (λ _. refl)

-- nothing is known
abbrev pub no_numbers : Numbers
no_numbers =
    record { holder = empty; alloc = empty; delay = empty; answers = empty; told = finset.empty }

-- the ONU-IDs that pass the test are given up
abbrev pub numbers_without : Numbers → (ℕ → Bool) → Numbers
numbers_without known gone =
    record {
      holder = retain_keys known.holder (λ onu. not (gone onu));
      alloc = retain_keys known.alloc (λ alloc. not (some_passes gone (get known.alloc alloc)));
      delay = retain_keys known.delay (λ onu. not (gone onu));
      answers = retain_keys known.answers (λ onu. not (gone onu));
      told = finset.retain known.told (λ onu. not (gone onu));
    }

-- nothing is known of an ONU-ID above 255, but who was told
pub record AreLow (known : Numbers) : Type 0 where
  pub holder : (onu : ℕ) → 256 ≤ onu → get known.holder onu ≡ None
  pub delay : (onu : ℕ) → 256 ≤ onu → get known.delay onu ≡ None
  pub answers : (onu : ℕ) → 256 ≤ onu → get known.answers onu ≡ None
  pub alloc : (alloc onu : ℕ) → get known.alloc alloc ≡ Some onu → onu < 256
