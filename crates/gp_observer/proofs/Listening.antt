-- What a burst changes of what is known.
use Rattle.std.proofs.Common.{◌≡◌, ℕ, suc, ◌≤◌, ◌==◌, Bool, true, false, cond, ◌&&◌, List, ◌++◌, Option, None, Some, refl, ap, arith}
use Rattle.std.specs.Prelude.{nat_lt}
use Rattle.std.specs.FinMap.{get, insert, len}
use Rattle.gp_ploam.specs.declared.message.Serial.{Serial}
use Rattle.gp_ploam.specs.declared.message.Down.{Down}
use Rattle.gp_ploam.specs.declared.message.Up.{Up}
use Rattle.gp_ploam.specs.declared.message.Up.TheVariants.{SerialNumber}
use Rattle.gp_ploam.specs.Serials.{same_serial}
use Rattle.gp_observer.specs.Observer.{is_of}
use Rattle.gp_observer.specs.Watch.{Watch, most_followed, asks_with, after_up, serial_heard, answers_of, with_answer}
use Rattle.gp_observer.specs.Rules.{Settings}
use Rattle.gp_observer.proofs.Asking.{HaveAsked, assigns, one_if, stays_followed, room_before, asked_again, asked_more}
use Rattle.gp_observer.proofs.Answering.{HasAnswered, answered_put}
use Rattle.gp_observer.proofs.Causing.{asks_in}

-- what a burst, or nothing, changes: who asks may be owed one ONU-ID more
pub record Hearing (w new : Watch) (asked : Serial → Bool) : Type 0 where
  pub seen : new.seen ≡ w.seen
  pub unknown : new.unknown ≡ w.unknown
  pub last : new.last ≡ w.last
  pub to_come : new.to_come ≡ w.to_come
  pub midway : new.midway ≡ w.midway
  pub cut : new.cut ≡ w.cut
  pub asks : (ms ns : List Down) → ((t : Serial) → assigns t ns ≤ one_if (asked t)) → HaveAsked w.asks ms → HaveAsked new.asks (ms ++ ns)
  pub room : nat_lt (len new.asks) most_followed ≡ true → nat_lt (len w.asks) most_followed ≡ true
  pub followed : (t : Serial) (a : ℕ) → get w.asks t ≡ Some a → (b : ℕ) × (get new.asks t ≡ Some b)
  pub answers : (settings : Settings) (n eqd : ℕ) → HasAnswered settings w.answers n eqd → HasAnswered settings new.answers n eqd

pub hears_nothing : (w : Watch) (asked : Serial → Bool) → ((t : Serial) → asked t ≡ false) → Hearing w w asked
hears_nothing w asked none =
    record {
      seen = refl;
      unknown = refl;
      last = refl;
      to_come = refl;
      midway = refl;
      cut = refl;
      asks = λ ms ns few h. asked_more w.asks ms ns (λ t. let most = few t in let e = ap one_if (none t) in omega arith) h;
      room = λ h. h;
      followed = λ t a h. (a, h);
      answers = λ settings n eqd h. h;
    }

hears_serial : (w : Watch) (k : ℕ) (s : Serial) (delay : Option ℕ) → Hearing w (serial_heard w k s delay) (λ t. k == 255 && same_serial t s)
hears_serial w k s delay = by_ask (k == 255)
  where
    by_own : (c : Bool) → Hearing w (cond c (record w { answers = insert w.answers k (with_answer (answers_of (get w.answers k)) delay) }) w) (λ t. false)
    by_own true =
        record {
          seen = refl;
          unknown = refl;
          last = refl;
          to_come = refl;
          midway = refl;
          cut = refl;
          asks = λ ms ns few h. asked_more w.asks ms ns few h;
          room = λ h. h;
          followed = λ t a h. (a, h);
          answers = λ settings n eqd h. answered_put settings w.answers k delay n eqd h;
        }
    by_own false = hears_nothing w (λ t. false) (λ t. refl)

    by_ask : (b : Bool) → Hearing w (cond b (record w { asks = asks_with w s (λ asks. suc asks) }) (cond (is_of w.seen s k) (record w { answers = insert w.answers k (with_answer (answers_of (get w.answers k)) delay) }) w)) (λ t. b && same_serial t s)
    by_ask true =
        record {
          seen = refl;
          unknown = refl;
          last = refl;
          to_come = refl;
          midway = refl;
          cut = refl;
          asks = λ ms ns few h. asked_again w.asks s ms ns few h;
          room = λ h. room_before w.asks s (λ asks. suc asks) h;
          followed = λ t a h. stays_followed w.asks s (λ asks. suc asks) t a h;
          answers = λ settings n eqd h. h;
        }
    by_ask false = by_own (is_of w.seen s k)

pub hears_up : (w : Watch) (heard : Option Up) (delay : Option ℕ) → Hearing w (after_up w heard delay) (asks_in heard)
hears_up w None delay = hears_nothing w (asks_in None) (λ t. refl)
hears_up w (Some (SerialNumber k s random flags)) delay = hears_serial w k s delay
hears_up w (Some m) delay = hears_nothing w (asks_in (Some m)) (λ t. refl)
