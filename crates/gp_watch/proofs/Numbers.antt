-- What is known by number, after a change.
use Rattle.std.proofs.Common.{◌≡◌, ℕ, ◌<◌, ◌≤◌, Option, None, Some, List, length, ◌∙◌, arith}
use Rattle.std.specs.Ordering.{nat_cmp}
use Rattle.std.specs.FinMap.{FinMap, get}
use Rattle.std.specs.FinSet.{FinSet}
use Rattle.std.proofs.lemmas.List.{get_or_past}
use Rattle.gp_ploam.specs.declared.message.Serial.{Serial}
use Rattle.gp_observer.specs.Watch.{Answers}
use Rattle.gp_watch.specs.Places.{map_of}
use Rattle.gp_watch.specs.Tables.{Numbers, AreLow}
use Rattle.gp_watch.proofs.Places.{get-map_of}

-- numbers are the same by their parts
pub numbers_are : (h g : FinMap nat_cmp Serial) (a b d e : FinMap nat_cmp ℕ) (w v : FinMap nat_cmp Answers) (t u : FinSet nat_cmp) → h ≡ g → a ≡ b → d ≡ e → w ≡ v → t ≡ u
    → ◌≡◌ {A = Numbers} (record { holder = h; alloc = a; delay = d; answers = w; told = t }) (record { holder = g; alloc = b; delay = e; answers = v; told = u })
numbers_are h g a b d e w v t u p q r s k = λ i. record { holder = p i; alloc = q i; delay = r i; answers = s i; told = k i }

module _ {X : Type 0} where
  none_past : (xs : List (Option X)) → length xs ≡ 256 → (n : ℕ) → 256 ≤ n → get (map_of xs) n ≡ None
  none_past xs long n past = get-map_of xs n ∙ get_or_past xs n None (omega (arith, long, past))

pub low : (hs : List (Option Serial)) (ds : List (Option ℕ)) (ws : List (Option Answers)) (owners : FinMap nat_cmp ℕ) (told : FinSet nat_cmp)
    → length hs ≡ 256 → length ds ≡ 256 → length ws ≡ 256 → ((a n : ℕ) → get owners a ≡ Some n → n < 256)
    → AreLow (record { holder = map_of hs; alloc = owners; delay = map_of ds; answers = map_of ws; told = told })
low hs ds ws owners told long wide deep of_octets =
    record { holder = none_past hs long; delay = none_past ds wide; answers = none_past ws deep; alloc = of_octets }
