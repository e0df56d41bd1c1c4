-- What is known at first.
use Rattle.std.proofs.Common.{◌≡◌, ℕ, zero, suc, false, get_or, replicate, Option, None, Some, refl, sym, ap, subst, ◌∙◌}
use Rattle.std.proofs.lemmas.List.{length-replicate}
use Rattle.std.specs.FinMap as fin
use Rattle.gp_ploam.specs.declared.message.Serial.{Serial}
use Rattle.gp_ploam.specs.Serials.{serial_cmp}
use Rattle.hear_rules.specs.Facts as facts
use Rattle.hear_rules.specs.Known as spec
use Rattle.hear_rules.specs.Known.{Owner}
use Rattle.hear_state.specs.declared.facts.Fact.{Fact}
use Rattle.hear_state.specs.declared.facts.Fact.TheVariants as fact
use Rattle.hear_state.specs.declared.facts.Sure.{Sure}
use Rattle.hear_state.specs.declared.facts.Sure.TheVariants as sure
use Rattle.hear_state.specs.declared.rows.Row.{Row}
use Rattle.hear_state.specs.declared.index.Followed.{Followed}
use Rattle.hear_state.specs.Facts.{fact_of, sure_of}
use Rattle.hear_state.specs.Rows.{number_of}
use Rattle.hear_state.specs.Index.{unknown_serial}
use Rattle.hear_state.specs.Kept.{Kept, known_of, row_at, row_beyond, followed_at, followed_or, holder_of, owner_at, owner_beyond, SameUnits, SameKnown, AreIndexed, IsKept, OwnerIsHeard, IsNot, IsNotYes}

get_or-same : {X : Type 0} (n : ℕ) (x : X) (q : ℕ) → get_or (replicate n x) q x ≡ x
get_or-same zero x q = refl
get_or-same (suc n) x zero = refl
get_or-same (suc n) x (suc q) = get_or-same n x q

abbrev pub begun : Followed → Sure → Kept
begun others overhead = record { rows = replicate 256 (row_beyond others.holds); followed = fin.empty; others = others; owners = replicate 4096 (owner_beyond others.asks); overhead = overhead; up = false }

module _ (others : Followed) (overhead : Sure) where
  row_first : (q : ℕ) → row_at (begun others overhead) q ≡ row_beyond others.holds
  row_first q = get_or-same 256 (row_beyond others.holds) q

  followed_first : (s : Serial) → followed_at (begun others overhead) s ≡ others
  followed_first s = ap (λ (o : Option Followed). followed_or o others) (fin.get-empty serial_cmp s)

  pub units_first : (known : spec.Known) → ((q : ℕ) → number_of (row_beyond others.holds) ≡ known.numbers q) → ((s : Serial) → fact_of others.holds ≡ known.holds s)
      → ((s : Serial) → sure_of others.disabled ≡ known.disabled s) → ((s : Serial) → others.asks ≡ known.asks s) → ((s : Serial) → sure_of others.asked ≡ known.asked s)
      → sure_of overhead ≡ known.overhead → false ≡ known.up → SameUnits (known_of (begun others overhead)) known
  units_first known numbers holds disabled asks asked is up = record {
    numbers = λ q. ap number_of (row_first q) ∙ numbers q;
    holds = λ s. ap (λ (f : Followed). fact_of f.holds) (followed_first s) ∙ holds s;
    disabled = λ s. ap (λ (f : Followed). sure_of f.disabled) (followed_first s) ∙ disabled s;
    asks = λ s. ap (λ (f : Followed). f.asks) (followed_first s) ∙ asks s;
    asked = λ s. ap (λ (f : Followed). sure_of f.asked) (followed_first s) ∙ asked s;
    overhead = is;
    up = up;
  }

  pub kept_first : IsNot others.holds → IsNotYes others.asked → AreIndexed (begun others overhead)
  kept_first unheld unasked = record {
    long = length-replicate {A = Row} 256 (row_beyond others.holds);
    unheld = unheld;
    unasked = unasked;
    indexed = record {
      held = λ n s h. absurd (none_some s (sym (none others.holds unheld) ∙ sym (ap (λ r. holder_of (number_of r)) (row_first n)) ∙ h));
      holder = λ n s h. absurd (not_is others.holds unheld n (sym (ap (λ (f : Followed). fact_of f.holds) (followed_first s)) ∙ h));
    };
  }
    where
      none_some : (x : Serial) → None ≡ Some x → ⊥
      none_some x h = cc

      none : (f : Fact ℕ) → IsNot f → holder_of (number_of (row_beyond f)) ≡ None
      none fact.Unknown h = refl
      none fact.Nothing h = refl
      none (fact.Is n) h = absurd h

      not_is : (f : Fact ℕ) → IsNot f → (n : ℕ) → fact_of f ≡ facts.Is n → ⊥
      not_is fact.Unknown h n e = cc
      not_is fact.Nothing h n e = cc
      not_is (fact.Is m) h n e = absurd h

abbrev pub whole_others : Followed
whole_others = record { holds = fact.Nothing; disabled = sure.No; asks = Some 0; asked = sure.No }

module _ (others : Followed) (overhead : Sure) where
  owner_first : (q : ℕ) → owner_at (begun others overhead) q ≡ owner_beyond others.asks
  owner_first q = get_or-same 4096 (owner_beyond others.asks) q

  pub whole_first : IsNot others.holds → IsNotYes others.asked → IsKept (begun others overhead)
  whole_first unheld unasked = record {
    units = kept_first others overhead unheld unasked;
    allocs = length-replicate {A = Owner} 4096 (owner_beyond others.asks);
    owned = λ q. subst (OwnerIsHeard (λ n. number_of (row_at (begun others overhead) n))) (sym (owner_first q)) (by_asks others.asks);
  }
    where
      by_asks : (asks : Option ℕ) → OwnerIsHeard (λ n. number_of (row_at (begun others overhead) n)) (owner_beyond asks)
      by_asks None = tt
      by_asks (Some n) = tt

units_whole : SameUnits (known_of (begun whole_others sure.No)) spec.known_whole
units_whole = units_first whole_others sure.No spec.known_whole (λ q. refl) (λ s. refl) (λ s. refl) (λ s. refl) (λ s. refl) refl refl

units_midway : SameUnits (known_of (begun unknown_serial sure.Unsure)) spec.known_midway
units_midway = units_first unknown_serial sure.Unsure spec.known_midway (λ q. refl) (λ s. refl) (λ s. refl) (λ s. refl) (λ s. refl) refl refl

pub same_whole : SameKnown (known_of (begun whole_others sure.No)) spec.known_whole
same_whole = record { units = units_whole; owners = owner_first whole_others sure.No }

pub same_midway : SameKnown (known_of (begun unknown_serial sure.Unsure)) spec.known_midway
same_midway = record { units = units_midway; owners = owner_first unknown_serial sure.Unsure }
