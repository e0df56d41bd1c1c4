-- What becomes of the owners of Alloc-IDs, and that all of what is known is kept.
use Rattle.std.proofs.Common.{◌≡◌, ℕ, ◌==◌, ◌⊎◌, Bool, true, false, cond, List, length, map, get_or, Option, None, Some, inl, inr, refl, sym, ap, subst, ◌∙◌, eq-eqb}
use Rattle.std.specs.Prelude.{if◌then◌else◌}
use Rattle.std.proofs.lemmas.Bool.{cases_Bool, cases_eq, ne_eqb}
use Rattle.gp_ploam.specs.declared.message.Serial.{Serial}
use Rattle.gp_ploam.specs.declared.message.Up.{Up}
use Rattle.gp_ploam.specs.Serials.{same_serial}
use Rattle.gp_ploam.proofs.Serials.{same_serial-true, same_serial-itself}
use Rattle.hear_rules.specs.Facts as facts
use Rattle.hear_rules.specs.Facts.{Sure, Yes, No, Unsure}
use Rattle.hear_rules.specs.Known as spec
use Rattle.hear_rules.specs.Known.{Known, Number, Unheard, Nobodys, Of, Owner, Unclear, Free, Has, freed, still_free, owner_after, lost_by, lost_with}
use Rattle.hear_state.specs.declared.facts.Fact.{Fact}
use Rattle.hear_state.specs.declared.facts.Fact.TheVariants as fact
use Rattle.hear_state.specs.Facts.{fact_of}
use Rattle.hear_state.specs.Kept.{Kept, known_of, owner_beyond, holder_of, SameUnits, SameKnown, IsIndexed, AreIndexed, IsHeard, OwnerIsHeard, IsOwned, IsKept}
use Rattle.hear_state.specs.Owners.{lost_only}
use Rattle.hear_state.specs.Changes.{lost_at, other_than}
use Rattle.hear_state.proofs.Reading.{get-map}
use Rattle.hear_state.proofs.Tenures.{map_itself}

-- ---- an ONU-ID that is heard of stays so

pub heard_holder : (n : Number) (s : Serial) → holder_of n ≡ Some s → IsHeard n
heard_holder Unheard s h = absurd (none_some s h)
  where
    none_some : (x : Serial) → None ≡ Some x → ⊥
    none_some x e = cc
heard_holder Nobodys s h = tt
heard_holder (Of holder delay answers) s h = tt

pub heard_left : (n : Number) (s : Serial) → IsHeard n → IsHeard (spec.left_by n s)
heard_left Unheard s h = h
heard_left Nobodys s h = tt
heard_left (Of holder delay answers) s h = by_test (same_serial s holder)
  where
    by_test : (b : Bool) → IsHeard (if b then Nobodys else Of holder delay answers)
    by_test true = tt
    by_test false = tt

pub heard_dropped : (n : Number) → IsHeard n → IsHeard (spec.dropped n)
heard_dropped Unheard h = tt
heard_dropped Nobodys h = tt
heard_dropped (Of holder delay answers) h = tt

pub heard_ranged : (eqd : ℕ) (n : Number) → IsHeard n → IsHeard (spec.ranged n eqd)
heard_ranged eqd Unheard h = h
heard_ranged eqd Nobodys h = tt
heard_ranged eqd (Of holder delay answers) h = tt

pub heard_popped_up : (n : Number) → IsHeard n → IsHeard (spec.popped_up n)
heard_popped_up Unheard h = h
heard_popped_up Nobodys h = tt
heard_popped_up (Of holder delay answers) h = tt

pub heard_spoken : (message : Up) (delay : Option ℕ) (n : Number) → IsHeard n → IsHeard (spec.spoken n message delay)
heard_spoken message delay Unheard h = h
heard_spoken message delay Nobodys h = tt
heard_spoken message delay (Of holder eqd answers) h = by_test (spec.is_by holder message)
  where
    by_test : (b : Bool) → IsHeard (if b then Of holder eqd (spec.answers_with answers delay) else Of holder eqd answers)
    by_test true = tt
    by_test false = tt

-- one number is changed
pub heard_at : (change : Number → Number) (onu : ℕ) → ((n : Number) → IsHeard n → IsHeard (change n)) → (q : ℕ) (n : Number) → IsHeard n → IsHeard (if q == onu then change n else n)
heard_at change onu stays q n h = by_test (q == onu)
  where
    by_test : (b : Bool) → IsHeard (if b then change n else n)
    by_test true = stays n h
    by_test false = h

-- ---- owners, in steps

-- two ways to lose Alloc-IDs that agree on ONU-IDs that were heard of
pub agree : (a b : ℕ → Sure) (numbers : ℕ → Number) (o : Owner) → OwnerIsHeard numbers o → ((n : ℕ) → IsHeard (numbers n) → a n ≡ b n) → owner_after a o ≡ owner_after b o
agree a b numbers Unclear h same = refl
agree a b numbers (Free facts.Unknown) h same = refl
agree a b numbers (Free facts.Nothing) h same = refl
agree a b numbers (Free (facts.Is n)) h same = ap (λ s. still_free s n) (same n h)
agree a b numbers (Has n last) h same = ap (λ s. freed s n last) (same n h)

-- one way behind another, where each ONU-ID loses none by one of them
pub in_steps : (a b c : ℕ → Sure) (numbers : ℕ → Number) (o : Owner) → OwnerIsHeard numbers o
    → ((n : ℕ) → IsHeard (numbers n) → ((a n ≡ No) × (b n ≡ c n)) ⊎ ((b n ≡ No) × (a n ≡ c n))) → owner_after b (owner_after a o) ≡ owner_after c o
in_steps a b c numbers Unclear h one = refl
in_steps a b c numbers (Free facts.Unknown) h one = refl
in_steps a b c numbers (Free facts.Nothing) h one = refl
in_steps a b c numbers (Free (facts.Is n)) h one = elim (one n h) [
  | inl e ↦ ap (λ s. owner_after b (still_free s n)) e.0 ∙ ap (λ s. still_free s n) e.1
  | inr e ↦ stays (a n) e.0 ∙ ap (λ s. still_free s n) e.1
]
  where
    stays : (s : Sure) → b n ≡ No → owner_after b (still_free s n) ≡ still_free s n
    stays Yes e = ap (λ t. still_free t n) e
    stays No e = ap (λ t. still_free t n) e
    stays Unsure e = refl
in_steps a b c numbers (Has n last) h one = elim (one n h) [
  | inl e ↦ ap (λ s. owner_after b (freed s n last)) e.0 ∙ ap (λ s. freed s n last) e.1
  | inr e ↦ stays (a n) e.0 ∙ ap (λ s. freed s n last) e.1
]
  where
    stays : (s : Sure) → b n ≡ No → owner_after b (freed s n last) ≡ freed s n last
    stays Yes e = ap (λ t. still_free t n) e
    stays No e = ap (λ t. freed t n last) e
    stays Unsure e = refl

heard_after : (lost : ℕ → Sure) (before after : ℕ → Number) (o : Owner) → OwnerIsHeard before o → ((n : ℕ) → IsHeard (before n) → IsHeard (after n)) → OwnerIsHeard after (owner_after lost o)
heard_after lost before after Unclear h stays = tt
heard_after lost before after (Free facts.Unknown) h stays = tt
heard_after lost before after (Free facts.Nothing) h stays = tt
heard_after lost before after (Free (facts.Is n)) h stays = by_sure (lost n)
  where
    by_sure : (s : Sure) → OwnerIsHeard after (still_free s n)
    by_sure Yes = stays n h
    by_sure No = stays n h
    by_sure Unsure = tt
heard_after lost before after (Has n last) h stays = by_sure (lost n)
  where
    by_sure : (s : Sure) → OwnerIsHeard after (freed s n last)
    by_sure Yes = stays n h
    by_sure No = stays n h
    by_sure Unsure = tt

still_heard : (before after : ℕ → Number) (o : Owner) → OwnerIsHeard before o → ((n : ℕ) → IsHeard (before n) → IsHeard (after n)) → OwnerIsHeard after o
still_heard before after Unclear h stays = tt
still_heard before after (Free facts.Unknown) h stays = tt
still_heard before after (Free facts.Nothing) h stays = tt
still_heard before after (Free (facts.Is n)) h stays = stays n h
still_heard before after (Has n last) h stays = stays n h

-- ---- each owner was heard of, after any change

module _ (known after : Known) (is : IsOwned known) (stays : (n : ℕ) → IsHeard (known.numbers n) → IsHeard (after.numbers n)) where
  pub owned_lost : (lost : ℕ → Sure) → ((q : ℕ) → after.owners q ≡ owner_after lost (known.owners q)) → IsOwned after
  owned_lost lost owners q = subst (OwnerIsHeard after.numbers) (sym (owners q)) (heard_after lost known.numbers after.numbers (known.owners q) (is q) stays)

  pub owned_kept : ((q : ℕ) → after.owners q ≡ known.owners q) → IsOwned after
  owned_kept owners q = subst (OwnerIsHeard after.numbers) (sym (owners q)) (still_heard known.numbers after.numbers (known.owners q) (is q) stays)

pub owned_alloc : (known : Known) → IsOwned known → (onu alloc : ℕ) (keep : Bool) → IsOwned (spec.after_alloc known onu alloc keep)
owned_alloc known is onu alloc keep q = by_test (q == alloc)
  where
    kept : (n : Number) (o : Owner) → known.numbers onu ≡ n → OwnerIsHeard known.numbers o → OwnerIsHeard known.numbers (spec.owner_kept n o onu)
    kept Unheard o e h = tt
    kept Nobodys o e h = h
    kept (Of holder delay answers) o e h = given o
      where
        here : IsHeard (known.numbers onu)
        here = subst IsHeard (sym e) tt

        given : (o1 : Owner) → OwnerIsHeard known.numbers (spec.owner_given o1 onu)
        given Unclear = here
        given (Free last) = here
        given (Has other last) = either (other == onu)
          where
            either : (b : Bool) → OwnerIsHeard known.numbers (if b then Has onu last else Has onu (facts.Is other))
            either true = here
            either false = here

    back : (o : Owner) → OwnerIsHeard known.numbers o → OwnerIsHeard known.numbers (spec.owner_back o onu)
    back Unclear h = tt
    back (Free last) h = h
    back (Has other last) h = elim (cases_eq other onu) [
      | inl same ↦ subst (OwnerIsHeard known.numbers) (sym (ap (λ b. cond b (Free (facts.Is onu)) (Has other last)) (eq-eqb other onu same))) (subst (λ n. IsHeard (known.numbers n)) same h)
      | inr differs ↦ subst (OwnerIsHeard known.numbers) (sym (ap (λ b. cond b (Free (facts.Is onu)) (Has other last)) (ne_eqb other onu differs))) h
    ]

    told : (k : Bool) → OwnerIsHeard known.numbers (spec.owner_told (known.numbers onu) (known.owners q) onu k)
    told true = kept (known.numbers onu) (known.owners q) refl (is q)
    told false = back (known.owners q) (is q)

    by_test : (b : Bool) → OwnerIsHeard known.numbers (if b then spec.owner_told (known.numbers onu) (known.owners q) onu keep else known.owners q)
    by_test true = told keep
    by_test false = is q

-- ---- all of it is kept

abbrev pub with_owners : Kept → List Owner → Kept
with_owners kept owners = record kept { owners = owners }

-- of the units something is known, and of the owners
pub whole : (kept : Kept) (owners : List Owner) (after : Known) → AreIndexed kept → SameUnits (known_of kept) after → length owners ≡ 4096
    → ((q : ℕ) → get_or owners q (owner_beyond kept.others.asks) ≡ after.owners q) → IsOwned after → IsKept (with_owners kept owners) × SameKnown (known_of (with_owners kept owners)) after
whole kept owners after units same allocs own owned = (
  record {
    units = record { long = units.long; unheld = units.unheld; unasked = units.unasked; indexed = record { held = units.indexed.held; holder = units.indexed.holder } };
    allocs = allocs;
    owned = λ q. subst (OwnerIsHeard (λ n. (known_of kept).numbers n)) (sym (own q)) (still_heard after.numbers (known_of kept).numbers (after.owners q) (owned q) (λ n h. subst IsHeard (sym (same.numbers n)) h));
  },
  record {
    units = record { numbers = same.numbers; holds = same.holds; disabled = same.disabled; asks = same.asks; asked = same.asked; overhead = same.overhead; up = same.up };
    owners = own;
  },
)

-- an Alloc-ID that none is stays as it is
beyond : (lost : ℕ → Sure) (asks : Option ℕ) → owner_after lost (owner_beyond asks) ≡ owner_beyond asks
beyond lost None = refl
beyond lost (Some n) = refl

pub read_lost : (lost : ℕ → Sure) (owners : List Owner) (asks : Option ℕ) (q : ℕ) → get_or (map (owner_after lost) owners) q (owner_beyond asks) ≡ owner_after lost (get_or owners q (owner_beyond asks))
read_lost lost owners asks q = get-map (owner_after lost) owners (owner_beyond asks) (owner_beyond asks) q (beyond lost asks)

-- ---- who loses its Alloc-IDs with an assignment

-- an ONU-ID that is heard of, and that a unit leaves
lost_by_is : (known : Known) → IsIndexed known → (s : Serial) (f : Fact ℕ) → known.holds s ≡ fact_of f → (q : ℕ) → IsHeard (known.numbers q) → lost_at f q ≡ lost_by (known.numbers q) s
lost_by_is known is s f holds q heard = by_number (known.numbers q) refl heard
  where
    is_is : (m n : ℕ) → facts.Is m ≡ facts.Is n → m ≡ n
    is_is m n h = cc

    unknown_is : (n : ℕ) → facts.Unknown ≡ facts.Is n → ⊥
    unknown_is n h = cc

    nothing_is : (n : ℕ) → facts.Nothing ≡ facts.Is n → ⊥
    nothing_is n h = cc

    none_some : (x : Serial) → None ≡ Some x → ⊥
    none_some x h = cc

    one : (x y : Serial) → Some x ≡ Some y → x ≡ y
    one x y h = cc

    true_false : (b : Bool) → b ≡ true → b ≡ false → ⊥
    true_false b t e = cc

    -- it isn't the one that the unit holds
    not_held : (g : Fact ℕ) → known.holds s ≡ fact_of g → (holder_of (known.numbers q) ≡ Some s → ⊥) → lost_at g q ≡ No
    not_held fact.Unknown e never = refl
    not_held fact.Nothing e never = refl
    not_held (fact.Is n) e never = ap (λ b. if b then Yes else No) (ne_eqb q n (λ same. never (is.holder q s (e ∙ ap facts.Is (sym same)))))

    is_held : (g : Fact ℕ) → known.holds s ≡ fact_of g → holder_of (known.numbers q) ≡ Some s → lost_at g q ≡ Yes
    is_held fact.Unknown e h = absurd (unknown_is q (sym e ∙ is.held q s h))
    is_held fact.Nothing e h = absurd (nothing_is q (sym e ∙ is.held q s h))
    is_held (fact.Is n) e h = ap (λ b. if b then Yes else No) (eq-eqb q n (is_is q n (sym (is.held q s h) ∙ e)))

    by_number : (n : Number) → known.numbers q ≡ n → IsHeard n → lost_at f q ≡ lost_by n s
    by_number Unheard e h = absurd h
    by_number Nobodys e h = not_held f holds (λ held. none_some s (sym (ap holder_of e) ∙ held))
    by_number (Of holder delay answers) e h = elim (cases_Bool (same_serial s holder)) [
      | inl t ↦ is_held f holds (ap holder_of e ∙ ap Some (sym (same_serial-true s holder t))) ∙ sym (ap (λ b. if b then Yes else No) t)
      | inr f1 ↦
          not_held f holds (λ held. true_false (same_serial s holder) (subst (λ u. same_serial s u ≡ true) (one s holder (sym held ∙ ap holder_of e)) (same_serial-itself s)) f1)
          ∙ sym (ap (λ b. if b then Yes else No) f1)
    ]

pub owners_disabled : (known : Known) → IsIndexed known → IsOwned known → (s : Serial) (f : Fact ℕ) → known.holds s ≡ fact_of f → (q : ℕ)
    → owner_after (lost_at f) (known.owners q) ≡ owner_after (λ n. lost_by (known.numbers n) s) (known.owners q)
owners_disabled known is owned s f holds q = agree (lost_at f) (λ n. lost_by (known.numbers n) s) known.numbers (known.owners q) (owned q) (λ n heard. lost_by_is known is s f holds n heard)

pub owners_assigned : (known : Known) → IsIndexed known → IsOwned known → (onu : ℕ) (s : Serial) (f : Fact ℕ) (lost : Sure) → known.holds s ≡ fact_of f → lost ≡ spec.lost_of (known.numbers onu) s → (q : ℕ)
    → owner_after (lost_only onu lost) (owner_after (lost_at (other_than f onu)) (known.owners q)) ≡ owner_after (lost_with known onu s) (known.owners q)
owners_assigned known is owned onu s f lost holds is_lost q = in_steps (lost_at (other_than f onu)) (lost_only onu lost) (lost_with known onu s) known.numbers (known.owners q) (owned q) each
  where
    own : (g : Fact ℕ) (n : ℕ) → n ≡ onu → lost_at (other_than g onu) n ≡ No
    own fact.Unknown n same = refl
    own fact.Nothing n same = refl
    own (fact.Is m) n same = elim (cases_eq m onu) [
      | inl here ↦ ap (λ b. lost_at (if b then fact.Nothing else fact.Is m) n) (eq-eqb m onu here)
      | inr other ↦ ap (λ b. lost_at (if b then fact.Nothing else fact.Is m) n) (ne_eqb m onu other) ∙ ap (λ b. if b then Yes else No) (ne_eqb n m (λ e. other (sym e ∙ same)))
    ]

    others : (g : Fact ℕ) (n : ℕ) → (n ≡ onu → ⊥) → lost_at (other_than g onu) n ≡ lost_at g n
    others fact.Unknown n differs = refl
    others fact.Nothing n differs = refl
    others (fact.Is m) n differs = elim (cases_eq m onu) [
      | inl here ↦ ap (λ b. lost_at (if b then fact.Nothing else fact.Is m) n) (eq-eqb m onu here) ∙ sym (ap (λ b. if b then Yes else No) (ne_eqb n m (λ e. differs (e ∙ here))))
      | inr other ↦ ap (λ b. lost_at (if b then fact.Nothing else fact.Is m) n) (ne_eqb m onu other)
    ]

    each : (n : ℕ) → IsHeard (known.numbers n)
        → ((lost_at (other_than f onu) n ≡ No) × (lost_only onu lost n ≡ lost_with known onu s n)) ⊎ ((lost_only onu lost n ≡ No) × (lost_at (other_than f onu) n ≡ lost_with known onu s n))
    each n heard = elim (cases_eq n onu) [
      | inl same ↦
          inl (
            own f n same,
            ap (λ b. if b then lost else No) (eq-eqb n onu same) ∙ is_lost ∙ ap (λ k. spec.lost_of (known.numbers k) s) (sym same)
                ∙ sym (ap (λ b. if b then spec.lost_of (known.numbers n) s else lost_by (known.numbers n) s) (eq-eqb n onu same)),
          )
      | inr differs ↦
          inr (
            ap (λ b. if b then lost else No) (ne_eqb n onu differs),
            others f n differs ∙ lost_by_is known is s f holds n heard
                ∙ sym (ap (λ b. if b then spec.lost_of (known.numbers n) s else lost_by (known.numbers n) s) (ne_eqb n onu differs)),
          )
    ]

-- where a unit held no ONU-ID none is lost
pub none_held : (held : Fact ℕ) → ((onu : ℕ) → held ≡ fact.Is onu → ⊥) → (owners : List Owner) → owners ≡ map (owner_after (lost_at held)) owners
none_held fact.Unknown never owners = sym (map_itself (owner_after (λ n. No)) owners none)
  where
    none : (o : Owner) → owner_after (λ n. No) o ≡ o
    none Unclear = refl
    none (Free facts.Unknown) = refl
    none (Free facts.Nothing) = refl
    none (Free (facts.Is n)) = refl
    none (Has n last) = refl
none_held fact.Nothing never owners = sym (map_itself (owner_after (λ n. No)) owners none)
  where
    none : (o : Owner) → owner_after (λ n. No) o ≡ o
    none Unclear = refl
    none (Free facts.Unknown) = refl
    none (Free facts.Nothing) = refl
    none (Free (facts.Is n)) = refl
    none (Has n last) = refl
none_held (fact.Is onu) never owners = absurd (never onu refl)
