-- Whose each Alloc-ID is, by the tenures of the ONU-IDs.
use Rattle.std.proofs.Common.{◌≡◌, ℕ, zero, suc, ◌+◌, ◌==◌, ◌<◌, ◌≤◌, ◌||◌, Bool, true, false, cond, List, [], ◌∷◌, length, map, get_or, replicate, inl, inr, refl, sym, ap, subst, ◌∙◌, eq-eqb, arith}
use Rattle.std.specs.Prelude.{if◌then◌else◌, nat_lt}
use Rattle.std.proofs.Math.ListN.{set, length-set}
use Rattle.std.proofs.lemmas.Bool.{cases_eq, ne_eqb, lt-ltb, le-ltb}
use Rattle.std.proofs.lemmas.List.{map-set, length-map, length-replicate}
use Rattle.hear_rules.specs.Facts.{Fact, Unknown, Nothing, Is, Sure, Yes, No}
use Rattle.hear_rules.specs.Known.{Owner, Unclear, Free, Has, freed, still_free, owner_after, owner_back}
use Rattle.hear_state.specs.declared.owners.Place.{Place}
use Rattle.hear_state.specs.declared.owners.Place.TheVariants as place
use Rattle.hear_state.specs.declared.owners.Tenure.{Tenure}
use Rattle.hear_state.specs.Facts.{fact_of}
use Rattle.hear_state.specs.Owners.{tenure_at, first_tenure, left_in, given_in, owner_in, owners_of, IsPast, ArePast, lost_only, lost_if, next_tenure, settled_in, settled, lost_place}
use Rattle.hear_state.proofs.Reading.{get-set}

-- a list whose items are those of another, changed
pub is_map : {X Y : Type 0} (f : X → Y) (d : X) (e : Y) (xs : List X) (ys : List Y) → length ys ≡ length xs → ((i : ℕ) → i < length xs → get_or ys i e ≡ f (get_or xs i d)) → ys ≡ map f xs
is_map f d e [] [] long h = refl
is_map f d e [] (y ∷ ys) long h = absurd (omega (arith, long))
is_map f d e (x ∷ xs) [] long h = absurd (omega (arith, long))
is_map f d e (x ∷ xs) (y ∷ ys) long h =
    ap (λ z. z ∷ ys) (h 0 (omega arith)) ∙ ap (λ zs. f x ∷ zs) (is_map f d e xs ys (omega (arith, long)) (λ i less. h (suc i) (omega arith)))

-- each item changed in two ways that come to the same
pub map_same : {X Y : Type 0} (f g : X → Y) (P : X → Type 0) (d : X) (xs : List X) → ((x : X) → P x → f x ≡ g x) → ((i : ℕ) → P (get_or xs i d)) → map f xs ≡ map g xs
map_same f g P d [] same h = refl
map_same f g P d (x ∷ xs) same h = ap (λ z. z ∷ map f xs) (same x (h 0)) ∙ ap (λ zs. g x ∷ zs) (map_same f g P d xs same (λ i. h (suc i)))

pub map_map : {X Y Z : Type 0} (f : X → Y) (g : Y → Z) (xs : List X) → map g (map f xs) ≡ map (λ x. g (f x)) xs
map_map f g [] = refl
map_map f g (x ∷ xs) = ap (λ zs. g (f x) ∷ zs) (map_map f g xs)

pub map_itself : {X : Type 0} (f : X → X) (xs : List X) → ((x : X) → f x ≡ x) → map f xs ≡ xs
map_itself f [] same = refl
map_itself f (x ∷ xs) same = ap (λ z. z ∷ map f xs) (same x) ∙ ap (λ zs. x ∷ zs) (map_itself f xs same)

-- ---- where an ONU-ID loses none, nothing changes

pub kept_left : (lost : ℕ → Sure) (onu : ℕ) (b : Bool) → lost onu ≡ No → (if b then Unclear else Free (Is onu)) ≡ owner_after lost (if b then Unclear else Free (Is onu))
kept_left lost onu true no1 = refl
kept_left lost onu false no1 = sym (ap (λ s. still_free s onu) no1)

kept_given : (lost : ℕ → Sure) (onu : ℕ) (last : Fact ℕ) (a b : Bool) → lost onu ≡ No
    → (if a then Has onu last else (if b then Unclear else Free (Is onu))) ≡ owner_after lost (if a then Has onu last else (if b then Unclear else Free (Is onu)))
kept_given lost onu last true b no1 = sym (ap (λ s. freed s onu last) no1)
kept_given lost onu last false b no1 = kept_left lost onu b no1

pub none_lost : (onu : ℕ) (o : Owner) → owner_after (lost_only onu No) o ≡ o
none_lost onu Unclear = refl
none_lost onu (Free Unknown) = refl
none_lost onu (Free Nothing) = refl
none_lost onu (Free (Is other)) = ap (λ s. still_free s other) (either (other == onu))
  where
    either : (b : Bool) → (if b then No else No) ≡ No
    either true = refl
    either false = refl
none_lost onu (Has other last) = ap (λ s. freed s other last) (either (other == onu))
  where
    either : (b : Bool) → (if b then No else No) ≡ No
    either true = refl
    either false = refl

-- ---- a tenure begins

module _ (lost : ℕ → Sure) (t : Tenure) (onu tenure : ℕ) (past : tenure ≤ t.now) (sure : t.unsure ≤ t.now) where
  next_left : (u : Bool) → lost onu ≡ lost_if u → left_in (next_tenure u t) onu tenure ≡ owner_after lost (left_in t onu tenure)
  next_left true is =
      ap (λ b. cond b Unclear (Free (Is onu))) (lt-ltb tenure (t.now + 1) (omega (arith, past)))
      ∙ sym (by_test (nat_lt tenure t.unsure))
    where
      by_test : (b : Bool) → owner_after lost (if b then Unclear else Free (Is onu)) ≡ Unclear
      by_test true = refl
      by_test false = ap (λ s. still_free s onu) is
  next_left false is = by_test (nat_lt tenure t.unsure)
    where
      by_test : (b : Bool) → (if b then Unclear else Free (Is onu)) ≡ owner_after lost (if b then Unclear else Free (Is onu))
      by_test true = refl
      by_test false = sym (ap (λ s. still_free s onu) is)

  next_given : (u : Bool) (last : Fact ℕ) → lost onu ≡ lost_if u → given_in (next_tenure u t) onu tenure last ≡ owner_after lost (given_in t onu tenure last)
  next_given u last is =
      ap (λ b. if b then Has onu last else left_in (next_tenure u t) onu tenure) (ne_eqb (t.now + 1) tenure (λ e. omega (arith, past, e)))
      ∙ elim (cases_eq t.now tenure) [
        | inl same ↦ ended u is same ∙ sym (ap (λ b. owner_after lost (if b then Has onu last else left_in t onu tenure)) (eq-eqb t.now tenure same))
        | inr other ↦ next_left u is ∙ sym (ap (λ b. owner_after lost (if b then Has onu last else left_in t onu tenure)) (ne_eqb t.now tenure other))
      ]
    where
      ended : (v : Bool) → lost onu ≡ lost_if v → t.now ≡ tenure → left_in (next_tenure v t) onu tenure ≡ freed (lost onu) onu last
      ended true e same = ap (λ b. cond b Unclear (Free (Is onu))) (lt-ltb tenure (t.now + 1) (omega (arith, past))) ∙ sym (ap (λ s. freed s onu last) e)
      ended false e same = ap (λ b. cond b Unclear (Free (Is onu))) (le-ltb tenure t.unsure (omega (arith, sure, same))) ∙ sym (ap (λ s. freed s onu last) e)

  settled_left : (u : Bool) → lost onu ≡ lost_if u → (tenures : List Tenure) → tenure_at tenures onu ≡ first_tenure → owner_in tenures (settled_in t onu u tenure) ≡ owner_after lost (left_in t onu tenure)
  settled_left true is tenures at = sym (by_test (nat_lt tenure t.unsure))
    where
      by_test : (b : Bool) → owner_after lost (if b then Unclear else Free (Is onu)) ≡ Unclear
      by_test true = refl
      by_test false = ap (λ s. still_free s onu) is
  settled_left false is tenures at = by_test (nat_lt tenure t.unsure)
    where
      by_test : (b : Bool) → owner_in tenures (if b then place.Unclear else place.Back onu 0) ≡ owner_after lost (if b then Unclear else Free (Is onu))
      by_test true = refl
      by_test false = ap (λ (x : Tenure). left_in x onu 0) at ∙ sym (ap (λ s. still_free s onu) is)

  settled_given : (u : Bool) (last : Fact ℕ) → lost onu ≡ lost_if u → (tenures : List Tenure) → tenure_at tenures onu ≡ first_tenure → owner_in tenures (settled_in t onu u tenure) ≡ owner_after lost (given_in t onu tenure last)
  settled_given u last is tenures at = elim (cases_eq t.now tenure) [
    | inl same ↦ ended u is same ∙ sym (ap (λ b. owner_after lost (if b then Has onu last else left_in t onu tenure)) (eq-eqb t.now tenure same))
    | inr other ↦ settled_left u is tenures at ∙ sym (ap (λ b. owner_after lost (if b then Has onu last else left_in t onu tenure)) (ne_eqb t.now tenure other))
  ]
    where
      ended : (v : Bool) → lost onu ≡ lost_if v → t.now ≡ tenure → owner_in tenures (settled_in t onu v tenure) ≡ freed (lost onu) onu last
      ended true e same = sym (ap (λ s. freed s onu last) e)
      ended false e same =
          ap (λ b. owner_in tenures (if b then place.Unclear else place.Back onu 0)) (le-ltb tenure t.unsure (omega (arith, sure, same)))
          ∙ ap (λ (x : Tenure). left_in x onu 0) at ∙ sym (ap (λ s. freed s onu last) e)

-- ---- the places

module _ (tenures : List Tenure) (n : ℕ) (long : length tenures ≡ 256) (low : n < 256) where
  at_same : (t : Tenure) (m : ℕ) → m ≡ n → tenure_at (set tenures n t) m ≡ t
  at_same t m same = get-set tenures n t first_tenure m (omega (arith, long, low)) ∙ ap (λ b. cond b t (tenure_at tenures m)) (eq-eqb m n same)

  at_other : (t : Tenure) (m : ℕ) → (m ≡ n → ⊥) → tenure_at (set tenures n t) m ≡ tenure_at tenures m
  at_other t m other = get-set tenures n t first_tenure m (omega (arith, long, low)) ∙ ap (λ b. cond b t (tenure_at tenures m)) (ne_eqb m n other)

  abbrev lost : Bool → ℕ → Sure
  lost u = lost_only n (lost_if u)

  lost_own : (u : Bool) (m : ℕ) → m ≡ n → lost_only n (lost_if u) m ≡ lost_if u
  lost_own u m same = ap (λ b. if b then lost_if u else No) (eq-eqb m n same)

  lost_other : (u : Bool) (m : ℕ) → (m ≡ n → ⊥) → lost_only n (lost_if u) m ≡ No
  lost_other u m other = ap (λ b. if b then lost_if u else No) (ne_eqb m n other)

  module _ (places : List Place) (is : ArePast tenures places) where
    abbrev old : Tenure
    old = tenure_at tenures n

    owner_next : (u : Bool) (p : Place) → IsPast tenures p → owner_in (set tenures n (next_tenure u old)) p ≡ owner_after (lost_only n (lost_if u)) (owner_in tenures p)
    owner_next u place.Unclear h = refl
    owner_next u place.Never h = refl
    owner_next u (place.Given onu tenure last) h = elim (cases_eq onu n) [
      | inl same ↦
          ap (λ (t : Tenure). given_in t onu tenure (fact_of last)) (at_same (next_tenure u old) onu same)
          ∙ ap (λ k. given_in (next_tenure u (tenure_at tenures k)) onu tenure (fact_of last)) (sym same)
          ∙ next_given (lost_only n (lost_if u)) (tenure_at tenures onu) onu tenure h.1 (is.sure onu) u (fact_of last) (lost_own u onu same)
      | inr other ↦
          ap (λ (t : Tenure). given_in t onu tenure (fact_of last)) (at_other (next_tenure u old) onu other)
          ∙ (let t = tenure_at tenures onu in kept_given (lost_only n (lost_if u)) onu (fact_of last) (t.now == tenure) (nat_lt tenure t.unsure) (lost_other u onu other))
    ]
    owner_next u (place.Back onu tenure) h = elim (cases_eq onu n) [
      | inl same ↦
          ap (λ (t : Tenure). left_in t onu tenure) (at_same (next_tenure u old) onu same)
          ∙ ap (λ k. left_in (next_tenure u (tenure_at tenures k)) onu tenure) (sym same)
          ∙ next_left (lost_only n (lost_if u)) (tenure_at tenures onu) onu tenure h.1 (is.sure onu) u (lost_own u onu same)
      | inr other ↦
          ap (λ (t : Tenure). left_in t onu tenure) (at_other (next_tenure u old) onu other)
          ∙ (let t = tenure_at tenures onu in kept_left (lost_only n (lost_if u)) onu (nat_lt tenure t.unsure) (lost_other u onu other))
    ]

    pub owners_next : (u : Bool) → owners_of (set tenures n (next_tenure u old)) places ≡ map (owner_after (lost_only n (lost_if u))) (owners_of tenures places)
    owners_next u =
        map_same (owner_in (set tenures n (next_tenure u old))) (λ p. owner_after (lost_only n (lost_if u)) (owner_in tenures p)) (IsPast tenures) place.Unclear places (owner_next u) is.each
        ∙ sym (map_map (owner_in tenures) (owner_after (lost_only n (lost_if u))) places)

    -- a place is not later than a tenure that is later
    past_as : (new : Tenure) (p : Place) → old.now ≤ new.now → IsPast tenures p → IsPast (set tenures n new) p
    past_as new place.Unclear more h = tt
    past_as new place.Never more h = tt
    past_as new (place.Given onu tenure last) more h = (h.0, later new onu tenure more h.1)
      where
        later : (new : Tenure) (m tenure : ℕ) → old.now ≤ new.now → (let t = tenure_at tenures m in tenure ≤ t.now) → (let t = tenure_at (set tenures n new) m in tenure ≤ t.now)
        later new m tenure more past = elim (cases_eq m n) [
          | inl same ↦ subst (λ (t : Tenure). tenure ≤ t.now) (sym (at_same new m same)) (let was = subst (λ k. let t = tenure_at tenures k in tenure ≤ t.now) same past in omega (arith, was, more))
          | inr other ↦ subst (λ (t : Tenure). tenure ≤ t.now) (sym (at_other new m other)) past
        ]
    past_as new (place.Back onu tenure) more h = (h.0, later new onu tenure more h.1)
      where
        later : (new : Tenure) (m tenure : ℕ) → old.now ≤ new.now → (let t = tenure_at tenures m in tenure ≤ t.now) → (let t = tenure_at (set tenures n new) m in tenure ≤ t.now)
        later new m tenure more past = elim (cases_eq m n) [
          | inl same ↦ subst (λ (t : Tenure). tenure ≤ t.now) (sym (at_same new m same)) (let was = subst (λ k. let t = tenure_at tenures k in tenure ≤ t.now) same past in omega (arith, was, more))
          | inr other ↦ subst (λ (t : Tenure). tenure ≤ t.now) (sym (at_other new m other)) past
        ]

    sure_as : (new : Tenure) → new.unsure ≤ new.now → (m : ℕ) → (let t = tenure_at (set tenures n new) m in t.unsure ≤ t.now)
    sure_as new ok m = elim (cases_eq m n) [
      | inl same ↦ subst (λ (t : Tenure). t.unsure ≤ t.now) (sym (at_same new m same)) ok
      | inr other ↦ subst (λ (t : Tenure). t.unsure ≤ t.now) (sym (at_other new m other)) (is.sure m)
    ]

    pub past_next : (u : Bool) → ArePast (set tenures n (next_tenure u old)) places
    past_next u = record {
      long = is.long;
      each = λ q. past_as (next_tenure u old) (get_or places q place.Unclear) (omega arith) (is.each q);
      sure = sure_as (next_tenure u old) (by_unsure u);
    }
      where
        by_unsure : (v : Bool) → (if v then old.now + 1 else old.unsure) ≤ old.now + 1
        by_unsure true = omega arith
        by_unsure false = let s = is.sure n in omega (arith, s)

    -- ---- the tenures begin anew

    owner_settled : (u : Bool) (p : Place) → IsPast tenures p → owner_in (set tenures n first_tenure) (settled old n u p) ≡ owner_after (lost_only n (lost_if u)) (owner_in tenures p)
    owner_settled u place.Unclear h = refl
    owner_settled u place.Never h = refl
    owner_settled u (place.Given onu tenure last) h = elim (cases_eq onu n) [
      | inl same ↦
          ap (λ b. owner_in (set tenures n first_tenure) (if b then settled_in old n u tenure else place.Given onu tenure last)) (eq-eqb onu n same)
          ∙ ap (λ k. owner_in (set tenures n first_tenure) (settled_in (tenure_at tenures k) k u tenure)) (sym same)
          ∙ settled_given (lost_only n (lost_if u)) (tenure_at tenures onu) onu tenure h.1 (is.sure onu) u (fact_of last) (lost_own u onu same) (set tenures n first_tenure) (at_same first_tenure onu same)
      | inr other ↦
          ap (λ b. owner_in (set tenures n first_tenure) (if b then settled_in old n u tenure else place.Given onu tenure last)) (ne_eqb onu n other)
          ∙ ap (λ (t : Tenure). given_in t onu tenure (fact_of last)) (at_other first_tenure onu other)
          ∙ (let t = tenure_at tenures onu in kept_given (lost_only n (lost_if u)) onu (fact_of last) (t.now == tenure) (nat_lt tenure t.unsure) (lost_other u onu other))
    ]
    owner_settled u (place.Back onu tenure) h = elim (cases_eq onu n) [
      | inl same ↦
          ap (λ b. owner_in (set tenures n first_tenure) (if b then settled_in old n u tenure else place.Back onu tenure)) (eq-eqb onu n same)
          ∙ ap (λ k. owner_in (set tenures n first_tenure) (settled_in (tenure_at tenures k) k u tenure)) (sym same)
          ∙ settled_left (lost_only n (lost_if u)) (tenure_at tenures onu) onu tenure h.1 (is.sure onu) u (lost_own u onu same) (set tenures n first_tenure) (at_same first_tenure onu same)
      | inr other ↦
          ap (λ b. owner_in (set tenures n first_tenure) (if b then settled_in old n u tenure else place.Back onu tenure)) (ne_eqb onu n other)
          ∙ ap (λ (t : Tenure). left_in t onu tenure) (at_other first_tenure onu other)
          ∙ (let t = tenure_at tenures onu in kept_left (lost_only n (lost_if u)) onu (nat_lt tenure t.unsure) (lost_other u onu other))
    ]

    pub owners_settled : (u : Bool) → owners_of (set tenures n first_tenure) (map (settled old n u) places) ≡ map (owner_after (lost_only n (lost_if u))) (owners_of tenures places)
    owners_settled u =
        map_map (settled old n u) (owner_in (set tenures n first_tenure)) places
        ∙ map_same (λ p. owner_in (set tenures n first_tenure) (settled old n u p)) (λ p. owner_after (lost_only n (lost_if u)) (owner_in tenures p)) (IsPast tenures) place.Unclear places (owner_settled u) is.each
        ∙ sym (map_map (owner_in tenures) (owner_after (lost_only n (lost_if u))) places)

    get-read : (f : Place → Place) → f place.Unclear ≡ place.Unclear → (ps : List Place) (q : ℕ) → get_or (map f ps) q place.Unclear ≡ f (get_or ps q place.Unclear)
    get-read f none [] q = sym none
    get-read f none (p ∷ ps) zero = refl
    get-read f none (p ∷ ps) (suc q) = get-read f none ps q

    past_settled_place : (u : Bool) (p : Place) → IsPast tenures p → IsPast (set tenures n first_tenure) (settled old n u p)
    past_settled_place u place.Unclear h = tt
    past_settled_place u place.Never h = tt
    past_settled_place u (place.Given onu tenure last) h = elim (cases_eq onu n) [
      | inl same ↦ subst (IsPast (set tenures n first_tenure)) (sym (ap (λ b. if b then settled_in old n u tenure else place.Given onu tenure last) (eq-eqb onu n same))) (by_test (u || nat_lt tenure old.unsure))
      | inr other ↦
          subst (IsPast (set tenures n first_tenure)) (sym (ap (λ b. if b then settled_in old n u tenure else place.Given onu tenure last) (ne_eqb onu n other)))
          (h.0, subst (λ (t : Tenure). tenure ≤ t.now) (sym (at_other first_tenure onu other)) h.1)
    ]
      where
        by_test : (b : Bool) → IsPast (set tenures n first_tenure) (if b then place.Unclear else place.Back n 0)
        by_test true = tt
        by_test false = (low, omega arith)
    past_settled_place u (place.Back onu tenure) h = elim (cases_eq onu n) [
      | inl same ↦ subst (IsPast (set tenures n first_tenure)) (sym (ap (λ b. if b then settled_in old n u tenure else place.Back onu tenure) (eq-eqb onu n same))) (by_test (u || nat_lt tenure old.unsure))
      | inr other ↦
          subst (IsPast (set tenures n first_tenure)) (sym (ap (λ b. if b then settled_in old n u tenure else place.Back onu tenure) (ne_eqb onu n other)))
          (h.0, subst (λ (t : Tenure). tenure ≤ t.now) (sym (at_other first_tenure onu other)) h.1)
    ]
      where
        by_test : (b : Bool) → IsPast (set tenures n first_tenure) (if b then place.Unclear else place.Back n 0)
        by_test true = tt
        by_test false = (low, omega arith)

    pub past_settled : (u : Bool) → ArePast (set tenures n first_tenure) (map (settled old n u) places)
    past_settled u = record {
      long = length-map places (settled old n u) ∙ is.long;
      each = λ q. subst (IsPast (set tenures n first_tenure)) (sym (get-read (settled old n u) refl places q)) (past_settled_place u (get_or places q place.Unclear) (is.each q));
      sure = sure_as first_tenure (omega arith);
    }

-- ---- each loses its Alloc-IDs, or a place is written

module _ (tenures : List Tenure) (places : List Place) (is : ArePast tenures places) where
  owner_lost : (p : Place) → IsPast tenures p → owner_in tenures (lost_place p) ≡ owner_after (λ onu. Yes) (owner_in tenures p)
  owner_lost place.Unclear h = refl
  owner_lost place.Never h = refl
  owner_lost (place.Given onu tenure last) h = elim (cases_eq now.now tenure) [
    | inl same ↦
        ap (λ b. cond b Unclear (Free (Is onu))) (le-ltb tenure now.unsure (let s = is.sure onu in omega (arith, s, same)))
        ∙ sym (ap (λ b. owner_after (λ k. Yes) (if b then Has onu (fact_of last) else left_in now onu tenure)) (eq-eqb now.now tenure same))
    | inr other ↦
        left (nat_lt tenure now.unsure)
        ∙ sym (ap (λ b. owner_after (λ k. Yes) (if b then Has onu (fact_of last) else left_in now onu tenure)) (ne_eqb now.now tenure other))
  ]
    where
      now : Tenure
      now = tenure_at tenures onu

      left : (b : Bool) → (if b then Unclear else Free (Is onu)) ≡ owner_after (λ k. Yes) (if b then Unclear else Free (Is onu))
      left true = refl
      left false = refl
  owner_lost (place.Back onu tenure) h = left (let t = tenure_at tenures onu in nat_lt tenure t.unsure)
    where
      left : (b : Bool) → (if b then Unclear else Free (Is onu)) ≡ owner_after (λ k. Yes) (if b then Unclear else Free (Is onu))
      left true = refl
      left false = refl

  pub owners_lost : owners_of tenures (map lost_place places) ≡ map (owner_after (λ onu. Yes)) (owners_of tenures places)
  owners_lost =
      map_map lost_place (owner_in tenures) places
      ∙ map_same (λ p. owner_in tenures (lost_place p)) (λ p. owner_after (λ onu. Yes) (owner_in tenures p)) (IsPast tenures) place.Unclear places owner_lost is.each
      ∙ sym (map_map (owner_in tenures) (owner_after (λ onu. Yes)) places)

  past_lost_place : (p : Place) → IsPast tenures p → IsPast tenures (lost_place p)
  past_lost_place place.Unclear h = h
  past_lost_place place.Never h = h
  past_lost_place (place.Given onu tenure last) h = h
  past_lost_place (place.Back onu tenure) h = h

  read : (f : Place → Place) → f place.Unclear ≡ place.Unclear → (ps : List Place) (q : ℕ) → get_or (map f ps) q place.Unclear ≡ f (get_or ps q place.Unclear)
  read f none [] q = sym none
  read f none (p ∷ ps) zero = refl
  read f none (p ∷ ps) (suc q) = read f none ps q

  pub past_lost : ArePast tenures (map lost_place places)
  past_lost = record {
    long = length-map places lost_place ∙ is.long;
    each = λ q. subst (IsPast tenures) (sym (read lost_place refl places q)) (past_lost_place (get_or places q place.Unclear) (is.each q));
    sure = is.sure;
  }

  pub past_set : (alloc : ℕ) (p : Place) → alloc < 4096 → IsPast tenures p → ArePast tenures (set places alloc p)
  past_set alloc p low h = record {
    long = length-set places alloc p ∙ is.long;
    each = λ q. subst (IsPast tenures) (sym (get-set places alloc p place.Unclear q (omega (arith, is.long, low)))) (by_test q (q == alloc));
    sure = is.sure;
  }
    where
      by_test : (q : ℕ) (b : Bool) → IsPast tenures (cond b p (get_or places q place.Unclear))
      by_test q true = h
      by_test q false = is.each q

  pub owners_set : (alloc : ℕ) (p : Place) (o : Owner) → owner_in tenures p ≡ o → owners_of tenures (set places alloc p) ≡ set (owners_of tenures places) alloc o
  owners_set alloc p o e = map-set (owner_in tenures) places alloc p ∙ ap (λ x. set (owners_of tenures places) alloc x) e

pub owner_read : (tenures : List Tenure) (ps : List Place) (q : ℕ) → get_or (owners_of tenures ps) q Unclear ≡ owner_in tenures (get_or ps q place.Unclear)
owner_read tenures [] q = refl
owner_read tenures (p ∷ ps) zero = refl
owner_read tenures (p ∷ ps) (suc q) = owner_read tenures ps q

-- ---- at first

pub owners_first : (tenures : List Tenure) (n : ℕ) (p : Place) → owners_of tenures (replicate n p) ≡ replicate n (owner_in tenures p)
owners_first tenures zero p = refl
owners_first tenures (suc n) p = ap (λ os. owner_in tenures p ∷ os) (owners_first tenures n p)

pub past_first : (tenures : List Tenure) (p : Place) → IsPast tenures p → ((m : ℕ) → (let t = tenure_at tenures m in t.unsure ≤ t.now)) → ArePast tenures (replicate 4096 p)
past_first tenures p h sure = record { long = length-replicate {A = Place} 4096 p; each = each 4096; sure = sure }
  where
    each : (n q : ℕ) → IsPast tenures (get_or (replicate n p) q place.Unclear)
    each zero q = tt
    each (suc n) zero = h
    each (suc n) (suc q) = each n q

get_or-same : {X : Type 0} (n : ℕ) (x : X) (q : ℕ) → get_or (replicate n x) q x ≡ x
get_or-same zero x q = refl
get_or-same (suc n) x zero = refl
get_or-same (suc n) x (suc q) = get_or-same n x q

abbrev pub first_tenures : List Tenure
first_tenures = replicate 256 first_tenure

pub sure_first : (m : ℕ) → (let t = tenure_at first_tenures m in t.unsure ≤ t.now)
sure_first m = subst (λ (t : Tenure). t.unsure ≤ t.now) (sym (get_or-same 256 first_tenure m)) (omega arith)

pub given_now : (tenures : List Tenure) (onu : ℕ) (last : Fact ℕ) → (let t = tenure_at tenures onu in given_in t onu t.now last) ≡ Has onu last
given_now tenures onu last = let t = tenure_at tenures onu in ap (λ b. if b then Has onu last else left_in t onu t.now) (eq-eqb t.now t.now refl)

pub back_now : (tenures : List Tenure) (onu : ℕ) → (let t = tenure_at tenures onu in t.unsure ≤ t.now) → (let t = tenure_at tenures onu in left_in t onu t.now) ≡ Free (Is onu)
back_now tenures onu sure = let t = tenure_at tenures onu in ap (λ b. cond b Unclear (Free (Is onu))) (le-ltb t.now t.unsure sure)

pub back_own : (o : Owner) (onu other : ℕ) (last : Fact ℕ) → Has other last ≡ o → other ≡ onu → owner_back o onu ≡ Free (Is onu)
back_own o onu other last is same =
    ap (λ (x : Owner). owner_back x onu) (sym is) ∙ ap (λ b. cond b (Free (Is onu)) (Has other last)) (eq-eqb other onu same)

-- where nothing is taken back all stays
pub set_same : {X : Type 0} (d : X) (xs : List X) (n : ℕ) → n < length xs → set xs n (get_or xs n d) ≡ xs
set_same d [] n less = absurd (omega arith)
set_same d (x ∷ xs) zero less = refl
set_same d (x ∷ xs) (suc n) less = ap (λ ys. x ∷ ys) (set_same d xs n (omega arith))
