-- The units that each grant asks, and the index of their places.
use Rattle.std.proofs.Common.{◌≡◌, ℕ, zero, suc, ◌+◌, ◌<◌, ◌≤◌, Bool, true, false, cond, List, [], ◌∷◌, length, None, Some, refl, sym, ap, subst, ◌∙◌, arith, rules, eqb, eqb-true, inl, inr, ◌++◌, Vec, Global, vec_len, vec_capacity}
use Rattle.std.specs.Prelude.{All, ◌&&◌, ◌||◌, not, slice_set, slice_index_or}
use Rattle.std.specs.Cmp.{nat_cmp_total, unsigned_tied}
use Rattle.std.specs.Ordering.{nat_cmp}
use Rattle.std.specs.FinSet.{FinSet, contains, contains-empty, contains-insert, contains-remove, empty, insert, remove}
use Rattle.std.proofs.lemmas.Bool.{cases_Bool, eqb-false, eq-eqb, ne_eqb}
use Rattle.std.proofs.lemmas.List.{get_or-set_same, get_or-set_other}
use Rattle.std.proofs.lemmas.List.Elements.{All-head, All-tail, All-same, All-push}
use Rattle.gp_ploam.specs.declared.check.Mask.{Mask}
use Rattle.gp_ploam.specs.declared.message.Serial.{Serial}
use Rattle.gp_ploam.specs.declared.message.Down.{Down}
use Rattle.gp_ploam.specs.declared.message.Down.TheVariants as down
use Rattle.gp_ranging.specs.declared.grant.Grant.{Grant}
use Rattle.gp_ranging.specs.declared.grant.Grant.TheVariants as grant
use Rattle.gp_onu.specs.declared.stage.Stage.{Stage}
use Rattle.gp_onu.specs.declared.stage.Stage.TheVariants.{Initial, Standby, SerialNumber, Ranging, Operation, Popup, EmergencyStop}
use Rattle.gp_onu.specs.Noticing.{is_asked}
use Rattle.gp_onu.specs.Stage.{onu_id_of, with_more_frames}
use Rattle.gp_onu.specs.Table.{UnitState, Granted, Hears, answer_to, is_own, unit_after}
use Rattle.gp_onu.proofs.Skipping.{unit}
use Rattle.gp_fibre.specs.declared.asked_by.AskedBy.{AskedBy}
use Rattle.gp_fibre.specs.declared.asked_by.AskedBy.TheVariants.{Nothing, Search, OnuId}
use Rattle.gp_fibre.specs.UnitStore.{onu_id_meant}
use Rattle.gp_fibre.specs.AskedUnits.{AskedPlaces, AsksNobody, HasSet, asked_by_of, asks, is_in_set, places_asked, updated, with_place, without_place}

-- ---- the sets

set_at : (sets : List (FinSet nat_cmp)) (f : FinSet nat_cmp → FinSet nat_cmp) (own onu : ℕ) → own < length sets
    → slice_index_or (slice_set sets own (f (slice_index_or sets own empty))) onu empty ≡ cond (eqb onu own) (f (slice_index_or sets onu empty)) (slice_index_or sets onu empty)
set_at sets f own onu low =
    let new : List (FinSet nat_cmp) = slice_set sets own (f (slice_index_or sets own empty)) in
    elim (cases_Bool (eqb onu own)) [
      | inl is ↦
          subst (λ (n : ℕ). slice_index_or new n empty ≡ cond (eqb n own) (f (slice_index_or sets n empty)) (slice_index_or sets n empty)) (sym (eqb-true onu own is))
          (get_or-set_same sets own (f (slice_index_or sets own empty)) empty low
          ∙ ap (λ (b : Bool). cond b (f (slice_index_or sets own empty)) (slice_index_or sets own empty)) (sym (eq-eqb own own refl)))
      | inr isnt ↦
          get_or-set_other sets own onu (f (slice_index_or sets own empty)) empty (eqb-false onu own isnt)
          ∙ ap (λ (b : Bool). cond b (f (slice_index_or sets onu empty)) (slice_index_or sets onu empty)) (sym isnt)
    ]

-- a change of one set changes what the grants that it stands for ask
set_updated : (places : AskedPlaces) (kind : AskedBy) (f : FinSet nat_cmp → FinSet nat_cmp) (asked : Grant) → HasSet places kind
    → places_asked (updated places kind f) asked ≡ cond (asks kind asked) (f (places_asked places asked)) (places_asked places asked)
set_updated places Nothing f asked has = refl
set_updated places Search f grant.Search has = refl
set_updated places Search f (grant.Range onu) has = refl
set_updated places Search f (grant.Poll onu) has = refl
set_updated places (OnuId own) f grant.Search has = refl
set_updated places (OnuId own) f (grant.Range onu) has = set_at places.by_onu_id f own onu has
set_updated places (OnuId own) f (grant.Poll onu) has = set_at places.by_onu_id f own onu has

in_inserted : (b : Bool) (s : FinSet nat_cmp) (place other : ℕ) → contains (cond b (insert s place) s) other ≡ cond b (eqb other place || contains s other) (contains s other)
in_inserted true s place other = contains-insert nat_cmp_total s place other ∙ ap (λ (b : Bool). b || contains s other) (unsigned_tied other place)
in_inserted false s place other = refl

in_removed : (b : Bool) (s : FinSet nat_cmp) (place other : ℕ) → contains (cond b (remove s place) s) other ≡ cond b (not (eqb other place) && contains s other) (contains s other)
in_removed true s place other = contains-remove nat_cmp_total s place other ∙ ap (λ (b : Bool). not b && contains s other) (unsigned_tied other place)
in_removed false s place other = refl

moved_bit : (here before after was : Bool) → (here ≡ true → was ≡ before)
    → cond after (here || cond before (not here && was) was) (cond before (not here && was) was) ≡ cond here after was
moved_bit true true true was e = refl
moved_bit true true false was e = refl
moved_bit true false true was e = refl
moved_bit true false false was e = e refl
moved_bit false true true was e = refl
moved_bit false true false was e = refl
moved_bit false false true was e = refl
moved_bit false false false was e = refl

-- a place that goes from the set where it was into another
pub place_moved : (places : AskedPlaces) (place : ℕ) (before after : AskedBy) → HasSet places before → HasSet (without_place places before place) after
    → ((asked : Grant) → is_in_set places asked place ≡ asks before asked) → (asked : Grant) (other : ℕ)
    → is_in_set (with_place (without_place places before place) after place) asked other ≡ cond (eqb other place) (asks after asked) (is_in_set places asked other)
place_moved places place before after had has was asked other =
    let left = without_place places before place in
    let first : is_in_set left asked other ≡ cond (asks before asked) (not (eqb other place) && is_in_set places asked other) (is_in_set places asked other) =
    ap (λ (s : FinSet nat_cmp). contains s other) (set_updated places before (λ s. remove s place) asked had) ∙ in_removed (asks before asked) (places_asked places asked) place other in
    let here : eqb other place ≡ true → is_in_set places asked other ≡ asks before asked =
    λ e. ap (λ (n : ℕ). is_in_set places asked n) (eqb-true other place e) ∙ was asked in
    ap (λ (s : FinSet nat_cmp). contains s other) (set_updated left after (λ s. insert s place) asked has)
    ∙ in_inserted (asks after asked) (places_asked left asked) place other
    ∙ ap (λ (b : Bool). cond (asks after asked) (eqb other place || b) b) first
    ∙ moved_bit (eqb other place) (asks before asked) (asks after asked) (is_in_set places asked other) here

-- a place that stays where it is
pub place_stays : (places : AskedPlaces) (place : ℕ) (kind : AskedBy) → ((asked : Grant) → is_in_set places asked place ≡ asks kind asked) → (asked : Grant) (other : ℕ)
    → is_in_set places asked other ≡ cond (eqb other place) (asks kind asked) (is_in_set places asked other)
place_stays places place kind was asked other =
    elim (cases_Bool (eqb other place)) [
      | inl is ↦
          ap (λ (n : ℕ). is_in_set places asked n) (eqb-true other place is)
          ∙ was asked
          ∙ ap (λ (b : Bool). cond b (asks kind asked) (is_in_set places asked other)) (sym is)
      | inr isnt ↦ ap (λ (b : Bool). cond b (asks kind asked) (is_in_set places asked other)) (sym isnt)
    ]

-- ---- the first sets

-- the sets of no unit, which the place behind the last one ends
pub record AreEmpty (units : ℕ) (sets : Vec (FinSet nat_cmp) Global) (count : ℕ) : Type 0 where
  pub each : All (λ s. s ≡ insert empty units) sets.items
  pub len : vec_len sets ≡ count
  pub capacity : 256 ≤ vec_capacity sets

pub empty_more : (units : ℕ) (old new : Vec (FinSet nat_cmp) Global) (count : ℕ) (s : FinSet nat_cmp) → AreEmpty units old count → s ≡ insert empty units
    → new.items ≡ old.items ++ s ∷ [] → vec_len new ≡ vec_len old + 1 → vec_capacity new ≡ vec_capacity old → AreEmpty units new (count + 1)
empty_more units old new count s so_far is items len capacity =
    let Ended : FinSet nat_cmp → Type 0 = λ t. t ≡ insert empty units in
    record {
      each = All-same Ended new.items (old.items ++ s ∷ []) items (All-push Ended old.items s so_far.each is);
      len = let l = so_far.len in omega arith;
      capacity = let l = so_far.capacity in omega arith;
    }

none_before : (units place : ℕ) → place < units → contains {R = nat_cmp} (insert empty units) place ≡ false
none_before units place low =
    contains-insert nat_cmp_total empty units place
    ∙ ap (λ (b : Bool). b || contains {R = nat_cmp} empty place) (unsigned_tied place units ∙ ne_eqb place units (λ e. omega arith))
    ∙ contains-empty nat_cmp place

none_at : (units : ℕ) (sets : List (FinSet nat_cmp)) (onu place : ℕ) → All (λ s. s ≡ insert empty units) sets → place < units → contains (slice_index_or sets onu empty) place ≡ false
none_at units [] onu place all low = contains-empty nat_cmp place
none_at units (x ∷ xs) zero place all low = ap (λ (s : FinSet nat_cmp). contains s place) (All-head (λ s. s ≡ insert empty units) x xs all) ∙ none_before units place low
none_at units (x ∷ xs) (suc onu) place all low = none_at units xs onu place (All-tail (λ s. s ≡ insert empty units) x xs all) low

pub asks_nobody : (units : ℕ) (places : AskedPlaces) → places.searched ≡ insert empty units → All (λ s. s ≡ insert empty units) places.by_onu_id → AsksNobody units places
asks_nobody units places none all grant.Search place low = ap (λ (s : FinSet nat_cmp). contains s place) none ∙ none_before units place low
asks_nobody units places none all (grant.Range onu) place low = none_at units places.by_onu_id onu place all low
asks_nobody units places none all (grant.Poll onu) place low = none_at units places.by_onu_id onu place all low

-- ---- a unit

none_is_not : (n : ℕ) → None ≡ Some n → ⊥
none_is_not n e = cc

pub asked_with_onu_id : (stage : Stage) (onu : ℕ) → onu_id_of stage ≡ Some onu → asked_by_of stage ≡ OnuId onu
asked_with_onu_id Initial onu e = absurd (none_is_not onu e)
asked_with_onu_id Standby onu e = absurd (none_is_not onu e)
asked_with_onu_id (SerialNumber f) onu e = absurd (none_is_not onu e)
asked_with_onu_id (Ranging n f) onu e = cc
asked_with_onu_id (Operation n d o) onu e = cc
asked_with_onu_id (Popup n d o f) onu e = cc
asked_with_onu_id EmergencyStop onu e = absurd (none_is_not onu e)

-- frames that don't end a state change nothing of it
pub asked_later : (s : Serial) (m : Mask) (l : Bool) (stage : Stage) (k : ℕ) (asked : Grant) → is_asked asked (unit s m l (with_more_frames stage k)) ≡ asks (asked_by_of stage) asked
asked_later s m l Initial k grant.Search = refl
asked_later s m l Initial k (grant.Range onu) = refl
asked_later s m l Initial k (grant.Poll onu) = refl
asked_later s m l Standby k grant.Search = refl
asked_later s m l Standby k (grant.Range onu) = refl
asked_later s m l Standby k (grant.Poll onu) = refl
asked_later s m l (SerialNumber f) k grant.Search = refl
asked_later s m l (SerialNumber f) k (grant.Range onu) = refl
asked_later s m l (SerialNumber f) k (grant.Poll onu) = refl
asked_later s m l (Ranging n f) k grant.Search = refl
asked_later s m l (Ranging n f) k (grant.Range onu) = refl
asked_later s m l (Ranging n f) k (grant.Poll onu) = refl
asked_later s m l (Operation n d o) k grant.Search = refl
asked_later s m l (Operation n d o) k (grant.Range onu) = refl
asked_later s m l (Operation n d o) k (grant.Poll onu) = refl
asked_later s m l (Popup n d o f) k grant.Search = refl
asked_later s m l (Popup n d o f) k (grant.Range onu) = refl
asked_later s m l (Popup n d o f) k (grant.Poll onu) = refl
asked_later s m l EmergencyStop k grant.Search = refl
asked_later s m l EmergencyStop k (grant.Range onu) = refl
asked_later s m l EmergencyStop k (grant.Poll onu) = refl

-- a grant changes nothing of a unit that it does not ask, and has no answer
abbrev pub IsLeft : UnitState → Grant → ℕ → Type 0
IsLeft u asked random = (unit_after u (Granted asked random) ≡ u) × (answer_to u (Granted asked random) ≡ None)

pub unasked : (s : Serial) (m : Mask) (l : Bool) (stage : Stage) (asked : Grant) (random : ℕ) → is_asked asked (unit s m l stage) ≡ false → IsLeft (unit s m l stage) asked random
unasked s m false stage asked random isnt = (refl, refl)
unasked s m true Initial grant.Search random isnt = (refl, refl)
unasked s m true Initial (grant.Range onu) random isnt = (refl, refl)
unasked s m true Initial (grant.Poll onu) random isnt = (refl, refl)
unasked s m true Standby grant.Search random isnt = (refl, refl)
unasked s m true Standby (grant.Range onu) random isnt = (refl, refl)
unasked s m true Standby (grant.Poll onu) random isnt = (refl, refl)
unasked s m true (SerialNumber f) grant.Search random isnt = absurd (true_is_not isnt)
  where
    true_is_not : true ≡ false → ⊥
    true_is_not e = cc
unasked s m true (SerialNumber f) (grant.Range onu) random isnt = (refl, refl)
unasked s m true (SerialNumber f) (grant.Poll onu) random isnt = (refl, refl)
unasked s m true (Ranging n f) grant.Search random isnt = (refl, refl)
unasked s m true (Ranging n f) (grant.Range onu) random isnt = (search rules, search rules)
unasked s m true (Ranging n f) (grant.Poll onu) random isnt = (search rules, search rules)
unasked s m true (Operation n d o) grant.Search random isnt = (refl, refl)
unasked s m true (Operation n d o) (grant.Range onu) random isnt = (search rules, search rules)
unasked s m true (Operation n d o) (grant.Poll onu) random isnt = (search rules, search rules)
unasked s m true (Popup n d o f) grant.Search random isnt = (refl, refl)
unasked s m true (Popup n d o f) (grant.Range onu) random isnt = (search rules, search rules)
unasked s m true (Popup n d o f) (grant.Poll onu) random isnt = (search rules, search rules)
unasked s m true EmergencyStop grant.Search random isnt = (refl, refl)
unasked s m true EmergencyStop (grant.Range onu) random isnt = (refl, refl)
unasked s m true EmergencyStop (grant.Poll onu) random isnt = (refl, refl)

-- ---- a message that is meant for another ONU-ID

abbrev IsDeaf : UnitState → List ℕ → Down → Type 0
IsDeaf u code message = unit_after u (Hears code message) ≡ u

ranging_time_to_others : (s : Serial) (m : Mask) (stage : Stage) (code : List ℕ) (onu eqd : ℕ) → is_own (unit s m true stage) onu ≡ false → IsDeaf (unit s m true stage) code (down.RangingTime onu eqd)
ranging_time_to_others s m Initial code onu eqd isnt = refl
ranging_time_to_others s m Standby code onu eqd isnt = refl
ranging_time_to_others s m (SerialNumber f) code onu eqd isnt = refl
ranging_time_to_others s m (Ranging n f) code onu eqd isnt = search rules
ranging_time_to_others s m (Operation n d o) code onu eqd isnt = search rules
ranging_time_to_others s m (Popup n d o f) code onu eqd isnt = search rules
ranging_time_to_others s m EmergencyStop code onu eqd isnt = refl

alloc_to_others : (s : Serial) (m : Mask) (stage : Stage) (code : List ℕ) (onu alloc : ℕ) (keep : Bool) → is_own (unit s m true stage) onu ≡ false
    → IsDeaf (unit s m true stage) code (down.AssignAlloc onu alloc keep)
alloc_to_others s m Initial code onu alloc keep isnt = refl
alloc_to_others s m Standby code onu alloc keep isnt = refl
alloc_to_others s m (SerialNumber f) code onu alloc keep isnt = refl
alloc_to_others s m (Ranging n f) code onu alloc keep isnt = search rules
alloc_to_others s m (Operation n d o) code onu alloc keep isnt = search rules
alloc_to_others s m (Popup n d o f) code onu alloc keep isnt = search rules
alloc_to_others s m EmergencyStop code onu alloc keep isnt = refl

deactivation_of_others : (s : Serial) (m : Mask) (stage : Stage) (code : List ℕ) (onu : ℕ) → is_own (unit s m true stage) onu ≡ false → eqb onu 255 ≡ false
    → IsDeaf (unit s m true stage) code (down.Deactivate onu)
deactivation_of_others s m Initial code onu isnt one = search rules
deactivation_of_others s m Standby code onu isnt one = search rules
deactivation_of_others s m (SerialNumber f) code onu isnt one = search rules
deactivation_of_others s m (Ranging n f) code onu isnt one = search rules
deactivation_of_others s m (Operation n d o) code onu isnt one = search rules
deactivation_of_others s m (Popup n d o f) code onu isnt one = search rules
deactivation_of_others s m EmergencyStop code onu isnt one = search rules

popup_of_others : (s : Serial) (m : Mask) (stage : Stage) (code : List ℕ) (onu : ℕ) → is_own (unit s m true stage) onu ≡ false → eqb onu 255 ≡ false
    → IsDeaf (unit s m true stage) code (down.Popup onu)
popup_of_others s m Initial code onu isnt one = search rules
popup_of_others s m Standby code onu isnt one = search rules
popup_of_others s m (SerialNumber f) code onu isnt one = search rules
popup_of_others s m (Ranging n f) code onu isnt one = search rules
popup_of_others s m (Operation n d o) code onu isnt one = search rules
popup_of_others s m (Popup n d o f) code onu isnt one = search rules
popup_of_others s m EmergencyStop code onu isnt one = search rules

some_same : (a b : ℕ) → Some a ≡ Some b → b ≡ a
some_same a b e = cc

-- a message that is meant for an ONU-ID unless that is 255
one_meant : (own onu : ℕ) → cond (eqb own 255) None (Some own) ≡ Some onu → (eqb own 255 ≡ false) × (onu ≡ own)
one_meant own onu e =
    elim (cases_Bool (eqb own 255)) [
      | inl is ↦ absurd (none_is_not onu (sym (ap (λ (b : Bool). cond b None (Some own)) is) ∙ e))
      | inr isnt ↦ (isnt, some_same own onu (sym (ap (λ (b : Bool). cond b None (Some own)) isnt) ∙ e))
    ]

pub deaf_to_others : (s : Serial) (m : Mask) (l : Bool) (stage : Stage) (code : List ℕ) (message : Down) (onu : ℕ) → onu_id_meant message ≡ Some onu
    → is_own (unit s m l stage) onu ≡ false → IsDeaf (unit s m l stage) code message
deaf_to_others s m false stage code message onu e isnt = refl
deaf_to_others s m true stage code (down.RangingTime own eqd) onu e isnt =
    ranging_time_to_others s m stage code own eqd (subst (λ (n : ℕ). is_own (unit s m true stage) n ≡ false) (some_same own onu e) isnt)
deaf_to_others s m true stage code (down.AssignAlloc own alloc keep) onu e isnt =
    alloc_to_others s m stage code own alloc keep (subst (λ (n : ℕ). is_own (unit s m true stage) n ≡ false) (some_same own onu e) isnt)
deaf_to_others s m true stage code (down.Deactivate own) onu e isnt =
    let one = one_meant own onu e in
    deactivation_of_others s m stage code own (subst (λ (n : ℕ). is_own (unit s m true stage) n ≡ false) one.1 isnt) one.0
deaf_to_others s m true stage code (down.Popup own) onu e isnt =
    let one = one_meant own onu e in
    popup_of_others s m stage code own (subst (λ (n : ℕ). is_own (unit s m true stage) n ≡ false) one.1 isnt) one.0
deaf_to_others s m true stage code (down.UpstreamOverhead burst) onu e isnt = absurd (none_is_not onu e)
deaf_to_others s m true stage code (down.AssignOnu own serial) onu e isnt = absurd (none_is_not onu e)
deaf_to_others s m true stage code (down.DisableSerial serial) onu e isnt = absurd (none_is_not onu e)
deaf_to_others s m true stage code (down.EnableSerial serial) onu e isnt = absurd (none_is_not onu e)
deaf_to_others s m true stage code down.EnableAll onu e isnt = absurd (none_is_not onu e)
deaf_to_others s m true stage code down.NoMessage onu e isnt = absurd (none_is_not onu e)
deaf_to_others s m true stage code (down.Other id octet body) onu e isnt = absurd (none_is_not onu e)
