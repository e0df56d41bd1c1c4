-- What a reader finds in its ring, as it goes on.
use Rattle.std.proofs.Common.{◌≡◌, ℕ, List, [], ◌∷◌, ◌++◌, length, take, refl, sym, ap, append-nil, append_assoc, subst, ◌∙◌}
use Rattle.std.proofs.lemmas.List.{take_at}
use mathlib.Core.List.{IsPrefix}
use Rattle.gp_machine.specs.declared.event.Event.TheVariants.{Burst as Came}
use Rattle.gp_machine.specs.declared.entry.Receipt.{Receipt}
use Rattle.gp_workers.specs.declared.reader.RingItem.{RingItem}
use Rattle.gp_workers.specs.declared.reader.RingItem.TheVariants.{Burst, End}
use Rattle.gp_workers.specs.Asked.{asked_of, Extends, ExtendsBy, bursts_on}
use Rattle.gp_workers.specs.Ring.{GrowsByBursts, Midway, up_to_end}
use Rattle.gp_workers.proofs.Asks.{extends_none, extends_push}

pub prefix_self : {X : Type 0} (xs : List X) → IsPrefix xs xs
prefix_self xs = ([], append-nil xs)

pub prefix_trans : {X : Type 0} (xs ys zs : List X) → IsPrefix xs ys → IsPrefix ys zs → IsPrefix xs zs
prefix_trans xs ys zs p q = (p.0 ++ q.0, sym (append_assoc xs p.0 q.0) ∙ ap (λ w. w ++ q.0) p.1 ∙ q.1)

pub prefix_empty : {X : Type 0} (xs ys : List X) → IsPrefix xs [] → IsPrefix xs ys
prefix_empty [] ys p = (ys, refl)
prefix_empty (x ∷ xs) ys p = let e = p.1 in cc

bursts_push : (port : ℕ) (served : List (ℕ × List ℕ)) (burst : ℕ × List ℕ) → bursts_on port (served ++ burst ∷ []) ≡ bursts_on port served ++ (port, Came burst.0 burst.1) ∷ []
bursts_push port [] burst = refl
bursts_push port (x ∷ xs) burst = ap (λ w. (port, Came x.0 x.1) ∷ w) (bursts_push port xs burst)

bursts_append : (port : ℕ) (xs ys : List (ℕ × List ℕ)) → bursts_on port (xs ++ ys) ≡ bursts_on port xs ++ bursts_on port ys
bursts_append port [] ys = refl
bursts_append port (x ∷ xs) ys = ap (λ w. (port, Came x.0 x.1) ∷ w) (bursts_append port xs ys)

pub midway_start : (old : List Receipt) (port : ℕ) (bursts : List (ℕ × List ℕ)) (rest known : List RingItem) → known ≡ up_to_end bursts rest → Midway old old port bursts rest known
midway_start old port bursts rest known is = record { served = []; left = bursts; split = refl; prefix = ([], append-nil (up_to_end bursts rest) ∙ sym is); sofar = extends_none old }

head_burst : (left : List (ℕ × List ℕ)) (rest tail : List RingItem) (at : ℕ) (bytes : List ℕ) → IsPrefix (up_to_end left rest) (Burst at bytes ∷ tail) → (more : List (ℕ × List ℕ)) × (left ≡ (at, bytes) ∷ more) × IsPrefix (up_to_end more rest) tail
head_burst [] rest tail at bytes p = let e = p.1 in cc
head_burst (b ∷ more) rest tail at bytes p =
    let e = p.1 in
    let same_at : b.0 ≡ at = cc in
    let same_bytes : b.1 ≡ bytes = cc in
    let same : b ≡ (at, bytes) = ap (λ (w : ℕ). (w, b.1)) same_at ∙ ap (λ (w : List ℕ). (at, w)) same_bytes in
    let tails : up_to_end more rest ++ p.0 ≡ tail = cc in
    (more, ap (λ w. w ∷ more) same, (p.0, tails))

head_end : (left : List (ℕ × List ℕ)) (rest tail : List RingItem) → IsPrefix (up_to_end left rest) (End ∷ tail) → left ≡ []
head_end [] rest tail p = refl
head_end (b ∷ more) rest tail p = let e = p.1 in cc

pub midway_burst : (old now new : List Receipt) (port : ℕ) (bursts : List (ℕ × List ℕ)) (rest ahead tail : List RingItem) (at : ℕ) (bytes : List ℕ) (r : Receipt) → Midway old now port bursts rest ahead → IsPrefix ahead (Burst at bytes ∷ tail)
    → new ≡ now ++ r ∷ [] → asked_of r ≡ (port, Came at bytes) → Midway old new port bursts rest tail
midway_burst old now new port bursts rest ahead tail at bytes r h next push is =
    let b = head_burst h.left rest tail at bytes (prefix_trans _ _ _ h.prefix next) in
    record {
      served = h.served ++ (at, bytes) ∷ [];
      left = b.0;
      split = h.split ∙ ap (λ w. h.served ++ w) b.1 ∙ sym (append_assoc h.served ((at, bytes) ∷ []) b.0);
      prefix = b.2;
      sofar = subst (λ w. Extends old new w) (sym (bursts_push port h.served (at, bytes))) (extends_push old now new (bursts_on port h.served) r (port, Came at bytes) h.sofar push is);
    }

pub midway_end : (old now : List Receipt) (port : ℕ) (bursts : List (ℕ × List ℕ)) (rest ahead tail : List RingItem) → Midway old now port bursts rest ahead → IsPrefix ahead (End ∷ tail) → Extends old now (bursts_on port bursts)
midway_end old now port bursts rest ahead tail h next =
    let none : h.left ≡ [] = head_end h.left rest tail (prefix_trans _ _ _ h.prefix next) in
    let all : h.served ≡ bursts = sym (h.split ∙ ap (λ w. h.served ++ w) none ∙ append-nil h.served) in
    subst (λ w. Extends old now (bursts_on port w)) all h.sofar

pub midway_fault : (old now new : List Receipt) (port : ℕ) (bursts : List (ℕ × List ℕ)) (rest ahead : List RingItem) → Midway old now port bursts rest ahead → new ≡ now → ExtendsBy old new (bursts_on port bursts)
midway_fault old now new port bursts rest ahead h same =
    let prefix : take (length (bursts_on port h.served)) (bursts_on port bursts) ≡ bursts_on port h.served =
    ap (λ w. take (length (bursts_on port h.served)) (bursts_on port w)) h.split ∙ ap (take (length (bursts_on port h.served))) (bursts_append port h.served h.left)
    ∙ take_at (bursts_on port h.served) (bursts_on port h.left) (length (bursts_on port h.served)) refl in
    record { count = length (bursts_on port h.served); prefix = record { more = h.sofar.more; grown = same ∙ h.sofar.grown; asked = h.sofar.asked ∙ sym prefix } }

-- ---- whichever bursts they are

pub grows_by_none : (old : List Receipt) (port : ℕ) → GrowsByBursts old old port
grows_by_none old port = record { served = []; grown = extends_none old }

pub grows_by_one : (old now new : List Receipt) (port at : ℕ) (bytes : List ℕ) (r : Receipt) → GrowsByBursts old now port → new ≡ now ++ r ∷ [] → asked_of r ≡ (port, Came at bytes) → GrowsByBursts old new port
grows_by_one old now new port at bytes r h push is = record {
  served = h.served ++ (at, bytes) ∷ [];
  grown = subst (λ w. Extends old new w) (sym (bursts_push port h.served (at, bytes))) (extends_push old now new (bursts_on port h.served) r (port, Came at bytes) h.grown push is);
}

pub grows_no_more : (old now new : List Receipt) (port : ℕ) → GrowsByBursts old now port → new ≡ now → GrowsByBursts old new port
grows_no_more old now new port h same = subst (λ (w : List Receipt). GrowsByBursts old w port) (sym same) h
