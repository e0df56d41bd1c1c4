-- What receipts were asked for, as they grow.
use Rattle.std.proofs.Common.{◌≡◌, ◌<◌, ◌≤◌, ◌+◌, ℕ, List, [], ◌∷◌, ◌++◌, length, map, take, min, suc, zero, get_or, refl, sym, ap, zero-add, append-nil, ◌∙◌, append_assoc, arith}
use Rattle.std.proofs.lemmas.List.{take_more, take-append-le, take_min, take-replicate, take-map, map-append}
use Rattle.std.specs.List.{flat_map}
use Rattle.gp_machine.specs.declared.event.Command.{Command as CommandOf}
use Rattle.gp_machine.specs.declared.event.Event.{Event}
use Rattle.gp_machine.specs.declared.event.Event.TheVariants.{Frame}
use Rattle.gp_machine.specs.declared.entry.Receipt.{Receipt}
use Rattle.gp_workers.specs.Asked.{asked_of, Extends, ExtendsBy, frames_on, frames_of, command_on, commands_of}

pub extends_none : (old : List Receipt) → Extends old old []
extends_none old = record { more = []; grown = sym (append-nil old); asked = refl }

-- one receipt more
pub extends_push : (old now new : List Receipt) (asks : List (ℕ × Event)) (r : Receipt) (a : ℕ × Event) → Extends old now asks → new ≡ now ++ r ∷ [] → asked_of r ≡ a → Extends old new (asks ++ a ∷ [])
extends_push old now new asks r a h push is = record {
  more = h.more ++ r ∷ [];
  grown = push ∙ ap (λ w. w ++ r ∷ []) h.grown ∙ append_assoc old h.more (r ∷ []);
  asked = map-append asked_of h.more (r ∷ []) ∙ ap (λ w. w ++ asked_of r ∷ []) h.asked ∙ ap (λ w. asks ++ w ∷ []) is;
}

pub extends_more : (old now new : List Receipt) (asks : List (ℕ × Event)) (i : ℕ) (d : ℕ × Event) (r : Receipt) → i < length asks → Extends old now (take i asks) → new ≡ now ++ r ∷ [] → asked_of r ≡ get_or asks i d
    → Extends old new (take (i + 1) asks)
extends_more old now new asks i d r l h push is = rw (take_more asks i d l) (extends_push old now new (take i asks) r (get_or asks i d) h push is)

split_at : {X Y : Type 0} (f : X → List Y) (xs : List X) (i : ℕ) (d : X) → i < length xs → (rest : List Y) × (flat_map f xs ≡ flat_map f (take i xs) ++ (f (get_or xs i d) ++ rest))
split_at f [] i d l = absurd (omega (arith, l))
split_at f (x ∷ xs) zero d l = (flat_map f xs, refl)
split_at f (x ∷ xs) (suc i) d l =
    let r = split_at f xs i d (omega (arith, l)) in
    (r.0, ap (λ w. f x ++ w) r.1 ∙ sym (append_assoc (f x) (flat_map f (take i xs)) (f (get_or xs i d) ++ r.0)))

take_append_more : {X : Type 0} (a b : List X) (k : ℕ) → take (length a + k) (a ++ b) ≡ a ++ take k b
take_append_more [] b k = ap (λ n. take n b) (zero-add k)
take_append_more (x ∷ a) b k =
    let e : length (x ∷ a) + k ≡ suc (length a + k) = omega arith in
    ap (λ n. take n (x ∷ (a ++ b))) e ∙ ap (λ w. x ∷ w) (take_append_more a b k)

take_within : {X : Type 0} (a b c : List X) (k : ℕ) → take (length a + min k (length b)) (a ++ (b ++ c)) ≡ a ++ take k b
take_within a b c k =
    take_append_more a (b ++ c) (min k (length b)) ∙ ap (λ w. a ++ w) (take-append-le (min k (length b)) b c (omega arith) ∙ take_min k b)

-- after some pairs a part of the next one's frames came
pub extends_by_pair : (old now new : List Receipt) (pairs : List (ℕ × ℕ)) (i : ℕ) (d : ℕ × ℕ) (p n : ℕ) → i < length pairs → (p, n) ≡ get_or pairs i d → Extends old now (frames_of (take i pairs)) → ExtendsBy now new (frames_on p n) → ExtendsBy old new (frames_of pairs)
extends_by_pair old now new pairs i d p n l is h part =
    let f : ℕ × ℕ → List (ℕ × Event) = λ q. frames_on q.0 q.1 in
    let a : List (ℕ × Event) = flat_map f (take i pairs) in
    let s = split_at f pairs i d l in
    let whole : frames_of pairs ≡ a ++ (frames_on p n ++ s.0) = s.1 ∙ ap (λ q. a ++ (f q ++ s.0)) (sym is) in
    let prefix : take (length a + min part.count (length (frames_on p n))) (frames_of pairs) ≡ a ++ take part.count (frames_on p n) =
    ap (take (length a + min part.count (length (frames_on p n)))) whole ∙ take_within a (frames_on p n) s.0 part.count in
    record {
      count = length a + min part.count (length (frames_on p n));
      prefix = record {
        more = h.more ++ part.prefix.more;
        grown = part.prefix.grown ∙ ap (λ w. w ++ part.prefix.more) h.grown ∙ append_assoc old h.more part.prefix.more;
        asked = map-append asked_of h.more part.prefix.more ∙ ap (λ w. w ++ map asked_of part.prefix.more) h.asked ∙ ap (λ w. a ++ w) part.prefix.asked ∙ sym prefix;
      };
    }

-- a fault after k frames
pub extends_by_frames : (old now new : List Receipt) (p k n : ℕ) → k ≤ n → Extends old now (frames_on p k) → new ≡ now → ExtendsBy old new (frames_on p n)
extends_by_frames old now new p k n l h same = record {
  count = k;
  prefix = record { more = h.more; grown = same ∙ h.grown; asked = h.asked ∙ sym (take-replicate k n (p, Frame) l) };
}

-- ---- commands

-- one command more
pub extends_command : (old now new : List Receipt) (cs : List (ℕ × CommandOf)) (i : ℕ) (d : ℕ × CommandOf) (r : Receipt) → i < length cs → Extends old now (commands_of (take i cs)) → new ≡ now ++ r ∷ []
    → asked_of r ≡ command_on (get_or cs i d) → Extends old new (commands_of (take (i + 1) cs))
extends_command old now new cs i d r l h push is =
    rw (ap commands_of (take_more cs i d l) ∙ map-append command_on (take i cs) (get_or cs i d ∷ [])) (extends_push old now new (commands_of (take i cs)) r (command_on (get_or cs i d)) h push is)

-- a fault after some of them
pub extends_by_commands : (old now new : List Receipt) (cs : List (ℕ × CommandOf)) (i : ℕ) → Extends old now (commands_of (take i cs)) → new ≡ now → ExtendsBy old new (commands_of cs)
extends_by_commands old now new cs i h same = record {
  count = i;
  prefix = record { more = h.more; grown = same ∙ h.grown; asked = h.asked ∙ sym (take-map command_on i cs) };
}
