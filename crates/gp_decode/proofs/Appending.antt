-- Appending one text behind another.
use Rattle.std.proofs.Common.{◌≡◌, ℕ, ◌+◌, ◌<◌, ◌≤◌, List, [], ◌++◌, length, Result, Ok, Err, IsErrAnd, OnErr, is_ok, if◌then◌else◌, Vec, Global, vec_len, vec_capacity, refl, sym, ap, subst, ◌∙◌, append_assoc, append-nil, length-append, arith}
use Rattle.std.specs.declared.alloc.AllocError.{AllocError}
use Rattle.gp_decode.specs.Appending.{Appends, HasPart}

-- a part of the first of two texts is one of the whole
part_of_first : (whole first second before after : List ℕ) → whole ≡ first ++ second → HasPart first before after
    → HasPart whole before after
part_of_first whole first second before after is p = record {
  part = p.part;
  rest = p.rest ++ second;
  is_part = is ∙ ap (λ (t : List ℕ). t ++ second) p.is_part ∙ append_assoc p.part p.rest second;
  after_is = p.after_is;
}

-- so is a part of the second, behind the first
part_of_second : (whole first second before mid after : List ℕ) → whole ≡ first ++ second → mid ≡ before ++ first
    → HasPart second mid after → HasPart whole before after
part_of_second whole first second before mid after is mid_is p = record {
  part = first ++ p.part;
  rest = p.rest;
  is_part = is ∙ ap (λ (t : List ℕ). first ++ t) p.is_part ∙ sym (append_assoc first p.part p.rest);
  after_is = p.after_is ∙ ap (λ (t : List ℕ). t ++ p.part) mid_is ∙ append_assoc before first p.part;
}

-- how long two texts are together
long : (whole first second : List ℕ) → whole ≡ first ++ second → length whole ≡ length first + length second
long whole first second is = ap length is ∙ length-append first second

-- the octets of a slice are appended, or none of them
appends_octets : (text : List ℕ) (old new : Vec ℕ Global) (answer : Result Unit AllocError)
    → new.items ≡ (if is_ok answer then old.items ++ text else old.items) → vec_capacity old ≤ vec_capacity new
    → OnErr answer (vec_capacity old < vec_len old + length text) → Appends text old new answer
appends_octets text old new (Ok u) items capacity full = record { whole = items; part = tt; room = tt; capacity = capacity }
appends_octets text old new (Err f) items capacity full = record {
  whole = tt;
  part = record { part = []; rest = text; is_part = refl; after_is = items ∙ sym (append-nil old.items) };
  room = full;
  capacity = capacity;
}

-- the same of a slice that is this text
pub appends_slice : (slice text : List ℕ) (old new : Vec ℕ Global) (answer : Result Unit AllocError) → slice ≡ text
    → new.items ≡ (if is_ok answer then old.items ++ slice else old.items) → vec_capacity old ≤ vec_capacity new
    → OnErr answer (vec_capacity old < vec_len old + length slice) → Appends text old new answer
appends_slice slice text old new answer is items capacity full =
    subst (λ (t : List ℕ). Appends t old new answer) is (appends_octets slice old new answer items capacity full)

-- where there was no memory for the first of two texts, there was none for the whole
pub appends_no_first : (whole first second : List ℕ) (old new : Vec ℕ Global) (made answer : Result Unit AllocError) (e : AllocError)
    (Q : AllocError → Type 0) → whole ≡ first ++ second → made ≡ Err e → IsErrAnd answer Q → Appends first old new made → Appends whole old new answer
appends_no_first whole first second old new made (Ok u) e Q is was failed a = absurd failed
appends_no_first whole first second old new made (Err f) e Q is was failed a =
    let more : length whole ≡ length first + length second = long whole first second is in
    let here : Appends first old new (Err e) = subst (λ (r : Result Unit AllocError). Appends first old new r) was a in
    record {
      whole = tt;
      part = part_of_first whole first second old.items new.items is here.part;
      room = omega (arith, here.room, more);
      capacity = here.capacity;
    }

-- where the first of two texts was appended, what became of the second became of the whole
pub appends_second : (whole first second : List ℕ) (old mid new : Vec ℕ Global) (made answer : Result Unit AllocError) (u : Unit)
    → whole ≡ first ++ second → made ≡ Ok u → Appends first old mid made → Appends second mid new answer → Appends whole old new answer
appends_second whole first second old mid new made (Ok v) u is was a b =
    let here : Appends first old mid (Ok u) = subst (λ (r : Result Unit AllocError). Appends first old mid r) was a in
    record {
      whole = b.whole ∙ ap (λ (t : List ℕ). t ++ second) here.whole ∙ append_assoc old.items first second ∙ ap (λ (t : List ℕ). old.items ++ t) (sym is);
      part = tt;
      room = tt;
      capacity = omega (arith, here.capacity, b.capacity);
    }
appends_second whole first second old mid new made (Err f) u is was a b =
    let here : Appends first old mid (Ok u) = subst (λ (r : Result Unit AllocError). Appends first old mid r) was a in
    let more : length whole ≡ length first + length second = long whole first second is in
    let longer : length mid.items ≡ length old.items + length first = ap length here.whole ∙ length-append old.items first in
    record {
      whole = tt;
      part = part_of_second whole first second old.items mid.items new.items is here.whole b.part;
      room = omega (arith, here.capacity, b.room, more, longer, old.ok.0, mid.ok.0);
      capacity = omega (arith, here.capacity, b.capacity);
    }

-- two numbers behind spaces, behind another text
pub behind : (text first second third fourth : List ℕ)
    → (((text ++ first) ++ second) ++ third) ++ fourth ≡ text ++ (((first ++ second) ++ third) ++ fourth)
behind text first second third fourth =
    append_assoc ((text ++ first) ++ second) third fourth ∙ append_assoc (text ++ first) second (third ++ fourth)
    ∙ append_assoc text first (second ++ (third ++ fourth))
    ∙ ap (λ (t : List ℕ). text ++ t) (sym (append_assoc (first ++ second) third fourth ∙ append_assoc first second (third ++ fourth)))
