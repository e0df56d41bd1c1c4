-- The fields of a line that are told one after another.
use Rattle.std.proofs.Common.{◌≡◌, ℕ, true, false, List, [], ◌∷◌, ◌++◌, refl, sym, ap, subst, ◌∙◌, append_assoc, append-nil}
use Rattle.std.specs.Prelude.{Bool, MatchBool, not}
use Rattle.gp_ploam.specs.declared.check.Mask.{Mask}
use Rattle.gp_json.specs.declared.slot.Slot.{Slot}
use Rattle.gp_json.specs.declared.slot.Slot.TheVariants.{Port}
use Rattle.gp_json.specs.Slots.{may_end, slot_after}
use Rattle.gp_json.specs.Fields.{TellsPart, TellsParts}

-- what was told of the parts so far leads to what is told of all, and only so
pub record Leads (mask : Mask) (all : List (List ℕ)) (slot : Slot) (left : List (List ℕ)) (before out : List ℕ) : Type 0 where
  pub said : List ℕ
  pub stands : out ≡ before ++ said
  pub ends : (rest : List ℕ) → TellsParts mask slot left rest → TellsParts mask Port all (said ++ rest)
  pub begins : (fields : List ℕ) → TellsParts mask Port all fields → (rest : List ℕ) × TellsParts mask slot left rest

pub leads_first : (mask : Mask) (all left : List (List ℕ)) (out : List ℕ) → left ≡ all → Leads mask all Port left out out
leads_first mask all left out same = record {
  said = [];
  stands = sym (append-nil out);
  ends = λ rest h. subst (λ (ps : List (List ℕ)). TellsParts mask Port ps rest) same h;
  begins = λ fields h. (fields, subst (λ (ps : List (List ℕ)). TellsParts mask Port ps fields) (sym same) h);
}

pub leads_next : (mask : Mask) (all : List (List ℕ)) (slot next : Slot) (part : List ℕ) (left others : List (List ℕ)) (before out new : List ℕ) → Leads mask all slot left before out → left ≡ part ∷ others
    → ((said : List ℕ) × TellsPart mask slot part said × (new ≡ out ++ said)) → next ≡ slot_after slot part → Leads mask all next others before new
leads_next mask all slot next part left others before out new h is told there =
    subst (λ (s : Slot). Leads mask all s others before new) (sym there) (record {
      said = h.said ++ told.0;
      stands = told.2 ∙ ap (λ (l : List ℕ). l ++ told.0) h.stands ∙ append_assoc before h.said told.0;
      ends = λ rest k.
          let more : TellsParts mask slot (part ∷ others) (told.0 ++ rest) = (told.0, rest, told.1, k, refl) in
          subst (λ (l : List ℕ). TellsParts mask Port all l) (sym (append_assoc h.said told.0 rest)) (h.ends (told.0 ++ rest) (subst (λ (ps : List (List ℕ)). TellsParts mask slot ps (told.0 ++ rest)) (sym is) more));
      begins = λ fields k.
          let some = h.begins fields k in
          let more : TellsParts mask slot (part ∷ others) some.0 = subst (λ (ps : List (List ℕ)). TellsParts mask slot ps some.0) is some.1 in
          (more.1, more.3);
    })

-- the end
pub leads_end : (mask : Mask) (all : List (List ℕ)) (slot : Slot) (left : List (List ℕ)) (before out : List ℕ) (end : Bool) → Leads mask all slot left before out → left ≡ [] → end ≡ may_end slot
    → MatchBool end ((fields : List ℕ) × TellsParts mask Port all fields × (out ≡ before ++ fields)) ((fields : List ℕ) → TellsParts mask Port all fields → ⊥)
leads_end mask all slot left before out true h none is =
    let last : TellsParts mask slot left [] = subst (λ (ps : List (List ℕ)). TellsParts mask slot ps []) (sym none) (sym is, refl) in
    (h.said, subst (λ (l : List ℕ). TellsParts mask Port all l) (append-nil h.said) (h.ends [] last), h.stands)
leads_end mask all slot left before out false h none is = λ fields k.
    let some = h.begins fields k in
    let last : TellsParts mask slot [] some.0 = subst (λ (ps : List (List ℕ)). TellsParts mask slot ps some.0) none some.1 in
    let clash : false ≡ true = is ∙ last.0 in
    absurd (cc)

-- the same by whether the part was told
pub leads_told : (told : Bool) (mask : Mask) (all : List (List ℕ)) (slot next : Slot) (part : List ℕ) (left others : List (List ℕ)) (before out new : List ℕ) → not told ≡ false → Leads mask all slot left before out → left ≡ part ∷ others
    → MatchBool told ((said : List ℕ) × TellsPart mask slot part said × (new ≡ out ++ said)) ((said : List ℕ) → TellsPart mask slot part said → ⊥) → next ≡ slot_after slot part → Leads mask all next others before new
leads_told true mask all slot next part left others before out new is h parts match there = leads_next mask all slot next part left others before out new h parts match there
leads_told false mask all slot next part left others before out new is h parts match there = absurd (let clash : true ≡ false = is in cc)
