-- The field that a part makes, by what it is told as.
use Rattle.std.proofs.Common.{◌≡◌, ℕ, Bool, List, ◌++◌, Ok, Result, codes, refl, subst, ap, ◌∙◌, append_assoc}
use Rattle.std.specs.Prelude.{IfOk, MatchBool}
use Rattle.gp_ploam.specs.declared.check.Mask.{Mask}
use Rattle.gp_json.specs.declared.slot.Slot.{Slot}
use Rattle.gp_json.specs.declared.slot.Kind.{Kind}
use Rattle.gp_json.specs.Slots.{kind_of}
use Rattle.hex.specs.Hex.{decode_sized}
use Rattle.gp_json.specs.Allocs.{alloc_list}
use Rattle.gp_json.specs.Spelling.{quoted}
use Rattle.gp_json.specs.Messages.{TellsBoth}
use Rattle.gp_json.specs.Fields.{TellsAs, TellsCode, allocs_field, fields_opening, message_opening, opening}

-- the part was told as this, or can't be
abbrev pub ToldAs : Kind → Mask → Slot → List ℕ → List ℕ → List ℕ → Bool → Type 0
ToldAs kind mask slot part old new told =
    MatchBool told ((said : List ℕ) × TellsAs kind mask slot part said × (new ≡ old ++ said)) ((said : List ℕ) → TellsAs kind mask slot part said → ⊥)

pub by_kind : {E : Type 0} (r : Result Bool E) (kind : Kind) (mask : Mask) (slot : Slot) (part old new : List ℕ) → kind ≡ kind_of slot → IfOk r (ToldAs kind mask slot part old new)
    → IfOk r (ToldAs (kind_of slot) mask slot part old new)
by_kind r kind mask slot part old new same h = subst (λ (k : Kind). IfOk r (ToldAs k mask slot part old new)) same h

-- a text behind what was appended
behind : (old text more mid new : List ℕ) → mid ≡ old ++ text → new ≡ mid ++ more → new ≡ old ++ (text ++ more)
behind old text more mid new first second = second ∙ ap (λ (l : List ℕ). l ++ more) first ∙ append_assoc old text more

-- a code was told, and its message
pub code_told : (upstream : Bool) (mask : Mask) (slot : Slot) (part octets old name digits new : List ℕ)
    → decode_sized part 13 ≡ Ok octets → name ≡ old ++ opening slot → digits ≡ name ++ quoted part → TellsBoth upstream mask octets digits new
    → (said : List ℕ) × TellsCode upstream mask slot part said × (new ≡ old ++ said)
code_told upstream mask slot part octets old name digits new spelled first second both =
    let one = behind old (opening slot) (quoted part) name digits first second in
    let rest = message_opening upstream ++ both.message ++ fields_opening upstream ++ both.fields in
    let whole : new ≡ old ++ ((opening slot ++ quoted part) ++ rest) = behind old (opening slot ++ quoted part) rest digits new one both.stands in (
      opening slot ++ quoted part ++ message_opening upstream ++ both.message ++ fields_opening upstream ++ both.fields,
      (octets, both.message, both.fields, spelled, both.tells, both.shows, refl),
      whole ∙ ap (λ (l : List ℕ). old ++ l) (simp append_assoc),
    )

-- Alloc-IDs were told, and their list
pub allocs_told : (slot : Slot) (part old name digits opened new : List ℕ) → name ≡ old ++ opening slot → digits ≡ name ++ quoted part
    → opened ≡ digits ++ codes ",\"alloc_list\":" → new ≡ opened ++ alloc_list part → new ≡ old ++ allocs_field slot part
allocs_told slot part old name digits opened new first second third fourth =
    let one = behind old (opening slot) (quoted part) name digits first second in
    let two = behind old (opening slot ++ quoted part) (codes ",\"alloc_list\":") digits opened one third in
    behind old (opening slot ++ quoted part ++ codes ",\"alloc_list\":") (alloc_list part) opened new two fourth
