-- The Alloc-IDs of a unit, written from the last one on.
use Rattle.std.proofs.Common.{◌≡◌, ◌≤◌, ◌+◌, ◌-◌, ◌*◌, ◌<◌, ◌++◌, ℕ, suc, Bool, true, false, cond, List, [], ◌∷◌, Option, None, Some, drop, length, get_or, codes, refl, sym, ap, subst, ◌∙◌, arith, append_assoc, drop-cons, add-one}
use Rattle.std.proofs.lemmas.List.{append-nil, drop_all, length-append}
use Rattle.gp_pools.specs.Slots.{filled}
use Rattle.gp_trace.specs.Reply.{alloc_text, allocs_text, listed}
use Rattle.gp_trace.specs.Writes.{Writes}

abbrev Alloc : Type 0
Alloc = ℕ × Bool

-- whether there is none yet
abbrev pub IsFlag : Bool → List Alloc → Type 0
IsFlag true allocs = allocs ≡ []
IsFlag false allocs = (first : Alloc) × (rest : List Alloc) × (allocs ≡ first ∷ rest)

-- what was written of the last ones of these slots, before `end`
pub record WrittenSoFar (slots : List (Option (ℕ × Bool))) (place : ℕ) (is_empty : Bool) (old : List ℕ) (end : ℕ) (new : List ℕ) (at : ℕ) : Type 0 where
  pub written : Writes (7 * place) (listed (filled (drop (8 - place) slots))) old end new at
  pub flag : IsFlag is_empty (filled (drop (8 - place) slots))

pub none_written : (slots : List (Option Alloc)) (old : List ℕ) (end : ℕ) → length slots ≡ 8 → WrittenSoFar slots 0 true old end old end
none_written slots old end many =
    let none : drop 8 slots ≡ [] = drop_all 8 slots (omega (arith, many)) in
    let nothing : filled (drop 8 slots) ≡ [] = ap filled none in
    record {
      written = record {
        stands = subst (λ (ids : List Alloc). drop end old ≡ listed ids ++ drop end old) (sym nothing) refl;
        begins = subst (λ (ids : List Alloc). end + length (listed ids) ≡ end) (sym nothing) (omega arith);
        short = subst (λ (ids : List Alloc). length (listed ids) ≤ 7 * 0) (sym nothing) (omega arith);
        size = refl;
      };
      flag = nothing;
    }

-- the text of an Alloc-ID before others
before_others : (alloc : Alloc) (is_empty : Bool) (allocs : List Alloc) → IsFlag is_empty allocs
    → listed (alloc ∷ allocs) ≡ (alloc_text alloc ++ cond is_empty [] (codes ",")) ++ listed allocs
before_others alloc true allocs none =
    subst (λ (ids : List Alloc). listed (alloc ∷ ids) ≡ (alloc_text alloc ++ []) ++ listed ids) (sym none) (sym (append-nil (alloc_text alloc ++ [])))
before_others alloc false allocs (first, rest, is) =
    subst (λ (ids : List Alloc). listed (alloc ∷ ids) ≡ (alloc_text alloc ++ codes ",") ++ listed ids) (sym is)
    (sym (append_assoc (alloc_text alloc) (codes ",") (listed (first ∷ rest))))

slot_more : (slots : List (Option Alloc)) (place : ℕ) → length slots ≡ 8 → place < 8 → drop (8 - (place + 1)) slots ≡ get_or slots (7 - place) None ∷ drop (8 - place) slots
slot_more slots place many below =
    let i : 8 - (place + 1) ≡ 7 - place = omega arith in
    let next : suc (7 - place) ≡ 8 - place = omega arith in
    ap (λ (n : ℕ). drop n slots) i ∙ drop-cons slots (7 - place) None (omega arith) ∙ ap (λ (n : ℕ). get_or slots (7 - place) None ∷ drop n slots) next

pub slot_passed : (slots : List (Option Alloc)) (place : ℕ) (is_empty : Bool) (old new : List ℕ) (end at : ℕ) → length slots ≡ 8 → place < 8 → get_or slots (7 - place) None ≡ None
    → WrittenSoFar slots place is_empty old end new at → WrittenSoFar slots (place + 1) is_empty old end new at
slot_passed slots place is_empty old new end at many below empty h =
    let same : filled (drop (8 - place) slots) ≡ filled (drop (8 - (place + 1)) slots) =
    sym (ap filled (slot_more slots place many below ∙ ap (λ (slot : Option Alloc). slot ∷ drop (8 - place) slots) empty)) in
    let few = h.written.short in
    record {
      written = record {
        stands = subst (λ (ids : List Alloc). drop at new ≡ listed ids ++ drop end old) same h.written.stands;
        begins = subst (λ (ids : List Alloc). at + length (listed ids) ≡ end) same h.written.begins;
        short = subst (λ (ids : List Alloc). length (listed ids) ≤ 7 * (place + 1)) same (omega arith);
        size = h.written.size;
      };
      flag = subst (λ (ids : List Alloc). IsFlag is_empty ids) same h.flag;
    }

pub slot_written : (slots : List (Option Alloc)) (place : ℕ) (is_empty : Bool) (alloc : Alloc) (old mid new : List ℕ) (end at start : ℕ) → length slots ≡ 8 → place < 8 → get_or slots (7 - place) None ≡ Some alloc
    → WrittenSoFar slots place is_empty old end mid at → Writes 7 (alloc_text alloc ++ cond is_empty [] (codes ",")) mid at new start → WrittenSoFar slots (place + 1) false old end new start
slot_written slots place is_empty alloc old mid new end at start many below here h w =
    let before = filled (drop (8 - place) slots) in
    let text = alloc_text alloc ++ cond is_empty [] (codes ",") in
    let more : filled (drop (8 - (place + 1)) slots) ≡ alloc ∷ before =
    ap filled (slot_more slots place many below ∙ ap (λ (slot : Option Alloc). slot ∷ drop (8 - place) slots) here) in
    let joined : listed (alloc ∷ before) ≡ text ++ listed before = before_others alloc is_empty before h.flag in
    let long : length (listed (alloc ∷ before)) ≡ length text + length (listed before) = ap length joined ∙ length-append text (listed before) in
    let few = h.written.short in
    let begins = h.written.begins in
    let short = w.short in
    let starts = w.begins in
    let stands : drop start new ≡ listed (alloc ∷ before) ++ drop end old =
    w.stands ∙ ap (λ (xs : List ℕ). text ++ xs) h.written.stands ∙ sym (append_assoc text (listed before) (drop end old)) ∙ ap (λ (xs : List ℕ). xs ++ drop end old) (sym joined) in
    record {
      written = record {
        stands = subst (λ (ids : List Alloc). drop start new ≡ listed ids ++ drop end old) (sym more) stands;
        begins = subst (λ (ids : List Alloc). start + length (listed ids) ≡ end) (sym more) (omega (arith, long));
        short = subst (λ (ids : List Alloc). length (listed ids) ≤ 7 * (place + 1)) (sym more) (omega (arith, long));
        size = w.size ∙ h.written.size;
      };
      flag = (alloc, before, more);
    }

listed_all : (allocs : List Alloc) → IsFlag false allocs → listed allocs ≡ allocs_text allocs
listed_all allocs (first, rest, is) = ap listed is ∙ sym (ap allocs_text is)

pub all_written : (slots : List (Option Alloc)) (old new : List ℕ) (end at : ℕ) → WrittenSoFar slots 8 false old end new at → Writes 56 (allocs_text (filled slots)) old end new at
all_written slots old new end at h =
    subst (λ (t : List ℕ). Writes 56 t old end new at) (listed_all (filled slots) h.flag) h.written

pub dash_written : (slots : List (Option Alloc)) (old mid new : List ℕ) (end at start : ℕ) → WrittenSoFar slots 8 true old end mid at → Writes 1 (codes "-") mid at new start → Writes 56 (allocs_text (filled slots)) old end new start
dash_written slots old mid new end at start h w =
    let text : allocs_text (filled slots) ≡ codes "-" = ap allocs_text h.flag in
    let none : listed (filled slots) ≡ [] = ap listed h.flag in
    let stands : drop at mid ≡ drop end old = h.written.stands ∙ ap (λ (xs : List ℕ). xs ++ drop end old) none in
    let begins = h.written.begins in
    let nothing : length (listed (filled slots)) ≡ 0 = ap length none in
    let starts = w.begins in
    subst (λ (t : List ℕ). Writes 56 t old end new start) (sym text) (record {
      stands = w.stands ∙ ap (λ (xs : List ℕ). codes "-" ++ xs) stands;
      begins = omega arith;
      short = omega arith;
      size = w.size ∙ h.written.size;
    })
