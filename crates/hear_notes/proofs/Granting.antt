-- What is looked for among the windows that are kept, and what marks them.
use Rattle.std.proofs.Common.{◌≡◌, ℕ, suc, ◌<◌, ◌==◌, ◌||◌, Bool, true, false, cond, List, [], ◌∷◌, length, map, get_or, Option, Some, None, refl, sym, ap, ◌∙◌, arith}
use Rattle.std.specs.Prelude.{not, ◌&&◌, ◌++◌, take, drop, is_some, Result, Ok, Err, OnOk}
use Rattle.std.specs.List.{find, list_any}
use Rattle.std.specs.Option.{option_map}
use Rattle.std.specs.FinMap as fin
use Rattle.gp_ploam.specs.declared.message.Serial.{Serial}
use Rattle.gp_ploam.specs.declared.message.Up.{Up}
use Rattle.gp_ploam.specs.declared.message.Up.TheVariants.{SerialNumber, DyingGasp, NoMessage, Acknowledge, Other}
use Rattle.gp_ploam.specs.OnuIds.{broadcast_onu}
use Rattle.gp_ploam.specs.Serials.{same_serial}
use Rattle.gp_ploam.proofs.Serials.{serials_total, by_cmp-same}
use Rattle.gp_ranging.specs.declared.grant.Grant.TheVariants.{Search}
use Rattle.hear_rules.specs.declared.rule.Verdict.{Verdict}
use Rattle.hear_rules.specs.declared.rule.Verdict.TheVariants.{Kept, Broken, NotJudged}
use Rattle.hear_rules.specs.Rules.{judged_if}
use Rattle.hear_rules.specs.Units as units
use Rattle.hear_rules.specs.Units.{Grants, has_had, waits_for, may_answer, first_waiting, twice_of}
use Rattle.hear_notes.specs.declared.granted.Granted.{Granted}
use Rattle.hear_notes.specs.Searches.{Searches}
use Rattle.hear_notes.specs.Grants.{Book, SameGrants, asking, granted_of, grants_of, marked, searched_by, had_by, waits_by}

-- ---- what waits for a message

module _ (grace now : ℕ) (book : Book) where
  had : (granted : units.Granted) (message : Up) → has_had (grants_of book) granted message ≡ had_by (searched_by book.searched message) granted message
  had granted (SerialNumber onu serial random flags) = refl
  had granted (DyingGasp onu) = refl
  had granted (NoMessage onu) = refl
  had granted (Acknowledge onu id copy) = refl
  had granted (Other id octet1 body) = refl

  module _ (message : Up) where
    abbrev pub waits_here : Granted → Bool
    waits_here granted = waits_by grace now (searched_by book.searched message) (granted_of granted) message

    waits_is : (granted : Granted) → waits_for grace now (grants_of book) (granted_of granted) message ≡ waits_here granted
    waits_is granted = ap (λ b. may_answer grace now (granted_of granted) message && not b) (had (granted_of granted) message)

    abbrev number_of : Granted → ℕ
    number_of granted = granted.number

    pub first_is : (kept : List Granted) → option_map (λ (granted : Granted). granted.number) (find waits_here kept) ≡ first_waiting grace now (grants_of book) (map granted_of kept) message
    first_is [] = refl
    first_is (g ∷ others) =
        elim (waits_here g) as (λ b. option_map number_of (cond b (Some g) (find waits_here others)) ≡ cond b (Some g.number) (first_waiting grace now (grants_of book) (map granted_of others) message))
        [ true ↦ refl | false ↦ first_is others ]
        ∙ ap (λ b. cond b (Some g.number) (first_waiting grace now (grants_of book) (map granted_of others) message)) (sym (waits_is g))

    pub some_waits : (kept : List units.Granted) → list_any (λ granted. waits_for grace now (grants_of book) granted message) kept ≡ is_some (first_waiting grace now (grants_of book) kept message)
    some_waits [] = refl
    some_waits (g ∷ others) =
        elim (waits_for grace now (grants_of book) g message) as (λ b. (b || list_any (λ granted. waits_for grace now (grants_of book) granted message) others) ≡ is_some (cond b (Some g.number) (first_waiting grace now (grants_of book) others message)))
        [ true ↦ refl | false ↦ some_waits others ]

    pub some_asks : (kept : List Granted) → list_any (λ (granted : Granted). may_answer grace now (granted_of granted) message) kept ≡ list_any (λ granted. may_answer grace now granted message) (map granted_of kept)
    some_asks [] = refl
    some_asks (g ∷ others) = ap (λ b. may_answer grace now (granted_of g) message || b) (some_asks others)

-- ---- what `twice` says

-- by the grace alone
abbrev pub twice_by : ℕ → Grants → Option ℕ → ℕ → Up → Verdict
twice_by grace grants begun now message =
    judged_if (not (units.is_first grace now begun) && not (units.is_lost grace now grants.lost))
    (twice_of (list_any (λ granted. may_answer grace now granted message) grants.kept)
    (list_any (λ granted. waits_for grace now grants granted message) grants.kept))

module _ (first lost asks waits : Bool) where
  abbrev pub said : Verdict
  said = judged_if (not first && not lost) (twice_of asks waits)

  pub at_first : first ≡ true → NotJudged ≡ said
  at_first e = ap (λ b. judged_if (not b && not lost) (twice_of asks waits)) (sym e)

  pub at_lost : first ≡ false → lost ≡ true → NotJudged ≡ said
  at_lost e f = ap (λ b. judged_if (not b) (twice_of asks waits)) (sym f) ∙ ap (λ b. judged_if (not b && not lost) (twice_of asks waits)) (sym e)

  pub at_none : first ≡ false → lost ≡ false → asks ≡ false → NotJudged ≡ said
  at_none e f g = ap (λ b. twice_of b waits) (sym g) ∙ ap (λ b. judged_if (not b) (twice_of asks waits)) (sym f) ∙ ap (λ b. judged_if (not b && not lost) (twice_of asks waits)) (sym e)

  pub at_waiting : first ≡ false → lost ≡ false → asks ≡ true → waits ≡ true → Kept ≡ said
  at_waiting e f g h =
      ap (twice_of true) (sym h) ∙ ap (λ b. twice_of b waits) (sym g)
      ∙ ap (λ b. judged_if (not b) (twice_of asks waits)) (sym f) ∙ ap (λ b. judged_if (not b && not lost) (twice_of asks waits)) (sym e)

  pub at_answered : first ≡ false → lost ≡ false → asks ≡ true → waits ≡ false → Broken ≡ said
  at_answered e f g h =
      ap (twice_of true) (sym h) ∙ ap (λ b. twice_of b waits) (sym g)
      ∙ ap (λ b. judged_if (not b) (twice_of asks waits)) (sym f) ∙ ap (λ b. judged_if (not b && not lost) (twice_of asks waits)) (sym e)

-- ---- what is marked

-- one that says nothing
abbrev pub blank_granted : Granted
blank_granted = record { grant = Search; at = 0; number = 0; answered = false }

abbrev marked_if : Bool → Granted → Granted
marked_if b granted = cond b (record granted { answered = true }) granted

same_number : (b : Bool) (granted : Granted) → (marked_if b granted).number ≡ granted.number
same_number true granted = refl
same_number false granted = refl

again : (b : Bool) (granted : Granted) → marked_if b (marked_if b granted) ≡ marked_if b granted
again true granted = refl
again false granted = refl

pub marked_twice : (number : ℕ) (granted : Granted) → marked number (marked number granted) ≡ marked number granted
marked_twice number granted =
    let b = granted.number == number in
    ap (λ n. marked_if (n == number) (marked_if b granted)) (same_number b granted) ∙ again b granted

marked_one : (number : ℕ) (b : Bool) (granted : Granted) → granted_of (marked_if b granted) ≡ (let g = granted_of granted in cond b (record g { answered = true }) g)
marked_one number true granted = refl
marked_one number false granted = refl

pub marked_all : (number : ℕ) (kept : List Granted) → map granted_of (map (marked number) kept) ≡ map (units.marked number) (map granted_of kept)
marked_all number [] = refl
marked_all number (g ∷ others) =
    ap (λ h. h ∷ map granted_of (map (marked number) others)) (marked_one number (g.number == number) g)
    ∙ ap (λ hs. units.marked number (granted_of g) ∷ hs) (marked_all number others)

pub length-marked : (number : ℕ) (kept : List Granted) → length (map (marked number) kept) ≡ length kept
length-marked number [] = refl
length-marked number (g ∷ others) = ap suc (length-marked number others)

-- where each is as the function leaves it the list is, too
pub all_done : {X : Type 0} (f : X → X) (d : X) (xs : List X) → ((i : ℕ) → i < length xs → f (get_or xs i d) ≡ get_or xs i d) → map f xs ≡ xs
all_done f d [] h = refl
all_done f d (x ∷ xs) h = ap (λ y. y ∷ map f xs) (h 0 (omega arith)) ∙ ap (λ ys. x ∷ ys) (all_done f d xs (λ i less. h (suc i) (omega arith)))

-- ---- what becomes of it

abbrev pub by_asking : Grants → ℕ → Option Serial → Grants
by_asking grants number None = record grants { kept = map (units.marked number) grants.kept }
by_asking grants number (Some serial) = record grants { searched = λ other. cond (same_serial other serial) (Some number) (grants.searched other) }

pub answered_is : (grants : Grants) (number : ℕ) (message : Up) → by_asking grants number (asking message) ≡ units.answered_by grants number message
answered_is grants number (SerialNumber onu serial random flags) =
    elim (onu == broadcast_onu) as (λ b. by_asking grants number (cond b (Some serial) None) ≡ cond b (by_asking grants number (Some serial)) (by_asking grants number None)) [ true ↦ refl | false ↦ refl ]
answered_is grants number (DyingGasp onu) = refl
answered_is grants number (NoMessage onu) = refl
answered_is grants number (Acknowledge onu id copy) = refl
answered_is grants number (Other id octet1 body) = refl

module _ (book : Book) (number : ℕ) where
  pub notes_search : (serial : Serial) (searches : Searches) → searches ≡ fin.insert book.searched serial number
      → SameGrants (grants_of (record { kept = book.kept; count = book.count; lost = book.lost; searched = searches })) (by_asking (grants_of book) number (Some serial))
  notes_search serial searches e = record {
    kept = refl;
    count = refl;
    lost = refl;
    searched = λ other.
        ap (λ m. fin.get m other) e ∙ fin.get-insert serials_total book.searched serial number other
        ∙ ap (λ b. cond b (Some number) (fin.get book.searched other)) (by_cmp-same other serial);
  }

  pub notes_mark : (kept : List Granted) → kept ≡ map (marked number) book.kept
      → SameGrants (grants_of (record { kept = kept; count = book.count; lost = book.lost; searched = book.searched })) (by_asking (grants_of book) number None)
  notes_mark kept e = record { kept = ap (map granted_of) e ∙ marked_all number book.kept; count = refl; lost = refl; searched = λ serial. refl }

pub same_itself : (grants : Grants) → SameGrants grants grants
same_itself grants = record { kept = refl; count = refl; lost = refl; searched = λ serial. refl }

pub on_ok : {A E : Type 0} {P Q : Type 0} (r : Result A E) → (P → Q) → OnOk r P → OnOk r Q
on_ok (Ok x) f p = f p
on_ok (Err e) f p = p

-- a slice written back, as long as it was
pub written : {X : Type 0} (xs ws : List X) → length ws ≡ length xs → take (length xs) (ws ++ drop (length ws) xs) ≡ ws
written [] [] e = refl
written [] (w ∷ ws) e = absurd (omega arith)
written (x ∷ xs) [] e = absurd (omega arith)
written (x ∷ xs) (w ∷ ws) e = ap (λ vs. w ∷ vs) (written xs ws (omega arith))
