-- What is told of octets when more of them come.
use Rattle.std.specs.Prelude.{◌==◌, if◌then◌else◌}
use Rattle.std.proofs.Common.{◌≡◌, ◌≤◌, ◌<◌, ℕ, true, false, List, [], ◌∷◌, ◌++◌, refl, sym, ap, subst, ◌∙◌, append_assoc, append-nil, length, length-append, arith, inl, inr}
use Rattle.std.proofs.lemmas.Bool.{lt-leb, le-leb}
use Rattle.gp_flow.specs.Lines.{ended_lines, onto_first, longest_line}
use Rattle.gp_flow.proofs.LineLemmas.{NoFeed}
use Rattle.gp_explain.specs.Telling.{Manner, TellsOneLine}
use Rattle.gp_tell.specs.Octets.{TellsLine, TellsLines, TellsOctets, onto_open, open_line, told_open}

-- ---- a worked case

case_lines : ended_lines (1 ∷ 10 ∷ 2 ∷ 3 ∷ 10 ∷ 4 ∷ 5 ∷ []) ≡ (1 ∷ []) ∷ (2 ∷ 3 ∷ []) ∷ []
case_lines = refl

case_open : open_line (1 ∷ 10 ∷ 2 ∷ 3 ∷ 10 ∷ 4 ∷ 5 ∷ []) ≡ 4 ∷ 5 ∷ []
case_open = refl

case_none : open_line (1 ∷ 10 ∷ []) ≡ []
case_none = refl

-- ---- a line feed comes

first_fed : (b : ℕ) (lines all : List (List ℕ)) (text : List ℕ) → all ≡ lines ++ text ∷ [] → onto_first b all ≡ onto_first b lines ++ onto_open b lines text ∷ []
first_fed b [] all text h = ap (onto_first b) h
first_fed b (line ∷ lines) all text h = ap (onto_first b) h

pub ended_fed : (xs : List ℕ) → ended_lines (xs ++ 10 ∷ []) ≡ ended_lines xs ++ open_line xs ∷ []
ended_fed [] = refl
ended_fed (b ∷ xs) =
    elim (b == 10) as
    (λ v. (if v then [] ∷ ended_lines (xs ++ 10 ∷ []) else onto_first b (ended_lines (xs ++ 10 ∷ [])))
    ≡ (if v then [] ∷ ended_lines xs else onto_first b (ended_lines xs)) ++ (if v then open_line xs else onto_open b (ended_lines xs) (open_line xs)) ∷ [])
    [ true ↦ ap (λ (l : List (List ℕ)). [] ∷ l) (ended_fed xs) | false ↦ first_fed b (ended_lines xs) _ (open_line xs) (ended_fed xs) ]

-- lines end before
onto_ended : (b : ℕ) (lines all : List (List ℕ)) (line text : List ℕ) → all ≡ lines ++ line ∷ [] → onto_open b all text ≡ text
onto_ended b [] all line text h = rw h refl
onto_ended b (l ∷ lines) all line text h = rw h refl

pub open_fed : (xs : List ℕ) → open_line (xs ++ 10 ∷ []) ≡ []
open_fed [] = refl
open_fed (b ∷ xs) =
    elim (b == 10) as (λ v. (if v then open_line (xs ++ 10 ∷ []) else onto_open b (ended_lines (xs ++ 10 ∷ [])) (open_line (xs ++ 10 ∷ []))) ≡ [])
    [ true ↦ open_fed xs | false ↦ onto_ended b (ended_lines xs) _ (open_line xs) _ (ended_fed xs) ∙ open_fed xs ]

-- ---- octets without a line feed come

ended_none : (ys : List ℕ) → NoFeed ys → ended_lines ys ≡ []
ended_none [] h = refl
ended_none (b ∷ ys) h = rw (h.0) (ap (onto_first b) (ended_none ys h.1))

pub ended_more : (xs ys : List ℕ) → NoFeed ys → ended_lines (xs ++ ys) ≡ ended_lines xs
ended_more [] ys h = ended_none ys h
ended_more (b ∷ xs) ys h =
    elim (b == 10) as
    (λ v. (if v then [] ∷ ended_lines (xs ++ ys) else onto_first b (ended_lines (xs ++ ys))) ≡ (if v then [] ∷ ended_lines xs else onto_first b (ended_lines xs)))
    [ true ↦ ap (λ (l : List (List ℕ)). [] ∷ l) (ended_more xs ys h) | false ↦ ap (onto_first b) (ended_more xs ys h) ]

open_all : (ys : List ℕ) → NoFeed ys → open_line ys ≡ ys
open_all [] h = refl
open_all (b ∷ ys) h = rw (h.0) (rw (ended_none ys h.1) (ap (λ (l : List ℕ). b ∷ l) (open_all ys h.1)))

onto_more : (b : ℕ) (lines : List (List ℕ)) (text ys : List ℕ) → onto_open b lines (text ++ ys) ≡ onto_open b lines text ++ ys
onto_more b [] text ys = refl
onto_more b (line ∷ lines) text ys = refl

pub open_more : (xs ys : List ℕ) → NoFeed ys → open_line (xs ++ ys) ≡ open_line xs ++ ys
open_more [] ys h = open_all ys h
open_more (b ∷ xs) ys h =
    elim (b == 10) as
    (λ v. (if v then open_line (xs ++ ys) else onto_open b (ended_lines (xs ++ ys)) (open_line (xs ++ ys))) ≡ (if v then open_line xs else onto_open b (ended_lines xs) (open_line xs)) ++ ys)
    [ true ↦ open_more xs ys h | false ↦ rw (ended_more xs ys h, open_more xs ys h) (onto_more b (ended_lines xs) (open_line xs) ys) ]

-- ---- what is told then

pub told_short : (line : List ℕ) → length line ≤ longest_line → told_open line ≡ []
told_short line h = rw (le-leb _ _ h) refl

pub told_long : (line : List ℕ) → longest_line < length line → told_open line ≡ line
told_long line h = rw (lt-leb _ _ h) refl

pub lines_more : (old : Manner) (lines : List (List ℕ)) (line said more : List ℕ) (between new : Manner) → TellsLines old lines said between → TellsLine between line more new
    → TellsLines old (lines ++ line ∷ []) (said ++ more) new
lines_more old [] line said more between new h k =
    let here : TellsLine old line more new = subst (λ (m : Manner). TellsLine m line more new) h.1 k in
    (more, [], new, here, (refl, refl), ap (λ (l : List ℕ). l ++ more) h.0 ∙ sym (append-nil more))
lines_more old (l ∷ lines) line said more between new h k =
    (h.0, h.1 ++ more, h.2, h.3, lines_more h.2 lines line h.1 more between new h.4 k, ap (λ (s : List ℕ). s ++ more) h.5 ∙ append_assoc h.0 h.1 more)

module _ (began : Manner) (octets said : List ℕ) (now : Manner) where
  -- a line that was kept ends
  pub kept_fed : (more : List ℕ) (new : Manner) → TellsOctets began octets said now → length (open_line octets) ≤ longest_line → TellsOneLine now (open_line octets) more new
      → TellsOctets began (octets ++ 10 ∷ []) (said ++ more) new
  kept_fed more new h short tells =
      let before : said ≡ h.lines = h.all ∙ ap (λ (l : List ℕ). h.lines ++ l) (told_short (open_line octets) short) ∙ append-nil h.lines in
      record {
        lines = h.lines ++ more;
        told = subst (λ (ls : List (List ℕ)). TellsLines began ls (h.lines ++ more) new) (sym (ended_fed octets)) (lines_more began (ended_lines octets) (open_line octets) h.lines more now new h.told (inl (short, tells)));
        all = ap (λ (l : List ℕ). l ++ more) before ∙ sym (append-nil (h.lines ++ more)) ∙ ap (λ (l : List ℕ). (h.lines ++ more) ++ told_open l) (sym (open_fed octets));
      }

  -- a line ends that was passed on
  pub passed_fed : TellsOctets began octets said now → longest_line < length (open_line octets) → TellsOctets began (octets ++ 10 ∷ []) (said ++ 10 ∷ []) now
  passed_fed h long =
      let line = open_line octets in
      let before : said ≡ h.lines ++ line = h.all ∙ ap (λ (l : List ℕ). h.lines ++ l) (told_long line long) in
      record {
        lines = h.lines ++ (line ++ 10 ∷ []);
        told = subst (λ (ls : List (List ℕ)). TellsLines began ls (h.lines ++ (line ++ 10 ∷ [])) now) (sym (ended_fed octets)) (lines_more began (ended_lines octets) line h.lines (line ++ 10 ∷ []) now now h.told (inr (long, refl, refl)));
        all = ap (λ (l : List ℕ). l ++ 10 ∷ []) before ∙ append_assoc h.lines line (10 ∷ []) ∙ sym (append-nil (h.lines ++ (line ++ 10 ∷ []))) ∙ ap (λ (l : List ℕ). (h.lines ++ (line ++ 10 ∷ [])) ++ told_open l) (sym (open_fed octets));
      }

  -- what is open grows, by what is told of it
  grown : (ys more : List ℕ) → NoFeed ys → TellsOctets began octets said now → told_open (open_line octets ++ ys) ≡ told_open (open_line octets) ++ more → TellsOctets began (octets ++ ys) (said ++ more) now
  grown ys more h old same = record {
    lines = old.lines;
    told = subst (λ (ls : List (List ℕ)). TellsLines began ls old.lines now) (sym (ended_more octets ys h)) old.told;
    all = ap (λ (l : List ℕ). l ++ more) old.all ∙ append_assoc old.lines (told_open (open_line octets)) more ∙ ap (λ (l : List ℕ). old.lines ++ l) (sym same ∙ ap told_open (sym (open_more octets ys h)));
  }

  -- it is kept
  pub kept_more : (ys : List ℕ) → NoFeed ys → TellsOctets began octets said now → length (open_line octets ++ ys) ≤ longest_line → TellsOctets began (octets ++ ys) said now
  kept_more ys h old short =
      let before : length (open_line octets) ≤ longest_line = let long = length-append (open_line octets) ys in omega arith in
      subst (λ (l : List ℕ). TellsOctets began (octets ++ ys) l now) (append-nil said)
      (grown ys [] h old (told_short (open_line octets ++ ys) short ∙ sym (append-nil _ ∙ told_short (open_line octets) before)))

  -- it becomes too long
  pub passed_on : (ys : List ℕ) → NoFeed ys → TellsOctets began octets said now → length (open_line octets) ≤ longest_line → longest_line < length (open_line octets ++ ys)
      → TellsOctets began (octets ++ ys) (said ++ (open_line octets ++ ys)) now
  passed_on ys h old short long =
      grown ys (open_line octets ++ ys) h old (told_long (open_line octets ++ ys) long ∙ ap (λ (l : List ℕ). l ++ (open_line octets ++ ys)) (sym (told_short (open_line octets) short)))

  -- it was too long before
  pub passed_more : (ys : List ℕ) → NoFeed ys → TellsOctets began octets said now → longest_line < length (open_line octets) → TellsOctets began (octets ++ ys) (said ++ ys) now
  passed_more ys h old long =
      let longer : longest_line < length (open_line octets ++ ys) = let all = length-append (open_line octets) ys in omega arith in
      grown ys ys h old (told_long (open_line octets ++ ys) longer ∙ ap (λ (l : List ℕ). l ++ ys) (sym (told_long (open_line octets) long)))
