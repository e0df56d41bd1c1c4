-- What octets make of an part line, one by one, is what the lines of the whole input say.
use Rattle.std.specs.Prelude.{◌==◌, ◌↔◌, if◌then◌else◌, nat_le, map}
use Rattle.std.proofs.Common.{Some, None, subst, length-append, ◌≡◌, ◌≤◌, ◌<◌, ℕ, ◌+◌, Bool, true, false, List, [], ◌∷◌, ◌++◌, refl, sym, ap, ◌∙◌, append_assoc, append-nil, take, length, arith, inl, inr, ◌⊎◌, add-one}
use Rattle.std.proofs.lemmas.Bool.{eqb-true, lt-leb, le-leb}
use Rattle.std.proofs.lemmas.List.{append_cancel_left}
use Rattle.std.proofs.Math.Seq.{take-nil, take-take, take_all, length-take-le, take-append-le}
use Rattle.gp_flow.specs.Lines.{with_feeds, onto_first, ended_lines, onto_line, lines_of, handed}
use Rattle.gp_flow.specs.OpenLine.{kept, fed_lines, fed_text, last_line}

-- ---- octets in two parts

pub fed_lines-append : (limit : ℕ) (text xs ys : List ℕ) → fed_lines limit text (xs ++ ys) ≡ fed_lines limit text xs ++ fed_lines limit (fed_text limit text xs) ys
fed_lines-append limit text [] ys = refl
fed_lines-append limit text (b ∷ xs) ys =
    elim (b == 10) as
    (λ v. (if v then handed limit text ∷ fed_lines limit [] (xs ++ ys) else fed_lines limit (kept limit text b) (xs ++ ys))
    ≡ (if v then handed limit text ∷ fed_lines limit [] xs else fed_lines limit (kept limit text b) xs)
    ++ fed_lines limit (if v then fed_text limit [] xs else fed_text limit (kept limit text b) xs) ys)
    [ true ↦ ap (λ l. handed limit text ∷ l) (fed_lines-append limit [] xs ys) | false ↦ fed_lines-append limit (kept limit text b) xs ys ]

pub fed_text-append : (limit : ℕ) (text xs ys : List ℕ) → fed_text limit text (xs ++ ys) ≡ fed_text limit (fed_text limit text xs) ys
fed_text-append limit text [] ys = refl
fed_text-append limit text (b ∷ xs) ys =
    elim (b == 10) as
    (λ v. (if v then fed_text limit [] (xs ++ ys) else fed_text limit (kept limit text b) (xs ++ ys))
    ≡ fed_text limit (if v then fed_text limit [] xs else fed_text limit (kept limit text b) xs) ys)
    [ true ↦ fed_text-append limit [] xs ys | false ↦ fed_text-append limit (kept limit text b) xs ys ]

-- ---- what is kept of a line tells what is handed on of it

pub le_or_lt : (m n : ℕ) → (m ≤ n) ⊎ (n < m)
le_or_lt m n = grind arith

pub take_of-take : (n : ℕ) (xs ys : List ℕ) → take n (take n xs ++ ys) ≡ take n (xs ++ ys)
take_of-take n xs ys =
    elim (le_or_lt (length xs) n) [
      | inl short ↦ ap (λ l. take n (l ++ ys)) (take_all n xs short)
      | inr long ↦
          let le : n ≤ length xs = omega arith in
          let same : length (take n xs) ≡ n = length-take-le n xs le in
          let enough : n ≤ length (take n xs) = omega arith in
          take-append-le n (take n xs) ys enough ∙ take-take n n xs (omega arith) ∙ sym (take-append-le n xs ys le)
    ]

pub handed-take : (limit : ℕ) (line : List ℕ) → handed limit (take (limit + 1) line) ≡ handed limit line
handed-take limit line =
    elim (le_or_lt (length line) (limit + 1)) [
      | inl short ↦ ap (handed limit) (take_all (limit + 1) line short)
      | inr long ↦
          let le : limit + 1 ≤ length line = omega arith in
          let same : length (take (limit + 1) line) ≡ limit + 1 = length-take-le (limit + 1) line le in
          let first : nat_le (length (take (limit + 1) line)) limit ≡ false = lt-leb _ _ (omega arith) in
          let second : nat_le (length line) limit ≡ false = lt-leb _ _ (omega arith) in
          rw (first, second) refl
    ]

-- ---- no line feed yet

abbrev pub NoFeed : List ℕ → Type 0
NoFeed [] = Unit {0}
NoFeed (b ∷ bytes) = ((b == 10) ≡ false) × NoFeed bytes

NoFeed-more : (part : List ℕ) (b : ℕ) → NoFeed part → (b == 10) ≡ false → NoFeed (part ++ b ∷ [])
NoFeed-more [] b h e = (e, tt)
NoFeed-more (c ∷ part) b h e = (h.0, NoFeed-more part b h.1 e)

ended_open : (part : List ℕ) → NoFeed part → ended_lines part ≡ []
ended_open [] h = refl
ended_open (b ∷ part) h = rw (h.0) (ap (onto_first b) (ended_open part h.1))

ended_at : (part : List ℕ) (b : ℕ) (bytes : List ℕ) → NoFeed part → (b == 10) ≡ true → ended_lines (part ++ b ∷ bytes) ≡ part ∷ ended_lines bytes
ended_at [] b bytes h e = rw e refl
ended_at (c ∷ part) b bytes h e = rw (h.0) (ap (onto_first c) (ended_at part b bytes h.1 e))

lines_at : (part : List ℕ) (b : ℕ) (bytes : List ℕ) → NoFeed part → (b == 10) ≡ true → lines_of (part ++ b ∷ bytes) ≡ part ∷ lines_of bytes
lines_at [] b bytes h e = rw e refl
lines_at (c ∷ part) b bytes h e = rw (h.0) (ap (onto_line c) (lines_at part b bytes h.1 e))

lines_open : (b : ℕ) (part : List ℕ) → NoFeed (b ∷ part) → lines_of (b ∷ part) ≡ (b ∷ part) ∷ []
lines_open b [] h = rw (h.0) refl
lines_open b (c ∷ part) h = rw (h.0) (ap (onto_line b) (lines_open c part h.1))

last_open : (limit : ℕ) (part : List ℕ) → NoFeed part → last_line limit (take (limit + 1) part) ≡ map (handed limit) (lines_of part)
last_open limit [] h = rw (take-nil (limit + 1)) refl
last_open limit (b ∷ part) h =
    let cut : take (limit + 1) (b ∷ part) ≡ b ∷ take limit part = rw add-one refl in
    rw (cut, lines_open b part h) (ap (λ v. v ∷ []) (rw cut at (handed-take limit (b ∷ part))))

-- ---- the whole input

kept_more : (limit : ℕ) (part : List ℕ) (b : ℕ) → kept limit (take (limit + 1) part) b ≡ take (limit + 1) (part ++ b ∷ [])
kept_more limit part b = take_of-take (limit + 1) part (b ∷ [])

nothing_kept : (limit : ℕ) (bytes : List ℕ) → fed_lines limit (take (limit + 1) []) bytes ≡ fed_lines limit [] bytes
nothing_kept limit bytes = ap (λ t. fed_lines limit t bytes) (take-nil (limit + 1))

pub true_or_false : (v : Bool) → (v ≡ true) ⊎ (v ≡ false)
true_or_false true = inl refl
true_or_false false = inr refl

fed_ended_from : (limit : ℕ) (part bytes : List ℕ) → NoFeed part → fed_lines limit (take (limit + 1) part) bytes ≡ map (handed limit) (ended_lines (part ++ bytes))
fed_ended_from limit part [] h = rw (append-nil part, ended_open part h) refl
fed_ended_from limit part (b ∷ bytes) h =
    let rest = fed_ended_from limit [] bytes tt in
    elim (true_or_false (b == 10)) [
      | inl e ↦ rw (e, ended_at part b bytes h e) (ap (λ v. v ∷ fed_lines limit [] bytes) (handed-take limit part)
          ∙ ap (λ l. handed limit part ∷ l) (sym (nothing_kept limit bytes) ∙ rest))
      | inr e ↦ rw (e, kept_more limit part b) (fed_ended_from limit (part ++ b ∷ []) bytes (NoFeed-more part b h e)
          ∙ ap (λ l. map (handed limit) (ended_lines l)) (append_assoc part (b ∷ []) bytes))
    ]

-- the lines that end while the whole input comes are those that a line feed ends
pub fed_ended : (limit : ℕ) (bytes : List ℕ) → fed_lines limit [] bytes ≡ map (handed limit) (ended_lines bytes)
fed_ended limit bytes = sym (nothing_kept limit bytes) ∙ fed_ended_from limit [] bytes tt

fed_all_from : (limit : ℕ) (part bytes : List ℕ) → NoFeed part
    → fed_lines limit (take (limit + 1) part) bytes ++ last_line limit (fed_text limit (take (limit + 1) part) bytes) ≡ map (handed limit) (lines_of (part ++ bytes))
fed_all_from limit part [] h = rw (append-nil part) (last_open limit part h)
fed_all_from limit part (b ∷ bytes) h =
    let rest = rw (take-nil (limit + 1)) at (fed_all_from limit [] bytes tt) in
    elim (true_or_false (b == 10)) [
      | inl e ↦ rw (e, lines_at part b bytes h e) (ap (λ v. v ∷ (fed_lines limit [] bytes ++ last_line limit (fed_text limit [] bytes))) (handed-take limit part)
          ∙ ap (λ l. handed limit part ∷ l) rest)
      | inr e ↦ rw (e, kept_more limit part b) (fed_all_from limit (part ++ b ∷ []) bytes (NoFeed-more part b h e)
          ∙ ap (λ l. map (handed limit) (lines_of l)) (append_assoc part (b ∷ []) bytes))
    ]

-- with what is open behind them, they are all lines
pub fed_all : (limit : ℕ) (bytes : List ℕ) → fed_lines limit [] bytes ++ last_line limit (fed_text limit [] bytes) ≡ map (handed limit) (lines_of bytes)
fed_all limit bytes = rw (take-nil (limit + 1)) at (fed_all_from limit [] bytes tt)

-- ---- whether a line feed comes last

too_long : (xs : List ℕ) → xs ≡ (xs ++ 10 ∷ []) ++ [] → ⊥
too_long xs e =
    let longer : length xs ≡ length xs + 1 = ap length e ∙ ap length (append-nil (xs ++ 10 ∷ [])) ∙ length-append xs (10 ∷ []) in
    omega arith

feed_more : (part : List ℕ) (b : ℕ) (bytes fed : List ℕ) → b ≡ 10 → bytes ≡ fed → part ++ b ∷ bytes ≡ (part ++ 10 ∷ []) ++ fed
feed_more part b bytes fed ten same = ap (λ (l : List ℕ). part ++ b ∷ l) same ∙ ap (λ (c : ℕ). part ++ c ∷ fed) ten ∙ sym (append_assoc part (10 ∷ []) fed)

rest_of : (a b : ℕ) (xs ys : List ℕ) → a ∷ xs ≡ b ∷ ys → xs ≡ ys
rest_of a b xs ys h = cc

feed_less : (part : List ℕ) (b : ℕ) (bytes fed : List ℕ) → part ++ b ∷ bytes ≡ (part ++ 10 ∷ []) ++ fed → bytes ≡ fed
feed_less part b bytes fed e = rest_of b 10 bytes fed (append_cancel_left part (b ∷ bytes) (10 ∷ fed) (e ∙ append_assoc part (10 ∷ []) fed))

no_first : (b : ℕ) (xs ys : List ℕ) → xs ≡ b ∷ ys → xs ≡ [] → ⊥
no_first b xs ys e none = cc

whole_open : (limit : ℕ) (part : List ℕ) → NoFeed part → (take (limit + 1) part ≡ []) ↔ (part ≡ with_feeds (lines_of part))
whole_open limit [] h = (λ e. refl, λ e. take-nil (limit + 1))
whole_open limit (b ∷ part) h =
    let cut : take (limit + 1) (b ∷ part) ≡ b ∷ take limit part = rw add-one refl in
    (λ e. absurd (no_first b _ _ cut e), λ e. absurd (too_long (b ∷ part) (e ∙ ap with_feeds (lines_open b part h))))

whole_from : (limit : ℕ) (part bytes : List ℕ) → NoFeed part
    → (fed_text limit (take (limit + 1) part) bytes ≡ []) ↔ (part ++ bytes ≡ with_feeds (lines_of (part ++ bytes)))
whole_from limit part [] h = rw (append-nil part) (whole_open limit part h)
whole_from limit part (b ∷ bytes) h =
    elim (true_or_false (b == 10)) [
      | inl e ↦
          let rest = rw (take-nil (limit + 1)) at (whole_from limit [] bytes tt) in
          let ten : b ≡ 10 = eqb-true b 10 e in
          rw (e, lines_at part b bytes h e)
          (λ t. feed_more part b bytes (with_feeds (lines_of bytes)) ten (rest.0 t), λ t. rest.1 (feed_less part b bytes (with_feeds (lines_of bytes)) t))
      | inr e ↦ rw (e, kept_more limit part b)
          (subst (λ (l : List ℕ). (fed_text limit (take (limit + 1) (part ++ b ∷ [])) bytes ≡ []) ↔ (l ≡ with_feeds (lines_of l))) (append_assoc part (b ∷ []) bytes)
          (whole_from limit (part ++ b ∷ []) bytes (NoFeed-more part b h e)))
    ]

-- nothing is open behind the input where it is its lines with a line feed behind each, and only there
pub fed_whole : (limit : ℕ) (bytes : List ℕ) → (fed_text limit [] bytes ≡ []) ↔ (bytes ≡ with_feeds (lines_of bytes))
fed_whole limit bytes = rw (take-nil (limit + 1)) at (whole_from limit [] bytes tt)

-- ---- texts without line feeds

-- no line feed in any of them
abbrev pub NoFeeds : List (List ℕ) → Type 0
NoFeeds [] = Unit {0}
NoFeeds (text ∷ texts) = NoFeed text × NoFeeds texts

-- with a line feed behind each they are the lines of an input
pub lines_fed : (texts : List (List ℕ)) → NoFeeds texts → lines_of (with_feeds texts) ≡ texts
lines_fed [] h = refl
lines_fed (text ∷ texts) h =
    ap lines_of (append_assoc text (10 ∷ []) (with_feeds texts)) ∙ lines_at text 10 (with_feeds texts) h.0 refl ∙ ap (λ (l : List (List ℕ)). text ∷ l) (lines_fed texts h.1)

-- what more bytes make of lines
onto_more : (b : ℕ) (ended others : List (List ℕ)) → (rest : List (List ℕ)) × (onto_line b (ended ++ others) ≡ onto_first b ended ++ rest)
onto_more b [] others = (onto_line b others, refl)
onto_more b (line ∷ lines) others = (others, refl)

-- the lines that a line feed ended stand first, whatever comes behind
pub ended_first : (bytes more : List ℕ) → (rest : List (List ℕ)) × (lines_of (bytes ++ more) ≡ ended_lines bytes ++ rest)
ended_first [] more = (lines_of more, refl)
ended_first (b ∷ bytes) more =
    let behind = ended_first bytes more in
    elim (true_or_false (b == 10)) [
      | inl e ↦ (behind.0, rw e (ap (λ (l : List (List ℕ)). [] ∷ l) behind.1))
      | inr e ↦
          let onto = onto_more b (ended_lines bytes) behind.0 in
          (onto.0, rw e (ap (onto_line b) behind.1 ∙ onto.1))
    ]

-- ---- what is handed on

pub handed_whole : (limit : ℕ) (line text : List ℕ) → handed limit line ≡ Some text → line ≡ text
handed_whole limit line text h = by (nat_le (length line) limit) h
  where
    by : (v : Bool) → (if v then Some line else None) ≡ Some text → line ≡ text
    by true e = cc
    by false e = cc

pub handed_none : (limit : ℕ) (line : List ℕ) → handed limit line ≡ None → limit < length line
handed_none limit line h =
    elim (le_or_lt (length line) limit) [
      | inl short ↦ absurd (let some : handed limit line ≡ Some line = rw (le-leb (length line) limit short) refl in cc)
      | inr long ↦ long
    ]
