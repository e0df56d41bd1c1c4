-- A piece of the input, line by line.
use Rattle.std.proofs.Common.{◌≡◌, ◌≤◌, ◌<◌, ℕ, zero, suc, ◌+◌, ◌-◌, min, ◌==◌, inl, inr, List, [], ◌∷◌, ◌++◌, None, Some, Ok, Err, refl, sym, ap, ◌∙◌, subst, arith, append_assoc, append-nil, take, drop, take-append-drop, drop-cons, length, length-drop, get_or, add-one}
use Rattle.std.proofs.Math.Seq.{take_all}
use Rattle.std.proofs.lemmas.Bool.{eqb-true}
use Rattle.std.proofs.lemmas.List.{length-take, take_rest}
use Rattle.memchr.specs.Find.{IsFirstByte, Passes, is_byte}
use Rattle.gp_flow.specs.declared.fault.Unanswered.{Unanswered}
use Rattle.gp_stream.specs.Sink.{SinkState}
use Rattle.gp_flow.specs.Lines.{Speech, AnswersAll, handed}
use Rattle.gp_flow.specs.OpenLine.{OpenLine, kept, kept_all, fed_lines, fed_text}
use Rattle.gp_flow.proofs.LineLemmas.{NoFeed, fed_lines-append, fed_text-append, handed-take, take_of-take, true_or_false, le_or_lt}
use Rattle.gp_flow.proofs.AnswerLemmas.{answers_none, answers_more, answers_stopped}

-- ---- octets are kept while there is room

kept_from : (most : ℕ) (text octets : List ℕ) → length text ≤ most → text ++ take (most - length text) octets ≡ take most (text ++ octets)
kept_from most [] octets short =
    let all : most - 0 ≡ most = omega arith in
    ap (λ n. take n octets) all
kept_from zero (b ∷ text) octets short = absurd (omega arith)
kept_from (suc most) (b ∷ text) octets short =
    let fewer : suc most - suc (length text) ≡ most - length text = omega arith in
    ap (λ l. b ∷ l) (ap (λ n. text ++ take n octets) fewer ∙ kept_from most text octets (omega arith))

pub kept_room : (limit : ℕ) (text octets : List ℕ) (count : ℕ) → count ≡ min (length octets) (limit + 1 - length text) → length text ≤ limit + 1
    → text ++ take count octets ≡ kept_all limit text octets
kept_room limit text octets count least short =
    let same : take count octets ≡ take (limit + 1 - length text) octets =
    elim (le_or_lt (length octets) (limit + 1 - length text)) [
      | inl few ↦
          let fits : length octets ≤ count = omega arith in
          take_all count octets fits ∙ sym (take_all (limit + 1 - length text) octets few)
      | inr many ↦
          let full : count ≡ limit + 1 - length text = omega arith in
          ap (λ n. take n octets) full
    ] in
    ap (λ l. text ++ l) same ∙ kept_from (limit + 1) text octets short

-- ---- octets without a line feed

no_feed_until : (xs : List ℕ) (k : ℕ) → ((j : ℕ) → j < k → Passes (is_byte 10) xs j → ⊥) → NoFeed (take k xs)
no_feed_until xs zero h = tt
no_feed_until [] (suc k) h = tt
no_feed_until (b ∷ xs) (suc k) h = (
  elim (true_or_false (b == 10)) [ inl e ↦ absurd (h 0 (omega arith) e) | inr e ↦ e ],
  no_feed_until xs k (λ j lt. h (suc j) (omega arith)),
)

-- no line feed was found
pub none_found : (xs : List ℕ) → IsFirstByte (is_byte 10) xs None → NoFeed xs
none_found xs h =
    subst NoFeed (take_all (length xs) xs (omega arith)) (no_feed_until xs (length xs) (λ j lt. h j (omega arith) lt))

-- one was found, before which there is none
pub found_behind : (xs : List ℕ) (k : ℕ) → IsFirstByte (is_byte 10) xs (Some k) → NoFeed (take k xs)
found_behind xs k h = no_feed_until xs k (λ j lt. h.0.before j (omega arith) lt)

pub found_at : (xs : List ℕ) (k : ℕ) → IsFirstByte (is_byte 10) xs (Some k) → take k xs ++ 10 ∷ drop (k + 1) xs ≡ xs
found_at xs k h =
    let within : k < length xs = h.0.high in
    let ten : get_or xs k 0 ≡ 10 = eqb-true (get_or xs k 0) 10 h.1 in
    let behind : drop k xs ≡ 10 ∷ drop (k + 1) xs = rw add-one (drop-cons xs k 0 within ∙ ap (λ b. b ∷ drop (suc k) xs) ten) in
    ap (λ l. take k xs ++ l) (sym behind) ∙ take-append-drop k xs

-- they end no line
pub open_lines : (limit : ℕ) (text xs : List ℕ) → NoFeed xs → fed_lines limit text xs ≡ []
open_lines limit text [] h = refl
open_lines limit text (b ∷ xs) h = rw (h.0) (open_lines limit (kept limit text b) xs h.1)

-- and are kept at once
pub open_text : (limit : ℕ) (text xs : List ℕ) → NoFeed xs → length text ≤ limit + 1 → fed_text limit text xs ≡ kept_all limit text xs
open_text limit text [] h short = sym (ap (take (limit + 1)) (append-nil text) ∙ take_all (limit + 1) text short)
open_text limit text (b ∷ xs) h short =
    let few : length (kept limit text b) ≤ limit + 1 = omega (arith, length-take (limit + 1) (text ++ b ∷ [])) in
    rw (h.0) (open_text limit (kept limit text b) xs h.1 few ∙ take_of-take (limit + 1) (text ++ b ∷ []) xs
    ∙ ap (take (limit + 1)) (append_assoc text (b ∷ []) xs))

-- the line that they end is handed on whole
open_handed : (limit : ℕ) (text xs : List ℕ) → NoFeed xs → handed limit (fed_text limit text xs) ≡ handed limit (text ++ xs)
open_handed limit text [] h = ap (handed limit) (sym (append-nil text))
open_handed limit text (b ∷ xs) h =
    rw (h.0) (open_handed limit (kept limit text b) xs h.1
    ∙ sym (handed-take limit (kept limit text b ++ xs))
    ∙ ap (handed limit) (take_of-take (limit + 1) (text ++ b ∷ []) xs)
    ∙ handed-take limit ((text ++ b ∷ []) ++ xs)
    ∙ ap (handed limit) (append_assoc text (b ∷ []) xs))

-- ---- a line feed behind them

feed_lines : (limit : ℕ) (text xs ys : List ℕ) → NoFeed xs → fed_lines limit text (xs ++ 10 ∷ ys) ≡ handed limit (text ++ xs) ∷ fed_lines limit [] ys
feed_lines limit text xs ys h =
    fed_lines-append limit text xs (10 ∷ ys)
    ∙ ap (λ l. l ++ handed limit (fed_text limit text xs) ∷ fed_lines limit [] ys) (open_lines limit text xs h)
    ∙ ap (λ l. l ∷ fed_lines limit [] ys) (open_handed limit text xs h)

feed_text : (limit : ℕ) (text xs ys : List ℕ) → fed_text limit text (xs ++ 10 ∷ ys) ≡ fed_text limit [] ys
feed_text limit text xs ys = fed_text-append limit text xs (10 ∷ ys)

-- ---- a piece of which the first octets were taken in

-- from this line, so many octets of the piece were taken in, and the others are left
pub record TookIn {S W : Type 0} (does : Speech S) (first now : OpenLine) (piece rest : List ℕ) (old new : S) (before after : SinkState W) : Type 0 where
  pub taken : List ℕ
  pub all : taken ++ rest ≡ piece
  pub answers : AnswersAll {T = Unit {0}} does (fed_lines first.limit first.text taken) old new before after (Ok tt)
  pub next : now ≡ record { text = fed_text first.limit first.text taken; limit = first.limit }

pub took_none : {S W : Type 0} (does : Speech S) (line : OpenLine) (piece : List ℕ) (old : S) (before : SinkState W) → TookIn does line line piece piece old old before before
took_none does line piece old before = record { taken = []; all = refl; answers = answers_none does old before tt; next = refl }

module _ {S W : Type 0} (does : Speech S) (first now : OpenLine) (piece rest : List ℕ) (old mid new : S) (before between after : SinkState W)
    (took : TookIn does first now piece rest old mid before between) where
  line_more : (k : ℕ) → IsFirstByte (is_byte 10) rest (Some k)
      → fed_lines first.limit first.text (took.taken ++ (take k rest ++ 10 ∷ [])) ≡ fed_lines first.limit first.text took.taken ++ handed now.limit (now.text ++ take k rest) ∷ []
  line_more k found =
      let ended = feed_lines first.limit (fed_text first.limit first.text took.taken) (take k rest) [] (found_behind rest k found) in
      fed_lines-append first.limit first.text took.taken (take k rest ++ 10 ∷ [])
      ∙ ap (λ l. fed_lines first.limit first.text took.taken ++ l) ended
      ∙ ap (λ (l : OpenLine). fed_lines first.limit first.text took.taken ++ handed l.limit (l.text ++ take k rest) ∷ []) (sym took.next)

  piece_more : (k : ℕ) → IsFirstByte (is_byte 10) rest (Some k) → (took.taken ++ (take k rest ++ 10 ∷ [])) ++ drop (k + 1) rest ≡ piece
  piece_more k found =
      append_assoc took.taken (take k rest ++ 10 ∷ []) (drop (k + 1) rest)
      ∙ ap (λ l. took.taken ++ l) (append_assoc (take k rest) (10 ∷ []) (drop (k + 1) rest) ∙ found_at rest k found)
      ∙ took.all

  -- a line more
  pub took_line : (k : ℕ) (end : OpenLine) (left : List ℕ) → IsFirstByte (is_byte 10) rest (Some k)
      → AnswersAll {T = Unit {0}} does (handed now.limit (now.text ++ take k rest) ∷ []) mid new between after (Ok tt)
      → end ≡ record { text = []; limit = now.limit }
      → left ≡ drop (k + 1) rest
      → TookIn does first end piece left old new before after
  took_line k end left found answered ended behind = record {
    taken = took.taken ++ (take k rest ++ 10 ∷ []);
    all = ap (λ l. (took.taken ++ (take k rest ++ 10 ∷ [])) ++ l) behind ∙ piece_more k found;
    answers = rw (line_more k found) (answers_more does _ _ old mid new before between after tt (Ok tt) took.answers answered);
    next =
        let same : now.limit ≡ first.limit = ap (λ (l : OpenLine). l.limit) took.next in
        let none : fed_text first.limit first.text (took.taken ++ (take k rest ++ 10 ∷ [])) ≡ [] =
        fed_text-append first.limit first.text took.taken (take k rest ++ 10 ∷ []) ∙ feed_text first.limit (fed_text first.limit first.text took.taken) (take k rest) [] in
        rw none (ended ∙ ap (λ (n : ℕ). record { text = []; limit = n }) same);
  }

  -- a fault at a line
  pub stops_at : {T U : Type 0} (k : ℕ) (e : Unanswered) (other : S) → IsFirstByte (is_byte 10) rest (Some k)
      → AnswersAll {T = T} does (handed now.limit (now.text ++ take k rest) ∷ []) mid new between after (Err e)
      → AnswersAll {T = U} does (fed_lines first.limit first.text piece) old other before after (Err e)
  stops_at {T = T} k e other found answered =
      let begun = answers_more {U = T} does _ _ old mid new before between after tt (Err e) took.answers answered in
      let lines = sym (line_more k found) in
      let parts = ap (fed_lines first.limit first.text) (sym (piece_more k found)) ∙ fed_lines-append first.limit first.text (took.taken ++ (take k rest ++ 10 ∷ [])) (drop (k + 1) rest) in
      rw parts (answers_stopped does _ _ old new other before after e (rw lines at begun))

module _ {S W : Type 0} (does : Speech S) (first now : OpenLine) (piece rest : List ℕ) (old mid : S) (before between : SinkState W)
    (took : TookIn does first now piece rest old mid before between) where
  -- no line ends in what is left
  pub took_lines : IsFirstByte (is_byte 10) rest None → fed_lines first.limit first.text piece ≡ fed_lines first.limit first.text took.taken
  took_lines none =
      ap (fed_lines first.limit first.text) (sym took.all) ∙ fed_lines-append first.limit first.text took.taken rest
      ∙ ap (λ l. fed_lines first.limit first.text took.taken ++ l) (open_lines first.limit (fed_text first.limit first.text took.taken) rest (none_found rest none))
      ∙ append-nil (fed_lines first.limit first.text took.taken)

  -- it is kept
  pub took_all : (end : OpenLine) → IsFirstByte (is_byte 10) rest None → length now.text ≤ now.limit + 1
      → end ≡ record { text = kept_all now.limit now.text rest; limit = now.limit }
      → end ≡ record { text = fed_text first.limit first.text piece; limit = first.limit }
  took_all end none short kept =
      let text : fed_text first.limit first.text piece ≡ fed_text first.limit (fed_text first.limit first.text took.taken) rest =
      ap (fed_text first.limit first.text) (sym took.all) ∙ fed_text-append first.limit first.text took.taken rest in
      let first_text : fed_text first.limit first.text took.taken ≡ now.text = sym (ap (λ (l : OpenLine). l.text) took.next) in
      let same : now.limit ≡ first.limit = ap (λ (l : OpenLine). l.limit) took.next in
      let whole = open_text now.limit now.text rest (none_found rest none) short in
      kept ∙ sym (ap (λ (l : List ℕ). record { text = l; limit = now.limit }) whole)
      ∙ ap (λ (n : ℕ). record { text = fed_text n now.text rest; limit = n }) same
      ∙ ap (λ (l : List ℕ). record { text = fed_text first.limit l rest; limit = first.limit }) (sym first_text)
      ∙ ap (λ (l : List ℕ). record { text = l; limit = first.limit }) (sym text)

-- ---- the next turn of the loop

pub rest_shorter : (rest : List ℕ) (k : ℕ) → IsFirstByte (is_byte 10) rest (Some k) → length (take (length rest - (k + 1)) (drop (k + 1) rest)) < length rest
rest_shorter rest k found =
    let within : k < length rest = found.0.high in
    let left : length (drop (k + 1) rest) ≡ length rest - (k + 1) = length-drop (k + 1) rest in
    rw take_rest (omega arith)
