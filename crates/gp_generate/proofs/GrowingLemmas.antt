-- Texts that grow by a piece at a time, and how a sink takes them.
use Rattle.std.proofs.Common.{◌≡◌, ℕ, zero, suc, ◌+◌, ◌-◌, ◌≤◌, List, [], ◌++◌, sym, subst, ap, ◌∙◌, append_assoc, add-one, arith}
use Rattle.std.proofs.lemmas.List.{append-nil}
use Rattle.gp_stream.specs.Sink.{SinkState, Takes, TakesPrefix}
use Rattle.gp_stream.proofs.SinkLemmas.{takes_nothing, takes_prefix_of, takes_prefix_more, takes_more, takes_prefix_after}

-- one piece more
pub more : (text piece : ℕ → List ℕ) (n : ℕ) (first mid new : List ℕ) → text (suc n) ≡ text n ++ piece n → mid ≡ first ++ text n
    → new ≡ mid ++ piece n → new ≡ first ++ text (n + 1)
more text piece n first mid new step one other =
    let next : text (n + 1) ≡ text n ++ piece n = ap text (add-one n) ∙ step in
    other ∙ ap (λ (l : List ℕ). l ++ piece n) one ∙ append_assoc first (text n) (piece n)
    ∙ ap (λ (l : List ℕ). first ++ l) (sym next)

-- so many pieces more
pub grows_by : (text piece : ℕ → List ℕ) → ((k : ℕ) → text (suc k) ≡ text k ++ piece k) → (n d : ℕ)
    → (rest : List ℕ) × (text (n + d) ≡ text n ++ rest)
grows_by text piece step n zero = ([], ap text (let e : n + 0 ≡ n = omega arith in e) ∙ sym (append-nil (text n)))
grows_by text piece step n (suc d) =
    let before = grows_by text piece step n d in
    let next : n + suc d ≡ suc (n + d) = omega arith in (
      before.0 ++ piece (n + d),
      ap text next ∙ step (n + d) ∙ ap (λ (l : List ℕ). l ++ piece (n + d)) before.1
          ∙ append_assoc (text n) before.0 (piece (n + d)),
    )

-- what stands behind the first pieces
pub grows : (text piece : ℕ → List ℕ) → ((k : ℕ) → text (suc k) ≡ text k ++ piece k) → (n m : ℕ) → n ≤ m
    → (rest : List ℕ) × (text m ≡ text n ++ rest)
grows text piece step n m most =
    let whole : n + (m - n) ≡ m = omega (arith, most) in
    let found = grows_by text piece step n (m - n) in
    (found.0, ap text (sym whole) ∙ found.1)

-- nothing was handed over
pub none_taken : {W : Type 0} (a : SinkState W) (bytes : List ℕ) → TakesPrefix a a bytes
none_taken a bytes = takes_prefix_more a a [] bytes (takes_prefix_of a a [] (takes_nothing a))

-- one piece more is handed over
pub takes_piece : {W : Type 0} (text piece : ℕ → List ℕ) (n : ℕ) (a b c : SinkState W) → text (suc n) ≡ text n ++ piece n
    → Takes a b (text n) → Takes b c (piece n) → Takes a c (text (n + 1))
takes_piece text piece n a b c step p q =
    let next : text (n + 1) ≡ text n ++ piece n = ap text (add-one n) ∙ step in
    subst (λ (l : List ℕ). Takes a c l) (sym next) (takes_more a b c (text n) (piece n) p q)

-- a piece is not
pub breaks_piece : {W : Type 0} (text piece : ℕ → List ℕ) → ((k : ℕ) → text (suc k) ≡ text k ++ piece k) → (n m : ℕ) (a b c : SinkState W)
    → suc n ≤ m → Takes a b (text n) → TakesPrefix b c (piece n) → TakesPrefix a c (text m)
breaks_piece text piece step n m a b c near p q =
    let whole = grows text piece step (suc n) m near in
    let some : TakesPrefix a c (text n ++ piece n) = takes_prefix_after a b c (text n) (piece n) p q in
    let these : TakesPrefix a c (text (suc n)) = subst (λ (l : List ℕ). TakesPrefix a c l) (sym (step n)) some in
    subst (λ (l : List ℕ). TakesPrefix a c l) (sym whole.1) (takes_prefix_more a c (text (suc n)) whole.0 these)
