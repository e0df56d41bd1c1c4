-- Pieces are appended one after another.
use Rattle.std.proofs.Common.{◌≡◌, ℕ, zero, suc, ◌+◌, ◌<◌, ◌≤◌, List, [], ◌∷◌, ◌++◌, length, take, drop, get_or, Result, Ok, Err, Vec, Global, refl, sym, ap, subst, ◌∙◌, append_assoc, append-nil, arith}
use Rattle.std.specs.declared.alloc.AllocError.{AllocError}
use Rattle.std.specs.Prelude.{IsErrAnd}
use Rattle.gp_decode.specs.Appending.{Appends}
use Rattle.gp_decode.proofs.Appending.{appends_no_first, appends_second}
use Rattle.gp_finding.specs.declared.piece.Piece.{Piece}
use Rattle.gp_finding.specs.Piece.{joined, piece_text, pieces_text}

-- pieces, one after another, with nothing at the end
abbrev pub all_text : List Piece → List ℕ
all_text [] = []
all_text (piece ∷ pieces) = piece_text piece ++ all_text pieces

joined_is : (front : List ℕ) (pieces : List Piece) → joined front pieces ≡ front ++ all_text pieces
joined_is front [] = sym (append-nil front)
joined_is front (piece ∷ pieces) = joined_is (front ++ piece_text piece) pieces ∙ append_assoc front (piece_text piece) (all_text pieces)

pieces_are : (pieces : List Piece) → pieces_text pieces ≡ all_text pieces
pieces_are [] = refl
pieces_are (piece ∷ pieces) = joined_is (piece_text piece) pieces

-- so many of the pieces are appended
abbrev pub Appended : List Piece → ℕ → Vec ℕ Global → Vec ℕ Global → Type 0
Appended pieces count old new = Appends (all_text (take count pieces)) old new (Ok tt)

-- one more of them
taken : (pieces : List Piece) (count : ℕ) (d : Piece) → count < length pieces
    → all_text (take (suc count) pieces) ≡ all_text (take count pieces) ++ piece_text (get_or pieces count d)
taken [] count d within = absurd (omega arith)
taken (first ∷ pieces) zero d within = append-nil (piece_text first)
taken (first ∷ pieces) (suc count) d within =
    ap (λ (t : List ℕ). piece_text first ++ t) (taken pieces count d (omega arith))
    ∙ sym (append_assoc (piece_text first) (all_text (take count pieces)) (piece_text (get_or pieces count d)))

-- and those behind it
left : (pieces : List Piece) (count : ℕ) → all_text pieces ≡ all_text (take count pieces) ++ all_text (drop count pieces)
left [] zero = refl
left [] (suc count) = refl
left (first ∷ pieces) zero = refl
left (first ∷ pieces) (suc count) =
    ap (λ (t : List ℕ). piece_text first ++ t) (left pieces count)
    ∙ sym (append_assoc (piece_text first) (all_text (take count pieces)) (all_text (drop count pieces)))

-- all of them
whole : (pieces : List Piece) (count : ℕ) → length pieces ≤ count → all_text (take count pieces) ≡ all_text pieces
whole [] zero all = refl
whole [] (suc count) all = refl
whole (first ∷ pieces) zero all = absurd (omega arith)
whole (first ∷ pieces) (suc count) all = ap (λ (t : List ℕ). piece_text first ++ t) (whole pieces count (omega arith))

-- one more is appended, or a part of it
more : (pieces : List Piece) (count : ℕ) (d : Piece) (old mid new : Vec ℕ Global) (made : Result Unit AllocError) → count < length pieces
    → Appended pieces count old mid → Appends (piece_text (get_or pieces count d)) mid new made → Appends (all_text (take (suc count) pieces)) old new made
more pieces count d old mid new made within a b =
    appends_second _ (all_text (take count pieces)) (piece_text (get_or pieces count d)) old mid new (Ok tt) made tt (taken pieces count d within) refl a b

pub one_appended : (pieces : List Piece) (count : ℕ) (d : Piece) (old mid new : Vec ℕ Global) (made : Result Unit AllocError) (u : Unit)
    → count < length pieces → made ≡ Ok u → Appended pieces count old mid → Appends (piece_text (get_or pieces count d)) mid new made
    → Appended pieces (count + 1) old new
one_appended pieces count d old mid new made u within was a b =
    let next : suc count ≡ count + 1 = omega arith in
    subst (λ (n : ℕ). Appended pieces n old new) next
    (subst (λ (r : Result Unit AllocError). Appends (all_text (take (suc count) pieces)) old new r) was (more pieces count d old mid new made within a b))

pub no_more : (pieces : List Piece) (count : ℕ) (d : Piece) (old mid new : Vec ℕ Global) (made answer : Result Unit AllocError) (e : AllocError)
    (Q : AllocError → Type 0) → count < length pieces → made ≡ Err e → IsErrAnd answer Q → Appended pieces count old mid
    → Appends (piece_text (get_or pieces count d)) mid new made → Appends (pieces_text pieces) old new answer
no_more pieces count d old mid new made answer e Q within was failed a b =
    appends_no_first _ (all_text (take (suc count) pieces)) (all_text (drop (suc count) pieces)) old new made answer e Q
    (pieces_are pieces ∙ left pieces (suc count)) was failed (more pieces count d old mid new made within a b)

pub all_appended : (pieces : List Piece) (count : ℕ) (old new : Vec ℕ Global) → length pieces ≤ count → Appended pieces count old new
    → Appends (pieces_text pieces) old new (Ok tt)
all_appended pieces count old new all a =
    subst (λ (t : List ℕ). Appends t old new (Ok tt)) (whole pieces count all ∙ sym (pieces_are pieces)) a

-- ---- texts behind one another

-- where a text failed, so did it with more behind it
pub still : (text more : List ℕ) (old new : Vec ℕ Global) (answer : Result Unit AllocError) (Q : AllocError → Type 0) → IsErrAnd answer Q
    → Appends text old new answer → Appends (text ++ more) old new answer
still text more old new (Ok u) Q failed a = absurd failed
still text more old new (Err e) Q failed a = appends_no_first (text ++ more) text more old new (Err e) (Err e) e Q refl refl failed a

-- and a text that failed is answered so
pub fails : (text : List ℕ) (old new : Vec ℕ Global) (made answer : Result Unit AllocError) (e : AllocError) (Q : AllocError → Type 0) → made ≡ Err e
    → IsErrAnd answer Q → Appends text old new made → Appends text old new answer
fails text old new made (Ok u) e Q was failed a = absurd failed
fails text old new made (Err f) e Q was failed a = subst (λ (r : Result Unit AllocError). Appends text old new r) was a
