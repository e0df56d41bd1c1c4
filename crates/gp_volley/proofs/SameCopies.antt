-- Volleys kept as plain data: the same copies are of the same volleys.
use Rattle.std.proofs.Common.{◌≡◌, ℕ, zero, suc, ◌+◌, ◌<◌, ◌≤◌, List, [], ◌∷◌, ◌++◌, map, length, replicate, take, inl, inr, refl, sym, ap, ◌∙◌, arith, get_or}
use Rattle.std.proofs.lemmas.Bool.{cases_lt}
use Rattle.std.proofs.Math.Seq.{take-suc}
use Rattle.std.proofs.lemmas.List.{ext_get_or, get_or-map}
use Rattle.std.proofs.lemmas.Option.{get_or_from_slice_get, slice_get_read}
use Rattle.gp_ploam.specs.declared.message.Down.{Down}
use Rattle.gp_ploam.specs.declared.message.Down.TheVariants.{NoMessage}
use Rattle.gp_volley.specs.Volley.{VolleyState}
use Rattle.gp_volley.specs.Queue.{AreWhole, IsInOrder, copies_of}
use Rattle.gp_volley.specs.Images.{volley_in}
use Rattle.gp_volley.specs.declared.owed_image.VolleyImage.{VolleyImage}
use Rattle.gp_volley.proofs.Copies.{length-copies}

-- a volley of nothing
abbrev pub no_volley : VolleyState
no_volley = record { message = NoMessage; left = 0 }

first_copy : (m n : Down) (xs ys : List Down) → m ∷ xs ≡ n ∷ ys → m ≡ n
first_copy m n xs ys e = cc

other_copies : (m n : Down) (xs ys : List Down) → m ∷ xs ≡ n ∷ ys → xs ≡ ys
other_copies m n xs ys e = cc

message_is : (n : ℕ) (a b : Down) (xs ys : List Down) → 1 ≤ n → replicate n a ++ xs ≡ replicate n b ++ ys → a ≡ b
message_is zero a b xs ys some e = absurd (omega arith)
message_is (suc n) a b xs ys some e = first_copy a b (replicate n a ++ xs) (replicate n b ++ ys) e

later_are : (n : ℕ) (a b : Down) (xs ys : List Down) → replicate n a ++ xs ≡ replicate n b ++ ys → xs ≡ ys
later_are zero a b xs ys e = e
later_are (suc n) a b xs ys e = later_are n a b xs ys (other_copies a b (replicate n a ++ xs) (replicate n b ++ ys) e)

whole_in_order : (vs : List VolleyState) → AreWhole vs → IsInOrder vs
whole_in_order [] h = tt
whole_in_order (v ∷ vs) h = let three : v.left ≡ 3 = h.0 in (omega arith, omega arith, h.1)

pub same_volleys : (vs ws : List VolleyState) → IsInOrder vs → IsInOrder ws → copies_of vs ≡ copies_of ws → vs ≡ ws
same_volleys [] [] h k e = refl
same_volleys [] (w ∷ ws) h k e =
    let counted : 0 ≡ length (copies_of (w ∷ ws)) = ap length e in
    let some : 1 ≤ w.left = k.0 in
    absurd (omega (arith, counted, some, length-copies w ws k.2))
same_volleys (v ∷ vs) [] h k e =
    let counted : length (copies_of (v ∷ vs)) ≡ 0 = ap length e in
    let some : 1 ≤ v.left = h.0 in
    absurd (omega (arith, counted, some, length-copies v vs h.2))
same_volleys (v ∷ vs) (w ∷ ws) h k e =
    let counted : length (copies_of (v ∷ vs)) ≡ length (copies_of (w ∷ ws)) = ap length e in
    let some : 1 ≤ v.left = h.0 in
    let most : v.left ≤ 3 = h.1 in
    let its_some : 1 ≤ w.left = k.0 in
    let its_most : w.left ≤ 3 = k.1 in
    let left : v.left ≡ w.left = omega (arith, counted, some, most, its_some, its_most, length-copies v vs h.2, length-copies w ws k.2) in
    let lined : replicate v.left v.message ++ copies_of vs ≡ replicate v.left w.message ++ copies_of ws =
    e ∙ ap (λ (n : ℕ). replicate n w.message ++ copies_of ws) (sym left) in
    let message : v.message ≡ w.message = message_is v.left v.message w.message (copies_of vs) (copies_of ws) some lined in
    let rest : vs ≡ ws = same_volleys vs ws (whole_in_order vs h.2) (whole_in_order ws k.2) (later_are v.left v.message w.message (copies_of vs) (copies_of ws) lined) in
    λ i. record { message = message i; left = left i } ∷ rest i

-- ---- place by place

-- up to a place both lists have the same
abbrev pub AreSameTo : {A : Type 0} → A → ℕ → List A → List A → Type 0
AreSameTo d n xs ys = (j : ℕ) → j < n → get_or xs j d ≡ get_or ys j d

pub one_more : {A : Type 0} (d : A) (n : ℕ) (xs ys : List A) → AreSameTo d n xs ys → get_or xs n d ≡ get_or ys n d → AreSameTo d (n + 1) xs ys
one_more d n xs ys same this j below = elim (cases_lt j n) [
  | inl before ↦ same j before
  | inr after ↦ let here : j ≡ n = omega arith in ap (λ k. get_or xs k d) here ∙ this ∙ ap (λ k. get_or ys k d) (sym here)
]

-- lists of volleys of one length that are the same place by place have the same copies
pub copies_same : (xs ys : List VolleyState) (n : ℕ) → length xs ≡ length ys → length xs ≤ n → AreSameTo no_volley n xs ys → copies_of xs ≡ copies_of ys
copies_same xs ys n long all same = ap copies_of (ext_get_or no_volley xs ys long (λ j below. same j (omega arith)))

-- and others have not
pub copies_differ : (xs ys : List VolleyState) (i : ℕ) → IsInOrder xs → IsInOrder ys → (get_or xs i no_volley ≡ get_or ys i no_volley → ⊥) → copies_of xs ≡ copies_of ys → ⊥
copies_differ xs ys i h k differ same = differ (ap (λ vs. get_or vs i no_volley) (same_volleys xs ys h k same))

pub lengths_differ : (xs ys : List VolleyState) → IsInOrder xs → IsInOrder ys → (length xs ≡ length ys → ⊥) → copies_of xs ≡ copies_of ys → ⊥
lengths_differ xs ys h k differ same = differ (ap length (same_volleys xs ys h k same))

-- images are the same where their volleys are
pub same_image : (x y : VolleyImage) → volley_in x ≡ volley_in y → x ≡ y
same_image x y e = λ i. record { message = (e i).message; left = (e i).left }

-- the volley of the image at a place
pub volley_at : (xs : List VolleyImage) (i : ℕ) (x : VolleyImage) → i < length xs → x ≡ get_or xs i x → get_or (map volley_in xs) i no_volley ≡ volley_in x
volley_at xs i x below is = get_or-map volley_in xs i x no_volley below ∙ ap volley_in (sym is)

-- a place further
pub further : (xs : List VolleyState) (i : ℕ) → i < length xs → take (i + 1) xs ≡ take i xs ++ get_or xs i no_volley ∷ []
further xs i within = let next : i + 1 ≡ suc i = omega arith in ap (λ k. take k xs) next ∙ take-suc xs i no_volley within

whole_bounds : (vs : List VolleyState) (i : ℕ) → AreWhole vs → i < length vs → (get_or vs i no_volley).left ≡ 3
whole_bounds [] i h below = absurd (omega arith)
whole_bounds (v ∷ vs) zero h below = h.0
whole_bounds (v ∷ vs) (suc i) h below = whole_bounds vs i h.1 (omega arith)

-- a volley has one to three copies left
pub bounds : (vs : List VolleyState) (i : ℕ) → IsInOrder vs → i < length vs → (1 ≤ (get_or vs i no_volley).left) × ((get_or vs i no_volley).left ≤ 3)
bounds [] i h below = absurd (omega arith)
bounds (v ∷ vs) zero h below = (h.0, h.1)
bounds (v ∷ vs) (suc i) h below = let three : (get_or vs i no_volley).left ≡ 3 = whole_bounds vs i h.2 (omega arith) in (omega arith, omega arith)

-- the volley that is read at a place
pub volley_read : (vs : List VolleyState) (i : ℕ) (v : VolleyState) → i < length vs → v ≡ get_or vs i v → get_or vs i no_volley ≡ v
volley_read vs i v below is = get_or_from_slice_get vs i v no_volley (slice_get_read vs (length vs) i v refl below is)
