-- The copies of volleys that are kept as plain data.
use Rattle.std.proofs.Common.{◌≡◌, ℕ, ◌+◌, ◌-◌, ◌*◌, ◌/◌, ◌<◌, ◌≤◌, List, [], ◌∷◌, map, length, get_or, None, Some, refl, sym, ap, ◌∙◌, arith, Option}
use Rattle.std.specs.Option.{option_map}
use Rattle.std.specs.List.{slice_get}
use Rattle.std.proofs.lemmas.List.{get_or-map, length-map}
use Rattle.std.proofs.lemmas.Option.{slice_get-map}
use Rattle.gp_ploam.specs.declared.message.Down.{Down}
use Rattle.gp_volley.specs.Volley.{VolleyState}
use Rattle.gp_volley.specs.Queue.{copies_of, IsInOrder}
use Rattle.gp_volley.specs.Images.{volley_in}
use Rattle.gp_volley.specs.declared.owed_image.VolleyImage.{VolleyImage}
use Rattle.gp_volley.proofs.Copies.{get-first, get-by_first, length-by_first, message_of}

-- the volley of the first image
first_volley : (xs : List VolleyImage) (x : VolleyImage) → 0 < length xs → x ≡ get_or xs 0 x → volley_in x ≡ get_or (map volley_in xs) 0 (volley_in x)
first_volley xs x some is = sym (get_or-map volley_in xs 0 x (volley_in x) some ∙ ap volley_in (sym is))

pub length_imaged : (xs : List VolleyImage) (x : VolleyImage) → 0 < length xs → x ≡ get_or xs 0 x → IsInOrder (map volley_in xs) → length (copies_of (map volley_in xs)) ≡ x.left + 3 * (length xs - 1)
length_imaged xs x some is ordered =
    let count : length (map volley_in xs) ≡ length xs = length-map xs volley_in in
    let all = length-by_first (map volley_in xs) (volley_in x) (omega (arith, some, count)) (first_volley xs x some is) ordered in
    omega (arith, all, count)

-- of the first message at most three copies are left
pub begun_imaged : (xs : List VolleyImage) (x : VolleyImage) → 0 < length xs → x ≡ get_or xs 0 x → IsInOrder (map volley_in xs) → x.left ≤ 3
begun_imaged [] x some is ordered = absurd (omega (arith, some))
begun_imaged (y ∷ ys) x some is ordered =
    let left : x.left ≡ y.left = ap (λ (w : VolleyImage). w.left) is in
    let most = ordered.1 in
    omega (arith, left, most)

pub first_imaged : (xs : List VolleyImage) (x : VolleyImage) → 0 < length xs → x ≡ get_or xs 0 x → (i : ℕ) → i < x.left → slice_get (copies_of (map volley_in xs)) i ≡ Some x.message
first_imaged [] x some is i within = absurd (omega (arith, some))
first_imaged (y ∷ ys) x some is i within =
    let left : x.left ≡ y.left = ap (λ (w : VolleyImage). w.left) is in
    get-first (volley_in y) (map volley_in ys) i (omega (arith, left, within)) ∙ ap (λ (w : VolleyImage). Some w.message) (sym is)

through : (o : Option VolleyImage) → option_map message_of (option_map volley_in o) ≡ option_map (λ (x : VolleyImage). x.message) o
through None = refl
through (Some x) = refl

pub later_imaged : (xs : List VolleyImage) (x : VolleyImage) → 0 < length xs → x ≡ get_or xs 0 x → IsInOrder (map volley_in xs) → (i : ℕ) → x.left ≤ i
    → slice_get (copies_of (map volley_in xs)) i ≡ option_map (λ (x : VolleyImage). x.message) (slice_get xs (1 + (i - x.left) / 3))
later_imaged xs x some is ordered i past =
    let count : length (map volley_in xs) ≡ length xs = length-map xs volley_in in
    get-by_first (map volley_in xs) (volley_in x) (omega (arith, some, count)) (first_volley xs x some is) ordered i past
    ∙ ap (option_map message_of) (slice_get-map volley_in xs (1 + (i - x.left) / 3))
    ∙ through (slice_get xs (1 + (i - x.left) / 3))
