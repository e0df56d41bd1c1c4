-- The copies of volleys in a row.
use Rattle.std.proofs.Common.{◌≡◌, ◌≢◌, ℕ, zero, suc, ◌+◌, ◌-◌, ◌*◌, ◌/◌, ◌%◌, ◌<◌, ◌≤◌, Bool, true, false, List, [], ◌∷◌, ◌++◌, length, replicate, Some, inl, inr, refl, sym, ap, ◌∙◌, arith, get_or, append_assoc, length-append, MatchBool, IsTrue}
use Rattle.std.specs.Option.{option_map}
use Rattle.std.specs.List.{slice_get, Contains, HoldsAt, AllWithin}
use Rattle.std.proofs.lemmas.List.{get_or-replicate, length-replicate}
use Rattle.std.proofs.lemmas.List.Elements.{Contains-append_left, Contains-append_right, Contains-append_cases}
use Rattle.std.proofs.lemmas.Option.{slice_get-get_or}
use Rattle.std.proofs.lemmas.Bool.{false≢true}
use Rattle.gp_ploam.specs.declared.message.Down.{Down}
use Rattle.gp_volley.specs.Copies.{max_copies}
use Rattle.gp_volley.specs.Volley.{VolleyState, volley_of}
use Rattle.gp_volley.specs.Queue.{copies_of, AreWhole, IsInOrder}

abbrev pub Volleys : Type 0
Volleys = List VolleyState

-- how many

pub length-copies_whole : (vs : Volleys) → AreWhole vs → length (copies_of vs) ≡ 3 * length vs
length-copies_whole [] w = refl
length-copies_whole (v ∷ vs) w =
    let three = w.0 in
    let rest = length-copies_whole vs w.1 in
    let first = length-replicate v.left v.message in
    length-append (replicate v.left v.message) (copies_of vs) ∙ omega arith

pub length-copies : (v : VolleyState) (vs : Volleys) → AreWhole vs → length (copies_of (v ∷ vs)) ≡ v.left + 3 * length vs
length-copies v vs w =
    let rest = length-copies_whole vs w in
    let first = length-replicate v.left v.message in
    length-append (replicate v.left v.message) (copies_of vs) ∙ omega arith

-- copies leave room for a message
pub few_volleys : (vs : Volleys) → IsInOrder vs → length (copies_of vs) + 3 ≤ max_copies → length vs ≤ 63
few_volleys [] o h = omega arith
few_volleys (v ∷ vs) o h = let n = length-copies v vs o.2 in let some = o.0 in omega arith

-- one message more

copies-append : (vs ws : Volleys) → copies_of (vs ++ ws) ≡ copies_of vs ++ copies_of ws
copies-append [] ws = refl
copies-append (v ∷ vs) ws = ap (λ xs. replicate v.left v.message ++ xs) (copies-append vs ws) ∙ sym (append_assoc (replicate v.left v.message) (copies_of vs) (copies_of ws))

pub copies-push : (vs : Volleys) (m : Down) → copies_of (vs ++ volley_of m ∷ []) ≡ copies_of vs ++ m ∷ m ∷ m ∷ []
copies-push vs m = copies-append vs (volley_of m ∷ [])

whole-push : (vs : Volleys) (m : Down) → AreWhole vs → AreWhole (vs ++ volley_of m ∷ [])
whole-push [] m w = (refl, tt)
whole-push (v ∷ vs) m w = (w.0, whole-push vs m w.1)

pub in_order-push : (vs : Volleys) (m : Down) → IsInOrder vs → IsInOrder (vs ++ volley_of m ∷ [])
in_order-push [] m o = (omega arith, omega arith, tt)
in_order-push (v ∷ vs) m o = (o.0, o.1, whole-push vs m o.2)

-- the copy at a place

get-append_left : (xs ys : List Down) (i : ℕ) → i < length xs → slice_get (xs ++ ys) i ≡ slice_get xs i
get-append_left [] ys i h = absurd (omega arith)
get-append_left (x ∷ xs) ys zero h = refl
get-append_left (x ∷ xs) ys (suc i) h = get-append_left xs ys i (omega arith)

get-append_right : (xs ys : List Down) (n i : ℕ) → n ≡ length xs + i → slice_get (xs ++ ys) n ≡ slice_get ys i
get-append_right [] ys n i e = let same : n ≡ i = omega arith in ap (slice_get ys) same
get-append_right (x ∷ xs) ys zero i e = absurd (omega arith)
get-append_right (x ∷ xs) ys (suc n) i e = get-append_right xs ys n i (omega arith)

get-replicate : (n i : ℕ) (m : Down) → i < n → slice_get (replicate n m) i ≡ Some m
get-replicate n i m h = slice_get-get_or (replicate n m) i m (omega (arith, length-replicate n m)) ∙ ap Some (get_or-replicate n i m m h)

pub get-first : (v : VolleyState) (vs : Volleys) (i : ℕ) → i < v.left → slice_get (copies_of (v ∷ vs)) i ≡ Some v.message
get-first v vs i h = get-append_left (replicate v.left v.message) (copies_of vs) i (omega (arith, length-replicate v.left v.message)) ∙ get-replicate v.left i v.message h

abbrev pub message_of : VolleyState → Down
message_of v = v.message

get-whole : (vs : Volleys) → AreWhole vs → (n q r : ℕ) → n ≡ 3 * q + r → r < 3 → slice_get (copies_of vs) n ≡ option_map message_of (slice_get vs q)
get-whole [] w n q r e h = refl
get-whole (v ∷ vs) w n zero r e h = let three = w.0 in get-first v vs n (omega arith)
get-whole (v ∷ vs) w n (suc q) r e h =
    let three = w.0 in
    get-append_right (replicate v.left v.message) (copies_of vs) n (3 * q + r) (omega (arith, length-replicate v.left v.message))
    ∙ get-whole vs w.1 (3 * q + r) q r refl h

pub get-later : (v : VolleyState) (vs : Volleys) → AreWhole vs → (n q r : ℕ) → n ≡ v.left + (3 * q + r) → r < 3 → slice_get (copies_of (v ∷ vs)) n ≡ option_map message_of (slice_get vs q)
get-later v vs w n q r e h =
    get-append_right (replicate v.left v.message) (copies_of vs) n (3 * q + r) (omega (arith, length-replicate v.left v.message))
    ∙ get-whole vs w (3 * q + r) q r refl h

-- by the volley that stands first

pub length-by_first : (vs : Volleys) (v : VolleyState) → 0 < length vs → v ≡ get_or vs 0 v → IsInOrder vs → length (copies_of vs) ≡ v.left + 3 * (length vs - 1)
length-by_first [] v h e o = absurd (omega arith)
length-by_first (w ∷ vs) v h e o = let n = length-copies w vs o.2 in let same : v.left ≡ w.left = ap (λ u. u.left) e in omega arith

pub get-by_first : (vs : Volleys) (v : VolleyState) → 0 < length vs → v ≡ get_or vs 0 v → IsInOrder vs → (i : ℕ) → v.left ≤ i →
    slice_get (copies_of vs) i ≡ option_map message_of (slice_get vs (1 + (i - v.left) / 3))
get-by_first [] v h e o i past = absurd (omega arith)
get-by_first (w ∷ vs) v h e o i past =
    let same : v.left ≡ w.left = ap (λ u. u.left) e in
    let next : suc ((i - v.left) / 3) ≡ 1 + (i - v.left) / 3 = omega arith in
    get-later w vs o.2 i ((i - v.left) / 3) ((i - v.left) % 3) (omega arith) (omega arith)
    ∙ ap (λ n. option_map message_of (slice_get (w ∷ vs) n)) next

-- whether a message is among them

abbrev HaveCopies : Volleys → Type 0
HaveCopies [] = Unit {0}
HaveCopies (v ∷ vs) = (1 ≤ v.left) × HaveCopies vs

whole_have : (vs : Volleys) → AreWhole vs → HaveCopies vs
whole_have [] w = tt
whole_have (v ∷ vs) w = (let three = w.0 in omega arith, whole_have vs w.1)

have_copies : (vs : Volleys) → IsInOrder vs → HaveCopies vs
have_copies [] o = tt
have_copies (v ∷ vs) o = (o.0, whole_have vs o.2)

-- the message of some volley
abbrev pub HasVolleyOf : Down → Volleys → Type 0
HasVolleyOf m vs = (k : ℕ) × (k < length vs) × HoldsAt (λ v. v.message ≡ m) vs k

abbrev pub HasNoVolleyOf : Down → Volleys → Type 0
HasNoVolleyOf m vs = AllWithin (λ v. v.message ≢ m) vs 0 (length vs)

contains-replicate : (n : ℕ) (x m : Down) → 1 ≤ n → x ≡ m → Contains (replicate n x) m
contains-replicate n x m h e = (0, omega (arith, length-replicate n x), get_or-replicate n 0 x m (omega arith) ∙ e)

contains_copy : (m : Down) (vs : Volleys) (k : ℕ) → HaveCopies vs → k < length vs → HoldsAt (λ v. v.message ≡ m) vs k → Contains (copies_of vs) m
contains_copy m [] k c h e = absurd (omega arith)
contains_copy m (v ∷ vs) zero c h e = Contains-append_left (replicate v.left v.message) (copies_of vs) m (contains-replicate v.left v.message m c.0 (e v))
contains_copy m (v ∷ vs) (suc k) c h e = Contains-append_right (replicate v.left v.message) (copies_of vs) m (contains_copy m vs k c.1 (omega arith) e)

has_volley : (m : Down) (vs : Volleys) → Contains (copies_of vs) m → HasVolleyOf m vs
has_volley m [] c = absurd (let h = c.1 in omega arith)
has_volley m (v ∷ vs) c =
    elim (Contains-append_cases (replicate v.left v.message) (copies_of vs) m c) [
      | inl a ↦
          let within = a.1 in
          let same = sym (get_or-replicate v.left a.0 v.message m (omega (arith, length-replicate v.left v.message))) ∙ a.2 in
          (0, omega arith, λ d. same)
      | inr b ↦ let s = has_volley m vs b in (suc s.0, let low = s.1 in omega arith, s.2)
    ]

pub owed_if_volley : (r : Bool) (m : Down) (vs : Volleys) → IsInOrder vs → MatchBool r (HasVolleyOf m vs) (HasNoVolleyOf m vs) → (IsTrue r → Contains (copies_of vs) m) × (Contains (copies_of vs) m → IsTrue r)
owed_if_volley true m vs o h = (λ _. contains_copy m vs h.0 (have_copies vs o) h.1 h.2, λ _. refl)
owed_if_volley false m vs o h = (λ e. absurd (false≢true e), λ c. let s = has_volley m vs c in absurd (h s.0 (volley_of m) (omega arith) s.1 (s.2 (volley_of m))))
