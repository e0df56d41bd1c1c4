-- The rows of a unit's messages: one case for each row.
use Rattle.std.proofs.Common.{◌≡◌, ℕ, ◌+◌, ◌*◌, ◌/◌, ◌%◌, ◌≤◌, cond, eqb, List, [], ◌∷◌, length, map, refl, sym, ap, subst, ◌∙◌, arith, get_or, drop, take, length-append, ◌⊎◌, inl, inr}
use Rattle.gp_ploam.specs.declared.message.Serial.{Serial}
use Rattle.gp_ploam.specs.declared.message.Up.{Up}
use Rattle.gp_ploam.specs.declared.message.Up.TheVariants.{SerialNumber, DyingGasp, NoMessage, Acknowledge, Other}
use Rattle.gp_ploam.specs.Row.{Cell, Is, Free, Agrees, AgreesAt}
use Rattle.gp_ploam.specs.Up.{up_row, IsFittingUp, IsProperUp, IsNamedUp, ReadsUp, code_of_up}
use Rattle.gp_ploam.proofs.Rows.{agrees_at, agrees_after, agrees_exact, agrees-split, code_reads, length-exact}

pub proper_fits : (m : Up) → IsProperUp m → IsFittingUp m
proper_fits (SerialNumber onu serial random flags) h = h
proper_fits (DyingGasp onu) h = h
proper_fits (NoMessage onu) h = h
proper_fits (Acknowledge onu id copy) h = h
proper_fits (Other id octet1 body) h = h.0

pub length-up_row : (m : Up) → IsFittingUp m → length (up_row m) ≡ 12
length-up_row (SerialNumber onu serial random flags) h =
    let a = length-exact serial.0 in
    let b = length-append (map Is serial.0) (Is (random / 16) ∷ Is (random % 16 * 16 + flags) ∷ []) in
    let e = h.0 in omega arith
length-up_row (DyingGasp onu) h = refl
length-up_row (NoMessage onu) h = refl
length-up_row (Acknowledge onu id copy) h = let a = length-exact copy in omega arith
length-up_row (Other id octet1 body) h = let a = length-exact body in omega arith

abbrev serial_of : List ℕ → Serial
serial_of xs = record { 0 = xs }

-- each octet of a code agrees with its cell
octet_at : (m : Up) (bs : List ℕ) (i : ℕ) → Agrees (up_row m) bs → AgreesAt (get_or (up_row m) i (Free 0)) (get_or bs i 0)
octet_at m = agrees_at (up_row m)

-- a serial number with what stands after it
abbrev serial_number : ℕ → List ℕ → List ℕ → Up
serial_number onu serial rest =
    SerialNumber onu (serial_of serial) (get_or rest 0 0 * 16 + get_or rest 1 0 / 16) (get_or rest 1 0 % 16)

-- the named message with this identifier and these octets
abbrev message_of : ℕ → List ℕ → Up
message_of id bs =
    cond (eqb id 1) (serial_number (get_or bs 0 0) (take 8 (drop 2 bs)) (drop 8 (drop 2 bs)))
    (cond (eqb id 3) (DyingGasp (get_or bs 0 0))
    (cond (eqb id 4) (NoMessage (get_or bs 0 0)) (Acknowledge (get_or bs 0 0) (get_or bs 2 0) (drop 3 bs))))

abbrev message_at : List ℕ → Up
message_at bs = message_of (get_or bs 1 0) bs

-- the random delay and the flags stand in two octets
delay_and_flags : (r f a b : ℕ) → f ≤ 15 → a ≡ r / 16 → b ≡ r % 16 * 16 + f → (a * 16 + b / 16 ≡ r) × (b % 16 ≡ f)
delay_and_flags r f a b h e1 e2 = (omega arith, omega arith)

serial_at : (onu random flags : ℕ) (serial : Serial) (bs : List ℕ) → IsFittingUp (SerialNumber onu serial random flags) →
    Agrees (up_row (SerialNumber onu serial random flags)) bs →
    serial_number (get_or bs 0 0) (take 8 (drop 2 bs)) (drop 8 (drop 2 bs)) ≡ SerialNumber onu serial random flags
serial_at onu random flags serial bs f h =
    let m = SerialNumber onu serial random flags in
    let ends : List Cell = Is (random / 16) ∷ Is (random % 16 * 16 + flags) ∷ [] in
    let rest = drop 2 bs in
    let first : get_or bs 0 0 ≡ onu = octet_at m bs 0 h in
    let part = agrees-split serial.0 rest ends (agrees_after 2 (up_row m) bs h) in
    let prefix : take 8 (drop 2 bs) ≡ serial.0 = subst (λ (k : ℕ). take k rest ≡ serial.0) f.0 part.prefix in
    let back : Agrees ends (drop 8 rest) = subst (λ (k : ℕ). Agrees ends (drop k rest)) f.0 part.back in
    let both = delay_and_flags random flags (get_or (drop 8 rest) 0 0) (get_or (drop 8 rest) 1 0) f.2 (agrees_at ends (drop 8 rest) 0 back) (agrees_at ends (drop 8 rest) 1 back) in
    let delay : get_or (drop 8 (drop 2 bs)) 0 0 * 16 + get_or (drop 8 (drop 2 bs)) 1 0 / 16 ≡ random = both.0 in
    let low : get_or (drop 8 (drop 2 bs)) 1 0 % 16 ≡ flags = both.1 in
    rw (first, prefix, delay, low) refl

-- what agrees with a named row is that row's message
named_at : (m : Up) (bs : List ℕ) → IsNamedUp m → IsFittingUp m → Agrees (up_row m) bs → message_at bs ≡ m
named_at (SerialNumber onu serial random flags) bs n f h =
    ap (λ x. message_of x bs) (octet_at (SerialNumber onu serial random flags) bs 1 h) ∙ serial_at onu random flags serial bs f h
named_at (DyingGasp onu) bs n f h = ap (λ x. message_of x bs) (octet_at (DyingGasp onu) bs 1 h) ∙ ap DyingGasp (octet_at (DyingGasp onu) bs 0 h)
named_at (NoMessage onu) bs n f h = ap (λ x. message_of x bs) (octet_at (NoMessage onu) bs 1 h) ∙ ap NoMessage (octet_at (NoMessage onu) bs 0 h)
named_at (Acknowledge onu id copy) bs n f h =
    let first : get_or bs 0 0 ≡ onu = octet_at (Acknowledge onu id copy) bs 0 h in
    let third : get_or bs 2 0 ≡ id = octet_at (Acknowledge onu id copy) bs 2 h in
    let rest : drop 3 bs ≡ copy = agrees_exact copy (drop 3 bs) (agrees_after 3 (up_row (Acknowledge onu id copy)) bs h) in
    ap (λ x. message_of x bs) (octet_at (Acknowledge onu id copy) bs 1 h) ∙ rw (first, third, rest) refl
named_at (Other id octet1 body) bs n f h = absurd n

-- a message is named, or an `Other`
record IsOther (m : Up) : Type 0 where
  id : ℕ
  octet1 : ℕ
  body : List ℕ
  is : m ≡ Other id octet1 body

kind : (m : Up) → IsNamedUp m ⊎ IsOther m
kind (SerialNumber onu serial random flags) = inl tt
kind (DyingGasp onu) = inl tt
kind (NoMessage onu) = inl tt
kind (Acknowledge onu id copy) = inl tt
kind (Other id octet1 body) = inr (record { id = id; octet1 = octet1; body = body; is = refl })

-- an `Other` and a named message are never read from the same octets
other_apart : (id octet1 : ℕ) (body bs : List ℕ) (m : Up) → IsProperUp (Other id octet1 body) → Agrees (up_row (Other id octet1 body)) bs →
    IsNamedUp m → IsFittingUp m → Agrees (up_row m) bs → ⊥
other_apart id octet1 body bs m p x n f y =
    let e : bs ≡ octet1 ∷ id ∷ body = agrees_exact (octet1 ∷ id ∷ body) bs x in
    p.1 m n f (subst (λ (cs : List ℕ). Agrees (up_row m) cs) e y)

-- no two messages are read from the same octets
pub up_reads_once : (bs : List ℕ) (m n : Up) → IsProperUp m → IsProperUp n → Agrees (up_row m) bs → Agrees (up_row n) bs → m ≡ n
up_reads_once bs m n p q x y = by_kind (kind m) (kind n)
  where
    by_kind : IsNamedUp m ⊎ IsOther m → IsNamedUp n ⊎ IsOther n → m ≡ n
    by_kind (inl a) (inl b) = sym (named_at m bs a (proper_fits m p) x) ∙ named_at n bs b (proper_fits n q) y
    by_kind (inl a) (inr b) = absurd (other_apart b.id b.octet1 b.body bs m (subst IsProperUp b.is q) (subst (λ (k : Up). Agrees (up_row k) bs) b.is y) a (proper_fits m p) x)
    by_kind (inr a) (inl b) = absurd (other_apart a.id a.octet1 a.body bs n (subst IsProperUp a.is p) (subst (λ (k : Up). Agrees (up_row k) bs) a.is x) b (proper_fits n q) y)
    by_kind (inr a) (inr b) =
        let e : bs ≡ a.octet1 ∷ a.id ∷ a.body = agrees_exact (a.octet1 ∷ a.id ∷ a.body) bs (subst (λ (k : Up). Agrees (up_row k) bs) a.is x) in
        let f : bs ≡ b.octet1 ∷ b.id ∷ b.body = agrees_exact (b.octet1 ∷ b.id ∷ b.body) bs (subst (λ (k : Up). Agrees (up_row k) bs) b.is y) in
        let g : a.octet1 ∷ a.id ∷ a.body ≡ b.octet1 ∷ b.id ∷ b.body = sym e ∙ f in
        let same : Other a.id a.octet1 a.body ≡ Other b.id b.octet1 b.body = cc in
        a.is ∙ same ∙ sym b.is

-- a code is read as its message
pub up_code_reads : (m : Up) (mask : ℕ) → IsProperUp m → ReadsUp (code_of_up m mask) mask m
up_code_reads m mask h = code_reads up_row IsProperUp m mask h (length-up_row m (proper_fits m h))
