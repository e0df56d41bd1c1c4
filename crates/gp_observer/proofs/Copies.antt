-- Two messages are the same where they are equal, and only there.
use Rattle.std.proofs.Common.{◌≡◌, ℕ, Bool, true, false, ◌&&◌, List, eqb, eq-eqb, refl, sym, ap, ◌∙◌}
use Rattle.std.specs.Cmp.Lexicographic.{pointwise, pointwise_decides}
use Rattle.std.proofs.lemmas.Bool.{false≢true, eqb-true}
use Rattle.gp_ploam.specs.declared.message.Down.{Down}
use Rattle.gp_ploam.specs.declared.message.Down.TheVariants.{UpstreamOverhead, AssignOnu, RangingTime, Deactivate, DisableSerial, EnableSerial, EnableAll, AssignAlloc, NoMessage, Popup, Other}
use Rattle.gp_ploam.specs.Serials.{same_serial}
use Rattle.gp_ploam.proofs.Serials.{same_serial-true, same_serial-itself}
use Rattle.gp_observer.specs.Watch.{same_message, SameMessagesAreEqual}

both_true : (b c : Bool) → b ≡ true → c ≡ true → (b && c) ≡ true
both_true b c h k = ap (λ x. x && c) h ∙ k

parts : (b c : Bool) → (b && c) ≡ true → (b ≡ true) × (c ≡ true)
parts true c h = (refl, h)
parts false c h = absurd (false≢true h)

octets_same : (xs : List ℕ) → pointwise eqb xs xs ≡ true
octets_same xs = (pointwise_decides (λ m n. (eqb-true m n, eq-eqb m n)) xs xs).1 refl

octets_one : (xs ys : List ℕ) → pointwise eqb xs ys ≡ true → xs ≡ ys
octets_one xs ys h = (pointwise_decides (λ m n. (eqb-true m n, eq-eqb m n)) xs ys).0 h

number_same : (n : ℕ) → eqb n n ≡ true
number_same n = eq-eqb n n refl

-- a message is the same as itself
pub message_same : (m : Down) → same_message m m ≡ true
message_same (UpstreamOverhead burst) = octets_same burst
message_same (AssignOnu n s) = both_true _ _ (number_same n) (same_serial-itself s)
message_same (RangingTime n eqd) = both_true _ _ (number_same n) (number_same eqd)
message_same (Deactivate n) = number_same n
message_same (DisableSerial s) = same_serial-itself s
message_same (EnableSerial s) = same_serial-itself s
message_same EnableAll = refl
message_same (AssignAlloc n a true) = both_true _ _ (number_same n) (both_true _ _ (number_same a) refl)
message_same (AssignAlloc n a false) = both_true _ _ (number_same n) (both_true _ _ (number_same a) refl)
message_same NoMessage = refl
message_same (Popup n) = number_same n
message_same (Other id octet1 body) = both_true _ _ (number_same id) (both_true _ _ (number_same octet1) (octets_same body))

-- and as no other
one_message : (a b : Down) → same_message a b ≡ true → a ≡ b
one_message (UpstreamOverhead burst) (UpstreamOverhead other) h = ap UpstreamOverhead (octets_one burst other h)
one_message (AssignOnu n s) (AssignOnu m t) h = let its = parts (eqb n m) (same_serial s t) h in λ i. AssignOnu (eqb-true n m its.0 i) (same_serial-true s t its.1 i)
one_message (RangingTime n e) (RangingTime m f) h = let its = parts (eqb n m) (eqb e f) h in λ i. RangingTime (eqb-true n m its.0 i) (eqb-true e f its.1 i)
one_message (Deactivate n) (Deactivate m) h = ap Deactivate (eqb-true n m h)
one_message (DisableSerial s) (DisableSerial t) h = ap DisableSerial (same_serial-true s t h)
one_message (EnableSerial s) (EnableSerial t) h = ap EnableSerial (same_serial-true s t h)
one_message EnableAll EnableAll h = refl
one_message (AssignAlloc n a true) (AssignAlloc m b true) h = let its = parts (eqb n m) _ h in let rest = parts (eqb a b) _ its.1 in λ i. AssignAlloc (eqb-true n m its.0 i) (eqb-true a b rest.0 i) true
one_message (AssignAlloc n a false) (AssignAlloc m b false) h = let its = parts (eqb n m) _ h in let rest = parts (eqb a b) _ its.1 in λ i. AssignAlloc (eqb-true n m its.0 i) (eqb-true a b rest.0 i) false
one_message (AssignAlloc n a true) (AssignAlloc m b false) h = absurd (false≢true (parts (eqb a b) _ (parts (eqb n m) _ h).1).1)
one_message (AssignAlloc n a false) (AssignAlloc m b true) h = absurd (false≢true (parts (eqb a b) _ (parts (eqb n m) _ h).1).1)
one_message NoMessage NoMessage h = refl
one_message (Popup n) (Popup m) h = ap Popup (eqb-true n m h)
one_message (Other id octet1 body) (Other its_id its_octet1 its_body) h =
    let its = parts (eqb id its_id) _ h in let rest = parts (eqb octet1 its_octet1) _ its.1 in λ i. Other (eqb-true id its_id its.0 i) (eqb-true octet1 its_octet1 rest.0 i) (octets_one body its_body rest.1 i)
one_message _ _ h = absurd (false≢true h)

pub same_are_equal : SameMessagesAreEqual
same_are_equal a b = (one_message a b, λ e. ap (same_message a) (sym e) ∙ message_same a)
