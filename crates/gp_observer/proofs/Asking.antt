-- How many asks a serial number has left.
use Rattle.std.proofs.Common.{◌≡◌, ℕ, suc, ◌+◌, ◌-◌, ◌≤◌, Bool, true, false, cond, List, [], ◌∷◌, ◌++◌, Option, None, Some, refl, sym, ap, subst, ◌∙◌, arith, is_some, nat_lt}
use Rattle.std.specs.Prelude.{option_map}
use Rattle.std.specs.FinMap.{FinMap, get, insert, len, get-insert, len-insert}
use Rattle.std.proofs.lemmas.Bool.{false≢true, ltb-true, lt-ltb}
use Rattle.gp_ploam.specs.declared.message.Serial.{Serial}
use Rattle.gp_ploam.specs.declared.message.Down.{Down}
use Rattle.gp_ploam.specs.declared.message.Down.TheVariants.{AssignOnu}
use Rattle.gp_ploam.specs.Serials.{serial_cmp, same_serial}
use Rattle.gp_ploam.proofs.Serials.{serials_total, by_cmp-same, same_serial-true, same_serial-itself}
use Rattle.gp_observer.specs.Watch.{most_followed, kept_or_new, asks_put}

abbrev Asks : Type 0
Asks = FinMap serial_cmp ℕ

-- what is left by the map alone
abbrev pub left_in : Asks → Serial → Option ℕ
left_in asks t = kept_or_new (get asks t) (nat_lt (len asks) most_followed)

at_put : (asks : Asks) (t : Serial) (v : ℕ) (x : Serial) → get (insert asks t v) x ≡ cond (same_serial x t) (Some v) (get asks x)
at_put asks t v x = get-insert serials_total asks t v x ∙ ap (λ b. cond b (Some v) (get asks x)) (by_cmp-same x t)

-- a number that is put makes no map shorter
no_shorter : (asks : Asks) (t : Serial) (v : ℕ) → len asks ≤ len (insert asks t v)
no_shorter asks t v = by_there (is_some (get asks t)) refl
  where
    by_there : (b : Bool) → is_some (get asks t) ≡ b → len asks ≤ len (insert asks t v)
    by_there true is = let e = len-insert serials_total asks t v ∙ ap (λ c. cond c (len asks) (len asks + 1)) is in omega arith
    by_there false is = let e = len-insert serials_total asks t v ∙ ap (λ c. cond c (len asks) (len asks + 1)) is in omega arith

some_same : (x y : ℕ) → Some x ≡ Some y → x ≡ y
some_same x y h = cc

not_some : (x : ℕ) → ◌≡◌ {A = Option ℕ} None (Some x) → ⊥
not_some x h = cc

module _ (asks : Asks) (t : Serial) (f : ℕ → ℕ) where
  abbrev pub changed_asks : Asks
  changed_asks = asks_put asks t (option_map f (left_in asks t))

  -- of the serial number itself
  pub left_same : (a : ℕ) → left_in changed_asks t ≡ Some a → (b : ℕ) × (left_in asks t ≡ Some b) × (a ≡ f b)
  left_same a h = by_left (left_in asks t) refl h
    where
      by_left : (o : Option ℕ) → left_in asks t ≡ o → left_in (asks_put asks t (option_map f o)) t ≡ Some a → (b : ℕ) × (left_in asks t ≡ Some b) × (a ≡ f b)
      by_left None is e = absurd (not_some a (sym is ∙ e))
      by_left (Some b) is e =
          let it : get (insert asks t (f b)) t ≡ Some (f b) = at_put asks t (f b) t ∙ ap (λ c. cond c (Some (f b)) (get asks t)) (same_serial-itself t) in
          (b, is, some_same a (f b) (sym e ∙ ap (λ o. kept_or_new o (nat_lt (len (insert asks t (f b))) most_followed)) it))

  -- of another one
  pub left_other : (x : Serial) (a : ℕ) → same_serial x t ≡ false → left_in changed_asks x ≡ Some a → left_in asks x ≡ Some a
  left_other x a other h = by_left (option_map f (left_in asks t)) h
    where
      by_left : (o : Option ℕ) → left_in (asks_put asks t o) x ≡ Some a → left_in asks x ≡ Some a
      by_left None e = e
      by_left (Some v) e = by_kept (get asks x) (sym (ap (λ o. kept_or_new o (nat_lt (len (insert asks t v)) most_followed)) (at_put asks t v x ∙ ap (λ c. cond c (Some v) (get asks x)) other)) ∙ e)
        where
          room : (b : Bool) → nat_lt (len (insert asks t v)) most_followed ≡ b → kept_or_new None b ≡ Some a → kept_or_new None (nat_lt (len asks) most_followed) ≡ Some a
          room true is e =
              let most = no_shorter asks t v in
              let below = ltb-true (len (insert asks t v)) most_followed is in
              ap (kept_or_new None) (lt-ltb (len asks) most_followed (omega arith)) ∙ e
          room false is e = absurd (not_some a e)

          by_kept : (o : Option ℕ) → kept_or_new o (nat_lt (len (insert asks t v)) most_followed) ≡ Some a → kept_or_new o (nat_lt (len asks) most_followed) ≡ Some a
          by_kept None e = room (nat_lt (len (insert asks t v)) most_followed) refl e
          by_kept (Some b) e = e

  -- where there is room there was room
  pub room_before : nat_lt (len changed_asks) most_followed ≡ true → nat_lt (len asks) most_followed ≡ true
  room_before h = by_left (option_map f (left_in asks t)) h
    where
      by_left : (o : Option ℕ) → nat_lt (len (asks_put asks t o)) most_followed ≡ true → nat_lt (len asks) most_followed ≡ true
      by_left None e = e
      by_left (Some v) e =
          let most = no_shorter asks t v in
          let below = ltb-true (len (insert asks t v)) most_followed e in
          lt-ltb (len asks) most_followed (omega arith)

  -- who is followed stays so
  pub stays_followed : (x : Serial) (a : ℕ) → get asks x ≡ Some a → (b : ℕ) × (get changed_asks x ≡ Some b)
  stays_followed x a h = by_left (option_map f (left_in asks t))
    where
      by_same : (v : ℕ) (b : Bool) → same_serial x t ≡ b → (c : ℕ) × (get (insert asks t v) x ≡ Some c)
      by_same v true is = (v, at_put asks t v x ∙ ap (λ c. cond c (Some v) (get asks x)) is)
      by_same v false is = (a, at_put asks t v x ∙ ap (λ c. cond c (Some v) (get asks x)) is ∙ h)

      by_left : (o : Option ℕ) → (b : ℕ) × (get (asks_put asks t o) x ≡ Some b)
      by_left None = (a, h)
      by_left (Some v) = by_same v (same_serial x t) refl

  -- and who can be is
  pub is_followed : is_some (left_in asks t) ≡ true → (b : ℕ) × (get changed_asks t ≡ Some b)
  is_followed h = by_left (left_in asks t) h
    where
      by_left : (o : Option ℕ) → is_some o ≡ true → (b : ℕ) × (get (asks_put asks t (option_map f o)) t ≡ Some b)
      by_left None e = absurd (false≢true e)
      by_left (Some a) e = (f a, at_put asks t (f a) t ∙ ap (λ c. cond c (Some (f a)) (get asks t)) (same_serial-itself t))

pub followed_can : (asks : Asks) (t : Serial) (a : ℕ) → get asks t ≡ Some a → is_some (left_in asks t) ≡ true
followed_can asks t a h = ap (λ o. is_some (kept_or_new o (nat_lt (len asks) most_followed))) h

-- and where there is room anybody can be
pub room_can : (asks : Asks) (t : Serial) → nat_lt (len asks) most_followed ≡ true → is_some (left_in asks t) ≡ true
room_can asks t h = ap (λ b. is_some (kept_or_new (get asks t) b)) h ∙ by_kept (get asks t)
  where
    by_kept : (o : Option ℕ) → is_some (kept_or_new o true) ≡ true
    by_kept None = refl
    by_kept (Some a) = refl

-- ---- how many are owed an ONU-ID

abbrev pub one_if : Bool → ℕ
one_if true = 1
one_if false = 0

-- how many of the messages assign an ONU-ID to this serial number
abbrev pub assigns : Serial → List Down → ℕ
assigns t [] = 0
assigns t (AssignOnu n s ∷ ms) = one_if (same_serial t s) + assigns t ms
assigns t (m ∷ ms) = assigns t ms

-- each serial number that has asks left has as many as Assign_ONU-IDs to it are owed
abbrev pub HaveAsked : Asks → List Down → Type 0
HaveAsked asks ms = (t : Serial) (a : ℕ) → left_in asks t ≡ Some a → assigns t ms ≤ a

pub assigns_both : (t : Serial) (ms ns : List Down) → assigns t (ms ++ ns) ≡ assigns t ms + assigns t ns
assigns_both t [] ns = omega arith
assigns_both t (AssignOnu n s ∷ ms) ns = let rest = assigns_both t ms ns in omega arith
assigns_both t (m ∷ ms) ns = assigns_both t ms ns

-- an Assign_ONU-ID takes one
pub asked_assigned : (asks : Asks) (n : ℕ) (s : Serial) (ms : List Down) → HaveAsked asks (AssignOnu n s ∷ ms) → HaveAsked (changed_asks asks s (λ a. a - 1)) ms
asked_assigned asks n s ms h t a e = by_same (same_serial t s) refl
  where
    by_same : (b : Bool) → same_serial t s ≡ b → assigns t ms ≤ a
    by_same true is =
        let here = left_same asks s (λ x. x - 1) a (subst (λ (x : Serial). left_in (changed_asks asks s (λ y. y - 1)) x ≡ Some a) (same_serial-true t s is) e) in
        let most : one_if (same_serial t s) + assigns t ms ≤ here.0 = h t here.0 (subst (λ (x : Serial). left_in asks x ≡ Some here.0) (sym (same_serial-true t s is)) here.1) in
        let one : one_if (same_serial t s) ≡ 1 = ap one_if is in
        let less = here.2 in
        omega arith
    by_same false is =
        let most : one_if (same_serial t s) + assigns t ms ≤ a = h t a (left_other asks s (λ x. x - 1) t a is e) in
        let one : one_if (same_serial t s) ≡ 0 = ap one_if is in
        omega arith

-- one that is only followed has as many as before
pub asked_followed : (asks : Asks) (s : Serial) (ms : List Down) → HaveAsked asks ms → HaveAsked (changed_asks asks s (λ a. a)) ms
asked_followed asks s ms h t a e = by_same (same_serial t s) refl
  where
    by_same : (b : Bool) → same_serial t s ≡ b → assigns t ms ≤ a
    by_same true is =
        let here = left_same asks s (λ x. x) a (subst (λ (x : Serial). left_in (changed_asks asks s (λ y. y)) x ≡ Some a) (same_serial-true t s is) e) in
        let most = h t here.0 (subst (λ (x : Serial). left_in asks x ≡ Some here.0) (sym (same_serial-true t s is)) here.1) in
        let same = here.2 in
        omega arith
    by_same false is = h t a (left_other asks s (λ x. x) t a is e)

-- one that asks may be owed one more
pub asked_again : (asks : Asks) (s : Serial) (ms ns : List Down) → ((t : Serial) → assigns t ns ≤ one_if (same_serial t s)) → HaveAsked asks ms → HaveAsked (changed_asks asks s (λ a. suc a)) (ms ++ ns)
asked_again asks s ms ns few h t a e = by_same (same_serial t s) refl
  where
    by_same : (b : Bool) → same_serial t s ≡ b → assigns t (ms ++ ns) ≤ a
    by_same true is =
        let here = left_same asks s (λ x. suc x) a (subst (λ (x : Serial). left_in (changed_asks asks s (λ y. suc y)) x ≡ Some a) (same_serial-true t s is) e) in
        let most = h t here.0 (subst (λ (x : Serial). left_in asks x ≡ Some here.0) (sym (same_serial-true t s is)) here.1) in
        let same = here.2 in
        let both = assigns_both t ms ns in
        let least = few t in
        let one : one_if (same_serial t s) ≡ 1 = ap one_if is in
        omega arith
    by_same false is =
        let most = h t a (left_other asks s (λ x. suc x) t a is e) in
        let both = assigns_both t ms ns in
        let least = few t in
        let one : one_if (same_serial t s) ≡ 0 = ap one_if is in
        omega arith

-- messages that assign nothing
pub asked_more : (asks : Asks) (ms ns : List Down) → ((t : Serial) → assigns t ns ≤ 0) → HaveAsked asks ms → HaveAsked asks (ms ++ ns)
asked_more asks ms ns none h t a e =
    let most = h t a e in
    let both = assigns_both t ms ns in
    let least = none t in
    omega arith
