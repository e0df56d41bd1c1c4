-- `==` of rows and replies tells whether they are equal.
use Rattle.std.proofs.Common.{◌≡◌, ℕ, zero, suc, ◌-◌, length, Bool, true, false, ◌&&◌, eqb, eq-eqb, List, [], ◌∷◌, ◌++◌, map, replicate, Option, None, Some, refl, ap, sym, ◌∙◌}
use Rattle.std.specs.Option.{option_eq}
use Rattle.std.specs.FinMap.{FinMap, entries, same_entries_map}
use Rattle.std.specs.Ordering.{nat_cmp}
use Rattle.std.specs.Cmp.Lexicographic.{pointwise_decides}
use Rattle.std.specs.contracts.prelude.BoolPartialEq.TheImpl as bool
use Rattle.std.proofs.lemmas.Bool.{false≢true, eqb-true}
use Rattle.gp_pools.specs.Slots.{filled, slots_of}
use Rattle.gp_pools.specs.contracts.allocs.AllocsPartialEq.TheImpl as allocs
use Rattle.gp_pools.specs.contracts.place.PlacePartialEq.TheImpl as place
use Rattle.gp_unit.specs.declared.row.Row.{Row}
use Rattle.gp_unit.specs.declared.row.Phase.{Phase}
use Rattle.gp_unit.specs.declared.row.Phase.TheVariants.{Ranging, Operating}
use Rattle.gp_unit.specs.contracts.row.PhasePartialEq.TheImpl as phase
use Rattle.gp_unit.specs.contracts.row.RowPartialEq.TheImpl as row
use Rattle.gp_unit.specs.Records.{blank_row}
use Rattle.gp_machine.specs.declared.refusal.Refusal.{Refusal}
use Rattle.gp_machine.specs.declared.refusal.Refusal.TheVariants as refused
use Rattle.gp_machine.specs.contracts.refusal.RefusalPartialEq.TheImpl as refusal
use Rattle.gp_machine.specs.declared.reply.Reply.{Reply}
use Rattle.gp_machine.specs.declared.reply.Reply.TheVariants as reply
use Rattle.gp_machine.specs.ComparingAnswers.{ComparesReplies, ComparesRows}

-- the test tells whether the fact holds
abbrev Decides : Bool → Type 0 → Type 0
Decides test P = (test ≡ true → P) × (P → test ≡ true)

conv : (b : Bool) (P Q : Type 0) → (P → Q) → (Q → P) → Decides b P → Decides b Q
conv b P Q into back h = (λ t. into (h.0 t), λ q. h.1 (back q))

both : (b c : Bool) (P Q : Type 0) → Decides b P → Decides c Q → Decides (b && c) (P × Q)
both true true P Q f g = (λ h. (f.0 refl, g.0 refl), λ h. refl)
both true false P Q f g = (λ h. (f.0 refl, g.0 h), λ h. g.1 h.1)
both false c P Q f g = (λ h. absurd (false≢true h), λ h. f.1 h.0)

numbers : (m n : ℕ) → Decides (eqb m n) (m ≡ n)
numbers m n = (eqb-true m n, eq-eqb m n)

bools : (a b : Bool) → Decides ((bool.ghosts).eq a b) (a ≡ b)
bools true true = (λ h. refl, λ e. refl)
bools true false = (λ h. absurd (false≢true h), λ e. cc)
bools false true = (λ h. absurd (false≢true h), λ e. cc)
bools false false = (λ h. refl, λ e. refl)

abbrev some_of : {A : Type 0} → A → Option A → A
some_of d None = d
some_of d (Some x) = x

options : {A : Type 0} (test : A → A → Bool) → ((x y : A) → Decides (test x y) (x ≡ y)) → (a b : Option A) → Decides (option_eq test a b) (a ≡ b)
options test tells None None = (λ h. refl, λ e. refl)
options test tells None (Some y) = (λ h. absurd (false≢true h), λ e. cc)
options test tells (Some x) None = (λ h. absurd (false≢true h), λ e. cc)
options {A} test tells (Some x) (Some y) = conv (test x y) (x ≡ y) (◌≡◌ {A = Option A} (Some x) (Some y)) (λ e. ap Some e) (λ e. ap (some_of x) e) (tells x y)

-- ---- the Alloc-IDs of a row

nothing : (k : ℕ) → filled {A = ℕ × Bool} (replicate k None) ≡ []
nothing zero = refl
nothing (suc k) = nothing k

all_filled : (es : List (ℕ × Bool)) (rest : List (Option (ℕ × Bool))) → filled (map Some es ++ rest) ≡ es ++ filled rest
all_filled [] rest = refl
all_filled (e ∷ es) rest = ap (λ (xs : List (ℕ × Bool)). e ∷ xs) (all_filled es rest)

with_nothing : (es : List (ℕ × Bool)) → es ++ [] ≡ es
with_nothing [] = refl
with_nothing (e ∷ es) = ap (λ (xs : List (ℕ × Bool)). e ∷ xs) (with_nothing es)

filled_slots : (es : List (ℕ × Bool)) → filled (slots_of es) ≡ es
filled_slots es = all_filled es (replicate (8 - length es) None) ∙ ap (λ (xs : List (ℕ × Bool)). es ++ xs) (nothing (8 - length es)) ∙ with_nothing es

abbrev alloc_of : Option (ℕ × Bool) → ℕ
alloc_of None = 0
alloc_of (Some e) = e.0

abbrev leaves : Option (ℕ × Bool) → Bool
leaves None = false
leaves (Some e) = e.1

same_place : (a b : Option (ℕ × Bool)) → Decides ((place.ghosts).eq a b) (a ≡ b)
same_place None None = (λ h. refl, λ e. refl)
same_place None (Some (n, false)) = (λ h. absurd (false≢true h), λ e. cc)
same_place None (Some (n, true)) = (λ h. absurd (false≢true h), λ e. cc)
same_place (Some (m, false)) None = (λ h. absurd (false≢true h), λ e. cc)
same_place (Some (m, true)) None = (λ h. absurd (false≢true h), λ e. cc)
same_place (Some (m, false)) (Some (n, false)) = conv (eqb m n) (m ≡ n) (Some (m, false) ≡ Some (n, false)) (λ e. ap (λ (k : ℕ). Some (k, false)) e) (λ e. ap alloc_of e) (numbers m n)
same_place (Some (m, true)) (Some (n, true)) = conv (eqb m n) (m ≡ n) (Some (m, true) ≡ Some (n, true)) (λ e. ap (λ (k : ℕ). Some (k, true)) e) (λ e. ap alloc_of e) (numbers m n)
same_place (Some (m, false)) (Some (n, true)) = (λ h. absurd (false≢true h), λ e. absurd (false≢true (ap leaves e)))
same_place (Some (m, true)) (Some (n, false)) = (λ h. absurd (false≢true h), λ e. absurd (false≢true (sym (ap leaves e))))

same_allocs : (a b : FinMap nat_cmp Bool) → Decides ((allocs.ghosts).eq a b) (a ≡ b)
same_allocs a b =
    conv ((allocs.ghosts).eq a b) (slots_of (entries a) ≡ slots_of (entries b)) (a ≡ b)
    (λ e. same_entries_map a b (sym (filled_slots (entries a)) ∙ ap (λ (xs : List (Option (ℕ × Bool))). filled xs) e ∙ filled_slots (entries b)))
    (λ e. ap (λ (m : FinMap nat_cmp Bool). slots_of (entries m)) e)
    (pointwise_decides same_place (slots_of (entries a)) (slots_of (entries b)))

-- ---- rows

abbrev attempts_in : Phase → ℕ
attempts_in (Ranging attempts seen) = attempts
attempts_in (Operating eqd dark garbled) = 0

abbrev seen_in : Phase → Bool
seen_in (Ranging attempts seen) = seen
seen_in (Operating eqd dark garbled) = false

abbrev eqd_in : Phase → ℕ
eqd_in (Ranging attempts seen) = 0
eqd_in (Operating eqd dark garbled) = eqd

abbrev dark_in : Phase → ℕ
dark_in (Ranging attempts seen) = 0
dark_in (Operating eqd dark garbled) = dark

abbrev garbled_in : Phase → ℕ
garbled_in (Ranging attempts seen) = 0
garbled_in (Operating eqd dark garbled) = garbled

same_phase : (a b : Phase) → Decides ((phase.ghosts).eq a b) (a ≡ b)
same_phase (Ranging a s) (Ranging b t) =
    conv (eqb a b && (bool.ghosts).eq s t) ((a ≡ b) × (s ≡ t)) (Ranging a s ≡ Ranging b t) (λ p. λ i. Ranging (p.0 i) (p.1 i)) (λ e. (ap attempts_in e, ap seen_in e))
    (both (eqb a b) ((bool.ghosts).eq s t) (a ≡ b) (s ≡ t) (numbers a b) (bools s t))
same_phase (Ranging a s) (Operating d e f) = (λ h. absurd (false≢true h), λ e. cc)
same_phase (Operating a b c) (Ranging d s) = (λ h. absurd (false≢true h), λ e. cc)
same_phase (Operating a b c) (Operating d e f) =
    conv (eqb a d && (eqb b e && eqb c f)) ((a ≡ d) × ((b ≡ e) × (c ≡ f))) (Operating a b c ≡ Operating d e f) (λ p. λ i. Operating (p.0 i) (p.1.0 i) (p.1.1 i)) (λ x. (ap eqd_in x, (ap dark_in x, ap garbled_in x)))
    (both (eqb a d) (eqb b e && eqb c f) (a ≡ d) ((b ≡ e) × (c ≡ f)) (numbers a d) (both (eqb b e) (eqb c f) (b ≡ e) (c ≡ f) (numbers b e) (numbers c f)))

pub same_rows : ComparesRows
same_rows a b =
    conv ((row.ghosts).eq a b) ((a.onu ≡ b.onu) × ((a.allocs ≡ b.allocs) × ((a.pending ≡ b.pending) × ((a.waiting ≡ b.waiting) × (a.phase ≡ b.phase))))) (a ≡ b)
    (λ p. λ i. record { onu = p.0 i; allocs = p.1.0 i; pending = p.1.1.0 i; waiting = p.1.1.1.0 i; phase = p.1.1.1.1 i })
    (λ e. (ap (λ (r : Row). r.onu) e, (ap (λ (r : Row). r.allocs) e, (ap (λ (r : Row). r.pending) e, (ap (λ (r : Row). r.waiting) e, ap (λ (r : Row). r.phase) e)))))
    (both _ _ _ _ (numbers a.onu b.onu)
    (both _ _ _ _ (same_allocs a.allocs b.allocs)
    (both _ _ _ _ (options eqb numbers a.pending b.pending) (both _ _ _ _ (numbers a.waiting b.waiting) (same_phase a.phase b.phase)))))

-- ---- replies

same_refusal : (a b : Refusal) → Decides ((refusal.ghosts).eq a b) (a ≡ b)
same_refusal refused.Stray refused.Stray = (λ h. refl, λ e. refl)
same_refusal refused.Garbled refused.Garbled = (λ h. refl, λ e. refl)
same_refusal refused.WrongWindow refused.WrongWindow = (λ h. refl, λ e. refl)
same_refusal refused.NotAdmitted refused.NotAdmitted = (λ h. refl, λ e. refl)
same_refusal refused.NoId refused.NoId = (λ h. refl, λ e. refl)
same_refusal refused.NoLicence refused.NoLicence = (λ h. refl, λ e. refl)
same_refusal refused.Busy refused.Busy = (λ h. refl, λ e. refl)
same_refusal refused.NotActive refused.NotActive = (λ h. refl, λ e. refl)
same_refusal refused.NotOperating refused.NotOperating = (λ h. refl, λ e. refl)
same_refusal refused.PendingAlloc refused.PendingAlloc = (λ h. refl, λ e. refl)
same_refusal refused.AllocFull refused.AllocFull = (λ h. refl, λ e. refl)
same_refusal refused.NotHeld refused.NotHeld = (λ h. refl, λ e. refl)
same_refusal refused.NoAlloc refused.NoAlloc = (λ h. refl, λ e. refl)
same_refusal refused.AlreadySearching refused.AlreadySearching = (λ h. refl, λ e. refl)
same_refusal x y = (λ h. absurd (false≢true h), λ e. cc)

abbrev number_of : Reply → ℕ
number_of (reply.Found n) = n
number_of (reply.Again n) = n
number_of (reply.Repeat n) = n
number_of (reply.Restarted n) = n
number_of (reply.TooFar n) = n
number_of (reply.StillRanging n) = n
number_of (reply.Alive n) = n
number_of (reply.Acked n) = n
number_of (reply.Gasp n) = n
number_of (reply.Allocated n) = n
number_of (reply.Releasing n) = n
number_of (reply.Deactivated n) = n
number_of (reply.PoppedUp n) = n
number_of (reply.PoppedUpAll n) = n
number_of (reply.Ranged onu eqd) = onu
number_of _ = 0

abbrev delay_of : Reply → ℕ
delay_of (reply.Ranged onu eqd) = eqd
delay_of _ = 0

abbrev refusal_of : Reply → Refusal
refusal_of (reply.Refused r) = r
refusal_of _ = refused.Stray

abbrev row_of : Reply → Row
row_of (reply.Shown r) = r
row_of _ = blank_row

pub same_replies : ComparesReplies
same_replies reply.Ticked reply.Ticked = (λ h. refl, λ e. refl)
same_replies reply.Searching reply.Searching = (λ h. refl, λ e. refl)
same_replies reply.DisabledSeen reply.DisabledSeen = (λ h. refl, λ e. refl)
same_replies reply.Disabled reply.Disabled = (λ h. refl, λ e. refl)
same_replies reply.Enabled reply.Enabled = (λ h. refl, λ e. refl)
same_replies reply.EnabledAll reply.EnabledAll = (λ h. refl, λ e. refl)
same_replies (reply.Found a) (reply.Found b) = (λ h. ap reply.Found (eqb-true a b h), λ e. eq-eqb a b (ap number_of e))
same_replies (reply.Again a) (reply.Again b) = (λ h. ap reply.Again (eqb-true a b h), λ e. eq-eqb a b (ap number_of e))
same_replies (reply.Repeat a) (reply.Repeat b) = (λ h. ap reply.Repeat (eqb-true a b h), λ e. eq-eqb a b (ap number_of e))
same_replies (reply.Restarted a) (reply.Restarted b) = (λ h. ap reply.Restarted (eqb-true a b h), λ e. eq-eqb a b (ap number_of e))
same_replies (reply.TooFar a) (reply.TooFar b) = (λ h. ap reply.TooFar (eqb-true a b h), λ e. eq-eqb a b (ap number_of e))
same_replies (reply.StillRanging a) (reply.StillRanging b) = (λ h. ap reply.StillRanging (eqb-true a b h), λ e. eq-eqb a b (ap number_of e))
same_replies (reply.Alive a) (reply.Alive b) = (λ h. ap reply.Alive (eqb-true a b h), λ e. eq-eqb a b (ap number_of e))
same_replies (reply.Acked a) (reply.Acked b) = (λ h. ap reply.Acked (eqb-true a b h), λ e. eq-eqb a b (ap number_of e))
same_replies (reply.Gasp a) (reply.Gasp b) = (λ h. ap reply.Gasp (eqb-true a b h), λ e. eq-eqb a b (ap number_of e))
same_replies (reply.Allocated a) (reply.Allocated b) = (λ h. ap reply.Allocated (eqb-true a b h), λ e. eq-eqb a b (ap number_of e))
same_replies (reply.Releasing a) (reply.Releasing b) = (λ h. ap reply.Releasing (eqb-true a b h), λ e. eq-eqb a b (ap number_of e))
same_replies (reply.Deactivated a) (reply.Deactivated b) = (λ h. ap reply.Deactivated (eqb-true a b h), λ e. eq-eqb a b (ap number_of e))
same_replies (reply.PoppedUp a) (reply.PoppedUp b) = (λ h. ap reply.PoppedUp (eqb-true a b h), λ e. eq-eqb a b (ap number_of e))
same_replies (reply.PoppedUpAll a) (reply.PoppedUpAll b) = (λ h. ap reply.PoppedUpAll (eqb-true a b h), λ e. eq-eqb a b (ap number_of e))
same_replies (reply.Refused a) (reply.Refused b) = conv ((refusal.ghosts).eq a b) (a ≡ b) (reply.Refused a ≡ reply.Refused b) (λ e. ap reply.Refused e) (λ e. ap refusal_of e) (same_refusal a b)
same_replies (reply.Ranged a b) (reply.Ranged c d) =
    conv (eqb a c && eqb b d) ((a ≡ c) × (b ≡ d)) (reply.Ranged a b ≡ reply.Ranged c d) (λ p. λ i. reply.Ranged (p.0 i) (p.1 i)) (λ e. (ap number_of e, ap delay_of e)) (both (eqb a c) (eqb b d) (a ≡ c) (b ≡ d) (numbers a c) (numbers b d))
same_replies (reply.Shown a) (reply.Shown b) = conv ((row.ghosts).eq a b) (a ≡ b) (reply.Shown a ≡ reply.Shown b) (λ e. ap reply.Shown e) (λ e. ap row_of e) (same_rows a b)
same_replies x y = (λ h. absurd (false≢true h), λ e. cc)
