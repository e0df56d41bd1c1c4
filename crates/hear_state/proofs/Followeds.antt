-- What the index over the serial numbers says, and what becomes of it.
use Rattle.std.proofs.Common.{◌≡◌, ℕ, ◌^◌, ◌<◌, ◌≤◌, ◌&&◌, List, length, Option, None, Some, true, false, sym, ap, ◌∙◌}
use Rattle.std.specs.Prelude.{is_none, nat_le}
use Rattle.std.proofs.lemmas.Bool.{le-leb, lt-leb}
use Rattle.std.specs.FinMap as fin
use Rattle.gp_ploam.specs.declared.message.Serial.{Serial}
use Rattle.hear_state.specs.declared.index.Followed.{Followed}
use Rattle.gp_ploam.specs.Serials.{serial_of}
use Rattle.hear_state.specs.declared.index.IndexPlace.{IndexPlace}
use Rattle.hear_state.specs.Index.{Followeds, changed, changed_at, is_full, index_of, IsRising, IsGapFor, IsPlaceOf}
use Rattle.hear_state.proofs.Ranks.{found_none, found_followed, len-index_of}

pub some_none : {X : Type 0} (x : X) → Some x ≡ None → ⊥
some_none x e = cc

pub changed_absent : (m : Followeds) (s : Serial) (change : Followed → Followed) → fin.get m s ≡ None → m ≡ changed m s change
changed_absent m s change none = sym (ap (changed_at m s change) none)

-- ---- whether there is room

full_at : (m : Followeds) (s : Serial) (o : Option Followed) (n : ℕ) → fin.get m s ≡ o → fin.len m ≡ n → is_full m s ≡ (is_none o && nat_le 65536 n)
full_at m s o n e f = ap (λ (p : Option Followed). is_none p && nat_le 65536 (fin.len m)) e ∙ ap (λ k. is_none o && nat_le 65536 k) f

module _ (ps : List IndexPlace) (rank i : ℕ) (h : IsRising ps) where
  pub full_new : rank < 2 ^ 64 → IsGapFor ps rank i → 65536 ≤ length ps → is_full (index_of ps) (serial_of rank) ≡ true
  full_new small gap many = full_at (index_of ps) (serial_of rank) None (length ps) (found_none ps rank i small h gap) (len-index_of ps h) ∙ le-leb 65536 (length ps) many

  pub room_new : rank < 2 ^ 64 → IsGapFor ps rank i → length ps < 65536 → is_full (index_of ps) (serial_of rank) ≡ false
  room_new small gap few = full_at (index_of ps) (serial_of rank) None (length ps) (found_none ps rank i small h gap) (len-index_of ps h) ∙ lt-leb 65536 (length ps) few

  pub room_there : IsPlaceOf ps rank i → is_full (index_of ps) (serial_of rank) ≡ false
  room_there at = full_at (index_of ps) (serial_of rank) _ (length ps) (found_followed ps rank i h at) (len-index_of ps h)
