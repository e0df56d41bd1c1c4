-- Lists of bursts, one for each port, of which one gets longer.
use Rattle.std.proofs.Common.{◌≡◌, ◌≢◌, ◌<◌, ◌==◌, ℕ, true, false, cond, List, [], ◌∷◌, ◌++◌, ◌⊎◌, inl, inr, length, get_or, slice_set, sym, ap, subst, ◌∙◌}
use Rattle.std.specs.Global.{Vec}
use Rattle.std.proofs.lemmas.Bool.Decides.{eqb_tells}
use Rattle.std.proofs.lemmas.List.{append-nil, length-map, map-set, get_or-map, get_or-set_same, get_or-set_other}
use Rattle.gp_script.specs.declared.script.ScriptEvent.{ScriptEvent}
use Rattle.gp_script.specs.declared.script.ScriptEvent.TheVariants.{Burst}
use Rattle.gp_storm.specs.Plan.{burst_lists, burst_of}

-- a burst is planned for its port, and for no other
pub burst_added : (lists : List (Vec (ℕ × List ℕ))) (place port at : ℕ) (bytes : List ℕ) (list before : Vec (ℕ × List ℕ)) (event : ScriptEvent)
    → event ≡ Burst port at bytes → place ≡ port → place < length lists → list.items ≡ before.items ++ (at, bytes) ∷ [] → before ≡ get_or lists place before → (q : ℕ)
    → get_or (burst_lists (slice_set lists place list)) q [] ≡ get_or (burst_lists lists) q [] ++ burst_of q event
burst_added lists place port at bytes list before event is same within longer found q =
    subst (λ (e : ScriptEvent). get_or (burst_lists (slice_set lists place list)) q [] ≡ get_or (burst_lists lists) q [] ++ burst_of q e) (sym is) (
    subst (λ (n : ℕ). get_or (burst_lists (slice_set lists place list)) q [] ≡ get_or (burst_lists lists) q [] ++ cond (n == q) ((at, bytes) ∷ []) []) same (at_port (eqb_tells place q))
    )
  where
    moved : get_or (burst_lists (slice_set lists place list)) q [] ≡ get_or (slice_set (burst_lists lists) place list.items) q []
    moved = ap (λ (l : List (List (ℕ × List ℕ))). get_or l q []) (map-set (λ (bursts : Vec (ℕ × List ℕ)). bursts.items) lists place list)

    inside : place < length (burst_lists lists)
    inside = subst (λ (n : ℕ). place < n) (sym (length-map lists (λ (bursts : Vec (ℕ × List ℕ)). bursts.items))) within

    was : get_or (burst_lists lists) place [] ≡ before.items
    was = get_or-map (λ (bursts : Vec (ℕ × List ℕ)). bursts.items) lists place before [] within ∙ ap (λ (v : Vec (ℕ × List ℕ)). v.items) (sym found)

    at_port : (((place == q) ≡ true) × (place ≡ q)) ⊎ (((place == q) ≡ false) × (place ≢ q))
        → get_or (burst_lists (slice_set lists place list)) q [] ≡ get_or (burst_lists lists) q [] ++ cond (place == q) ((at, bytes) ∷ []) []
    at_port (inl here) =
        moved ∙ ap (λ (n : ℕ). get_or (slice_set (burst_lists lists) place list.items) n []) (sym here.1)
        ∙ get_or-set_same (burst_lists lists) place list.items [] inside ∙ longer ∙ ap (λ (l : List (ℕ × List ℕ)). l ++ (at, bytes) ∷ []) (sym was)
        ∙ ap (λ (n : ℕ). get_or (burst_lists lists) n [] ++ (at, bytes) ∷ []) here.1 ∙ ap (λ b. get_or (burst_lists lists) q [] ++ cond b ((at, bytes) ∷ []) []) (sym here.0)
    at_port (inr other) =
        moved ∙ get_or-set_other (burst_lists lists) place q list.items [] (λ e. other.1 (sym e)) ∙ sym (append-nil (get_or (burst_lists lists) q []))
        ∙ ap (λ b. get_or (burst_lists lists) q [] ++ cond b ((at, bytes) ∷ []) []) (sym other.0)
