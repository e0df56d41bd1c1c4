-- A step that is recorded where its entry is kept.
use Rattle.std.proofs.Common.{◌≡◌, ℕ, List, [], ◌∷◌, ◌++◌, length, ap, ◌∙◌}
use Rattle.std.specs.Prelude.{set}
use Rattle.std.proofs.Math.Seq.{set-append_seam}
use Rattle.gp_machine.specs.declared.entry.Entry.{Entry}

-- an entry that is put behind the others, and then written over
pub written_last : (before pushed : List Entry) (blank entry : Entry) (place : ℕ) → pushed ≡ before ++ blank ∷ [] → place ≡ length before
    → set pushed place entry ≡ before ++ entry ∷ []
written_last before pushed blank entry place is_pushed is_place =
    ap (λ (es : List Entry). set es place entry) is_pushed
    ∙ ap (λ (n : ℕ). set (before ++ blank ∷ []) n entry) is_place
    ∙ set-append_seam before blank [] entry
