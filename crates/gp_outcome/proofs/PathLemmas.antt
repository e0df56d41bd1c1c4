-- The path of a file that has a name.
use Rattle.std.specs.Prelude.{if◌then◌else◌}
use Rattle.std.proofs.Common.{◌≡◌, ◌≢◌, ◌∙◌, ℕ, Bool, false, List, [], ◌∷◌, ◌++◌, ap, append_assoc, codes, refl}
use Rattle.gp_outcome.specs.Line.{is_joined, path_of}

pub path_other : (folder file : List ℕ) → file ≢ [] → is_joined folder ≡ false → path_of folder file ≡ folder ++ (codes "/" ++ file)
path_other folder [] some other = absurd (some refl)
path_other folder (octet ∷ file) some other =
    ap (λ (b : Bool). if b then folder ++ octet ∷ file else folder ++ codes "/" ++ octet ∷ file) other
    ∙ append_assoc folder (codes "/") (octet ∷ file)
