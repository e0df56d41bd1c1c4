-- The octets of a code, read one after another.
use Rattle.std.proofs.Common.{◌≡◌, ℕ, suc, ◌+◌, ◌-◌, ◌<◌, ◌≤◌, List, [], ◌∷◌, ◌++◌, length, take, Some, refl, sym, ap, ◌∙◌, arith, slice_set}
use Rattle.std.proofs.lemmas.List.{length-set, take_more_set}
use Rattle.gp_log.specs.Code.{octet_at, octets_at, without_mark, code_at}

-- the first octets are read, and behind them stands the rest
pub record AreRead (text octets rest : List ℕ) (i : ℕ) : Type 0 where
  pub long : length octets ≡ 13
  pub within : i ≤ 13
  pub read : code_at text ≡ octets_at (13 - i) (take i octets) rest

one_more : (more : ℕ) (octets rest behind : List ℕ) (octet : ℕ) → octet_at (without_mark rest) ≡ Some (octet, behind)
    → octets_at (suc more) octets rest ≡ octets_at more (octets ++ octet ∷ []) behind
one_more more octets rest behind octet h = rw h refl

left : (i : ℕ) → i < 13 → 13 - i ≡ suc (13 - (i + 1))
left i below = omega arith

-- one octet more
pub octets_more : (text octets rest behind : List ℕ) (i octet : ℕ) → i < 13 → octet_at (without_mark rest) ≡ Some (octet, behind)
    → AreRead text octets rest i → AreRead text (slice_set octets i octet) behind (i + 1)
octets_more text octets rest behind i octet below h a = record {
  long = length-set _ _ _ ∙ a.long;
  within = omega (arith, below);
  read = a.read ∙ ap (λ (n : ℕ). octets_at n (take i octets) rest) (left i below) ∙ one_more (13 - (i + 1)) (take i octets) rest behind octet h
      ∙ ap (λ (t : List ℕ). octets_at (13 - (i + 1)) t behind) (sym (take_more_set octets i octet (omega (arith, below, a.long))));
}
