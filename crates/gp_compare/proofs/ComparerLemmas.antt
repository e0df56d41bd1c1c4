-- What a comparer knows when more comes.
use Rattle.std.proofs.Common.{◌≡◌, ◌<◌, ℕ, List, [], ◌∷◌, ◌++◌, Option, None, Some, IfSome, refl, sym, ap, subst, ◌∙◌, take, length, arith, append_assoc, append-nil}
use Rattle.std.specs.Io.KnownBytes.{Consumes}
use Rattle.std.proofs.KnownBytes.{Consumes-nil, Consumes-trans}
use Rattle.gp_compare.specs.declared.difference.Difference.{Difference}
use Rattle.gp_compare.specs.Ahead.{AheadState}
use Rattle.gp_compare.specs.declared.fault.CompareFault.{CompareFault}
use Rattle.gp_compare.specs.Comparer.{ComparesAs, DiffersWithin, IsAll, IsSame, Knows, ShowsBehind}
use Rattle.gp_compare.specs.Difference.{Differs, HeadsDiffer, ShowsBoth}
use Rattle.gp_compare.specs.Place.{PlaceState, behind, front}
use Rattle.gp_compare.specs.Reading.{EndsAs, IsEnd, IsOther, TakesSame}
use Rattle.gp_compare.specs.Shown.{show, shown_at, shown_view}
use Rattle.gp_compare.proofs.PlaceLemmas.{behind_append}
use Rattle.gp_compare.proofs.ShownLemmas.{show_append}

pub same_none : {R : Type 0} (known : Option (List ℕ)) (a : AheadState R) (p : PlaceState) → a.source.remaining ≡ known → a.rest ≡ [] → p ≡ front → IsSame known [] a p
same_none known a p source rest place = record {
  read = subst (λ (x : Option (List ℕ)). Consumes x a.source.remaining ([] ++ a.rest)) source (subst (λ (l : List ℕ). Consumes a.source.remaining a.source.remaining l) (sym rest) (Consumes-nil a.source.remaining));
  place = place;
}

-- more was read
read_on : {R : Type 0} (known : Option (List ℕ)) (taken : List ℕ) (a b : AheadState R) (p : PlaceState) (read : List ℕ) → IsSame known taken a p
    → Consumes a.source.remaining b.source.remaining read → Consumes known b.source.remaining (taken ++ (a.rest ++ read))
read_on known taken a b p read h consumed =
    subst (λ (l : List ℕ). Consumes known b.source.remaining l) (append_assoc taken a.rest read)
    (Consumes-trans known a.source.remaining b.source.remaining (taken ++ a.rest) read h.read consumed)

pub same_more : {R : Type 0} (known : Option (List ℕ)) (taken noted octets : List ℕ) (a b : AheadState R) (p q : PlaceState) (count : ℕ) → IsSame known taken a p
    → TakesSame a b p q octets count → noted ≡ taken ++ take count octets → IsSame known noted b q
same_more known taken noted octets a b p q count h more note =
    let all : taken ++ (a.rest ++ more.read) ≡ noted ++ b.rest =
    ap (λ l. taken ++ l) more.rest ∙ sym (append_assoc taken (take count octets) b.rest) ∙ ap (λ l. l ++ b.rest) (sym note) in
    record {
      read = subst (λ (l : List ℕ). Consumes known b.source.remaining l) all (read_on known taken a b p more.read h more.consumed);
      place = more.place ∙ ap (λ (x : PlaceState). behind x (take count octets)) h.place ∙ sym (behind_append front taken (take count octets)) ∙ ap (behind front) (sym note);
    }

-- the first octet that differs was taken, or nothing comes any more
pub differs_first : {R : Type 0} (known : Option (List ℕ)) (taken noted octets : List ℕ) (a b : AheadState R) (p : PlaceState) (d : Difference) → IsSame known taken a p
    → IsOther p a b octets d → noted ≡ taken ++ octets → Differs known noted d
differs_first known taken noted octets a b p d h other note = record {
  common = taken;
  left = a.rest ++ other.shows.read;
  right = octets;
  after = b.source.remaining;
  read = read_on known taken a b p other.shows.read h other.shows.consumed;
  got = note;
  other = other.other;
  shows = subst (λ (x : PlaceState). ShowsBoth x (a.rest ++ other.shows.read) octets d) h.place other.shows.shows;
  ended = other.ended;
  whole = other.shows.whole;
}

pub differs_within : {R : Type 0} (known : Option (List ℕ)) (taken noted octets : List ℕ) (a b : AheadState R) (p : PlaceState) (d : Difference) → IsSame known taken a p
    → IsOther p a b octets d → noted ≡ taken ++ octets → 0 < length octets → DiffersWithin known noted d
unfolding differs_first
differs_within known taken noted octets a b p d h other note some = record { differs = differs_first known taken noted octets a b p d h other note; some = some }

heads_right : (left right more : List ℕ) → HeadsDiffer left right → 0 < length right → HeadsDiffer left (right ++ more)
heads_right left [] more h some = absurd (omega arith)
heads_right [] (b ∷ right) more h some = tt
heads_right (a ∷ left) (b ∷ right) more h some = h

longer : (xs ys : List ℕ) → 0 < length xs → 0 < length (xs ++ ys)
longer [] ys some = absurd (omega arith)
longer (x ∷ xs) ys some = omega arith

-- more comes behind it
pub differs_more : (known : Option (List ℕ)) (taken noted octets : List ℕ) (d e : Difference) → DiffersWithin known taken d → ShowsBehind d e octets → noted ≡ taken ++ octets
    → DiffersWithin known noted e
differs_more known taken noted octets d e h more note =
    let old = h.differs in
    record {
      differs = record {
        common = old.common;
        left = old.left;
        right = old.right ++ octets;
        after = old.after;
        read = old.read;
        got = note ∙ ap (λ l. l ++ octets) old.got ∙ append_assoc old.common old.right octets;
        other = heads_right old.left old.right octets old.other h.some;
        shows = record {
          line = more.line ∙ old.shows.line;
          octet = more.octet ∙ old.shows.octet;
          expected = ap shown_view more.expected ∙ old.shows.expected;
          got = more.got ∙ ap (λ s. show s octets) old.shows.got ∙ sym (show_append (shown_at (behind front old.common)) old.right octets);
        };
        ended = old.ended;
        whole = λ text. old.whole (ap (λ x. x.end) (sym more.expected) ∙ text);
      };
      some = longer old.right octets h.some;
    }

-- nothing comes any more, and nothing more is expected
pub all_taken : {R : Type 0} (known : Option (List ℕ)) (taken : List ℕ) (a b : AheadState R) (p : PlaceState) → IsSame known taken a p → IsEnd a b → IsAll known taken
all_taken known taken a b p h end = record {
  after = b.source.remaining;
  read = subst (λ (l : List ℕ). Consumes known b.source.remaining l) (ap (λ l. taken ++ l) end.none ∙ append-nil taken) (read_on known taken a b p end.read h end.consumed);
  end = end.over.end;
}

-- ---- what is known, by what was found so far

pub known_same : {R : Type 0} (fault : Option CompareFault) (difference : Option Difference) (known : Option (List ℕ)) (taken : List ℕ) (a : AheadState R) (p : PlaceState)
    → fault ≡ None → difference ≡ None → Knows fault difference known taken a p → IsSame known taken a p
known_same None None known taken a p none unfound h = h
known_same None (Some d) known taken a p none unfound h = absurd (cc)
known_same (Some fault) difference known taken a p none unfound h = absurd (cc)

pub known_within : {R : Type 0} (fault : Option CompareFault) (difference : Option Difference) (d : Difference) (known : Option (List ℕ)) (taken : List ℕ) (a : AheadState R) (p : PlaceState)
    → fault ≡ None → difference ≡ Some d → Knows fault difference known taken a p → DiffersWithin known taken d
known_within None None d known taken a p none some h = absurd (cc)
known_within None (Some e) d known taken a p none some h = subst (λ (x : Difference). DiffersWithin known taken x) (cc) h
known_within (Some fault) difference d known taken a p none some h = absurd (cc)

-- octets were taken that are as expected
pub known_steps : {R : Type 0} (fault : Option CompareFault) (difference : Option Difference) (known : Option (List ℕ)) (taken noted octets : List ℕ) (a b : AheadState R) (p q : PlaceState) (count : ℕ)
    → fault ≡ None → difference ≡ None → Knows fault difference known taken a p → TakesSame a b p q octets count → noted ≡ taken ++ take count octets
    → Knows fault difference known noted b q
known_steps None None known taken noted octets a b p q count none unfound h more note = same_more known taken noted octets a b p q count h more note
known_steps None (Some d) known taken noted octets a b p q count none unfound h more note = absurd (cc)
known_steps (Some fault) difference known taken noted octets a b p q count none unfound h more note = absurd (cc)

-- octets were taken of which the first isn't
pub known_differs : {R : Type 0} (fault : Option CompareFault) (difference : Option Difference) (known : Option (List ℕ)) (taken noted octets : List ℕ) (a b : AheadState R) (p q : PlaceState) (d : Difference)
    → fault ≡ None → difference ≡ None → Knows fault difference known taken a p → IsOther p a b octets d → noted ≡ taken ++ octets → 0 < length octets
    → Knows fault (Some d) known noted b q
known_differs None None known taken noted octets a b p q d none unfound h other note some = differs_within known taken noted octets a b p d h other note some
known_differs None (Some e) known taken noted octets a b p q d none unfound h other note some = absurd (cc)
known_differs (Some fault) difference known taken noted octets a b p q d none unfound h other note some = absurd (cc)

-- octets were taken behind a difference
pub known_more : {R : Type 0} (fault : Option CompareFault) (difference : Option Difference) (known : Option (List ℕ)) (taken noted octets : List ℕ) (a : AheadState R) (p : PlaceState) (d e : Difference)
    → fault ≡ None → difference ≡ Some d → Knows fault difference known taken a p → ShowsBehind d e octets → noted ≡ taken ++ octets
    → Knows fault (Some e) known noted a p
known_more None difference known taken noted octets a p d e none some h more note =
    differs_more known taken noted octets d e (known_within None difference d known taken a p refl some h) more note
known_more (Some fault) difference known taken noted octets a p d e none some h more note = absurd (cc)

-- the text ends
pub known_ends : {R : Type 0} (fault : Option CompareFault) (difference : Option Difference) (known : Option (List ℕ)) (taken : List ℕ) (a b : AheadState R) (p : PlaceState) (end : Option Difference)
    → fault ≡ None → difference ≡ None → Knows fault difference known taken a p → EndsAs a b p end → ComparesAs known taken end
known_ends None None known taken a b p None none unfound h ends = all_taken known taken a b p h ends
known_ends None None known taken a b p (Some d) none unfound h ends = differs_first known taken taken [] a b p d h ends (sym (append-nil taken))
known_ends None (Some e) known taken a b p end none unfound h ends = absurd (cc)
known_ends (Some fault) difference known taken a b p end none unfound h ends = absurd (cc)

-- it was stopped
pub known_stops : {R : Type 0} (fault : Option CompareFault) (difference : Option Difference) (known : Option (List ℕ)) (taken : List ℕ) (a : AheadState R) (p : PlaceState) → fault ≡ None
    → Knows fault difference known taken a p → IfSome difference (DiffersWithin known taken)
known_stops None None known taken a p none h = tt
known_stops None (Some d) known taken a p none h = h
known_stops (Some fault) difference known taken a p none h = absurd (cc)
