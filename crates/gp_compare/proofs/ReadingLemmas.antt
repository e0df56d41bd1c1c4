-- What is expected, read on.
use Rattle.std.proofs.Common.{◌≡◌, ◌≢◌, ◌<◌, ◌⊎◌, ℕ, ◌-◌, List, [], ◌∷◌, ◌++◌, Option, None, Some, refl, sym, ap, subst, ◌∙◌, take, drop, length, length-drop, arith, append_assoc, append-nil, inl, inr, slice_index}
use Rattle.std.proofs.lemmas.List.{take-append-drop}
use Rattle.std.specs.Io.KnownBytes.{Consumes, IsAtEnd, Keeps}
use Rattle.std.proofs.KnownBytes.{Consumes-nil, Consumes-trans}
use Rattle.gp_compare.specs.declared.difference.Difference.{Difference}
use Rattle.gp_compare.specs.declared.shown.LineEnd.TheVariants.{Text}
use Rattle.gp_compare.specs.Ahead.{AheadState, IsOver, ReadsOn}
use Rattle.gp_compare.specs.Difference.{HeadsDiffer, ShowsBoth}
use Rattle.gp_compare.specs.declared.shown.ShownLine.{ShownLine}
use Rattle.gp_compare.specs.Place.{PlaceState, behind, line_at, octet_at}
use Rattle.gp_compare.specs.Reading.{IsCommon, IsOther, Showing, ShowsHere, ShowsRest, TakesSame}
use Rattle.gp_compare.specs.Shown.{Shown, show, shown_at, shown_view}
use Rattle.gp_compare.proofs.ShownLemmas.{show_append, show_whole}

pub keeps_consumes : (a b : Option (List ℕ)) → Keeps a b → Consumes a b []
keeps_consumes None b h = tt
keeps_consumes (Some x) None h = absurd h
keeps_consumes (Some x) (Some y) h = sym h

-- ---- what is expected is shown

pub showing_none : {R : Type 0} (a : AheadState R) (s : Shown) → (a.rest ≡ [] → IsOver a) → Showing a a s s
showing_none a s over = record {
  read = [];
  consumed = Consumes-nil a.source.remaining;
  passed = [];
  split = sym (append-nil a.rest);
  shown = refl;
  over = over;
  kept = λ none. (refl, refl);
}

-- a block more: it is shown and passed, and the next is read
pub showing_more : {R : Type 0} (a b c d : AheadState R) (s t u : Shown) → Showing a b s t → (b.rest ≡ [] → ⊥) → u ≡ show t b.rest
    → c.source ≡ b.source → c.rest ≡ [] → (octets : List ℕ) → ReadsOn c d octets → (d.rest ≡ [] → IsOver d) → Showing a d s u
showing_more a b c d s t u h some shows same none octets reads over =
    let joined : (h.passed ++ b.rest) ++ d.rest ≡ a.rest ++ (h.read ++ octets) =
    ap (λ l. l ++ d.rest) h.split ∙ ap (λ l. (a.rest ++ h.read) ++ l) (reads.rest ∙ ap (λ l. l ++ octets) none) ∙ append_assoc a.rest h.read octets in
    record {
      read = h.read ++ octets;
      consumed = Consumes-trans a.source.remaining b.source.remaining d.source.remaining h.read octets h.consumed (subst (λ x. Consumes x d.source.remaining octets) (ap (λ x. x.remaining) same) reads.consumed);
      passed = h.passed ++ b.rest;
      split = joined;
      shown = shows ∙ ap (λ x. show x b.rest) h.shown ∙ sym (show_append s h.passed b.rest);
      over = over;
      kept = λ empty. absurd (some (ap (λ x. x.rest) (h.kept empty).1 ∙ empty));
    }

-- all of the rest was passed
none_left : (xs : List ℕ) → length xs ≡ 0 → xs ≡ []
none_left [] e = refl
none_left (x ∷ xs) e = absurd (omega arith)

pub passed_all : (xs ys zs : List ℕ) → zs ≡ drop (length ys) xs → ys ≡ xs → zs ≡ []
passed_all xs ys zs e same =
    let long : length zs ≡ length xs - length ys = ap length e ∙ length-drop (length ys) xs in
    let both : length ys ≡ length xs = ap length same in
    none_left zs (omega arith)

-- all of it was shown, or the line is whole
pub showing_ends : {R : Type 0} (a b : AheadState R) (s t : Shown) → Showing a b s t → (t.end ≢ Text) ⊎ (b.rest ≡ []) → ShowsRest a b s t
showing_ends a b s t h (inl whole) = record {
  read = h.read;
  consumed = h.consumed;
  shows = sym (show_whole t b.rest whole) ∙ ap (λ x. show x b.rest) h.shown ∙ sym (show_append s h.passed b.rest) ∙ ap (show s) h.split;
  whole = λ text. absurd (whole text);
  kept = h.kept;
}
showing_ends a b s t h (inr none) = record {
  read = h.read;
  consumed = h.consumed;
  shows = h.shown ∙ ap (show s) (sym (append-nil h.passed) ∙ ap (λ l. h.passed ++ l) (sym none) ∙ h.split);
  whole = λ text. (h.over none).end;
  kept = h.kept;
}

-- ---- the first octet that differs

heads_more : (left more right : List ℕ) → HeadsDiffer left right → (left ≡ [] → more ≡ []) → HeadsDiffer (left ++ more) right
heads_more [] more right h none = rw (none refl) h
heads_more (a ∷ left) more [] h none = tt
heads_more (a ∷ left) more (b ∷ right) h none = h

front_empty : (xs ys : List ℕ) → xs ++ ys ≡ [] → xs ≡ []
front_empty [] ys e = refl
front_empty (x ∷ xs) ys e = absurd (cc)

pub other_behind : {R : Type 0} (a b c : AheadState R) (p : PlaceState) (read came : List ℕ) (d : Difference) → Consumes a.source.remaining b.source.remaining read
    → a.rest ++ read ≡ b.rest → HeadsDiffer b.rest came → (b.rest ≡ [] → IsOver b) → ShowsHere p b c came d → IsOther p a c came d
other_behind {R = R} a b c p read came d consumed rest other over h =
    let more : List ℕ = h.shown.read in
    let all : b.rest ++ more ≡ a.rest ++ (read ++ more) = ap (λ l. l ++ more) (sym rest) ∙ append_assoc a.rest read more in
    record {
      shows = record {
        read = read ++ more;
        consumed = Consumes-trans a.source.remaining b.source.remaining c.source.remaining read more consumed h.shown.consumed;
        shows = subst (λ (l : List ℕ). ShowsBoth p l came d) all h.shown.shows;
        whole = h.shown.whole;
      };
      other = subst (λ (l : List ℕ). HeadsDiffer l came) all (heads_more b.rest more came other (λ e. (h.kept e).0));
      ended = λ e.
          let none : b.rest ≡ [] = front_empty b.rest more (all ∙ e) in
          subst (λ (x : AheadState R). IsAtEnd x.source.remaining) (sym (h.kept none).1) (over none).end;
    }

-- some octets are the same, or the first differs
pub heads_at : (rest octets : List ℕ) (count : ℕ) → IsCommon octets rest count → count ≡ 0 → 0 < length octets → HeadsDiffer rest octets
heads_at [] [] count h none some = absurd (omega arith)
heads_at [] (b ∷ octets) count h none some = tt
heads_at (a ∷ rest) [] count h none some = absurd (omega arith)
heads_at (a ∷ rest) (b ∷ octets) count h none some =
    let one : count < length (b ∷ octets) = omega arith in
    let two : count < length (a ∷ rest) = omega arith in
    λ same. h.next one two (ap (slice_index (b ∷ octets)) none ∙ sym same ∙ sym (ap (slice_index (a ∷ rest)) none))

-- what comes ends where more is expected
pub heads_none : (rest : List ℕ) → (rest ≡ [] → ⊥) → HeadsDiffer rest []
heads_none [] some = absurd (some refl)
heads_none (a ∷ rest) some = tt

-- no octet is the same
pub other_first : {R : Type 0} (a b c : AheadState R) (p q : PlaceState) (octets : List ℕ) (count : ℕ) (d : Difference) → TakesSame a b p q octets count → count ≡ 0 → 0 < length octets
    → ShowsHere q b c octets d → IsOther p a c octets d
other_first a b c p q octets count d h none some shows =
    let nothing : take count octets ≡ [] = ap (λ n. take n octets) none in
    let rest : a.rest ++ h.read ≡ b.rest = h.rest ∙ ap (λ l. l ++ b.rest) nothing in
    let place : q ≡ p = h.place ∙ ap (behind p) nothing in
    subst (λ (x : PlaceState). IsOther x a c octets d) place (other_behind a b c q h.read octets d h.consumed rest (h.other none some) (h.over none) shows)

-- octets at the front are the same as those that are read ahead, and are passed
pub takes_same : {R : Type 0} (a b c : AheadState R) (p q : PlaceState) (octets : List ℕ) (count : ℕ) → (read : List ℕ) → ReadsOn a b read → (b.rest ≡ [] → IsOver b)
    → IsCommon octets b.rest count → q ≡ behind p (take count octets) → c.rest ≡ drop count b.rest → c.source ≡ b.source → TakesSame a c p q octets count
takes_same a b c p q octets count read reads over common place rest source = record {
  few = common.within_one;
  read = read;
  consumed = subst (λ x. Consumes a.source.remaining x read) (ap (λ x. x.remaining) (sym source)) reads.consumed;
  rest = sym reads.rest ∙ sym (take-append-drop count b.rest) ∙ ap (λ l. l ++ drop count b.rest) (sym common.same) ∙ ap (λ l. take count octets ++ l) (sym rest);
  place = place;
  other = λ none some.
      let all : c.rest ≡ b.rest = rest ∙ ap (λ n. drop n b.rest) none in
      subst (λ (l : List ℕ). HeadsDiffer l octets) (sym all) (heads_at b.rest octets count common none some);
  over = λ none empty.
      let all : c.rest ≡ b.rest = rest ∙ ap (λ n. drop n b.rest) none in
      let end : IsOver b = over (sym all ∙ empty) in
      record { rest = empty; unfailed = ap (λ x. x.failed) source ∙ end.unfailed; end = subst IsAtEnd (ap (λ x. x.remaining) (sym source)) end.end };
}

-- both lines are shown at a place
pub shows_here : {R : Type 0} (a b : AheadState R) (p : PlaceState) (came : List ℕ) (e g : Shown) (f h : ShownLine) (line octet : ℕ) → e ≡ shown_at p → ShowsRest a b e (shown_view f)
    → g ≡ shown_at p → shown_view h ≡ show g came → line ≡ line_at p → octet ≡ octet_at p
    → ShowsHere p a b came (record { line = line; octet = octet; expected = f; got = h })
shows_here a b p came e g f h line octet first rest second more at of = record {
  shown = record {
    read = rest.read;
    consumed = rest.consumed;
    shows = record {
      line = at;
      octet = of;
      expected = rest.shows ∙ ap (λ (s : Shown). show s (a.rest ++ rest.read)) first;
      got = more ∙ ap (λ (s : Shown). show s came) second;
    };
    whole = rest.whole;
  };
  kept = rest.kept;
}
