-- Lines of light are no lines of a trace, so they count for nothing.
use Rattle.std.proofs.Common.{◌≡◌, ℕ, zero, suc, ◌==◌, ◌/◌, ◌%◌, ◌↔◌, Bool, true, false, List, [], ◌∷◌, ◌++◌, codes, length, replicate, refl, sym, ap, subst, ◌∙◌, inl, inr, arith, append_assoc, nat_lt}
use Rattle.std.specs.Prelude.{decimal, not}
use Rattle.std.specs.Fmt.{digits, digit_glyph, digits_onto}
use Rattle.std.specs.List.{All, flat_map, list_all}
use Rattle.std.proofs.lemmas.Bool.{cases_Bool}
use Rattle.std.proofs.lemmas.Bool.Decides.{nat_tests}
use Rattle.std.proofs.lemmas.List.Elements.{All-append, All-cons, All-head, All-nil, All-tail}
use Rattle.std.proofs.lemmas.List.Sums.{AllPass-from_list_all}
use Rattle.gp_ploam.specs.declared.check.Mask.{Mask}
use Rattle.gp_machine.specs.declared.event.Event.{Event}
use Rattle.gp_lines.specs.Trace.{SplitsLine, is_equals}
use Rattle.gp_replay.specs.Lights.{light_line, light_word}
use Rattle.gp_tally.specs.Ports.{CountsLine, CountsLines, IsNoLine}
use Rattle.gp_tally.specs.Tally.{PortTally, no_tally}
use Rattle.gp_tally.specs.Text.{AreTallies, HasLines, IsOneLine, fed}
use Rattle.gp_tally.proofs.LineLemmas.{cut_once, fed_shape, no_feed}
use Rattle.gp_summed.specs.Lights.{AddsLights, IsLight}

-- ---- a line of light has no `=`

abbrev is_other : ℕ → Bool
is_other octet = not (is_equals octet)

abbrev HasNone : List ℕ → Type 0
HasNone text = All (λ octet. is_other octet ≡ true) text

glyph_other : (d : ℕ) → is_other (digit_glyph false d) ≡ true
glyph_other d =
    elim (cases_Bool (nat_lt d 10)) [
      | inl low ↦ rw low (grind (arith, nat_tests, low))
      | inr high ↦ rw high (grind (arith, nat_tests, high))
    ]

onto_other : (k n : ℕ) (behind : List ℕ) → HasNone behind → HasNone (digits_onto k 10 false n behind)
onto_other zero n behind h = h
onto_other (suc k) n behind h =
    let more = All-cons (λ (o : ℕ). is_other o ≡ true) (digit_glyph false (n % 10)) behind (glyph_other (n % 10)) h in
    elim (cases_Bool (n / 10 == 0)) [
      | inl last ↦ rw last more
      | inr others ↦ rw others (onto_other k (n / 10) (digit_glyph false (n % 10) ∷ behind) more)
    ]

number_other : (number : ℕ) → HasNone (decimal number)
unfolding digits
number_other number = onto_other 64 number [] (All-nil (λ (o : ℕ). is_other o ≡ true))

both_other : (first second : List ℕ) → HasNone first → HasNone second → HasNone (first ++ second)
both_other first second one other = All-append (λ (o : ℕ). is_other o ≡ true) first second one other

word_other : (word : List ℕ) → list_all is_other word ≡ true → HasNone word
word_other word h = AllPass-from_list_all is_other word h

lit_other : (lit : Bool) → HasNone (light_word lit)
lit_other true = word_other (codes " light\n") refl
lit_other false = word_other (codes " dark\n") refl

light_other : (unit : ℕ) (lit : Bool) → HasNone (light_line unit lit)
light_other unit lit =
    both_other (codes "unit ") (decimal unit ++ light_word lit) (word_other (codes "unit ") refl)
    (both_other (decimal unit) (light_word lit) (number_other unit) (lit_other lit))

front_other : (first second : List ℕ) → HasNone (first ++ second) → HasNone first
front_other [] second h = All-nil (λ (o : ℕ). is_other o ≡ true)
front_other (octet ∷ first) second h =
    All-cons (λ (o : ℕ). is_other o ≡ true) octet first (All-head (λ (o : ℕ). is_other o ≡ true) octet (first ++ second) h)
    (front_other first second (All-tail (λ (o : ℕ). is_other o ≡ true) octet (first ++ second) h))

behind_other : (first second : List ℕ) → HasNone (first ++ second) → HasNone second
behind_other [] second h = h
behind_other (octet ∷ first) second h = behind_other first second (All-tail (λ (o : ℕ). is_other o ≡ true) octet (first ++ second) h)

-- so it is no line of a trace
no_equals : (answer : List ℕ) → HasNone (codes " = " ++ answer) → ⊥
no_equals answer h =
    let behind : HasNone (61 ∷ 32 ∷ answer) = All-tail (λ (o : ℕ). is_other o ≡ true) 32 (61 ∷ 32 ∷ answer) h in
    let no : is_other 61 ≡ true = All-head (λ (o : ℕ). is_other o ≡ true) 61 (32 ∷ answer) behind in
    cc no

no_line : (line : List ℕ) → IsLight line → IsNoLine line
no_line line light port number event answer split =
    let all : HasNone (line ++ codes "\n") = subst HasNone light.2 (light_other light.0 light.1) in
    let here : HasNone (split.head ++ codes " = " ++ answer) = subst HasNone split.apart (front_other line (codes "\n") all) in
    no_equals answer (behind_other split.head (codes " = " ++ answer) (subst HasNone (append_assoc split.head (codes " = ") answer) here))

light_counts : (mask : Mask) (line : List ℕ) (old new : List PortTally) → IsLight line → CountsLine mask line old new → new ≡ old
light_counts mask line old new light (inl it) = absurd (no_line line light it.port it.tells.number it.tells.event it.tells.answer it.tells.split)
light_counts mask line old new light (inr none) = none.1

light_counted : (mask : Mask) (line : List ℕ) (ports : List PortTally) → IsLight line → CountsLine mask line ports ports
light_counted mask line ports light = inr (no_line line light, refl)

-- ---- lines

without : (mask : Mask) (lines plain : List (List ℕ)) (old new : List PortTally) → AddsLights lines plain → CountsLines mask lines old new
    → CountsLines mask plain old new
without mask [] plain old new adds counts = subst (λ (ls : List (List ℕ)). CountsLines mask ls old new) (sym adds) counts
without mask (line ∷ lines) plain old new (inl light) counts =
    without mask lines plain old new light.1
    (subst (λ (p : List PortTally). CountsLines mask lines p new) (light_counts mask line old counts.0 light.0 counts.1) counts.2)
without mask (line ∷ lines) plain old new (inr same) counts =
    let here : CountsLines mask (line ∷ same.0) old new = (counts.0, counts.1, without mask lines same.0 counts.0 new same.2 counts.2) in
    subst (λ (ls : List (List ℕ)). CountsLines mask ls old new) (sym same.1) here

with_lights : (mask : Mask) (lines plain : List (List ℕ)) (old new : List PortTally) → AddsLights lines plain → CountsLines mask plain old new
    → CountsLines mask lines old new
with_lights mask [] plain old new adds counts = subst (λ (ls : List (List ℕ)). CountsLines mask ls old new) adds counts
with_lights mask (line ∷ lines) plain old new (inl light) counts =
    (old, light_counted mask line old light.0, with_lights mask lines plain old new light.1 counts)
with_lights mask (line ∷ lines) plain old new (inr same) counts =
    let here : CountsLines mask (line ∷ same.0) old new = subst (λ (ls : List (List ℕ)). CountsLines mask ls old new) same.1 counts in
    (here.0, here.1, with_lights mask lines same.0 here.0 new same.2 here.2)

-- ---- a text

front_shape : (line : List ℕ) (lines : List (List ℕ)) (last : List ℕ) → flat_map fed (line ∷ lines) ++ last ≡ line ++ 10 ∷ (flat_map fed lines ++ last)
front_shape line lines last = append_assoc (fed line) (flat_map fed lines) last ∙ fed_shape line (flat_map fed lines ++ last)

-- a text has its lines in one way
same_lines : (lines others : List (List ℕ)) (last end : List ℕ) → All IsOneLine lines → All IsOneLine others → IsOneLine last → IsOneLine end
    → flat_map fed lines ++ last ≡ flat_map fed others ++ end → lines ≡ others
same_lines [] [] last end each all one other is = refl
same_lines [] (second ∷ others) last end each all one other is =
    absurd (no_feed second (flat_map fed others ++ end) last one (sym (front_shape second others end) ∙ sym is))
same_lines (first ∷ lines) [] last end each all one other is =
    absurd (no_feed first (flat_map fed lines ++ last) end other (sym (front_shape first lines last) ∙ is))
same_lines (first ∷ lines) (second ∷ others) last end each all one other is =
    let cut = cut_once first second (flat_map fed lines ++ last) (flat_map fed others ++ end) (All-head IsOneLine first lines each) (All-head IsOneLine second others all)
    (sym (front_shape first lines last) ∙ is ∙ front_shape second others end) in
    let rest : lines ≡ others = same_lines lines others last end (All-tail IsOneLine first lines each) (All-tail IsOneLine second others all) one other cut.1 in
    ap (λ (line : List ℕ). line ∷ lines) cut.0 ∙ ap (λ (ls : List (List ℕ)). second ∷ ls) rest

-- what is counted of a text is what is counted of these lines, if it has them
counted_so : (mask : Mask) (text last : List ℕ) (lines : List (List ℕ)) (ports : List PortTally) → HasLines text lines last → AreTallies mask text ports
    → CountsLines mask lines (replicate (length ports) no_tally) ports
counted_so mask text last lines ports has t =
    let same : t.counts.lines ≡ lines =
    same_lines t.counts.lines lines t.last last t.counts.has.each has.each t.counts.has.one has.one (sym t.counts.has.split ∙ has.split) in
    subst (λ (ls : List (List ℕ)). CountsLines mask ls (replicate (length ports) no_tally) ports) same t.counts.counted

pub lights_uncounted : (mask : Mask) (text plain last : List ℕ) (lines others : List (List ℕ)) (ports : List PortTally) → HasLines text lines last
    → HasLines plain others last → AddsLights lines others → AreTallies mask text ports ↔ AreTallies mask plain ports
lights_uncounted mask text plain last lines others ports has bare adds =
    let start = replicate (length ports) no_tally in (
      λ t. record {
        last = last;
        counts = record { lines = others; has = bare; counted = without mask lines others start ports adds (counted_so mask text last lines ports has t) };
      },
      λ t. record {
        last = last;
        counts = record { lines = lines; has = has; counted = with_lights mask lines others start ports adds (counted_so mask plain last others ports bare t) };
      },
    )
