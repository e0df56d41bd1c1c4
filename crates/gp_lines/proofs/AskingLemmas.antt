-- Lines that are read as what they were written for.
use Rattle.std.proofs.Common.{◌≡◌, ℕ, ◌==◌, ◌<◌, ◌≤◌, ◌^◌, Bool, true, false, List, [], ◌∷◌, ◌++◌, length, codes, refl, sym, ap, ◌∙◌, inl, inr, arith, append_assoc, length-append}
use Rattle.std.specs.Prelude.{decimal}
use Rattle.std.proofs.lemmas.Bool.Decides.{nat_tests}
use Rattle.std.proofs.lemmas.Fmt.{decimal_is_IsNumeral}
use Rattle.std.proofs.lemmas.List.Elements.{All-head, All-tail, All-nil}
use Rattle.std.proofs.lemmas.List.Splits.{slice_split_at, slice_split_none}
use Rattle.std.specs.List.{slice_split}
use Rattle.gp_ranging.specs.declared.grant.Grant.{Grant}
use Rattle.gp_ranging.specs.declared.grant.Grant.TheVariants as grants
use Rattle.gp_trace.specs.Reply.{numbered}
use Rattle.gp_trace.specs.Text.{event_text}
use Rattle.gp_ploam.specs.declared.check.Mask.{Mask}
use Rattle.gp_lines.specs.declared.turn.Asked.{Asked}
use Rattle.gp_lines.specs.declared.turn.Asked.TheVariants as asked
use Rattle.gp_lines.specs.Parts.{is_space, parts_of}
use Rattle.gp_lines.specs.Turn.{without_return, light_word, SpellsGrant, SpellsAsked, SpellsTurn, grant_words, until_words, turn_text, IsGrantToAsk, CanBeAsked}
use Rattle.gp_lines.proofs.ToldLemmas.{unspaced, number_plain, event_told}
use Rattle.gp_lines.proofs.FeedLemmas.{is_inside, Inside, word_inside, both_inside, number_inside, numbered_inside, event_inside}
use Rattle.gp_lines.proofs.LengthLemmas.{number_short, numbered_short, event_short}

-- ---- no carriage return at the end

not_return : (octet : ℕ) → is_inside octet ≡ true → (octet == 13) ≡ false
not_return octet h = grind (arith, nat_tests, h)

text_kept : (text : List ℕ) → Inside text → without_return text ≡ text
text_kept [] h = refl
text_kept (octet ∷ []) h = rw (not_return octet (All-head (λ (o : ℕ). is_inside o ≡ true) octet [] h)) refl
text_kept (octet ∷ next ∷ rest) h =
    ap (λ (t : List ℕ). octet ∷ t) (text_kept (next ∷ rest) (All-tail (λ (o : ℕ). is_inside o ≡ true) octet (next ∷ rest) h))

words_inside : (grant : Grant) → Inside (grant_words grant)
words_inside grants.Search = word_inside (codes "search") refl
words_inside (grants.Range onu) = numbered_inside (codes "range") onu refl
words_inside (grants.Poll onu) = numbered_inside (codes "poll") onu refl

light_inside : (lit : Bool) → Inside (light_word lit)
light_inside true = word_inside (codes "light") refl
light_inside false = word_inside (codes "dark") refl

until_inside : (grant : Grant) (most : ℕ) → Inside (until_words grant most)
until_inside grant most =
    both_inside (grant_words grant ++ codes " within ") (decimal most)
    (both_inside (grant_words grant) (codes " within ") (words_inside grant) (word_inside (codes " within ") refl)) (number_inside most)

turn_inside : (x : Asked) → Inside (turn_text x)
turn_inside asked.Nothing = All-nil (λ (o : ℕ). is_inside o ≡ true)
turn_inside (asked.Event port event) =
    both_inside (decimal port ++ codes " ") (event_text event) (both_inside (decimal port) (codes " ") (number_inside port) (word_inside (codes " ") refl)) (event_inside event)
turn_inside (asked.Frames port count) =
    both_inside (decimal port ++ codes " frame ") (decimal count)
    (both_inside (decimal port) (codes " frame ") (number_inside port) (word_inside (codes " frame ") refl)) (number_inside count)
turn_inside (asked.Until port grant most) =
    both_inside (decimal port ++ codes " until ") (until_words grant most)
    (both_inside (decimal port) (codes " until ") (number_inside port) (word_inside (codes " until ") refl)) (until_inside grant most)
turn_inside (asked.Light unit lit) =
    both_inside (numbered (codes "unit") unit ++ codes " ") (light_word lit)
    (both_inside (numbered (codes "unit") unit) (codes " ") (numbered_inside (codes "unit") unit refl) (word_inside (codes " ") refl)) (light_inside lit)
turn_inside (asked.ShowUnit unit) =
    both_inside (numbered (codes "unit") unit ++ codes " ") (codes "show")
    (both_inside (numbered (codes "unit") unit) (codes " ") (numbered_inside (codes "unit") unit refl) (word_inside (codes " ") refl)) (word_inside (codes "show") refl)

-- ---- the length

words_short : (grant : Grant) → length (grant_words grant) ≤ 100
words_short grants.Search = omega arith
words_short (grants.Range onu) = let short = numbered_short (codes "range") onu in omega (arith, short)
words_short (grants.Poll onu) = let short = numbered_short (codes "poll") onu in omega (arith, short)

until_short : (grant : Grant) (most : ℕ) → length (until_words grant most) ≤ 200
until_short grant most =
    let front = length-append (grant_words grant) (codes " within ") in
    let all = length-append (grant_words grant ++ codes " within ") (decimal most) in
    let words = words_short grant in
    let few = number_short most in
    omega (arith, front, all, words, few)

light_short : (lit : Bool) → length (light_word lit) ≤ 5
light_short true = omega arith
light_short false = omega arith

-- a number, a closed text and a text
joined_short : (port : ℕ) (word rest : List ℕ) → length word ≤ 10 → length rest ≤ 200 → length ((decimal port ++ word) ++ rest) ≤ 4096
joined_short port word rest some few =
    let front = length-append (decimal port) word in
    let all = length-append (decimal port ++ word) rest in
    omega (arith, front, all, some, few, number_short port)

turn_short : (x : Asked) → CanBeAsked x → length (turn_text x) ≤ 4096
turn_short asked.Nothing can = omega arith
turn_short (asked.Event port event) can = joined_short port (codes " ") (event_text event) (omega arith) (let short = event_short event can.1 in omega (arith, short))
turn_short (asked.Frames port count) can =
    let few = number_short count in joined_short port (codes " frame ") (decimal count) (omega arith) (omega (arith, few))
turn_short (asked.Until port grant most) can = joined_short port (codes " until ") (until_words grant most) (omega arith) (until_short grant most)
turn_short (asked.Light unit lit) can =
    let front = numbered_short (codes "unit") unit in
    let middle = length-append (numbered (codes "unit") unit) (codes " ") in
    let all = length-append (numbered (codes "unit") unit ++ codes " ") (light_word lit) in
    omega (arith, front, middle, all, light_short lit)
turn_short (asked.ShowUnit unit) can =
    let front = numbered_short (codes "unit") unit in
    let middle = length-append (numbered (codes "unit") unit) (codes " ") in
    let all = length-append (numbered (codes "unit") unit ++ codes " ") (codes "show") in
    omega (arith, front, middle, all)

-- ---- the parts

-- a number and a text, with one space between
number_parts : (number : ℕ) (rest : List ℕ) → number < 2 ^ 64 → parts_of ((decimal number ++ codes " ") ++ rest) ≡ decimal number ∷ parts_of rest
unfolding parts_of
number_parts number rest small =
    ap (slice_split is_space) (append_assoc (decimal number) (codes " ") rest)
    ∙ slice_split_at is_space (decimal number) 32 rest (unspaced (decimal number) (number_plain number small)) refl

one_number : (number : ℕ) → number < 2 ^ 64 → parts_of (decimal number) ≡ decimal number ∷ []
unfolding parts_of
one_number number small = slice_split_none is_space (decimal number) (unspaced (decimal number) (number_plain number small))

frame_parts : (text : List ℕ) → parts_of (codes "frame " ++ text) ≡ codes "frame" ∷ parts_of text
unfolding parts_of
frame_parts text = refl

until_parts : (text : List ℕ) → parts_of (codes "until " ++ text) ≡ codes "until" ∷ parts_of text
unfolding parts_of
until_parts text = refl

unit_parts : (text : List ℕ) → parts_of (codes "unit " ++ text) ≡ codes "unit" ∷ parts_of text
unfolding parts_of
unit_parts text = refl

range_parts : (text : List ℕ) → parts_of (codes "range " ++ text) ≡ codes "range" ∷ parts_of text
unfolding parts_of
range_parts text = refl

poll_parts : (text : List ℕ) → parts_of (codes "poll " ++ text) ≡ codes "poll" ∷ parts_of text
unfolding parts_of
poll_parts text = refl

light_parts : (lit : Bool) → parts_of (light_word lit) ≡ light_word lit ∷ []
unfolding parts_of
light_parts true = refl
light_parts false = refl

show_parts : parts_of (codes "show") ≡ codes "show" ∷ []
unfolding parts_of
show_parts = refl

grant_told : (grant : Grant) → IsGrantToAsk grant → SpellsGrant (parts_of (grant_words grant)) grant
unfolding parts_of
grant_told grants.Search can = refl
grant_told (grants.Range onu) can =
    let small : onu < 2 ^ 64 = omega (arith, can) in
    (decimal onu, range_parts (decimal onu) ∙ ap (λ (ps : List (List ℕ)). codes "range" ∷ ps) (one_number onu small), decimal_is_IsNumeral onu small, can)
grant_told (grants.Poll onu) can =
    let small : onu < 2 ^ 64 = omega (arith, can) in
    (decimal onu, poll_parts (decimal onu) ∙ ap (λ (ps : List (List ℕ)). codes "poll" ∷ ps) (one_number onu small), decimal_is_IsNumeral onu small, can)

within_parts : (text : List ℕ) → parts_of (codes "within " ++ text) ≡ codes "within" ∷ parts_of text
unfolding parts_of
within_parts text = refl

-- an ONU-ID, and how many frames at most
onu_within : (onu most : ℕ) → onu < 2 ^ 64 → most < 2 ^ 64
    → parts_of ((decimal onu ++ codes " within ") ++ decimal most) ≡ decimal onu ∷ codes "within" ∷ decimal most ∷ []
onu_within onu most small few =
    let regrouped =
    append_assoc (decimal onu) (codes " within ") (decimal most) ∙ sym (append_assoc (decimal onu) (codes " ") (codes "within " ++ decimal most)) in
    let behind = within_parts (decimal most) ∙ ap (λ (ps : List (List ℕ)). codes "within" ∷ ps) (one_number most few) in
    ap parts_of regrouped ∙ number_parts onu (codes "within " ++ decimal most) small ∙ ap (λ (ps : List (List ℕ)). decimal onu ∷ ps) behind

search_within : (most : ℕ) → parts_of (until_words grants.Search most) ≡ codes "search" ∷ codes "within" ∷ parts_of (decimal most)
unfolding parts_of
search_within most = refl

search_parts : parts_of (codes "search") ≡ codes "search" ∷ []
unfolding parts_of
search_parts = refl

-- the parts of a grant, and then those that say how many frames at most
abbrev then_within : ℕ → List (List ℕ) → List (List ℕ)
then_within most parts = parts ++ (codes "within" ∷ decimal most ∷ [])

until_told : (grant : Grant) (most : ℕ) → IsGrantToAsk grant → most < 2 ^ 64 → parts_of (until_words grant most) ≡ then_within most (parts_of (grant_words grant))
until_told grants.Search most can few =
    search_within most ∙ ap (λ (ps : List (List ℕ)). codes "search" ∷ codes "within" ∷ ps) (one_number most few) ∙ sym (ap (then_within most) search_parts)
until_told (grants.Range onu) most can few =
    let small : onu < 2 ^ 64 = omega (arith, can) in
    range_parts ((decimal onu ++ codes " within ") ++ decimal most) ∙ ap (λ (ps : List (List ℕ)). codes "range" ∷ ps) (onu_within onu most small few)
    ∙ sym (ap (then_within most) (range_parts (decimal onu) ∙ ap (λ (ps : List (List ℕ)). codes "range" ∷ ps) (one_number onu small)))
until_told (grants.Poll onu) most can few =
    let small : onu < 2 ^ 64 = omega (arith, can) in
    poll_parts ((decimal onu ++ codes " within ") ++ decimal most) ∙ ap (λ (ps : List (List ℕ)). codes "poll" ∷ ps) (onu_within onu most small few)
    ∙ sym (ap (then_within most) (poll_parts (decimal onu) ∙ ap (λ (ps : List (List ℕ)). codes "poll" ∷ ps) (one_number onu small)))

-- ---- what is asked for

asked_told : (mask : Mask) (x : Asked) → CanBeAsked x → SpellsAsked mask (turn_text x) x
asked_told mask asked.Nothing can = refl
asked_told mask (asked.Event port event) can =
    let small : port < 2 ^ 64 = omega (arith, can.0) in
    (parts_of (event_text event), (decimal port, number_parts port (event_text event) small, decimal_is_IsNumeral port small, can.0), inl (event_told event can.1))
asked_told mask (asked.Frames port count) can =
    let small : port < 2 ^ 64 = omega (arith, can.0) in
    let few : count < 2 ^ 64 = omega (arith, can.2) in
    let regrouped = append_assoc (decimal port) (codes " frame ") (decimal count) ∙ sym (append_assoc (decimal port) (codes " ") (codes "frame " ++ decimal count)) in
    let behind = frame_parts (decimal count) ∙ ap (λ (ps : List (List ℕ)). codes "frame" ∷ ps) (one_number count few) in
    let apart = ap parts_of regrouped ∙ number_parts port (codes "frame " ++ decimal count) small ∙ ap (λ (ps : List (List ℕ)). decimal port ∷ ps) behind in
    (decimal count, (decimal port, apart, decimal_is_IsNumeral port small, can.0), decimal_is_IsNumeral count few, can.1, can.2)
asked_told mask (asked.Until port grant most) can =
    let small : port < 2 ^ 64 = omega (arith, can.0) in
    let few : most < 2 ^ 64 = omega (arith, can.3) in
    let words = until_words grant most in
    let regrouped = append_assoc (decimal port) (codes " until ") words ∙ sym (append_assoc (decimal port) (codes " ") (codes "until " ++ words)) in
    let apart = ap parts_of regrouped ∙ number_parts port (codes "until " ++ words) small ∙ ap (λ (ps : List (List ℕ)). decimal port ∷ ps) (until_parts words ∙ ap (λ (ps : List (List ℕ)). codes "until" ∷ ps) (until_told grant most can.1 few)) in (
      parts_of (grant_words grant),
      codes "within" ∷ decimal most ∷ [],
      (decimal port, apart, decimal_is_IsNumeral port small, can.0),
      grant_told grant can.1,
      inr (decimal most, refl, decimal_is_IsNumeral most few, can.2, can.3),
    )
asked_told mask (asked.Light unit lit) can =
    let small : unit < 2 ^ 64 = omega (arith, can) in
    let behind = number_parts unit (light_word lit) small ∙ ap (λ (ps : List (List ℕ)). decimal unit ∷ ps) (light_parts lit) in
    let apart = unit_parts ((decimal unit ++ codes " ") ++ light_word lit) ∙ ap (λ (ps : List (List ℕ)). codes "unit" ∷ ps) behind in
    (decimal unit, apart, decimal_is_IsNumeral unit small, can)
asked_told mask (asked.ShowUnit unit) can =
    let small : unit < 2 ^ 64 = omega (arith, can) in
    let behind = number_parts unit (codes "show") small ∙ ap (λ (ps : List (List ℕ)). decimal unit ∷ ps) show_parts in
    let apart = unit_parts ((decimal unit ++ codes " ") ++ codes "show") ∙ ap (λ (ps : List (List ℕ)). codes "unit" ∷ ps) behind in
    (decimal unit, apart, decimal_is_IsNumeral unit small, can)

pub turn_told : (mask : Mask) (x : Asked) → CanBeAsked x → SpellsTurn mask (turn_text x) x
turn_told mask x can =
    (turn_short x can, rw (text_kept (turn_text x) (turn_inside x)) (asked_told mask x can))
