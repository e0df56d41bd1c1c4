-- Frames up to a grant, as a line asks for them.
use Rattle.std.proofs.Common.{◌≡◌, ℕ, List, [], ◌∷◌, ◌++◌, Option, None, Some, Ok, Err, codes, refl, sym, ap, subst, ◌∙◌, ◌⊎◌, inl, inr, arith}
use Rattle.std.specs.Str.Parse.{digits_value}
use Rattle.gp_ranging.specs.declared.grant.Grant.{Grant}
use Rattle.gp_ranging.specs.declared.grant.Grant.TheVariants as grants
use Rattle.gp_lines.specs.declared.fault.LineFault.{LineFault}
use Rattle.gp_lines.specs.declared.fault.LineFault.TheVariants as fault
use Rattle.gp_lines.specs.declared.turn.Asked.{Asked}
use Rattle.gp_lines.specs.declared.turn.Asked.TheVariants as asked
use Rattle.gp_lines.specs.Parts.{parts_of}
use Rattle.gp_lines.specs.Turn.{SpellsGrant, SpellsBound}
use Rattle.gp_lines.specs.Fault.{HasNumberFault}
use Rattle.gp_lines.specs.TurnFault.{NameOnu, AreOfBound, AreOfSearch, AreOfOnu, HasBoundFault, IsOnu, HaveGrantFault}
use Rattle.gp_lines.specs.Reading.{number_in, two_of}
use Rattle.gp_lines.specs.TurnReading.{range_grant, poll_grant, onu_grant, within_of, bound_of, most_of, search_turn, onu_turn, named_turn, grant_turn, until_turn}
use Rattle.gp_lines.proofs.PartsLemmas.{parts_some}
use Rattle.gp_lines.proofs.ReadLemmas.{either, ok_same, err_same, number_ok, number_back}
use Rattle.gp_lines.proofs.SpellingLemmas.{step_ok, two_ok}
use Rattle.gp_lines.proofs.FaultLemmas.{step_err}
use Rattle.gp_lines.proofs.NumberLemmas.{word_told, word_fault, outside_told, outside_again, two_missing}

pub first_same : (word text : List ℕ) (parts others : List (List ℕ)) → word ∷ parts ≡ text ∷ others → word ≡ text
first_same word text parts others e = cc

pub rest_same : (word text : List ℕ) (parts others : List (List ℕ)) → word ∷ parts ≡ text ∷ others → parts ≡ others
rest_same word text parts others e = cc

pub with_word : (word text : List ℕ) (parts : List (List ℕ)) → word ≡ text → word ∷ parts ≡ text ∷ parts
with_word word text parts is = ap (λ (w : List ℕ). w ∷ parts) is

-- ---- grants that name an ONU-ID

abbrev IsNoOnu : List ℕ → Type 0
IsNoOnu word = (word ≡ codes "range" → ⊥) × (word ≡ codes "poll" → ⊥)

-- whatever stands behind the word, the parts name a ranging grant or a poll
abbrev IsOnuWord : List ℕ → Type 0
IsOnuWord word = (parts : List (List ℕ)) → NameOnu (word ∷ parts) parts

-- the word of a grant that names an ONU-ID, or another
onu_told : (word digits : List ℕ)
    → ((word ≡ codes "range") × (onu_grant word digits ≡ range_grant digits))
    ⊎ ((word ≡ codes "poll") × (onu_grant word digits ≡ poll_grant digits))
    ⊎ (IsNoOnu word × (onu_grant word digits ≡ Err fault.Word))
unfolding onu_grant
onu_told word digits =
    elim (word_told word (codes "range")) [
      | inl range ↦ inl (range, rw range refl)
      | inr other ↦
          elim (word_told word (codes "poll")) [
            | inl poll ↦ inr (inl (poll, rw poll refl))
            | inr neither ↦ inr (inr ((other.1, neither.1), rw (other.0, neither.0) refl))
          ]
    ]

range_word : (word : List ℕ) → word ≡ codes "range" → IsOnuWord word
range_word word is parts = inl (with_word word (codes "range") parts is)

poll_word : (word : List ℕ) → word ≡ codes "poll" → IsOnuWord word
poll_word word is parts = inr (with_word word (codes "poll") parts is)

-- the number that a grant names is right
onu_right : (digits : List ℕ) (onu : ℕ) → number_in 0 253 digits ≡ Ok onu → IsOnu digits
onu_right digits onu h =
    let read = number_ok 0 253 digits onu h in
    (read.0.0, omega (arith, read.0.1, read.2))

-- what is read of a grant is spelled so
onu_spelled : (word digits : List ℕ) (grant : Grant) → onu_grant word digits ≡ Ok grant → SpellsGrant (word ∷ digits ∷ []) grant
unfolding range_grant poll_grant
onu_spelled word digits grant h =
    elim (onu_told word digits) [
      | inl range ↦
          let onu = step_ok (number_in 0 253 digits) _ grant (sym range.1 ∙ h) in
          let read = number_ok 0 253 digits onu.0 onu.1 in
          subst (SpellsGrant (word ∷ digits ∷ [])) (ok_same _ grant onu.2) (digits, with_word word (codes "range") (digits ∷ []) range.0, read.0, read.2)
      | inr (inl poll) ↦
          let onu = step_ok (number_in 0 253 digits) _ grant (sym poll.1 ∙ h) in
          let read = number_ok 0 253 digits onu.0 onu.1 in
          subst (SpellsGrant (word ∷ digits ∷ [])) (ok_same _ grant onu.2) (digits, with_word word (codes "poll") (digits ∷ []) poll.0, read.0, read.2)
      | inr (inr other) ↦ cc (sym other.1 ∙ h)
    ]

onu_named : (word digits : List ℕ) (grant : Grant) → onu_grant word digits ≡ Ok grant → IsOnuWord word × IsOnu digits
unfolding range_grant poll_grant
onu_named word digits grant h =
    elim (onu_told word digits) [
      | inl range ↦
          let onu = step_ok (number_in 0 253 digits) _ grant (sym range.1 ∙ h) in
          (range_word word range.0, onu_right digits onu.0 onu.1)
      | inr (inl poll) ↦
          let onu = step_ok (number_in 0 253 digits) _ grant (sym poll.1 ∙ h) in
          (poll_word word poll.0, onu_right digits onu.0 onu.1)
      | inr (inr other) ↦ cc (sym other.1 ∙ h)
    ]

-- the word is no such word, or the number that it names is wrong
onu_wrong : (word digits : List ℕ) (f : LineFault) → onu_grant word digits ≡ Err f
    → (IsNoOnu word × (f ≡ fault.Word)) ⊎ (IsOnuWord word × HasNumberFault 0 253 digits f)
unfolding range_grant poll_grant
onu_wrong word digits f h =
    elim (onu_told word digits) [
      | inl range ↦
          elim (step_err (number_in 0 253 digits) _ f (sym range.1 ∙ h)) [
            | inl wrong ↦ inr (range_word word range.0, outside_told 0 253 digits f wrong)
            | inr onu ↦ cc onu.2
          ]
      | inr (inl poll) ↦
          elim (step_err (number_in 0 253 digits) _ f (sym poll.1 ∙ h)) [
            | inl wrong ↦ inr (poll_word word poll.0, outside_told 0 253 digits f wrong)
            | inr onu ↦ cc onu.2
          ]
      | inr (inr other) ↦ inl (other.0, sym (err_same fault.Word f (sym other.1 ∙ h)))
    ]

no_onu : (word : List ℕ) (parts others : List (List ℕ)) → IsNoOnu word → NameOnu (word ∷ parts) others → ⊥
no_onu word parts others none (inl range) = none.0 (first_same word (codes "range") parts others range)
no_onu word parts others none (inr poll) = none.1 (first_same word (codes "poll") parts others poll)

-- what stands behind the word
named_rest : (word : List ℕ) (parts others : List (List ℕ)) → NameOnu (word ∷ parts) others → parts ≡ others
named_rest word parts others (inl range) = rest_same word (codes "range") parts others range
named_rest word parts others (inr poll) = rest_same word (codes "poll") parts others poll

-- ---- how many frames at most

within_known : (digits : List ℕ) → bound_of (codes "within" ∷ digits ∷ []) ≡ Ok (Some digits)
unfolding within_of
within_known digits = refl

bound_back : (parts : List (List ℕ)) (bound : Option (List ℕ)) → AreOfBound parts bound → bound_of parts ≡ Ok bound
bound_back parts None are = ap bound_of are
bound_back parts (Some digits) are = ap bound_of are ∙ within_known digits

within_ok : (parts : List (List ℕ)) (bound : Option (List ℕ)) → within_of parts ≡ Ok bound → AreOfBound parts bound
unfolding within_of
within_ok parts bound h =
    let fields = step_ok (two_of parts) _ bound h in
    elim (word_told fields.0.0 (codes "within")) [
      | inl is ↦
          subst (AreOfBound parts) (ok_same (Some fields.0.1) bound (rw is at fields.2))
          (two_ok parts fields.0 fields.1 ∙ ap (λ (w : List ℕ). w ∷ fields.0.1 ∷ []) is)
      | inr other ↦ cc (rw other.0 at fields.2)
    ]

bound_ok : (parts : List (List ℕ)) (bound : Option (List ℕ)) → bound_of parts ≡ Ok bound → AreOfBound parts bound
bound_ok [] bound h = subst (AreOfBound []) (ok_same None bound h) refl
bound_ok (word ∷ others) bound h = within_ok (word ∷ others) bound h

within_err : (parts : List (List ℕ)) (f : LineFault) → within_of parts ≡ Err f → fault.Word ≡ f
unfolding within_of
within_err parts f h =
    elim (step_err (two_of parts) _ f h) [
      | inl wrong ↦ err_same fault.Word f (two_missing parts f wrong)
      | inr fields ↦
          elim (word_told fields.0.0 (codes "within")) [
            | inl is ↦ cc (rw is at fields.2)
            | inr other ↦ err_same fault.Word f (rw other.0 at fields.2)
          ]
    ]

bound_err : (parts : List (List ℕ)) (f : LineFault) → bound_of parts ≡ Err f → fault.Word ≡ f
bound_err [] f h = cc h
bound_err (word ∷ others) f h = within_err (word ∷ others) f h

no_bound : (parts : List (List ℕ)) (f : LineFault) → bound_of parts ≡ Err f → (bound : Option (List ℕ)) → AreOfBound parts bound → ⊥
no_bound parts f h bound are = cc (sym h ∙ bound_back parts bound are)

bound_none : (parts : List (List ℕ)) (f : LineFault) → ((bound : Option (List ℕ)) → AreOfBound parts bound → ⊥) → f ≡ fault.Word → bound_of parts ≡ Err f
bound_none parts f none is =
    elim (either (bound_of parts)) [
      | inl bound ↦ absurd (none bound.0 (bound_ok parts bound.0 bound.1))
      | inr wrong ↦ wrong.1 ∙ ap (λ (g : LineFault). Err g) (sym (bound_err parts wrong.0 wrong.1) ∙ sym is)
    ]

most_ok : (parts : List (List ℕ)) (bound : Option (List ℕ)) (most : ℕ) → AreOfBound parts bound → most_of bound ≡ Ok most → SpellsBound parts most
most_ok parts None most are h = inl (are, sym (ok_same 1000000 most h))
most_ok parts (Some digits) most are h =
    let read = number_ok 1 1000000 digits most h in
    inr (digits, are, read.0, read.1, read.2)

most_back : (parts : List (List ℕ)) (most : ℕ) → SpellsBound parts most → (bound : Option (List ℕ)) × AreOfBound parts bound × (most_of bound ≡ Ok most)
most_back parts most (inl whole) = (None, whole.0, subst (λ (n : ℕ). most_of None ≡ Ok n) (sym whole.1) refl)
most_back parts most (inr (digits, is, spelled, from, to)) = (Some digits, is, number_back 1 1000000 digits most spelled from to)

most_wrong : (bound : Option (List ℕ)) (f : LineFault) → most_of bound ≡ Err f → HasBoundFault bound f
most_wrong None f h = cc h
most_wrong (Some digits) f h = outside_told 1 1000000 digits f h

most_refused : (bound : Option (List ℕ)) (f : LineFault) → HasBoundFault bound f → most_of bound ≡ Err f
most_refused None f h = absurd h
most_refused (Some digits) f h = outside_again 1 1000000 digits f h

-- ---- what is read is spelled so

-- the parts ask for frames up to a grant
pub record AskUntil (parts : List (List ℕ)) (port : ℕ) (x : Asked) : Type 0 where
  pub named : List (List ℕ)
  pub behind : List (List ℕ)
  pub grant : Grant
  pub most : ℕ
  pub parts_are : parts ≡ named ++ behind
  pub spelled : SpellsGrant named grant
  pub bound : SpellsBound behind most
  pub asked_is : asked.Until port grant most ≡ x

search_read : (port : ℕ) (word : List ℕ) (behind : List (List ℕ)) (x : Asked) → word ≡ codes "search" → search_turn port behind ≡ Ok x → AskUntil (word ∷ behind) port x
unfolding search_turn
search_read port word behind x is h =
    let bound = step_ok (bound_of behind) _ x h in
    let most = step_ok (most_of bound.0) _ x bound.2 in
    record {
      named = codes "search" ∷ [];
      behind = behind;
      grant = grants.Search;
      most = most.0;
      parts_are = with_word word (codes "search") behind is;
      spelled = refl;
      bound = most_ok behind bound.0 most.0 (bound_ok behind bound.0 bound.1) most.1;
      asked_is = ok_same _ x most.2;
    }

onu_read : (port : ℕ) (word digits : List ℕ) (behind : List (List ℕ)) (x : Asked) → onu_turn port word digits behind ≡ Ok x → AskUntil (word ∷ digits ∷ behind) port x
unfolding onu_turn
onu_read port word digits behind x h =
    let bound = step_ok (bound_of behind) _ x h in
    let grant = step_ok (onu_grant word digits) _ x bound.2 in
    let most = step_ok (most_of bound.0) _ x grant.2 in
    record {
      named = word ∷ digits ∷ [];
      behind = behind;
      grant = grant.0;
      most = most.0;
      parts_are = refl;
      spelled = onu_spelled word digits grant.0 grant.1;
      bound = most_ok behind bound.0 most.0 (bound_ok behind bound.0 bound.1) most.1;
      asked_is = ok_same _ x most.2;
    }

named_read : (port : ℕ) (word : List ℕ) (parts : List (List ℕ)) (x : Asked) → named_turn port word parts ≡ Ok x → AskUntil (word ∷ parts) port x
named_read port word [] x h = cc h
named_read port word (digits ∷ behind) x h = onu_read port word digits behind x h

-- by the word of the grant
grant_told : (port : ℕ) (word : List ℕ) (parts : List (List ℕ))
    → ((word ≡ codes "search") × (grant_turn port word parts ≡ search_turn port parts))
    ⊎ ((word ≡ codes "search" → ⊥) × (grant_turn port word parts ≡ named_turn port word parts))
unfolding grant_turn
grant_told port word parts =
    elim (word_told word (codes "search")) [
      | inl search ↦ inl (search, rw search refl)
      | inr other ↦ inr (other.1, rw other.0 refl)
    ]

pub grant_read : (port : ℕ) (parts : List (List ℕ)) (x : Asked) → until_turn port parts ≡ Ok x → AskUntil parts port x
grant_read port [] x h = cc h
grant_read port (word ∷ parts) x h =
    elim (grant_told port word parts) [
      | inl search ↦ search_read port word parts x search.0 (sym search.1 ∙ h)
      | inr other ↦ named_read port word parts x (sym other.1 ∙ h)
    ]

-- ---- what is spelled so is read

search_again : (port : ℕ) (behind : List (List ℕ)) (most : ℕ) → SpellsBound behind most
    → until_turn port (codes "search" ∷ behind) ≡ Ok (asked.Until port grants.Search most)
unfolding grant_turn search_turn
search_again port behind most spelled =
    let bound = most_back behind most spelled in
    rw (bound_back behind bound.0 bound.1, bound.2) refl

range_again : (port : ℕ) (digits : List ℕ) (behind : List (List ℕ)) (onu most : ℕ) → number_in 0 253 digits ≡ Ok onu → SpellsBound behind most
    → until_turn port (codes "range" ∷ digits ∷ behind) ≡ Ok (asked.Until port (grants.Range onu) most)
unfolding grant_turn onu_turn onu_grant range_grant
range_again port digits behind onu most h spelled =
    let bound = most_back behind most spelled in
    rw (bound_back behind bound.0 bound.1, h, bound.2) refl

poll_again : (port : ℕ) (digits : List ℕ) (behind : List (List ℕ)) (onu most : ℕ) → number_in 0 253 digits ≡ Ok onu → SpellsBound behind most
    → until_turn port (codes "poll" ∷ digits ∷ behind) ≡ Ok (asked.Until port (grants.Poll onu) most)
unfolding grant_turn onu_turn onu_grant poll_grant
poll_again port digits behind onu most h spelled =
    let bound = most_back behind most spelled in
    rw (bound_back behind bound.0 bound.1, h, bound.2) refl

pub grant_again : (port : ℕ) (named behind : List (List ℕ)) (grant : Grant) (most : ℕ) → SpellsGrant named grant → SpellsBound behind most
    → until_turn port (named ++ behind) ≡ Ok (asked.Until port grant most)
grant_again port named behind grants.Search most spelled bound =
    ap (λ (ps : List (List ℕ)). until_turn port (ps ++ behind)) spelled ∙ search_again port behind most bound
grant_again port named behind (grants.Range onu) most spelled bound =
    ap (λ (ps : List (List ℕ)). until_turn port (ps ++ behind)) spelled.1
    ∙ range_again port spelled.0 behind onu most (number_back 0 253 spelled.0 onu spelled.2 (omega arith) spelled.3) bound
grant_again port named behind (grants.Poll onu) most spelled bound =
    ap (λ (ps : List (List ℕ)). until_turn port (ps ++ behind)) spelled.1
    ∙ poll_again port spelled.0 behind onu most (number_back 0 253 spelled.0 onu spelled.2 (omega arith) spelled.3) bound

-- ---- faults

no_search : (word : List ℕ) (parts : List (List ℕ)) (bound : Option (List ℕ)) → (word ≡ codes "search" → ⊥) → AreOfSearch (word ∷ parts) bound → ⊥
no_search word parts bound none are = none (first_same word (codes "search") parts are.0 are.1)

no_search_bound : (word : List ℕ) (parts : List (List ℕ)) (f : LineFault) → bound_of parts ≡ Err f → (bound : Option (List ℕ)) → AreOfSearch (word ∷ parts) bound → ⊥
no_search_bound word parts f wrong bound are =
    no_bound parts f wrong bound (subst (λ (ps : List (List ℕ)). AreOfBound ps bound) (sym (rest_same word (codes "search") parts are.0 are.1)) are.2)

no_onu_bound : (word digits : List ℕ) (parts : List (List ℕ)) (f : LineFault) → bound_of parts ≡ Err f → (d : List ℕ) (bound : Option (List ℕ))
    → AreOfOnu (word ∷ digits ∷ parts) d bound → ⊥
no_onu_bound word digits parts f wrong d bound are =
    let rest = rest_same digits d parts are.0 (named_rest word (digits ∷ parts) (d ∷ are.0) are.1) in
    no_bound parts f wrong bound (subst (λ (ps : List (List ℕ)). AreOfBound ps bound) (sym rest) are.2)

search_no_onu : (word : List ℕ) → word ≡ codes "search" → IsNoOnu word
search_no_onu word is = (λ range. cc (sym is ∙ range), λ poll. cc (sym is ∙ poll))

search_fault : (port : ℕ) (word : List ℕ) (parts : List (List ℕ)) (f : LineFault) → word ≡ codes "search" → search_turn port parts ≡ Err f → HaveGrantFault (word ∷ parts) f
unfolding search_turn
search_fault port word parts f is h =
    elim (step_err (bound_of parts) _ f h) [
      | inl wrong ↦
          inl (
            no_search_bound word parts f wrong,
            λ digits bound are. no_onu word parts (digits ∷ are.0) (search_no_onu word is) are.1,
            sym (bound_err parts f wrong),
          )
      | inr bound ↦
          elim (step_err (most_of bound.0) _ f bound.2) [
            | inl wrong ↦
                inr (inl (bound.0, (parts, with_word word (codes "search") parts is, bound_ok parts bound.0 bound.1), most_wrong bound.0 f wrong))
            | inr most ↦ cc most.2
          ]
    ]

onu_fault : (port : ℕ) (word digits : List ℕ) (behind : List (List ℕ)) (f : LineFault) → (word ≡ codes "search" → ⊥) → onu_turn port word digits behind ≡ Err f
    → HaveGrantFault (word ∷ digits ∷ behind) f
unfolding onu_turn
onu_fault port word digits behind f other h =
    elim (step_err (bound_of behind) _ f h) [
      | inl wrong ↦
          inl (λ bound. no_search word (digits ∷ behind) bound other, no_onu_bound word digits behind f wrong, sym (bound_err behind f wrong))
      | inr bound ↦
          elim (step_err (onu_grant word digits) _ f bound.2) [
            | inl wrong ↦
                elim (onu_wrong word digits f wrong) [
                  | inl none ↦
                      inl (
                        λ b. no_search word (digits ∷ behind) b other,
                        λ d b are. no_onu word (digits ∷ behind) (d ∷ are.0) none.0 are.1,
                        none.1,
                      )
                  | inr named ↦
                      inr (inr (digits, bound.0, (behind, named.0 (digits ∷ behind), bound_ok behind bound.0 bound.1), inl named.1))
                ]
            | inr grant ↦
                elim (step_err (most_of bound.0) _ f grant.2) [
                  | inl wrong ↦
                      let named = onu_named word digits grant.0 grant.1 in
                      inr (
                      inr (
                        digits,
                        bound.0,
                        (behind, named.0 (digits ∷ behind), bound_ok behind bound.0 bound.1),
                        inr (named.1, most_wrong bound.0 f wrong),
                      )
                      )
                  | inr most ↦ cc most.2
                ]
          ]
    ]

named_fault : (port : ℕ) (word : List ℕ) (parts : List (List ℕ)) (f : LineFault) → (word ≡ codes "search" → ⊥) → named_turn port word parts ≡ Err f
    → HaveGrantFault (word ∷ parts) f
named_fault port word [] f other h =
    inl (
      λ bound. no_search word [] bound other,
      λ d bound are. cc (named_rest word [] (d ∷ are.0) are.1),
      sym (err_same fault.Word f h),
    )
named_fault port word (digits ∷ behind) f other h = onu_fault port word digits behind f other h

no_names : (others : List (List ℕ)) → NameOnu [] others → ⊥
no_names others (inl range) = cc range
no_names others (inr poll) = cc poll

-- nothing is no grant
pub nothing_fault : (f : LineFault) → f ≡ fault.Word → HaveGrantFault [] f
nothing_fault f is = inl (λ bound are. cc are.1, λ d bound are. no_names (d ∷ are.0) are.1, is)

pub grant_fault : (port : ℕ) (parts : List (List ℕ)) (f : LineFault) → until_turn port parts ≡ Err f → HaveGrantFault parts f
grant_fault port [] f h = nothing_fault f (sym (err_same fault.Word f h))
grant_fault port (word ∷ parts) f h =
    elim (grant_told port word parts) [
      | inl search ↦ search_fault port word parts f search.0 (sym search.1 ∙ h)
      | inr other ↦ named_fault port word parts f other.0 (sym other.1 ∙ h)
    ]

-- ---- faults are told

search_unbound : (port : ℕ) (parts : List (List ℕ)) (f : LineFault) → bound_of parts ≡ Err f → search_turn port parts ≡ Err f
unfolding search_turn
search_unbound port parts f h = rw h refl

onu_unbound : (port : ℕ) (word digits : List ℕ) (parts : List (List ℕ)) (f : LineFault) → bound_of parts ≡ Err f → onu_turn port word digits parts ≡ Err f
unfolding onu_turn
onu_unbound port word digits parts f h = rw h refl

onu_unnamed : (port : ℕ) (word digits : List ℕ) (parts : List (List ℕ)) (bound : Option (List ℕ)) (f : LineFault) → bound_of parts ≡ Ok bound
    → onu_grant word digits ≡ Err f → onu_turn port word digits parts ≡ Err f
unfolding onu_turn
onu_unnamed port word digits parts bound f h none = rw (h, none) refl

onu_missing : (port : ℕ) (word digits : List ℕ) (behind : List (List ℕ)) (f : LineFault)
    → ((d : List ℕ) (bound : Option (List ℕ)) → AreOfOnu (word ∷ digits ∷ behind) d bound → ⊥) → f ≡ fault.Word → onu_turn port word digits behind ≡ Err f
onu_missing port word digits behind f none is =
    elim (either (bound_of behind)) [
      | inl bound ↦
          let are = bound_ok behind bound.0 bound.1 in
          elim (onu_told word digits) [
            | inl range ↦ absurd (none digits bound.0 (behind, range_word word range.0 (digits ∷ behind), are))
            | inr (inl poll) ↦ absurd (none digits bound.0 (behind, poll_word word poll.0 (digits ∷ behind), are))
            | inr (inr other) ↦ onu_unnamed port word digits behind bound.0 f bound.1 (other.1 ∙ word_fault f is)
          ]
      | inr wrong ↦
          onu_unbound port word digits behind f (wrong.1 ∙ ap (λ (g : LineFault). Err g) (sym (bound_err behind wrong.0 wrong.1) ∙ sym is))
    ]

named_missing : (port : ℕ) (word : List ℕ) (parts : List (List ℕ)) (f : LineFault)
    → ((d : List ℕ) (bound : Option (List ℕ)) → AreOfOnu (word ∷ parts) d bound → ⊥) → f ≡ fault.Word → named_turn port word parts ≡ Err f
named_missing port word [] f none is = word_fault f is
named_missing port word (digits ∷ behind) f none is = onu_missing port word digits behind f none is

words_missing : (port : ℕ) (parts : List (List ℕ)) (f : LineFault) → ((bound : Option (List ℕ)) → AreOfSearch parts bound → ⊥)
    → ((d : List ℕ) (bound : Option (List ℕ)) → AreOfOnu parts d bound → ⊥) → f ≡ fault.Word → until_turn port parts ≡ Err f
words_missing port [] f search onu is = word_fault f is
words_missing port (word ∷ parts) f search onu is =
    elim (grant_told port word parts) [
      | inl same ↦
          same.1
          ∙ search_unbound port parts f (bound_none parts f (λ bound are. search bound (parts, with_word word (codes "search") parts same.0, are)) is)
      | inr other ↦ other.1 ∙ named_missing port word parts f onu is
    ]

search_refused : (port : ℕ) (behind : List (List ℕ)) (bound : Option (List ℕ)) (f : LineFault) → bound_of behind ≡ Ok bound → most_of bound ≡ Err f
    → until_turn port (codes "search" ∷ behind) ≡ Err f
unfolding grant_turn search_turn
search_refused port behind bound f is wrong = rw (is, wrong) refl

range_refused : (port : ℕ) (digits : List ℕ) (behind : List (List ℕ)) (bound : Option (List ℕ)) (f : LineFault) → bound_of behind ≡ Ok bound
    → HasNumberFault 0 253 digits f ⊎ (IsOnu digits × HasBoundFault bound f) → until_turn port (codes "range" ∷ digits ∷ behind) ≡ Err f
unfolding grant_turn onu_turn onu_grant range_grant
range_refused port digits behind bound f is (inl wrong) = rw (is, outside_again 0 253 digits f wrong) refl
range_refused port digits behind bound f is (inr (onu, wrong)) =
    rw (is, number_back 0 253 digits (digits_value 10 digits) (onu.0, refl) (omega arith) onu.1, most_refused bound f wrong) refl

poll_refused : (port : ℕ) (digits : List ℕ) (behind : List (List ℕ)) (bound : Option (List ℕ)) (f : LineFault) → bound_of behind ≡ Ok bound
    → HasNumberFault 0 253 digits f ⊎ (IsOnu digits × HasBoundFault bound f) → until_turn port (codes "poll" ∷ digits ∷ behind) ≡ Err f
unfolding grant_turn onu_turn onu_grant poll_grant
poll_refused port digits behind bound f is (inl wrong) = rw (is, outside_again 0 253 digits f wrong) refl
poll_refused port digits behind bound f is (inr (onu, wrong)) =
    rw (is, number_back 0 253 digits (digits_value 10 digits) (onu.0, refl) (omega arith) onu.1, most_refused bound f wrong) refl

pub grant_refused : (port : ℕ) (parts : List (List ℕ)) (f : LineFault) → HaveGrantFault parts f → until_turn port parts ≡ Err f
grant_refused port parts f (inl (search, onu, is)) = words_missing port parts f search onu is
grant_refused port parts f (inr (inl (bound, are, wrong))) =
    ap (until_turn port) are.1 ∙ search_refused port are.0 bound f (bound_back are.0 bound are.2) (most_refused bound f wrong)
grant_refused port parts f (inr (inr (digits, bound, (behind, inl range, are), wrong))) =
    ap (until_turn port) range ∙ range_refused port digits behind bound f (bound_back behind bound are) wrong
grant_refused port parts f (inr (inr (digits, bound, (behind, inr poll, are), wrong))) =
    ap (until_turn port) poll ∙ poll_refused port digits behind bound f (bound_back behind bound are) wrong

-- ---- what the code reads

-- behind a space something stands
pub bound_cut : (text : List ℕ) → bound_of (parts_of text) ≡ within_of (parts_of text)
bound_cut text = let some = parts_some text in ap bound_of some.2 ∙ ap within_of (sym some.2)
