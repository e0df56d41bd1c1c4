-- What is appended is what is told.
use Rattle.std.proofs.Common.{◌≡◌, ℕ, ◌+◌, ◌<◌, ◌≤◌, Bool, true, false, List, [], ◌++◌, length, get_or, Option, Some, None, is_none, option_map, Result, Ok, Err, Vec, Global, vec_len, vec_capacity, codes, refl, sym, ap, subst, ◌∙◌, append-nil}
use Rattle.std.proofs.lemmas.Bool.{false≢true, ne_eqb, true≢false}
use Rattle.std.specs.declared.alloc.AllocError.{AllocError}
use Rattle.hex.specs.Hex.{encode_lower}
use Rattle.gp_ploam.specs.declared.check.Mask.{Mask}
use Rattle.gp_ploam.specs.declared.message.Serial.{Serial}
use Rattle.gp_decode.specs.Appending.{Appends}
use Rattle.gp_decode.specs.Line.{HasWords, HasWrongCheck}
use Rattle.gp_decode.specs.Message.{down_text, up_text}
use Rattle.gp_decode.proofs.Appending.{appends_second}
use Rattle.gp_observer.specs.Heard.{Heard}
use Rattle.gp_log.specs.declared.said.Said.{Said}
use Rattle.gp_finding.specs.Hearing.{is_right}
use Rattle.gp_finding.specs.Object.{onu_field, serial_field, text_or_null}
use Rattle.gp_finding.specs.Words.{code_words, digits_of, said_text, words_of, words_or}
use Rattle.gp_finding.proofs.Reading.{heard_down, heard_up}

-- what is appended of one is appended of what is the same
pub said_as : (said : Said) (heard other : Heard) (old new : Vec ℕ Global) (answer : Result Unit AllocError) → heard ≡ other
    → Appends (said_text said other) old new answer → Appends (said_text said heard) old new answer
said_as said heard other old new answer same a = subst (λ (h : Heard). Appends (said_text said h) old new answer) (sym same) a

pub onu_as : (found named : Option ℕ) (old new : Vec ℕ Global) (answer : Result Unit AllocError) → found ≡ named
    → Appends (onu_field found) old new answer → Appends (onu_field named) old new answer
onu_as found named old new answer same a = subst (λ (n : Option ℕ). Appends (onu_field n) old new answer) same a

pub serial_as : (found named : Option Serial) (old new : Vec ℕ Global) (answer : Result Unit AllocError) → found ≡ named
    → Appends (serial_field found) old new answer → Appends (serial_field named) old new answer
serial_as found named old new answer same a = subst (λ (s : Option Serial). Appends (serial_field s) old new answer) same a

-- ---- the words of a code

right_check : (mask : Mask) (code : List ℕ) → HasWrongCheck mask code → is_right mask code ≡ false
right_check mask code wrong = ne_eqb _ _ wrong

-- a code that has words is read as a message
words_are : (upstream : Bool) (mask : Mask) (code words : List ℕ) → ((n : ℕ) → get_or code n 0 < 256) → HasWords upstream mask code words
    → Some words ≡ code_words upstream mask code
words_are true mask code words small (m, read, is) = ap Some is ∙ ap (option_map up_text) (heard_up mask code m small read)
words_are false mask code words small (m, read, is) = ap Some is ∙ ap (option_map down_text) (heard_down mask code m small read)

-- and one with a wrong check octet as none
no_words : (upstream : Bool) (mask : Mask) (code : List ℕ) → HasWrongCheck mask code → None ≡ code_words upstream mask code
no_words true mask code wrong = rw (right_check mask code wrong) refl
no_words false mask code wrong = rw (right_check mask code wrong) refl

-- what is told of a code
abbrev pub code_text : Bool → Mask → List ℕ → List ℕ
code_text upstream mask code = words_or (encode_lower code) (code_words upstream mask code)

told_words : (upstream : Bool) (mask : Mask) (code words : List ℕ) → ((n : ℕ) → get_or code n 0 < 256) → HasWords upstream mask code words
    → words ≡ code_text upstream mask code
told_words upstream mask code words small has = ap (words_or (encode_lower code)) (words_are upstream mask code words small has)

pub words_told : (upstream : Bool) (mask : Mask) (code : List ℕ) (old new : Vec ℕ Global) → ((n : ℕ) → get_or code n 0 < 256)
    → (words : List ℕ) × HasWords upstream mask code words × (new.items ≡ old.items ++ words) → vec_capacity old ≤ vec_capacity new
    → Appends (code_text upstream mask code) old new (Ok tt)
words_told upstream mask code old new small (words, has, is) capacity = record {
  whole = is ∙ ap (λ (t : List ℕ). old.items ++ t) (told_words upstream mask code words small has);
  part = tt;
  room = tt;
  capacity = capacity;
}

pub words_begun : (upstream : Bool) (mask : Mask) (code : List ℕ) (old new : Vec ℕ Global) (e : AllocError) → ((n : ℕ) → get_or code n 0 < 256)
    → (part rest : List ℕ) × HasWords upstream mask code (part ++ rest) × (new.items ≡ old.items ++ part)
    → (words : List ℕ) × HasWords upstream mask code words × (vec_capacity old < vec_len old + length words) → vec_capacity old ≤ vec_capacity new
    → Appends (code_text upstream mask code) old new (Err e)
words_begun upstream mask code old new e small (part, rest, has, is) (words, have, full) capacity =
    let same : words ≡ code_text upstream mask code = told_words upstream mask code words small have in
    record {
      whole = tt;
      part = record { part = part; rest = rest; is_part = sym (told_words upstream mask code (part ++ rest) small has); after_is = is };
      room = subst (λ (t : List ℕ). vec_capacity old < vec_len old + length t) same full;
      capacity = capacity;
    }

pub digits_told : (upstream : Bool) (mask : Mask) (code : List ℕ) (old mid new : Vec ℕ Global) (answer : Result Unit AllocError) → HasWrongCheck mask code
    → mid.items ≡ old.items → vec_capacity old ≤ vec_capacity mid → Appends (encode_lower code) mid new answer
    → Appends (code_text upstream mask code) old new answer
digits_told upstream mask code old mid new answer wrong kept capacity a =
    let first : Appends [] old mid (Ok tt) = record { whole = kept ∙ sym (append-nil old.items); part = tt; room = tt; capacity = capacity } in
    let whole : Appends (encode_lower code) old new answer = appends_second (encode_lower code) [] (encode_lower code) old mid new (Ok tt) answer tt refl refl first a in
    subst (λ (t : List ℕ). Appends t old new answer) (ap (words_or (encode_lower code)) (no_words upstream mask code wrong)) whole

-- the words stand between quotation marks, where there are some
pub quoted_words : (said : Said) (heard other : Heard) (old new : Vec ℕ Global) (answer : Result Unit AllocError) → heard ≡ other
    → false ≡ is_none (words_of heard) → Appends (codes "\"" ++ said_text said other ++ codes "\"") old new answer
    → Appends (text_or_null (words_of heard)) old new answer
quoted_words said heard other old new answer same some a =
    by_words (words_of heard) some (subst (λ (h : Heard). Appends (codes "\"" ++ said_text said h ++ codes "\"") old new answer) (sym same) a)
  where
    by_words : (words : Option (List ℕ)) → false ≡ is_none words → Appends (codes "\"" ++ words_or (digits_of said) words ++ codes "\"") old new answer
        → Appends (text_or_null words) old new answer
    by_words None none b = absurd (false≢true none)
    by_words (Some words) some b = b

-- and null where there are none
pub null_told : (words : Option (List ℕ)) (old new : Vec ℕ Global) (answer : Result Unit AllocError) → true ≡ is_none words
    → Appends (codes "null") old new answer → Appends (text_or_null words) old new answer
null_told None old new answer none a = a
null_told (Some words) old new answer some a = absurd (true≢false some)
