-- Handing bytes to a sink several times.
use Rattle.std.proofs.Common.{◌≡◌, ◌||◌, ℕ, Bool, true, false, refl, arith, rules, List, [], ◌++◌, Result, Ok, Err, OnOk, OnErr, take, drop, take-append-drop, length, subst, sym, ◌∙◌, ap, append_assoc, append-nil, Option}
use Rattle.std.proofs.Math.Seq.{take-append_seam, take-length}
use Rattle.std.specs.Io.KnownBytes.{Appends, Keeps}
use Rattle.std.proofs.KnownBytes.{Appends-nil, Appends-kept, Appends-trans}
use Rattle.gp_stream.specs.Sink.{SinkState, Takes, TakesPrefix, Gives, Finishes, WritesWhole}

-- what holds at all holds where the result is an error
pub on_err : {T E P : Type 0} (r : Result T E) → P → OnErr r P
on_err (Ok x) p = tt
on_err (Err e) p = p

-- two lists handed in after one another, by how each is split
pub split_more : (gathered xs written between ys after rest : List ℕ) → gathered ++ xs ≡ written ++ between → between ++ ys ≡ after ++ rest
    → gathered ++ (xs ++ ys) ≡ (written ++ after) ++ rest
split_more gathered xs written between ys after rest first second =
    sym (append_assoc gathered xs ys) ∙ ap (λ l. l ++ ys) first ∙ append_assoc written between ys ∙ ap (λ l. written ++ l) second
    ∙ sym (append_assoc written after rest)

-- nothing was handed in
pub takes_nothing : {W : Type 0} (a : SinkState W) → Takes a a []
takes_nothing a = record { written = []; appended = Appends-nil a.held; rest = append-nil a.gathered }

-- bytes, and then bytes
pub takes_more : {W : Type 0} (a b c : SinkState W) (xs ys : List ℕ) → Takes a b xs → Takes b c ys → Takes a c (xs ++ ys)
takes_more a b c xs ys p q = record {
  written = p.written ++ q.written;
  appended = Appends-trans a.held b.held c.held p.written q.written p.appended q.appended;
  rest = split_more a.gathered xs p.written b.gathered ys q.written c.gathered p.rest q.rest;
}

-- bytes, and then a prefix of more
pub takes_prefix_after : {W : Type 0} (a b c : SinkState W) (xs ys : List ℕ) → Takes a b xs → TakesPrefix b c ys → TakesPrefix a c (xs ++ ys)
takes_prefix_after a b c xs ys p q = record {
  written = p.written ++ q.written;
  unwritten = q.unwritten;
  appended = Appends-trans a.held b.held c.held p.written q.written p.appended q.appended;
  rest = split_more a.gathered xs p.written b.gathered ys q.written q.unwritten p.rest q.rest;
}

-- what is gathered when the writing ends early was not written
pub takes_prefix_of : {W : Type 0} (a b : SinkState W) (xs : List ℕ) → Takes a b xs → TakesPrefix a b xs
takes_prefix_of a b xs p = record { written = p.written; unwritten = b.gathered; appended = p.appended; rest = p.rest }

-- a prefix of some bytes is a prefix of more
pub takes_prefix_more : {W : Type 0} (a b : SinkState W) (xs ys : List ℕ) → TakesPrefix a b xs → TakesPrefix a b (xs ++ ys)
takes_prefix_more a b xs ys p = record {
  written = p.written;
  unwritten = p.unwritten ++ ys;
  appended = p.appended;
  rest = sym (append_assoc a.gathered xs ys) ∙ ap (λ l. l ++ ys) p.rest ∙ append_assoc p.written p.unwritten ys;
}

-- a prefix of what was gathered was written
pub gathered_prefix : {W : Type 0} (seen a b : SinkState W) (count : ℕ) → seen ≡ a → Appends seen.held b.held (take count seen.gathered) → TakesPrefix a b []
gathered_prefix seen a b count same p = subst (λ s. TakesPrefix s b []) same (record {
  written = take count seen.gathered;
  unwritten = drop count seen.gathered;
  appended = p;
  rest = append-nil seen.gathered ∙ sym (take-append-drop count seen.gathered);
})

-- with nothing gathered, a prefix of the bytes was written
pub bytes_prefix : {W : Type 0} (seen a b : SinkState W) (bytes : List ℕ) → seen ≡ a → a.gathered ≡ [] → ((count : ℕ) × Appends seen.held b.held (take count bytes)) → TakesPrefix a b bytes
bytes_prefix seen a b bytes same none p = record {
  written = take p.0 bytes;
  unwritten = drop p.0 bytes;
  appended = subst (λ s. Appends s.held b.held (take p.0 bytes)) same p.1;
  rest = ap (λ l. l ++ bytes) none ∙ sym (take-append-drop p.0 bytes);
}

-- with nothing gathered before or after, all the bytes were written
pub bytes_whole : {W : Type 0} (seen a b : SinkState W) (bytes : List ℕ) → seen ≡ a → a.gathered ≡ [] → b.gathered ≡ seen.gathered → Appends seen.held b.held bytes → Takes a b bytes
bytes_whole seen a b bytes same none still p = record {
  written = bytes;
  appended = subst (λ s. Appends s.held b.held bytes) same p;
  rest = ap (λ l. l ++ bytes) none ∙ sym (append-nil bytes) ∙ ap (λ l. bytes ++ l) (sym (still ∙ ap (λ s. s.gathered) same ∙ none));
}

-- behind what was gathered, all the bytes were written
pub whole_behind : {W T E : Type 0} (r : Result T E) (a b seen c : SinkState W) (bytes : List ℕ) → Takes a b [] → b.gathered ≡ [] → seen ≡ b → c.gathered ≡ seen.gathered
    → OnOk r (Appends seen.held c.held bytes) → OnOk r (Takes a c bytes)
whole_behind (Ok x) a b seen c bytes before none same still p = takes_more a b c [] bytes before (bytes_whole seen b c bytes same none still p)
whole_behind (Err e) a b seen c bytes before none same still p = tt

-- behind what was gathered, a prefix of the bytes was written
pub prefix_behind : {W T E : Type 0} (r : Result T E) (a b seen c : SinkState W) (bytes : List ℕ) → Takes a b [] → b.gathered ≡ [] → seen ≡ b
    → OnErr r ((count : ℕ) × Appends seen.held c.held (take count bytes)) → OnErr r (TakesPrefix a c bytes)
prefix_behind (Ok x) a b seen c bytes before none same p = tt
prefix_behind (Err e) a b seen c bytes before none same p = takes_prefix_after a b c [] bytes before (bytes_prefix seen b c bytes same none p)

-- with nothing gathered before or after, the writer got all that was handed in
pub takes_whole : {W : Type 0} (a b : SinkState W) (bytes : List ℕ) → Takes a b bytes → a.gathered ≡ [] → b.gathered ≡ [] → Appends a.held b.held bytes
takes_whole a b bytes p none still =
    let same = sym (ap (λ l. l ++ bytes) none) ∙ p.rest ∙ ap (λ l. p.written ++ l) still ∙ append-nil p.written in
    subst (Appends a.held b.held) (sym same) p.appended

-- with nothing gathered before, the writer got a prefix of what was handed in
pub takes_prefix_count : {W : Type 0} (a b : SinkState W) (bytes : List ℕ) → TakesPrefix a b bytes → a.gathered ≡ [] → (count : ℕ) × Appends a.held b.held (take count bytes)
takes_prefix_count a b bytes p none =
    let prefix = ap (take (length p.written)) (sym (ap (λ l. l ++ bytes) none) ∙ p.rest) ∙ take-append_seam p.written p.unwritten in
    (length p.written, subst (Appends a.held b.held) (sym prefix) p.appended)

-- what was written stays when the writer then fails to hand it on
pub prefix_kept : (a b c : Option (List ℕ)) (bytes : List ℕ) → Appends a b bytes → Keeps b c → (count : ℕ) × Appends a c (take count bytes)
prefix_kept a b c bytes p q = (length bytes, rw (take-length bytes) (Appends-kept a b c bytes p q))

-- ---- what handing in leaves of a sink

-- a sink that was not refused has not stopped
unstopped : (old new : Bool) → (old ≡ true → false ≡ true) → new ≡ (old || false) → new ≡ false
unstopped false new h e = e
unstopped true new h e = e ∙ sym (h refl)

stopped_more : (a b c error : Bool) → b ≡ (a || false) → c ≡ (b || error) → c ≡ (a || error)
stopped_more false b c error p q = q ∙ ap (λ x. x || error) p
stopped_more true b c error p q = q ∙ ap (λ x. x || error) p

-- where bytes were taken, the sink has not stopped
pub gives_unstopped : {W T E : Type 0} (a b : SinkState W) (bytes : List ℕ) (r : Result T E) → Gives a b bytes r → OnOk r (b.stopped ≡ false)
gives_unstopped a b bytes (Ok x) p = unstopped a.stopped b.stopped (λ h. (p.refused h).0) p.stopped
gives_unstopped a b bytes (Err e) p = tt

not_refused : {P : Type 0} → false ≡ true → P
not_refused h = absurd (search (rules, h))

-- bytes, and then bytes
pub gives_more : {W S F T E : Type 0} (a b c : SinkState W) (xs ys : List ℕ) (x : S) (r : Result T E) → Gives {T = S} {E = F} a b xs (Ok x) → Gives b c ys r
    → Gives a c (xs ++ ys) r
gives_more a b c xs ys x (Ok y) p q = record {
  ok = takes_more a b c xs ys p.ok q.ok;
  error = tt;
  stopped = stopped_more a.stopped b.stopped c.stopped false p.stopped q.stopped;
  refused = λ h. not_refused (p.refused h).0;
  flushed = λ h. q.flushed (p.flushed h);
  room = let h = p.room in let k = q.room in omega arith;
}
gives_more a b c xs ys x (Err e) p q = record {
  ok = tt;
  error = takes_prefix_after a b c xs ys p.ok q.error;
  stopped = stopped_more a.stopped b.stopped c.stopped true p.stopped q.stopped;
  refused = λ h. not_refused (p.refused h).0;
  flushed = λ h. tt;
  room = let h = p.room in let k = q.room in omega arith;
}

-- bytes that were put in, and then all written out
pub writes_whole : {W S F T E : Type 0} (a b c : SinkState W) (bytes : List ℕ) (x : S) (r : Result T E) → Gives {T = S} {E = F} a b bytes (Ok x) → Finishes b c r
    → WritesWhole a c bytes r
writes_whole a b c bytes x r p q = record {
  gives = subst (λ (l : List ℕ). Gives a c l r) (append-nil bytes) (gives_more a b c bytes [] x r p q.gives);
  empty = q.empty;
  finished = gives_unstopped b c [] r q.gives;
}
