use Rattle.std.proofs.Common.{◌≡◌, ◌<◌, ◌≤◌, ◌∙◌, ℕ, sym, ap, subst, refl, get_or, take, map, rules, length, length-set, [], arith}
use Rattle.std.specs.Prelude.{Option, None, Some}
use Rattle.std.proofs.lemmas.Bool.{false≢true}
use Rattle.std.proofs.lemmas.List.{get_or-replicate, length-replicate, take_all}
use Rattle.std.proofs.lemmas.List.Elements.{All-more, All-set}
use Rattle.gp_accounts.specs.Accounted.{IsNamed, numbers_on}
use Rattle.gp_accounts.specs.Places.{IsPlaceOf}
use Rattle.gp_machine.specs.declared.entry.Receipt.{Receipt}
use Rattle.gp_accounts.proofs.Numbers.{IsLastOf, rising_none, next_rises, rises_more, last_more}
use Rattle.gp_accounts.proofs.Standing.{grow_none, grow_more, named_again, place_names, place_below}
use Rattle.gp_accounts.proofs.marking.mark_each.Goals as goal

pub loop-receipt-init : goal.loop-receipt-init
loop-receipt-init g c = record {
  named = λ k d l. absurd (omega (arith, l));
  rising = λ port. rising_none;
  len = length-replicate {A = Option ℕ} 256 None;
  last = λ port l. subst (λ (o : Option ℕ). IsLastOf o []) (sym (get_or-replicate 256 port None None l)) refl;
  marked = grow_none (map g.J.Recorded.history c.args.journals.now) c.args.marks.now;
  once = c.requires.once;
}

pub returns-in_default-clause-refused : goal.returns-in_default-clause-refused
returns-in_default-clause-refused g c = λ f named rising.
    absurd (c.in_default.ensures (subst (IsNamed (map g.J.Recorded.history c.args.journals.now)) (sym c.receipt-item.is) (named c.loop-receipt.receipt-index c.receipt-item.result c.loop-receipt-test.true)))

pub returns-then-not-is_above-clause-refused : goal.returns-then-not-is_above-clause-refused
returns-then-not-is_above-clause-refused g c = λ f named h.
    let rs = c.args.receipts.now in
    let i = c.loop-receipt.receipt-index in
    let r = c.receipt-item.result in
    let port = c.from-port.result in
    let item : get_or rs i r ≡ r = sym c.receipt-item.is in
    let low : port < 256 = search rules in
    let on : (get_or rs i r).port ≡ port = ap (λ (w : Receipt). w.port) item ∙ sym c.from-port.ensures in
    absurd (false≢true (c.if-not-is_above.ensures.1
    (λ before some. subst (λ (n : ℕ). before < n) (ap (λ (w : Receipt). w.number) item)
    (next_rises rs i r port (get_or c.loop-receipt.last port None) c.loop-receipt-test.true on (c.loop-receipt.invariant.last port low) (h port) before some))))

pub returns-then-marks-place-ne0-clause-refused : goal.returns-then-marks-place-ne0-clause-refused
returns-then-marks-place-ne0-clause-refused g c = λ f named rising.
    named_again (map g.J.Recorded.history c.args.journals.now) c.args.marks.now c.loop-receipt.marks c.args.receipts.now c.loop-receipt.receipt-index c.in-Some.place c.receipt-item.result c.loop-receipt-test.true
    (subst (λ (r : Receipt). IsPlaceOf (map g.J.Recorded.history c.args.journals.now) r c.in-Some.place) c.receipt-item.is c.in-Some.ensures) c.if-marks-place-ne0.true c.loop-receipt.invariant.marked

pub loop-receipt-preserved : goal.loop-receipt-preserved
loop-receipt-preserved g c =
    let hs = map g.J.Recorded.history c.args.journals.now in
    let rs = c.args.receipts.now in
    let i = c.loop-receipt.receipt-index in
    let r = c.receipt-item.result in
    let port = c.from-port.result in
    let last = c.loop-receipt.last in
    let inv = c.loop-receipt.invariant in
    let more = c.loop-receipt-test.true in
    let item : get_or rs i r ≡ r = sym c.receipt-item.is in
    let low : port < 256 = search rules in
    let on : (get_or rs i r).port ≡ port = ap (λ (w : Receipt). w.port) item ∙ sym c.from-port.ensures in
    let number : (get_or rs i r).number ≡ r.number = ap (λ (w : Receipt). w.number) item in
    let place : IsPlaceOf hs (get_or rs i r) c.in-Some.place = subst (λ (w : Receipt). IsPlaceOf hs w c.in-Some.place) (sym item) c.in-Some.ensures in
    let within : c.in-Some.place < length c.loop-receipt.marks = omega (arith, place_below hs _ _ place, c.requires.count, c.loop-receipt.auto.marks) in
    record {
      named = All-more (IsNamed hs) rs i r more inv.named (place_names hs _ _ place);
      rising = rises_more rs i r (get_or last port None) more
          (subst (λ (p : ℕ). IsLastOf (get_or last port None) (numbers_on p (take i rs))) (sym on) (inv.last port low))
          (λ before some. subst (λ (n : ℕ). before < n) (sym number) (c.if-not-is_above.ensures.0 refl before some)) inv.rising;
      last = last_more rs i r last port r.number more on number (rw inv.len low) inv.last;
      len = length-set last port (Some r.number) ∙ inv.len;
      marked = grow_more hs c.args.marks.now c.loop-receipt.marks rs i c.in-Some.place r more place within c.if-marks-place-ne0.false inv.marked;
      once = All-set (λ (m : ℕ). m ≤ 1) _ _ _ (omega arith) inv.once;
    }

pub bounds-marks-place : goal.bounds-marks-place
bounds-marks-place g c = omega (arith, place_below _ _ _ c.in-Some.ensures, c.requires.count, c.loop-receipt.auto.marks)

pub bounds-marks-place-in-loop-receipt : goal.bounds-marks-place-in-loop-receipt
bounds-marks-place-in-loop-receipt g c = omega (arith, place_below _ _ _ c.in-Some.ensures, c.requires.count, c.loop-receipt.auto.marks)

pub returns-clause-named : goal.returns-clause-named
returns-clause-named g c = λ t. rw (take_all c.loop-receipt.receipt-index c.args.receipts.now c.loop-receipt-test.false) at c.loop-receipt.invariant.named

pub returns-clause-rising : goal.returns-clause-rising
returns-clause-rising g c = λ t port. rw (take_all c.loop-receipt.receipt-index c.args.receipts.now c.loop-receipt-test.false) at (c.loop-receipt.invariant.rising port)
