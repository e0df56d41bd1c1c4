use Rattle.std.proofs.Common.{◌≡◌, ◌∙◌, ◌++◌, ◌∷◌, [], ℕ, map, get_or, ap, length, arith, rules}
use Rattle.std.specs.Prelude.{slice_index}
use Rattle.std.proofs.lemmas.List.{get_or_append_left, get_or_push}
use borrow.Author.Count.{below_more}
use Rattle.gp_accounts.specs.Places.{entries_before}
use Rattle.gp_accounts.proofs.Standing.{before_more}
use Rattle.gp_accounts.proofs.places.places_of.Goals as goal

pub loop-journal-preserved : goal.loop-journal-preserved
loop-journal-preserved g c =
    let inv = c.loop-journal.invariant in
    let i = c.loop-journal.journal-index in
    let hs = map g.J.Recorded.history c.args.journals.now in
    let more = before_more g.J.Recorded.history c.args.journals.now i c.journal-item.result c.loop-journal-test.true in
    let item = ap (λ j. length (g.J.Recorded.history j).entries) c.journal-item.is in
    let entries = ap length c.entries.ensures in
    let sum = c.in_ok-count.ensures in
    let long : length c.loop-journal.starts.items ≡ i = search (rules, inv.len) in
    let pushed : (p : ℕ) → slice_index c.push_reserved.new.self.items p ≡ slice_index (c.loop-journal.starts.items ++ c.loop-journal.count ∷ []) p =
    λ p. ap (λ xs. get_or xs p 0) c.push_reserved.ensures.items in
    record {
      room = search rules;
      len = search rules;
      count = omega (arith, sum.1, inv.count, more, item, entries);
      each = below_more (λ (p : ℕ). slice_index c.push_reserved.new.self.items p ≡ entries_before hs p) i
          (λ p l. pushed p ∙ get_or_append_left c.loop-journal.starts.items (c.loop-journal.count ∷ []) 0 p (omega (arith, l, long)) ∙ inv.each p l)
          (pushed i ∙ get_or_push c.loop-journal.starts.items c.loop-journal.count 0 i long ∙ inv.count);
    }
