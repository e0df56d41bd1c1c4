use Rattle.std.proofs.Common.{rules, refl, arith, codes, ◌≡◌}
use Rattle.std.proofs.lemmas.Slice.Eq.{text_from_reads}
use Rattle.gp_json.specs.Slots.{after_reply}
use Rattle.gp_json.proofs.slot.after_reply.Goals as goal

pub returns-in-searching : goal.returns-in-searching
unfolding after_reply
returns-in-searching c =
    let word : c.args.part.now ≡ codes "searching" = text_from_reads c.args.part.now (codes "searching") (omega arith) (search rules) in
    rw word refl

pub returns-in-repeat : goal.returns-in-repeat
unfolding after_reply
returns-in-repeat c =
    let word : c.args.part.now ≡ codes "repeat" = text_from_reads c.args.part.now (codes "repeat") (omega arith) (search rules) in
    rw word refl

pub returns-in-ranged : goal.returns-in-ranged
unfolding after_reply
returns-in-ranged c =
    let word : c.args.part.now ≡ codes "ranged" = text_from_reads c.args.part.now (codes "ranged") (omega arith) (search rules) in
    rw word refl

pub returns-in-116 : goal.returns-in-116
unfolding after_reply
returns-in-116 c =
    let word : c.args.part.now ≡ codes "too-far" = text_from_reads c.args.part.now (codes "too-far") (omega arith) (search rules) in
    rw word refl

pub returns-in-115 : goal.returns-in-115
unfolding after_reply
returns-in-115 c =
    let word : c.args.part.now ≡ codes "still-ranging" = text_from_reads c.args.part.now (codes "still-ranging") (omega arith) (search rules) in
    rw word refl

pub returns-in-restarted : goal.returns-in-restarted
unfolding after_reply
returns-in-restarted c =
    let word : c.args.part.now ≡ codes "restarted" = text_from_reads c.args.part.now (codes "restarted") (omega arith) (search rules) in
    rw word refl

pub returns-in-100 : goal.returns-in-100
unfolding after_reply
returns-in-100 c =
    let word : c.args.part.now ≡ codes "disabled-seen" = text_from_reads c.args.part.now (codes "disabled-seen") (omega arith) (search rules) in
    rw word refl

pub returns-in-allocated : goal.returns-in-allocated
unfolding after_reply
returns-in-allocated c =
    let word : c.args.part.now ≡ codes "allocated" = text_from_reads c.args.part.now (codes "allocated") (omega arith) (search rules) in
    rw word refl

pub returns-in-releasing : goal.returns-in-releasing
unfolding after_reply
returns-in-releasing c =
    let word : c.args.part.now ≡ codes "releasing" = text_from_reads c.args.part.now (codes "releasing") (omega arith) (search rules) in
    rw word refl

pub returns-in-deactivated : goal.returns-in-deactivated
unfolding after_reply
returns-in-deactivated c =
    let word : c.args.part.now ≡ codes "deactivated" = text_from_reads c.args.part.now (codes "deactivated") (omega arith) (search rules) in
    rw word refl

pub returns-in-disabled : goal.returns-in-disabled
unfolding after_reply
returns-in-disabled c =
    let word : c.args.part.now ≡ codes "disabled" = text_from_reads c.args.part.now (codes "disabled") (omega arith) (search rules) in
    rw word refl

pub returns-in-enabled : goal.returns-in-enabled
unfolding after_reply
returns-in-enabled c =
    let word : c.args.part.now ≡ codes "enabled" = text_from_reads c.args.part.now (codes "enabled") (omega arith) (search rules) in
    rw word refl

pub returns-in-101 : goal.returns-in-101
unfolding after_reply
returns-in-101 c =
    let word : c.args.part.now ≡ codes "enabled-all" = text_from_reads c.args.part.now (codes "enabled-all") (omega arith) (search rules) in
    rw word refl

pub returns-in-112 : goal.returns-in-112
unfolding after_reply
returns-in-112 c =
    let word : c.args.part.now ≡ codes "popped-up" = text_from_reads c.args.part.now (codes "popped-up") (omega arith) (search rules) in
    rw word refl

pub returns-in-112-2 : goal.returns-in-112-2
unfolding after_reply
returns-in-112-2 c =
    let word : c.args.part.now ≡ codes "popped-up-all" = text_from_reads c.args.part.now (codes "popped-up-all") (omega arith) (search rules) in
    rw word refl

pub returns-in-refused : goal.returns-in-refused
unfolding after_reply
returns-in-refused c =
    let word : c.args.part.now ≡ codes "refused" = text_from_reads c.args.part.now (codes "refused") (omega arith) (search rules) in
    rw word refl

pub returns-in-found : goal.returns-in-found
unfolding after_reply
returns-in-found c =
    let word : c.args.part.now ≡ codes "found" = text_from_reads c.args.part.now (codes "found") (omega arith) (search rules) in
    rw word refl

pub returns-in-again : goal.returns-in-again
unfolding after_reply
returns-in-again c =
    let word : c.args.part.now ≡ codes "again" = text_from_reads c.args.part.now (codes "again") (omega arith) (search rules) in
    rw word refl

pub returns-in-alive : goal.returns-in-alive
unfolding after_reply
returns-in-alive c =
    let word : c.args.part.now ≡ codes "alive" = text_from_reads c.args.part.now (codes "alive") (omega arith) (search rules) in
    rw word refl

pub returns-in-acked : goal.returns-in-acked
unfolding after_reply
returns-in-acked c =
    let word : c.args.part.now ≡ codes "acked" = text_from_reads c.args.part.now (codes "acked") (omega arith) (search rules) in
    rw word refl
