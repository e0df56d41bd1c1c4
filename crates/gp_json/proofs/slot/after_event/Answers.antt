use Rattle.std.proofs.Common.{rules, refl, arith, codes, ◌≡◌}
use Rattle.std.proofs.lemmas.Slice.Eq.{text_from_reads}
use Rattle.gp_json.specs.Slots.{after_event}
use Rattle.gp_json.proofs.slot.after_event.Goals as goal

pub returns-in-search : goal.returns-in-search
unfolding after_event
returns-in-search c =
    let word : c.args.part.now ≡ codes "search" = text_from_reads c.args.part.now (codes "search") (omega arith) (search rules) in
    rw word refl

pub returns-in-dealloc : goal.returns-in-dealloc
unfolding after_event
returns-in-dealloc c =
    let word : c.args.part.now ≡ codes "dealloc" = text_from_reads c.args.part.now (codes "dealloc") (omega arith) (search rules) in
    rw word refl

pub returns-in-deactivate : goal.returns-in-deactivate
unfolding after_event
returns-in-deactivate c =
    let word : c.args.part.now ≡ codes "deactivate" = text_from_reads c.args.part.now (codes "deactivate") (omega arith) (search rules) in
    rw word refl

pub returns-in-disable : goal.returns-in-disable
unfolding after_event
returns-in-disable c =
    let word : c.args.part.now ≡ codes "disable" = text_from_reads c.args.part.now (codes "disable") (omega arith) (search rules) in
    rw word refl

pub returns-in-enable : goal.returns-in-enable
unfolding after_event
returns-in-enable c =
    let word : c.args.part.now ≡ codes "enable" = text_from_reads c.args.part.now (codes "enable") (omega arith) (search rules) in
    rw word refl

pub returns-in-101 : goal.returns-in-101
unfolding after_event
returns-in-101 c =
    let word : c.args.part.now ≡ codes "enable-all" = text_from_reads c.args.part.now (codes "enable-all") (omega arith) (search rules) in
    rw word refl

pub returns-in-112 : goal.returns-in-112
unfolding after_event
returns-in-112 c =
    let word : c.args.part.now ≡ codes "popup-all" = text_from_reads c.args.part.now (codes "popup-all") (omega arith) (search rules) in
    rw word refl
