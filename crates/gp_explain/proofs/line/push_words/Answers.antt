use Rattle.std.proofs.Common.{rules}
use Rattle.std.specs.Option.{option_copied}
use Rattle.gp_explain.proofs.RunLemmas.{at_space, part_long, pending_ended, pending_first, pending_next, run_ends}
use Rattle.gp_explain.proofs.line.push_words.Goals as goal

pub parts-init : goal.parts-init
parts-init c = pending_first c.args.out.now.items c.args.mask c.args.text.now c.cut.result.0.now _ _ c.cut.ensures c.after-place.ensures

pub push_run-requires-clause-ends : goal.push_run-requires-clause-ends
push_run-requires-clause-ends c =
    run_ends c.args.out.now.items c.args.mask c.args.text.now c.parts.place c.in-Some.behind.now c.parts.out.items c.parts.run.now
    (at_space c.args.out.now.items c.args.mask c.args.text.now c.parts.place _ c.in-Some.behind.now c.parts.out.items c.parts.run.now c.parts.invariant (search rules))

pub push_run-requires-clause-part : goal.push_run-requires-clause-part
push_run-requires-clause-part c = part_long c.in-Some.behind.now c.cut-in-Some.result.0.now _ c.cut-in-Some.ensures

pub parts-preserved : goal.parts-preserved
parts-preserved c =
    pending_next c.args.out.now.items c.args.mask c.args.text.now c.parts.place _ c.cut-in-Some.result.0.now c.in-Some.behind.now c.parts.out.items _ c.parts.run.now _ _
    (at_space c.args.out.now.items c.args.mask c.args.text.now c.parts.place _ c.in-Some.behind.now c.parts.out.items c.parts.run.now c.parts.invariant (search rules))
    c.cut-in-Some.ensures (search rules) c.after-place-in-Some.ensures

pub returns : goal.returns
returns c =
    pending_ended c.extend_from_slice-2.result c.args.out.now.items c.args.mask c.args.text.now c.parts.place (option_copied c.parts.rest) c.parts.out.items c.parts.run.now
    c.extend_from_slice.new.self.items c.extend_from_slice-2.new.self.items c.parts.invariant (search rules) (search rules) (search rules)
