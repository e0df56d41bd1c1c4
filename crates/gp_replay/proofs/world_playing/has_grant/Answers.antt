use Rattle.std.proofs.Common.{◌≡◌, Some, rules, refl, false, subst, sym}
use Rattle.std.proofs.Math.Seq.{take_all}
use Rattle.gp_machine.specs.declared.entry.Entry.{Entry}
use Rattle.gp_replay.specs.Playing.{HasGrant}
use Rattle.gp_replay.proofs.PlayLemmas.{not_both}
use Rattle.gp_replay.proofs.PlayingLemmas.{grant_at, no_grant_more}
use Rattle.gp_replay.proofs.world_playing.has_grant.Goals as goal

pub returns-then-makes_grant : goal.returns-then-makes_grant
returns-then-makes_grant c =
    let item = c.entry-item.result in
    let granted : item.answer.grant ≡ Some c.args.grant = c.if-makes_grant.ensures.0 search rules in
    let at = subst (λ (e : Entry). e.answer.grant ≡ Some c.args.grant) c.entry-item.is granted in
    (λ _. grant_at c.args.grant c.args.entries.now c.entries.entry-index item c.entries-test.true at, λ _. search rules)

pub entries-preserved : goal.entries-preserved
entries-preserved c =
    let item = c.entry-item.result in
    no_grant_more c.args.grant c.args.entries.now c.entries.entry-index item c.entries-test.true c.entries.invariant
    (λ is. not_both false (c.if-makes_grant.ensures.1 (subst (λ (e : Entry). e.answer.grant ≡ Some c.args.grant) (sym c.entry-item.is) is)) refl)

pub returns : goal.returns
returns c = (λ t. not_both false t refl, λ has. absurd (c.entries.invariant (subst (HasGrant c.args.grant) (sym (take_all c.entries.entry-index c.args.entries.now c.entries-test.false)) has)))
