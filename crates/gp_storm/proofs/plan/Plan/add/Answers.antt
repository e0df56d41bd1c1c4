use Rattle.std.proofs.Common.{rules, ◌≡◌, ◌<◌, ◌++◌, ◌∷◌, [], length, get_or}
use Rattle.gp_storm.proofs.PlanLemmas.{burst_added}
use Rattle.gp_storm.proofs.plan.Plan.add.Goals as goal

pub returns-in_ok-push-in-Burst-clause-bursts : goal.returns-in_ok-push-in-Burst-clause-bursts
returns-in_ok-push-in-Burst-clause-bursts c =
    let lists = c.args.self.now.bursts.items in
    let before = c.index_mut.result.now in
    let within : c.from.result < length lists = search rules in
    let longer : c.push-in-Burst.new.self.items ≡ before.items ++ (c.in-Burst.at, c.in-Burst.bytes) ∷ [] = search rules in
    let found : before ≡ get_or lists c.from.result before = search rules in
    burst_added lists c.from.result c.in-Burst.port c.in-Burst.at c.in-Burst.bytes c.push-in-Burst.new.self before c.args.event.now c.in-Burst.is c.from.ensures within longer found
