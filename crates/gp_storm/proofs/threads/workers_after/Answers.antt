use Rattle.std.proofs.Common.{◌≡◌, ◌-◌, length, map, get_or, drop, vec_len, arith, sym, ap, subst, ◌∙◌}
use Rattle.std.proofs.lemmas.List.{take_at}
use Rattle.gp_storm.specs.Serving.{IsServed, first_fault_of}
use Rattle.gp_storm.proofs.Serves.{tasks_failed, tasks_served}
use Rattle.gp_storm.proofs.threads.workers_after.Goals as goal

pub returns-in-Ok-first_fault-clause-served : goal.returns-in-Ok-first_fault-clause-served
returns-in-Ok-first_fault-clause-served g c =
    let new = c.serve_all.new.tasks in
    let long : length new ≡ vec_len c.args.tasks = c.serve_all.auto.tasks ∙ c.as_mut_slice.ensures.len in
    let all = take_at new (drop (length new) c.args.tasks.items) (vec_len c.args.tasks) long in
    tasks_served (λ task. task.worker) (λ worker. worker.receipts) (λ task. task.ended) c.args.plan.now (vec_len c.args.tasks - 1) new c.workers_of.result.items
    (omega (arith, c.requires.some)) (omega (arith, c.requires.some, long))
    (λ place d l. subst (λ n. IsServed c.args.plan.now (n - 1) place (get_or new place d).worker.receipts (get_or new place d).ended) c.as_mut_slice.ensures.len (c.serve_all.ensures place d (omega (arith, l, long, c.as_mut_slice.ensures.len))))
    (sym (ap (λ tasks. first_fault_of (map (λ task. task.ended) tasks)) (c.as_slice.ensures.value ∙ all)) ∙ sym c.first_fault.ensures ∙ c.in-Ok-first_fault.is)
    (c.workers_of.ensures ∙ ap (map (λ task. task.worker)) all)

pub returns-in-Err-clause-fault : goal.returns-in-Err-clause-fault
returns-in-Err-clause-fault g c =
    let new = c.serve_all.new.tasks in
    let long : length new ≡ vec_len c.args.tasks = c.serve_all.auto.tasks ∙ c.as_mut_slice.ensures.len in
    let all = take_at new (drop (length new) c.args.tasks.items) (vec_len c.args.tasks) long in
    tasks_failed (λ task. task.worker) (λ worker. worker.receipts) (λ task. task.ended) c.args.plan.now (vec_len c.args.tasks - 1) new c.in-Err.fault
    (omega (arith, c.requires.some, long))
    (λ place d l. subst (λ n. IsServed c.args.plan.now (n - 1) place (get_or new place d).worker.receipts (get_or new place d).ended) c.as_mut_slice.ensures.len (c.serve_all.ensures place d (omega (arith, l, long, c.as_mut_slice.ensures.len))))
    (sym (ap (λ tasks. first_fault_of (map (λ task. task.ended) tasks)) (c.as_slice.ensures.value ∙ all)) ∙ sym c.first_fault.ensures ∙ c.in-Err.is)
