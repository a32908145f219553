use Rattle.std.proofs.Common.{◌||◌, map, All, sym, ap, ◌∙◌, subst}
use Rattle.std.proofs.lemmas.List.Elements.{All-push}
use Rattle.vfm_turn.specs.Order.{has}
use Rattle.vfm_turn.specs.Words.{number_of}
use Rattle.vfm_turn.proofs.Tickets.{map_end}
use Rattle.vfm_turn.proofs.Closes.{all_parts}
use Rattle.vfm_turn_bench.specs.declared.worker.Worker.{Worker}
use Rattle.vfm_turn_bench.specs.Workers.{IsAtRest, numbers_of}
use Rattle.vfm_turn_bench.proofs.Workers.{moved_one}
use Rattle.vfm_turn_bench.proofs.round.dismiss.Goals as goal

pub loop-worker-preserved : goal.loop-worker-preserved
loop-worker-preserved c = let i = c.loop-worker.invariant in let b = c.args.board.now in let rest = c.pop.new.self.items in let w = c.in-Some.worker in
    let parts = all_parts (λ (x : Worker). IsAtRest b x.ticket) rest c.loop-worker.workers.items w c.in-Some.ensures.items i.workers in
    record {
      workers = parts.0;
      tickets = subst (All (λ x. IsAtRest b x)) (sym c.in_ok-push-2.ensures.items) (All-push (λ x. IsAtRest b x) c.loop-worker.tickets.items w.ticket i.tickets parts.1);
      all = λ k h. ap (λ ys. has k (numbers_of rest) || has k (map number_of ys)) c.in_ok-push-2.ensures.items
          ∙ (ap (λ ys. has k (numbers_of rest) || has k ys) (map_end number_of c.loop-worker.tickets.items w.ticket)
          ∙ moved_one k (number_of w.ticket) (numbers_of rest) (map number_of c.loop-worker.tickets.items)
          (sym (ap (λ ys. has k ys || has k (map number_of c.loop-worker.tickets.items)) (ap numbers_of c.in-Some.ensures.items ∙ map_end (λ (x : Worker). number_of x.ticket) rest w)) ∙ i.all k h));
    }
