use Rattle.std.proofs.Common.{◌||◌, map, All, true, sym, ap, ◌∙◌, subst}
use Rattle.std.proofs.lemmas.List.Elements.{All-push}
use Rattle.vfm_turn.specs.Order.{has}
use Rattle.vfm_turn.specs.Words.{number_of}
use Rattle.vfm_turn.proofs.Tickets.{map_end}
use Rattle.vfm_turn.proofs.Closes.{all_parts}
use Rattle.vfm_turn_bench.specs.declared.worker.Worker.{Worker}
use Rattle.vfm_turn_bench.specs.Workers.{IsNew, numbers_of}
use Rattle.vfm_turn_bench.proofs.Workers.{moved_one}
use Rattle.vfm_turn_bench.proofs.round.hire.Goals as goal

pub loop-ticket-preserved : goal.loop-ticket-preserved
loop-ticket-preserved c = let i = c.loop-ticket.invariant in let b = c.args.board.now in let rest = c.pop.new.self.items in let t = c.in-Some.ticket in
    let parts = all_parts (λ x. IsNew b x) rest c.loop-ticket.tickets.items t c.in-Some.ensures.items i.tickets in
    let w : Worker = record { ticket = t; drawn = c.in_ok-with_capacity.field-0; is_sound = true } in
    record {
      tickets = parts.0;
      workers = subst (All (λ (x : Worker). IsNew b x.ticket)) (sym c.in_ok-push.ensures.items) (All-push (λ (x : Worker). IsNew b x.ticket) c.loop-ticket.workers.items w i.workers parts.1);
      all = λ k h. ap (λ ys. has k (map number_of rest) || has k (numbers_of ys)) c.in_ok-push.ensures.items
          ∙ (ap (λ ys. has k (map number_of rest) || has k ys) (map_end (λ (x : Worker). number_of x.ticket) c.loop-ticket.workers.items w)
          ∙ moved_one k (number_of t) (map number_of rest) (numbers_of c.loop-ticket.workers.items)
          (sym (ap (λ ys. has k ys || has k (numbers_of c.loop-ticket.workers.items)) (ap (map number_of) c.in-Some.ensures.items ∙ map_end number_of rest t)) ∙ i.all k h));
    }
