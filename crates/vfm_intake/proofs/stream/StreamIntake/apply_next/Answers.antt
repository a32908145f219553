use Rattle.std.proofs.Common.{◌≡◌, ◌∙◌, sym, subst, ℕ, Some}
use Rattle.vfm_packet.specs.Packet.{Packet}
use Rattle.vfm_streams.specs.Whole.{packet_with}
use Rattle.vfm_reorder.specs.Buffers.{given}
use Rattle.vfm_intake_laws.specs.Prefixes.{first_in_order}
use Rattle.vfm_intake.proofs.Steps.{applied-next}
use Rattle.vfm_intake.proofs.stream.StreamIntake.apply_next.Goals as goal

pub returns-in-Some-clause-stands : goal.returns-in-Some-clause-stands
returns-in-Some-clause-stands c came stands =
    let before = c.args.self.now in
    let held = c.in-Some.ensures.packet stands.put stands.after in
    record {
      put = stands.put;
      after = c.pop_ready.ensures.after stands.put stands.after;
      loaded =
          applied-next _ _ stands.put before.buffer c.pop_ready.new.self c.apply.new.self held.packet c.in-Some.ensures.some.1
          (subst (λ (n : ℕ). packet_with n stands.put ≡ Some held.packet) c.in-Some.ensures.some.0 held.found)
          (c.apply.ensures.after (first_in_order (given before.buffer) stands.put) held.packet stands.loaded
          (record { config_is = held.config; payload_is = held.payload ∙ sym c.lent.ensures.bytes }));
      met = stands.met;
      doubled = stands.doubled;
      whole = stands.whole;
    }
