-- What follows an abort copies nothing.
use Rattle.std.proofs.Common.{◌≡◌, ℕ, true, false, List, [], ◌∷◌, ◌++◌, refl, ap, sym, ◌∙◌}
use Rattle.std.proofs.lemmas.Bool.{true≢false}
use Rattle.vfm_types.specs.declared.desc.Desc.{Desc}
use Rattle.vfm_types.specs.declared.entry.Entry.{Entry}
use Rattle.vfm_types.specs.declared.entry.Entry.TheVariants.{Fail, Pass, Copy, Block, Dry, Joint, Abort}
use Rattle.vfm_types.specs.declared.state.MigState.{MigState}
use Rattle.vfm_types.specs.Phases.{is_aborted}
use Rattle.vfm_plain.specs.Legal.{IsLegal}
use Rattle.vfm_laws.proofs.Conditions.{fail_met}
use Rattle.vfm_copying.proofs.Conditions.{pass_parts, copy_parts, block_parts, dry_parts, joint_parts}
use Rattle.vfm_packet.specs.Channel.{all_bytes}
use Rattle.vfm_streams.specs.Sent.{Sent}
use Rattle.vfm_streams.specs.Packets.{lane_packets, share}
use Rattle.vfm_move_laws.specs.Copies.{KeepsCopies}

-- a move that was given up isn't on
given_up : {P : Type 0} (past : List Entry) → is_aborted past ≡ true → is_aborted past ≡ false → P
given_up past aborted moving = absurd (true≢false (sym aborted ∙ moving))

-- one entry more
kept : (D : Desc) (past : List Entry) (entry : Entry) → is_aborted past ≡ true → IsLegal D (entry ∷ past) → KeepsCopies D past (entry ∷ past)
kept D past (Pass k) over legal = given_up past over (pass_parts D past k legal.1).moving.aborted
kept D past (Copy p) over legal = given_up past over (copy_parts D past p legal.1).moving.aborted
kept D past (Block d b) over legal = given_up past over (block_parts D past d b legal.1).moving.aborted
kept D past (Dry d) over legal = given_up past over (dry_parts D past d legal.1).moving.aborted
kept D past Joint over legal = given_up past over (joint_parts D past legal.1).0.aborted
kept D past entry over legal = record { sent = refl; joint = refl; machine = refl; passes = refl; last = refl; ended = refl }

-- many more
over_after : (past more : List Entry) → is_aborted (more ++ Abort ∷ past) ≡ true
over_after past [] = refl
over_after past (Abort ∷ more) = refl
over_after past (entry ∷ more) = over_after past more

then_kept : (D : Desc) (a b c : List Entry) → KeepsCopies D a b → KeepsCopies D b c → KeepsCopies D a c
then_kept D a b c one two =
    record {
      sent = two.sent ∙ one.sent;
      joint = two.joint ∙ one.joint;
      machine = two.machine ∙ one.machine;
      passes = two.passes ∙ one.passes;
      last = two.last ∙ one.last;
      ended = two.ended ∙ one.ended;
    }

pub all_kept : (D : Desc) (past more : List Entry) → IsLegal D (more ++ Abort ∷ past) → KeepsCopies D past (more ++ Abort ∷ past)
all_kept D past [] legal = record { sent = refl; joint = refl; machine = refl; passes = refl; last = refl; ended = refl }
all_kept D past (entry ∷ more) legal =
    then_kept D past (more ++ Abort ∷ past) (entry ∷ more ++ Abort ∷ past) (all_kept D past more legal.2)
    (kept D (more ++ Abort ∷ past) entry (over_after past more) legal)

pub shares_kept : (D : Desc) (past more : List Entry) (k : ℕ) → IsLegal D (more ++ Abort ∷ past) → share D (more ++ Abort ∷ past) k ≡ share D past k
shares_kept D past more k legal = ap (λ (all : List Sent). all_bytes (lane_packets D k all)) (all_kept D past more legal).sent

-- no arc fails after it
pub none_fails : (D : Desc) (past more before : List Entry) (d : ℕ) (to : MigState) → IsLegal D (more ++ Fail d to ∷ before ++ Abort ∷ past) → ⊥
none_fails D past [] before d to legal =
    given_up (before ++ Abort ∷ past) (over_after past before) (fail_met D (before ++ Abort ∷ past) d to legal.1).1
none_fails D past (entry ∷ more) before d to legal = none_fails D past more before d to legal.2
