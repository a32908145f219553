-- The core is that of the parts, and the digest is taken of its machine.
use Rattle.std.proofs.Common.{rules, ◌≡◌, ◌∙◌, ap, ap₂}
use Rattle.vfm_types.specs.declared.desc.Desc.{Desc}
use Rattle.vfm_plain.specs.StateText.{state_digest}
use Rattle.vfm_intake.specs.Parts.{machine_in}
use Rattle.vfm_core.specs.CoreState.{CoreState}
use Rattle.vfm_core.specs.Loaded.{staged_core}
use Rattle.vfm_core.specs.Machines.{machine_in as core_machine}
use Rattle.vfm_dest.proofs.Staging.{staged-machine, stands}
use Rattle.vfm_dest.proofs.staged.Staged.of.Goals as goal

pub invariant_of-result : goal.invariant_of-result
invariant_of-result c =
    let D = c.args.desc.now in
    let parts = c.args.parts.items in
    let copy : c.in_ok-copy.field-0 ≡ D = search rules in
    let core_is : c.in_ok-core.core ≡ staged_core D parts =
    c.in_ok-core.ensures.core ∙ ap (λ (X : Desc). staged_core X parts) copy in
    let machine_is : core_machine c.in_ok-core.core.world ≡ machine_in parts =
    ap (λ (x : CoreState). core_machine x.world) core_is ∙ staged-machine D parts c.requires in
    stands D parts c.in_ok-core.core c.digest-digest.result c.requires core_is
    (c.digest-digest.ensures ∙ ap₂ state_digest (ap (λ (x : CoreState). x.desc) core_is) machine_is)

pub returns : goal.returns
returns c =
    let D = c.args.desc.now in
    let parts = c.args.parts.items in
    let copy : c.in_ok-copy.field-0 ≡ D = search rules in
    let core_is : c.in_ok-core.core ≡ staged_core D parts =
    c.in_ok-core.ensures.core ∙ ap (λ (X : Desc). staged_core X parts) copy in
    let machine_is : core_machine c.in_ok-core.core.world ≡ machine_in parts =
    ap (λ (x : CoreState). core_machine x.world) core_is ∙ staged-machine D parts c.requires in
    record {
      core_is = core_is;
      machine_is = machine_is;
      digest_is = c.digest-digest.ensures ∙ ap₂ state_digest (ap (λ (x : CoreState). x.desc) core_is) machine_is;
    }
