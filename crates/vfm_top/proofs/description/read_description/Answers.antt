-- What was read is a description, or has that fault.
use Rattle.std.proofs.Common.{◌≡◌, ℕ, List, Ok, subst}
use Rattle.vfm_types.specs.declared.desc.Desc.{Desc}
use Rattle.vfm_types.specs.Valid.{IsValid}
use Rattle.vfm_outside.specs.Tells.{SourceTells, source_tells}
use Rattle.vfm_desc.specs.Described.{description_of}
use Rattle.vfm_top.specs.Call.{read_limit}
use Rattle.vfm_top.specs.Sources.{IsDescribed, IsRefusal, IsUndescribed}
use Rattle.vfm_top.proofs.Outcomes.{err_so, ok_both, read_to, undescribed}
use Rattle.vfm_top.proofs.description.read_description.Goals as goal

pub returns-in-Ok-clause-described : goal.returns-in-Ok-clause-described
returns-in-Ok-clause-described g c =
    let old : SourceTells = source_tells (g.D.Source.left c.args.desc.now) (g.D.Source.faults c.args.desc.now) in
    let new : SourceTells = source_tells (g.D.Source.left c.read_up_to.new.source) (g.D.Source.faults c.read_up_to.new.source) in
    ok_both IsValid (λ (desc : Desc). description_of c.as_slice.result.now ≡ Ok desc) (IsDescribed old new) c.described.result
    (λ desc valid is. record {
      valid = valid;
      read =
          read_to read_limit (λ bytes. description_of bytes ≡ Ok desc) c.in-Ok.bytes.items old new c.in-Ok.ensures.bytes c.in-Ok.ensures.rest
          c.in-Ok.ensures.ok (subst (λ (bytes : List ℕ). description_of bytes ≡ Ok desc) c.as_slice.ensures.value is);
    })
    c.described.ensures.valid c.described.ensures.described

pub returns-in-Ok-clause-undescribed : goal.returns-in-Ok-clause-undescribed
returns-in-Ok-clause-undescribed g c =
    let old : SourceTells = source_tells (g.D.Source.left c.args.desc.now) (g.D.Source.faults c.args.desc.now) in
    let new : SourceTells = source_tells (g.D.Source.left c.read_up_to.new.source) (g.D.Source.faults c.read_up_to.new.source) in
    err_so (IsRefusal c.as_slice.result.now) (IsUndescribed old new) c.described.result
    (λ status none.
    undescribed c.in-Ok.bytes.items old new status c.in-Ok.ensures.bytes c.in-Ok.ensures.rest c.in-Ok.ensures.ok
    (subst (λ (bytes : List ℕ). IsRefusal bytes status) c.as_slice.ensures.value none))
    c.described.ensures.refused
