-- A device at the end.
use Rattle.std.proofs.Common.{sym, subst}
use Rattle.std.specs.Prelude.{IfOk, ℕ}
use Rattle.vfm_types.specs.declared.desc.Desc.{Desc}
use Rattle.vfm_load.specs.declared.store.Store.{Store}
use Rattle.vfm_load.specs.Stores.{FitsStore, HoldsStore}
use Rattle.vfm_load.specs.Parts.{IsPartOf}
use Rattle.vfm_load.proofs.StoreLemmas.{device_ended, device_is_part}
use Rattle.vfm_load.proofs.store.Store.finish.Goals as goal

pub returns-in-Device-clause-exact : goal.returns-in-Device-clause-exact
returns-in-Device-clause-exact c D s records fits holds =
    let is = subst (FitsStore D s) c.in-Device.is fits in
    device_ended D s records c.in-Device.device c.finish-in-Device.result c.finish-in-Device.ensures.exact c.finish-in-Device.ensures.loaded is.0 is.1
    (subst (HoldsStore D s records) c.in-Device.is holds)

pub returns-in-Device-clause-part : goal.returns-in-Device-clause-part
returns-in-Device-clause-part c =
    subst (λ (store : Store). IfOk c.finish-in-Device.result (λ part. (D : Desc) (s : ℕ) → FitsStore D s store → IsPartOf D s part)) (sym c.in-Device.is)
    (device_is_part c.in-Device.device c.finish-in-Device.result c.finish-in-Device.ensures.part c.finish-in-Device.ensures.all)
