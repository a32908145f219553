-- Whether the move was over or not, the machine is the same.
use Rattle.std.proofs.Common.{◌≡◌, Bool, true, false, refl}
use Rattle.vfm_order.specs.LookAfter.{is_over}
use Rattle.vfm_drive.specs.Runs.{whole}
use Rattle.vfm_bench.proofs.report.come_home.Goals as goal

either : {P : Type 0} (b : Bool) → (b ≡ true → P) → (b ≡ false → P) → P
either true first second = first refl
either false first second = second refl

pub returns : goal.returns
returns c =
    let run = c.requires in
    let ensured = c.give_up.ensures in
    either (is_over (whole run.origin run.mine)) (λ over. (ensured.goes_home run.origin run.mine run.run over).on.desc)
    (λ going. (ensured.gives_up run.origin run.mine run.run going).on.desc)
