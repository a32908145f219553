-- Member by member; what is made is the generated load, which is valid.
use Rattle.std.proofs.Common.{sym, subst, ◌∙◌}
use Rattle.vfm_types.specs.Valid.{IsValid}
use Rattle.vfm_loads.proofs.LoadValid.{generated_valid}
use Rattle.vfm_generate.proofs.Made.{load_made}
use Rattle.vfm_generate.proofs.load.generate.Goals as goal

pub returns-clause-value : goal.returns-clause-value
returns-clause-value c = load_made c.args.n _ _ c.from.ensures (c.of.ensures ∙ c.in_ok-devices.ensures.items)

pub returns-clause-valid : goal.returns-clause-valid
returns-clause-valid c =
    subst IsValid (sym (load_made c.args.n _ _ c.from.ensures (c.of.ensures ∙ c.in_ok-devices.ensures.items))) (generated_valid c.args.n c.ranges.n.fits)
