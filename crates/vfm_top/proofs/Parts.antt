-- The parts of a report that cores lend.
use Rattle.std.proofs.Common.{◌≡◌, List, Option, Some, None, IfSome, refl, sym, ◌∙◌, ap, subst, true, false, IsTrue, IsFalse}
use Rattle.std.specs.Prelude.{IfNone, option_map, unwrap_or, if◌then◌else◌}
use Rattle.vfm_types.specs.declared.desc.Desc.{Desc}
use Rattle.vfm_types.specs.declared.entry.Entry.{Entry}
use Rattle.vfm_types.specs.Deliveries.{joint_machine}
use Rattle.vfm_types.specs.Machine.{Machine}
use Rattle.vfm_types.specs.Phases.{is_joint}
use Rattle.vfm_plain.specs.Report.{Made}
use Rattle.vfm_plain.specs.Shape.{HasShape}
use Rattle.vfm_core.specs.CoreState.{CoreState, FitsDesc}
use Rattle.vfm_core.specs.Machines.{machine_in}
use Rattle.vfm_core.proofs.Machines.{shape_in}
use Rattle.vfm_move.specs.Move.{joint_in}
use Rattle.vfm_move.specs.Table.{Owner, TookOver, Neither, WentOn, owner_at}
use Rattle.vfm_source.specs.Moving.{past_in}
use Rattle.vfm_source.specs.Source.{MoverState}
use Rattle.vfm_dest.specs.StagedCores.{StagedState}
use Rattle.vfm_status.specs.declared.status.Status.{Status}
use Rattle.vfm_top.specs.Outcome.{is_neither, last_machine}
use Rattle.vfm_top.specs.Text.{summed_up}
use Rattle.vfm_migrate.specs.Migrations.{last_core, made_by}

-- the same cores have the same machines
pub machines_same : {X Y : Type 0} (f : X → CoreState) (g : Y → CoreState) (a : Option X) (b : Option Y) → option_map f a ≡ option_map g b
    → option_map (λ x. machine_in (f x).world) a ≡ option_map (λ y. machine_in (g y).world) b
machines_same f g None None same = refl
machines_same f g None (Some y) same = absurd cc
machines_same f g (Some x) None same = absurd cc
machines_same f g (Some x) (Some y) same =
    let core : f x ≡ g y = cc in
    ap (λ (core : CoreState). Some (machine_in core.world)) core

-- and machines of the sizes of their description
pub shapes : {X Y : Type 0} (D : Desc) (f : X → CoreState) (g : Y → CoreState) (a : Option X) (b : Option Y) → option_map f a ≡ option_map g b
    → IfSome b (λ y. (g y).desc ≡ D) → IfSome a (λ x. FitsDesc (f x).desc (f x).world) → IfSome a (λ x. HasShape D (machine_in (f x).world))
shapes D f g None b same descs fits = tt
shapes D f g (Some x) None same descs fits = absurd cc
shapes D f g (Some x) (Some y) same descs fits =
    let core : f x ≡ g y = cc in
    let desc : (f x).desc ≡ D = ap (λ (core : CoreState). core.desc) core ∙ descs in
    subst (λ (E : Desc). HasShape E (machine_in (f x).world)) desc (shape_in (f x).desc (f x).world fits)

-- the core at the end is of the source's description, where the one that was taken over is
pub last_desc : (owner : Owner) (source : CoreState) (taken : Option CoreState) → IfSome taken (λ core. core.desc ≡ source.desc)
    → IfSome (last_core owner source taken) (λ core. core.desc ≡ source.desc)
last_desc TookOver source taken same = same
last_desc Neither source taken same = tt
last_desc WentOn source taken same = refl

-- a core that is lent from somewhere is the one there
pub lent_same : {X : Type 0} (f : X → CoreState) (a : Option X) (b : Option CoreState) → option_map f a ≡ b → option_map f a ≡ option_map (λ core. core) b
lent_same f a None same = same
lent_same f a (Some core) same = same

-- what is lent of the joint stop is the machine there
pub joint_same : {X : Type 0} (f : X → Machine) (D : Desc) (past : List Entry) (a : Option X)
    → IfSome a (λ x. IsTrue (is_joint past) × (f x ≡ joint_machine D past)) → IfNone a (IsFalse (is_joint past))
    → option_map f a ≡ joint_in D past
joint_same f D past None some none = rw none refl
joint_same f D past (Some x) some none = rw (some.0) (ap Some some.1)

-- the same parts are one
pub same_made : (a b : Made) → a.desc ≡ b.desc → a.source ≡ b.source → a.joint ≡ b.joint → a.loaded ≡ b.loaded
    → a.destination ≡ b.destination → a.final ≡ b.final → a ≡ b
same_made a b desc source joint loaded destination final = e
  where
    e : record {
      desc = a.desc;
      source = a.source;
      joint = a.joint;
      loaded = a.loaded;
      destination = a.destination;
      final = a.final;
    } ≡ b
    e = rw (desc, source, joint, loaded, destination, final) refl

-- what is summed up of what was made
pub summed_same : (owner : Owner) (status : Status) → owner_at status ≡ owner → (source : MoverState) (loaded : Option StagedState) (taken : Option CoreState)
    → last_machine owner source taken ≡ summed_up owner (made_by status source loaded taken)
summed_same TookOver status is source loaded taken = rw is refl
summed_same Neither status is source loaded taken = refl
summed_same WentOn status is source loaded taken = rw is refl

-- where neither end runs, and where one does
pub last_joint : (owner : Owner) (source : MoverState) (taken : Option CoreState) → is_neither owner ≡ true
    → last_machine owner source taken ≡ joint_in source.core.desc (past_in source.core)
last_joint Neither source taken is = refl
last_joint TookOver source taken is = absurd cc
last_joint WentOn source taken is = absurd cc

pub last_final : (owner : Owner) (source : MoverState) (taken : Option CoreState) → is_neither owner ≡ false
    → last_machine owner source taken ≡ option_map (λ core. machine_in core.world) (last_core owner source.core taken)
last_final Neither source taken is = absurd cc
last_final TookOver source taken is = refl
last_final WentOn source taken is = refl
