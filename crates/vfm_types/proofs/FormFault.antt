-- The faults of a description, found device by device and job by job.
use Rattle.std.proofs.Common.{◌≡◌, ℕ, ◌+◌, ◌<◌, ◌≤◌, Bool, true, false, cond, ◌||◌, Option, Some, None, IsTrue, nat_eq, nat_lt, List, [], ◌∷◌, ◌++◌, length, get_or, take, drop, refl, sym, ap, ◌∙◌}
use Rattle.std.specs.List.{list_any, list_all}
use Rattle.std.specs.Option.{option_or}
use Rattle.std.proofs.lemmas.List.{at_drop_more, at_drop_all, take_more}
use Rattle.std.proofs.lemmas.List.Folds.{list_all_at}
use Rattle.std.proofs.lemmas.Bool.{true_from_ne_false, false≢true}
use Rattle.std.specs.Cmp.Lexicographic.{pointwise}
use Rattle.vfm_types.specs.declared.job.Job.{Job}
use Rattle.vfm_types.specs.declared.desc.DevShape.{DevShape}
use Rattle.vfm_types.specs.declared.desc.Desc.{Desc}
use Rattle.vfm_types.specs.declared.fault.DescFault.{DescFault}
use Rattle.vfm_types.specs.declared.fault.DescFault.TheVariants.{NameTwice, Crosses, OwnBar, BellKind, NeedsP2p, NoMemory}
use Rattle.vfm_types.specs.State.{has_p2p}
use Rattle.vfm_types.specs.Desc.{device_count, shape_at}
use Rattle.vfm_types.specs.Valid.{InRange, is_job_in_range}
use Rattle.vfm_types.specs.DescFault.{name_twice, job_fault, jobs_fault, devices_fault, lacks_p2p, form_fault}

-- the names of these devices, newest first, before the names given
abbrev pub names_onto : List (List ℕ) → List DevShape → List (List ℕ)
names_onto names [] = names
names_onto names (shape ∷ shapes) = names_onto (shape.name ∷ names) shapes

pub names_onto-push : (names : List (List ℕ)) (shapes : List DevShape) (shape : DevShape) → names_onto names (shapes ++ shape ∷ []) ≡ shape.name ∷ names_onto names shapes
names_onto-push names [] shape = refl
names_onto-push names (s ∷ shapes) shape = names_onto-push (s.name ∷ names) shapes shape

either_first : (x y z : Bool) → (x || y) || z ≡ y || (x || z)
either_first true true z = refl
either_first true false z = refl
either_first false true z = refl
either_first false false z = refl

-- a name is among them where a device has it
pub list_any-names_onto : (p : List ℕ → Bool) (names : List (List ℕ)) (shapes : List DevShape) → list_any p (names_onto names shapes) ≡ list_any p names || list_any (λ shape. p shape.name) shapes
list_any-names_onto p names [] = or_nothing (list_any p names)
  where
    or_nothing : (x : Bool) → x ≡ x || false
    or_nothing true = refl
    or_nothing false = refl
list_any-names_onto p names (shape ∷ shapes) =
    list_any-names_onto p (shape.name ∷ names) shapes
    ∙ either_first (p shape.name) (list_any p names) (list_any (λ s. p s.name) shapes)

-- ---- one step of each walk

pub lacks_p2p_more : (shapes : List DevShape) (d : ℕ) (shape : DevShape) → d < length shapes → shape ≡ get_or shapes d shape → has_p2p shape.flags ≡ true → lacks_p2p d (drop d shapes) ≡ lacks_p2p (d + 1) (drop (d + 1) shapes)
lacks_p2p_more shapes d shape within is has =
    at_drop_more (lacks_p2p d) shapes d shape within
    ∙ ap (λ (s : DevShape). lacks_p2p d (s ∷ drop (d + 1) shapes)) (sym is)
    ∙ ap (λ (b : Bool). cond b (lacks_p2p (d + 1) (drop (d + 1) shapes)) (Some (NeedsP2p d))) has

pub lacks_p2p_found : (shapes : List DevShape) (d : ℕ) (shape : DevShape) → d < length shapes → shape ≡ get_or shapes d shape → has_p2p shape.flags ≡ false → lacks_p2p d (drop d shapes) ≡ Some (NeedsP2p d)
lacks_p2p_found shapes d shape within is lacks =
    at_drop_more (lacks_p2p d) shapes d shape within
    ∙ ap (λ (s : DevShape). lacks_p2p d (s ∷ drop (d + 1) shapes)) (sym is)
    ∙ ap (λ (b : Bool). cond b (lacks_p2p (d + 1) (drop (d + 1) shapes)) (Some (NeedsP2p d))) lacks

pub lacks_p2p_end : (shapes : List DevShape) (d : ℕ) → length shapes ≤ d → lacks_p2p d (drop d shapes) ≡ None
lacks_p2p_end shapes d past = at_drop_all (lacks_p2p d) shapes d past

-- the names before device d, and whether its own is among them
name_step : (shapes : List DevShape) (d : ℕ) (shape : DevShape) (b : Bool) → d < length shapes → shape ≡ get_or shapes d shape → list_any (λ s. pointwise nat_eq shape.name s.name) (take d shapes) ≡ b → name_twice (names_onto [] (take d shapes)) d (drop d shapes) ≡ cond b (Some (NameTwice d)) (name_twice (shape.name ∷ names_onto [] (take d shapes)) (d + 1) (drop (d + 1) shapes))
name_step shapes d shape b within is taken =
    at_drop_more (name_twice (names_onto [] (take d shapes)) d) shapes d shape within
    ∙ ap (λ (s : DevShape). name_twice (names_onto [] (take d shapes)) d (s ∷ drop (d + 1) shapes)) (sym is)
    ∙ ap (λ (b : Bool). cond b (Some (NameTwice d)) (name_twice (shape.name ∷ names_onto [] (take d shapes)) (d + 1) (drop (d + 1) shapes))) (list_any-names_onto (pointwise nat_eq shape.name) [] (take d shapes) ∙ taken)

pub name_twice_more : (shapes : List DevShape) (d : ℕ) (shape : DevShape) → d < length shapes → shape ≡ get_or shapes d shape → list_any (λ s. pointwise nat_eq shape.name s.name) (take d shapes) ≡ false → name_twice (names_onto [] (take d shapes)) d (drop d shapes) ≡ name_twice (names_onto [] (take (d + 1) shapes)) (d + 1) (drop (d + 1) shapes)
name_twice_more shapes d shape within is fresh =
    name_step shapes d shape false within is fresh
    ∙ ap (λ (names : List (List ℕ)). name_twice names (d + 1) (drop (d + 1) shapes)) (sym (names_onto-push [] (take d shapes) shape))
    ∙ ap (λ (front : List DevShape). name_twice (names_onto [] front) (d + 1) (drop (d + 1) shapes)) (sym (take_more shapes d shape within ∙ ap (λ (s : DevShape). take d shapes ++ s ∷ []) (sym is)))

pub name_twice_found : (shapes : List DevShape) (d : ℕ) (shape : DevShape) → d < length shapes → shape ≡ get_or shapes d shape → list_any (λ s. pointwise nat_eq shape.name s.name) (take d shapes) ≡ true → name_twice (names_onto [] (take d shapes)) d (drop d shapes) ≡ Some (NameTwice d)
name_twice_found shapes d shape within is taken = name_step shapes d shape true within is taken

pub devices_fault_step : (D : Desc) (shapes : List DevShape) (d : ℕ) (shape : DevShape) (o : Option DescFault) → d < length shapes → shape ≡ get_or shapes d shape → jobs_fault D d 0 shape.jobs ≡ o → devices_fault D d (drop d shapes) ≡ option_or o (devices_fault D (d + 1) (drop (d + 1) shapes))
devices_fault_step D shapes d shape o within is fault =
    at_drop_more (devices_fault D d) shapes d shape within
    ∙ ap (λ (s : DevShape). devices_fault D d (s ∷ drop (d + 1) shapes)) (sym is)
    ∙ ap (λ (f : Option DescFault). option_or f (devices_fault D (d + 1) (drop (d + 1) shapes))) fault

pub jobs_fault_step : (D : Desc) (d : ℕ) (jobs : List Job) (j : ℕ) (job : Job) (o : Option DescFault) → j < length jobs → job ≡ get_or jobs j job → job_fault D d j job ≡ o → jobs_fault D d j (drop j jobs) ≡ option_or o (jobs_fault D d (j + 1) (drop (j + 1) jobs))
jobs_fault_step D d jobs j job o within is fault =
    at_drop_more (jobs_fault D d j) jobs j job within
    ∙ ap (λ (x : Job). jobs_fault D d j (x ∷ drop (j + 1) jobs)) (sym is)
    ∙ ap (λ (f : Option DescFault). option_or f (jobs_fault D d (j + 1) (drop (j + 1) jobs))) fault

-- each job of a list that passes a test passes it
pub list_all_one : {X : Type 0} (p : X → Bool) → (xs : List X) (i : ℕ) (x : X) → i < length xs → x ≡ get_or xs i x → list_all p xs ≡ true → p x ≡ true
list_all_one p xs i x within is all = true_from_ne_false (p x) (λ no. false≢true (sym (list_all_at p xs i x within (ap p (sym is) ∙ no)) ∙ all))

-- a job of a device whose members are in their ranges
pub job_in_range : (D : Desc) (d : ℕ) (shape : DevShape) (j : ℕ) (job : Job) → InRange D → d < device_count D → shape ≡ shape_at D d → j < length shape.jobs → job ≡ get_or shape.jobs j job → IsTrue (is_job_in_range job)
job_in_range D d shape j job ranges within is there here =
    list_all_one is_job_in_range shape.jobs j job there here (ap (λ (s : DevShape). list_all is_job_in_range s.jobs) is ∙ (ranges.devices d within).jobs)

-- ---- no fault of a description's form is that memory ran out

no_memory-cond : (b : Bool) (x y : Option DescFault) → (x ≡ Some NoMemory → ⊥) → (y ≡ Some NoMemory → ⊥) → cond b x y ≡ Some NoMemory → ⊥
no_memory-cond true x y hx hy e = hx e
no_memory-cond false x y hx hy e = hy e

no_memory-or : (x y : Option DescFault) → (x ≡ Some NoMemory → ⊥) → (y ≡ Some NoMemory → ⊥) → option_or x y ≡ Some NoMemory → ⊥
no_memory-or None y hx hy e = hy e
no_memory-or (Some f) y hx hy e = hx e

no_memory-name_twice : (names : List (List ℕ)) (d : ℕ) (shapes : List DevShape) → name_twice names d shapes ≡ Some NoMemory → ⊥
no_memory-name_twice names d [] e = cc
no_memory-name_twice names d (shape ∷ shapes) e =
    no_memory-cond (list_any (pointwise nat_eq shape.name) names) (Some (NameTwice d)) (name_twice (shape.name ∷ names) (d + 1) shapes) (λ h. cc) (no_memory-name_twice (shape.name ∷ names) (d + 1) shapes) e

no_memory-job_fault : (D : Desc) (d j : ℕ) (job : Job) → job_fault D d j job ≡ Some NoMemory → ⊥
no_memory-job_fault D d j job =
    no_memory-cond _ (Some (Crosses d j)) _ (λ h. cc) (no_memory-cond _ (Some (OwnBar d j)) _ (λ h. cc) (no_memory-cond _ (Some (BellKind d j)) None (λ h. cc) (λ h. cc)))

no_memory-jobs_fault : (D : Desc) (d j : ℕ) (jobs : List Job) → jobs_fault D d j jobs ≡ Some NoMemory → ⊥
no_memory-jobs_fault D d j [] e = cc
no_memory-jobs_fault D d j (job ∷ jobs) e =
    no_memory-or (job_fault D d j job) (jobs_fault D d (j + 1) jobs) (no_memory-job_fault D d j job) (no_memory-jobs_fault D d (j + 1) jobs) e

no_memory-devices_fault : (D : Desc) (d : ℕ) (shapes : List DevShape) → devices_fault D d shapes ≡ Some NoMemory → ⊥
no_memory-devices_fault D d [] e = cc
no_memory-devices_fault D d (shape ∷ shapes) e =
    no_memory-or (jobs_fault D d 0 shape.jobs) (devices_fault D (d + 1) shapes) (no_memory-jobs_fault D d 0 shape.jobs) (no_memory-devices_fault D (d + 1) shapes) e

no_memory-lacks_p2p : (d : ℕ) (shapes : List DevShape) → lacks_p2p d shapes ≡ Some NoMemory → ⊥
no_memory-lacks_p2p d [] e = cc
no_memory-lacks_p2p d (shape ∷ shapes) e =
    no_memory-cond (has_p2p shape.flags) (lacks_p2p (d + 1) shapes) (Some (NeedsP2p d)) (no_memory-lacks_p2p (d + 1) shapes) (λ h. cc) e

pub no_memory-form_fault : (D : Desc) (fault : DescFault) → Some fault ≡ form_fault D → fault ≡ NoMemory → ⊥
unfolding form_fault
no_memory-form_fault D fault is e =
    no_memory-or (name_twice [] 0 D.devices) _ (no_memory-name_twice [] 0 D.devices) (no_memory-or (devices_fault D 0 D.devices) _ (no_memory-devices_fault D 0 D.devices) (no_memory-cond (nat_lt 1 (device_count D)) (lacks_p2p 0 D.devices) None (no_memory-lacks_p2p 0 D.devices) (λ h. cc))) (sym is ∙ ap Some e)
