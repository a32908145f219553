-- Deliver changes the parts as it changes the facts.
use Rattle.std.proofs.Common.{◌≡◌, ℕ, ◌+◌, ◌*◌, ◌<◌, ◌==◌, Bool, true, false, not, ◌&&◌, ◌||◌, if◌then◌else◌, nat_lt, List, [], ◌∷◌, length, refl, ap, ap₂, sym, ◌∙◌, subst, eqb-true, ltb-true}
use Rattle.std.proofs.lemmas.Bool.{eq-eqb, ne_eqb, cond-true, cond-false, eqb-false}
use Rattle.vfm_types.specs.declared.job.Job.{Job}
use Rattle.vfm_types.specs.declared.job.Region.{Region}
use Rattle.vfm_types.specs.declared.job.Region.TheVariants.{Page, Bar}
use Rattle.vfm_types.specs.declared.desc.Desc.{Desc}
use Rattle.vfm_types.specs.declared.entry.Entry.{Entry}
use Rattle.vfm_types.specs.declared.entry.Entry.TheVariants.{Deliver}
use Rattle.vfm_types.specs.Desc.{device_count, shape_at, block_count}
use Rattle.vfm_types.specs.Job.{place_of, length_of, is_bar_of, is_page, is_writer, is_doorbell}
use Rattle.vfm_types.specs.Machine.{DeviceState, Machine, device_of, with_device, bytes_in}
use Rattle.vfm_types.specs.Requests.{job_or_zero, job_of, taken}
use Rattle.vfm_types.specs.Deliveries.{machine_of, page_bytes}
use Rattle.vfm_types.specs.Phases.{is_begun, is_resumed}
use Rattle.vfm_types.specs.Outstanding.{Outstanding, outstanding_of, deliver_if}
use Rattle.vfm_types.specs.Blocks.{is_unread, is_dirty, writes_block}
use Rattle.vfm_types.specs.Valid.{IsValid, IsSoundJob}
use Rattle.vfm_plain.specs.Legal.{IsLegal}
use Rattle.vfm_plain.specs.Shape.{IsSound, LiesIn, Lies}
use Rattle.vfm_plain.proofs.Sound.{sound_job, job_in_range, lies_of_job, some_bytes}
use Rattle.vfm_plain.proofs.Steps.{free_job}
use Rattle.vfm_plain.proofs.Effects.{can_lose}
use Rattle.vfm_laws.proofs.Rising.{by_bool}
use Rattle.vfm_laws.proofs.Enabled.{deliver_enabled, machine_sound}
use Rattle.vfm_laws.proofs.Effects.{device_changed, device_other, device_count_kept}
use Rattle.vfm_base.specs.PageSet.{contains_page}
use Rattle.vfm_parts.specs.Parts.{Dev, Parts, numbers_below}
use Rattle.vfm_parts.specs.PartsOf.{dev_of, page_of, until_resumed, Tells}
use Rattle.vfm_parts.specs.DeliverStep.{job_in, region_of_job, region_bytes_in, buffer_after, page_after_job, target_after_job, delivered_dev, struck_dev, dirty_after_job, devs_after_deliver, pages_after_deliver}
use Rattle.vfm_parts.proofs.Sets.{has_below, below_same}
use Rattle.vfm_parts.proofs.Allowed.{unread_before}
use Rattle.vfm_parts.proofs.Delivered.{effect_device, effect_page}

-- ---- dirty blocks

never : (a b c e : Bool) → (a && false && b && c && e) ≡ false
never true b c e = refl
never false b c e = refl

as_before : (u w x : Bool) → w ≡ false → x ≡ ((u && w) || x)
as_before true w x none = rw none refl
as_before false w x none = refl

-- a block that the job doesn't write
unwritten : (D : Desc) (k b : ℕ) (job : Job) → is_bar_of k (place_of D job).region ≡ false → writes_block D k b job ≡ false
unwritten D k b job away =
    ap (λ (aimed : Bool). is_writer job && aimed && not (is_doorbell D job)
    && nat_lt (place_of D job).offset (64 * (b + 1)) && nat_lt (64 * b) ((place_of D job).offset + length_of job)) away
    ∙ never (is_writer job) _ _ _

-- the dirty blocks of the device whose BARs the job is aimed at
dirty_more : (resumed begun : Bool) (n : ℕ) (unread dirty writes : ℕ → Bool) → (begun ≡ false → (b : ℕ) → unread b ≡ true)
    → (if begun && not resumed then numbers_below n (λ b. (not (contains_page (if resumed then [] else numbers_below n unread) b) && writes b)
    || contains_page (if resumed then [] else numbers_below n dirty) b) else (if resumed then [] else numbers_below n dirty))
    ≡ (if resumed then [] else numbers_below n (λ b. (not (unread b) && writes b) || dirty b))
dirty_more true true n unread dirty writes before = refl
dirty_more true false n unread dirty writes before = refl
dirty_more false true n unread dirty writes before =
    below_same n _ _ (λ b inside. ap₂ (λ (u d : Bool). (not u && writes b) || d) (has_below n unread b inside) (has_below n dirty b inside))
dirty_more false false n unread dirty writes before =
    below_same n _ _ (λ b inside. ap (λ (u : Bool). (not u && writes b) || dirty b) (sym (before refl b)))

other_number : (d t : ℕ) → (t == d) ≡ false → (d == t) ≡ false
other_number d t other = ne_eqb d t (λ same. eqb-false t d other (sym same))

-- a device that differs in three fields
three : (dev : Dev) (a b : DeviceState) (r s : List Outstanding) (x y : List ℕ) → a ≡ b → r ≡ s → x ≡ y
    → record dev { plain = a; requests = r; dirty = x } ≡ record dev { plain = b; requests = s; dirty = y }
three dev a b r s x y first second third =
    ap₂ (λ (p : DeviceState) (q : List Outstanding). record dev { plain = p; requests = q; dirty = x }) first second
    ∙ ap (λ (z : List ℕ). record dev { plain = b; requests = s; dirty = z }) third

module _ (D : Desc) (valid : IsValid D) (past : List Entry) (d n : ℕ) (legal : IsLegal D (Deliver d n ∷ past)) where
  abbrev here : Machine
  here = machine_of D past

  abbrev job : Job
  job = job_of D here d n

  abbrev region : Region
  region = (place_of D job).region

  inside : d < device_count D
  inside = ltb-true d (device_count D) legal.0

  sound : IsSound D here
  sound = machine_sound D valid past legal.2

  exists : job_or_zero n (device_of here d).pending < length (shape_at D d).jobs
  exists =
      free_job _ _ _ (device_of here d).pending n (length (shape_at D d).jobs) (sound.shape.device d inside).jobs (deliver_enabled D valid past d n legal)

  sound_one : IsSoundJob D d job
  sound_one = sound_job D d (job_or_zero n (device_of here d).pending) valid inside exists

  lies : Lies D (place_of D job) (length_of job)
  lies = lies_of_job D d job valid sound_one (some_bytes job (job_in_range D d (job_or_zero n (device_of here d).pending) valid inside exists)).0

  abbrev middle : Machine
  middle = with_device here d (taken (device_of here d) n)

  own_device : device_of middle d ≡ taken (device_of here d) n
  own_device = device_changed here d (taken (device_of here d) n) (subst (λ (k : ℕ). d < k) (sym sound.shape.devices) inside)

  other_device : (k : ℕ) → (d == k) ≡ false → device_of middle k ≡ device_of here k
  other_device k other = device_other here d (taken (device_of here d) n) k (λ same. eqb-false d k other (sym same))

  within : (k : ℕ) → k < device_count D → k < length middle.devices
  within k h = subst (λ (c : ℕ). k < c) (sym (device_count_kept here d (taken (device_of here d) n) ∙ sound.shape.devices)) h

  few : (k : ℕ) → k < device_count D → (device_of middle k).lost < 4294967295
  few k h =
      by_bool (d == k) (λ b. (d == k) ≡ b → (device_of middle k).lost < 4294967295)
      (λ own e. subst (λ (j : ℕ). (device_of middle j).lost < 4294967295) (eqb-true d k e)
      (subst (λ (dev : DeviceState). dev.lost < 4294967295) (sym own_device) (can_lose D here valid sound d inside)))
      (λ other e. subst (λ (dev : DeviceState). dev.lost < 4294967295) (sym (other_device k e)) (can_lose D here valid sound k h)) refl

  -- the bytes that the job is aimed at, before and in the parts
  aimed : (parts : Parts) → Tells D past parts → region_bytes_in parts region ≡ bytes_in here region
  aimed parts tells = at region lies
    where
      at : (r : Region) → LiesIn D r (place_of D job).offset (length_of job) → region_bytes_in parts r ≡ bytes_in here r
      at (Page p) there = tells.page p there.0
      at (Bar t) there = ap (λ (dev : Dev). dev.plain.bar) (tells.dev t there.0)

  unmoved : bytes_in middle region ≡ bytes_in here region
  unmoved = at region sound_one.not_own
    where
      at : (r : Region) → is_bar_of d r ≡ false → bytes_in middle r ≡ bytes_in here r
      at (Page p) away = refl
      at (Bar t) away = ap (λ (dev : DeviceState). dev.bar) (other_device t (other_number d t away))

  plain_is : (k : ℕ) → k < device_count D → device_of (machine_of D (Deliver d n ∷ past)) k
      ≡ (if d == k then record (taken (device_of here d) n) { buf = buffer_after D job (bytes_in here region) (device_of here d).buf }
      else (if is_bar_of k region then target_after_job D k job (device_of here d).buf (device_of middle k) else device_of middle k))
  plain_is k h =
      effect_device D middle d job k (within k h) (few k h) sound_one.not_own
      ∙ ap₂ (λ (dev : DeviceState) (bytes : List ℕ). if d == k then record dev { buf = buffer_after D job bytes dev.buf }
      else (if is_bar_of k region then target_after_job D k job dev.buf (device_of middle k) else device_of middle k)) own_device unmoved

  dirty_is : (k : ℕ) → dirty_after_job D k job (dev_of D k past) ≡ (dev_of D k (Deliver d n ∷ past)).dirty
  dirty_is k =
      dirty_more (is_resumed past) (is_begun past) (block_count (shape_at D k)) (λ b. is_unread k b past) (λ b. is_dirty D k b past)
      (λ b. writes_block D k b job) (λ before b. unread_before D past legal.2 before k b)

  dirty_kept : (k : ℕ) → is_bar_of k region ≡ false → (dev_of D k past).dirty ≡ (dev_of D k (Deliver d n ∷ past)).dirty
  dirty_kept k away =
      ap (λ (set : List ℕ). until_resumed past set)
      (below_same (block_count (shape_at D k)) _ _ (λ b h. as_before (not (is_unread k b past)) (writes_block D k b job) (is_dirty D k b past) (unwritten D k b job away)))

  -- the device that issued it
  own_is : (parts : Parts) → Tells D past parts → delivered_dev D d n (region_bytes_in parts region) (dev_of D d past) ≡ dev_of D d (Deliver d n ∷ past)
  own_is parts tells =
      three (dev_of D d past) _ _ _ _ _ _
      (ap (λ (bytes : List ℕ). record (taken (device_of here d) n) { buf = buffer_after D job bytes (device_of here d).buf }) (aimed parts tells)
      ∙ sym (plain_is d inside ∙ cond-true _ _ _ (eq-eqb d d refl)))
      (ap (λ (b : Bool). deliver_if b n (outstanding_of D d past)) (sym (eq-eqb d d refl)))
      (dirty_kept d sound_one.not_own)

  -- a device whose BARs it is aimed at
  target_is : (k : ℕ) → k < device_count D → (d == k) ≡ false → is_bar_of k region ≡ true
      → struck_dev D k job (device_of here d).buf (dev_of D k past) ≡ dev_of D k (Deliver d n ∷ past)
  target_is k h other hit =
      three (dev_of D k past) _ _ _ _ _ _
      (sym (plain_is k h ∙ cond-false _ _ _ other ∙ cond-true _ _ _ hit
      ∙ ap (target_after_job D k job (device_of here d).buf) (other_device k other)))
      (ap (λ (b : Bool). deliver_if b n (outstanding_of D k past)) (sym other))
      (dirty_is k)

  -- another device
  rest_is : (k : ℕ) → k < device_count D → (d == k) ≡ false → is_bar_of k region ≡ false → dev_of D k past ≡ dev_of D k (Deliver d n ∷ past)
  rest_is k h other away =
      three (dev_of D k past) _ _ _ _ _ _
      (sym (plain_is k h ∙ cond-false _ _ _ other ∙ cond-false _ _ _ away ∙ other_device k other))
      (ap (λ (b : Bool). deliver_if b n (outstanding_of D k past)) (sym other))
      (dirty_kept k away)

  pub deliver_dev : (parts : Parts) → Tells D past parts → (k : ℕ) → k < device_count D
      → devs_after_deliver D parts d n k ≡ dev_of D k (Deliver d n ∷ past)
  deliver_dev parts tells k h =
      ap (λ (own : Dev). if d == k then delivered_dev D d n (region_bytes_in parts (region_of_job D (job_in D d n own))) own else
      (if is_bar_of k (region_of_job D (job_in D d n own)) then struck_dev D k (job_in D d n own) own.plain.buf (parts.dev k) else parts.dev k))
      (tells.dev d inside)
      ∙ ap (λ (dev : Dev). if d == k then delivered_dev D d n (region_bytes_in parts region) (dev_of D d past) else
      (if is_bar_of k region then struck_dev D k job (device_of here d).buf dev else dev)) (tells.dev k h)
      ∙ by_bool (d == k)
      (λ b. (d == k) ≡ b → (if b then delivered_dev D d n (region_bytes_in parts region) (dev_of D d past) else
      (if is_bar_of k region then struck_dev D k job (device_of here d).buf (dev_of D k past) else dev_of D k past)) ≡ dev_of D k (Deliver d n ∷ past))
      (λ own e. own_is parts tells ∙ ap (λ (j : ℕ). dev_of D j (Deliver d n ∷ past)) (eqb-true d k e))
      (λ other e. by_bool (is_bar_of k region)
      (λ b. is_bar_of k region ≡ b
      → (if b then struck_dev D k job (device_of here d).buf (dev_of D k past) else dev_of D k past) ≡ dev_of D k (Deliver d n ∷ past))
      (λ hit f. target_is k h e f) (λ away f. rest_is k h e f) refl) refl

  pub deliver_page : (parts : Parts) → Tells D past parts → (p : ℕ) → p < D.pages
      → pages_after_deliver D parts d n p ≡ page_of D p (Deliver d n ∷ past)
  deliver_page parts tells p h =
      ap₂ (λ (own : Dev) (bytes : List ℕ). if is_page p (region_of_job D (job_in D d n own)) then page_after_job D (job_in D d n own) own.plain.buf bytes else bytes)
      (tells.dev d inside) (tells.page p h)
      ∙ ap (λ (dev : DeviceState). if is_page p region then page_after_job D job dev.buf (page_bytes here p) else page_bytes here p) (sym own_device)
      ∙ sym (effect_page D middle d job p (subst (λ (c : ℕ). p < c) (sym sound.shape.pages) h))
