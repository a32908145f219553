-- How much is sent for a legal list of a valid description: indexes fit their fields, and channels stay below their limit.
use Rattle.std.proofs.Common.{◌≡◌, ℕ, zero, suc, ◌+◌, ◌*◌, ◌<◌, ◌≤◌, ◌==◌, ◌&&◌, Bool, true, false, if◌then◌else◌, nat_lt, List, [], ◌∷◌, length, map, take, drop, refl, ap, sym, arith, ⊎_elim, ltb-true, eq-eqb, mul-le-mul_right, length-append}
use Rattle.std.specs.List.{AllByRecursion}
use Rattle.std.proofs.lemmas.Bool.{and_parts, cases_lt, ne_eqb}
use Rattle.std.proofs.lemmas.List.{length-map, length-take}
use Rattle.vfm_types.specs.declared.desc.Desc.{Desc}
use Rattle.vfm_types.specs.declared.entry.Entry.{Entry}
use Rattle.vfm_types.specs.declared.entry.Entry.TheVariants.{Copy as CopyOf, Block as BlockOf}
use Rattle.vfm_types.specs.Desc.{device_count, shape_at, block_count, bar_bytes}
use Rattle.vfm_types.specs.Machine.{DeviceState, Machine, device_of}
use Rattle.vfm_types.specs.Deliveries.{machine_of, page_bytes, block_bytes, joint_machine}
use Rattle.vfm_types.specs.Phases.{is_last_begun}
use Rattle.vfm_types.specs.Blocks.{is_no_pass_open}
use Rattle.vfm_types.specs.Valid.{IsValid}
use Rattle.vfm_types.proofs.BarSizes.{all_bars}
use Rattle.vfm_plain.specs.Legal.{IsLegal}
use Rattle.vfm_plain.specs.Shape.{IsSound}
use Rattle.vfm_laws.proofs.Rising.{by_bool}
use Rattle.vfm_laws.proofs.Enabled.{machine_sound}
use Rattle.vfm_copying.specs.Counts.{copy_count, reading_count}
use Rattle.vfm_copying.proofs.FewCopies.{most_copies, most_readings}
use Rattle.vfm_packet.specs.Packet.{seal_len, packet_bytes}
use Rattle.vfm_packet.proofs.Packets.{length-packet_bytes}
use Rattle.vfm_record.specs.Record.{Pending, Config}
use Rattle.vfm_record.specs.Packing.{end_of}
use Rattle.vfm_record.specs.Shape.{shape_digest}
use Rattle.vfm_record.proofs.Writable.{page_limit}
use Rattle.vfm_streams.specs.Sent.{Sent, sent, push, push_all, sent_in_passes, chunks, pairs_of_a_record, engine_record, with_device_closed, with_devices_closed, with_all_closed}
use Rattle.vfm_streams.specs.Packets.{share, ended_share}
use Rattle.vfm_streams.proofs.Chunks.{joined, joined_chunks}
use Rattle.vfm_streams.proofs.Numbered.{numbered_sent}
use Rattle.vfm_streams.proofs.Costs.{cost_of, short_seal, lane_cost, few_chunks, pieces_cost, pushed_length, indexes_below}
use Rattle.vfm_stream_laws.proofs.LoadedJoint.{joint_sound, some_pairs}
use Rattle.vfm_stream_laws.proofs.FitClosed.{digest_length}

-- ---- how many blocks are read of all devices

sum_below : ℕ → (ℕ → ℕ) → ℕ
sum_below zero f = 0
sum_below (suc n) f = sum_below n f + f n

sum_zero : (n : ℕ) → sum_below n (λ d. 0) ≡ 0
unfolding sum_below
sum_zero zero = refl
sum_zero (suc n) = let rest : sum_below n (λ d. 0) ≡ 0 = sum_zero n in omega arith

sum_same : (n : ℕ) (f g : ℕ → ℕ) → ((d : ℕ) → d < n → f d ≡ g d) → sum_below n f ≡ sum_below n g
unfolding sum_below
sum_same zero f g same = refl
sum_same (suc n) f g same =
    let rest : sum_below n f ≡ sum_below n g = sum_same n f g (λ d h. same d (omega arith)) in
    let here : f n ≡ g n = same n (omega arith) in omega arith

sum_bump : (n e : ℕ) (f : ℕ → ℕ) → e < n → sum_below n (λ d. f d + (if e == d then 1 else 0)) ≡ sum_below n f + 1
unfolding sum_below
sum_bump zero e f inside = absurd (omega arith)
sum_bump (suc n) e f inside =
    ⊎_elim
    (λ (low : e < n).
    add_before (sum_below n (λ d. f d + (if e == d then 1 else 0))) (sum_below n f) (f n) (e == n) (sum_bump n e f low)
    (ne_eqb e n (λ same. omega (arith, same))))
    (λ (high : n ≤ e).
    let same : e ≡ n = omega arith in
    add_last (sum_below n (λ d. f d + (if e == d then 1 else 0))) (sum_below n f) (f n) (e == n)
    (sum_same n (λ d. f d + (if e == d then 1 else 0)) f (λ d h. beside (f d) (e == d) (ne_eqb e d (λ equal. omega (arith, equal)))))
    (eq-eqb e n same)) (cases_lt e n)
  where
    beside : (k : ℕ) (b : Bool) → b ≡ false → k + (if b then 1 else 0) ≡ k
    beside k true is = absurd (cc)
    beside k false is = omega arith

    add_before : (more sum here : ℕ) (b : Bool) → more ≡ sum + 1 → b ≡ false → more + (here + (if b then 1 else 0)) ≡ sum + here + 1
    add_before more sum here true is not_here = absurd (cc)
    add_before more sum here false is not_here = omega arith

    add_last : (more sum here : ℕ) (b : Bool) → more ≡ sum → b ≡ true → more + (here + (if b then 1 else 0)) ≡ sum + here + 1
    add_last more sum here true is here_is = omega arith
    add_last more sum here false is here_is = absurd (cc)

sum_most : (n most : ℕ) (f : ℕ → ℕ) → ((d : ℕ) → d < n → f d ≤ most) → sum_below n f ≤ n * most
unfolding sum_below
sum_most zero most f each = omega arith
sum_most (suc n) most f each =
    let rest : sum_below n f ≤ n * most = sum_most n most f (λ d h. each d (omega arith)) in
    let here : f n ≤ most = each n (omega arith) in
    let next : suc n * most ≡ n * most + most = grind arith in omega arith

reads : List Entry → ℕ
reads [] = 0
reads (BlockOf d b ∷ past) = reads past + 1
reads (entry ∷ past) = reads past

reads_are : (D : Desc) (past : List Entry) → IsLegal D past → reads past ≡ sum_below (device_count D) (λ d. reading_count d past)
unfolding reads
reads_are D [] legal = sym (sum_zero (device_count D))
reads_are D (BlockOf e b ∷ past) legal =
    let before : reads past ≡ sum_below (device_count D) (λ d. reading_count d past) = reads_are D past legal.2 in
    let more : sum_below (device_count D) (λ d. reading_count d (BlockOf e b ∷ past)) ≡ sum_below (device_count D) (λ d. reading_count d past) + 1 =
    sum_bump (device_count D) e (λ d. reading_count d past) (ltb-true e (device_count D) (and_parts (nat_lt e (device_count D)) (nat_lt b (block_count (shape_at D e))) legal.0).0) in omega arith
reads_are D (entry ∷ past) legal = reads_are D past legal.2

times_within : (a b most_a most_b : ℕ) → a ≤ most_a → b ≤ most_b → a * b ≤ most_a * most_b
times_within a b most_a most_b few_a few_b =
    let first : a * b ≤ most_a * b = mul-le-mul_right b few_a in
    let second : b * most_a ≤ most_b * most_a = mul-le-mul_right most_a few_b in
    let turn : b * most_a ≡ most_a * b = grind arith in
    let turn_most : most_b * most_a ≡ most_a * most_b = grind arith in omega arith

few_blocks : (D : Desc) → IsValid D → (d : ℕ) → d < device_count D → block_count (shape_at D d) ≤ 1024
few_blocks D valid d inside = let few : bar_bytes (shape_at D d) ≤ 65536 = (all_bars (shape_at D d) (valid.in_range.devices d inside).bars).high in omega arith

few_reads : (D : Desc) → IsValid D → (past : List Entry) → IsLegal D past → reads past ≤ 73728
few_reads D valid past legal =
    let sum : reads past ≡ sum_below (device_count D) (λ d. reading_count d past) = reads_are D past legal in
    let rounds : D.rounds ≤ 8 = valid.in_range.rounds in
    let devices : device_count D ≤ 8 = valid.in_range.count_high in
    let most : sum_below (device_count D) (λ d. reading_count d past) ≤ device_count D * 9216 =
    sum_most (device_count D) 9216 (λ d. reading_count d past)
    (λ d inside. each (reading_count d past) (D.rounds + 1) (block_count (shape_at D d)) (most_readings D past d legal) (omega arith) (few_blocks D valid d inside)) in omega arith
  where
    each : (count rounds blocks : ℕ) → count ≤ rounds * blocks → rounds ≤ 9 → blocks ≤ 1024 → count ≤ 9216
    each count rounds blocks all few_rounds few_blocks_ = let bound : rounds * blocks ≤ 9 * 1024 = times_within rounds blocks 9 1024 few_rounds few_blocks_ in omega arith

all_copies : (D : Desc) → IsValid D → (past : List Entry) → IsLegal D past → copy_count past ≤ 9216
all_copies D valid past legal =
    let rounds : D.rounds ≤ 8 = valid.in_range.rounds in
    let pages : D.pages ≤ 1024 = valid.in_range.pages_high in
    let few : copy_count past ≤ (D.rounds + 1) * D.pages = most_copies D past legal in
    let bound : (D.rounds + 1) * D.pages ≤ 9 * 1024 = times_within (D.rounds + 1) D.pages 9 1024 (omega arith) pages in omega arith

-- ---- what passes send

passes_cost : (D : Desc) → IsValid D → (past : List Entry) → IsLegal D past → cost_of (sent_in_passes D past) ≤ 4173 * copy_count past + 141 * reads past
unfolding reads
passes_cost D valid [] legal = omega arith
passes_cost D valid (CopyOf p ∷ past) legal =
    let before : cost_of (sent_in_passes D past) ≤ 4173 * copy_count past + 141 * reads past = passes_cost D valid past legal.2 in
    let page : length (page_bytes (machine_of D past) p) ≡ D.page = (machine_sound D valid past legal.2).shape.page p (ltb-true p D.pages legal.0) in
    let size : D.page ≤ 4096 = page_limit D.page valid.in_range.page in omega arith
passes_cost D valid (BlockOf d b ∷ past) legal =
    let before : cost_of (sent_in_passes D past) ≤ 4173 * copy_count past + 141 * reads past = passes_cost D valid past legal.2 in
    let block : length (block_bytes (machine_of D past) d b) ≤ 64 = short_block (drop (64 * b) (device_of (machine_of D past) d).bar) in omega arith
  where
    short_block : (bytes : List ℕ) → length (take 64 bytes) ≤ 64
    short_block bytes = omega (arith, length-take 64 bytes)
passes_cost D valid (entry ∷ past) legal = passes_cost D valid past legal.2

passes_length : (D : Desc) (past : List Entry) → length (sent_in_passes D past) ≡ copy_count past + reads past
unfolding reads
passes_length D [] = omega arith
passes_length D (CopyOf p ∷ past) = let before : length (sent_in_passes D past) ≡ copy_count past + reads past = passes_length D past in omega arith
passes_length D (BlockOf d b ∷ past) = let before : length (sent_in_passes D past) ≡ copy_count past + reads past = passes_length D past in omega arith
passes_length D (entry ∷ past) = passes_length D past

-- passes send few records
pub few_in_passes : (D : Desc) → IsValid D → (past : List Entry) → IsLegal D past → length (sent_in_passes D past) ≤ 82944
few_in_passes D valid past legal =
    let copies : copy_count past ≤ 9216 = all_copies D valid past legal in
    let blocks : reads past ≤ 73728 = few_reads D valid past legal in
    let long : length (sent_in_passes D past) ≡ copy_count past + reads past = passes_length D past in omega arith

-- ---- what closes the streams

thirteen : (pending : List (ℕ × ℕ)) → length pending ≤ 50000 → length (chunks (length pending) pairs_of_a_record pending) ≤ 13
unfolding pairs_of_a_record
thirteen pending few =
    let count : length (chunks (length pending) 4096 pending) * 4096 ≤ length pending + 4096 = few_chunks (length pending) 4096 pending in omega arith

record IsSmall (device : DeviceState) : Type 0 where
  pending : length device.pending ≤ 50000
  buf : length device.buf ≡ 64

closed_cost : (D : Desc) (d : ℕ) (device : DeviceState) (all : List Sent) → IsSmall device
    → (cost_of (with_device_closed D d device all) ≤ cost_of all + 401233) × (length (with_device_closed D d device all) ≤ length all + 15)
closed_cost D d device all small =
    let pieces = chunks (length device.pending) pairs_of_a_record device.pending in
    let counts = push (suc d) (engine_record device) all in
    let few : length pieces ≤ 13 = thirteen device.pending small.pending in
    let bounded : length device.pending ≤ 50000 = small.pending in
    let whole : length (joined pieces) ≡ length device.pending = ap (length {A = ℕ × ℕ}) (joined_chunks (length device.pending) pairs_of_a_record device.pending some_pairs (omega arith)) in
    let cost : cost_of (push_all (suc d) (map Pending pieces) counts) ≡ cost_of all + (72 + (17 + length device.buf)) + 75 * length pieces + 8 * length (joined pieces) =
    pieces_cost (suc d) pieces counts in
    let buf : length device.buf ≡ 64 = small.buf in
    let digest : length (shape_digest D (suc d)) ≡ 32 = digest_length D (suc d) in
    let long : length (push_all (suc d) (map Pending pieces) counts) ≡ suc (length all) + length (map Pending pieces) = pushed_length (suc d) (map Pending pieces) counts in
    let same : length (map Pending pieces) ≡ length pieces = length-map pieces Pending in
    (omega arith, omega arith)

devices_cost : (D : Desc) (m : Machine) (n : ℕ) (all : List Sent) → ((d : ℕ) → d < n → IsSmall (device_of m d))
    → (cost_of (with_devices_closed D m n all) ≤ cost_of all + 401233 * n) × (length (with_devices_closed D m n all) ≤ length all + 15 * n)
devices_cost D m zero all small = (omega arith, omega arith)
devices_cost D m (suc d) all small =
    let before = devices_cost D m d all (λ k h. small k (omega arith)) in
    let here = closed_cost D d (device_of m d) (with_devices_closed D m d all) (small d (omega arith)) in
    let cost : cost_of (with_devices_closed D m d all) ≤ cost_of all + 401233 * d = before.0 in
    let long : length (with_devices_closed D m d all) ≤ length all + 15 * d = before.1 in
    let more : cost_of (with_device_closed D d (device_of m d) (with_devices_closed D m d all)) ≤ cost_of (with_devices_closed D m d all) + 401233 = here.0 in
    let longer : length (with_device_closed D d (device_of m d) (with_devices_closed D m d all)) ≤ length (with_devices_closed D m d all) + 15 = here.1 in
    (omega arith, omega arith)

small_devices : (D : Desc) (m : Machine) → IsValid D → IsSound D m → (d : ℕ) → d < device_count D → IsSmall (device_of m d)
small_devices D m valid sound d inside =
    let accepted : (device_of m d).accepted ≡ (device_of m d).done + length (device_of m d).pending = (sound.counts d inside).accepted in
    let within : (device_of m d).accepted ≤ (shape_at D d).budget = (sound.counts d inside).within in
    let few : (shape_at D d).budget ≤ 50000 = (valid.in_range.devices d inside).budget in
    record { pending = omega arith; buf = (sound.shape.device d inside).buf }

all_cost : (D : Desc) (m : Machine) (all : List Sent) → IsValid D → IsSound D m
    → (cost_of (with_all_closed D m all) ≤ cost_of all + 3209969) × (length (with_all_closed D m all) ≤ length all + 121)
all_cost D m all valid sound =
    let devices : device_count D ≤ 8 = valid.in_range.count_high in
    let digest : length (shape_digest D 0) ≡ 32 = digest_length D 0 in
    let rest = devices_cost D m (device_count D) (push 0 (Config (shape_digest D 0)) all) (small_devices D m valid sound) in
    let cost : cost_of (with_all_closed D m all) ≤ cost_of all + (72 + (1 + length (shape_digest D 0))) + 401233 * device_count D = rest.0 in
    let long : length (with_all_closed D m all) ≤ suc (length all) + 15 * device_count D = rest.1 in
    (omega arith, omega arith)

pub sent_cost : (D : Desc) → IsValid D → (past : List Entry) → IsLegal D past → (cost_of (sent D past) ≤ 52063985) × (length (sent D past) ≤ 83065)
sent_cost D valid past legal =
    let copies : copy_count past ≤ 9216 = all_copies D valid past legal in
    let blocks : reads past ≤ 73728 = few_reads D valid past legal in
    let cost : cost_of (sent_in_passes D past) ≤ 4173 * copy_count past + 141 * reads past = passes_cost D valid past legal in
    let long : length (sent_in_passes D past) ≡ copy_count past + reads past = passes_length D past in
    let closed = all_cost D (joint_machine D past) (sent_in_passes D past) valid (joint_sound D valid past legal) in
    let more : cost_of (with_all_closed D (joint_machine D past) (sent_in_passes D past)) ≤ cost_of (sent_in_passes D past) + 3209969 = closed.0 in
    let longer : length (with_all_closed D (joint_machine D past) (sent_in_passes D past)) ≤ length (sent_in_passes D past) + 121 = closed.1 in
    by_bool (is_last_begun past && is_no_pass_open D past)
    (λ b. (cost_of (if b then with_all_closed D (joint_machine D past) (sent_in_passes D past) else sent_in_passes D past) ≤ 52063985)
    × (length (if b then with_all_closed D (joint_machine D past) (sent_in_passes D past) else sent_in_passes D past) ≤ 83065))
    (λ ended. (omega arith, omega arith)) (λ open_. (omega arith, omega arith))

-- ---- as the laws have it

pub few_indexes : (D : Desc) (past : List Entry) → IsValid D → IsLegal D past → AllByRecursion (λ x. x.index < 83065) (sent D past)
few_indexes D past valid legal = indexes_below 83065 (sent D past) (numbered_sent D past) (sent_cost D valid past legal).1

pub short_share : (D : Desc) (past : List Entry) (k : ℕ) → IsValid D → IsLegal D past → length (ended_share D past k) < 53000000
short_share D past k valid legal =
    let cost : cost_of (sent D past) ≤ 52063985 = (sent_cost D valid past legal).0 in
    let lane_ : length (share D past k) ≤ cost_of (sent D past) = lane_cost D k (sent D past) in
    let both : length (ended_share D past k) ≡ length (share D past k) + length (packet_bytes (end_of D.version D.session)) =
    length-append (share D past k) (packet_bytes (end_of D.version D.session)) in
    let end_ = length-packet_bytes (end_of D.version D.session) refl in
    let seal : seal_len D.version ≤ 32 = short_seal D.version in omega arith
