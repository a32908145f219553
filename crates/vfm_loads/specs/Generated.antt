-- The generated load: one description for each number N. Eight devices, each with 32 pages of its own to which it
-- alone adds, and with one peer, whose doorbell it rings and into whose BAR it writes one block.
use Rattle.std.specs.Prelude.{ℕ, ◌+◌, ◌*◌, ◌%◌, ◌==◌, if◌then◌else◌, nat_lt, List, [], ◌∷◌, map, replicate}
use Rattle.std.specs.List.{range_with_len}
use Rattle.vfm_types.specs.declared.job.Job.{Job}
use Rattle.vfm_types.specs.declared.job.Job.TheVariants.{Write, Add}
use Rattle.vfm_types.specs.declared.desc.DevShape.{DevShape}
use Rattle.vfm_types.specs.declared.desc.Desc.{Desc}
use Rattle.vfm_types.specs.Region.{bar_base, device_stride}

-- the one device whose doorbell device d rings and into whose BAR it writes: the next one, and after the last the
-- first
abbrev pub peer_of : ℕ → ℕ
peer_of d = (d + 1) % 8

-- the one device whose peer device d is
abbrev pub peer_before : ℕ → ℕ
peer_before d = (d + 7) % 8

-- the first of the 32 pages that device d alone writes
abbrev pub own_pages : ℕ → ℕ
own_pages d = 32 * d

-- the address of the BAR of device d's peer
abbrev pub peer_bar : ℕ → ℕ
peer_bar d = bar_base + device_stride * peer_of d

-- jobs 0 to 31 of device d, its counts: one in each of its pages
abbrev pub count_job : ℕ → ℕ → ℕ → Job
count_job N d j = Add ((own_pages d + j) * 4096 + 8 * ((N + j) % 512)) (N + d + j + 1)

-- job 32, its bell: rings the doorbell of its peer for job 33
abbrev pub bell_job : ℕ → Job
bell_job d = Write (peer_bar d) (33 ∷ 0 ∷ 0 ∷ 0 ∷ 0 ∷ 0 ∷ 0 ∷ 0 ∷ [])

-- job 33, which its doorbell asks for: counts one more in the first of its pages
abbrev pub rung_job : ℕ → Job
rung_job d = Add (own_pages d * 4096) 1

-- job 34, its block: 64 bytes of one kind in the BAR of its peer, after the doorbell's block
abbrev pub block_job : ℕ → ℕ → Job
block_job N d = Write (peer_bar d + (64 + 64 * (N % 32))) (replicate 64 (d + 1))

-- job j of device d
unfoldable pub load_job : ℕ → ℕ → ℕ → Job
load_job N d j =
    if nat_lt j 32 then count_job N d j
    else (if j == 32 then bell_job d else (if j == 33 then rung_job d else block_job N d))

-- the job that a device's request n is for at the start: 32 rounds of the 32 counts, the bell and the block
abbrev pub queued_job : ℕ → ℕ
queued_job n = if n % 34 == 33 then 34 else n % 34

-- what every device is asked for at the start
unfoldable pub load_queue : List ℕ
load_queue = map queued_job (range_with_len 0 1088)

-- device d: `d0` to `d7`
unfoldable pub load_shape : ℕ → ℕ → DevShape
load_shape N d =
    record {
      name = 100 ∷ (48 + d) ∷ [];
      flags = 7;
      bars = 4096 ∷ [];
      window = 4;
      tells = d % 2 == 0;
      budget = 2000;
      fails = 0;
      jobs = map (load_job N d) (range_with_len 0 35);
      queue = load_queue;
    }

-- the description that is made from N
unfoldable pub generated : ℕ → Desc
generated N =
    record {
      session = N;
      page = 4096;
      pages = 256;
      channels = 8;
      version = 1;
      begin = 16;
      rounds = 3;
      threshold = 8;
      devices = map (load_shape N) (range_with_len 0 8);
    }
