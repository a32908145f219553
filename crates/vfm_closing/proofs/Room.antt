-- Room for the indexes of the records that are to come.
use Rattle.std.proofs.Common.{◌≡◌, ℕ, suc, ◌+◌, ◌<◌, ◌≤◌, ◌==◌, Bool, true, false, if◌then◌else◌, Option, List, [], ◌∷◌, length, slice_index_or, arith}
use Rattle.std.specs.Prelude.{Result, Ok, Err, OnOk, is_ok}
use Rattle.std.proofs.lemmas.Bool.{false≢true}
use Rattle.vfm_types.specs.declared.desc.Desc.{Desc}
use Rattle.vfm_record.specs.Record.{Record}
use Rattle.vfm_streams.specs.Sent.{Sent, push, push_all, records_of}
use Rattle.vfm_outlets.specs.declared.outlets.Outlets.{Outlets}
use Rattle.vfm_outlets.specs.Carrying.{Carries}
use Rattle.vfm_closing.specs.Closing.{HasRoom}

-- there are as many records of a stream as there are in all, at most
pub some_of : (s : ℕ) (all : List Sent) → length (records_of s all) ≤ length all
some_of s [] = omega arith
some_of s (x ∷ all) = by (x.stream == s) (some_of s all)
  where
    by : (same : Bool) → length (records_of s all) ≤ length all
        → length (if same then x.says ∷ records_of s all else records_of s all) ≤ suc (length all)
    by true before = omega (arith, before)
    by false before = omega (arith, before)

-- an index for a record of a stream, where few are carried
pub index_of : {L : Type 0} (sent : L → Option (List ℕ)) (D : Desc) (starts : List (Option (List ℕ))) (all : List Sent) (outlets : Outlets L) (s : ℕ)
    → Carries sent D starts all outlets → length all + 1 ≤ 4294967295 → s ≤ 8 → slice_index_or outlets.counts s 0 < 4294967295
index_of sent D starts all outlets s carried few low =
    omega (arith, carried.counts s low, some_of s all, few)

pub index_there : {L : Type 0} (sent : L → Option (List ℕ)) (outlets : Outlets L) (s : ℕ) → HasRoom sent 1 outlets → s ≤ 8
    → slice_index_or outlets.counts s 0 < 4294967295
index_there sent outlets s room low = index_of sent room.desc room.starts room.all outlets s room.carries room.few low

-- room for fewer
pub room_for : {L : Type 0} (sent : L → Option (List ℕ)) (outlets : Outlets L) (more fewer : ℕ) → HasRoom sent more outlets → fewer ≤ more
    → HasRoom sent fewer outlets
room_for sent outlets more fewer room less =
    record { desc = room.desc; starts = room.starts; all = room.all; carries = room.carries; few = omega (arith, room.few, less) }

-- how long a list is with more records
pub pushed_length : (s : ℕ) (records : List Record) (all : List Sent) → length (push_all s records all) ≡ length all + length records
pushed_length s [] all = omega arith
pushed_length s (r ∷ records) all = omega (arith, pushed_length s records (push s r all))

-- what holds at Ok
ok_of : {T E : Type 0} (r : Result T E) (P : Type 0) → OnOk r P → is_ok r ≡ true → P
ok_of (Ok x) P p fine = p
ok_of (Err e) P p fine = absurd (false≢true fine)

-- one record of the room is used
pub room_used : {L T E : Type 0} (sent : L → Option (List ℕ)) (old new : Outlets L) (stream n : ℕ) (r : Record) (result : Result T E)
    → (room : HasRoom sent (n + 1) old) → OnOk result (Carries sent room.desc room.starts (push stream r room.all) new) → is_ok result ≡ true
    → HasRoom sent n new
room_used sent old new stream n r result room put fine =
    record {
      desc = room.desc;
      starts = room.starts;
      all = push stream r room.all;
      carries = ok_of result (Carries sent room.desc room.starts (push stream r room.all) new) put fine;
      few = omega (arith, room.few);
    }
