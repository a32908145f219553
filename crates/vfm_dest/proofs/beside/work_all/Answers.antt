-- The workers come back, each in its place.
use Rattle.std.proofs.Common.{rules, ◌≡◌, ◌∙◌, sym, ap, subst, ℕ, ◌<◌, List, length, slice_index_or, arith}
use Rattle.vfm_stream_work.specs.declared.worker.StreamWorker.{StreamWorker}
use Rattle.vfm_stream_work.specs.Workers.{HasWorked}
use Rattle.vfm_dest.specs.declared.channel_worker.ChannelWorker.{ChannelWorker}
use Rattle.vfm_dest.specs.Heards.{told, out_words}
use Rattle.vfm_dest.specs.ChannelWorkers.{HasHeard}
use Rattle.vfm_dest.proofs.Indexed.{whole-again}
use Rattle.vfm_dest.proofs.beside.work_all.Goals as goal

pub returns-clause-heard : goal.returns-clause-heard
returns-clause-heard g c =
    let T = told g.L.Link.received g.L.Link.ended g.L.Link.failed_in in
    let W = out_words g.L.Link.sent g.L.Link.finished g.L.Link.failed_out in
    let workers = c.args.channels.now.items in
    let now = c.work_slices.new.channels in
    let count : length workers ≡ c.args.channels.now.len = search (rules, arith) in
    let same : length now ≡ c.args.channels.now.len =
    c.work_slices.auto.channels ∙ ap (λ (l : List (ChannelWorker g.row.L.Denot)). length l) c.as_mut_slice.ensures.value ∙ count in
    subst
    (λ (l : List (ChannelWorker g.row.L.Denot)). (k : ℕ) (d : ChannelWorker g.row.L.Denot) → k < length workers
    → HasHeard T W (slice_index_or workers k d) (slice_index_or l k d))
    (sym (whole-again c.args.channels.now.len now workers same count))
    (subst
    (λ (l : List (ChannelWorker g.row.L.Denot)). (k : ℕ) (d : ChannelWorker g.row.L.Denot) → k < length l
    → HasHeard T W (slice_index_or l k d) (slice_index_or now k d)) c.as_mut_slice.ensures.value c.work_slices.ensures.heard)

pub returns-clause-worked : goal.returns-clause-worked
returns-clause-worked g c =
    let workers = c.args.streams.now.items in
    let now = c.work_slices.new.streams in
    let count : length workers ≡ c.args.streams.now.len = search (rules, arith) in
    let same : length now ≡ c.args.streams.now.len =
    c.work_slices.auto.streams ∙ ap (λ (l : List StreamWorker). length l) c.as_mut_slice-2.ensures.value ∙ count in
    subst
    (λ (l : List StreamWorker). (k : ℕ) (d : StreamWorker) → k < length workers
    → HasWorked c.args.desc.now (slice_index_or workers k d) (slice_index_or l k d))
    (sym (whole-again c.args.streams.now.len now workers same count))
    (subst
    (λ (l : List StreamWorker). (k : ℕ) (d : StreamWorker) → k < length l
    → HasWorked c.args.desc.now (slice_index_or l k d) (slice_index_or now k d)) c.as_mut_slice-2.ensures.value c.work_slices.ensures.worked)
