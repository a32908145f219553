-- All channels were read and loaded beside one another, and judged by what came.
use Rattle.std.proofs.Common.{◌≡◌, ◌∙◌, sym, subst, List, length, map}
use Rattle.vfm_mesh.specs.declared.funnel.Funnel.{Funnel}
use Rattle.vfm_mesh.specs.Meshes.{AreMesh}
use Rattle.vfm_intake.specs.declared.stream.StreamIntake.{StreamIntake}
use Rattle.vfm_intake.specs.Intakes.{AreStreamsOf}
use Rattle.vfm_stream_work.specs.Workers.{funnel_of}
use Rattle.vfm_dest.specs.ChannelWorkers.{end_in}
use Rattle.vfm_dest.specs.Drained.{HasLoaded}
use Rattle.vfm_dest.specs.Heards.{told, out_words, channels_of, AreRead}
use Rattle.vfm_dest.proofs.Loading.{each-made, still-made, has-loaded}
use Rattle.vfm_dest.proofs.Telling.{staged-by}
use Rattle.vfm_dest.proofs.Together.{fresh, are-read, as-many, were-read, as-sent, mesh-left}
use Rattle.vfm_dest.proofs.whole.stage_ready.Goals as goal

pub work_all-requires-clause-fresh : goal.work_all-requires-clause-fresh
work_all-requires-clause-fresh g c κs within =
    let D = c.args.desc.now in
    let e = c.expected_of.result in
    let links = c.args.links.items in
    let fans = c.args.ready.fans.items in
    let workers = c.hire_channels-channels.result.items in
    let streams = c.args.ready.streams.items in
    let hired = c.requires.ready.hired in
    fresh D e links fans workers streams c.expected_of.ensures c.requires.channels c.requires.ready.fans hired c.requires.ready.mesh
    c.hire_channels-channels.ensures.links c.hire_channels-channels.ensures.fans c.hire_channels-channels.ensures.expects c.requires.ready.given

pub work_all-requires-clause-made : goal.work_all-requires-clause-made
work_all-requires-clause-made g c κs within =
    each-made c.args.desc.now c.args.ready.streams.items c.requires.ready.hired

pub judge-answer-requires-clause-intakes : goal.judge-answer-requires-clause-intakes
judge-answer-requires-clause-intakes g c =
    let D = c.args.desc.now in
    subst (AreStreamsOf D) (sym c.dismiss_streams-taken.ensures.intakes)
    (still-made D c.args.ready.streams.items c.requires.ready.hired c.work_all.new.streams.items c.work_all.ensures.streams c.work_all.ensures.worked)

pub judge-answer-requires-clause-loaded : goal.judge-answer-requires-clause-loaded
judge-answer-requires-clause-loaded g c sound =
    let D = c.args.desc.now in
    let now = c.work_all.new.streams.items in
    subst (λ (l : List Funnel). HasLoaded D l c.dismiss_streams-taken.result.intakes.items) (sym c.dismiss_streams-taken.ensures.funnels)
    (subst (λ (l : List StreamIntake). HasLoaded D (map funnel_of now) l) (sym c.dismiss_streams-taken.ensures.intakes)
    (has-loaded D c.args.ready.streams.items c.requires.ready.hired now c.work_all.ensures.streams c.work_all.ensures.worked (c.dismiss_streams-taken.ensures.short sound)))

pub judge-answer-requires-clause-mesh : goal.judge-answer-requires-clause-mesh
judge-answer-requires-clause-mesh g c =
    let D = c.args.desc.now in
    let e = c.expected_of.result in
    let links = c.args.links.items in
    let fans = c.args.ready.fans.items in
    let workers = c.hire_channels-channels.result.items in
    let streams = c.args.ready.streams.items in
    let hired = c.requires.ready.hired in
    let T = told g.L.Link.received g.L.Link.ended g.L.Link.failed_in in
    let W = out_words g.L.Link.sent g.L.Link.finished g.L.Link.failed_out in
    let now = c.work_all.new.channels.items in
    let ends_are : c.as_slice.result.now ≡ map end_in now = c.as_slice.ensures.value ∙ c.dismiss_channels-links.ensures.ends in
    subst (λ (l : List Funnel). AreMesh c.dismiss_channels-links.result.fans.items l) (sym c.dismiss_streams-taken.ensures.funnels)
    (mesh-left D e links fans workers streams c.expected_of.ensures c.requires.channels c.requires.ready.fans hired c.requires.ready.mesh
    c.hire_channels-channels.ensures.links c.hire_channels-channels.ensures.fans c.hire_channels-channels.ensures.expects
    T W now c.work_all.ensures.channels c.work_all.ensures.heard c.dismiss_channels-links.result.links.items c.dismiss_channels-links.result.fans.items
    c.as_slice.result.now c.dismiss_channels-links.ensures.links c.dismiss_channels-links.ensures.fans ends_are
    c.work_all.new.streams.items c.work_all.ensures.streams c.work_all.ensures.worked)

pub judge-answer-requires-clause-read : goal.judge-answer-requires-clause-read
judge-answer-requires-clause-read g c =
    let D = c.args.desc.now in
    let e = c.expected_of.result in
    let links = c.args.links.items in
    let fans = c.args.ready.fans.items in
    let workers = c.hire_channels-channels.result.items in
    let streams = c.args.ready.streams.items in
    let hired = c.requires.ready.hired in
    let T = told g.L.Link.received g.L.Link.ended g.L.Link.failed_in in
    let W = out_words g.L.Link.sent g.L.Link.finished g.L.Link.failed_out in
    let now = c.work_all.new.channels.items in
    let ends_are : c.as_slice.result.now ≡ map end_in now = c.as_slice.ensures.value ∙ c.dismiss_channels-links.ensures.ends in
    were-read D e links fans workers streams c.expected_of.ensures c.requires.channels c.requires.ready.fans hired c.requires.ready.mesh
    c.hire_channels-channels.ensures.links c.hire_channels-channels.ensures.fans c.hire_channels-channels.ensures.expects
    T W now c.work_all.ensures.channels c.work_all.ensures.heard c.dismiss_channels-links.result.links.items c.dismiss_channels-links.result.fans.items
    c.as_slice.result.now c.dismiss_channels-links.ensures.links c.dismiss_channels-links.ensures.fans ends_are

pub returns-clause-staged : goal.returns-clause-staged
returns-clause-staged g c =
    let D = c.args.desc.now in
    let e = c.expected_of.result in
    let links = c.args.links.items in
    let fans = c.args.ready.fans.items in
    let workers = c.hire_channels-channels.result.items in
    let streams = c.args.ready.streams.items in
    let hired = c.requires.ready.hired in
    let T = told g.L.Link.received g.L.Link.ended g.L.Link.failed_in in
    let W = out_words g.L.Link.sent g.L.Link.finished g.L.Link.failed_out in
    let now = c.work_all.new.channels.items in
    let ends_are : c.as_slice.result.now ≡ map end_in now = c.as_slice.ensures.value ∙ c.dismiss_channels-links.ensures.ends in
    let fans_now = c.dismiss_channels-links.result.fans.items in
    let links_now = c.dismiss_channels-links.result.links.items in
    let many : length (map T links) ≡ length fans_now =
    as-many D e links fans workers streams c.expected_of.ensures c.requires.channels c.requires.ready.fans hired c.requires.ready.mesh
    c.hire_channels-channels.ensures.links c.hire_channels-channels.ensures.fans c.hire_channels-channels.ensures.expects
    T W now c.work_all.ensures.channels c.work_all.ensures.heard c.dismiss_channels-links.result.links.items c.dismiss_channels-links.result.fans.items
    c.as_slice.result.now c.dismiss_channels-links.ensures.links c.dismiss_channels-links.ensures.fans ends_are in
    let are : AreRead e (map T links) (channels_of (map T links_now) fans_now c.as_slice.result.now) =
    are-read D e links fans workers streams c.expected_of.ensures c.requires.channels c.requires.ready.fans hired c.requires.ready.mesh
    c.hire_channels-channels.ensures.links c.hire_channels-channels.ensures.fans c.hire_channels-channels.ensures.expects
    T W now c.work_all.ensures.channels c.work_all.ensures.heard c.dismiss_channels-links.result.links.items c.dismiss_channels-links.result.fans.items
    c.as_slice.result.now c.dismiss_channels-links.ensures.links c.dismiss_channels-links.ensures.fans ends_are in
    staged-by D e (map T links) (map T links_now) fans_now c.as_slice.result.now c.expected_of.ensures are c.judge-answer.result
    (c.judge-answer.ensures e (map T links) (map T links_now) c.expected_of.ensures many are)

pub returns-clause-out : goal.returns-clause-out
returns-clause-out g c =
    let D = c.args.desc.now in
    let e = c.expected_of.result in
    let links = c.args.links.items in
    let fans = c.args.ready.fans.items in
    let workers = c.hire_channels-channels.result.items in
    let streams = c.args.ready.streams.items in
    let hired = c.requires.ready.hired in
    let T = told g.L.Link.received g.L.Link.ended g.L.Link.failed_in in
    let W = out_words g.L.Link.sent g.L.Link.finished g.L.Link.failed_out in
    let now = c.work_all.new.channels.items in
    let ends_are : c.as_slice.result.now ≡ map end_in now = c.as_slice.ensures.value ∙ c.dismiss_channels-links.ensures.ends in
    as-sent D e links fans workers streams c.expected_of.ensures c.requires.channels c.requires.ready.fans hired c.requires.ready.mesh
    c.hire_channels-channels.ensures.links c.hire_channels-channels.ensures.fans c.hire_channels-channels.ensures.expects
    T W now c.work_all.ensures.channels c.work_all.ensures.heard c.dismiss_channels-links.result.links.items c.dismiss_channels-links.result.fans.items
    c.as_slice.result.now c.dismiss_channels-links.ensures.links c.dismiss_channels-links.ensures.fans ends_are
