use Rattle.std.proofs.Common.{rules, sym, subst, []}
use Rattle.vfm_mesh.specs.Meshes.{AreMesh}
use Rattle.vfm_intake.specs.Intakes.{AreStreamsOf, StandAfter}
use Rattle.vfm_dest.proofs.Loading.{are-hired}
use Rattle.vfm_dest.proofs.ready.make_ready.Goals as goal

pub returns : goal.returns
returns g c =
    let D = c.args.desc.now in
    let funnels = c.in_ok-fans.funnels.items in
    let workers = c.hire_streams-streams.result.items in
    record {
      hired =
          are-hired D workers funnels c.into_streams-intakes.result.items c.hire_streams-streams.ensures.funnels c.hire_streams-streams.ensures.intakes
          (search rules)
          (subst (AreStreamsOf D) (sym c.into_streams-intakes.ensures) c.in_ok-of.ensures.made.each)
          (subst (StandAfter D (λ s. [])) (sym c.into_streams-intakes.ensures) c.in_ok-of.ensures.nothing)
          c.in_ok-fans.ensures.taken c.hire_streams-streams.ensures.short;
      mesh = subst (AreMesh c.in_ok-fans.fans.items) (sym c.hire_streams-streams.ensures.funnels) c.in_ok-fans.ensures.mesh;
      fans = c.in_ok-fans.ensures.channels;
      given = c.in_ok-fans.ensures.given;
      no_channels = search rules;
      channels_room = search rules;
      heard = search rules;
      left = search rules;
    }
