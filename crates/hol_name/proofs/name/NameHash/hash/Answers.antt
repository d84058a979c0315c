use Rattle.std.proofs.Common.{ap, ◌∙◌}
use Rattle.std.specs.List.{fold}
use Rattle.hol_name.proofs.Values.{slice-map}
use Rattle.hol_name.proofs.name.NameHash.hash.Goals as goal

pub returns : goal.returns
returns g c =
    rw (← c.components.ensures.are) (c.hash.ensures
    ∙ ap (λ writes. fold g.H.Hasher.write c.args.state.now writes) (slice-map (λ component. component.items) c.components.result.now))
