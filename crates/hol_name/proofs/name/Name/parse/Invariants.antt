use Rattle.std.proofs.Common.{◌≡◌, ◌++◌, map, length}
use Rattle.std.specs.List.{AllByRecursion}
use Rattle.std.specs.Option.{option_map}
use Rattle.hol_spec.specs.Mangling.{AreBytes}
use Rattle.hol_spec.specs.NameOf.{name_of, name_from}
use Rattle.hol_name.proofs.name.Name.parse.Given as goal

abbrev pub invariant-loop-component : goal.invariant-loop-component
invariant-loop-component l = record {
  read : name_of l.line ≡ option_map (λ name. map (λ component. component.items) l.components.items ++ name) (name_from l.rest);
  bytes : AllByRecursion AreBytes (map (λ component. component.items) l.components.items);
}

abbrev pub decreases-loop-component : goal.decreases-loop-component
decreases-loop-component l = length l.rest
