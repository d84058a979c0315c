use Rattle.std.proofs.Common.{◌≡◌, ◌≤◌, length}
use Rattle.std.specs.Option.{option_map}
use Rattle.hol_spec.specs.NameOf.{name_from}
use Rattle.hol_spec.specs.Mangling.{AreBytes}
use Rattle.hol_name.specs.Components.{onto}
use Rattle.hol_name.proofs.name.read_component.Given as goal

abbrev pub invariant-loop-rest : goal.invariant-loop-rest
invariant-loop-rest l = record {
  read : name_from l.text ≡ option_map (onto l.bytes.items) (name_from l.rest);
  bytes : AreBytes l.bytes.items;
  rest : length l.rest ≤ length l.text;
}

abbrev pub decreases-loop-rest : goal.decreases-loop-rest
decreases-loop-rest l = length l.rest
