use Rattle.std.proofs.Common.{◌<◌, length, arith, ap, sym, ◌∙◌}
use Rattle.std.proofs.lemmas.Bool.Decides.{Decides-eqb}
use Rattle.hol_type.specs.declared.table.TypeId.{TypeId}
use Rattle.hol_type.specs.Tables.{tree_at}
use Rattle.hol_type.specs.TableLaws.{tree_at-same}
use Rattle.hol_defs.proofs.TypeShapes.{select_parts, select_made}
use Rattle.hol_defs.proofs.primitive.is_select_type.Goals as goal

pub returns-then-is_bool : goal.returns-then-is_bool
returns-then-is_bool c =
    let f = c.in-Some-function_parts.element in
    let g = c.in-Some.chosen in
    let same = Decides-eqb f.0 g.0 in
    let known : f.0 < length c.args.types.now = omega (arith, c.in-Some-function_parts.ensures.domain, c.in-Some.ensures.domain, c.requires) in
    let known_too : g.0 < length c.args.types.now = omega (arith, c.in-Some.ensures.codomain, c.requires) in (
      λ h. select_made _ _ _ _ _ c.in-Some.ensures.parts c.in-Some-function_parts.ensures.parts (c.is_bool.ensures.is.0 c.if-is_bool.true)
          (ap (tree_at c.args.types.now) (same.0 (sym c.eq.ensures ∙ h))),
      λ k. c.eq.ensures ∙ same.1
          (ap (λ (id : TypeId). id.0)
          (tree_at-same c.is_bool.ensures.distinct f g known known_too
          (select_parts _ _ _ _ _ c.in-Some.ensures.parts c.in-Some-function_parts.ensures.parts k).1)),
    )
